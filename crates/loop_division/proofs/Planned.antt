-- The words of the added code of a loop, from its plan and its check.
use Rattle.std.proofs.Common.{◌≡◌, ℕ, inl, inr, ◌≤◌, ◌^◌, List, ◌∷◌, length, All, Option, Some, None, refl, ap, sym, subst, ◌∙◌, arith}
use Rattle.std.specs.Prelude.{IsSome}
use Rattle.elf_image.specs.declared.image.Elf.{Elf}
use Rattle.elf_image.specs.Layout.{IsLoadable}
use Rattle.loop_data.specs.declared.graph.Graph.{Graph}
use Rattle.loop_data.specs.declared.plans.Plan.{Plan}
use Rattle.loop_data.specs.declared.shape.Level.{Level}
use Rattle.loop_data.specs.declared.shape.LoopShape.{LoopShape}
use Rattle.loop_data.specs.declared.verdict.Cell.{Cell}
use Rattle.loop_data.specs.declared.verdict.Verdict.TheVariants.{Parallel}
use Rattle.loop_data.specs.Graphs.{IsGraph}
use Rattle.loop_data.specs.LoopWords.{AreNest}
use Rattle.loop_data.specs.Lookups.{AreNumbered, roles_by}
use Rattle.loop_shapes.specs.Laws.{NestLaw}
use Rattle.stack_slots.specs.CellLaws.{NumberedLaw}
use Rattle.alias_checks.specs.declared.lists.Check.{Check}
use Rattle.stub_laws.specs.Code.{readings, somes}
use Rattle.check_code.specs.CheckCode.{check_code}
use Rattle.check_code.specs.Checkable.{HasRoom}
use Rattle.check_code.specs.Laws.{HasOffset}
use Rattle.turn_copies.specs.StubWords.{IsStub}
use Rattle.loop_choice.specs.declared.judged.Judged.{Judged}
use Rattle.loop_choice.specs.Judging.{IsOneOfLoops, IsPlanOf, IsPlanFor, IsJudged}
use Rattle.loop_choice.specs.OneVerdict.{OneVerdictLaw}
use Rattle.checkable_plans.specs.Judged.{JudgedRoomLaw}
use Rattle.loop_division.specs.Adding.{IsParallelLoop}
use Rattle.loop_division.specs.Stubs.{AreShort, AreWordsOf, words_with_cells}
use Rattle.loop_division.proofs.Lengths.{stub_few}

-- a loop that is Parallel has a plan
pub has_plan : OneVerdictLaw → (elf : Elf) (G : Graph) (s : LoopShape) (j : Judged) → IsGraph elf G → IsParallelLoop G s
    → IsJudged G elf s j → IsSome j.plan
has_plan law elf G s j is one h = by j.plan h.plan
  where
    parallel : j.verdict ≡ Parallel
    parallel = law elf G s j.verdict Parallel is one.listed h.verdict one.parallel

    by : (o : Option (Plan × Check)) → IsPlanFor G elf s j.verdict o → IsSome o
    by (Some both) p = refl
    by None p = absurd (p parallel)

module _ (nests : NestLaw) (elf : Elf) (G : Graph) (s : LoopShape) (plan kept : Plan) (check : Check) (same : kept ≡ plan)
    (load : IsLoadable elf) (is : IsGraph elf G) (one : IsParallelLoop G s) (p : IsPlanOf G elf s plan check) where
  nest_here : AreNest G s.levels
  nest_here = by one.listed
    where
      by : IsOneOfLoops G s → AreNest G s.levels
      by (inl loop) = (nests elf G s is loop p.early).nest
      by (inr edge) = let e = edge.early in let f = p.early in absurd (cc)

  pub kept_nest : AreNest G kept.shape.levels
  kept_nest = subst (λ (q : Plan). AreNest G q.shape.levels) (sym same)
      (subst (λ (t : LoopShape). AreNest G t.levels) (sym p.shape) nest_here)

  pub kept_cells : NumberedLaw → AreNumbered kept.cells
  kept_cells law = subst (λ (q : Plan). AreNumbered q.cells) (sym same)
      (law G s.levels plan.cells nest_here p.found.confirmed.solved.sound.cells p.found.confirmed.solved.sound.no_fault)

  room_here : JudgedRoomLaw → HasRoom check
  room_here rooms = rooms elf G s plan check load nest_here p

  pub kept_room : JudgedRoomLaw → (other : Check) → other ≡ check → HasRoom other
  kept_room rooms other e = subst HasRoom (sym e) (room_here rooms)

  pub kept_offsets : JudgedRoomLaw → All (λ (c : Cell). HasOffset c.base c.offset) kept.cells.list.items
  kept_offsets rooms = subst (λ (cs : List Cell). All (λ (c : Cell). HasOffset c.base c.offset) cs)
      (p.cells.list ∙ ap (λ (q : Plan). q.cells.list.items) (sym same)) (room_here rooms).offsets

  -- the words that stand for the check, and those of the stub, as they were lent
  pub kept_words : (other : Check) (tests lent words seen : List ℕ) (place : ℕ) → other ≡ check → lent ≡ tests → seen ≡ words
      → readings tests ≡ somes (check_code other) → AreShort seen
      → ((root : Level) (inner : List Level) → kept.shape.levels ≡ root ∷ inner
      → IsStub root (words_with_cells G kept)
      (roles_by (words_with_cells G kept) kept.shape.levels kept.classes root) place lent words)
      → AreWordsOf elf G s place words
  kept_words other tests lent words seen place e f g tell short stub = record {
    plan = kept;
    check = check;
    planned = subst (λ (q : Plan). IsPlanOf G elf s q check) (sym same) p;
    are = record {
      root = kept_nest.root;
      inner = kept_nest.inner;
      levels = kept_nest.are;
      tests = lent;
      tell = ap readings f ∙ tell ∙ ap (λ (c : Check). somes (check_code c)) e;
      short = subst AreShort g short;
      stub = stub kept_nest.root kept_nest.inner kept_nest.are;
    };
  }

  -- a stub has few words
  pub kept_few : NumberedLaw → (lent words : List ℕ) (place : ℕ) → length lent ≤ 200000
      → ((root : Level) (inner : List Level) → kept.shape.levels ≡ root ∷ inner
      → IsStub root (words_with_cells G kept)
      (roles_by (words_with_cells G kept) kept.shape.levels kept.classes root) place lent words)
      → length words ≤ 2 ^ 18
  kept_few law lent words place few stub =
      let n = stub_few kept_nest.root (words_with_cells G kept)
      (roles_by (words_with_cells G kept) kept.shape.levels kept.classes kept_nest.root) place lent words kept_nest.short
      (kept_cells law).few (stub kept_nest.root kept_nest.inner kept_nest.are) in
      omega arith
