-- Checks that hold where a program starts.
use Rattle.std.proofs.Common.{◌≡◌, ℕ, zero, suc, ◌<◌, ◌≤◌, ◌⊎◌, inl, inr, List, [], ◌∷◌, length, take, slice_index, Option, None, Some, refl, ap, sym, ◌∙◌, subst, arith}
use Rattle.std.proofs.lemmas.List.{take_all}
use Rattle.std.specs.List.{All}
use Rattle.elf_image.specs.declared.image.Elf.{Elf}
use Rattle.elf_image.specs.declared.image.Segment.{Segment}
use Rattle.elf_image.specs.Layout.{IsLoadable}
use Rattle.rv64_decode.specs.Area.{Area}
use Rattle.rv64_decode.specs.Range.{AreWords, AreBytes}
use Rattle.guest_memory.specs.Areas.{areas_of}
use Rattle.serial_run.specs.Sound.{HaveBytes}
use Rattle.loop_data.specs.declared.graph.Graph.{Graph}
use Rattle.loop_data.specs.declared.plans.Plan.{Plan}
use Rattle.loop_data.specs.declared.shape.LoopShape.{LoopShape}
use Rattle.loop_data.specs.Graphs.{IsGraph}
use Rattle.loop_data.specs.Loops.{IsLoop, IsListedEdge}
use Rattle.loop_shapes.specs.Laws.{NestLaw}
use Rattle.loop_data.specs.LoopWords.{AreNest}
use Rattle.loop_data.specs.Turns.{HasAreas}
use Rattle.alias_checks.specs.declared.lists.Check.{Check}
use Rattle.alias_checks.specs.declared.lists.Turns.{Turns}
use Rattle.alias_checks.specs.Answers.{answer}
use Rattle.loop_choice.specs.Judging.{IsPlanOf}
use Rattle.loop_choice.specs.Independence.{IndependenceLaw}
use Rattle.check_tests.specs.Held.{arrived, AreDivided}

-- each of these numbers is a byte
index_below : (xs : List ℕ) → All (λ b. b < 256) xs → (i : ℕ) → slice_index xs i < 256
index_below [] all i = omega arith
index_below (x ∷ xs) all zero = all 0 0 (omega arith)
index_below (x ∷ xs) all (suc i) = index_below xs (λ k d h. all (suc k) d (omega arith)) i

have_bytes : (ss : List Segment) → All (λ (s : Segment). All (λ b. b < 256) s.bytes) ss → HaveBytes ss
have_bytes [] all = tt
have_bytes (s ∷ ss) all = (index_below s.bytes (all 0 s (omega arith)), have_bytes ss (λ k d h. all (suc k) d (omega arith)))

pub taken_bytes : (ss : List Segment) (i : ℕ) → length ss ≤ i → All (λ (s : Segment). All (λ b. b < 256) s.bytes) (take i ss) → HaveBytes ss
taken_bytes ss i h all = have_bytes ss (subst (All (λ (s : Segment). All (λ b. b < 256) s.bytes)) (take_all i ss h) all)

same_areas : (m : List Area) → HasAreas m m
same_areas [] = tt
same_areas (a ∷ m) = (record { low = refl; length = refl; readable = refl; writable = refl; executable = refl; code = λ e. refl }, same_areas m)

pub divided : IndependenceLaw → (elf : Elf) (G : Graph) (shape : LoopShape) (plan : Plan) (check : Check) (regs : List ℕ) (t : Turns) → IsLoadable elf → IsGraph elf G → AreNest G shape.levels → IsPlanOf G elf shape plan check
    → AreWords regs → AreBytes (areas_of elf) → answer check regs (areas_of elf) ≡ Some t → AreDivided elf G shape regs t.root
divided law elf G shape plan check regs t load graph nest is words bytes holds =
    record {
      nest = nest;
      plan = plan;
      check = check;
      judged = is;
      independent = law elf G shape plan check nest (arrived elf nest.root regs) t
          (record {
            load = load;
            graph = graph;
            judged = is;
            state = record { at = record { at = refl; areas = same_areas (areas_of elf) }; registers = words; bytes = bytes };
            answer = holds;
          });
    }

pub nest_of : NestLaw → (elf : Elf) (G : Graph) (s : LoopShape) → IsGraph elf G → IsLoop G s ⊎ IsListedEdge G s → s.early ≡ None → AreNest G s.levels
nest_of law elf G s g (inl loop) e = (law elf G s g loop e).nest
nest_of law elf G s g (inr listed) e = let l = listed.early in absurd (cc)

-- the answer of a call of a check that is the plan's, in a memory that is the start's
pub held_answer : (a b : Check) (regs : List ℕ) (m n : List Area) (o : Option Turns) (t : Turns) → o ≡ answer a regs m → a ≡ b → m ≡ n → o ≡ Some t → answer b regs n ≡ Some t
held_answer a b regs m n o t e f g h = sym (e ∙ ap (λ x. answer x regs m) f ∙ ap (λ y. answer b regs y) g) ∙ h
