-- Which of the listed loops are nests, and how many accesses a short one has.
use Rattle.std.proofs.Common.{Bool, false, is_some, refl, ◌≡◌, ◌<◌, ◌≤◌, ◌⊎◌, inl, inr, ℕ, suc, List, [], ◌∷◌, Option, None, Some, length, ap, sym, ◌∙◌, subst, arith}
use Rattle.std.specs.Prelude.{slice_index_or}
use Rattle.elf_image.specs.declared.image.Elf.{Elf}
use Rattle.loop_data.specs.declared.graph.Graph.{Graph}
use Rattle.loop_data.specs.declared.shape.LoopShape.{LoopShape}
use Rattle.loop_data.specs.Graphs.{IsGraph}
use Rattle.loop_data.specs.declared.shape.Level.{Level}
use Rattle.loop_data.specs.Accesses.{Motion, motion_at, counted_with, access_count}
use Rattle.loop_data.specs.LoopCode.{LoopCode}
use Rattle.loop_data.specs.LoopWords.{AreNest}
use Rattle.loop_data.specs.Nests.{Nest}
use Rattle.loop_data.specs.Results.{IsNestOf}
use Rattle.loop_data.specs.Loops.{IsLoop, IsListedEdge, AreLoops}
use Rattle.loop_shapes.specs.Laws.{NestLaw}

one_nest : (elf : Elf) (G : Graph) (s : LoopShape) → NestLaw → IsGraph elf G → IsLoop G s ⊎ IsListedEdge G s
    → s.early ≡ None → AreNest G s.levels
one_nest elf G s law g (inl loop) e = (law elf G s g loop e).nest
one_nest elf G s law g (inr listed) e = let l = listed.early in absurd (cc)

-- the loop at a place of the list, where its shape decides no verdict
pub nest_at : (elf : Elf) (G : Graph) (shapes seen : List LoopShape) (i : ℕ) (s : LoopShape)
    → NestLaw → IsGraph elf G → AreLoops G shapes → seen ≡ shapes → i < length seen → s ≡ slice_index_or shapes i s
    → ((x : LoopShape) → x ≡ slice_index_or seen i x → x.early ≡ None) → AreNest G s.levels
nest_at elf G shapes seen i s law g are same b at free =
    let now = subst (λ (xs : List LoopShape). i < length xs) same b in
    let early = subst (λ (xs : List LoopShape). (x : LoopShape) → x ≡ slice_index_or xs i x → x.early ≡ None)
    same free in
    one_nest elf G s law g (subst (λ (x : LoopShape). IsLoop G x ⊎ IsListedEdge G x) (sym at) (are.each i s now))
    (early s at)

-- at most as many words of a list are accesses as it has
count_short : (B : LoopCode) (us : List ℕ) → access_count B us ≤ length us
count_short B [] = omega arith
count_short B (u ∷ us) = go (motion_at B u) (count_short B us)
  where
    go : (m : Option Motion) → access_count B us ≤ length us → counted_with m (access_count B us) ≤ suc (length us)
    go None le = omega arith
    go (Some m) le = omega arith

-- so few are in a nest whose root is short
pub few_accesses : (G : Graph) (levels seen : List Level) (l : Level) (xs : List ℕ) (B : LoopCode) → seen ≡ levels
    → l ≡ slice_index_or seen 0 l → xs ≡ l.body → length xs ≤ 32 → (N : Nest) → IsNestOf G levels N
    → access_count B N.root.body ≤ 32
few_accesses G levels seen l xs B same at body short N is =
    let root : l ≡ N.root =
    at ∙ ap (λ (ls : List Level). slice_index_or ls 0 l) (same ∙ is.are) ∙ ap (λ (M : Nest). M.root) (sym is.is) in
    let le = subst (λ (ys : List ℕ). length ys ≤ 32) (body ∙ ap (λ (m : Level). m.body) root) short in
    let c = count_short B N.root.body in
    omega arith

-- where there is no fault
none_if : {A : Type 0} (o : Option A) → is_some o ≡ false → o ≡ None
none_if None e = refl
none_if (Some x) e = absurd (cc)

pub no_fault : {A : Type 0} (o : Option A) (b : Bool) → b ≡ is_some o → b ≡ false → o ≡ None
no_fault o b e f = none_if o (sym e ∙ f)
