-- What the cells of a loop decide, and how many other accesses there are where they decide nothing.
use Rattle.std.proofs.Common.{◌≡◌, ℕ, ◌==◌, ◌≤◌, ◌⊎◌, inl, inr, Bool, true, false, not, ◌&&◌, if◌then◌else◌, List, [], ◌∷◌, length, map, filter, Option, Some, None, is_some, refl, ap, sym, ◌∙◌, subst, arith, cond}
use Rattle.std.specs.Prelude.{slice_get, find}
use Rattle.std.specs.Option.{option_or}
use Rattle.loop_data.specs.declared.cells.Cells.{Cells}
use Rattle.loop_data.specs.declared.graph.Graph.{Graph}
use Rattle.loop_data.specs.declared.shape.Level.{Level}
use Rattle.loop_data.specs.declared.verdict.Verdict.{Verdict}
use Rattle.loop_data.specs.declared.verdict.Verdict.TheVariants.{Limit, MixedCell}
use Rattle.loop_data.specs.Accesses.{Motion, motion_of, unless_used, motion_at, counted_with, access_count}
use Rattle.loop_data.specs.Facts.{Fact}
use Rattle.loop_data.specs.Locations.{no_cells}
use Rattle.loop_data.specs.LoopCode.{LoopCode, code_of}
use Rattle.loop_data.specs.LoopWords.{AreNest}
use Rattle.loop_data.specs.Lookups.{cell_map, use_of}
use Rattle.loop_data.specs.Nests.{Nest, nest_of}
use Rattle.loop_data.proofs.FactsExist.{facts_exist}
use Rattle.loop_data.proofs.Tests.{is_eq}
use Rattle.stack_slots.specs.declared.words.BodyWord.{BodyWord}
use Rattle.stack_slots.specs.CellRules.{uses_cell, first_uses, is_far_auipc, is_other_access, may_owe, is_mixed, limit_at, limit_of, mixed_at, fault_of}
use Rattle.stack_slots.specs.CellLaws.{FaultLaw, FewAccessesLaw}
use Rattle.stack_slots.specs.Results.{HasCells}
use Rattle.stack_slots.specs.Touches.{word_at, words_of}
use Rattle.stack_slots.proofs.FoundCells.{no_more, no_limit}
use Rattle.stack_slots.proofs.Limits.{first_none, later_none}
use Rattle.stack_slots.proofs.Members.{Member}
use Rattle.stack_slots.proofs.Points.{nest_is, this_nest}

-- ---- what is decided

abbrev IsFault : Verdict → Type 0
IsFault v = (at : ℕ) × ((v ≡ Limit at) ⊎ (v ≡ MixedCell at))

either : (o p : Option Verdict) (v : Verdict) → option_or o p ≡ Some v → (o ≡ Some v) ⊎ (p ≡ Some v)
either (Some u) p v e = inl e
either None p v e = inr e

a_limit : (o : Option BodyWord) (v : Verdict) → limit_at o ≡ Some v → IsFault v
a_limit (Some w) v e = (w.at, inl (cc))
a_limit None v e = absurd (cc)

a_mixed : (o : Option BodyWord) (v : Verdict) → mixed_at o ≡ Some v → IsFault v
a_mixed (Some w) v e = (w.at, inr (cc))
a_mixed None v e = absurd (cc)

or_fault : (o p : Option Verdict) (v : Verdict) → (o ≡ Some v → IsFault v) → (p ≡ Some v → IsFault v) → option_or o p ≡ Some v → IsFault v
or_fault o p v first later e = go (either o p v e)
  where
    go : (o ≡ Some v) ⊎ (p ≡ Some v) → IsFault v
    go (inl a) = first a
    go (inr b) = later b

is_limit : (words : List BodyWord) (v : Verdict) → limit_of words ≡ Some v → IsFault v
is_limit words v =
    or_fault (limit_at (find is_far_auipc words)) _ v (a_limit _ v)
    (or_fault (limit_at (slice_get (first_uses words) 16)) _ v (a_limit _ v)
    (or_fault (limit_at (slice_get (filter is_other_access words) 32)) _ v (a_limit _ v) (a_limit (slice_get (filter may_owe words) 32) v)))

is_fault : (words : List BodyWord) (v : Verdict) → fault_of words ≡ Some v → IsFault v
is_fault words v = or_fault (limit_of words) _ v (is_limit words v) (a_mixed (find (is_mixed words) words) v)

pub fault_law : FaultLaw
fault_law G ls c v nest cells e =
    let N = nest_of G nest.root nest.inner in
    let p = facts_exist N (code_of G no_cells) nest.root nest.nest (inl refl) in
    let has = cells N p.0 (this_nest G ls nest) p.1 in
    is_fault (words_of (code_of G no_cells) nest.root.body p.0) v (sym has.fault ∙ e)

-- ---- how many accesses

looked_up : (us : List (ℕ × ℕ)) (u : ℕ) → Member (map (λ (x : ℕ × ℕ). x.0) us) u → use_of us u ≡ None → ⊥
looked_up [] u m e = m
looked_up (x ∷ xs) u m e = go (x.0 == u) refl m e (looked_up xs u)
  where
    go : (b : Bool) → (x.0 == u) ≡ b → (x.0 ≡ u) ⊎ Member (map (λ (y : ℕ × ℕ). y.0) xs) u → (if b then Some x.1 else use_of xs u) ≡ None
        → (Member (map (λ (y : ℕ × ℕ). y.0) xs) u → use_of xs u ≡ None → ⊥) → ⊥
    go true q i f rest = absurd (cc)
    go false q (inl s) f rest = let t = is_eq x.0 u s in absurd (cc)
    go false q (inr i) f rest = rest i f

module _ (test : BodyWord → Bool) (word : ℕ → BodyWord) where
  abbrev kept : List ℕ → List BodyWord
  kept us = filter test (map word us)

  abbrev ats : List BodyWord → List ℕ
  ats ws = map (λ (w : BodyWord). w.at) ws

  kept_at : (us : List ℕ) (u : ℕ) → Member us u → test (word u) ≡ true → Member (ats (kept us)) (word u).at
  kept_at [] u m t = absurd m
  kept_at (v ∷ vs) u m t = go (test (word v)) refl m (kept_at vs u)
    where
      go : (b : Bool) → test (word v) ≡ b → (v ≡ u) ⊎ Member vs u → (Member vs u → test (word u) ≡ true → Member (ats (kept vs)) (word u).at)
          → Member (ats (cond b (word v ∷ kept vs) (kept vs))) (word u).at
      go true q (inl e) rest = inl (ap (λ (x : ℕ). (word x).at) e)
      go true q (inr i) rest = inr (rest i t)
      go false q (inl e) rest = let s = ap (λ (x : ℕ). test (word x)) e in absurd (cc)
      go false q (inr i) rest = rest i t

  count_up : (B : LoopCode) (us : List ℕ) → ((u : ℕ) (m : Motion) → Member us u → motion_at B u ≡ Some m → test (word u) ≡ true)
      → access_count B us ≤ length (kept us)
  count_up B [] f = omega arith
  count_up B (u ∷ us) f = go (motion_at B u) refl (test (word u)) refl (count_up B us (λ v m i. f v m (inr i)))
    where
      go : (o : Option Motion) → motion_at B u ≡ o → (b : Bool) → test (word u) ≡ b → access_count B us ≤ length (kept us)
          → counted_with o (access_count B us) ≤ length (cond b (word u ∷ kept us) (kept us))
      go None q true e l = omega arith
      go None q false e l = l
      go (Some m) q true e l = omega arith
      go (Some m) q false e l = let t = f u m (inl refl) q in absurd (cc)

-- an access that is of no cell
other_access : (o : Option ℕ) (i : Option Motion) (m : Motion) → unless_used o i ≡ Some m → (o ≡ None) × (is_some i ≡ true)
other_access None (Some n) m e = (refl, refl)
other_access None None m e = absurd (cc)
other_access (Some k) i m e = absurd (cc)

none_uses : (b : Bool) → (b ≡ true → ⊥) → not b ≡ true
none_uses true f = absurd (f refl)
none_uses false f = refl

both_true : (a b : Bool) → a ≡ true → b ≡ true → (a && b) ≡ true
both_true true b e f = f
both_true false b e f = absurd (cc)

module _ (G : Graph) (ls : List Level) (c : Cells) (nest : AreNest G ls) (sound : c.fault ≡ None) (V : ℕ → ℕ → Option Fact)
    (has : HasCells (words_of (code_of G no_cells) nest.root.body V) c) where
  abbrev D : LoopCode
  D = code_of G no_cells

  abbrev B : LoopCode
  B = code_of G (cell_map c)

  abbrev body : List ℕ
  body = nest.root.body

  abbrev word : ℕ → BodyWord
  word u = word_at D body (V u) u

  other : (u : ℕ) (m : Motion) → Member body u → motion_at B u ≡ Some m → is_other_access (word u) ≡ true
  other u m i e =
      let parts = other_access (use_of c.uses.items u) (motion_of (B.instr u)) m e in
      both_true (is_some (motion_of (D.instr u))) (not (uses_cell (word u))) parts.1
      (none_uses (uses_cell (word u)) (λ t.
      looked_up c.uses.items u
      (subst (λ xs. Member xs u) (sym (has.uses sound).words_are) (kept_at uses_cell word body u i t)) parts.0))

  few : access_count B body ≤ 32
  few =
      let words = words_of D body V in
      let none = sym has.fault ∙ sound in
      let third = later_none (limit_at (slice_get (first_uses words) 16)) _ (later_none (limit_at (find is_far_auipc words)) _ (first_none (limit_of words) _ none)) in
      let most = no_more (filter is_other_access words) 32 (no_limit (slice_get (filter is_other_access words) 32) (first_none _ _ third)) in
      let up = count_up is_other_access word B body other in
      omega arith

pub few_law : FewAccessesLaw
few_law G ls c N nest cells sound is =
    let M = nest_of G nest.root nest.inner in
    let p = facts_exist M (code_of G no_cells) nest.root nest.nest (inl refl) in
    let le = few G ls c nest sound p.0 (cells M p.0 (this_nest G ls nest) p.1) in
    subst (λ (K : Nest). access_count (code_of G (cell_map c)) K.root.body ≤ 32) (sym (nest_is G ls nest N is)) le
