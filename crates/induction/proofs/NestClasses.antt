-- The classes of the loops of a nest.
use Rattle.std.proofs.Common.{◌≡◌, ◌≢◌, ℕ, zero, suc, ◌+◌, ◌-◌, ◌<◌, ◌≤◌, ◌⊎◌, inl, inr, ℤ, Bool, true, false, List, [], length, get_or, set, replicate, Option, Some, None, refl, ap, sym, ◌∙◌, subst, arith}
use Rattle.std.specs.List.{All}
use Rattle.std.specs.List.Sorted.{IsStrictlyIncreasing}
use Rattle.std.proofs.lemmas.Bool.{cases_eq, cases_lt}
use Rattle.std.proofs.lemmas.List.{get_or-set_same, get_or-set_other, length-set, get_or_default}
use Rattle.linear_forms.specs.Forms.{is_small}
use Rattle.linear_forms.specs.declared.location.Loc.{Loc}
use Rattle.loop_data.specs.declared.classes.Class.{Class}
use Rattle.loop_data.specs.declared.classes.Class.TheVariants.{Induction, Private}
use Rattle.loop_data.specs.declared.classes.Classes.{Classes}
use Rattle.loop_data.specs.declared.graph.Graph.{Graph}
use Rattle.loop_data.specs.declared.shape.Level.{Level}
use Rattle.loop_data.specs.Nests.{Nest, In, nest_of}
use Rattle.loop_data.specs.Locations.{CellMap}
use Rattle.loop_data.specs.LoopWords.{AreNest}
use Rattle.loop_data.specs.LoopCode.{LoopCode, code_of, any_writes, writes, IsUnwritten, IsWritten}
use Rattle.loop_data.specs.Lookups.{role_by, AreFew}
use Rattle.loop_data.specs.Classes.{IsInduction, HasRole, HasInnerRole}
use Rattle.loop_data.specs.Facts.{Fact}
use Rattle.loop_data.specs.FactPass.{AreFacts}
use Rattle.loop_data.proofs.Tests.{true_or_false, yes_no}
use Rattle.loop_data.proofs.FactUnique.{some_writes_it, none_writes_it}
use Rattle.loop_data.proofs.FlowEdges.{listed_in, levels_ordered}
use Rattle.loop_data.proofs.FactsExist.{facts_exist}
use Rattle.induction.specs.declared.words.Words.{Words}
use Rattle.induction.specs.Words.{AreLoopWords, IsLoopOf}
use Rattle.induction.specs.Rows.{HasClass, HasInnerClass, IsMoving, TellsRow, TellsInnerRow, IsLeastAt}
use Rattle.induction.specs.Results.{IsRootRow, IsInnerRow, AreInnerRows, IsLeastCarried}
use Rattle.loop_data.specs.Results.{IsNestOf, AreSmall, class_in, class_at, AreClasses}
use Rattle.induction.proofs.PlaceMarks.{levels_of, is_nest}
use Rattle.induction.proofs.WordLists.{rises_at}

-- the loop at a place among the levels, with what is known at its words
pub record IsAt (G : Graph) (C : CellMap) (ls : List Level) (i : ℕ) (l : Level) (w : Words) : Type 0 where
  pub nest : AreNest G ls
  pub within : i < length ls
  pub here : l ≡ get_or ls i l
  pub words : (m : Level) → get_or ls i m ≡ m → AreLoopWords G C ls m w
  pub few : AreFew C

loop_of : (G : Graph) (C : CellMap) (ls : List Level) (i : ℕ) (l : Level) (w : Words) → IsAt G C ls i l w → (N : Nest) (V : ℕ → ℕ → Option Fact) → IsNestOf G ls N → AreFacts N (code_of G C) l V → IsLoopOf G C ls N l V w
loop_of G C ls i l w at N V of facts =
    let among = subst (λ (xs : List Level). In xs l) (levels_of G ls N of) (listed_in ls i l at.within (sym at.here)) in
    record { nest = at.nest; of = of; among = among; words = at.words l (sym at.here); few = at.few; facts = facts }

root_is : (G : Graph) (ls : List Level) (l : Level) (N : Nest) → l ≡ get_or ls 0 l → IsNestOf G ls N → l ≡ N.root
root_is G ls l N e of = e ∙ ap (λ (xs : List Level). get_or xs 0 l) (levels_of G ls N of)

pub root_row_is : (G : Graph) (C : CellMap) (ls : List Level) (l : Level) (w : Words) (row : List (Option Class)) → IsAt G C ls 0 l w → TellsRow ls l w row → IsRootRow G ls C row
root_row_is G C ls l w row at tells =
    (λ N V r of all. let root = root_is G ls l N at.here of in
    tells r G C N V (loop_of G C ls 0 l w at N V of (subst (λ (x : Level). AreFacts N (code_of G C) x V) (sym root) all)) root)

pub least_is : (G : Graph) (C : CellMap) (ls : List Level) (l : Level) (w : Words) (loc : Loc) → IsAt G C ls 0 l w → IsLeastAt ls l w loc → IsLeastCarried G ls C loc
least_is G C ls l w loc at least =
    (λ N V of all. let root = root_is G ls l N at.here of in
    least G C N V (loop_of G C ls 0 l w at N V of (subst (λ (x : Level). AreFacts N (code_of G C) x V) (sym root) all)) root)

pub inner_row_is : (G : Graph) (C : CellMap) (ls : List Level) (i : ℕ) (l : Level) (w : Words) (row : List (Option Class)) → IsAt G C ls i l w → TellsInnerRow ls l w row → IsInnerRow G ls C i row
inner_row_is G C ls i l w row at tells = record { moving = λ r. (tells r).0; each = each }
  where
    each : (N : Nest) (V : ℕ → ℕ → Option Fact) (m : Level) (r : ℕ) → IsNestOf G ls N → AreFacts N (code_of G C) m V → get_or ls i m ≡ m → HasInnerClass N (code_of G C) V m r (class_in row r)
    each N V m r of all e =
        let q = at.here ∙ get_or_default ls i l m at.within ∙ e in
        subst (λ (x : Level). HasInnerClass N (code_of G C) V x r (class_in row r)) q ((tells r).1 G C N V (loop_of G C ls i l w at N V of (subst (λ (x : Level). AreFacts N (code_of G C) x V) (sym q) all)))

-- no rows yet, and one row more
no_class : (n r : ℕ) → class_in (replicate n None) r ≡ None
no_class zero r = refl
no_class (suc n) zero = refl
no_class (suc n) (suc r) = no_class n r

no_row : (n i r : ℕ) → class_at (replicate n (replicate 48 None)) i r ≡ None
no_row zero i r = refl
no_row (suc n) zero r = no_class 48 r
no_row (suc n) (suc i) r = no_row n i r

pub rows_none : (G : Graph) (ls : List Level) (C : CellMap) (rows : List (List (Option Class))) → rows ≡ replicate 3 (replicate 48 None) → AreInnerRows G ls C 1 rows
rows_none G ls C rows e = record {
  count = ap length e;
  each = λ i l. absurd (omega arith);
  beyond = λ i r l. ap (λ (xs : List (List (Option Class))). class_at xs i r) e ∙ no_row 3 i r;
}

pub rows_more : (G : Graph) (ls : List Level) (C : CellMap) (rows : List (List (Option Class))) (n : ℕ) (row : List (Option Class)) → n < 3 → AreInnerRows G ls C (n + 1) rows → IsInnerRow G ls C (n + 1) row → AreInnerRows G ls C (n + 1 + 1) (set rows n row)
rows_more G ls C rows n row lt a b = record { count = length-set rows n row ∙ a.count; each = each; beyond = beyond }
  where
    each : (i : ℕ) → i + 1 < n + 1 + 1 → IsInnerRow G ls C (i + 1) (get_or (set rows n row) i [])
    each i l = by (cases_eq i n)
      where
        by : (i ≡ n) ⊎ (i ≢ n) → IsInnerRow G ls C (i + 1) (get_or (set rows n row) i [])
        by (inl e) = let c = a.count in subst (λ k. IsInnerRow G ls C (k + 1) (get_or (set rows n row) k [])) (sym e) (subst (IsInnerRow G ls C (n + 1)) (sym (get_or-set_same rows n row [] (omega arith))) b)
        by (inr ne) = subst (IsInnerRow G ls C (i + 1)) (sym (get_or-set_other rows n i row [] ne)) (a.each i (omega arith))

    beyond : (i r : ℕ) → n + 1 + 1 ≤ i + 1 → class_at (set rows n row) i r ≡ None
    beyond i r l = ap (λ (xs : List (Option Class)). class_in xs r) (get_or-set_other rows n i row [] (λ e. absurd (omega arith))) ∙ a.beyond i r (omega arith)

-- the role that a class tells
any_written : (B : LoopCode) (l : Level) (r : ℕ) → any_writes B l.body r ≡ true → IsWritten B l r
any_written B l r t = let w = some_writes_it B l.body r t in record { word = w.0; inside = w.1; does = w.2 }

none_written : (B : LoopCode) (l : Level) (r : ℕ) → IsUnwritten B l r → any_writes B l.body r ≡ false
none_written B l r none = by (true_or_false (any_writes B l.body r))
  where
    by : (any_writes B l.body r ≡ true) ⊎ (any_writes B l.body r ≡ false) → any_writes B l.body r ≡ false
    by (inl t) = let w = some_writes_it B l.body r t in absurd (yes_no (writes B w.0 r) w.2 (none w.0 w.1))
    by (inr f) = f

role_is : (N : Nest) (B : LoopCode) (V : ℕ → ℕ → Option Fact) (r : ℕ) (c : Option Class) (b : Bool) → any_writes B N.root.body r ≡ b → HasClass N B V r c → HasRole N B V r (role_by b c)
role_is N B V r None true e h = absurd (yes_no (any_writes B N.root.body r) e (none_written B N.root r h))
role_is N B V r None false e h = h
role_is N B V r (Some (Induction z)) true e h = h
role_is N B V r (Some (Induction z)) false e h = h
role_is N B V r (Some Private) true e h = h
role_is N B V r (Some Private) false e h = h

inner_role_is : (N : Nest) (B : LoopCode) (V : ℕ → ℕ → Option Fact) (l : Level) (r : ℕ) (c : Option Class) (b : Bool) → any_writes B l.body r ≡ b → HasInnerClass N B V l r c → HasInnerRole N B V l r (role_by b c)
inner_role_is N B V l r None true e h = (any_written B l r e, h)
inner_role_is N B V l r None false e h = λ u i. none_writes_it B l.body r u e i
inner_role_is N B V l r (Some (Induction z)) true e h = h
inner_role_is N B V l r (Some (Induction z)) false e h = h
inner_role_is N B V l r (Some Private) b e h = absurd h

not_private : (c : Option Class) → IsMoving c → c ≢ Some Private
not_private None m e = absurd (cc)
not_private (Some (Induction z)) m e = absurd (cc)
not_private (Some Private) m e = m

none_private : (c : Option Class) → c ≡ None → c ≢ Some Private
none_private c e f = absurd (cc)

is_kept : (N : Nest) (B : LoopCode) (V : ℕ → ℕ → Option Fact) (r : ℕ) (c : Option Class) → c ≡ None → HasClass N B V r c → IsUnwritten B N.root r
is_kept N B V r c e h = subst (HasClass N B V r) e h

small_step : (N : Nest) (B : LoopCode) (V : ℕ → ℕ → Option Fact) (r : ℕ) (c : Option Class) (step : ℤ) → c ≡ Some (Induction step) → HasClass N B V r c → is_small step ≡ true
small_step N B V r c step e h = let k : IsInduction N B V N.root r step = subst (HasClass N B V r) e h in k.small

small_inner : (N : Nest) (B : LoopCode) (V : ℕ → ℕ → Option Fact) (l : Level) (r : ℕ) (c : Option Class) (step : ℤ) → c ≡ Some (Induction step) → HasInnerClass N B V l r c → is_small step ≡ true
small_inner N B V l r c step e h = let k : IsInduction N B V l r step = subst (HasInnerClass N B V l r) e h in k.small

pub classes_are : (G : Graph) (ls : List Level) (C : CellMap) (c : Classes) → AreNest G ls → IsRootRow G ls C c.root → AreInnerRows G ls C (length ls) c.inner → AreClasses G ls C c
classes_are G ls C c nest root rows = record {
  root = λ N V r of all. role_is N (code_of G C) V r (class_in c.root r) (any_writes (code_of G C) N.root.body r) refl (root N V r of all);
  unwritten = λ N r of e. let facts = root_facts N of in is_kept N (code_of G C) facts.0 r (class_in c.root r) e (root N facts.0 r of facts.1);
  inner = inner;
  moving = moving;
  beyond = beyond;
  steps = record { root = root_small; inner = inner_small };
}
  where
    long : (N : Nest) → IsNestOf G ls N → length ls ≡ suc (length N.inner)
    long N of = ap (λ (xs : List Level). length xs) (levels_of G ls N of)

    inner : (N : Nest) (V : ℕ → ℕ → Option Fact) (l : Level) (i r : ℕ) → IsNestOf G ls N → AreFacts N (code_of G C) l V → i < length N.inner → get_or N.inner i l ≡ l → HasInnerRole N (code_of G C) V l r (role_by (any_writes (code_of G C) l.body r) (class_at c.inner i r))
    inner N V l i r of all lt e =
        let n = long N of in
        let s : i + 1 ≡ suc i = omega arith in
        let here : get_or ls (i + 1) l ≡ l = ap (λ k. get_or ls k l) s ∙ ap (λ (xs : List Level). get_or xs (suc i) l) (levels_of G ls N of) ∙ e in
        inner_role_is N (code_of G C) V l r (class_at c.inner i r) (any_writes (code_of G C) l.body r) refl ((rows.each i (omega arith)).each N V l r of all here)

    moving : (i r : ℕ) → class_at c.inner i r ≢ Some Private
    moving i r = by (cases_lt (i + 1) (length ls))
      where
        by : (i + 1 < length ls) ⊎ (length ls ≤ i + 1) → class_at c.inner i r ≢ Some Private
        by (inl l) = not_private (class_at c.inner i r) ((rows.each i l).moving r)
        by (inr l) = none_private (class_at c.inner i r) (rows.beyond i r l)

    beyond : (N : Nest) (i r : ℕ) → IsNestOf G ls N → length N.inner ≤ i → class_at c.inner i r ≡ None
    beyond N i r of l = let n = long N of in rows.beyond i r (omega arith)

    here : Nest
    here = nest_of G nest.root nest.inner

    is_here : IsNestOf G ls here
    is_here = record { root = nest.root; inner = nest.inner; are = nest.are; is = refl }

    root_facts : (N : Nest) → IsNestOf G ls N → (V : ℕ → ℕ → Option Fact) × AreFacts N (code_of G C) N.root V
    root_facts N of = facts_exist N (code_of G C) N.root (is_nest G ls N nest of) (inl refl)

    root_small : AreSmall c.root
    root_small r step e =
        let facts = root_facts here is_here in
        small_step here (code_of G C) facts.0 r (class_in c.root r) step e (root here facts.0 r is_here facts.1)

    inner_small : (i : ℕ) → AreSmall (get_or c.inner i [])
    inner_small i r step e = by (cases_lt (i + 1) (length ls))
      where
        by : (i + 1 < length ls) ⊎ (length ls ≤ i + 1) → is_small step ≡ true
        by (inr l) = let none = rows.beyond i r l in absurd (cc)
        by (inl l) =
            let m = get_or ls (i + 1) nest.root in
            let at : get_or ls (i + 1) m ≡ m = get_or_default ls (i + 1) m nest.root l in
            let among = subst (λ (xs : List Level). In xs m) (levels_of G ls here is_here) (listed_in ls (i + 1) m l at) in
            let facts = facts_exist here (code_of G C) m (is_nest G ls here nest is_here) among in
            small_inner here (code_of G C) facts.0 m r (class_at c.inner i r) step e ((rows.each i l).each here facts.0 m r is_here facts.1 at)

pub rows_more_at : (G : Graph) (ls : List Level) (C : CellMap) (rows : List (List (Option Class))) (level : ℕ) (row : List (Option Class)) → 1 ≤ level → level < 4 → AreInnerRows G ls C level rows → IsInnerRow G ls C level row → AreInnerRows G ls C (level + 1) (set rows (level - 1) row)
rows_more_at G ls C rows level row one lt a b =
    let e : level ≡ level - 1 + 1 = omega arith in
    subst (λ k. AreInnerRows G ls C (k + 1) (set rows (level - 1) row)) (sym e)
    (rows_more G ls C rows (level - 1) row (omega arith) (subst (λ k. AreInnerRows G ls C k rows) e a) (subst (λ k. IsInnerRow G ls C k row) e b))

-- a nest has at most 4 loops
pub few_levels : (G : Graph) (ls : List Level) → AreNest G ls → (length ls ≤ 4) × (0 < length ls)
few_levels G ls nest = let n : length ls ≡ suc (length nest.inner) = ap (λ (xs : List Level). length xs) nest.are in let f = nest.few in (omega arith, omega arith)

-- the loop at a place among the levels that a slice has
pub is_at : (G : Graph) (C : CellMap) (ls xs : List Level) (i : ℕ) (l : Level) (w : Words) → AreNest G ls → i < length ls → xs ≡ ls → l ≡ get_or xs i l → ((m : Level) → get_or ls i m ≡ m → AreLoopWords G C ls m w) → AreFew C → IsAt G C ls i l w
is_at G C ls xs i l w nest within e at words few = record { nest = nest; within = within; here = at ∙ ap (λ (ys : List Level). get_or ys i l) e; words = words; few = few }

pub levels_rise : (G : Graph) (ls xs : List Level) → AreNest G ls → xs ≡ ls → All (λ (l : Level). IsStrictlyIncreasing l.body) xs
levels_rise G ls xs nest e = subst (λ (ys : List Level). All (λ (l : Level). IsStrictlyIncreasing l.body) ys) (sym e) (levels_ordered G ls nest)

pub level_rises : (G : Graph) (C : CellMap) (ls : List Level) (i : ℕ) (l : Level) (w : Words) → IsAt G C ls i l w → IsStrictlyIncreasing l.body
level_rises G C ls i l w at = rises_at G ls i l at.nest at.within at.here
