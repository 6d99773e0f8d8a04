-- The class of a register, and rows of classes.
use Rattle.std.proofs.Common.{◌≡◌, ◌≢◌, ℕ, ◌+◌, ◌-◌, ◌<◌, ◌≤◌, ◌⊎◌, inl, inr, Bool, true, false, if◌then◌else◌, nat_lt, List, length, get_or, set, replicate, Option, Some, None, ℤ, to_z, of_z, w64, refl, ap, sym, ◌∙◌, subst, arith}
use Rattle.std.proofs.lemmas.Bool.{cases_eq, cases_lt}
use Rattle.std.proofs.lemmas.Bool.Decides.{nat_tests}
use Rattle.std.proofs.lemmas.List.{get_or-set_same, get_or-set_other, get_or-replicate, get_or_past, length-replicate, length-set}
use Rattle.rv64_decode.specs.declared.instr.Instr.{Instr}
use Rattle.linear_forms.specs.declared.location.Loc.{Loc}
use Rattle.linear_forms.specs.declared.location.Loc.TheVariants.{Reg, Cell}
use Rattle.linear_forms.specs.Locations.{number_of, location_of, IsLocation}
use Rattle.loop_data.specs.declared.classes.Class.{Class}
use Rattle.loop_data.specs.declared.classes.Class.TheVariants.{Induction, Private}
use Rattle.loop_data.specs.declared.flow.Flow.{Flow}
use Rattle.loop_data.specs.declared.graph.Graph.{Graph}
use Rattle.loop_data.specs.declared.shape.Level.{Level}
use Rattle.loop_data.specs.Nests.{Nest}
use Rattle.loop_data.specs.Locations.{CellMap, instr_writes}
use Rattle.loop_data.specs.LoopCode.{LoopCode, code_of, instr_among, writes, IsUnwritten, IsWritten}
use Rattle.loop_data.specs.Facts.{Fact}
use Rattle.loop_data.specs.Classes.{IsInduction, IsCarried}
use Rattle.loop_data.specs.Results.{IsLeastLocation}
use Rattle.std.proofs.lemmas.Int.{to_z-of_z}
use Rattle.linear_forms.proofs.Ranges.{fits_small}
use Rattle.loop_data.proofs.Tests.{yes_no}
use Rattle.loop_data.proofs.ValuePlaces.{none_beyond}
use Rattle.induction.specs.declared.words.Words.{Words}
use Rattle.induction.specs.declared.writers.Writers.{Writers}
use Rattle.induction.specs.declared.writers.Writers.TheVariants.{Nowhere}
use Rattle.induction.specs.Writers.{AreWriters}
use Rattle.induction.specs.Words.{IsLoopOf, step_by, IsPrivateAt, IsNotPrivateAt}
use Rattle.induction.specs.Rows.{HasClass, TellsClass, IsCarriedAt, TellsRow, IsLeastAt, TellsInner, TellsInnerRow}
use Rattle.induction.proofs.Outcomes.{unwritten, written, moves, stays, private, not_private}

-- what the places of a loop tell of a register
pub tells_none : (ls : List Level) (l : Level) (w : Words) (r : ℕ) → r < 48 → AreWriters w.flow (length l.body) r Nowhere → TellsClass ls l w r None
tells_none ls l w r lr a G C N V s e = subst (λ (x : Level). IsUnwritten (code_of G C) x r) e (unwritten G C ls N l V w r (record { is = s; below = lr }) a)

pub tells_moves : (ls : List Level) (l : Level) (w : Words) (r : ℕ) → r < 48 → (by : Writers) → AreWriters w.flow (length l.body) r by → (z : ℤ) → step_by ls l w r by ≡ Some z → TellsClass ls l w r (Some (Induction (to_z w64 (of_z w64 z))))
tells_moves ls l w r lr by a z q G C N V s e =
    let k = moves G C ls N l V w r (record { is = s; below = lr }) by a z q in
    subst (λ y. IsInduction N (code_of G C) V N.root r y) (sym (to_z-of_z w64 z (fits_small z k.small))) (subst (λ (x : Level). IsInduction N (code_of G C) V x r z) e k)

root_of : (G : Graph) (C : CellMap) (ls : List Level) (N : Nest) (l : Level) (V : ℕ → ℕ → Option Fact) (w : Words) → IsLoopOf G C ls N l V w → l ≡ N.root → IsLoopOf G C ls N N.root V w
root_of G C ls N l V w s e = subst (λ (x : Level). IsLoopOf G C ls N x V w) e s

pub tells_private : (ls : List Level) (l : Level) (w : Words) (r : ℕ) → r < 48 → (by : Writers) → AreWriters w.flow (length l.body) r by → by ≢ Nowhere → step_by ls l w r by ≡ None → IsPrivateAt w r → TellsClass ls l w r (Some Private)
tells_private ls l w r lr by a some q k G C N V s e = (
  subst (λ (x : Level). IsWritten (code_of G C) x r) e (written G C ls N l V w r (record { is = s; below = lr }) by a some),
  λ z. subst (λ (x : Level). ¬ IsInduction N (code_of G C) V x r z) e (stays G C ls N l V w r (record { is = s; below = lr }) by a q z),
  private G C ls N V w r (record { is = root_of G C ls N l V w s e; below = lr }) k,
)

pub is_carried : (ls : List Level) (l : Level) (w : Words) (r : ℕ) → r < 48 → (by : Writers) → AreWriters w.flow (length l.body) r by → by ≢ Nowhere → step_by ls l w r by ≡ None → IsNotPrivateAt w r → IsCarriedAt ls l w r (location_of r)
is_carried ls l w r lr by a some q k = (refl, carried)
  where
    carried : (G : Graph) (C : CellMap) (N : Nest) (V : ℕ → ℕ → Option Fact) → IsLoopOf G C ls N l V w → l ≡ N.root → IsCarried N (code_of G C) V r
    carried G C N V s e = record {
      written = subst (λ (x : Level). IsWritten (code_of G C) x r) e (written G C ls N l V w r (record { is = s; below = lr }) by a some);
      no_induction = λ z. subst (λ (x : Level). ¬ IsInduction N (code_of G C) V x r z) e (stays G C ls N l V w r (record { is = s; below = lr }) by a q z);
      not_private = not_private G C ls N V w r (record { is = root_of G C ls N l V w s e; below = lr }) k;
    }

pub tells_step : (ls : List Level) (l : Level) (w : Words) (r : ℕ) → r < 48 → (by : Writers) → AreWriters w.flow (length l.body) r by → (z : ℤ) → step_by ls l w r by ≡ Some z → TellsInner ls l w r (Some (Induction (to_z w64 (of_z w64 z))))
tells_step ls l w r lr by a z q = (tt, λ G C N V s. let k = moves G C ls N l V w r (record { is = s; below = lr }) by a z q in subst (λ y. IsInduction N (code_of G C) V l r y) (sym (to_z-of_z w64 z (fits_small z k.small))) k)

pub tells_no_step : (ls : List Level) (l : Level) (w : Words) (r : ℕ) → r < 48 → (by : Writers) → AreWriters w.flow (length l.body) r by → step_by ls l w r by ≡ None → TellsInner ls l w r None
tells_no_step ls l w r lr by a q = (tt, λ G C N V s z. stays G C ls N l V w r (record { is = s; below = lr }) by a q z)

-- the writers among the words, by their number
pub writers_in : (f : Flow) (n r : ℕ) (by : Writers) → length f.instrs.items ≡ n → AreWriters f (length f.instrs.items) r by → AreWriters f n r by
writers_in f n r by e a = subst (λ k. AreWriters f k r by) e a

-- x0, and what is no location, is not written
abbrev IsNone : ℕ → Type 0
IsNone r = (r ≡ 0) ⊎ (48 ≤ r)

unwritten_word : (i : Option Instr) (cell : Option ℕ) (r : ℕ) → ((k : ℕ) → cell ≡ Some k → k < 16) → IsNone r → instr_writes i cell r ≡ false
unwritten_word None cell r few h = refl
unwritten_word (Some i) cell r few (inl e) = subst (λ q. instr_writes (Some i) cell q ≡ false) (sym e) refl
unwritten_word (Some i) cell r few (inr l) = none_beyond (Some i) cell r few l

tells_nothing : (ls : List Level) (l : Level) (w : Words) (r : ℕ) → IsNone r → TellsClass ls l w r None
tells_nothing ls l w r h G C N V s e u held = unwritten_word (instr_among G.words u) (C.uses u) r (s.few.uses u) h

tells_nothing_inner : (ls : List Level) (l : Level) (w : Words) (r : ℕ) → IsNone r → TellsInner ls l w r None
tells_nothing_inner ls l w r h = (tt, λ G C N V s z i. yes_no (writes (code_of G C) i.word r) i.does (unwritten_word (instr_among G.words i.word) (C.uses i.word) r (s.few.uses i.word) h))

-- rows whose places from n on have no class
pub record IsRowTo (P : ℕ → Option Class → Type 0) (row : List (Option Class)) (n : ℕ) : Type 0 where
  pub count : length row ≡ 48
  pub later : (q : ℕ) → n ≤ q → get_or row q None ≡ None
  pub each : (q : ℕ) → q < n → P q (get_or row q None)

abbrev no_classes : ℕ → List (Option Class)
no_classes n = replicate n None

empty_at : (n q : ℕ) → get_or (no_classes n) q None ≡ None
empty_at n q = by (cases_lt q n)
  where
    by : (q < n) ⊎ (n ≤ q) → get_or (no_classes n) q None ≡ None
    by (inl l) = get_or-replicate n q None None l
    by (inr l) = get_or_past (replicate n None) q None (rw length-replicate l)

row_first : (P : ℕ → Option Class → Type 0) → P 0 None → (row : List (Option Class)) → row ≡ replicate 48 None → IsRowTo P row 1
row_first P p row e = record {
  count = ap length e;
  later = λ q l. ap (λ (xs : List (Option Class)). get_or xs q None) e ∙ empty_at 48 q;
  each = λ q l. let z : q ≡ 0 = omega arith in subst (λ k. P k (get_or row k None)) (sym z) (subst (P 0) (sym (ap (λ (xs : List (Option Class)). get_or xs 0 None) e)) p);
}

pub row_more : (P : ℕ → Option Class → Type 0) (row : List (Option Class)) (n : ℕ) (x : Option Class) → n < 48 → IsRowTo P row n → P n x → IsRowTo P (set row n x) (n + 1)
row_more P row n x l a p = record { count = length-set row n x ∙ a.count; later = later; each = each }
  where
    later : (q : ℕ) → n + 1 ≤ q → get_or (set row n x) q None ≡ None
    later q m = get_or-set_other row n q x None (λ e. absurd (omega arith)) ∙ a.later q (omega arith)

    each : (q : ℕ) → q < n + 1 → P q (get_or (set row n x) q None)
    each q m = by (cases_eq q n)
      where
        by : (q ≡ n) ⊎ (q ≢ n) → P q (get_or (set row n x) q None)
        by (inl e) = let c = a.count in subst (λ k. P k (get_or (set row n x) k None)) (sym e) (subst (P n) (sym (get_or-set_same row n x None (omega arith))) p)
        by (inr ne) = subst (P q) (sym (get_or-set_other row n q x None ne)) (a.each q (omega arith))

row_all : (P : ℕ → Option Class → Type 0) (row : List (Option Class)) (n : ℕ) → 48 ≤ n → IsRowTo P row n → ((q : ℕ) → 48 ≤ q → P q None) → (q : ℕ) → P q (get_or row q None)
row_all P row n l a none q = by (cases_lt q n)
  where
    by : (q < n) ⊎ (n ≤ q) → P q (get_or row q None)
    by (inl k) = a.each q k
    by (inr k) = subst (P q) (sym (a.later q k)) (none q (omega arith))

-- the rows of the root and of an inner loop
pub root_first : (ls : List Level) (l : Level) (w : Words) (row : List (Option Class)) → row ≡ replicate 48 None → IsRowTo (TellsClass ls l w) row 1
root_first ls l w row e = row_first (TellsClass ls l w) (tells_nothing ls l w 0 (inl refl)) row e

pub root_all : (ls : List Level) (l : Level) (w : Words) (row : List (Option Class)) (n : ℕ) → 48 ≤ n → IsRowTo (TellsClass ls l w) row n → TellsRow ls l w row
root_all ls l w row n m a = row_all (TellsClass ls l w) row n m a (λ q k. tells_nothing ls l w q (inr k))

pub inner_first : (ls : List Level) (l : Level) (w : Words) (row : List (Option Class)) → row ≡ replicate 48 None → IsRowTo (TellsInner ls l w) row 1
inner_first ls l w row e = row_first (TellsInner ls l w) (tells_nothing_inner ls l w 0 (inl refl)) row e

pub inner_all : (ls : List Level) (l : Level) (w : Words) (row : List (Option Class)) (n : ℕ) → 48 ≤ n → IsRowTo (TellsInner ls l w) row n → TellsInnerRow ls l w row
inner_all ls l w row n m a = row_all (TellsInner ls l w) row n m a (λ q k. tells_nothing_inner ls l w q (inr k))

-- a location with a class is not carried
pub class_not_carried : (N : Nest) (B : LoopCode) (V : ℕ → ℕ → Option Fact) (r : ℕ) (c : Option Class) → HasClass N B V r c → ¬ IsCarried N B V r
class_not_carried N B V r None h k = yes_no (writes B (k.written).word r) (k.written).does (h (k.written).word (k.written).inside)
class_not_carried N B V r (Some (Induction z)) h k = k.no_induction z h
class_not_carried N B V r (Some Private) h k = k.not_private h.2

-- the location of a number
located : (r : ℕ) → 1 ≤ r → r < 48 → IsLocation (location_of r)
located r one lr = go (nat_lt r 32) refl
  where
    go : (b : Bool) → nat_lt r 32 ≡ b → IsLocation (if b then Reg r else Cell (r - 32))
    go true e = (one, grind (arith, nat_tests))
    go false e = let l : 32 ≤ r = grind (arith, nat_tests) in omega arith

numbered : (r : ℕ) → number_of (location_of r) ≡ r
numbered r = go (nat_lt r 32) refl
  where
    go : (b : Bool) → nat_lt r 32 ≡ b → number_of (if b then Reg r else Cell (r - 32)) ≡ r
    go true e = refl
    go false e = let l : 32 ≤ r = grind (arith, nat_tests) in omega arith

pub least_carried : (ls : List Level) (l : Level) (w : Words) (row : List (Option Class)) (r : ℕ) (loc : Loc) → 1 ≤ r → r < 48 → IsRowTo (TellsClass ls l w) row r → IsCarriedAt ls l w r loc → IsLeastAt ls l w loc
least_carried ls l w row r loc one lr a k G C N V s e = subst (λ (x : Loc). IsLeastLocation (IsCarried N (code_of G C) V) (Some x)) (sym k.0) (located r one lr, subst (λ n. IsCarried N (code_of G C) V n) (sym (numbered r)) (k.1 G C N V s e), λ q c. subst (λ n. n ≤ q) (sym (numbered r)) (least q c))
  where
    least : (q : ℕ) → IsCarried N (code_of G C) V q → r ≤ q
    least q c = by (cases_lt q r)
      where
        by : (q < r) ⊎ (r ≤ q) → r ≤ q
        by (inl m) = absurd (class_not_carried N (code_of G C) V q (get_or row q None) (a.each q m G C N V s e) c)
        by (inr m) = m
