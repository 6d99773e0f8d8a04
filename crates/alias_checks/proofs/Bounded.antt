-- Ranges between the bounds of areas lie in the areas of a memory that has these bounds.
use Rattle.std.proofs.Common.{◌≡◌, ℕ, ◌+◌, ◌%◌, ◌<◌, ◌≤◌, List, [], ◌∷◌, length, Bool, true, false, ◌&&◌, ◌||◌, Some, None, refl, ap, sym, ◌∙◌, arith, ℤ, pos, ◌≤ℤ◌, if◌then◌else◌, ◌==◌}
use Rattle.std.specs.Prelude.{int_le}
use Rattle.std.proofs.Math.Path.{fun_ext}
use Rattle.std.proofs.lemmas.Int.{ints}
use Rattle.std.proofs.lemmas.Bool.{and_parts}
use Rattle.std.specs.List.{All, list_any, list_all}
use Rattle.rv64_decode.specs.declared.memory.MemFault.TheVariants.{Misaligned}
use Rattle.rv64_decode.specs.Area.{Area, area_at, bytes_of, why, why_in, readable_of}
use Rattle.guest_memory.specs.Layout.{AreasLieFrom, end_of}
use Rattle.guest_memory.proofs.Areas.{holds_inside, holds_above}
use Rattle.loop_data.specs.declared.verdict.Cell.{Cell}
use Rattle.loop_data.specs.Locations.{address, width_of, width_by}
use Rattle.alias_checks.specs.declared.areas.Permission.{Permission}
use Rattle.alias_checks.specs.declared.areas.Permission.TheVariants.{Read, Write, ReadAndWrite}
use Rattle.alias_checks.specs.Areas.{Range, Bounds, permits, has_range, in_memory, AreBounds, AreBoundsOf, may_write, flags_permit, bounds_have, in_bounds}
use Rattle.alias_checks.specs.CellTests.{cell_size, cell_permission, cell_fits, all_clear, HasRegister}
use Rattle.alias_checks.specs.Entry.{IsReadable}
use Rattle.alias_checks.specs.declared.lists.Check.{Check}
use Rattle.alias_checks.specs.Entry.{entry}
use Rattle.alias_checks.specs.TurnTests.{turns_of}
use Rattle.alias_checks.specs.Answers.{cells_pass, if_all_pass, answer}
use Rattle.alias_checks.proofs.Elements.{each_passes}
use Rattle.alias_checks.proofs.CellFits.{Fits, fits}

flags_are : (b : Bounds) (a : Area) (k : Permission) → AreBounds b a → flags_permit k b.2 ≡ permits k a
flags_are b a Read h = h.readable
flags_are b a Write h = h.writable
flags_are b a ReadAndWrite h = ap (λ x. x && may_write b.2) h.readable ∙ ap (λ x. a.readable && x) h.writable

range_is : (b : Bounds) (a : Area) (r : Range) → AreBounds b a → (int_le (pos b.0) r.0 && int_le r.1 (pos b.1)) ≡ has_range a r
range_is b a r h = ap (λ n. int_le (pos n) r.0 && int_le r.1 (pos b.1)) h.low ∙ ap (λ n. int_le (pos a.low) r.0 && int_le r.1 (pos n)) h.end

have_is : (b : Bounds) (a : Area) (k : Permission) (r : Range) → AreBounds b a → bounds_have k r b ≡ (permits k a && has_range a r)
have_is b a k r h =
    ap (λ x. x && (int_le (pos b.0) r.0 && int_le r.1 (pos b.1))) (flags_are b a k h) ∙ ap (λ x. permits k a && x) (range_is b a r h)

any_is : (bs : List Bounds) (m : List Area) (k : Permission) (r : Range) → AreBoundsOf bs m → list_any (bounds_have k r) bs ≡ list_any (λ (a : Area). permits k a && has_range a r) m
any_is [] [] k r h = refl
any_is [] (a ∷ m) k r h = absurd h
any_is (b ∷ bs) [] k r h = absurd h
any_is (b ∷ bs) (a ∷ m) k r h =
    ap (λ x. x || list_any (bounds_have k r) bs) (have_is b a k r h.0)
    ∙ ap (λ x. (permits k a && has_range a r) || x) (any_is bs m k r h.1)

-- both tests of a range are the same
pub bounds_are : (bs : List Bounds) (m : List Area) → AreBoundsOf bs m → in_bounds bs ≡ in_memory m
unfolding in_bounds in_memory
bounds_are bs m h = fun_ext (λ k. fun_ext (λ r. any_is bs m k r h))

-- an area that permits the access holds the first address
pub record IsFirst (k : Permission) (from : ℕ) (m : List Area) (x : ℕ) : Type 0 where
  pub area : Area
  pub at : area_at m x ≡ Some area
  pub permitted : permits k area ≡ true
  pub above : from ≤ x

at_most : (x y : ℕ) → int_le (pos x) (pos y) ≡ true → x ≤ y
at_most x y e = let k : pos x ≤ℤ pos y = grind (arith, ints) in omega (arith, ints)

first_in : (k : Permission) (from : ℕ) (m : List Area) (x e : ℕ) → AreasLieFrom from m → x < e
    → list_any (λ (a : Area). permits k a && has_range a (pos x, pos e)) m ≡ true → IsFirst k from m x
first_in k from [] x e l h t = absurd (cc)
first_in k from (a ∷ m) x e l h t = go (permits k a && has_range a (pos x, pos e)) refl t (λ u. first_in k (end_of a) m x e l.4 h u)
  where
    go : (b : Bool) → (permits k a && has_range a (pos x, pos e)) ≡ b
        → (b || list_any (λ (a : Area). permits k a && has_range a (pos x, pos e)) m) ≡ true
        → (list_any (λ (a : Area). permits k a && has_range a (pos x, pos e)) m ≡ true → IsFirst k (end_of a) m x)
        → IsFirst k from (a ∷ m) x
    go true f u later =
        let p = and_parts (permits k a) (has_range a (pos x, pos e)) f in
        let q = and_parts (int_le (pos a.low) (pos x)) (int_le (pos e) (pos (a.low + length a.bytes))) p.1 in
        let low : a.low ≤ x = at_most a.low x q.0 in
        let high : e ≤ a.low + length a.bytes = at_most e (a.low + length a.bytes) q.1 in
        let i = holds_inside a x low (omega arith) in
        let n = l.0 in
        record { area = a; at = rw i refl; permitted = p.0; above = omega arith }
    go false f u later =
        let r = later u in
        let o = holds_above a x r.above in
        let n = l.0 in
        let v = r.above in
        record { area = r.area; at = rw o r.at; permitted = r.permitted; above = omega arith }

reads : (stored : Bool) (a : Area) → permits (if stored then ReadAndWrite else Read) a ≡ true → a.readable ≡ true
reads true a e = (and_parts _ _ e).0
reads false a e = e

size_some : (c : Cell) → 0 < cell_size c
size_some c = go c.wide
  where
    go : (b : Bool) → 0 < bytes_of (width_by b)
    go true = omega arith
    go false = omega arith

readable : (m : List Area) (regs : List ℕ) (c : Cell) → AreasLieFrom 0 m → Fits (in_memory m) regs c → why readable_of m (address regs c) (width_of c) ≡ None
unfolding in_memory
readable m regs c l f =
    let s = size_some c in
    let h : address regs c < address regs c + cell_size c = omega arith in
    let p = first_in (cell_permission c) 0 m (address regs c) (address regs c + cell_size c) l h f.lies in
    let r = reads c.stored p.area p.permitted in
    aligned (address regs c % cell_size c) f.aligned (ap (λ o. why_in readable_of o) p.at ∙ permitted p.area r)
  where
    permitted : (a : Area) → a.readable ≡ true → why_in readable_of (Some a) ≡ None
    permitted a e = rw e refl

    aligned : (n : ℕ) → n ≡ 0 → why_in readable_of (area_at m (address regs c)) ≡ None
        → (if n == 0 then why_in readable_of (area_at m (address regs c)) else Some Misaligned) ≡ None
    aligned n e h = rw e h

-- cells that fit may be read
pub all_readable : (m : List Area) (regs : List ℕ) (cells : List Cell) → AreasLieFrom 0 m → list_all (cell_fits (in_memory m) regs) cells ≡ true
    → All (λ (c : Cell). HasRegister c.base) cells → All (IsReadable regs m) cells
all_readable m regs cells l e r k d h =
    record {
      register = r k d h;
      readable = readable m regs _ l (fits (in_memory m) regs _ (each_passes (cell_fits (in_memory m) regs) cells k d e h));
    }

-- the answer by bounds is that by areas
pub no_answer : (c : Check) (regs : List ℕ) (m : List Area) → AreBoundsOf c.areas m → cells_pass c (in_bounds c.areas) regs ≡ false → None ≡ answer c regs m
no_answer c regs m h e = go (cells_pass c (in_memory m) regs) (ap (λ inside. cells_pass c inside regs) (sym (bounds_are c.areas m h)) ∙ e)
  where
    go : (b : Bool) → b ≡ false → None ≡ (if b then if_all_pass c (in_memory m) regs (entry c.cells.list.items regs m) (turns_of c.trips (entry c.cells.list.items regs m)) else None)
    go b f = rw f refl

pub the_answer : (c : Check) (regs : List ℕ) (m : List Area) (e : ℕ → ℤ) → AreBoundsOf c.areas m → cells_pass c (in_bounds c.areas) regs ≡ true → e ≡ entry c.cells.list.items regs m
    → if_all_pass c (in_bounds c.areas) regs e (turns_of c.trips e) ≡ answer c regs m
the_answer c regs m e h p q =
    ap (λ inside. if_all_pass c inside regs e (turns_of c.trips e)) (bounds_are c.areas m h)
    ∙ ap (λ f. if_all_pass c (in_memory m) regs f (turns_of c.trips f)) q
    ∙ go (cells_pass c (in_memory m) regs) (ap (λ inside. cells_pass c inside regs) (sym (bounds_are c.areas m h)) ∙ p)
  where
    go : (b : Bool) → b ≡ true → if_all_pass c (in_memory m) regs (entry c.cells.list.items regs m) (turns_of c.trips (entry c.cells.list.items regs m))
        ≡ (if b then if_all_pass c (in_memory m) regs (entry c.cells.list.items regs m) (turns_of c.trips (entry c.cells.list.items regs m)) else None)
    go b f = rw f refl

-- cells that pass by bounds may be read
pub readable_by_bounds : (c : Check) (regs : List ℕ) (m : List Area) → AreasLieFrom 0 m → AreBoundsOf c.areas m → cells_pass c (in_bounds c.areas) regs ≡ true
    → All (λ (d : Cell). HasRegister d.base) c.cells.list.items → All (IsReadable regs m) c.cells.list.items
readable_by_bounds c regs m l h p r =
    let e = ap (λ inside. cells_pass c inside regs) (sym (bounds_are c.areas m h)) ∙ p in
    all_readable m regs c.cells.list.items l (and_parts _ _ e).0 r

-- what is tested of the slices of a check is tested of the check
pub pass_is : (c : Check) (regs : List ℕ) (bs : List Bounds) (cells : List Cell) (r b : Bool) → bs ≡ c.areas → cells ≡ c.cells.list.items
    → r ≡ (list_all (cell_fits (in_bounds bs) regs) cells && all_clear regs cells) → r ≡ b → cells_pass c (in_bounds c.areas) regs ≡ b
pass_is c regs bs cells r b h k p e =
    sym (ap (λ (ys : List Bounds). list_all (cell_fits (in_bounds ys) regs) cells && all_clear regs cells) h
    ∙ ap (λ (ds : List Cell). list_all (cell_fits (in_bounds c.areas) regs) ds && all_clear regs ds) k) ∙ sym p ∙ e
