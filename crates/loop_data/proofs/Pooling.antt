-- Points whose forms are numbers in a pool.
use Rattle.std.proofs.Common.{◌≡◌, ◌≢◌, ℕ, suc, ◌<◌, ◌≤◌, ◌⊎◌, inl, inr, List, [], ◌∷◌, length, map, get_or, set, Option, None, refl, ap, sym, ◌∙◌, subst, arith}
use Rattle.std.proofs.lemmas.Bool.{cases_eq}
use Rattle.std.proofs.lemmas.List.{get_or-set_same, get_or-set_other, get_or_default, get_or-map, length-map, length-set, map-set, get_or-replicate}
use Rattle.linear_forms.specs.Forms.{LinearForm}
use Rattle.loop_data.specs.declared.points.Row.{Row}
use Rattle.loop_data.specs.Points.{Point, no_forms, point_at, form_in, with_forms, without_forms}
use Rattle.loop_data.specs.PooledPoints.{pooled, point_in, points_in, no_row, row_without_forms, IsPooledRow, IsPooled}

-- rows without forms over a pool that has none
pub bare_points : (us : List ℕ) → points_in (None ∷ []) (map row_without_forms us) ≡ map without_forms us
bare_points [] = refl
bare_points (u ∷ us) = ap (λ ps. without_forms u ∷ ps) (bare_points us)

pub bare_pooled : (us : List ℕ) → IsPooled (None ∷ []) (map row_without_forms us)
bare_pooled us = record { some = omega arith; first = refl; each = each }
  where
    row : (u : ℕ) → IsPooledRow (None ∷ []) (row_without_forms u)
    row u = record { count = refl; within = λ r l. subst (λ n. n < 1) (sym (get_or-replicate 48 r 0 0 l)) (omega arith) }

    each : (k : ℕ) → k < length (map row_without_forms us) → IsPooledRow (None ∷ []) (get_or (map row_without_forms us) k no_row)
    each k l = let n = length-map us row_without_forms in subst (λ x. IsPooledRow (None ∷ []) x) (sym (get_or-map row_without_forms us k 0 no_row (omega arith))) (row (get_or us k 0))

pub count_in : (pool : List (Option LinearForm)) (rows : List Row) → length (points_in pool rows) ≡ length rows
count_in pool rows = length-map rows (point_in pool)

-- the point of a row
pub at_row : (pool : List (Option LinearForm)) (rows : List Row) (k : ℕ) (x : Row) → k < length rows → x ≡ get_or rows k x → point_at (points_in pool rows) k ≡ point_in pool x
at_row pool rows k x l e = get_or-map (point_in pool) rows k x no_forms l ∙ ap (point_in pool) (sym e)

pub pooled_row : (pool : List (Option LinearForm)) (rows : List Row) (k : ℕ) (x : Row) → IsPooled pool rows → k < length rows → x ≡ get_or rows k x → IsPooledRow pool x
pooled_row pool rows k x p l e = subst (λ y. IsPooledRow pool y) (sym (e ∙ get_or_default rows k x no_row l)) (p.each k l)

pub row_count : (pool : List (Option LinearForm)) (rows : List Row) (k : ℕ) (x : Row) → IsPooled pool rows → k < length rows → x ≡ get_or rows k x → length (point_at (points_in pool rows) k).forms ≡ 48
row_count pool rows k x p l e = ap (λ (q : Point). length q.forms) (at_row pool rows k x l e) ∙ length-map x.forms (pooled pool) ∙ (pooled_row pool rows k x p l e).count

-- the form of a number of a row
pub form_row : (pool : List (Option LinearForm)) (rows : List Row) (k r : ℕ) (x : Row) (n : ℕ) → IsPooled pool rows → k < length rows → r < 48 → x ≡ get_or rows k x → n ≡ get_or x.forms r n → form_in (points_in pool rows) k r ≡ pooled pool n
form_row pool rows k r x n p l lt e d =
    let c = (pooled_row pool rows k x p l e).count in
    ap (λ (q : Point). get_or q.forms r None) (at_row pool rows k x l e) ∙ get_or-map (pooled pool) x.forms r n None (omega arith) ∙ ap (pooled pool) (sym d)

pub number_within : (pool : List (Option LinearForm)) (rows : List Row) (k r : ℕ) (x : Row) (n : ℕ) → IsPooled pool rows → k < length rows → r < 48 → x ≡ get_or rows k x → n ≡ get_or x.forms r n → n < length pool
number_within pool rows k r x n p l lt e d =
    let q = pooled_row pool rows k x p l e in
    let c = q.count in
    subst (λ m. m < length pool) (sym (d ∙ get_or_default x.forms r n 0 (omega arith))) (q.within r lt)

-- a pool that keeps the forms that it had
pub record IsMore (old new : List (Option LinearForm)) : Type 0 where
  pub kept : (i : ℕ) → i < length old → pooled new i ≡ pooled old i
  pub count : length old ≤ length new

more_forms : (old new : List (Option LinearForm)) → IsMore old new → (ns : List ℕ) → ((r : ℕ) → r < length ns → get_or ns r 0 < length old) → map (pooled new) ns ≡ map (pooled old) ns
more_forms old new m [] w = refl
more_forms old new m (n ∷ ns) w = ap (λ f. f ∷ map (pooled new) ns) (m.kept n (w 0 (omega arith))) ∙ ap (λ fs. pooled old n ∷ fs) (more_forms old new m ns (λ r l. w (suc r) (omega arith)))

more_row : (old new : List (Option LinearForm)) → IsMore old new → (x : Row) → IsPooledRow old x → point_in new x ≡ point_in old x
more_row old new m x p = let c = p.count in ap (λ fs. record { at = x.at; forms = fs }) (more_forms old new m x.forms (λ r l. p.within r (omega arith)))

more_rows : (old new : List (Option LinearForm)) → IsMore old new → (rows : List Row) → ((k : ℕ) → k < length rows → IsPooledRow old (get_or rows k no_row)) → points_in new rows ≡ points_in old rows
more_rows old new m [] w = refl
more_rows old new m (x ∷ xs) w = ap (λ q. q ∷ points_in new xs) (more_row old new m x (w 0 (omega arith))) ∙ ap (λ qs. point_in old x ∷ qs) (more_rows old new m xs (λ k l. w (suc k) (omega arith)))

pub more_points : (old new : List (Option LinearForm)) (rows : List Row) → IsPooled old rows → IsMore old new → points_in new rows ≡ points_in old rows
more_points old new rows p m = more_rows old new m rows p.each

pub more_pooled : (old new : List (Option LinearForm)) (rows : List Row) → IsPooled old rows → IsMore old new → IsPooled new rows
more_pooled old new rows p m = let c = m.count in let s = p.some in record { some = omega arith; first = m.kept 0 s ∙ p.first; each = each }
  where
    each : (k : ℕ) → k < length rows → IsPooledRow new (get_or rows k no_row)
    each k l = let q = p.each k l in record { count = q.count; within = λ r lt. let a = q.within r lt in let c = m.count in omega arith }

-- a row with other numbers
pub set_row : (pool : List (Option LinearForm)) (rows : List Row) (k : ℕ) (x : Row) (ns : List ℕ) → k < length rows → x ≡ get_or rows k x → points_in pool (set rows k (record { at = x.at; forms = ns })) ≡ with_forms (points_in pool rows) k (map (pooled pool) ns)
set_row pool rows k x ns l e =
    map-set (point_in pool) rows k (record { at = x.at; forms = ns })
    ∙ ap (λ a. set (points_in pool rows) k (record { at = a; forms = map (pooled pool) ns })) (sym (ap (λ (q : Point). q.at) (at_row pool rows k x l e)))

pub set_pooled : (pool : List (Option LinearForm)) (rows : List Row) (k : ℕ) (x : Row) → IsPooled pool rows → k < length rows → IsPooledRow pool x → IsPooled pool (set rows k x)
set_pooled pool rows k x p l q = record { some = p.some; first = p.first; each = each }
  where
    each : (j : ℕ) → j < length (set rows k x) → IsPooledRow pool (get_or (set rows k x) j no_row)
    each j m = by (cases_eq j k)
      where
        by : (j ≡ k) ⊎ (j ≢ k) → IsPooledRow pool (get_or (set rows k x) j no_row)
        by (inl e) = subst (λ i. IsPooledRow pool (get_or (set rows k x) i no_row)) (sym e) (subst (λ y. IsPooledRow pool y) (sym (get_or-set_same rows k x no_row l)) q)
        by (inr ne) = let n = length-set rows k x in subst (λ y. IsPooledRow pool y) (sym (get_or-set_other rows k j x no_row ne)) (p.each j (omega arith))

-- a row with one other number
pub number_set : (pool : List (Option LinearForm)) (x : Row) (r n : ℕ) (a : ℕ) → IsPooledRow pool x → r < 48 → n < length pool → IsPooledRow pool (record { at = a; forms = set x.forms r n })
number_set pool x r n a q lt w = record { count = length-set x.forms r n ∙ q.count; within = within }
  where
    within : (j : ℕ) → j < 48 → get_or (set x.forms r n) j 0 < length pool
    within j m = by (cases_eq j r)
      where
        by : (j ≡ r) ⊎ (j ≢ r) → get_or (set x.forms r n) j 0 < length pool
        by (inl e) = let c = q.count in subst (λ i. get_or (set x.forms r n) i 0 < length pool) (sym e) (subst (λ y. y < length pool) (sym (get_or-set_same x.forms r n 0 (omega arith))) w)
        by (inr ne) = subst (λ y. y < length pool) (sym (get_or-set_other x.forms r j n 0 ne)) (q.within j m)

-- a row that takes the numbers of another
pub copied_row : (pool : List (Option LinearForm)) (rows : List Row) (k j : ℕ) (x y : Row) (now : List Point) → points_in pool rows ≡ now → k < length now → j < length now → x ≡ get_or rows k x → y ≡ get_or rows j y
    → points_in pool (set rows k (record { at = x.at; forms = y.forms })) ≡ with_forms now k (point_at now j).forms
copied_row pool rows k j x y now v l m e d =
    let n = count_in pool rows ∙ refl in
    let c = sym (ap (λ (ps : List Point). length ps) v) ∙ n in
    set_row pool rows k x y.forms (omega arith) e
    ∙ ap (λ fs. with_forms (points_in pool rows) k fs) (sym (ap (λ (q : Point). q.forms) (at_row pool rows j y (omega arith) d)))
    ∙ ap (λ ps. with_forms ps k (point_at ps j).forms) v

-- a row with the number of a form that was put into the pool
pub form_set : (old new : List (Option LinearForm)) (rows : List Row) (k r n : ℕ) (x : Row) (form : Option LinearForm) (now : List Point) → IsPooled old rows → IsMore old new → points_in old rows ≡ now → k < length now → x ≡ get_or rows k x → pooled new n ≡ form
    → points_in new (set rows k (record { at = x.at; forms = set x.forms r n })) ≡ with_forms now k (set (point_at now k).forms r form)
form_set old new rows k r n x form now p m v l e f =
    let c = sym (ap (λ (ps : List Point). length ps) v) ∙ count_in old rows in
    let within : k < length rows = omega arith in
    set_row new rows k x (set x.forms r n) within e
    ∙ ap (λ fs. with_forms (points_in new rows) k fs) (map-set (pooled new) x.forms r n ∙ ap (λ g. set (map (pooled new) x.forms) r g) f)
    ∙ ap (λ fs. with_forms (points_in new rows) k (set fs r form)) (sym (ap (λ (q : Point). q.forms) (at_row new rows k x within e)))
    ∙ ap (λ ps. with_forms ps k (set (point_at ps k).forms r form)) (more_points old new rows p m ∙ v)

-- the form of a location, read from the pool
pub read_form : (pool : List (Option LinearForm)) (rows : List Row) (k r : ℕ) (x : Row) (form : Option LinearForm) (now : List Point) → IsPooled pool rows → points_in pool rows ≡ now → k < length now → r < 48 → x ≡ get_or rows k x → form ≡ get_or pool (get_or x.forms r 0) form → form_in now k r ≡ form
read_form pool rows k r x form now p v l lt e f =
    let c = sym (ap (λ (ps : List Point). length ps) v) ∙ count_in pool rows in
    let within : k < length rows = omega arith in
    let q = pooled_row pool rows k x p within e in
    let n = q.count in
    let number = get_or x.forms r 0 in
    ap (λ (ps : List Point). form_in ps k r) (sym v) ∙ form_row pool rows k r x number p within lt e (sym (get_or_default x.forms r number 0 (omega arith)))
    ∙ sym (f ∙ get_or_default pool number form None (q.within r lt))
