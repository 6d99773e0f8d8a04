-- The steps of a search backwards.
use Rattle.std.proofs.Common.{◌≡◌, ◌≢◌, ℕ, ◌+◌, ◌<◌, ◌≤◌, ◌⊎◌, ◌↔◌, inl, inr, Bool, true, false, List, [], ◌∷◌, ◌++◌, length, get_or, take, refl, ap, sym, ◌∙◌, subst, arith}
use Rattle.std.specs.List.{Contains}
use Rattle.std.proofs.lemmas.Bool.{cases_eq, cases_lt, false≢true}
use Rattle.std.proofs.lemmas.List.{get_or_append_left, get_or_push, length_push, get_or_default, take_more, get_or-take, length-take-le}
use Rattle.std.proofs.lemmas.List.Elements.{Contains-push_cases, Contains-push, Contains-append_left, Contains-get_or}
use Rattle.loop_shapes.specs.Sets.{AreDifferent, HasOver}
use Rattle.loop_shapes.specs.Search.{IsIndexed, Grown, HasRoom, HasNoRoom, HasTried, RowLeads, InPlaces, AreFew}
use Rattle.loop_data.proofs.Ways.{stop, step, backward}
use Rattle.loop_data.proofs.Lists.{from_in}
use Rattle.loop_shapes.proofs.Rows.{alone}
use Rattle.loop_data.specs.Flows.{row_at}

-- a number found stands at the place that its slot has
slot_of : (found slots : List ℕ) → IsIndexed found slots → (i j : ℕ) → i < length found → j < length found → get_or found i 0 ≡ get_or found j 0 → i ≡ j
slot_of found slots x i j li lj e = sym (x.slot i li) ∙ ap (λ q. get_or slots q 0) e ∙ x.slot j lj

pub apart_from_indexed : (found slots : List ℕ) → IsIndexed found slots → AreDifferent found
apart_from_indexed found slots x i j lt lj e = let same = slot_of found slots x i j (omega arith) lj e in omega arith

-- the numbers found are below the number of slots
pub within_slots : (n : ℕ) (found slots : List ℕ) → length slots ≡ n → IsIndexed found slots → (i : ℕ) → Contains found i → i < n
within_slots n found slots e x i c =
    let is : get_or found c.0 0 ≡ i = get_or_default found c.0 0 i c.1 ∙ c.2 in
    let l = x.below c.0 c.1 in
    omega arith

pub kept : (old xs new : List ℕ) → Grown old xs new → (y : ℕ) → Contains old y → Contains new y
kept old xs new g y c =
    let l = c.1 in
    let m = g.longer in
    let e : get_or new c.0 0 ≡ y = g.same c.0 c.1 ∙ get_or_default old c.0 0 y c.1 ∙ c.2 in
    subst (Contains new) e (Contains-get_or new c.0 0 (omega arith))

pub room_pushed : (old new slots : List ℕ) (x : ℕ) → length old ≤ 256 → length old ≢ 256 → new ≡ old ++ x ∷ [] → IsIndexed new slots → HasRoom old (x ∷ []) new slots
room_pushed old new slots x le ne e i =
    let n : length new ≡ length old + 1 = ap length e ∙ length_push old x in
    record { grown = subst (Grown old (x ∷ [])) (sym e) pushed; bound = omega arith; indexed = i }
  where
    pushed : Grown old (x ∷ []) (old ++ x ∷ [])
    pushed =
        let n = length_push old x in
        record { longer = omega arith; same = λ k l. get_or_append_left old (x ∷ []) 0 k l; each = each; every = λ y c. subst (Contains (old ++ x ∷ [])) (alone x y c) (Contains-push old x) }
      where
        each : (y : ℕ) → Contains (old ++ x ∷ []) y → Contains old y ⊎ Contains (x ∷ []) y
        each y c = by (Contains-push_cases old x y c)
          where
            by : Contains old y ⊎ (x ≡ y) → Contains old y ⊎ Contains (x ∷ []) y
            by (inl d) = inl d
            by (inr e) = inr (from_in (x ∷ []) y (inl e))

pub full_at : (old slots : List ℕ) (x : ℕ) → length old ≡ 256 → (Contains old x → ⊥) → IsIndexed old slots → HasNoRoom old (x ∷ []) old slots
full_at old slots x n absent i = record { full = record { count = n; each = λ y c. inl c; extra = x; among = from_in (x ∷ []) x (inl refl); absent = absent }; indexed = i }

-- what is among the first numbers and the next is among them all
first_of_all : (xs : List ℕ) (i : ℕ) → i < length xs → (y : ℕ) → Contains (take i xs) y ⊎ Contains (get_or xs i 0 ∷ []) y → Contains (take (i + 1) xs) y
first_of_all xs i l y (inl c) = rw (take_more xs i 0 l) (Contains-append_left (take i xs) (get_or xs i 0 ∷ []) y c)
first_of_all xs i l y (inr c) = rw (take_more xs i 0 l) (subst (Contains (take i xs ++ get_or xs i 0 ∷ [])) (alone (get_or xs i 0) y c) (Contains-push (take i xs) (get_or xs i 0)))

pub among_all : (xs : List ℕ) (i : ℕ) → i < length xs → (y : ℕ) → Contains (take i xs) y ⊎ Contains (get_or xs i 0 ∷ []) y → Contains xs y
among_all xs i l y (inl c) =
    let n = length-take-le i xs (omega arith) in
    let m = c.1 in
    subst (Contains xs) (sym (get_or-take i xs c.0 y (omega arith)) ∙ c.2) (Contains-get_or xs c.0 y (omega arith))
among_all xs i l y (inr c) = subst (Contains xs) (alone (get_or xs i 0) y c) (Contains-get_or xs i 0 l)

regroup : {A B C : Type 0} → (A ⊎ B) ⊎ C → A ⊎ (B ⊎ C)
regroup (inl (inl a)) = inl a
regroup (inl (inr b)) = inr (inl b)
regroup (inr c) = inr (inr c)

on_left : {A B C : Type 0} → (A → B) → A ⊎ C → B ⊎ C
on_left f (inl a) = inl (f a)
on_left f (inr c) = inr c

on_right : {A B C : Type 0} → (B → C) → A ⊎ B → A ⊎ C
on_right f (inl a) = inl a
on_right f (inr b) = inr (f b)

pub room_more : (old xs mid new slots slots' : List ℕ) (i : ℕ) → i < length xs → HasRoom old (take i xs) mid slots → HasRoom mid (get_or xs i 0 ∷ []) new slots' → HasRoom old (take (i + 1) xs) new slots'
room_more old xs mid new slots slots' i l a b =
    let A = a.grown in
    let B = b.grown in
    let al = A.longer in
    let bl = B.longer in
    record { grown = record { longer = omega arith; same = λ k q. B.same k (omega arith) ∙ A.same k q; each = λ y c. on_right (first_of_all xs i l y) (regroup (on_left (A.each y) (B.each y c))); every = λ y c. by y (split y c) }; bound = b.bound; indexed = b.indexed }
  where
    split : (y : ℕ) → Contains (take (i + 1) xs) y → Contains (take i xs) y ⊎ (get_or xs i 0 ≡ y)
    split y c = Contains-push_cases (take i xs) (get_or xs i 0) y (rw (take_more xs i 0 l) at c)

    by : (y : ℕ) → Contains (take i xs) y ⊎ (get_or xs i 0 ≡ y) → Contains new y
    by y (inl c) = kept mid (get_or xs i 0 ∷ []) new b.grown y (a.grown.every y c)
    by y (inr e) = b.grown.every y (from_in (get_or xs i 0 ∷ []) y (inl e))

pub full_more : (old xs mid new slots slots' : List ℕ) (i : ℕ) → i < length xs → HasRoom old (take i xs) mid slots → HasNoRoom mid (get_or xs i 0 ∷ []) new slots' → HasNoRoom old xs new slots'
full_more old xs mid new slots slots' i l a b =
    let A = a.grown in
    let F = b.full in
    record { full = record { count = F.count; each = λ y c. on_right (among_all xs i l y) (regroup (on_left (A.each y) (F.each y c))); extra = F.extra; among = among_all xs i l F.extra (inr F.among); absent = F.absent }; indexed = b.indexed }

-- of the same numbers in another order, or some of them twice
pub room_as : (old xs ys new slots : List ℕ) → ((x : ℕ) → Contains ys x ↔ Contains xs x) → HasRoom old xs new slots → HasRoom old ys new slots
room_as old xs ys new slots same a = record { grown = record { longer = a.grown.longer; same = a.grown.same; each = λ y c. on_right (same y).1 (a.grown.each y c); every = λ y c. a.grown.every y ((same y).0 c) }; bound = a.bound; indexed = a.indexed }

pub full_as : (old xs ys new slots : List ℕ) → ((x : ℕ) → Contains ys x ↔ Contains xs x) → HasNoRoom old xs new slots → HasNoRoom old ys new slots
full_as old xs ys new slots same a = record { full = record { count = a.full.count; each = λ y c. on_right (same y).1 (a.full.each y c); extra = a.full.extra; among = (same a.full.extra).1 a.full.among; absent = a.full.absent }; indexed = a.indexed }

pub tried_as : (room : Bool) (old xs ys new slots : List ℕ) → ((x : ℕ) → Contains ys x ↔ Contains xs x) → HasTried room old xs new slots → HasTried room old ys new slots
tried_as true old xs ys new slots same a = room_as old xs ys new slots same a
tried_as false old xs ys new slots same a = full_as old xs ys new slots same a

-- a second number after the first
pub room_two : (old mid new slots slots' : List ℕ) (a b : ℕ) → HasRoom old (a ∷ []) mid slots → HasRoom mid (b ∷ []) new slots' → HasRoom old (a ∷ b ∷ []) new slots'
room_two old mid new slots slots' a b p q = room_more old (a ∷ b ∷ []) mid new slots slots' 1 (omega arith) p q

pub full_two : (old mid new slots slots' : List ℕ) (a b : ℕ) → HasRoom old (a ∷ []) mid slots → HasNoRoom mid (b ∷ []) new slots' → HasNoRoom old (a ∷ b ∷ []) new slots'
full_two old mid new slots slots' a b p q = full_more old (a ∷ b ∷ []) mid new slots slots' 1 (omega arith) p q

pub tried_two : (room : Bool) (old mid new slots slots' : List ℕ) (a b : ℕ) → HasRoom old (a ∷ []) mid slots → HasTried room mid (b ∷ []) new slots' → HasTried room old (a ∷ b ∷ []) new slots'
tried_two true old mid new slots slots' a b p q = room_two old mid new slots slots' a b p q
tried_two false old mid new slots slots' a b p q = full_two old mid new slots slots' a b p q

-- where there is no room for the first
pub full_first : (old new slots : List ℕ) (a b : ℕ) → HasNoRoom old (a ∷ []) new slots → HasNoRoom old (a ∷ b ∷ []) new slots
full_first old new slots a b p = record { full = record { count = p.full.count; each = λ y c. on_right (first y) (p.full.each y c); extra = p.full.extra; among = first p.full.extra p.full.among; absent = p.full.absent }; indexed = p.indexed }
  where
    first : (y : ℕ) → Contains (a ∷ []) y → Contains (a ∷ b ∷ []) y
    first y c = from_in (a ∷ b ∷ []) y (inl (alone a y c))

pub tried_room : (old xs new slots : List ℕ) (room : Bool) → room ≡ true → HasTried room old xs new slots → HasRoom old xs new slots
tried_room old xs new slots true e a = a
tried_room old xs new slots false e a = absurd (false≢true e)

pub tried_full : (old xs new slots : List ℕ) (room : Bool) → room ≡ false → HasTried room old xs new slots → HasNoRoom old xs new slots
tried_full old xs new slots true e a = absurd (false≢true (sym e))
tried_full old xs new slots false e a = a

-- more members than there is room for
pub over_full : (P : ℕ → Type 0) (old xs new slots : List ℕ) → HasNoRoom old xs new slots → ((i : ℕ) → Contains old i ⊎ Contains xs i → P i) → HasOver 256 P
over_full P old xs new slots a all =
    let F = a.full in
    let n = F.count in
    let m = length_push new F.extra in
    record { members = new ++ F.extra ∷ []; apart = apart; bound = omega arith; each = λ x c. by x (Contains-push_cases new F.extra x c) }
  where
    by : (x : ℕ) → Contains new x ⊎ (a.full.extra ≡ x) → P x
    by x (inl c) = all x (a.full.each x c)
    by x (inr e) = all x (inr (subst (Contains xs) e a.full.among))

    apart : AreDifferent (new ++ a.full.extra ∷ [])
    apart i j lt lj e = at (cases_lt j (length new))
      where
        left : (k : ℕ) → k < length new → get_or (new ++ a.full.extra ∷ []) k 0 ≡ get_or new k 0
        left k q = get_or_append_left new (a.full.extra ∷ []) 0 k q

        at : (j < length new) ⊎ (length new ≤ j) → ⊥
        at (inl q) = apart_from_indexed new slots a.indexed i j lt q (sym (left i (omega arith)) ∙ e ∙ left j q)
        at (inr q) =
            let m = length_push new a.full.extra in
            let last : length new ≡ j = omega arith in
            let p : i < length new = omega arith in
            a.full.absent (subst (Contains new) (sym (left i p) ∙ e ∙ get_or_push new a.full.extra 0 j last) (Contains-get_or new i 0 p))

-- what holds of a search that has gone through the numbers before next
pub record Searching (rows : List (List ℕ)) (h : ℕ) (us : List ℕ) (next : ℕ) (found slots : List ℕ) : Type 0 where
  pub from : 1 ≤ next
  pub to : next ≤ length found
  pub head : get_or found 0 0 ≡ h
  pub bound : length found ≤ 256
  pub indexed : IsIndexed found slots
  pub sound : (i : ℕ) → Contains found i → InPlaces rows h us i
  pub sources : (u : ℕ) → Contains us u → Contains found u
  pub done : (k : ℕ) → 0 < k → k < next → (i : ℕ) → RowLeads rows i (get_or found k 0) → Contains found i

at_source : (rows : List (List ℕ)) (h : ℕ) (us : List ℕ) (i : ℕ) → Contains us i → InPlaces rows h us i
at_source rows h us i c = by (cases_eq i h)
  where
    by : (i ≡ h) ⊎ (i ≢ h) → InPlaces rows h us i
    by (inl f) = inl f
    by (inr ne) = inr (record { source = i; among = c; way = stop (RowLeads rows) (λ j. j ≢ h) i ne })

starts_at : (rows : List (List ℕ)) (h : ℕ) (us : List ℕ) (i : ℕ) → Contains (h ∷ []) i ⊎ Contains us i → InPlaces rows h us i
starts_at rows h us i (inl c) = inl (sym (alone h i c))
starts_at rows h us i (inr c) = at_source rows h us i c

pub search_started : (rows : List (List ℕ)) (h : ℕ) (us found slots : List ℕ) → HasRoom (h ∷ []) us found slots → Searching rows h us 1 found slots
search_started rows h us found slots a = record { from = omega arith; to = a.grown.longer; head = a.grown.same 0 (omega arith); bound = a.bound; indexed = a.indexed; sound = λ i c. starts_at rows h us i (a.grown.each i c); sources = a.grown.every; done = λ k l m. absurd (omega arith) }

pub search_overfull : (rows : List (List ℕ)) (h : ℕ) (us found slots : List ℕ) → HasNoRoom (h ∷ []) us found slots → HasOver 256 (InPlaces rows h us)
search_overfull rows h us found slots a = over_full (InPlaces rows h us) (h ∷ []) us found slots a (starts_at rows h us)

before_next : (rows : List (List ℕ)) (h : ℕ) (us : List ℕ) (y z : ℕ) → z ≢ h → RowLeads rows y z → InPlaces rows h us z → InPlaces rows h us y
before_next rows h us y z ne lead (inl e) = absurd (ne e)
before_next rows h us y z ne lead (inr r) = by (cases_eq y h)
  where
    by : (y ≡ h) ⊎ (y ≢ h) → InPlaces rows h us y
    by (inl e) = inl e
    by (inr n) = inr (record { source = r.source; among = r.among; way = step (RowLeads rows) (λ j. j ≢ h) y z r.source n lead r.way })

-- behind the first number the header does not stand again
not_header : (rows : List (List ℕ)) (h : ℕ) (us : List ℕ) (next : ℕ) (found slots : List ℕ) → Searching rows h us next found slots → (k : ℕ) → 0 < k → k < length found → get_or found k 0 ≢ h
not_header rows h us next found slots s k l m e =
    let same = slot_of found slots s.indexed k 0 m (omega arith) (e ∙ sym s.head) in
    omega arith

module _ (rows : List (List ℕ)) (h : ℕ) (us : List ℕ) (next : ℕ) (found slots : List ℕ) (s : Searching rows h us next found slots) (more : next < length found) where
  next_sound : (i : ℕ) → Contains found i ⊎ Contains (row_at rows (get_or found next 0)) i → InPlaces rows h us i
  next_sound i (inl c) = s.sound i c
  next_sound i (inr c) =
      let f = s.from in
      before_next rows h us i (get_or found next 0) (not_header rows h us next found slots s next (omega arith) more) c (s.sound (get_or found next 0) (Contains-get_or found next 0 more))

  pub search_more : (new slots' : List ℕ) → HasRoom found (row_at rows (get_or found next 0)) new slots' → Searching rows h us (next + 1) new slots'
  search_more new slots' a =
      let n = a.grown.longer in
      let f = s.from in
      record { from = omega arith; to = omega arith; head = a.grown.same 0 (omega arith) ∙ s.head; bound = a.bound; indexed = a.indexed; sound = λ i c. next_sound i (a.grown.each i c); sources = λ u c. kept found (row_at rows (get_or found next 0)) new a.grown u (s.sources u c); done = done }
    where
      done : (k : ℕ) → 0 < k → k < next + 1 → (i : ℕ) → RowLeads rows i (get_or new k 0) → Contains new i
      done k l m i lead = by (cases_lt k next)
        where
          same : k ≤ next → get_or new k 0 ≡ get_or found k 0
          same q = a.grown.same k (omega arith)

          by : (k < next) ⊎ (next ≤ k) → Contains new i
          by (inl q) = kept found (row_at rows (get_or found next 0)) new a.grown i (s.done k l q i (subst (λ (z : ℕ). RowLeads rows i z) (same (omega arith)) lead))
          by (inr q) =
              let e : k ≡ next = omega arith in
              a.grown.every i (subst (λ (z : ℕ). RowLeads rows i z) (same (omega arith) ∙ ap (λ z. get_or found z 0) e) lead)

  pub search_full : (new slots' : List ℕ) → HasNoRoom found (row_at rows (get_or found next 0)) new slots' → HasOver 256 (InPlaces rows h us)
  search_full new slots' a = over_full (InPlaces rows h us) found (row_at rows (get_or found next 0)) new slots' a next_sound

pub search_done : (rows : List (List ℕ)) (h : ℕ) (us : List ℕ) (next : ℕ) (found slots : List ℕ) → Searching rows h us next found slots → length found ≤ next → AreFew (InPlaces rows h us) found
search_done rows h us next found slots s end = (s.bound, record { each = s.sound; every = every })
  where
    head : Contains found h
    head = let f = s.from in let t = s.to in subst (Contains found) s.head (Contains-get_or found 0 0 (omega arith))

    prior : (x y : ℕ) → x ≢ h → RowLeads rows x y → y ≢ h → Contains found y → Contains found x
    prior x y nx lead ny c = at (cases_eq c.0 0)
      where
        value : get_or found c.0 0 ≡ y
        value = get_or_default found c.0 0 y c.1 ∙ c.2

        at : (c.0 ≡ 0) ⊎ (c.0 ≢ 0) → Contains found x
        at (inl e) = absurd (ny (sym value ∙ ap (λ q. get_or found q 0) e ∙ s.head))
        at (inr ne) =
            let l = c.1 in
            s.done c.0 (omega arith) (omega arith) x (subst (λ (z : ℕ). RowLeads rows x z) (sym value) lead)

    every : (i : ℕ) → InPlaces rows h us i → Contains found i
    every i (inl e) = subst (Contains found) (sym e) head
    every i (inr r) = backward (RowLeads rows) (λ j. j ≢ h) (Contains found) r.source (s.sources r.source r.among) prior i r.way
