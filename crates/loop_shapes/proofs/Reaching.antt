-- The steps of a search forwards.
use Rattle.std.proofs.Common.{◌≡◌, ℕ, ◌+◌, ◌<◌, ◌≤◌, ◌⊎◌, ◌↔◌, inl, inr, List, [], ◌∷◌, ◌++◌, length, get_or, take, refl, ap, sym, ◌∙◌, subst, arith}
use Rattle.std.specs.List.{Contains}
use Rattle.std.proofs.lemmas.Bool.{cases_lt}
use Rattle.std.proofs.lemmas.List.{get_or_append_left, get_or_push, length_push, get_or_default}
use Rattle.std.proofs.lemmas.List.Elements.{Contains-push, Contains-push_cases, Contains-get_or}
use Rattle.loop_data.specs.declared.graph.Graph.{Graph}
use Rattle.loop_data.specs.Paths.{Leads, Reaches}
use Rattle.loop_shapes.specs.Sets.{AreDifferent}
use Rattle.loop_shapes.specs.Gains.{HasAll}
use Rattle.loop_shapes.specs.Reach.{IsNew, Extended}
use Rattle.loop_data.proofs.Ways.{stop, further, forward, starts_in, ends_in}
use Rattle.loop_data.proofs.Lists.{no_longer, apart_from_places, from_in}
use Rattle.loop_shapes.proofs.Rows.{none_in, alone, contains_more}

-- a number that is not there yet stands at the end
pub apart_push : (xs : List ℕ) (y : ℕ) → (Contains xs y → ⊥) → AreDifferent xs → AreDifferent (xs ++ y ∷ [])
apart_push xs y absent a i j lt lj e = by (cases_lt j (length xs))
  where
    left : (k : ℕ) → k < length xs → get_or (xs ++ y ∷ []) k 0 ≡ get_or xs k 0
    left k q = get_or_append_left xs (y ∷ []) 0 k q

    by : (j < length xs) ⊎ (length xs ≤ j) → ⊥
    by (inl q) = a i j lt q (sym (left i (omega arith)) ∙ e ∙ left j q)
    by (inr q) =
        let m = length_push xs y in
        let last : length xs ≡ j = omega arith in
        let p : i < length xs = omega arith in
        absent (subst (Contains xs) (sym (left i p) ∙ e ∙ get_or_push xs y 0 j last) (Contains-get_or xs i 0 p))

pub extended_push : (set old new : List ℕ) (y : ℕ) → Contains set y → (Contains old y → ⊥) → new ≡ old ++ y ∷ [] → Extended set (y ∷ []) old new
extended_push set old new y inside absent e =
    let m = length_push old y in
    subst (Extended set (y ∷ []) old) (sym e) (record { longer = omega arith; same = λ k l. get_or_append_left old (y ∷ []) 0 k l; each = λ z c. by z (Contains-push_cases old y z c); every = λ z q. subst (Contains (old ++ y ∷ [])) (alone y z q.among) (Contains-push old y); apart = apart_push old y absent })
  where
    by : (z : ℕ) → Contains old z ⊎ (y ≡ z) → Contains old z ⊎ IsNew set (y ∷ []) z
    by z (inl c) = inl c
    by z (inr q) = inr (record { inside = subst (Contains set) q inside; among = from_in (y ∷ []) z (inl q) })

pub kept_on : (set ys old new : List ℕ) → Extended set ys old new → (y : ℕ) → Contains old y → Contains new y
kept_on set ys old new g y c =
    let l = c.1 in
    let m = g.longer in
    let e : get_or new c.0 0 ≡ y = g.same c.0 c.1 ∙ get_or_default old c.0 0 y c.1 ∙ c.2 in
    subst (Contains new) e (Contains-get_or new c.0 0 (omega arith))

pub extended_more : (set ys : List ℕ) (i : ℕ) (old mid new : List ℕ) → i < length ys → Extended set (take i ys) old mid → Extended set (get_or ys i 0 ∷ []) mid new → Extended set (take (i + 1) ys) old new
extended_more set ys i old mid new l a b =
    let al = a.longer in
    let bl = b.longer in
    record { longer = omega arith; same = λ k q. b.same k (omega arith) ∙ a.same k q; each = λ y c. one y (b.each y c); every = λ y q. other y q ((contains_more ys i l y).0 q.among); apart = λ q. b.apart (a.apart q) }
  where
    first : (y : ℕ) → Contains old y ⊎ IsNew set (take i ys) y → Contains old y ⊎ IsNew set (take (i + 1) ys) y
    first y (inl c) = inl c
    first y (inr q) = inr (record { inside = q.inside; among = (contains_more ys i l y).1 (inl q.among) })

    one : (y : ℕ) → Contains mid y ⊎ IsNew set (get_or ys i 0 ∷ []) y → Contains old y ⊎ IsNew set (take (i + 1) ys) y
    one y (inl c) = first y (a.each y c)
    one y (inr q) = inr (record { inside = q.inside; among = (contains_more ys i l y).1 (inr (sym (alone (get_or ys i 0) y q.among))) })

    other : (y : ℕ) → IsNew set (take (i + 1) ys) y → Contains (take i ys) y ⊎ (y ≡ get_or ys i 0) → Contains new y
    other y q (inl c) = kept_on set (get_or ys i 0 ∷ []) mid new b y (a.every y (record { inside = q.inside; among = c }))
    other y q (inr e) = b.every y (record { inside = q.inside; among = from_in (get_or ys i 0 ∷ []) y (inl (sym e)) })

-- what holds of a search that has gone through the addresses before next
pub record Reaching (G : Graph) (set : List ℕ) (start next : ℕ) (reached : List ℕ) : Type 0 where
  pub apart : AreDifferent reached
  pub to : next ≤ length reached
  pub bound : length reached ≤ length set
  pub sound : (x : ℕ) → Contains reached x → Reaches (Leads G) (Contains set) start x
  pub start_in : Contains set start → Contains reached start
  pub done : (k : ℕ) → k < next → (y : ℕ) → Leads G (get_or reached k 0) y → Contains set y → Contains reached y

bounded : (G : Graph) (set : List ℕ) (start : ℕ) (reached : List ℕ) → AreDifferent reached → ((x : ℕ) → Contains reached x → Contains set x) → length reached ≤ length set
bounded G set start reached a f = no_longer reached set (apart_from_places reached a) f

pub reaching_started : (G : Graph) (set : List ℕ) (start : ℕ) (old new : List ℕ) → old ≡ [] → Extended set (start ∷ []) old new → Reaching G set start 0 new
reaching_started G set start old new e x = record { apart = x.apart (subst AreDifferent (sym e) (λ i j lt lj. absurd (omega arith))); to = omega arith; bound = bounded G set start new (x.apart (subst AreDifferent (sym e) (λ i j lt lj. absurd (omega arith)))) inside; sound = λ y c. subst (Reaches (Leads G) (Contains set) start) (is y c) (stop (Leads G) (Contains set) start (subst (Contains set) (sym (is y c)) (inside y c))); start_in = λ c. x.every start (record { inside = c; among = from_in (start ∷ []) start (inl refl) }); done = λ k l. absurd (omega arith) }
  where
    by : (y : ℕ) → Contains old y ⊎ IsNew set (start ∷ []) y → IsNew set (start ∷ []) y
    by y (inl c) = none_in y (subst (λ (xs : List ℕ). Contains xs y) e c)
    by y (inr q) = q

    inside : (y : ℕ) → Contains new y → Contains set y
    inside y c = (by y (x.each y c)).inside

    is : (y : ℕ) → Contains new y → start ≡ y
    is y c = alone start y (by y (x.each y c)).among

pub reaching_more : (G : Graph) (set : List ℕ) (start next : ℕ) (old steps new : List ℕ) → next < length old → Reaching G set start next old → ((y : ℕ) → Contains steps y ↔ Leads G (get_or old next 0) y) → Extended set steps old new → Reaching G set start (next + 1) new
reaching_more G set start next old steps new l r exact x =
    let m = x.longer in
    record { apart = x.apart r.apart; to = omega arith; bound = bounded G set start new (x.apart r.apart) (λ y c. inside y (sound y c)); sound = sound; start_in = λ c. kept_on set steps old new x start (r.start_in c); done = done }
  where
    by : (y : ℕ) → Contains old y ⊎ IsNew set steps y → Reaches (Leads G) (Contains set) start y
    by y (inl c) = r.sound y c
    by y (inr q) =
        let before = r.sound (get_or old next 0) (Contains-get_or old next 0 l) in
        further start (get_or old next 0) y before ((exact y).0 q.among) (ends_in start (get_or old next 0) before) q.inside

    sound : (y : ℕ) → Contains new y → Reaches (Leads G) (Contains set) start y
    sound y c = by y (x.each y c)

    inside : (y : ℕ) → Reaches (Leads G) (Contains set) start y → Contains set y
    inside y w = ends_in start y w

    done : (k : ℕ) → k < next + 1 → (y : ℕ) → Leads G (get_or new k 0) y → Contains set y → Contains new y
    done k q y lead c = at (cases_lt k next)
      where
        same : k ≤ next → get_or new k 0 ≡ get_or old k 0
        same p = x.same k (omega arith)

        at : (k < next) ⊎ (next ≤ k) → Contains new y
        at (inl p) = kept_on set steps old new x y (r.done k p y (subst (λ (z : ℕ). Leads G z y) (same (omega arith)) lead) c)
        at (inr p) =
            let e : k ≡ next = omega arith in
            x.every y (record { inside = c; among = (exact y).1 (subst (λ (z : ℕ). Leads G z y) (same (omega arith) ∙ ap (λ z. get_or old z 0) e) lead) })

pub reaching_done : (G : Graph) (set : List ℕ) (start next : ℕ) (reached : List ℕ) → length reached ≤ next → Reaching G set start next reached → HasAll (Reaches (Leads G) (Contains set) start) reached
reaching_done G set start next reached l r = record { each = r.sound; every = λ x w. forward (Leads G) (Contains set) (Contains reached) start (r.start_in (starts_in start x w)) (λ y z p lead q c. on y z lead q c) x w }
  where
    on : (y z : ℕ) → Leads G y z → Contains set z → Contains reached y → Contains reached z
    on y z lead q c =
        let m = c.1 in
        let is : get_or reached c.0 0 ≡ y = get_or_default reached c.0 0 y c.1 ∙ c.2 in
        r.done c.0 (omega arith) z (subst (λ (k : ℕ). Leads G k z) (sym is) lead) q
