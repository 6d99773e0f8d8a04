-- Lists that gain the members of a set, in a loop.
use Rattle.std.proofs.Common.{◌≡◌, ℕ, ◌+◌, ◌<◌, ◌≤◌, ◌⊎◌, ◌↔◌, inl, inr, List, [], ◌∷◌, ◌++◌, length, get_or, take, refl, sym, ◌∙◌, subst, arith}
use Rattle.std.specs.List.{Contains}
use Rattle.std.proofs.lemmas.List.{take_all}
use Rattle.std.proofs.lemmas.List.Elements.{Contains-push, Contains-push_cases, Contains-append_left, Contains-get_or}
use Rattle.loop_shapes.specs.Gains.{Gained, HasAll, IsOnly}
use Rattle.loop_shapes.proofs.Rows.{none_in, contains_more}

-- e belongs to one of the numbers
pub record Among {X : Type 0} (P : ℕ → X → Type 0) (xs : List ℕ) (e : X) : Type 0 where
  pub from : ℕ
  pub among : Contains xs from
  pub holds : P from e

module _ {X : Type 0} where
  pub gained_push : (P : X → Type 0) (xs : List X) (e : X) → P e → ((f : X) → P f → f ≡ e) → Gained P xs (xs ++ e ∷ [])
  gained_push P xs e p same = record { each = λ f c. by f (Contains-push_cases xs e f c); kept = λ f c. Contains-append_left xs (e ∷ []) f c; every = λ f q. subst (Contains (xs ++ e ∷ [])) (sym (same f q)) (Contains-push xs e) }
    where
      by : (f : X) → Contains xs f ⊎ (e ≡ f) → Contains xs f ⊎ P f
      by f (inl c) = inl c
      by f (inr q) = inr (subst P q p)

  pub gained_same : (P : X → Type 0) (xs : List X) → ((f : X) → P f → ⊥) → Gained P xs xs
  gained_same P xs none = record { each = λ f c. inl c; kept = λ f c. c; every = λ f p. absurd (none f p) }

  pub gained_to : (P Q : X → Type 0) (old new : List X) → ((f : X) → P f ↔ Q f) → Gained P old new → Gained Q old new
  gained_to P Q old new same g = record { each = λ f c. by f (g.each f c); kept = g.kept; every = λ f q. g.every f ((same f).1 q) }
    where
      by : (f : X) → Contains old f ⊎ P f → Contains old f ⊎ Q f
      by f (inl c) = inl c
      by f (inr p) = inr ((same f).0 p)

  pub all_from_nothing : (P : X → Type 0) (xs : List X) → Gained P [] xs → HasAll P xs
  all_from_nothing P xs g = record { each = λ f c. by f (g.each f c); every = g.every }
    where
      by : (f : X) → Contains [] f ⊎ P f → P f
      by f (inl c) = let l = c.1 in absurd (omega arith)
      by f (inr p) = p

  pub gained_none : (P : ℕ → X → Type 0) (xs : List X) → Gained (Among P []) xs xs
  gained_none P xs = gained_same (Among P []) xs (λ f a. none_in a.from a.among)

  pub gained_more : (P : ℕ → X → Type 0) (ys : List ℕ) (i : ℕ) (old mid new : List X) → i < length ys → Gained (Among P (take i ys)) old mid → Gained (P (get_or ys i 0)) mid new → Gained (Among P (take (i + 1) ys)) old new
  gained_more P ys i old mid new l a b = record { each = λ f c. one f (b.each f c); kept = λ f c. b.kept f (a.kept f c); every = λ f q. other f q ((contains_more ys i l q.from).0 q.among) }
    where
      first : (f : X) → Contains old f ⊎ Among P (take i ys) f → Contains old f ⊎ Among P (take (i + 1) ys) f
      first f (inl c) = inl c
      first f (inr q) = inr (record { from = q.from; among = (contains_more ys i l q.from).1 (inl q.among); holds = q.holds })

      one : (f : X) → Contains mid f ⊎ P (get_or ys i 0) f → Contains old f ⊎ Among P (take (i + 1) ys) f
      one f (inl c) = first f (a.each f c)
      one f (inr p) = inr (record { from = get_or ys i 0; among = (contains_more ys i l (get_or ys i 0)).1 (inr refl); holds = p })

      other : (f : X) (q : Among P (take (i + 1) ys) f) → Contains (take i ys) q.from ⊎ (q.from ≡ get_or ys i 0) → Contains new f
      other f q (inl c) = b.kept f (a.every f (record { from = q.from; among = c; holds = q.holds }))
      other f q (inr e) = b.every f (subst (λ (k : ℕ). P k f) e q.holds)

  pub gained_all : (P : ℕ → X → Type 0) (ys : List ℕ) (i : ℕ) (old new : List X) → length ys ≤ i → Gained (Among P (take i ys)) old new → Gained (Among P ys) old new
  gained_all P ys i old new l g = subst (λ (zs : List ℕ). Gained (Among P zs) old new) (take_all i ys l) g

  -- of two different elements none is the only one
  pub not_only : (xs : List X) (i j : ℕ) (d : X) → i < length xs → j < length xs → (get_or xs i d ≡ get_or xs j d → ⊥) → (e : X) → IsOnly xs e → ⊥
  not_only xs i j d li lj ne e o = ne (o.same (get_or xs i d) (Contains-get_or xs i d li) ∙ sym (o.same (get_or xs j d) (Contains-get_or xs j d lj)))
