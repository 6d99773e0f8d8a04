-- Addresses that were chosen one by one.
use Rattle.std.proofs.Common.{◌≡◌, ℕ, ◌↔◌, List, [], length, ◌≤◌, take, refl, sym, subst}
use Rattle.std.specs.List.{Contains}
use Rattle.loop_data.specs.Sets.{IsListOf}
use Rattle.loop_shapes.specs.Gains.{Gained, HasAll}
use Rattle.loop_shapes.specs.Difference.{InDifference}
use Rattle.loop_shapes.proofs.Gains.{Among, gained_all, gained_to, all_from_nothing}

pub listed : (P : ℕ → Type 0) (all xs : List ℕ) → HasAll P all → IsListOf (Contains all) xs → IsListOf P xs
listed P all xs h l = record { ordered = l.ordered; each = λ x c. h.each x (l.each x c); every = λ x p. l.every x (h.every x p) }

-- those of xs that pass a test
pub chosen : (P Q : ℕ → Type 0) (xs : List ℕ) (i : ℕ) (all ys : List ℕ) → length xs ≤ i → ((x : ℕ) → (Contains xs x × P x) ↔ Q x) → Gained (Among (λ (x z : ℕ). (z ≡ x) × P x) (take i xs)) [] all → IsListOf (Contains all) ys → IsListOf Q ys
chosen P Q xs i all ys l same g o = listed Q all ys (all_from_nothing Q all (gained_to (Among (λ (x z : ℕ). (z ≡ x) × P x) xs) Q [] all by (gained_all (λ (x z : ℕ). (z ≡ x) × P x) xs i [] all l g))) o
  where
    by : (z : ℕ) → Among (λ (x y : ℕ). (y ≡ x) × P x) xs z ↔ Q z
    by z = (λ a. (same z).0 (subst (Contains xs) (sym a.holds.0) a.among, subst P (sym a.holds.0) a.holds.1), λ q. record { from = z; among = ((same z).1 q).0; holds = (refl, ((same z).1 q).1) })

pub chosen_outside : (xs ys : List ℕ) (i : ℕ) (all zs : List ℕ) → length xs ≤ i → Gained (Among (λ (x z : ℕ). (z ≡ x) × ¬ Contains ys x) (take i xs)) [] all → IsListOf (Contains all) zs → IsListOf (InDifference xs ys) zs
chosen_outside xs ys i all zs l g o = chosen (λ x. ¬ Contains ys x) (InDifference xs ys) xs i all zs l (λ x. (λ p. record { among = p.0; absent = p.1 }, λ q. (q.among, q.absent))) g o
