-- Tests that load: the log grows by the loads.
use Rattle.std.proofs.Common.{◌≡◌, ℕ, refl, sym, subst, Bool, true, false, List, [], ◌∷◌, ◌++◌, append_assoc, append-nil}
use Rattle.std.specs.Prelude.{◌&&◌}
use Rattle.rv64_decode.specs.Ask.{Ask}
use Rattle.rv64_decode.specs.declared.xinstr.XInstr.{XInstr}
use Rattle.stub_laws.specs.Places.{behind}
use Rattle.stub_laws.proofs.Steps.{World, Wins, Stands, behind-append, stands_front, stands_back}
use Rattle.stub_laws.proofs.Known.{Knows, also}
use Rattle.stub_laws.proofs.Tests.{State, IsTest, Known, codes, every}

abbrev pub at : World → List Ask → World
at w l = record w { log = l }

-- from `before` these instructions come to their end with `after` and these loads made where the test holds, and to the open target where it fails
pub record IsLoading (w : World) (failing before after : State) (is : List XInstr) (b : Bool) (loads : List Ask) : Type 0 where
  pub by : (l : List Ask) (p : ℕ) (f g : ℕ → ℕ) → before f g → Stands w p is
      → (b ≡ true → (f' g' : ℕ → ℕ) → after f' g' → Wins (at w (l ++ loads)) (behind p is) f' g')
      → (b ≡ false → (l' : List Ask) (f' g' : ℕ → ℕ) → failing f' g' → Wins (at w l') w.no f' g')
      → Wins (at w l) p f g

-- a test that loads nothing
pub lifted : (w : World) (z b c : State) (is : List XInstr) (t : Bool) → ((l : List Ask) → IsTest (at w l) z b c is t) → IsLoading w z b c is t []
lifted w z b c is t h = record {
  by = λ l p f g x has on off. (h l).by p f g x has
      (λ y f' g' q. subst (λ k. Wins (at w k) (behind p is) f' g') (append-nil l) (on y f' g' q))
      (λ y f' g' q. off y l f' g' q);
}

pub both_loading : (w : World) (z a b c : State) (is js : List XInstr) (t u : Bool) (m n : List Ask) → IsLoading w z a b is t m → (t ≡ true → IsLoading w z b c js u n) → IsLoading w z a c (is ++ js) (t && u) (m ++ n)
both_loading w z a b c is js t u m n first second = record {
  by = λ l p f g x has on off.
      first.by l p f g x (stands_front w p is js has)
      (λ h f' g' y. (second h).by (l ++ m) (behind p is) f' g' y (stands_back w p is js has)
      (λ k f'' g'' v. subst (λ r. Wins (at w r) (behind (behind p is) js) f'' g'') (sym (append_assoc l m n)) (subst (λ r. Wins (at w (l ++ (m ++ n))) r f'' g'') (behind-append p is js) (on (rw (h, k) refl) f'' g'' v)))
      (λ k l' f'' g'' v. off (rw (h, k) refl) l' f'' g'' v))
      (λ h l' f' g' y. off (rw h refl) l' f' g' y);
}

pub weaker_fail : (w : World) (z z' b c : State) (is : List XInstr) (t : Bool) (m : List Ask) → ((f g : ℕ → ℕ) → z f g → z' f g) → IsLoading w z b c is t m → IsLoading w z' b c is t m
weaker_fail w z z' b c is t m h k = record { by = λ l p f g x has on off. k.by l p f g x has on (λ y l' f' g' v. off y l' f' g' (h f' g' v)) }

pub less_known : (known : ℕ → Bool) (e f g : ℕ → ℕ) (new : ℕ) → Knows (also known new) e f g → Knows known e f g
less_known known e f g new k = record { each = λ loc h. k.each loc (rw h refl); small = k.small }

-- what is known after a list, each element of which adds a location
abbrev pub known_after : {X : Type 0} → (X → ℕ) → (ℕ → Bool) → List X → ℕ → Bool
known_after new known [] = known
known_after new known (x ∷ xs) = known_after new (also known (new x)) xs

abbrev pub EachKnown : {X : Type 0} → (X → ℕ) → ((ℕ → Bool) → X → Type 0) → (ℕ → Bool) → List X → Type 0
EachKnown new Fine known [] = Unit {0}
EachKnown new Fine known (x ∷ xs) = Fine known x × EachKnown new Fine (also known (new x)) xs

abbrev pub all_loads : {X : Type 0} → (X → List Ask) → List X → List Ask
all_loads loads [] = []
all_loads loads (x ∷ xs) = loads x ++ all_loads loads xs

pub grow_law : {X : Type 0} (w : World) (e : ℕ → ℕ) (code : X → List XInstr) (test : X → Bool) (loads : X → List Ask) (new : X → ℕ) (Fine : (ℕ → Bool) → X → Type 0)
    → ((known : ℕ → Bool) (x : X) → Fine known x → IsLoading w (Known known e) (Known known e) (Known (also known (new x)) e) (code x) (test x) (loads x))
    → (known : ℕ → Bool) (xs : List X) → EachKnown new Fine known xs → IsLoading w (Known known e) (Known known e) (Known (known_after new known xs) e) (codes code xs) (every test xs) (all_loads loads xs)
grow_law w e code test loads new Fine one known [] ok = lifted w (Known known e) (Known known e) (Known known e) [] true (λ l. record { by = λ p f g x has on off. on refl f g x })
grow_law w e code test loads new Fine one known (x ∷ xs) ok =
    let next = also known (new x) in
    both_loading w (Known known e) (Known known e) (Known next e) (Known (known_after new next xs) e) (code x) (codes code xs) (test x) (every test xs) (loads x) (all_loads loads xs)
    (one known x ok.0)
    (λ h. weaker_fail w (Known next e) (Known known e) (Known next e) (Known (known_after new next xs) e) (codes code xs) (every test xs) (all_loads loads xs) (λ f g k. less_known known e f g (new x) k) (grow_law w e code test loads new Fine one next xs ok.1))
