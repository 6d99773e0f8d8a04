-- Tests as instructions: they come to their end where the test holds, and to an open target where it fails.
use Rattle.std.proofs.Common.{◌≡◌, ℕ, refl, sym, subst, ◌∙◌, Bool, true, false, List, [], ◌∷◌, ◌++◌}
use Rattle.std.specs.Prelude.{◌&&◌}
use Rattle.rv64_decode.specs.declared.xinstr.XInstr.{XInstr}
use Rattle.stub_laws.specs.Places.{behind}
use Rattle.stub_laws.specs.Straight.{read, AreSimple, all_registers, all_slots}
use Rattle.stub_laws.proofs.Steps.{World, Wins, Stands, behind-append, stands_front, stands_back}
use Rattle.stub_laws.proofs.Known.{Knows}
use Rattle.stub_laws.proofs.Straight.{straight_law}

-- registers and slots of which something is known
abbrev pub State : Type 1
State = (ℕ → ℕ) → (ℕ → ℕ) → Type 0

-- from `before` these instructions come to their end with `after` where the test holds, and to the open target with `failing` where it fails
pub record IsTest (w : World) (failing before after : State) (is : List XInstr) (b : Bool) : Type 0 where
  pub by : (p : ℕ) (f g : ℕ → ℕ) → before f g → Stands w p is
      → (b ≡ true → (f' g' : ℕ → ℕ) → after f' g' → Wins w (behind p is) f' g')
      → (b ≡ false → (f' g' : ℕ → ℕ) → failing f' g' → Wins w w.no f' g')
      → Wins w p f g

-- one test after the other, which may use that the first one holds
pub both : (w : World) (z a b c : State) (is js : List XInstr) (t u : Bool) → IsTest w z a b is t → (t ≡ true → IsTest w z b c js u) → IsTest w z a c (is ++ js) (t && u)
both w z a b c is js t u first second = record {
  by = λ p f g x has on off.
      first.by p f g x (stands_front w p is js has)
      (λ h f' g' y. (second h).by (behind p is) f' g' y (stands_back w p is js has)
      (λ k f'' g'' v. subst (λ n. Wins w n f'' g'') (behind-append p is js) (on (rw (h, k) refl) f'' g'' v))
      (λ k f'' g'' v. off (rw (h, k) refl) f'' g'' v))
      (λ h f' g' y. off (rw h refl) f' g' y);
}

-- the known locations hold these values
abbrev pub Known : (ℕ → Bool) → (ℕ → ℕ) → State
Known known e f g = Knows known e f g

-- each element of a list has a property
abbrev pub Each : {X : Type 0} → (X → Type 0) → List X → Type 0
Each Ok [] = Unit {0}
Each Ok (x ∷ xs) = Ok x × Each Ok xs

-- the instructions for each element, in order
abbrev pub codes : {X : Type 0} → (X → List XInstr) → List X → List XInstr
codes code [] = []
codes code (x ∷ xs) = code x ++ codes code xs

-- every element passes the test
abbrev pub every : {X : Type 0} → (X → Bool) → List X → Bool
every test [] = true
every test (x ∷ xs) = test x && every test xs

nothing : (w : World) (z a : State) → IsTest w z a a [] true
nothing w z a = record { by = λ p f g x has on off. on refl f g x }

-- the tests of a list, in order: the list fails at the first that fails
pub each_law : {X : Type 0} (w : World) (z a : State) (code : X → List XInstr) (test : X → Bool) (Ok : X → Type 0) → ((x : X) → Ok x → IsTest w z a a (code x) (test x)) → (xs : List X) → Each Ok xs → IsTest w z a a (codes code xs) (every test xs)
each_law w z a code test Ok one [] ok = nothing w z a
each_law w z a code test Ok one (x ∷ xs) ok = both w z a a a (code x) (codes code xs) (test x) (every test xs) (one x ok.0) (λ h. each_law w z a code test Ok one xs ok.1)

-- straight code between two states
pub straight_test : (w : World) (z b c : State) (is : List XInstr) → AreSimple is → ((f g : ℕ → ℕ) → b f g → c (all_registers is f g) (all_slots is f g)) → IsTest w z b c is true
straight_test w z b c is x leads = record { by = λ p f g y has on off. straight_law w is p f g x has (on refl _ _ (leads f g y)) }

-- a test under another name
pub same_test : (w : World) (z b c : State) (is : List XInstr) (t u : Bool) → t ≡ u → IsTest w z b c is t → IsTest w z b c is u
same_test w z b c is t u e h = record { by = λ p f g x has on off. h.by p f g x has (λ y. on (sym e ∙ y)) (λ y. off (sym e ∙ y)) }

-- from a state in which more is known
pub stronger : (w : World) (z a b c : State) (is : List XInstr) (t : Bool) → ((f g : ℕ → ℕ) → a f g → b f g) → IsTest w z b c is t → IsTest w z a c is t
stronger w z a b c is t h k = record { by = λ p f g x has on off. k.by p f g (h f g x) has on off }

-- a register has a value, in a state
abbrev pub With : ℕ → ℕ → State → State
With r v s f g = (read f r ≡ v) × s f g
