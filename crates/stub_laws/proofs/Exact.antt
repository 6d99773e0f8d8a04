-- A run ends in one way.
use Rattle.std.proofs.Common.{◌≡◌, ℕ, zero, suc, ◌+◌, ◌-◌, ◌≤◌, refl, sym, ap, ◌∙◌, ⊎_elim, arith, None, List, length}
use Rattle.std.proofs.lemmas.Bool.{cases_lt}
use Rattle.std.proofs.lemmas.Option.{slice_get_past}
use Rattle.rv64_decode.specs.Hart.{Hart, address, fetched, read_by, act, run}
use Rattle.stub_laws.proofs.Places.{fetched_at}

past : (code : List ℕ) (q : ℕ) → length code ≤ q → fetched code (address q) ≡ None
past code q h = fetched_at code q ∙ ap read_by (slice_get_past code q h)

-- a hart behind the words stays there
stays : (code : List ℕ) (k q : ℕ) (h : Hart) → length code ≤ q → h.pc ≡ address q → run code k h ≡ h
unfolding run
stays code zero q h past_it at = refl
stays code (suc k) q h past_it at =
    let none : fetched code h.pc ≡ None = ap (fetched code) at ∙ past code q past_it in
    ap (λ o. run code k (act o h)) none ∙ stays code k q h past_it at

run_add : (code : List ℕ) (n k : ℕ) (h : Hart) → run code (n + k) h ≡ run code k (run code n h)
unfolding run
run_add code zero k h = let e : 0 + k ≡ k = omega arith in ap (λ m. run code m h) e
run_add code (suc n) k h = let e : suc n + k ≡ suc (n + k) = omega arith in ap (λ m. run code m h) e ∙ run_add code n k (act (fetched code h.pc) h)

later : (code : List ℕ) (n m q : ℕ) (h : Hart) → length code ≤ q → (run code n h).pc ≡ address q → n ≤ m → run code m h ≡ run code n h
later code n m q h past_it at le =
    let e : m ≡ n + (m - n) = omega arith in
    ap (λ k. run code k h) e ∙ run_add code n (m - n) h ∙ stays code (m - n) q (run code n h) past_it at

same_place : (q r : ℕ) → address q ≡ address r → q ≡ r
same_place q r e = omega arith

pub one_end : (code : List ℕ) (n m q r : ℕ) (h : Hart) → length code ≤ q → length code ≤ r → (run code n h).pc ≡ address q → (run code m h).pc ≡ address r → q ≡ r
one_end code n m q r h a b x y =
    ⊎_elim
    (λ lt. same_place q r (sym x ∙ ap (λ s. s.pc) (sym (later code n m q h a x (omega arith))) ∙ y))
    (λ le. same_place q r (sym x ∙ ap (λ s. s.pc) (later code m n r h b y le) ∙ y))
    (cases_lt n m)
