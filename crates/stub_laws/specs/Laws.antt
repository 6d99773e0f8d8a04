-- What holds of every run of added code. Code has at most 2 ^ 32 words.
use Rattle.std.specs.Prelude.{ℕ, ◌≡◌, ◌+◌, ◌<◌, ◌≤◌, ◌^◌, List, length, Some, slice_get, slice_index}
use Rattle.std.specs.List.{All}
use Rattle.rv64_decode.specs.Aim.{Aimed}
use Rattle.rv64_decode.specs.Hart.{Hart, address, run}
use Rattle.rv64_decode.specs.declared.xinstr.XInstr.{XInstr}
use Rattle.stub_laws.specs.Code.{readings, somes}
use Rattle.stub_laws.specs.Places.{StandsIn, WordsAt, behind}
use Rattle.stub_laws.specs.Straight.{AreSimple}
use Rattle.stub_laws.specs.Harts.{IsHartAt, Passed}

-- words that stand for instructions stand in the code, aimed elsewhere but by the same distance: so these instructions do
abbrev pub StandLaw : Type 0
StandLaw = (code : List ℕ) (p no to k : ℕ) (words : List ℕ) (is : List XInstr) → no + k ≡ to + p
    → WordsAt code p to k words → readings words ≡ somes is → StandsIn code no p is

-- words that were aimed from place k of a list on, and stand in the code from place p on, stand there as such words
abbrev pub AimedLaw : Type 0
AimedLaw = (code words aimed : List ℕ) (to p k : ℕ) → All (λ w. w < 2 ^ 32) words → length aimed ≡ length words
    → ((j : ℕ) → j < length words → slice_get code (p + j) ≡ Some (slice_index aimed j))
    → ((j : ℕ) → j < length words → Aimed to (k + j) (slice_index words j) (slice_index aimed j))
    → WordsAt code p to k words

-- simple instructions that stand in the code are executed one after the other
abbrev pub StraightLaw : Type 0
StraightLaw = (code : List ℕ) (to p : ℕ) (is : List XInstr) (h : Hart) → length code ≤ 2 ^ 32 → AreSimple is
    → StandsIn code to p is → IsHartAt p h → (n : ℕ) × Passed is h (behind p is) (run code n h)

-- a hart that comes to places behind the code comes to one alone
abbrev pub OneEndLaw : Type 0
OneEndLaw = (code : List ℕ) (n m q r : ℕ) (h : Hart) → length code ≤ q → length code ≤ r
    → (run code n h).pc ≡ address q → (run code m h).pc ≡ address r → q ≡ r
