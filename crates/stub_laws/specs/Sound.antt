-- A hart that holds words, and its memory bytes: whatever it executes, it does so still.
use Rattle.std.specs.Prelude.{ℕ, ◌≡◌, ◌<◌, ◌^◌, List}
use Rattle.std.specs.List.{All}
use Rattle.rv64_decode.specs.Hart.{Hart, run}
use Rattle.rv64_decode.specs.Range.{AreWords, AreBytes}
use Rattle.stub_laws.specs.Harts.{AreSlots}

-- its registers and slots, its number and that of the harts are words, and the bytes of its memory bytes
pub record IsSound (h : Hart) : Type 0 where
  pub registers : AreWords h.regs
  pub slots : AreSlots h.slots
  pub bytes : AreBytes h.memory
  pub number : h.number < 2 ^ 64
  pub harts : h.harts < 2 ^ 64

-- the second hart is the first some time after: it is so still, and has the same number among as many
pub record StaysSound (h now : Hart) : Type 0 where
  pub sound : IsSound now
  pub number : now.number ≡ h.number
  pub harts : now.harts ≡ h.harts

abbrev pub SoundLaw : Type 0
SoundLaw = (code : List ℕ) (n : ℕ) (h : Hart) → All (λ w. w < 2 ^ 32) code → IsSound h → StaysSound h (run code n h)
