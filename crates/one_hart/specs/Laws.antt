-- What the machine with one hart does with an image: what the executable does.
use Rattle.std.specs.Prelude.{ℕ, ◌≡◌, ◌<◌, ◌⊎◌, List, [], IsSome, IsNone}
use Rattle.std.specs.List.{All}
use Rattle.elf_image.specs.Layout.{IsLoadable}
use Rattle.serial_run.specs.Sound.{HaveBytes}
use Rattle.serial_run.specs.Serial.{State as SerialState, start_of, serial, ended, IsEnding}
use Rattle.image_writer.specs.declared.image.Image.{Image}
use Rattle.hart_core.specs.Machine.{State}
use Rattle.hart_core.specs.Start.{start_state}
use Rattle.hart_core.specs.Alone.{events_alone}
use Rattle.loop_division.specs.Division.{IsDivision}

-- an image of an executable that can be loaded, of segments with bytes: its entries and its added words are those of the executable's division,
-- or there are no entries
pub record IsDivided (image : Image) : Type 0 where
  pub loadable : IsLoadable image.elf
  pub bytes : HaveBytes image.elf.segments
  pub entries : (image.entries ≡ []) ⊎ IsDivision image.elf image.entries image.code

abbrev pub AreBytes : List ℕ → Type 0
AreBytes input = All (λ (b : ℕ). b < 256) input

-- the machine comes to the ending of the serial state after so many events, and to none before
pub record EndsAs (s : State) (m : ℕ) (t : SerialState) : Type 0 where
  pub ending : (events_alone m s).core.ended ≡ ended t
  pub memory : (events_alone m s).core.memory ≡ t.machine.memory
  pub output : (events_alone m s).output ≡ t.output
  pub rest : (events_alone m s).rest ≡ t.rest
  pub first : (k : ℕ) → k < m → IsNone (events_alone k s).core.ended

-- where the run of the executable has an ending, the machine with one hart that runs its image comes to it
abbrev pub EndingLaw : Type 0
EndingLaw = (image : Image) (input : List ℕ) (n : ℕ) (t : SerialState) → IsDivided image → AreBytes input
    → IsEnding (start_of image.elf input) n t → (m : ℕ) × EndsAs (start_state image 1 input) m t

-- the machine has written and left unread what the serial state has, and has its ending if it has one; then also the
-- memory
pub record IsInStep (s : State) (t : SerialState) : Type 0 where
  pub output : s.output ≡ t.output
  pub rest : s.rest ≡ t.rest
  pub ending : s.core.ended ≡ ended t
  pub memory : IsSome (ended t) → s.core.memory ≡ t.machine.memory

-- so it is with some state of the run of the executable, after any number of events
abbrev pub StepLaw : Type 0
StepLaw = (image : Image) (input : List ℕ) (m : ℕ) → IsDivided image → AreBytes input
    → (n : ℕ) × IsInStep (events_alone m (start_state image 1 input)) (serial n (start_of image.elf input))
