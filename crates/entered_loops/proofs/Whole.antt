-- Each state of the serial run has the executable's areas and executable bytes, words in its registers and bytes in its
-- memory.
use Rattle.std.proofs.Common.{◌≡◌, ◌<◌, ℕ, Bool, true, false, ◌&&◌, List, [], ◌∷◌}
use Rattle.elf_image.specs.declared.image.Elf.{Elf}
use Rattle.elf_image.specs.Layout.{IsLoadable}
use Rattle.rv64_decode.specs.Area.{Area}
use Rattle.guest_memory.specs.Areas.{areas_of}
use Rattle.guest_memory.specs.Layout.{AreasLieFrom, KeepAreas, end_of}
use Rattle.guest_memory.proofs.Loaded.{areas-lie}
use Rattle.serial_run.specs.Serial.{State, start_of, serial}
use Rattle.serial_run.specs.Sound.{HaveBytes, IsSound}
use Rattle.loop_data.specs.Turns.{IsSameArea, HasAreas}
use Rattle.std.specs.List.{All}
use Rattle.entered_loops.specs.Laws.{IsWhole, WholeLaw}

not_written : (a b : Bool) → (a && b) ≡ false → b ≡ true → a ≡ false
not_written a true h e = by a h
  where
    by : (a : Bool) → (a && true) ≡ false → a ≡ false
    by true h = h
    by false h = h
not_written a false h e = absurd (cc)

-- no area may be both written and executed, so that what keeps areas keeps executable bytes
has_areas : (from : ℕ) (areas m : List Area) → AreasLieFrom from areas → KeepAreas areas m → HasAreas areas m
has_areas from [] [] lie k = tt
has_areas from [] (b ∷ m) lie k = absurd k
has_areas from (a ∷ areas) [] lie k = absurd k
has_areas from (a ∷ areas) (b ∷ m) lie k = (same, has_areas (end_of a) areas m lie.4 k.6)
  where
    same : IsSameArea a b
    same = record {
      low = k.0;
      length = k.4;
      readable = k.1;
      writable = k.2;
      executable = k.3;
      code = λ e. k.5 (not_written a.writable a.executable lie.5 e);
    }

whole : (elf : Elf) (s : State) → IsLoadable elf → IsSound elf s → IsWhole elf s
whole elf s load h = record {
  areas = has_areas 0 (areas_of elf) s.machine.memory (areas-lie elf load) h.areas;
  registers = h.registers;
  bytes = h.bytes;
}

pub whole_law : ((elf : Elf) (input : List ℕ) (n : ℕ) → IsLoadable elf → HaveBytes elf.segments
    → All (λ (b : ℕ). b < 256) input → IsSound elf (serial n (start_of elf input))) → WholeLaw
whole_law sounds elf input n load bytes unread =
    whole elf (serial n (start_of elf input)) load (sounds elf input n load bytes unread)
