-- Where a hart leaves the original for the added code.
use Rattle.std.specs.Prelude.{ℕ, zero, suc, ◌==◌, ◌+◌, if◌then◌else◌, List, [], ◌∷◌, map, slice_get, slice_set, Option, Some, None}
use Rattle.serial_run.specs.declared.machine.Machine.{Machine}
use Rattle.serial_run.specs.declared.machine.End.{End}
use Rattle.image_writer.specs.declared.image.Entry.{Entry}
use Rattle.hart_core.specs.declared.counts.LoopCount.{LoopCount}
use Rattle.hart_core.specs.declared.entries.Found.{Found}
use Rattle.hart_core.specs.Machine.{Hart, Stub, Place, Arrived, Forked, Elsewhere, capped}

abbrev pub headers_of : List Entry → List ℕ
headers_of entries = map (λ (e : Entry). e.header) entries

-- the entry at an address, of those that are numbered from here on
abbrev pub found_from : ℕ → List Entry → ℕ → Option Found
found_from number [] pc = None
found_from number (e ∷ rest) pc =
    if e.header == pc then Some (record { number = number; stub = e.stub }) else found_from (suc number) rest pc

-- the entry at an address, if there is one
unfoldable pub entry_at : List Entry → ℕ → Option Found
entry_at entries pc = found_from 0 entries pc

-- the header of an entry
abbrev pub header_of : Option Entry → ℕ
header_of None = 0
header_of (Some e) = e.header

abbrev pub unless_ended : Option End → Option Found → Option Found
unless_ended None found = found
unless_ended (Some end) found = None

-- the entry that a machine has arrived at, if the run has not ended
abbrev pub arrival : List Entry → Machine → Option Found
arrival entries m = unless_ended m.ended (entry_at entries m.pc)

-- a hart that leaves the original there, if there is an entry
abbrev pub entered : Hart → Option Found → Hart
entered h None = h
entered h (Some found) = record h { pc = found.stub; mode = Stub; kept = found.number }

-- the counts with that of an entry changed, if there is such an entry
abbrev pub with_count : List LoopCount → ℕ → (LoopCount → LoopCount) → Option LoopCount → List LoopCount
with_count loops i change None = loops
with_count loops i change (Some count) = slice_set loops i (change count)

abbrev pub changed_count : List LoopCount → ℕ → (LoopCount → LoopCount) → List LoopCount
changed_count loops i change = with_count loops i change (slice_get loops i)

abbrev pub one_arrival : LoopCount → LoopCount
one_arrival count = record count { arrivals = capped (count.arrivals + 1) }

abbrev pub with_arrival : List LoopCount → Option Found → List LoopCount
with_arrival loops None = loops
with_arrival loops (Some found) = changed_count loops found.number one_arrival

-- where hart 0 stands after an event of another hart
abbrev pub place_stays : Place → Place
place_stays (Arrived entry) = Arrived entry
place_stays Forked = Elsewhere
place_stays Elsewhere = Elsewhere

-- where it stands after an event of hart k, which has led hart 0 to the new place if it is hart 0's
abbrev pub next_place : ℕ → Place → Place → Place
next_place k new old = if k == 0 then new else place_stays old

abbrev pub place_of_entry : Option Found → Place
place_of_entry None = Elsewhere
place_of_entry (Some found) = Arrived found.number
