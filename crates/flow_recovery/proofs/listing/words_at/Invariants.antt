use Rattle.std.proofs.Common.{◌≡◌, take, All}
use Rattle.loop_data.specs.Graphs.{IsWordOf}
use Rattle.loop_data.specs.Paths.{addresses_of}
use Rattle.flow_recovery.proofs.listing.words_at.Given as goal

abbrev pub invariant-loop-at : goal.invariant-loop-at
invariant-loop-at l =
    record {
      addresses : addresses_of l.words.items ≡ take l.at-index l.addresses;
      words : All (IsWordOf l.elf) l.words.items;
    }
