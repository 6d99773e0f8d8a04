use Rattle.std.proofs.Common.{◌-◌, ◌≤◌, take, length, Contains}
use Rattle.loop_data.specs.Code.{IsCode}
use Rattle.flow_recovery.specs.Search.{AreReached}
use Rattle.flow_recovery.proofs.Closure.{LeadTo}
use Rattle.flow_recovery.proofs.reaching.reach.Given as goal

abbrev pub invariant-loop-done : goal.invariant-loop-done
invariant-loop-done l =
    record {
      reached : AreReached l.elf l.found.keys;
      entry : IsCode l.elf l.elf.entry → Contains l.found.keys l.elf.entry;
      lead : LeadTo l.elf (take l.done l.found.keys) l.found.keys;
      within : l.done ≤ length l.found.keys;
    }

abbrev pub decreases-loop-done : goal.decreases-loop-done
decreases-loop-done l = 262144 - l.done
