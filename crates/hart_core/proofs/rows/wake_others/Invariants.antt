use Rattle.std.proofs.Common.{◌≡◌, ◌++◌, ◌<◌, take, drop, map, length}
use Rattle.hart_core.specs.Rows.{woken, wakes}
use Rattle.hart_core.proofs.rows.wake_others.Given as goal

abbrev pub invariant-loop-i : goal.invariant-loop-i
invariant-loop-i l = record {
  changed : take l.i l.seats.items ++ map (woken l.pc l.regs l.slots l.kept) (drop l.i l.seats.items)
      ≡ wakes (woken l.pc l.regs l.slots l.kept) l.initial.seats.items;
  count : length l.seats.items ≡ length l.initial.seats.items;
}
