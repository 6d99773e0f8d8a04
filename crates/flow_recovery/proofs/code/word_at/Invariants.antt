use Rattle.std.proofs.Common.{◌≡◌, drop}
use Rattle.loop_data.specs.Code.{word_of}
use Rattle.flow_recovery.proofs.code.word_at.Given as goal

abbrev pub invariant-loop-segment : goal.invariant-loop-segment
invariant-loop-segment l = word_of (drop l.segment-index l.segments) l.addr ≡ word_of l.segments l.addr
