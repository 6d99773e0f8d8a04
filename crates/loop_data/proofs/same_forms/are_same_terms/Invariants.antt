use Rattle.std.proofs.Common.{◌≡◌, take}
use Rattle.linear_forms.specs.Locations.{terms_of}
use Rattle.loop_data.proofs.same_forms.are_same_terms.Given as goal

abbrev pub invariant-loop-i : goal.invariant-loop-i
invariant-loop-i l = terms_of (take l.i l.ts) ≡ terms_of (take l.i l.us)
