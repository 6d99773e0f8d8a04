use Rattle.std.proofs.Common.{◌∙◌, sym}
use Rattle.loop_data.proofs.value_places.meet_past.Goals as goal

pub returns : goal.returns
returns c r l x =
    let e = c.set_past.ensures r l in
    let m = c.meet.ensures r l x in
    (λ q. let a = m.0 q in (a.0, sym e ∙ a.1), λ q. m.1 (q.0, e ∙ q.1))
