use Rattle.std.proofs.lemmas.Option.{slice_get_within}
use Rattle.strong_components.proofs.States.{idle_empty, entered_state, entered_seen, entered_root}
use Rattle.strong_components.proofs.search.Search.explore.Goals as goal

pub loop-top-init : goal.loop-top-init
loop-top-init c =
    let s = c.args.self.now in let n = c.enter.new.self in let nodes = c.args.nodes.now in let w = c.args.root in
    let unseen = c.is_new.ensures.0 c.if-not-is_new.false in
    let inside = slice_get_within s.marks.items w _ unseen in
    record {
      state = entered_state nodes s n w c.requires.state unseen (λ i u at. absurd (idle_empty nodes s i u c.requires.state c.requires.idle at)) c.in_ok-enter.ensures;
      seen = entered_seen s n w inside c.in_ok-enter.ensures;
      root = entered_root s n w inside c.in_ok-enter.ensures;
    }
