use Rattle.std.proofs.Common.{◌≡◌, ◌+◌, ◌∙◌, refl, ap, sym, true, false, Option, arith}
use Rattle.std.specs.Prelude.{is_some, IsNone, unwrap_or}
use Rattle.serial_run.specs.declared.machine.End.{End}
use Rattle.serial_run.specs.declared.machine.End.TheVariants.{Spent}
use Rattle.hart_core.specs.Events.{is_effective}
use Rattle.hart_core.proofs.AloneRuns.{runs_none, runs_more, runs_rest, runs_ended, runs_stop, runs_out, keeps_self, keeps_on, tells_fewer, tells_never, never_fewer, never_next, none_after}
use Rattle.hart_core.proofs.harts.Harts.run_first.Goals as goal

pub returns-in-Some-clause-runs : goal.returns-in-Some-clause-runs
returns-in-Some-clause-runs g c =
    let some : is_some c.args.self.now.ended ≡ true = ap (λ (o : Option End). is_some o) (sym c.ended.ensures ∙ c.in-Some.is) in
    runs_ended c.args.fuel _ some

pub loop-k-init : goal.loop-k-init
loop-k-init g c = record {
  runs = runs_none _ (sym c.ended.ensures ∙ c.in_default.is);
  keeps = keeps_self _;
  untaken = λ s e n. refl;
  unsent = λ s e t n. refl;
}

pub loop-k-preserved : goal.loop-k-preserved
loop-k-preserved g c =
    let at = c.loop-k.invariant.runs in
    let none : IsNone c.loop-k.self.ended = ap (λ (o : Option End). is_some o) at.running in
    record {
      runs = runs_more _ _ _ _ at (c.in-Did.ensures.acts none) (none_after _ _ c.in-Did.ensures.ended refl);
      keeps = keeps_on _ _ _ c.loop-k.invariant.keeps c.in-Did.ensures.keeps;
      untaken = λ s e never.
          c.in-Did.ensures.takes_nothing (never_next 63 (c.loop-k.k + 1) _ _ _ at s e (omega arith) (tells_never _ s _ never) never)
          ∙ c.loop-k.invariant.untaken s e (never_fewer 63 _ _ s (omega arith) never);
      unsent = λ s e told never.
          c.in-Did.ensures.sends_nothing (never_next 64 (c.loop-k.k + 1) _ _ _ at s e (omega arith) told never)
          ∙ c.loop-k.invariant.unsent s e (tells_fewer _ _ s _ (omega arith) told) (never_fewer 64 _ _ s (omega arith) never);
    }

pub returns-in-Idle-clause-runs : goal.returns-in-Idle-clause-runs
returns-in-Idle-clause-runs g c =
    let at = c.loop-k.invariant.runs in
    let none : IsNone c.loop-k.self.ended = ap (λ (o : Option End). is_some o) at.running in
    let idle : is_effective c.loop-k.self 0 ≡ false = (c.in-Idle.ensures.idle.0 refl).1 in
    runs_rest _ _ _ _ _ at (c.in-Idle.ensures.acts none) c.loop-k-test.true idle (c.in-Idle.ensures.stays idle)

pub returns-in-Idle-clause-keeps : goal.returns-in-Idle-clause-keeps
returns-in-Idle-clause-keeps g c = keeps_on _ _ _ c.loop-k.invariant.keeps c.in-Idle.ensures.keeps

pub returns-in-Idle-clause-takes_nothing : goal.returns-in-Idle-clause-takes_nothing
returns-in-Idle-clause-takes_nothing g c = λ s e never.
    let idle : is_effective c.loop-k.self 0 ≡ false = (c.in-Idle.ensures.idle.0 refl).1 in
    c.in-Idle.ensures.input_stays idle ∙ c.loop-k.invariant.untaken s e (never_fewer 63 _ _ s (omega arith) never)

pub returns-in-Idle-clause-sends_nothing : goal.returns-in-Idle-clause-sends_nothing
returns-in-Idle-clause-sends_nothing g c = λ s e told never.
    let idle : is_effective c.loop-k.self 0 ≡ false = (c.in-Idle.ensures.idle.0 refl).1 in
    c.in-Idle.ensures.output_stays idle
    ∙ c.loop-k.invariant.unsent s e (tells_fewer _ _ s _ (omega arith) told) (never_fewer 64 _ _ s (omega arith) never)

pub returns-in-Ended-clause-end : goal.returns-in-Ended-clause-end
returns-in-Ended-clause-end g c =
    let is = (c.in-Ended.ensures.ended c.in-Ended.end).0 refl in
    sym (ap (λ (o : Option End). unwrap_or o Spent) is)

pub returns-in-Ended-clause-runs : goal.returns-in-Ended-clause-runs
returns-in-Ended-clause-runs g c =
    let at = c.loop-k.invariant.runs in
    let none : IsNone c.loop-k.self.ended = ap (λ (o : Option End). is_some o) at.running in
    let is = (c.in-Ended.ensures.ended c.in-Ended.end).0 refl in
    runs_stop _ _ _ _ _ at (c.in-Ended.ensures.acts none) c.loop-k-test.true (ap (λ (o : Option End). is_some o) is)

pub returns-in-Ended-clause-keeps : goal.returns-in-Ended-clause-keeps
returns-in-Ended-clause-keeps g c = keeps_on _ _ _ c.loop-k.invariant.keeps c.in-Ended.ensures.keeps

pub returns-in-Ended-clause-takes_nothing : goal.returns-in-Ended-clause-takes_nothing
returns-in-Ended-clause-takes_nothing g c = λ s e never.
    c.in-Ended.ensures.takes_nothing (never_next 63 _ _ _ _ c.loop-k.invariant.runs s e c.loop-k-test.true (tells_never _ s _ never) never)
    ∙ c.loop-k.invariant.untaken s e (never_fewer 63 _ _ s (omega arith) never)

pub returns-in-Ended-clause-sends_nothing : goal.returns-in-Ended-clause-sends_nothing
returns-in-Ended-clause-sends_nothing g c = λ s e told never.
    c.in-Ended.ensures.sends_nothing (never_next 64 _ _ _ _ c.loop-k.invariant.runs s e c.loop-k-test.true told never)
    ∙ c.loop-k.invariant.unsent s e (tells_fewer _ _ s _ (omega arith) told) (never_fewer 64 _ _ s (omega arith) never)

pub returns-clause-end : goal.returns-clause-end
returns-clause-end g c = sym (ap (λ (o : Option End). unwrap_or o Spent) c.loop-k.invariant.runs.running)

pub returns-clause-runs : goal.returns-clause-runs
returns-clause-runs g c =
    let all : c.loop-k.k ≡ c.args.fuel = omega arith in runs_out c.args.fuel _ _ (rw all at c.loop-k.invariant.runs)

pub returns-clause-keeps : goal.returns-clause-keeps
returns-clause-keeps g c = c.loop-k.invariant.keeps

pub returns-clause-takes_nothing : goal.returns-clause-takes_nothing
returns-clause-takes_nothing g c = λ s e never.
    c.loop-k.invariant.untaken s e (never_fewer 63 _ _ s (omega arith) never)

pub returns-clause-sends_nothing : goal.returns-clause-sends_nothing
returns-clause-sends_nothing g c = λ s e told never.
    c.loop-k.invariant.unsent s e (tells_fewer _ _ s _ (omega arith) told) (never_fewer 64 _ _ s (omega arith) never)
