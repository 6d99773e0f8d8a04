use Rattle.std.proofs.Common.{◌≡◌, ◌∙◌, ◌↔◌, All, Contains, ap, subst, sym, arith}
use Rattle.std.specs.List.Sorted.{IsStrictlyIncreasing}
use Rattle.std.proofs.lemmas.List.Elements.{Contains-get_or}
use Rattle.loop_data.specs.Graphs.{IsWordOf, IsStart}
use Rattle.loop_data.specs.Paths.{addresses_of}
use Rattle.loop_data.specs.Reaching.{Reached}
use Rattle.flow_recovery.proofs.Listed.{reaches_no_more}
use Rattle.flow_recovery.proofs.recovery.recover.Goals as goal

pub words_at-requires-clause-reached : goal.words_at-requires-clause-reached
words_at-requires-clause-reached c =
    subst (All (Reached c.args.elf.now)) (sym c.as_slice.ensures.value)
    (λ k d h. c.in_ok-found.ensures.reached.each _
    ((c.in_ok-addresses.ensures.each _).0 (Contains-get_or c.in_ok-addresses.addresses.items k d h)))

pub returns-clause-graph : goal.returns-clause-graph
returns-clause-graph c =
    let elf = c.args.elf.now in
    let sorted = c.in_ok-addresses.addresses.items in
    let all = c.in_ok-found.ensures.reached in
    let at : addresses_of c.new.result ≡ sorted = ap addresses_of c.new.ensures ∙ c.in_ok-words.ensures.addresses ∙ c.as_slice.ensures.value in
    record {
      ordered = subst IsStrictlyIncreasing (sym at) c.in_ok-addresses.ensures.order;
      reached = λ a. subst (λ l. Contains l a ↔ Reached elf a) (sym at)
          (let each = c.in_ok-addresses.ensures.each a in (λ m. all.each a (each.0 m), λ r. each.1 (all.every a r)));
      words = subst (All (IsWordOf elf)) (sym c.new.ensures) c.in_ok-words.ensures.words;
      starts_ordered = subst IsStrictlyIncreasing (sym c.new-2.ensures) c.in_ok-starts.ensures.order;
      starts = λ a. subst (λ l. Contains l a ↔ IsStart elf a) (sym c.new-2.ensures) (c.in_ok-starts.ensures.starts a);
    }

pub returns-clause-few : goal.returns-clause-few
returns-clause-few c =
    let few = c.in_ok-found.ensures.few in
    reaches_no_more c.args.elf.now c.in_ok-found.found.keys 262145 c.in_ok-found.ensures.reached (omega arith)
