use Rattle.std.proofs.Common.{◌≡◌, ◌∙◌, ap, sym, subst, List, ℕ, Bool, false, length, replicate}
use Rattle.std.specs.List.{Contains}
use Rattle.loop_shapes.specs.Places.{AreFlags, count_of}
use Rattle.std.proofs.lemmas.List.{length-replicate}
use Rattle.loop_shapes.proofs.Rows.{kept_whole}
use Rattle.loop_shapes.proofs.places.start_flags.Goals as goal

pub mark_all-requires : goal.mark_all-requires
mark_all-requires c = record { ordered = c.requires.ordered; addresses = c.requires.addresses; unset = c.deref_mut.ensures.value ∙ c.in_ok-flags.ensures ∙ ap (λ (q : List ℕ). replicate (length q) false) c.requires.addresses }

pub returns : goal.returns
returns c =
    let flags = c.mark_all.new.flags in
    let same : length flags ≡ length c.in_ok-flags.flags.items = c.mark_all.ensures.count ∙ sym (ap length (c.in_ok-flags.ensures ∙ ap (λ (q : List ℕ). replicate (length q) false) c.requires.addresses) ∙ length-replicate (count_of c.args.graph.now) false) in
    subst (λ (q : List Bool). AreFlags c.args.graph.now (Contains c.args.graph.now.starts) q) (sym (kept_whole c.in_ok-flags.flags.len flags c.in_ok-flags.flags.items same (sym c.deref_mut.ensures.len ∙ ap length c.deref_mut.ensures.value))) (subst (λ (q : List ℕ). AreFlags c.args.graph.now (Contains q) flags) c.as_slice.ensures c.mark_all.ensures)
