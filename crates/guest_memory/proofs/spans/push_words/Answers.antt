use Rattle.std.proofs.Common.{◌≡◌, ◌+◌, ◌-◌, ◌/◌, ◌++◌, [], ◌∷◌, ℕ, List, suc, length, drop, refl, ap, sym, ◌∙◌, arith}
use Rattle.std.proofs.lemmas.List.{get_or_read}
use Rattle.rv64_decode.specs.Area.{Area, number_at}
use Rattle.byteorder.specs.Endian.{little_number}
use Rattle.rv64_decode.specs.declared.memory.Width.TheVariants.{Eight}
use Rattle.guest_memory.specs.Layout.{end_of, nth_area, no_area}
use Rattle.guest_memory.specs.Words.{words_from}
use Rattle.guest_memory.proofs.Areas.{aligned, number_at-place}
use Rattle.guest_memory.proofs.Words.{word_place, words_turn}
use Rattle.guest_memory.proofs.spans.push_words.Goals as goal

pub loop-at-init : goal.loop-at-init
loop-at-init c =
    let m = c.args.areas.now in
    let i = c.args.i in
    let within = c.requires.within in
    let here : c.index-areas-i.result ≡ nth_area m i = get_or_read m i _ within c.index-areas-i.is no_area in
    let a = nth_area m i in
    let low : c.low-at.result ≡ a.low = c.low-at.ensures ∙ ap (λ (v : Area). v.low) here in
    let lies = aligned 0 m i c.requires.lie within in
    let size : end_of a - a.low ≡ length a.bytes = omega arith in
    record {
      low = omega arith;
      end = omega arith;
      even = omega arith;
      items = rw (low, size) refl;
    }

pub number-requires-clause-to : goal.number-requires-clause-to
number-requires-clause-to c =
    let m = c.args.areas.now in
    let i = c.args.i in
    let within = c.requires.within in
    let here : c.index-areas-i.result ≡ nth_area m i = get_or_read m i _ within c.index-areas-i.is no_area in
    let end : end_of c.index-areas-i.result ≡ end_of (nth_area m i) = ap end_of here in
    let lies = aligned 0 m i c.requires.lie within in
    omega arith

pub overflow_add-at : goal.overflow_add-at
overflow_add-at c =
    let m = c.args.areas.now in
    let i = c.args.i in
    let lies = aligned 0 m i c.requires.lie c.requires.within in
    omega arith

pub loop-at-preserved : goal.loop-at-preserved
loop-at-preserved c =
    let m = c.args.areas.now in
    let i = c.args.i in
    let x = c.loop-at.at in
    let within = c.requires.within in
    let here : c.index-areas-i.result ≡ nth_area m i = get_or_read m i _ within c.index-areas-i.is no_area in
    let a = nth_area m i in
    let end : c.end.result ≡ end_of a = c.end.ensures ∙ ap end_of here in
    let lies = aligned 0 m i c.requires.lie within in
    let p = word_place m i x c.requires.lie within c.loop-at.invariant.low (omega arith) c.loop-at.invariant.even in
    let number : c.number.result ≡ number_at 8 m x =
    c.number.ensures.number ∙ ap (λ (v : Area). little_number 8 (drop (x - v.low) v.bytes)) here ∙ sym (number_at-place m i x Eight c.requires.lie p) in
    let items : c.push.new.self.items ≡ c.loop-at.words.items ++ (x, c.number.result) ∷ [] = c.in_ok-push.ensures.items in
    let fits = p.fits in
    let more : (end_of a - x) / 8 ≡ suc ((end_of a - (x + 8)) / 8) = omega arith in
    record {
      low = omega arith;
      end = omega arith;
      even = omega arith;
      items =
          ap (λ (v : List (ℕ × ℕ)). v ++ words_from ((end_of a - (x + 8)) / 8) m (x + 8)) items
          ∙ words_turn m x ((end_of a - x) / 8) ((end_of a - (x + 8)) / 8) c.number.result c.loop-at.words.items more number
          ∙ c.loop-at.invariant.items;
    }
