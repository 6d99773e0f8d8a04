-- The later words of mixed pairs, by first uses and other accesses alone.
use Rattle.std.proofs.Common.{◌≡◌, ℕ, ◌<◌, Bool, true, false, not, ◌&&◌, ◌||◌, ◌==◌, List, Option, Some, None, refl, ap, sym, ◌∙◌, arith, ℤ, pos, ◌+ℤ◌}
use mathlib.Core.Path.{fun_ext}
use Rattle.std.specs.Prelude.{nat_lt, int_lt}
use Rattle.std.specs.List.{list_any, filter}
use Rattle.std.specs.Ordering.{int_eq}
use Rattle.std.proofs.lemmas.Bool.{ltb-true}
use Rattle.std.proofs.lemmas.Bool.Decides.{nat_tests}
use Rattle.rv64_decode.specs.Area.{bytes_of}
use Rattle.loop_data.proofs.Tests.{and_true, true_and}
use Rattle.stack_slots.specs.declared.words.BodyWord.{BodyWord}
use Rattle.stack_slots.specs.declared.words.Touch.{Touch}
use Rattle.stack_slots.specs.CellRules.{same_base, end_of, are_of_one_cell, are_mixed, both, is_of_cell, is_plain, is_mixed, is_mixed_later, use_one_cell, uses_cell, is_first_use, first_uses}
use Rattle.stack_slots.proofs.Members.{Member, some_passes, passes_among, kept_member, any_passes, same_test}
use Rattle.stack_slots.proofs.OneCell.{AreAlike, alike}
use Rattle.stack_slots.proofs.FirstsFound.{first_of}

-- whether an access is mixed with another, by what is looked at
abbrev mixed_by : Touch → Bool → Option ℕ → ℤ → ℕ → Bool
mixed_by t cell base offset width =
    (same_base base t.address.base && (int_lt offset (end_of t) && int_lt t.address.offset (offset +ℤ pos width)))
    && ((cell || t.of_cell)
    && not ((cell && t.of_cell) && (same_base base t.address.base && (int_eq offset t.address.offset && (width == bytes_of t.width)))))

mixed_alike : (r s t : Touch) → AreAlike r s → are_mixed r t ≡ are_mixed s t
mixed_alike r s t a =
    ap (λ b. mixed_by t b r.address.base r.address.offset (bytes_of r.width)) (a.first ∙ sym a.second)
    ∙ ap (λ b. mixed_by t s.of_cell b r.address.offset (bytes_of r.width)) a.base
    ∙ ap (λ z. mixed_by t s.of_cell s.address.base z (bytes_of r.width)) a.offset
    ∙ ap (λ n. mixed_by t s.of_cell s.address.base s.address.offset n) a.width

both_alike : (u v w : BodyWord) → use_one_cell u v ≡ true → both are_mixed u.touch w.touch ≡ both are_mixed v.touch w.touch
both_alike u v w e = go u.touch v.touch w.touch e
  where
    go : (n o p : Option Touch) → both are_of_one_cell n o ≡ true → both are_mixed n p ≡ both are_mixed o p
    go (Some r) (Some s) (Some t) f = mixed_alike r s t (alike r s f)
    go (Some r) (Some s) None f = refl
    go (Some r) None p f = absurd (cc)
    go None o p f = absurd (cc)

abbrev mixes : BodyWord → BodyWord → Bool
mixes w v = nat_lt v.at w.at && both are_mixed v.touch w.touch

abbrev plain_of : List BodyWord → List BodyWord
plain_of words = filter (λ (v : BodyWord). is_plain v.touch) words

plain_is : (o p : Option Touch) → both are_mixed o p ≡ true → is_of_cell o ≡ false → is_plain o ≡ true
plain_is (Some s) p e f = ap not f
plain_is None p e f = absurd (cc)

below_of : (a b : ℕ) → a < b → nat_lt a b ≡ true
below_of a b l = grind (arith, nat_tests)

module _ (words : List BodyWord) (w : BodyWord) where
  forth : is_mixed_later (first_uses words) (plain_of words) w ≡ true → is_mixed words w ≡ true
  forth e = go (is_mixed (first_uses words) w) refl e
    where
      from : (test : BodyWord → Bool) → list_any (mixes w) (filter test words) ≡ true → is_mixed words w ≡ true
      from test f =
          let p = some_passes (mixes w) (filter test words) f in
          any_passes (mixes w) words p.element (kept_member test words p.element p.member) p.passes

      go : (b : Bool) → is_mixed (first_uses words) w ≡ b → (b || is_mixed (plain_of words) w) ≡ true → is_mixed words w ≡ true
      go true q f = from (is_first_use words) q
      go false q f = from (λ (v : BodyWord). is_plain v.touch) f

  back : is_mixed words w ≡ true → is_mixed_later (first_uses words) (plain_of words) w ≡ true
  back e =
      let p = some_passes (mixes w) words e in
      by p.element p.member (and_true (nat_lt p.element.at w.at) (both are_mixed p.element.touch w.touch) p.passes) (uses_cell p.element) refl
    where
      second : (a b : Bool) → b ≡ true → (a || b) ≡ true
      second true b f = refl
      second false b f = f

      by : (v : BodyWord) → Member words v → (nat_lt v.at w.at ≡ true) × (both are_mixed v.touch w.touch ≡ true) → (b : Bool) → uses_cell v ≡ b → is_mixed_later (first_uses words) (plain_of words) w ≡ true
      by v m (l, t) true u =
          let h = first_of words v m u in
          let lower = ltb-true v.at w.at l in
          let b = h.below in
          ap (λ x. x || is_mixed (plain_of words) w) (any_passes (mixes w) (first_uses words) h.first h.found
          (true_and (nat_lt h.first.at w.at) (both are_mixed h.first.touch w.touch) (below_of h.first.at w.at (omega arith)) (both_alike h.first v w h.one ∙ t)))
      by v m (l, t) false u =
          second (is_mixed (first_uses words) w) (is_mixed (plain_of words) w)
          (passes_among (λ (x : BodyWord). is_plain x.touch) (mixes w) words v m (plain_is v.touch w.touch t u) (true_and (nat_lt v.at w.at) (both are_mixed v.touch w.touch) l t))

pub mixed_is : (words : List BodyWord) → is_mixed_later (first_uses words) (plain_of words) ≡ is_mixed words
mixed_is words = fun_ext (λ w. same_test (is_mixed_later (first_uses words) (plain_of words) w) (is_mixed words w) (forth words w) (back words w))
