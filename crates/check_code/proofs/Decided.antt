-- From tests over what is known of registers and slots to the harts that run them.
use Rattle.std.proofs.Common.{◌≡◌, ℕ, ℤ, ◌+◌, ◌-◌, ◌^◌, ◌<◌, ◌≤◌, refl, sym, subst, ap, ◌∙◌, arith, Option, Some, None, Bool, true, false, List, [], ◌∷◌, length}
use Rattle.std.specs.Prelude.{◌==◌, ◌||◌, if◌then◌else◌, slice_index}
use Rattle.std.specs.List.{All}
use Rattle.std.proofs.lemmas.Bool.Decides.{nat_tests}
use Rattle.rv64_decode.specs.Hart.{Hart}
use Rattle.rv64_decode.specs.Registers.{register}
use Rattle.rv64_decode.specs.declared.xinstr.XInstr.{XInstr}
use Rattle.linear_forms.specs.Forms.{EntryTerm, IsForm}
use Rattle.loop_data.specs.Locations.{address}
use Rattle.loop_data.specs.declared.accesses.Access.{Access}
use Rattle.loop_data.specs.declared.plans.Term.{Term}
use Rattle.loop_data.specs.declared.verdict.Cell.{Cell}
use Rattle.dependence_tests.specs.Terms.{IsTermOf, IsSized}
use Rattle.dependence_tests.specs.PairTests.{pair_test}
use Rattle.alias_checks.specs.Areas.{Bounds, in_bounds}
use Rattle.alias_checks.specs.AccessTests.{place_of, access_fits, keeps_off, box_of}
use Rattle.stub_laws.specs.Harts.{IsHartAt}
use Rattle.stub_laws.specs.Locations.{slot_of, held, held_by}
use Rattle.stub_laws.specs.Places.{StandsIn, behind}
use Rattle.stub_laws.specs.Straight.{read}
use Rattle.stub_laws.proofs.Steps.{World, Wins, alike}
use Rattle.stub_laws.proofs.Known.{seen, Knows}
use Rattle.stub_laws.proofs.Tests.{IsTest, Known}
use Rattle.stub_laws.proofs.Ends.{comes, world_of}
use Rattle.check_code.specs.Laws.{entries, HasOffset, HoldsBase, Decides, AreLow}
use Rattle.check_code.specs.Rounds.{AreKnown, AreRoundsKnown}
use Rattle.check_code.specs.AccessCode.{access_code}
use Rattle.check_code.specs.MeetCode.{keep_off_code}
use Rattle.check_code.specs.PairCode.{pair_code}
use Rattle.check_code.specs.AccessLaws.{is_temporary, last_turns, AreLastLow, first_address}
use Rattle.check_code.proofs.Runs.{all_known, twice, both_ways}
use Rattle.check_code.proofs.AccessTests.{access_law}
use Rattle.check_code.proofs.MeetTests.{BaseOk, keep_off_law}
use Rattle.check_code.proofs.PairTests.{pair_law}

abbrev everything : ℕ → Bool
everything loc = true

slot_of_cell : (s : ℕ) → slot_of (32 + s) ≡ Some s
slot_of_cell s = grind (arith, nat_tests)

slot_of_other : (q : ℕ) → q < 32 → is_temporary q ≡ false → slot_of q ≡ None
slot_of_other q l h = grind (arith, nat_tests)

slots_kept : (h : Hart) (f g : ℕ → ℕ) (s : ℕ) → Knows everything (held h) f g → g s ≡ slice_index h.slots s
slots_kept h f g s k = by_slot (slot_of (32 + s)) (slot_of_cell s) (k.each (32 + s) refl)
  where
    by_slot : (o : Option ℕ) → o ≡ Some s → seen f g (32 + s) o ≡ held_by h (32 + s) o → g s ≡ slice_index h.slots s
    by_slot o e x = let y = subst (λ o. seen f g (32 + s) o ≡ held_by h (32 + s) o) e x in y

register_kept : (h : Hart) (f g : ℕ → ℕ) (q : ℕ) → q < 32 → is_temporary q ≡ false → Knows everything (held h) f g
    → read f q ≡ read (register h.regs) q
register_kept h f g q l t k = by_slot (slot_of q) (slot_of_other q l t) (k.each q refl)
  where
    by_slot : (o : Option ℕ) → o ≡ None → seen f g q o ≡ held_by h q o → read f q ≡ read (register h.regs) q
    by_slot o e x = let y = subst (λ o. seen f g q o ≡ held_by h q o) e x in y ∙ twice (q == 0) (slice_index h.regs q)

-- a test that keeps all locations decides for a hart
pub decided : (code : List ℕ) (to p : ℕ) (is : List XInstr) (t : Bool) (h : Hart) → length code ≤ 2 ^ 32 → to ≤ 2 ^ 32
    → ((w : World) → IsTest w (Known everything (held h)) (Known everything (held h)) (Known everything (held h)) is t)
    → StandsIn code to p is → IsHartAt p h → Decides code h (behind p is) to is_temporary t
decided code to p is t h short near law has at = record {
  on = λ e. comes code to p (behind p is) h is_temporary short near at (λ s n goal next.
      let w = world_of code s to n h goal in
      (law w).by p (register h.regs) (slice_index h.slots) (all_known p h at) has
      (λ y f g k. alike w (behind p is) f f g (slice_index h.slots) (λ q l. refl) (λ q l. slots_kept h f g q k) (next f (λ q l u. register_kept h f g q l u k)))
      (λ y. absurd (both_ways t e y)));
  off = λ e. comes code to p to h is_temporary short near at (λ s n goal next.
      let w = world_of code s to n h goal in
      (law w).by p (register h.regs) (slice_index h.slots) (all_known p h at) has
      (λ y. absurd (both_ways t y e))
      (λ y f g k. alike w to f f g (slice_index h.slots) (λ q l. refl) (λ q l. slots_kept h f g q k) (next f (λ q l u. register_kept h f g q l u k))));
}

all_terms : (ts : List EntryTerm) → AreKnown everything ts
all_terms [] = tt
all_terms (t ∷ ts) = (refl, all_terms ts)

all_rounds : (a : Access) → AreRoundsKnown everything a.form a.around
all_rounds a = record { terms = all_terms a.form.terms; root = refl; second = λ h. refl; third = λ h. refl }

pub access_runs : (code : List ℕ) (to p : ℕ) (areas : List Bounds) (a : Access) (h : Hart) → length code ≤ 2 ^ 32 → to ≤ 2 ^ 32
    → length areas < 2 ^ 16 → AreLow areas → IsForm a.form → AreLastLow h
    → StandsIn code to p (access_code areas a) → IsHartAt p h
    → Decides code h (behind p (access_code areas a)) to is_temporary (access_fits (in_bounds areas) (entries h) (last_turns h) a)
access_runs code to p areas a h short near few low fine lasts has at =
    decided code to p (access_code areas a) (access_fits (in_bounds areas) (entries h) (last_turns h) a) h short near
    (λ w. access_law w everything (held h) areas a fine (all_rounds a) few low lasts) has at

base_ok : (regs : List ℕ) (h : Hart) (base : Option ℕ) (offset : ℤ) → HasOffset base offset → HoldsBase base regs h
    → BaseOk everything (held h) regs base offset
base_ok regs h None offset room holds = room
base_ok regs h (Some base) offset room holds = (refl, holds)

pub keep_off_runs : (code : List ℕ) (to p : ℕ) (c : Cell) (a : Access) (regs : List ℕ) (h : Hart) → length code ≤ 2 ^ 32 → to ≤ 2 ^ 32
    → HasOffset c.base c.offset → HoldsBase c.base regs h → IsForm a.form → AreLastLow h
    → address regs c < 2 ^ 31 → first_address a h < 2 ^ 31 → StandsIn code to p (keep_off_code c a) → IsHartAt p h
    → Decides code h (behind p (keep_off_code c a)) to is_temporary (keeps_off regs c (place_of (entries h) (last_turns h) a))
keep_off_runs code to p c a regs h short near room holds fine lasts low begins has at =
    decided code to p (keep_off_code c a) (keeps_off regs c (place_of (entries h) (last_turns h) a)) h short near
    (λ w. keep_off_law w everything (held h) regs c a (base_ok regs h c.base c.offset room holds) fine (all_rounds a) lasts low begins) has at

pub pair_runs : (code : List ℕ) (to p : ℕ) (a b : Access) (term : Term) (h : Hart) → length code ≤ 2 ^ 32 → to ≤ 2 ^ 32 → IsForm a.form
    → IsForm b.form → IsTermOf a b term → IsSized term → AreLastLow h → first_address a h < 2 ^ 31 → first_address b h < 2 ^ 31
    → StandsIn code to p (pair_code a b term) → IsHartAt p h
    → Decides code h (behind p (pair_code a b term)) to is_temporary (pair_test term (box_of (last_turns h) (place_of (entries h) (last_turns h) a) (place_of (entries h) (last_turns h) b)))
pair_runs code to p a b term h short near fine fine' is sized lasts low low' has at =
    decided code to p (pair_code a b term)
    (pair_test term (box_of (last_turns h) (place_of (entries h) (last_turns h) a) (place_of (entries h) (last_turns h) b))) h short near
    (λ w. pair_law w everything (held h) a b term fine fine' (all_rounds a) (all_rounds b) is sized lasts low low') has at
