-- How many turns a check tells, the block of the only hart, and where the parts of added code stand.
use Rattle.std.proofs.Common.{◌≡◌, ℕ, ◌+◌, ◌^◌, ◌≤◌, refl, subst, ap, ◌∙◌, arith, ℤ, Option, Some, None, Bool, true, false, List, length, if◌then◌else◌}
use Rattle.std.specs.Prelude.{nat_le, slice_get}
use Rattle.std.proofs.lemmas.Bool.Decides.{nat_tests}
use Rattle.rv64_decode.specs.Area.{Area}
use Rattle.rv64_decode.specs.declared.xinstr.XInstr.{XInstr}
use Rattle.loop_data.specs.declared.shape.Level.{Level}
use Rattle.loop_data.specs.declared.trips.Trip.{Trip}
use Rattle.loop_data.specs.Independent.{Role}
use Rattle.loop_data.specs.LoopCode.{LoopCode}
use Rattle.loop_data.specs.Trips.{number_of_stays}
use Rattle.alias_checks.specs.declared.lists.Check.{Check}
use Rattle.alias_checks.specs.declared.lists.Turns.{Turns}
use Rattle.alias_checks.specs.Answers.{cells_pass, all_pass, if_all_pass, answer}
use Rattle.alias_checks.specs.Areas.{in_memory}
use Rattle.alias_checks.specs.Entry.{entry}
use Rattle.alias_checks.specs.TurnTests.{up_to, few_stays, root_turns, root_by, turns_with, turns_of, last_of, AreRootTurns}
use Rattle.stub_laws.specs.Places.{behind}
use Rattle.stub_laws.proofs.Steps.{behind_hop, hop_is}
use Rattle.turn_copies.specs.Listing.{SizeLaw}
use Rattle.turn_copies.specs.Regions.{block_first, block_end}
use Rattle.turn_copies.specs.StubCode.{fork_code, begin_code, movings}
use Rattle.turn_copies.specs.Stubs.{begin_place, copies_place, next_place, joined_at}
use Rattle.turn_copies.specs.StubWords.{check_place, fork_place}

-- ---- from 16 to 2 ^ 31 turns

up_to_few : (most : ℕ) (o : Option ℕ) (p : ℕ) → up_to most o ≡ Some p → p ≤ most
up_to_few most None p e = absurd (cc)
up_to_few most (Some n) p e = grind (arith, nat_tests)

root_some : (o : Option ℕ) (p : ℕ) → root_turns o ≡ Some p → (o ≡ Some p) × (16 ≤ p)
root_some None p e = absurd (cc)
root_some (Some q) p e = go (nat_le 16 q) refl e
  where
    go : (b : Bool) → nat_le 16 q ≡ b → (if b then Some q else None) ≡ Some p → (Some q ≡ Some p) × (16 ≤ p)
    go true h e = let same : q ≡ p = cc in (e, subst (λ n. 16 ≤ n) same (grind (arith, nat_tests)))
    go false h e = absurd (cc)

root_few : (o : Option Trip) (e : ℕ → ℤ) (p : ℕ) → root_by o e ≡ Some p → AreRootTurns p
unfolding few_stays
root_few None e p h = absurd (cc)
root_few (Some t) e p h = let r = root_some (few_stays t e) p h in record { some = r.1; few = up_to_few (2 ^ 31) (number_of_stays t e) p r.0 }

abbrev root_or : Option Turns → ℕ
root_or None = 0
root_or (Some t) = t.root

turns_root : (a b c d : Option ℕ) (t : Turns) → turns_with a b c d ≡ Some t → a ≡ Some t.root
turns_root (Some p) (Some i) (Some j) (Some k) t e = ap (λ o. Some (root_or o)) e
turns_root None b c d t e = absurd (cc)
turns_root (Some p) None c d t e = absurd (cc)
turns_root (Some p) (Some i) None d t e = absurd (cc)
turns_root (Some p) (Some i) (Some j) None t e = absurd (cc)

turns_few : (trips : List Trip) (e : ℕ → ℤ) (t : Turns) → turns_of trips e ≡ Some t → AreRootTurns t.root
unfolding turns_of
turns_few trips e t h = root_few (slice_get trips 0) e t.root (turns_root _ _ _ _ t h)

pass_few : (c : Check) (regs : List ℕ) (m : List Area) (o : Option Turns) (t : Turns) → if_all_pass c (in_memory m) regs (entry c.cells.list.items regs m) o ≡ Some t → o ≡ Some t
pass_few c regs m None t e = absurd (cc)
pass_few c regs m (Some u) t e = go (all_pass c (in_memory m) regs (entry c.cells.list.items regs m) (last_of u)) e
  where
    go : (b : Bool) → (if b then Some u else None) ≡ Some t → Some u ≡ Some t
    go true h = h
    go false h = absurd (cc)

pub answer_few : (c : Check) (regs : List ℕ) (m : List Area) (t : Turns) → answer c regs m ≡ Some t → AreRootTurns t.root
answer_few c regs m t e = go (cells_pass c (in_memory m) regs) e
  where
    go : (b : Bool) → (if b then if_all_pass c (in_memory m) regs (entry c.cells.list.items regs m) (turns_of c.trips (entry c.cells.list.items regs m)) else None) ≡ Some t → AreRootTurns t.root
    go true h = turns_few c.trips (entry c.cells.list.items regs m) t (pass_few c regs m _ t h)
    go false h = absurd (cc)

-- ---- all turns are those of the only hart

pub first_is : (number harts p : ℕ) → number ≡ 0 → harts ≡ 1 → block_first number p harts ≡ 0
first_is number harts p a b =
    let e : block_first 0 p 1 ≡ 0 = omega arith in
    ap (λ n. block_first n p harts) a ∙ ap (block_first 0 p) b ∙ e

pub end_is : (number harts p : ℕ) → number ≡ 0 → harts ≡ 1 → block_end number p harts ≡ p
end_is number harts p a b =
    let e : block_end 0 p 1 ≡ p = omega arith in
    ap (λ n. block_end n p harts) a ∙ ap (block_end 0 p) b ∙ e

-- ---- the parts of added code are one behind the other

behind_is : (p : ℕ) (is : List XInstr) → behind p is ≡ p + length is
behind_is p is = behind_hop p is ∙ hop_is (length is) p

pub check_before : (p : ℕ) (words : List ℕ) → check_place p ≤ fork_place p words
check_before p words = omega arith

pub fork_before : SizeLaw → (l : Level) (B : LoopCode) (roles : ℕ → Role) (p : ℕ) → p ≤ joined_at l B roles p
fork_before sizes l B roles p =
    let a = behind_is (p + 1) (fork_code (p + 1) 0) in
    let b = behind_is (begin_place p) (begin_code (movings roles) (begin_place p) 0) in
    let c = sizes l B (copies_place roles p) in
    let first : p ≤ begin_place p = omega (arith, a) in
    let second : begin_place p ≤ copies_place roles p = omega (arith, b) in
    let third : copies_place roles p ≤ next_place l B roles p = omega (arith, c) in
    let n : next_place l B roles p ≤ joined_at l B roles p = omega arith in
    omega (arith, first, second, third, n)
