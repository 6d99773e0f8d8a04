-- The words of a divided loop where they stand.
use Rattle.std.proofs.Common.{◌≡◌, ℕ, suc, ◌≤◌, ◌^◌, refl, sym, subst, ◌∙◌, arith, List, [], ◌∷◌, ◌++◌, length}
use Rattle.rv64_decode.specs.declared.xinstr.XInstr.{XInstr}
use Rattle.rv64_decode.specs.declared.xinstr.XInstr.TheVariants.{Par, Join}
use Rattle.loop_data.specs.declared.shape.Level.{Level}
use Rattle.loop_data.specs.Independent.{Role}
use Rattle.loop_data.specs.LoopCode.{LoopCode}
use Rattle.stub_laws.specs.Places.{behind}
use Rattle.stub_laws.proofs.Steps.{behind-append, behind_hop, hop_is}
use Rattle.turn_copies.specs.Copies.{Placed, jump_to, end_in, body_code}
use Rattle.turn_copies.specs.StubCode.{Moving, fork_code, movings, advances_code, restore_code, begin_code, next_code, leave_code, refuse_code}
use Rattle.turn_copies.specs.Stubs.{begin_place, copies_place, next_place, header_place, joined_at, refused_at, divided_code, PlacesLaw}
use Rattle.turn_copies.proofs.Following.{placed_front, placed_back}
use Rattle.turn_copies.proofs.Listing.{body_law, size_law}

-- how far the words go does not depend on where they lead
begin_behind : (ms : List Moving) (p q x y : ℕ) → behind q (begin_code ms p x) ≡ behind q (begin_code ms p y)
begin_behind ms p q x y =
    let words = advances_code ms ++ restore_code in
    behind-append q words (jump_to x (behind p words) ∷ []) ∙ sym (behind-append q words (jump_to y (behind p words) ∷ []))

body_behind : (l : Level) (B : LoopCode) (p : ℕ) → behind p (body_code l B p) ≡ end_in l B l.body p
body_behind l B p = behind_hop p (body_code l B p) ∙ hop_is (length (body_code l B p)) p ∙ size_law l B p

-- the words behind others, whose end is known
after_place : (code : List ℕ) (p q : ℕ) (is js : List XInstr) → behind p is ≡ q → Placed code p (is ++ js) → Placed code q js
after_place code p q is js e h = subst (λ n. Placed code n js) e (placed_back code p is js h)

-- where the check fails
pub refusal_placed : (code : List ℕ) (l : Level) (B : LoopCode) (roles : ℕ → Role) (p : ℕ) → Placed code p (divided_code l B roles p) → Placed code (refused_at l B roles p) refuse_code
refusal_placed code l B roles p h =
    let b = copies_place roles p in
    let n = next_place l B roles p in
    let top = header_place l B roles p in
    let j = joined_at l B roles p in
    let begin = begin_code (movings roles) (begin_place p) top in
    let copies = body_code l B b in
    let next = next_code n top in
    let leave = Join ∷ leave_code B.cells.cells in
    let rest1 = after_place code p (begin_place p) (Par ∷ fork_code (suc p) j) (begin ++ (copies ++ (next ++ (leave ++ refuse_code)))) refl h in
    let rest2 = after_place code (begin_place p) b begin (copies ++ (next ++ (leave ++ refuse_code))) (begin_behind (movings roles) (begin_place p) (begin_place p) top 0) rest1 in
    let rest3 = after_place code b n copies (next ++ (leave ++ refuse_code)) (body_behind l B b) rest2 in
    let rest4 = after_place code n j next (leave ++ refuse_code) refl rest3 in
    placed_back code j leave refuse_code rest4

pub places_law : PlacesLaw
places_law code l B roles p body order near h =
    let b = copies_place roles p in
    let n = next_place l B roles p in
    let top = header_place l B roles p in
    let j = joined_at l B roles p in
    let fork = Par ∷ fork_code (suc p) j in
    let begin = begin_code (movings roles) (begin_place p) top in
    let copies = body_code l B b in
    let next = next_code n top in
    let leave = Join ∷ leave_code B.cells.cells in
    let first = placed_front code p fork (begin ++ (copies ++ (next ++ (leave ++ refuse_code)))) h in
    let rest1 = after_place code p (begin_place p) fork (begin ++ (copies ++ (next ++ (leave ++ refuse_code)))) refl h in
    let second = placed_front code (begin_place p) begin (copies ++ (next ++ (leave ++ refuse_code))) rest1 in
    let rest2 = after_place code (begin_place p) b begin (copies ++ (next ++ (leave ++ refuse_code))) (begin_behind (movings roles) (begin_place p) (begin_place p) top 0) rest1 in
    let third = placed_front code b copies (next ++ (leave ++ refuse_code)) rest2 in
    let rest3 = after_place code b n copies (next ++ (leave ++ refuse_code)) (body_behind l B b) rest2 in
    let fourth = placed_front code n next (leave ++ refuse_code) rest3 in
    let rest4 = after_place code n j next (leave ++ refuse_code) refl rest3 in
    let fifth = placed_front code j leave refuse_code rest4 in
    let sixth = placed_back code j leave refuse_code rest4 in
    let short : n ≤ 2 ^ 32 = omega arith in
    record {
      forks = first.0;
      region = record { fork = first.1; begin = second; copies = body_law code l B b body order short third; next = fourth; near = near };
      joins = fifth.0;
      leaves = fifth.1;
      refuses = sixth;
    }
