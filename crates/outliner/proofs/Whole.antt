-- The whole stub, from its three lists of words.
use Rattle.std.proofs.Common.{◌≡◌, ℕ, ◌+◌, ◌-◌, ◌<◌, ◌≤◌, ◌^◌, sym, subst, ap, ◌∙◌, arith, List, [], ◌∷◌, ◌++◌, length, append_assoc}
use Rattle.std.specs.Prelude.{get_or, slice_index}
use Rattle.std.specs.List.{All}
use Rattle.std.proofs.lemmas.Int.{ints}
use Rattle.std.proofs.lemmas.List.{length-append}
use Rattle.rv64_decode.specs.Aim.{Aimed, IsNear}
use Rattle.loop_data.specs.declared.classes.Classes.{Classes}
use Rattle.loop_data.specs.declared.shape.Level.{Level}
use Rattle.loop_data.specs.Independent.{Role}
use Rattle.loop_data.specs.LoopCode.{LoopCode, any_writes}
use Rattle.loop_data.specs.Lookups.{classes_of, roles_by}
use Rattle.stub_laws.specs.Code.{Appended, somes}
use Rattle.stub_laws.proofs.Appends.{fresh}
use Rattle.turn_copies.specs.Copies.{place_in, end_in}
use Rattle.turn_copies.specs.StubCode.{Moving, movings, save_code}
use Rattle.turn_copies.specs.Stubs.{divided_code, refused_at}
use Rattle.turn_copies.specs.StubWords.{check_place, fork_place, IsStub}
use Rattle.outliner.specs.Moves.{roles_in, moved, divided_by, refused_by, AreDivided}
use Rattle.outliner.proofs.Appends.{appended_length}
use Rattle.outliner.proofs.Divided.{same_movings, root_row, moved_is}
use Rattle.outliner.proofs.Spread.{end_most, place_most, place_least}

-- the locations that move on are the same by the whole table of classes
pub moved_alike : (B : LoopCode) (levels : List Level) (classes : Classes) (root : Level) (inner : List Level) → levels ≡ root ∷ inner → moved classes.root ≡ movings (roles_by B levels classes root)
moved_alike B levels classes root inner e =
    sym (moved_is classes.root) ∙ ap (λ q. movings (roles_in q)) (sym (root_row root inner levels classes.root classes.inner e)) ∙ same_movings (classes_of levels (classes.root ∷ classes.inner) root) (any_writes B root.body)

pub is_stub : (l : Level) (B : LoopCode) (ms : List Moving) (roles : ℕ → Role) (p fork r : ℕ) (check c0 c1 c2 c3 aimed divided : List ℕ) → c0 ≡ [] → Appended c0 c1 save_code → c2 ≡ c1 ++ aimed → c3 ≡ c2 ++ divided → All (λ (w : ℕ). w < 2 ^ 32) check → length aimed ≡ length check → fork ≡ p + 7 + length check
    → ((k : ℕ) → k < length check → Aimed (length check + r) k (slice_index check k) (slice_index aimed k)) → AreDivided l B ms fork divided r → ms ≡ movings roles → IsStub l B roles p check c3
is_stub l B ms roles p fork r check c0 c1 c2 c3 aimed divided none saves e2 e3 small many at aims d alike =
    let f : fork ≡ fork_place p check = omega (arith, at) in
    let words : divided_by l B ms fork ≡ divided_code l B roles (fork_place p check) = ap (divided_by l B ms) f ∙ ap (λ q. divided_by l B q (fork_place p check)) alike in
    let place : refused_by l B ms fork ≡ refused_at l B roles (fork_place p check) = ap (refused_by l B ms) f ∙ ap (λ q. refused_by l B q (fork_place p check)) alike in
    let g : fork + r ≡ refused_at l B roles (fork_place p check) = d.refused ∙ place in
    let t : length check + r ≡ refused_at l B roles (fork_place p check) - check_place p = omega (arith, g, at) in
    record {
      saved = c1;
      aimed = aimed;
      divided = divided;
      are = e3 ∙ ap (λ xs. xs ++ divided) e2 ∙ append_assoc c1 aimed divided;
      saves = fresh c0 c1 save_code none saves;
      small = small;
      many = many;
      aims = λ k lt. subst (λ n. Aimed n k (slice_index check k) (slice_index aimed k)) t (aims k lt);
      divides = d.words ∙ ap somes words;
    }

-- the first of the levels is the root
pub read_root : (levels : List Level) (root : Level) (inner : List Level) (level : Level) → levels ≡ root ∷ inner → level ≡ get_or levels 0 level → level ≡ root
read_root levels root inner level e f = f ∙ ap (λ ls. get_or ls 0 level) e

-- a stub has few words beside its check's
pub stub_few : (check c0 c1 c2 c3 aimed divided : List ℕ) (r : ℕ) → c0 ≡ [] → Appended c0 c1 save_code → c2 ≡ c1 ++ aimed → c3 ≡ c2 ++ divided → length aimed ≡ length check → length divided ≡ r + 8 → r ≤ 2 ^ 11 → length c3 ≤ length check + 2 ^ 12
stub_few check c0 c1 c2 c3 aimed divided r none saves e2 e3 many last few =
    let z : length c0 ≡ 0 = ap length none in
    let a : length c1 ≡ length c0 + 7 = appended_length c0 c1 _ saves in
    let b = ap length e2 ∙ length-append c1 aimed in
    let d = ap length e3 ∙ length-append c2 divided in
    omega (arith, z, a, b, d, many, last, few)

-- where the copies of a loop stand: the header's is not before the first, none is behind the last, and all are near
pub record AreNear (p header next : ℕ) : Type 0 where
  pub from : p + 17 ≤ header
  pub order : header ≤ next
  pub near : next ≤ header + 2 ^ 10
  pub few : next ≤ p + 2 ^ 12

pub are_near : (l : Level) (B : LoopCode) (p many first next header : ℕ) → length l.body ≤ 256 → first ≡ p + 17 + many → many ≤ 296 → next ≡ end_in l B l.body first → header ≡ place_in l B l.body first l.header → AreNear p header next
are_near l B p many first next header few f most n h =
    let a = end_most l B l.body first in
    let b = place_least l B l.body first l.header in
    let c = place_most l B l.body first l.header in
    record { from = omega (arith, b, f, h); order = omega (arith, c, n, h); near = omega (arith, a, b, n, h, few); few = omega (arith, a, f, most, n, few) }

-- so is the place where a check that fails leads from each of its words
pub near_refusal : (check r k : ℕ) → check ≤ 200000 → r ≤ 2 ^ 11 → k < check → IsNear (check + r) k
near_refusal check r k a b c = (omega (arith, ints, a, b, c), omega (arith, ints, a, b, c))
