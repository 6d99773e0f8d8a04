-- The words behind a check, joined, and how many they are.
use Rattle.std.proofs.Common.{append_assoc, ◌≡◌, ℕ, zero, suc, ◌+◌, ◌-◌, ◌*◌, ◌<◌, ◌≤◌, ◌^◌, refl, ap, ◌∙◌, arith, Bool, true, false, ℤ, Option, Some, None, List, [], ◌∷◌, ◌++◌, length, if◌then◌else◌}
use Rattle.std.specs.Prelude.{slice_index_or}
use Rattle.std.proofs.lemmas.List.{length-append}
use Rattle.rv64_decode.specs.declared.instr.StoreOp.{StoreOp}
use Rattle.rv64_decode.specs.declared.xinstr.XInstr.{XInstr}
use Rattle.rv64_decode.specs.declared.xinstr.XInstr.TheVariants.{Par, Join}
use Rattle.loop_data.specs.declared.classes.Class.{Class}
use Rattle.loop_data.specs.declared.classes.Class.TheVariants.{Induction, Private as PrivateClass}
use Rattle.loop_data.specs.declared.shape.Level.{Level}
use Rattle.loop_data.specs.declared.verdict.Cell.{Cell}
use Rattle.loop_data.specs.Independent.{Role, Moves, Keeps, Private}
use Rattle.loop_data.specs.LoopCode.{LoopCode}
use Rattle.loop_data.specs.Lookups.{role_by, classes_of}
use Rattle.loop_data.proofs.Tests.{is_eq}
use Rattle.stub_laws.specs.Code.{Appended}
use Rattle.stub_laws.specs.Places.{behind}
use Rattle.stub_laws.proofs.Appends.{joined, as_list, fresh}
use Rattle.turn_copies.specs.Copies.{place_in, end_in, body_code, jump_to}
use Rattle.turn_copies.specs.Listing.{SizeLaw}
use Rattle.turn_copies.specs.StubCode.{Moving, with_moving, movings_from, movings, advances_code, restore_code, begin_code, fork_code, next_code, join_place, leave_code, refuse_code, write_back_code, write_by, cell_store}
use Rattle.turn_copies.specs.Stubs.{begin_place}
use Rattle.outliner.specs.Moves.{roles_in, moved, front_code, behind_code, divided_by, AreDivided}
use Rattle.outliner.proofs.Appends.{appended_length, behind_is}
use Rattle.outliner.proofs.Spread.{end_most}

-- ---- the words before the copies

pub begin_length : (ms : List Moving) (p body : ℕ) → length (begin_code ms p body) ≡ length (advances_code ms) + 8
begin_length ms p body =
    let a = length-append (advances_code ms ++ restore_code) (jump_to body (behind p (advances_code ms ++ restore_code)) ∷ []) in
    let b = length-append (advances_code ms) restore_code in
    omega (arith, a, b)

one_length : (role : Role) (loc : ℕ) (rest : List Moving) → length (advances_code (with_moving role loc rest)) ≡ length (advances_code (with_moving role loc [])) + length (advances_code rest)
one_length (Moves step) loc rest = omega arith
one_length Keeps loc rest = omega arith
one_length Private loc rest = omega arith

pub moving_size : (row : List (Option Class)) (k size : ℕ) (class : Option Class) → k < 48 → class ≡ slice_index_or row k None → size ≡ length (advances_code (with_moving (role_by false class) k []))
    → length (advances_code (movings_from (roles_in row) k (48 - k))) ≡ size + length (advances_code (movings_from (roles_in row) (k + 1) (48 - (k + 1))))
moving_size row k size class lt e s =
    let n : 48 - k ≡ suc (48 - (k + 1)) = omega arith in
    let next : suc k ≡ k + 1 = omega arith in
    let rest = movings_from (roles_in row) (suc k) (48 - (k + 1)) in
    let one = one_length (roles_in row k) k rest in
    let same : size ≡ length (advances_code (with_moving (roles_in row k) k [])) = s ∙ ap (λ x. length (advances_code (with_moving (role_by false x) k []))) e in
    let sum : length (advances_code (with_moving (roles_in row k) k rest)) ≡ size + length (advances_code rest) = omega (arith, one, same) in
    ap (λ m. length (advances_code (movings_from (roles_in row) k m))) n ∙ sum ∙ ap (λ m. size + length (advances_code (movings_from (roles_in row) m (48 - (k + 1))))) next

pub no_moving : (row : List (Option Class)) (k : ℕ) → 48 ≤ k → length (advances_code (movings_from (roles_in row) k (48 - k))) ≡ 0
no_moving row k h = let n : 48 - k ≡ zero = omega arith in ap (λ m. length (advances_code (movings_from (roles_in row) k m))) n

-- ---- the words behind the copies

write_few : (k : ℕ) (op : StoreOp) (o : Option ℕ) (v : ℤ) → length (write_by k op o v) ≤ 7
write_few k op (Some r) v = omega arith
write_few k op None v = omega arith

stored_few : (k : ℕ) (c : Cell) (b : Bool) → length (if b then write_by k (cell_store c.wide) c.base c.offset else []) ≤ 7
stored_few k c true = write_few k (cell_store c.wide) c.base c.offset
stored_few k c false = omega arith

written_few : (cells : List Cell) (k : ℕ) → length (write_back_code k cells) ≤ 7 * length cells
written_few [] k = omega arith
written_few (c ∷ cs) k =
    let a = length-append (if c.stored then write_by k (cell_store c.wide) c.base c.offset else []) (write_back_code (suc k) cs) in
    let b = stored_few k c c.stored in
    let h = written_few cs (suc k) in
    omega (arith, a, b, h)

pub leave_few : (cells : List Cell) → length cells ≤ 16 → length (leave_code cells) ≤ 113
leave_few cells h =
    let a = length-append (write_back_code 0 cells) (Rattle.rv64_decode.specs.declared.xinstr.XInstr.TheVariants.Back ∷ []) in
    let b = written_few cells 0 in
    omega (arith, a, b)

-- ---- places

-- over any list of those that move on: `movings` of roles computes to a case for each of 48 locations, which no tactic should see
pub copies_by : (ms : List Moving) (p first size : ℕ) → first ≡ p + 17 + size → size ≡ length (begin_code ms 0 0) → first ≡ behind (begin_place p) (begin_code ms (begin_place p) 0)
copies_by ms p first size e s =
    let a = behind_is (begin_place p) (begin_code ms (begin_place p) 0) in
    let b = begin_length ms (begin_place p) 0 in
    let c = begin_length ms 0 0 in
    let d : p + 17 ≡ begin_place p = omega arith in
    omega (arith, a, b, c, d, e, s)

-- ---- the words round the copies

pub front_words : (ms : List Moving) (p header next : ℕ) (c0 c1 c2 c3 : List ℕ) → Appended c0 c1 (Par ∷ []) → Appended c1 c2 (fork_code (p + 1) (next + 8)) → Appended c2 c3 (begin_code ms (p + 17) header) → Appended c0 c3 (front_code ms p header next)
front_words ms p header next c0 c1 c2 c3 x1 x2 x3 =
    let one : p + 1 ≡ suc p = omega arith in
    let j : next + 8 ≡ join_place next = omega arith in
    let b : p + 17 ≡ begin_place p = omega arith in
    let y2 : Appended c1 c2 (fork_code (suc p) (join_place next)) = as_list c1 c2 _ _ x2 (ap (λ q. fork_code q (next + 8)) one ∙ ap (fork_code (suc p)) j) in
    let y3 : Appended c2 c3 (begin_code ms (begin_place p) header) = as_list c2 c3 _ _ x3 (ap (λ q. begin_code ms q header) b) in
    joined c0 c2 c3 _ _ (joined c0 c1 c2 _ _ x1 y2) y3

pub behind_words : (cells : List Cell) (header next : ℕ) (c0 c1 c2 c3 : List ℕ) → Appended c0 c1 (next_code next header) → Appended c1 c2 (Join ∷ []) → Appended c2 c3 (leave_code cells) → Appended c0 c3 (behind_code cells header next)
behind_words cells header next c0 c1 c2 c3 x1 x2 x3 = joined c0 c1 c3 _ _ x1 (joined c1 c2 c3 _ _ x2 x3)

front_length : (ms : List Moving) (p header next : ℕ) → length (front_code ms p header next) ≡ 17 + length (begin_code ms (begin_place p) header)
front_length ms p header next = length-append (Par ∷ fork_code (suc p) (join_place next)) (begin_code ms (begin_place p) header)

behind_length : (cells : List Cell) (header next : ℕ) → length (behind_code cells header next) ≡ 9 + length (leave_code cells)
behind_length cells header next = let a = length-append (next_code next header) (Join ∷ leave_code cells) in omega (arith, a)

-- the whole code from place p on, where the copies begin at `first`
abbrev code_by : Level → LoopCode → List Moving → ℕ → ℕ → List XInstr
code_by l B ms p first =
    (Par ∷ fork_code (suc p) (join_place (end_in l B l.body first)))
    ++ (begin_code ms (begin_place p) (place_in l B l.body first l.header)
    ++ (body_code l B first
    ++ (next_code (end_in l B l.body first) (place_in l B l.body first l.header) ++ ((Join ∷ leave_code B.cells.cells) ++ refuse_code))))

regrouped : (l : Level) (B : LoopCode) (ms : List Moving) (p first : ℕ) →
    let header = place_in l B l.body first l.header in
    let next = end_in l B l.body first in
    front_code ms p header next ++ (body_code l B first ++ (behind_code B.cells.cells header next ++ refuse_code)) ≡ code_by l B ms p first
regrouped l B ms p first =
    let header = place_in l B l.body first l.header in
    let next = end_in l B l.body first in
    let fork = Par ∷ fork_code (suc p) (join_place next) in
    let begin = begin_code ms (begin_place p) header in
    append_assoc fork begin (body_code l B first ++ (behind_code B.cells.cells header next ++ refuse_code))
    ∙ ap (λ q. fork ++ (begin ++ (body_code l B first ++ q))) (append_assoc (next_code next header) (Join ∷ leave_code B.cells.cells) refuse_code)

-- so many words stand before the last ones, and where that is
pub before_last : (size : SizeLaw) (l : Level) (B : LoopCode) (ms : List Moving) (p first next header many : ℕ) (c0 c1 c2 c3 : List ℕ) → c0 ≡ [] → length B.cells.cells ≤ 16 → length l.body ≤ 256 → first ≡ p + 17 + many → many ≡ length (begin_code ms 0 0) → many ≤ 296
    → next ≡ end_in l B l.body first → Appended c0 c1 (front_code ms p header next) → Appended c1 c2 (body_code l B first) → Appended c2 c3 (behind_code B.cells.cells header next)
    → (length c3 ≤ 2 ^ 11) × (p + length c3 ≡ behind (suc (join_place next)) (leave_code B.cells.cells))
before_last size l B ms p first next header many c0 c1 c2 c3 none cells few f m most n x1 x2 x3 =
    let z : length c0 ≡ 0 = ap length none in
    let y1 = appended_length c0 c1 _ x1 in
    let y2 = appended_length c1 c2 _ x2 in
    let y3 = appended_length c2 c3 _ x3 in
    let l1 = front_length ms p header next in
    let l2 = begin_length ms (begin_place p) header in
    let l3 = begin_length ms 0 0 in
    let l4 = size l B first in
    let l5 = behind_length B.cells.cells header next in
    let b = end_most l B l.body first in
    let k = leave_few B.cells.cells cells in
    let last = behind_is (suc (join_place next)) (leave_code B.cells.cells) in
    (omega (arith, z, y1, y2, y3, l1, l2, l3, l4, l5, m, most, b, k, few, n), omega (arith, z, y1, y2, y3, l1, l2, l3, l4, l5, f, m, n, last))

pub are_divided : (size : SizeLaw) (l : Level) (B : LoopCode) (ms : List Moving) (p first next header many : ℕ) (c0 c1 c2 c3 c4 : List ℕ) → c0 ≡ [] → length B.cells.cells ≤ 16 → length l.body ≤ 256 → first ≡ p + 17 + many → many ≡ length (begin_code ms 0 0) → many ≤ 296
    → next ≡ end_in l B l.body first → header ≡ place_in l B l.body first l.header
    → Appended c0 c1 (front_code ms p header next) → Appended c1 c2 (body_code l B first) → Appended c2 c3 (behind_code B.cells.cells header next) → Appended c3 c4 refuse_code
    → AreDivided l B ms p c4 (length c3)
are_divided size l B ms p first next header many c0 c1 c2 c3 c4 none cells few f m most n h x1 x2 x3 x4 =
    let c = behind (begin_place p) (begin_code ms (begin_place p) 0) in
    let at : first ≡ c = copies_by ms p first many f m in
    let start = front_code ms p header next in
    let tail = behind_code B.cells.cells header next in
    let whole : Appended c0 c4 (start ++ (body_code l B first ++ (tail ++ refuse_code))) = joined c0 c1 c4 _ _ x1 (joined c1 c2 c4 _ _ x2 (joined c2 c3 c4 _ _ x3 x4)) in
    let is : start ++ (body_code l B first ++ (tail ++ refuse_code)) ≡ divided_by l B ms p =
    ap (λ q. front_code ms p q next ++ (body_code l B first ++ (behind_code B.cells.cells q next ++ refuse_code))) h
    ∙ ap (λ q. front_code ms p (place_in l B l.body first l.header) q ++ (body_code l B first ++ (behind_code B.cells.cells (place_in l B l.body first l.header) q ++ refuse_code))) n
    ∙ regrouped l B ms p first ∙ ap (code_by l B ms p) at in
    let b = before_last size l B ms p first next header many c0 c1 c2 c3 none cells few f m most n x1 x2 x3 in
    let y4 : length c4 ≡ length c3 + 8 = appended_length c3 c4 _ x4 in
    let there : next ≡ end_in l B l.body c = n ∙ ap (end_in l B l.body) at in
    record {
      words = fresh c0 c4 (divided_by l B ms p) none (as_list c0 c4 _ _ whole is);
      refused = b.1 ∙ ap (λ q. behind (suc (join_place q)) (leave_code B.cells.cells)) there;
      few = b.0;
      last = y4;
    }

-- ---- which locations move on depends on the classes alone

with_written : (w : Bool) (c : Option Class) (loc : ℕ) (rest : List Moving) → with_moving (role_by false c) loc rest ≡ with_moving (role_by w c) loc rest
with_written w (Some (Induction step)) loc rest = refl
with_written w (Some PrivateClass) loc rest = refl
with_written true None loc rest = refl
with_written false None loc rest = refl

movings_alike : (row : List (Option Class)) (w : ℕ → Bool) (n k : ℕ) → movings_from (roles_in row) k n ≡ movings_from (λ r. role_by (w r) (slice_index_or row r None)) k n
movings_alike row w zero k = refl
movings_alike row w (suc n) k =
    ap (with_moving (roles_in row k) k) (movings_alike row w n (suc k)) ∙ with_written (w k) (slice_index_or row k None) k (movings_from (λ r. role_by (w r) (slice_index_or row r None)) (suc k) n)

pub same_movings : (row : List (Option Class)) (w : ℕ → Bool) → movings (roles_in row) ≡ movings (λ r. role_by (w r) (slice_index_or row r None))
same_movings row w = movings_alike row w 48 0

pub root_row : (root : Level) (inner levels : List Level) (row : List (Option Class)) (rows : List (List (Option Class))) → levels ≡ root ∷ inner → classes_of levels (row ∷ rows) root ≡ row
root_row root inner levels row rows e =
    ap (λ ls. classes_of ls (row ∷ rows) root) e ∙ ap (λ b. if b then row else classes_of inner rows root) (is_eq root.header root.header refl)

-- ---- the name of the list

pub moved_is : (row : List (Option Class)) → movings (roles_in row) ≡ moved row
unfolding moved
moved_is row = refl
