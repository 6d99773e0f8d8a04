-- How many words a stub has.
use Rattle.std.proofs.Common.{◌≡◌, ◌==◌, ◌&&◌, ◌≤◌, ◌+◌, ◌*◌, ◌++◌, ℕ, zero, suc, Bool, true, false, List, [], ◌∷◌, length, ℤ, Option, Some, None, refl, ap, sym, ◌∙◌, arith, if◌then◌else◌}
use Rattle.std.proofs.lemmas.List.{length-append}
use Rattle.rv64_decode.specs.Row.{next_pc}
use Rattle.rv64_decode.specs.declared.instr.Instr.{Instr}
use Rattle.rv64_decode.specs.declared.instr.Instr.TheVariants.{Upper, Load, Store, Branch, Jal}
use Rattle.rv64_decode.specs.declared.instr.LoadOp.TheVariants.{Lw}
use Rattle.rv64_decode.specs.declared.instr.StoreOp.{StoreOp}
use Rattle.rv64_decode.specs.declared.instr.UpperOp.TheVariants.{Auipc}
use Rattle.rv64_decode.specs.declared.xinstr.XInstr.{XInstr}
use Rattle.rv64_decode.specs.declared.xinstr.XInstr.TheVariants.{Par, Join, Back}
use Rattle.loop_data.specs.declared.shape.Level.{Level}
use Rattle.loop_data.specs.declared.verdict.Cell.{Cell}
use Rattle.loop_data.specs.Independent.{Role, Moves, Keeps, Private}
use Rattle.loop_data.specs.LoopCode.{LoopCode}
use Rattle.stub_laws.specs.Code.{readings, somes}
use Rattle.stub_laws.specs.Places.{behind}
use Rattle.turn_copies.specs.Copies.{Placing, Kind, Leaving, OfCell, Plain, kind_of, word_code, back_code, falls_through, jump_to, copy_of, copy_code, copies_code, in_order, body_code}
use Rattle.turn_copies.specs.StubCode.{Moving, movings, movings_from, with_moving, advance_code, advances_code, restore_code, begin_code, fork_code, next_code, cell_store, write_by, write_back_code, leave_code, refuse_code, save_code}
use Rattle.turn_copies.specs.Stubs.{begin_place, copies_place, header_place, next_place, joined_at, divided_code}
use Rattle.turn_copies.specs.StubWords.{IsStub, fork_place}

-- ---- copies

word_few : (l : Level) (c : Placing) (u : ℕ) (kind : Kind) (i : Instr) → length (word_code l c u kind i) ≤ 2
word_few l c u Leaving i = omega arith
word_few l c u (OfCell k) (Load Lw rd rs1 imm) = omega arith
word_few l c u (OfCell k) (Load _ rd rs1 imm) = omega arith
word_few l c u (OfCell k) (Store op rs1 rs2 imm) = omega arith
word_few l c u (OfCell k) _ = omega arith
word_few l c u Plain (Upper Auipc rd imm) = omega arith
word_few l c u Plain (Upper _ rd imm) = omega arith
word_few l c u Plain (Branch op rs1 rs2 imm) = omega arith
word_few l c u Plain (Jal rd imm) = omega arith
word_few l c u Plain _ = omega arith

back_few : (l : Level) (c : Placing) (p u : ℕ) (i : Instr) → length (back_code l c p u i) ≤ 1
back_few l c p u i = go (falls_through i && (next_pc u == l.header))
  where
    go : (t : Bool) → length (if t then jump_to c.next p ∷ [] else []) ≤ 1
    go true = omega arith
    go false = omega arith

copy_few : (l : Level) (c : Placing) (u : ℕ) (kind : Kind) (o : Option Instr) → length (copy_of l c u kind o) ≤ 3
copy_few l c u kind None = omega arith
copy_few l c u kind (Some i) =
    let p = behind (c.place u) (word_code l c u kind i) in
    let n = length-append (word_code l c u kind i) (back_code l c p u i) in
    let a = word_few l c u kind i in
    let b = back_few l c p u i in
    omega arith

copies_few : (l : Level) (B : LoopCode) (c : Placing) (us : List ℕ) → length (copies_code l B c us) ≤ 3 * length us
copies_few l B c [] = omega arith
copies_few l B c (u ∷ us) =
    let n = length-append (copy_code l B c u) (copies_code l B c us) in
    let a = copy_few l c u (kind_of l B u) (B.instr u) in
    let b = copies_few l B c us in
    omega arith

-- ---- before and behind them

moving_few : (r : Role) (loc : ℕ) (rest : List Moving) → length (with_moving r loc rest) ≤ suc (length rest)
moving_few (Moves step) loc rest = omega arith
moving_few Keeps loc rest = omega arith
moving_few Private loc rest = omega arith

movings_few : (roles : ℕ → Role) (loc n : ℕ) → length (movings_from roles loc n) ≤ n
movings_few roles loc zero = omega arith
movings_few roles loc (suc n) =
    let a = moving_few (roles loc) loc (movings_from roles (suc loc) n) in
    let b = movings_few roles (suc loc) n in
    omega arith

advances_length : (ms : List Moving) → length (advances_code ms) ≡ 6 * length ms
advances_length [] = refl
advances_length (m ∷ ms) =
    let n = length-append (advance_code m) (advances_code ms) in
    let six : length (advance_code m) ≡ 6 = refl in
    let rest = advances_length ms in
    omega arith

begin_few : (roles : ℕ → Role) (p body : ℕ) → length (begin_code (movings roles) p body) ≤ 296
begin_few roles p body =
    let words : List XInstr = advances_code (movings roles) ++ restore_code in
    let n = length-append words (jump_to body (behind p words) ∷ []) in
    let m = length-append (advances_code (movings roles)) restore_code in
    let seven : length restore_code ≡ 7 = refl in
    let a = advances_length (movings roles) in
    let b = movings_few roles 0 48 in
    omega arith

write_few : (k : ℕ) (op : StoreOp) (base : Option ℕ) (offset : ℤ) → length (write_by k op base offset) ≤ 7
write_few k op (Some r) offset = omega arith
write_few k op None v = omega arith

stored_few : (k : ℕ) (c : Cell) (t : Bool) → length (if t then write_by k (cell_store c.wide) c.base c.offset else []) ≤ 7
stored_few k c true = write_few k (cell_store c.wide) c.base c.offset
stored_few k c false = omega arith

cells_few : (k : ℕ) (cells : List Cell) → length (write_back_code k cells) ≤ 7 * length cells
cells_few k [] = omega arith
cells_few k (c ∷ cells) =
    let n = length-append (if c.stored then write_by k (cell_store c.wide) c.base c.offset else []) (write_back_code (suc k) cells) in
    let a = stored_few k c c.stored in
    let b = cells_few (suc k) cells in
    omega arith

divided_few : (l : Level) (B : LoopCode) (roles : ℕ → Role) (p : ℕ) → length l.body ≤ 256 → length B.cells.cells ≤ 16
    → length (divided_code l B roles p) ≤ 1300
divided_few l B roles p few cells =
    let forks : List XInstr = Par ∷ fork_code (suc p) (joined_at l B roles p) in
    let begins : List XInstr = begin_code (movings roles) (begin_place p) (header_place l B roles p) in
    let body : List XInstr = body_code l B (copies_place roles p) in
    let nexts : List XInstr = next_code (next_place l B roles p) (header_place l B roles p) in
    let leaves : List XInstr = Join ∷ leave_code B.cells.cells in
    let n1 = length-append forks (begins ++ (body ++ (nexts ++ (leaves ++ refuse_code)))) in
    let n2 = length-append begins (body ++ (nexts ++ (leaves ++ refuse_code))) in
    let n3 = length-append body (nexts ++ (leaves ++ refuse_code)) in
    let n4 = length-append nexts (leaves ++ refuse_code) in
    let n5 = length-append leaves refuse_code in
    let n6 = length-append (write_back_code 0 B.cells.cells) (Back ∷ []) in
    let a : length forks ≡ 17 = refl in
    let b = begin_few roles (begin_place p) (header_place l B roles p) in
    let c = copies_few l B (in_order l B (copies_place roles p)) l.body in
    let d : length nexts ≡ 8 = refl in
    let e = cells_few 0 B.cells.cells in
    let f : length refuse_code ≡ 8 = refl in
    omega arith

-- ---- words

readings_length : (ws : List ℕ) → length (readings ws) ≡ length ws
unfolding readings
readings_length [] = refl
readings_length (w ∷ ws) = ap suc (readings_length ws)

somes_length : (is : List XInstr) → length (somes is) ≡ length is
unfolding somes
somes_length [] = refl
somes_length (i ∷ is) = ap suc (somes_length is)

same_length : (ws : List ℕ) (is : List XInstr) → readings ws ≡ somes is → length ws ≡ length is
same_length ws is e = sym (readings_length ws) ∙ ap length e ∙ somes_length is

pub stub_few : (l : Level) (B : LoopCode) (roles : ℕ → Role) (p : ℕ) (tests words : List ℕ) → length l.body ≤ 256
    → length B.cells.cells ≤ 16 → IsStub l B roles p tests words → length words ≤ length tests + 1307
stub_few l B roles p tests words few cells s =
    let e = ap length s.are in
    let n = length-append s.saved (s.aimed ++ s.divided) in
    let m = length-append s.aimed s.divided in
    let a = same_length s.saved save_code s.saves in
    let seven : length save_code ≡ 7 = refl in
    let b = s.many in
    let c = same_length s.divided (divided_code l B roles (fork_place p tests)) s.divides in
    let d = divided_few l B roles (fork_place p tests) few cells in
    omega arith
