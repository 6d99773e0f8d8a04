-- The words that the code round the copies appends, and where they stand.
use Rattle.std.proofs.Common.{◌≡◌, ℕ, zero, suc, ◌+◌, ◌-◌, ◌*◌, ◌<◌, ◌≤◌, ◌^◌, refl, sym, subst, ap, ◌∙◌, arith, ℤ, pos, Bool, false, Option, Some, None, List, [], ◌∷◌, ◌++◌, length, drop, get_or, add-one}
use Rattle.std.specs.Prelude.{if◌then◌else◌, slice_index_or}
use Rattle.std.proofs.Math.Seq.{drop-cons}
use Rattle.std.proofs.lemmas.Int.{ints}
use Rattle.std.proofs.lemmas.List.{drop_all, length-append}
use Rattle.rv64_decode.specs.Aim.{IsNear}
use Rattle.rv64_decode.specs.declared.instr.BranchOp.TheVariants.{Bne}
use Rattle.rv64_decode.specs.declared.instr.StoreOp.{StoreOp}
use Rattle.rv64_decode.specs.declared.instr.UpperOp.TheVariants.{Lui}
use Rattle.rv64_decode.specs.declared.instr.Instr.TheVariants.{Branch, Store, Upper}
use Rattle.rv64_decode.specs.declared.xinstr.XInstr.{XInstr}
use Rattle.rv64_decode.specs.declared.xinstr.XInstr.TheVariants.{Base, Put, Get}
use Rattle.loop_data.specs.declared.classes.Class.{Class}
use Rattle.loop_data.specs.declared.classes.Class.TheVariants.{Private as PrivateClass}
use Rattle.loop_data.specs.declared.verdict.Cell.{Cell}
use Rattle.loop_data.specs.Independent.{Role, Keeps, Moves, Private}
use Rattle.loop_data.specs.Lookups.{role_by}
use Rattle.stub_laws.specs.Code.{Appended}
use Rattle.stub_laws.specs.Places.{behind}
use Rattle.stub_laws.proofs.Appends.{joined, as_list, no_word}
use Rattle.stub_laws.proofs.Ends.{many_words}
use Rattle.stub_laws.proofs.Steps.{behind_hop, hop_is}
use Rattle.check_numbers.specs.Parts.{low_part, high_part}
use Rattle.turn_copies.specs.Copies.{jump_to}
use Rattle.turn_copies.specs.StubCode.{block_code, restore_code, fork_code, Moving, with_moving, movings_from, movings, advances_code, begin_code, cell_store, carrier, based_code, known_code, write_by, write_back_code}
use Rattle.outliner.specs.Moves.{roles_in}

-- how many words were appended
pub appended_length : (a b : List ℕ) (is : List XInstr) → Appended a b is → length b ≡ length a + length is
appended_length a b is x = ap length x.new_is ∙ length-append a x.added ∙ ap (λ n. length a + n) (sym (many_words x.added is x.stand))

pub behind_is : (p : ℕ) (is : List XInstr) → behind p is ≡ p + length is
behind_is p is = behind_hop p is ∙ hop_is (length is) p

-- places at most so far from each other
pub near_places : (to from : ℕ) → to ≤ from + 2 ^ 17 → from ≤ to + 2 ^ 17 → IsNear to from
near_places to from h k = (omega (arith, ints, h, k), omega (arith, ints, h, k))

pub fork_words : (a b c d : List ℕ) (p join : ℕ) → Appended a b block_code → Appended b c (Base (Branch Bne 28 0 (pos 8)) ∷ []) → Appended c d (jump_to join (p + 15) ∷ []) → Appended a d (fork_code p join)
fork_words a b c d p join x y z =
    let e : p + 15 ≡ suc (suc (suc (suc (suc (suc (suc (suc (suc (suc (suc (suc (suc (suc (suc p)))))))))))))) = omega arith in
    joined a b d _ _ x (joined b c d _ _ y (as_list c d _ _ z (ap (λ n. jump_to join n ∷ []) e)))

pub jumps_back : (a b : List ℕ) (p body : ℕ) → Appended a b (jump_to body (p + 6) ∷ []) → Appended a b (jump_to body (suc (suc (suc (suc (suc (suc p)))))) ∷ [])
jumps_back a b p body z =
    let e : p + 6 ≡ suc (suc (suc (suc (suc (suc p))))) = omega arith in
    as_list a b _ _ z (ap (λ n. jump_to body n ∷ []) e)

-- the location at the head of those that move on
one_moves : (role : Role) (loc : ℕ) (rest : List Moving) → advances_code (with_moving role loc rest) ≡ advances_code (with_moving role loc []) ++ advances_code rest
one_moves (Moves step) loc rest = refl
one_moves Keeps loc rest = refl
one_moves Private loc rest = refl

pub moving_turn : (a b fin : List ℕ) (row : List (Option Class)) (k : ℕ) (class : Option Class) → k < 48 → class ≡ slice_index_or row k None → Appended a b (advances_code (with_moving (role_by false class) k []))
    → Appended b fin (advances_code (movings_from (roles_in row) (k + 1) (48 - (k + 1)))) → Appended a fin (advances_code (movings_from (roles_in row) k (48 - k)))
moving_turn a b fin row k class h e p q =
    let n : 48 - k ≡ suc (48 - (k + 1)) = omega (arith, h) in
    let q' = subst (λ m. Appended b fin (advances_code (movings_from (roles_in row) m (48 - (k + 1))))) (add-one k) q in
    let p' = subst (λ x. Appended a b (advances_code (with_moving (role_by false x) k []))) e p in
    let rest = movings_from (roles_in row) (suc k) (48 - (k + 1)) in
    let whole : Appended a fin (advances_code (with_moving (roles_in row k) k rest)) = subst (Appended a fin) (sym (one_moves (roles_in row k) k rest)) (joined a b fin _ _ p' q') in
    subst (λ m. Appended a fin (advances_code (movings_from (roles_in row) k m))) (sym n) whole

pub moving_end : (a : List ℕ) (row : List (Option Class)) (k : ℕ) → 48 ≤ k → Appended a a (advances_code (movings_from (roles_in row) k (48 - k)))
moving_end a row k h =
    let n : 48 - k ≡ zero = omega (arith, h) in
    subst (λ m. Appended a a (advances_code (movings_from (roles_in row) k m))) (sym n) (no_word a)

with_length : (role : Role) (k : ℕ) (rest : List Moving) → length (advances_code (with_moving role k rest)) ≤ 6 + length (advances_code rest)
with_length (Moves step) k rest = omega arith
with_length Keeps k rest = omega arith
with_length Private k rest = omega arith

moves_length : (roles : ℕ → Role) (k n : ℕ) → length (advances_code (movings_from roles k n)) ≤ 6 * n
moves_length roles k zero = omega arith
moves_length roles k (suc n) =
    let h = moves_length roles (suc k) n in
    let w = with_length (roles k) k (movings_from roles (suc k) n) in
    omega (arith, h, w)

pub begin_order : (a b c : List ℕ) (roles : ℕ → Role) → Appended a b (advances_code (movings roles)) → Appended b c restore_code → length a ≤ length c
begin_order a b c roles x y = let e = appended_length a b _ x in let f = appended_length b c _ y in omega (arith, e, f)

pub begin_few : (a b c : List ℕ) (roles : ℕ → Role) → Appended a b (advances_code (movings roles)) → Appended b c restore_code → length c ≤ length a + 2 ^ 9
begin_few a b c roles x y =
    let e = appended_length a b _ x in
    let f : length c ≡ length b + 7 = appended_length b c _ y in
    let m = moves_length roles 0 48 in
    omega (arith, e, f, m)

pub begin_words : (a b c d : List ℕ) (ms : List Moving) (p body n : ℕ) → n ≡ p + (length c - length a) → Appended a b (advances_code ms) → Appended b c restore_code → Appended c d (jump_to body n ∷ []) → Appended a d (begin_code ms p body)
begin_words a b c d ms p body n h x y z =
    let is = advances_code ms ++ restore_code in
    let xy : Appended a c is = joined a b c _ _ x y in
    let l = appended_length a c is xy in
    let g = behind_is p is in
    let e : n ≡ behind p is = omega (arith, h, l, g) in
    joined a c d _ _ xy (as_list c d _ _ z (ap (λ m. jump_to body m ∷ []) e))

-- cells that are written back
pub written_turn : (a b fin : List ℕ) (cs : List Cell) (k : ℕ) (d : Cell) → k < length cs
    → Appended a b (if (get_or cs k d).stored then write_by k (cell_store (get_or cs k d).wide) (get_or cs k d).base (get_or cs k d).offset else [])
    → Appended b fin (write_back_code (k + 1) (drop (k + 1) cs)) → Appended a fin (write_back_code k (drop k cs))
written_turn a b fin cs k d h p q =
    let q' : Appended b fin (write_back_code (suc k) (drop (suc k) cs)) = subst (λ m. Appended b fin (write_back_code m (drop m cs))) (add-one k) q in
    subst (λ l. Appended a fin (write_back_code k l)) (sym (drop-cons cs k d h)) (joined a b fin _ _ p q')

pub written_end : (a : List ℕ) (cs : List Cell) (k : ℕ) → length cs ≤ k → Appended a a (write_back_code k (drop k cs))
written_end a cs k h = subst (λ l. Appended a a (write_back_code k l)) (sym (drop_all k cs h)) (no_word a)

pub based_words : (a b c d e : List ℕ) (k r s : ℕ) (op : StoreOp) (z offset : ℤ) → s ≡ carrier r → z ≡ offset → Appended a b (Put 29 s ∷ []) → Appended b c (Get s k ∷ []) → Appended c d (Base (Store op r s z) ∷ []) → Appended d e (Get s 29 ∷ [])
    → Appended a e (based_code k op r offset (carrier r))
based_words a b c d e k r s op z offset f g x y u v =
    let is : Put 29 s ∷ Get s k ∷ Base (Store op r s z) ∷ Get s 29 ∷ [] ≡ based_code k op r offset (carrier r) = cc in
    as_list a e _ _ (joined a b e _ _ x (joined b c e _ _ y (joined c d e _ _ u v))) is

pub known_words : (a b c d e f g h : List ℕ) (k : ℕ) (op : StoreOp) (v low : ℤ) → low ≡ low_part v → Appended a b (Put 29 5 ∷ []) → Appended b c (Put 30 6 ∷ []) → Appended c d (Get 5 k ∷ []) → Appended d e (Base (Upper Lui 6 (high_part v)) ∷ []) → Appended e f (Base (Store op 6 5 low) ∷ [])
    → Appended f g (Get 5 29 ∷ []) → Appended g h (Get 6 30 ∷ []) → Appended a h (known_code k op v)
known_words a b c d e f g h k op v low is x1 x2 x3 x4 x5 x6 x7 =
    joined a b h _ _ x1 (joined b c h _ _ x2 (joined c d h _ _ x3 (joined d e h _ _ x4 (joined e f h _ _ (as_list e f _ _ x5 (ap (λ z. Base (Store op 6 5 z) ∷ []) is)) (joined f g h _ _ x6 x7)))))

pub stored_none : (a : List ℕ) (b : Bool) (is : List XInstr) → b ≡ false → Appended a a (if b then is else [])
stored_none a b is e = as_list a a _ _ (no_word a) (ap (λ q. if q then is else []) (sym e))

pub no_class : (a : List ℕ) (loc : ℕ) (class : Option Class) → class ≡ None → Appended a a (advances_code (with_moving (role_by false class) loc []))
no_class a loc class e = as_list a a _ _ (no_word a) (ap (λ q. advances_code (with_moving (role_by false q) loc [])) (sym e))

pub private_class : (a : List ℕ) (loc : ℕ) (class : Option Class) → class ≡ Some PrivateClass → Appended a a (advances_code (with_moving (role_by false class) loc []))
private_class a loc class e = as_list a a _ _ (no_word a) (ap (λ q. advances_code (with_moving (role_by false q) loc [])) (sym e))
