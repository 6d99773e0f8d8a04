-- One instruction of added code, by what the registers and slots read.
use Rattle.std.proofs.Common.{◌≡◌, ℕ, zero, suc, ◌+◌, ◌*◌, ◌%◌, ◌^◌, ◌<◌, ◌≤◌, refl, sym, subst, ap, ◌∙◌, arith, ℤ, pos, Some, Bool, true, false, List, [], ◌∷◌, ◌++◌, length}
use Rattle.std.specs.Prelude.{slice_index, slice_set, ◌==◌}
use Rattle.std.specs.Int.{w64, cast_unsigned}
use Rattle.std.proofs.lemmas.Bool.Decides.{nat_tests}
use Rattle.std.proofs.lemmas.Grind.{common_steps}
use Rattle.std.proofs.lemmas.Int.{ints}
use Rattle.rv64_decode.specs.Area.{Area}
use Rattle.rv64_decode.specs.Registers.{register, with_register}
use Rattle.rv64_decode.specs.Row.{alu, alu_imm, taken, next_pc, plus_offset, jump}
use Rattle.rv64_decode.specs.declared.outcome.Next.TheVariants.{At}
use Rattle.rv64_decode.specs.Ask.{Ask, Nothing}
use Rattle.rv64_decode.specs.declared.instr.AluOp.{AluOp}
use Rattle.rv64_decode.specs.declared.instr.ImmOp.{ImmOp}
use Rattle.rv64_decode.specs.declared.instr.BranchOp.{BranchOp}
use Rattle.rv64_decode.specs.declared.instr.UpperOp.TheVariants.{Lui}
use Rattle.rv64_decode.specs.declared.instr.Instr.TheVariants.{Alu, AluImm, Upper, Branch, Jal}
use Rattle.rv64_decode.specs.declared.xinstr.XInstr.{XInstr}
use Rattle.rv64_decode.specs.declared.xinstr.XInstr.TheVariants.{Base, Put, Get}
use Rattle.rv64_decode.specs.declared.xinstr.XNext.TheVariants.{Own}
use Rattle.rv64_decode.specs.Aim.{distance}
use Rattle.rv64_decode.specs.Hart.{Hart, address, fetched, moved, act, run}
use Rattle.stub_laws.specs.Straight.{read, put}
use Rattle.stub_laws.specs.Places.{StandsIn, behind}
use Rattle.stub_laws.proofs.Small.{fetched_small, fetched_within}

-- what stays the same while a hart runs, and what is to be reached
pub record World : Type 1 where
  pub code : List ℕ
  pub short : length code ≤ 2 ^ 32
  pub no : ℕ
  pub near : no ≤ 2 ^ 32
  pub memory : List Area
  pub log : List Ask
  pub number : ℕ
  pub harts : ℕ
  pub goal : Hart → Type 0

abbrev pub hart_at : World → ℕ → List ℕ → List ℕ → Hart
hart_at w p regs slots = record { pc = address p; regs = regs; slots = slots; memory = w.memory; log = w.log; number = w.number; harts = w.harts }

-- the run from this hart comes to what is to be reached
abbrev pub Reaches : World → Hart → Type 0
Reaches w h = (n : ℕ) × w.goal (run w.code n h)

-- registers and slots as functions of their numbers
pub record Reads (regs : List ℕ) (f : ℕ → ℕ) : Type 0 where
  pub many : length regs ≡ 32
  pub each : (q : ℕ) → q < 32 → register regs q ≡ read f q

pub record Holds (slots : List ℕ) (g : ℕ → ℕ) : Type 0 where
  pub many : length slots ≡ 32
  pub each : (q : ℕ) → q < 32 → slice_index slots q ≡ g q

-- from this place, with any registers and slots that read so, the run comes to what is to be reached
pub record Wins (w : World) (p : ℕ) (f g : ℕ → ℕ) : Type 0 where
  pub by : (regs slots : List ℕ) → Reads regs f → Holds slots g → Reaches w (hart_at w p regs slots)

reads_each : (regs : List ℕ) (f : ℕ → ℕ) (r v q : ℕ) → length regs ≡ 32 → register regs q ≡ read f q → r < 32 → q < 32 → register (with_register regs r v) q ≡ read (put f r v) q
reads_each regs f r v q a b c d = grind (arith, common_steps, nat_tests)

reads_many : (regs : List ℕ) (r v : ℕ) → length regs ≡ 32 → length (with_register regs r v) ≡ 32
reads_many regs r v a = grind (arith, common_steps, nat_tests)

pub reads_put : (regs : List ℕ) (f : ℕ → ℕ) (r v : ℕ) → r < 32 → Reads regs f → Reads (with_register regs r v) (put f r v)
reads_put regs f r v c h = record { many = reads_many regs r v h.many; each = λ q d. reads_each regs f r v q h.many (h.each q d) c d }

holds_each : (slots : List ℕ) (g : ℕ → ℕ) (s v q : ℕ) → length slots ≡ 32 → slice_index slots q ≡ g q → s < 32 → q < 32 → slice_index (slice_set slots s v) q ≡ put g s v q
holds_each slots g s v q a b c d = grind (arith, common_steps, nat_tests)

pub holds_many : (slots : List ℕ) (s v : ℕ) → length slots ≡ 32 → length (slice_set slots s v) ≡ 32
holds_many slots s v a = grind (arith, common_steps, nat_tests)

pub holds_put : (slots : List ℕ) (g : ℕ → ℕ) (s v : ℕ) → s < 32 → Holds slots g → Holds (slice_set slots s v) (put g s v)
holds_put slots g s v c h = record { many = holds_many slots s v h.many; each = λ q d. holds_each slots g s v q h.many (h.each q d) c d }

pub go : (w : World) (h h' : Hart) (i : XInstr) → fetched w.code h.pc ≡ Some i → act (Some i) h ≡ h' → Reaches w h' → Reaches w h
unfolding run
go w h h' i e a r = (suc r.0, subst (λ x. w.goal (run w.code r.0 x)) (sym (ap (λ o. act o h) e ∙ a)) r.1)

pub next_address : (p : ℕ) → p ≤ 2 ^ 32 → next_pc (address p) ≡ address (suc p)
next_address p h = omega arith

pub place_small : (w : World) (p : ℕ) (i : XInstr) → fetched w.code (address p) ≡ Some i → p ≤ 2 ^ 32
place_small w p i e = let a = fetched_within w.code p i e in let b = w.short in omega (arith, a, b)

pub alu_law : (w : World) (p : ℕ) (f g : ℕ → ℕ) (op : AluOp) (rd rs1 rs2 : ℕ) → fetched w.code (address p) ≡ Some (Base (Alu op rd rs1 rs2)) → Wins w (suc p) (put f rd (alu op (read f rs1) (read f rs2))) g → Wins w p f g
alu_law w p f g op rd rs1 rs2 e h = record {
  by = λ regs slots a b.
      let small = fetched_small w.code (address p) _ e in
      let new = with_register regs rd (alu op (register regs rs1) (register regs rs2)) in
      let pc = next_address p (place_small w p _ e) in
      let v = ap (λ x. alu op x (register regs rs2)) (a.each rs1 small.1) ∙ ap (alu op (read f rs1)) (a.each rs2 small.2) in
      go w (hart_at w p regs slots) (hart_at w (suc p) new slots) _ e
      (ap (λ n. record { pc = n; regs = new; slots = slots; memory = w.memory; log = w.log; number = w.number; harts = w.harts }) pc)
      (h.by new slots (subst (λ n. Reads new (put f rd n)) v (reads_put regs f rd _ small.0 a)) b);
}

-- the steps below all write one register, one slot or none, and go on to the next word
on_reg : (w : World) (p : ℕ) (f g : ℕ → ℕ) (i : XInstr) (rd v : ℕ) (regs slots : List ℕ) (u : ℕ) → fetched w.code (address p) ≡ Some i → rd < 32 → act (Some i) (hart_at w p regs slots) ≡ record { pc = next_pc (address p); regs = with_register regs rd u; slots = slots; memory = w.memory; log = w.log; number = w.number; harts = w.harts } → u ≡ v → Reads regs f → Holds slots g → Wins w (suc p) (put f rd v) g → Reaches w (hart_at w p regs slots)
on_reg w p f g i rd v regs slots u e small is same a b h =
    let new = with_register regs rd u in
    go w (hart_at w p regs slots) (hart_at w (suc p) new slots) i e
    (is ∙ ap (λ n. record { pc = n; regs = new; slots = slots; memory = w.memory; log = w.log; number = w.number; harts = w.harts }) (next_address p (place_small w p i e)))
    (h.by new slots (subst (λ n. Reads new (put f rd n)) same (reads_put regs f rd u small a)) b)

pub imm_law : (w : World) (p : ℕ) (f g : ℕ → ℕ) (op : ImmOp) (rd rs1 : ℕ) (imm : ℤ) → fetched w.code (address p) ≡ Some (Base (AluImm op rd rs1 imm)) → Wins w (suc p) (put f rd (alu_imm op (read f rs1) imm)) g → Wins w p f g
imm_law w p f g op rd rs1 imm e h = record {
  by = λ regs slots a b.
      let small = fetched_small w.code (address p) _ e in
      on_reg w p f g (Base (AluImm op rd rs1 imm)) rd _ regs slots _ e small.0 refl (ap (λ x. alu_imm op x imm) (a.each rs1 small.1)) a b h;
}

pub lui_law : (w : World) (p : ℕ) (f g : ℕ → ℕ) (rd : ℕ) (imm : ℤ) → fetched w.code (address p) ≡ Some (Base (Upper Lui rd imm)) → Wins w (suc p) (put f rd (cast_unsigned w64 imm)) g → Wins w p f g
lui_law w p f g rd imm e h = record {
  by = λ regs slots a b.
      on_reg w p f g (Base (Upper Lui rd imm)) rd _ regs slots _ e (fetched_small w.code (address p) _ e) refl refl a b h;
}

pub get_law : (w : World) (p : ℕ) (f g : ℕ → ℕ) (rd slot : ℕ) → fetched w.code (address p) ≡ Some (Get rd slot) → Wins w (suc p) (put f rd (g slot)) g → Wins w p f g
get_law w p f g rd slot e h = record {
  by = λ regs slots a b.
      let small = fetched_small w.code (address p) _ e in
      on_reg w p f g (Get rd slot) rd _ regs slots _ e small.0 refl (b.each slot small.1) a b h;
}

pub put_law : (w : World) (p : ℕ) (f g : ℕ → ℕ) (slot rs1 : ℕ) → fetched w.code (address p) ≡ Some (Put slot rs1) → Wins w (suc p) f (put g slot (read f rs1)) → Wins w p f g
put_law w p f g slot rs1 e h = record {
  by = λ regs slots a b.
      let small = fetched_small w.code (address p) _ e in
      let new = slice_set slots slot (register regs rs1) in
      go w (hart_at w p regs slots) (hart_at w (suc p) regs new) _ e
      (ap (λ n. record { pc = n; regs = regs; slots = new; memory = w.memory; log = w.log; number = w.number; harts = w.harts }) (next_address p (place_small w p _ e)))
      (h.by regs new a (subst (λ n. Holds new (put g slot n)) (a.each rs1 small.1) (holds_put slots g slot _ small.0 b)));
}

-- n places further
abbrev pub hop : ℕ → ℕ → ℕ
hop zero p = p
hop (suc n) p = hop n (suc p)

pub hop_is : (n p : ℕ) → hop n p ≡ p + n
hop_is zero p = omega arith
hop_is (suc n) p = let h = hop_is n (suc p) in omega (arith, h)

pub jumped : (w : World) (p q : ℕ) (regs slots : List ℕ) (target : ℕ) → target ≡ address q → jump target regs regs ≡ record { next = At (address q); regs = regs }
jumped w p q regs slots target e = let d : (target % 4 == 0) ≡ true = grind (arith, nat_tests) in
    rw d (ap (λ n. record { next = At n; regs = regs }) e)

pub branch_law : (w : World) (p : ℕ) (f g : ℕ → ℕ) (op : BranchOp) (rs1 rs2 n : ℕ) → fetched w.code (address p) ≡ Some (Base (Branch op rs1 rs2 (pos (4 * n)))) → n < 2 ^ 20 → (taken op (read f rs1) (read f rs2) ≡ true → Wins w (hop n p) f g) → (taken op (read f rs1) (read f rs2) ≡ false → Wins w (suc p) f g) → Wins w p f g
branch_law w p f g op rs1 rs2 n e near yes' no' = record {
  by = λ regs slots a b.
      let small = fetched_small w.code (address p) _ e in
      let place = place_small w p _ e in
      let v : taken op (register regs rs1) (register regs rs2) ≡ taken op (read f rs1) (read f rs2) = ap (λ x. taken op x (register regs rs2)) (a.each rs1 small.0) ∙ ap (taken op (read f rs1)) (a.each rs2 small.1) in
      let to : plus_offset (address p) (pos (4 * n)) ≡ address (hop n p) = let h = hop_is n p in omega (arith, h) in
      by_test (taken op (read f rs1) (read f rs2)) refl regs slots a b v place to;
}
  where
    by_test : (t : Bool) → taken op (read f rs1) (read f rs2) ≡ t → (regs slots : List ℕ) → Reads regs f → Holds slots g → taken op (register regs rs1) (register regs rs2) ≡ taken op (read f rs1) (read f rs2) → p ≤ 2 ^ 32 → plus_offset (address p) (pos (4 * n)) ≡ address (hop n p) → Reaches w (hart_at w p regs slots)
    by_test true t regs slots a b v place to =
        go w (hart_at w p regs slots) (hart_at w (hop n p) regs slots) _ e
        (rw (v, t) (ap (λ o. moved (hart_at w p regs slots) (Own o.next) o.regs slots Nothing) (jumped w p (hop n p) regs slots _ to)))
        ((yes' t).by regs slots a b)
    by_test false t regs slots a b v place to =
        go w (hart_at w p regs slots) (hart_at w (suc p) regs slots) _ e
        (rw (v, t) (ap (λ n. record { pc = n; regs = regs; slots = slots; memory = w.memory; log = w.log; number = w.number; harts = w.harts }) (next_address p place)))
        ((no' t).by regs slots a b)

pub distance_goes : (p q : ℕ) → p ≤ 2 ^ 32 → q ≤ 2 ^ 32 → plus_offset (address p) (distance q p) ≡ address q
distance_goes p q a b = omega (arith, ints)

pub jal_law : (w : World) (p q : ℕ) (f g : ℕ → ℕ) → fetched w.code (address p) ≡ Some (Base (Jal 0 (distance q p))) → q ≤ 2 ^ 32 → Wins w q f g → Wins w p f g
jal_law w p q f g e near h = record {
  by = λ regs slots a b.
      go w (hart_at w p regs slots) (hart_at w q regs slots) _ e
      (ap (λ o. moved (hart_at w p regs slots) (Own o.next) o.regs slots Nothing) (jumped w p q regs slots _ (distance_goes p q (place_small w p _ e) near)))
      (h.by regs slots a b);
}

-- these instructions stand at this place, the open jumps aimed
abbrev pub Stands : World → ℕ → List XInstr → Type 0
Stands w p is = StandsIn w.code w.no p is

pub behind-append : (p : ℕ) (is js : List XInstr) → behind p (is ++ js) ≡ behind (behind p is) js
behind-append p [] js = refl
behind-append p (i ∷ is) js = behind-append (suc p) is js

pub behind_hop : (p : ℕ) (is : List XInstr) → behind p is ≡ hop (length is) p
behind_hop p [] = refl
behind_hop p (i ∷ is) = behind_hop (suc p) is

pub stands_front : (w : World) (p : ℕ) (is js : List XInstr) → Stands w p (is ++ js) → Stands w p is
stands_front w p [] js h = tt
stands_front w p (i ∷ is) js h = (h.0, stands_front w (suc p) is js h.1)

pub stands_back : (w : World) (p : ℕ) (is js : List XInstr) → Stands w p (is ++ js) → Stands w (behind p is) js
stands_back w p [] js h = h
stands_back w p (i ∷ is) js h = stands_back w (suc p) is js h.1

pub no_law : (w : World) (p : ℕ) (f g : ℕ → ℕ) → fetched w.code (address p) ≡ Some (Base (Jal 0 (distance w.no p))) → Wins w w.no f g → Wins w p f g
no_law w p f g e h = jal_law w p w.no f g e w.near h

-- registers and slots that read alike
pub alike : (w : World) (p : ℕ) (f f' g g' : ℕ → ℕ) → ((q : ℕ) → q < 32 → read f q ≡ read f' q) → ((q : ℕ) → q < 32 → g q ≡ g' q) → Wins w p f' g' → Wins w p f g
alike w p f f' g g' a b h = record {
  by = λ regs slots c d.
      h.by regs slots (record { many = c.many; each = λ q l. c.each q l ∙ a q l }) (record { many = d.many; each = λ q l. d.each q l ∙ b q l });
}

-- a branch to any place
pub branch_to : (w : World) (p q : ℕ) (f g : ℕ → ℕ) (op : BranchOp) (rs1 rs2 : ℕ) → fetched w.code (address p) ≡ Some (Base (Branch op rs1 rs2 (distance q p))) → q ≤ 2 ^ 32 → (taken op (read f rs1) (read f rs2) ≡ true → Wins w q f g) → (taken op (read f rs1) (read f rs2) ≡ false → Wins w (suc p) f g) → Wins w p f g
branch_to w p q f g op rs1 rs2 e near on off = record {
  by = λ regs slots a b.
      let small = fetched_small w.code (address p) _ e in
      let place = place_small w p _ e in
      let v : taken op (register regs rs1) (register regs rs2) ≡ taken op (read f rs1) (read f rs2) = ap (λ x. taken op x (register regs rs2)) (a.each rs1 small.0) ∙ ap (taken op (read f rs1)) (a.each rs2 small.1) in
      by_test (taken op (read f rs1) (read f rs2)) refl regs slots a b v place;
}
  where
    by_test : (t : Bool) → taken op (read f rs1) (read f rs2) ≡ t → (regs slots : List ℕ) → Reads regs f → Holds slots g → taken op (register regs rs1) (register regs rs2) ≡ taken op (read f rs1) (read f rs2) → p ≤ 2 ^ 32 → Reaches w (hart_at w p regs slots)
    by_test true t regs slots a b v place =
        go w (hart_at w p regs slots) (hart_at w q regs slots) _ e
        (rw (v, t) (ap (λ o. moved (hart_at w p regs slots) (Own o.next) o.regs slots Nothing) (jumped w p q regs slots _ (distance_goes p q place near))))
        ((on t).by regs slots a b)
    by_test false t regs slots a b v place =
        go w (hart_at w p regs slots) (hart_at w (suc p) regs slots) _ e
        (rw (v, t) (ap (λ n. record { pc = n; regs = regs; slots = slots; memory = w.memory; log = w.log; number = w.number; harts = w.harts }) (next_address p place)))
        ((off t).by regs slots a b)
