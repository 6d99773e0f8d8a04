-- Classes of words, and what words of a class do.
use Rattle.std.proofs.Common.{◌≡◌, ◌≢◌, ℕ, ◌-◌, ◌+◌, ◌<◌, ◌≤◌, ◌⊎◌, ◌↔◌, inl, inr, Bool, true, false, not, ◌&&◌, ◌||◌, ◌==◌, Option, Some, None, List, [], ◌∷◌, ◌++◌, length, get_or, ℤ, refl, ap, sym, ◌∙◌, subst, arith}
use Rattle.std.specs.List.{Contains}
use Rattle.std.specs.Bool.{IsTrue}
use Rattle.std.specs.Option.{IfSome, IfNone}
use Rattle.std.proofs.lemmas.List.{length-map, get_or_default, get_or_append_left, get_or_push, length_push}
use Rattle.std.proofs.lemmas.Bool.{cases_lt, false≢true}
use Rattle.std.proofs.lemmas.Bool.Decides.{nat_tests}
use Rattle.std.proofs.lemmas.List.Elements.{Contains-get_or}
use Rattle.rv64_decode.specs.Table.{decoded}
use Rattle.rv64_decode.specs.declared.instr.Instr.{Instr}
use Rattle.rv64_decode.specs.declared.instr.Instr.TheVariants.{Upper, Branch, Jal, Jalr, Ecall}
use Rattle.rv64_decode.specs.declared.instr.UpperOp.TheVariants.{Auipc, Lui}
use Rattle.rv64_decode.specs.declared.instr.BranchOp.{BranchOp}
use Rattle.loop_data.specs.declared.graph.Word.{Word}
use Rattle.loop_data.specs.declared.graph.Graph.{Graph}
use Rattle.loop_shapes.specs.declared.kind.Class.{Class}
use Rattle.loop_shapes.specs.declared.kind.Class.TheVariants.{Jump, RegisterJump, Ask, Nothing, Fork, UpperPc, Other}
use Rattle.loop_shapes.specs.declared.kind.Kind.{Kind}
use Rattle.loop_shapes.specs.declared.kind.Kind.TheVariants.{Calls, Asks, JumpsAnywhere, IsNothing, Branches}
use Rattle.loop_data.specs.Paths.{addresses, IsInOrder, IsWord}
use Rattle.loop_data.specs.Instructions.{Means, IsPaired}
use Rattle.loop_shapes.specs.Kinds.{HasKind}
use Rattle.loop_shapes.specs.Class.{class_of, IsWordOfClass, HasPairing, does_of}
use Rattle.loop_shapes.proofs.Rows.{same_place, address_at}

upper_from : (i : Option Instr) (r : ℕ) → class_of i ≡ UpperPc r → (imm : ℤ) × (i ≡ Some (Upper Auipc r imm))
upper_from None r e = absurd (cc)
upper_from (Some (Upper Auipc rd imm)) r e = let same : rd ≡ r = cc in (imm, ap (λ (q : ℕ). Some (Upper Auipc q imm)) same)
upper_from (Some _) r e = absurd (cc)

jump_from : (i : Option Instr) (r : ℕ) → class_of i ≡ Jump r → (imm : ℤ) × (i ≡ Some (Jal r imm))
jump_from None r e = absurd (cc)
jump_from (Some (Jal rd imm)) r e = let same : rd ≡ r = cc in (imm, ap (λ (q : ℕ). Some (Jal q imm)) same)
jump_from (Some (Upper Auipc rd imm)) r e = absurd (cc)
jump_from (Some (Upper Lui rd imm)) r e = absurd (cc)
jump_from (Some _) r e = absurd (cc)

through_from : (i : Option Instr) (r s : ℕ) → class_of i ≡ RegisterJump r s → (imm : ℤ) × (i ≡ Some (Jalr r s imm))
through_from None r s e = absurd (cc)
through_from (Some (Jalr rd rs1 imm)) r s e =
    let same : rd ≡ r = cc in
    let other : rs1 ≡ s = cc in
    (imm, ap (λ (q : ℕ). Some (Jalr q rs1 imm)) same ∙ ap (λ (q : ℕ). Some (Jalr r q imm)) other)
through_from (Some (Upper Auipc rd imm)) r s e = absurd (cc)
through_from (Some (Upper Lui rd imm)) r s e = absurd (cc)
through_from (Some _) r s e = absurd (cc)

ask_from : (i : Option Instr) → class_of i ≡ Ask → i ≡ Some Ecall
ask_from None e = absurd (cc)
ask_from (Some Ecall) e = refl
ask_from (Some (Upper Auipc rd imm)) e = absurd (cc)
ask_from (Some (Upper Lui rd imm)) e = absurd (cc)
ask_from (Some _) e = absurd (cc)

nothing_from : (i : Option Instr) → class_of i ≡ Nothing → i ≡ None
nothing_from None e = refl
nothing_from (Some (Upper Auipc rd imm)) e = absurd (cc)
nothing_from (Some (Upper Lui rd imm)) e = absurd (cc)
nothing_from (Some _) e = absurd (cc)

fork_from : (i : Option Instr) → class_of i ≡ Fork → (op : BranchOp) × (a : ℕ) × (b : ℕ) × (imm : ℤ) × (i ≡ Some (Branch op a b imm))
fork_from None e = absurd (cc)
fork_from (Some (Branch op a b imm)) e = (op, a, b, imm, refl)
fork_from (Some (Upper Auipc rd imm)) e = absurd (cc)
fork_from (Some (Upper Lui rd imm)) e = absurd (cc)
fork_from (Some _) e = absurd (cc)

not_zero : (rd : ℕ) → rd ≢ 0 → not (rd == 0) ≡ true
not_zero rd z = grind (arith, nat_tests)

both : (a b : Bool) → a ≡ true → b ≡ true → (a && b) ≡ true
both true b e f = f
both false b e f = absurd (false≢true e)

is_zero : (rd : ℕ) → rd ≡ 0 → (rd == 0) ≡ true
is_zero rd z = grind (arith, nat_tests)

first : (a b : Bool) → a ≡ true → (a || b) ≡ true
first true b e = refl
first false b e = absurd (false≢true e)

second : (a : Bool) → (a || true) ≡ true
second true = refl
second false = refl

same_word : (G : Graph) → IsInOrder G → (v w : Word) → Contains G.words v → Contains G.words w → v.at ≡ w.at → v ≡ w
same_word G up v w a b e =
    let n = length-map G.words (λ (q : Word). q.at) in
    let la = a.1 in
    let lb = b.1 in
    let k : a.0 ≡ b.0 = same_place (addresses G) up a.0 b.0 (omega arith) (omega arith) (sym (address_at G a.0 v a.1 a.2) ∙ e ∙ address_at G b.0 w b.1 b.2) in
    sym a.2 ∙ get_or_default G.words a.0 v w a.1 ∙ ap (λ q. get_or G.words q w) k ∙ b.2

pub word_of_meaning : (G : Graph) (x : ℕ) (i : Option Instr) → Means G x i → IsWord G x
word_of_meaning G x i m =
    let n = length-map G.words (λ (q : Word). q.at) in
    let l = m.among.1 in
    subst (IsWord G) (sym (address_at G m.among.0 m.word l m.among.2) ∙ m.at) (Contains-get_or (addresses G) m.among.0 0 (omega arith))

module _ (G : Graph) (up : IsInOrder G) (x : ℕ) where
  class_unique : (class : Class) (i : Option Instr) → IsWordOfClass G x class → Means G x i → class_of i ≡ class
  class_unique class i h m = ap class_of (sym m.means) ∙ ap (λ (w : Word). class_of (decoded w.bits)) (same_word G up m.word h.word m.among h.among (m.at ∙ sym h.at)) ∙ h.is

  means_as : (class : Class) (i : Option Instr) (h : IsWordOfClass G x class) → decoded h.word.bits ≡ i → Means G x i
  means_as class i h e = record { word = h.word; among = h.among; at = h.at; means = e }

  kind_from : (k : Kind) (class : Class) (paired : Bool) → IsWordOfClass G x class → HasPairing G x class paired → does_of k class paired ≡ true → HasKind k G x
  kind_from Calls (Jump rd) paired h p e =
      let i = jump_from (decoded h.word.bits) rd h.is in
      inl (record { rd = rd; imm = i.0; links = λ z. links rd z e; means = means_as (Jump rd) (Some (Jal rd i.0)) h i.1 })
    where
      links : (rd : ℕ) → rd ≡ 0 → not (rd == 0) ≡ true → ⊥
      links rd z e = grind (arith, nat_tests)
  kind_from Calls (RegisterJump rd rs1) paired h p e =
      let i = through_from (decoded h.word.bits) rd rs1 h.is in
      inr (record { rd = rd; rs1 = rs1; imm = i.0; means = means_as (RegisterJump rd rs1) (Some (Jalr rd rs1 i.0)) h i.1; holds = (λ z. links rd paired z e, p.0 (paired_too rd paired e)) })
    where
      links : (rd : ℕ) (paired : Bool) → rd ≡ 0 → (not (rd == 0) && paired) ≡ true → ⊥
      links rd paired z e = grind (arith, nat_tests)

      paired_too : (rd : ℕ) (paired : Bool) → (not (rd == 0) && paired) ≡ true → paired ≡ true
      paired_too rd paired e = grind (arith, nat_tests)
  kind_from Calls Ask paired h p e = absurd (false≢true e)
  kind_from Calls Nothing paired h p e = absurd (false≢true e)
  kind_from Calls Fork paired h p e = absurd (false≢true e)
  kind_from Calls (UpperPc rd) paired h p e = absurd (false≢true e)
  kind_from Calls Other paired h p e = absurd (false≢true e)
  kind_from Asks Ask paired h p e = means_as Ask (Some Ecall) h (ask_from (decoded h.word.bits) h.is)
  kind_from Asks (Jump rd) paired h p e = absurd (false≢true e)
  kind_from Asks (RegisterJump rd rs1) paired h p e = absurd (false≢true e)
  kind_from Asks Nothing paired h p e = absurd (false≢true e)
  kind_from Asks Fork paired h p e = absurd (false≢true e)
  kind_from Asks (UpperPc rd) paired h p e = absurd (false≢true e)
  kind_from Asks Other paired h p e = absurd (false≢true e)
  kind_from JumpsAnywhere (RegisterJump rd rs1) paired h p e =
      let i = through_from (decoded h.word.bits) rd rs1 h.is in
      record { rd = rd; rs1 = rs1; imm = i.0; means = means_as (RegisterJump rd rs1) (Some (Jalr rd rs1 i.0)) h i.1; holds = either rd paired e (λ z. either_not paired z p.1) }
    where
      either : (rd : ℕ) (paired : Bool) → ((rd == 0) || not paired) ≡ true → {P : Type 0} → (paired ≡ false → ¬ P) → (rd ≡ 0) ⊎ ¬ P
      either rd true e f = inl (grind (arith, nat_tests))
      either rd false e f = inr (f refl)

      either_not : (paired : Bool) → paired ≡ false → {P : Type 0} → (P → IsTrue paired) → ¬ P
      either_not paired z f q = absurd (false≢true (sym z ∙ f q))
  kind_from JumpsAnywhere (Jump rd) paired h p e = absurd (false≢true e)
  kind_from JumpsAnywhere Ask paired h p e = absurd (false≢true e)
  kind_from JumpsAnywhere Nothing paired h p e = absurd (false≢true e)
  kind_from JumpsAnywhere Fork paired h p e = absurd (false≢true e)
  kind_from JumpsAnywhere (UpperPc rd) paired h p e = absurd (false≢true e)
  kind_from JumpsAnywhere Other paired h p e = absurd (false≢true e)
  kind_from IsNothing Nothing paired h p e = means_as Nothing None h (nothing_from (decoded h.word.bits) h.is)
  kind_from IsNothing (Jump rd) paired h p e = absurd (false≢true e)
  kind_from IsNothing (RegisterJump rd rs1) paired h p e = absurd (false≢true e)
  kind_from IsNothing Ask paired h p e = absurd (false≢true e)
  kind_from IsNothing Fork paired h p e = absurd (false≢true e)
  kind_from IsNothing (UpperPc rd) paired h p e = absurd (false≢true e)
  kind_from IsNothing Other paired h p e = absurd (false≢true e)
  kind_from Branches Fork paired h p e =
      let i = fork_from (decoded h.word.bits) h.is in
      record { op = i.0; rs1 = i.1; rs2 = i.2; imm = i.3; means = means_as Fork (Some (Branch i.0 i.1 i.2 i.3)) h i.4 }
  kind_from Branches (Jump rd) paired h p e = absurd (false≢true e)
  kind_from Branches (RegisterJump rd rs1) paired h p e = absurd (false≢true e)
  kind_from Branches Ask paired h p e = absurd (false≢true e)
  kind_from Branches Nothing paired h p e = absurd (false≢true e)
  kind_from Branches (UpperPc rd) paired h p e = absurd (false≢true e)
  kind_from Branches Other paired h p e = absurd (false≢true e)

  kind_to : (k : Kind) (class : Class) (paired : Bool) → IsWordOfClass G x class → HasPairing G x class paired → HasKind k G x → does_of k class paired ≡ true
  kind_to Calls class paired h p (inl j) =
      let e = class_unique class (Some (Jal j.rd j.imm)) h j.means in
      subst (λ (q : Class). does_of Calls q paired ≡ true) e (links j.rd j.links)
    where
      links : (rd : ℕ) → rd ≢ 0 → not (rd == 0) ≡ true
      links rd z = not_zero rd z
  kind_to Calls class paired h p (inr j) =
      let e = class_unique class (Some (Jalr j.rd j.rs1 j.imm)) h j.means in
      let q = subst (λ (q : Class). HasPairing G x q paired) (sym e) p in
      subst (λ (q : Class). does_of Calls q paired ≡ true) e (links j.rd paired j.holds.0 (q.1 j.holds.1))
    where
      links : (rd : ℕ) (paired : Bool) → rd ≢ 0 → paired ≡ true → (not (rd == 0) && paired) ≡ true
      links rd paired z e = both (not (rd == 0)) paired (not_zero rd z) e
  kind_to Asks class paired h p m = subst (λ (q : Class). does_of Asks q paired ≡ true) (class_unique class (Some Ecall) h m) refl
  kind_to JumpsAnywhere class paired h p j =
      let e = class_unique class (Some (Jalr j.rd j.rs1 j.imm)) h j.means in
      let q = subst (λ (q : Class). HasPairing G x q paired) (sym e) p in
      subst (λ (q : Class). does_of JumpsAnywhere q paired ≡ true) e (jumps j.rd paired j.holds q.0)
    where
      jumps : {P : Type 0} (rd : ℕ) (paired : Bool) → (rd ≡ 0) ⊎ ¬ P → (IsTrue paired → P) → ((rd == 0) || not paired) ≡ true
      jumps rd true (inl z) f = first (rd == 0) false (is_zero rd z)
      jumps rd true (inr no_pair) f = absurd (no_pair (f refl))
      jumps rd false s f = second (rd == 0)
  kind_to IsNothing class paired h p m = subst (λ (q : Class). does_of IsNothing q paired ≡ true) (class_unique class None h m) refl
  kind_to Branches class paired h p b = subst (λ (q : Class). does_of Branches q paired ≡ true) (class_unique class (Some (Branch b.op b.rs1 b.rs2 b.imm)) h b.means) refl

  pub kind_says : (k : Kind) (class : Class) (paired b : Bool) → IsWordOfClass G x class → HasPairing G x class paired → b ≡ does_of k class paired → IsTrue b ↔ HasKind k G x
  kind_says k class paired b h p e = (λ t. kind_from k class paired h p (sym e ∙ t), λ q. e ∙ kind_to k class paired h p q)

  pub no_kind : (k : Kind) → ¬ IsWord G x → IsTrue false ↔ HasKind k G x
  no_kind k absent = (λ t. absurd (false≢true t), λ q. absurd (absent (a_word k q)))
    where
      a_word : (k : Kind) → HasKind k G x → IsWord G x
      a_word Calls (inl j) = word_of_meaning G x (Some (Jal j.rd j.imm)) j.means
      a_word Calls (inr j) = word_of_meaning G x (Some (Jalr j.rd j.rs1 j.imm)) j.means
      a_word Asks m = word_of_meaning G x (Some Ecall) m
      a_word JumpsAnywhere j = word_of_meaning G x (Some (Jalr j.rd j.rs1 j.imm)) j.means
      a_word IsNothing m = word_of_meaning G x None m
      a_word Branches b = word_of_meaning G x (Some (Branch b.op b.rs1 b.rs2 b.imm)) b.means

pub paired_by : (G : Graph) → IsInOrder G → (x r : ℕ) (o : Option Class) → 4 ≤ x → IfSome o (IsWordOfClass G (x - 4)) → IfNone o (¬ IsWord G (x - 4)) → (o ≡ Some (UpperPc r)) ↔ IsPaired G x r
paired_by G up x r (Some class) le found none = (there, back)
  where
    there : Some class ≡ Some (UpperPc r) → IsPaired G x r
    there e =
        let same : class ≡ UpperPc r = cc in
        let i = upper_from (decoded found.word.bits) r (found.is ∙ same) in
        record { before = x - 4; next = omega arith; imm = i.0; auipc = record { word = found.word; among = found.among; at = found.at; means = i.1 } }

    back : IsPaired G x r → Some class ≡ Some (UpperPc r)
    back p =
        let n = p.next in
        let b : p.before ≡ x - 4 = omega arith in
        let m = subst (λ (q : ℕ). Means G q (Some (Upper Auipc r p.imm))) b p.auipc in
        ap (λ (q : Class). Some q) (sym (class_unique G up (x - 4) class (Some (Upper Auipc r p.imm)) found m))
paired_by G up x r None le found none = (λ e. absurd (cc), back)
  where
    back : IsPaired G x r → None ≡ Some (UpperPc r)
    back p =
        let n = p.next in
        let b : p.before ≡ x - 4 = omega arith in
        absurd (none (subst (IsWord G) b (word_of_meaning G p.before (Some (Upper Auipc r p.imm)) p.auipc)))

-- the class of one more word
pub classes_push : (P : ℕ → Class → Type 0) (old new : List Class) (class : Class) (n : ℕ) → new ≡ old ++ class ∷ [] → (length old ≡ n) × ((i : ℕ) → i < n → P i (get_or old i Nothing)) → P n class → (length new ≡ n + 1) × ((i : ℕ) → i < n + 1 → P i (get_or new i Nothing))
classes_push P old new class n e a p = (ap length e ∙ length_push old class ∙ ap (λ k. k + 1) a.0, λ i l. subst (λ (q : List Class). P i (get_or q i Nothing)) (sym e) (by i l (cases_lt i n)))
  where
    by : (i : ℕ) → i < n + 1 → (i < n) ⊎ (n ≤ i) → P i (get_or (old ++ class ∷ []) i Nothing)
    by i l (inl m) =
        let c = a.0 in
        subst (P i) (sym (get_or_append_left old (class ∷ []) Nothing i (omega arith))) (a.1 i m)
    by i l (inr m) =
        let c = a.0 in
        let same : n ≡ i = omega arith in
        subst (P i) (sym (get_or_push old class Nothing i (c ∙ same))) (subst (λ (k : ℕ). P k class) same p)
