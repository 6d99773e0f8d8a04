-- The events of the only hart up to the one by which it leaves added code.
use Rattle.std.proofs.Common.{◌≡◌, ◌≤◌, ℕ, zero, suc, refl, sym, ap, subst, Option, Some, None, true, arith, ◌⊎◌, inl, inr, ◌∙◌}
use Rattle.rv64_decode.specs.Hart.{Hart as OneHart}
use Rattle.rv64_decode.specs.declared.xinstr.XInstr.{XInstr}
use Rattle.rv64_decode.specs.declared.xinstr.XInstr.TheVariants.{Base, Put, Get, Par, Join, Back, Id, Harts}
use Rattle.divided_loops.specs.Alone.{act_alone, run_alone, goes_on, MeetsNoFault}
use Rattle.hart_core.specs.Machine.{State}
use Rattle.hart_core.specs.Events.{after_event}
use Rattle.hart_core.specs.Alone.{events_alone}
use Rattle.added_runs.specs.Laws.{HasLeft, IsQuiet, IsInStub, StubLaw}
use Rattle.added_runs.proofs.Following.{LeavesAlone, Follows, IsOther, instr_of, one_more, at_back}

-- after some events the machine t has left, and it is quiet before
abbrev Leaves : State → ℕ → State → OneHart → Type 0
Leaves s entry t r = (m : ℕ) × HasLeft s (events_alone (suc m) t) entry r × ((k : ℕ) → k ≤ m → IsQuiet s (events_alone k t))

pub quiet : (s t : State) → LeavesAlone s t → IsQuiet s t
quiet s t l = record { running = l.running; output = l.output; rest = l.rest }

-- the next event leaves
at_once : (s : State) (entry : ℕ) (t : State) (r : OneHart) → LeavesAlone s t → HasLeft s (after_event t 0) entry r
    → Leaves s entry t r
at_once s entry t r l left = (0, left, now)
  where
    now : (k : ℕ) → k ≤ 0 → IsQuiet s (events_alone k t)
    now zero b = quiet s t l
    now (suc k) b = absurd (omega arith)

-- one event more before
later : (s : State) (entry : ℕ) (t : State) (r : OneHart) → LeavesAlone s t → Leaves s entry (after_event t 0) r
    → Leaves s entry t r
later s entry t r l rest = (suc rest.0, rest.1, now)
  where
    now : (k : ℕ) → k ≤ suc rest.0 → IsQuiet s (events_alone k t)
    now zero b = quiet s t l
    now (suc k) b = rest.2 k (omega arith)

-- whether the hart leaves added code by an instruction
pub is_other : (i : XInstr) → (i ≡ Back) ⊎ IsOther i
is_other Back = inl refl
is_other (Base i) = inr tt
is_other (Put slot rs1) = inr tt
is_other (Get rd slot) = inr tt
is_other Par = inr tt
is_other Join = inr tt
is_other (Id rd) = inr tt
is_other (Harts rd) = inr tt

stays_at_back : (o : Option XInstr) (r : OneHart) → o ≡ Some Back → act_alone o r ≡ r
stays_at_back o r e = ap (λ x. act_alone x r) e

-- where there is no instruction the hart does not go on
pub none_goes : (o : Option XInstr) (r : OneHart) → o ≡ None → goes_on o r ≡ true → ⊥
none_goes None r e g = cc
none_goes (Some i) r e g = cc

-- the hart after one instruction of the machine's added code, and after n
abbrev pub next : State → OneHart → OneHart
next s r = act_alone (instr_of s r) r

abbrev pub runs : State → ℕ → OneHart → OneHart
runs s n r = run_alone s.core.image.code n r

abbrev pub GoesOn : State → OneHart → Type 0
GoesOn s r = MeetsNoFault s.core.image.code r

pub next_run : (s : State) (n : ℕ) (r : OneHart) → runs s (suc n) r ≡ runs s n (next s r)
unfolding run_alone
next_run s n r = refl

pub no_run : (s : State) (r : OneHart) → runs s 0 r ≡ r
unfolding run_alone
no_run s r = refl

pub next_goes : (s : State) (r : OneHart) → GoesOn s r → GoesOn s (next s r)
unfolding run_alone
next_goes s r goes n = goes (suc n)

pub first_goes : (s : State) (r : OneHart) → GoesOn s r → goes_on (instr_of s r) r ≡ true
unfolding run_alone
first_goes s r goes = goes 0

-- wherever the machine and the hart stand, if the hart comes to a word at which it leaves by n instructions
abbrev LeavesBy : ℕ → State → ℕ → Type 0
LeavesBy n s entry = (t : State) (r : OneHart) → Follows s entry t r → instr_of s (runs s n r) ≡ Some Back → GoesOn s r
    → Leaves s entry t (runs s n r)

-- one instruction, and then n more
module _ (n : ℕ) (s : State) (entry : ℕ) (rest : LeavesBy n s entry) (t : State) (r : OneHart) (f : Follows s entry t r)
    (e : instr_of s (runs s n (next s r)) ≡ Some Back) (goes : GoesOn s r) where
  from_back : next s r ≡ r → Leaves s entry t (runs s n (next s r))
  from_back same =
      let left = rest t r f (subst (λ x. instr_of s (runs s n x) ≡ Some Back) same e) goes in
      subst (λ x. Leaves s entry t (runs s n x)) (sym same) left

  from_other : Follows s entry (after_event t 0) (next s r) → Leaves s entry t (runs s n (next s r))
  from_other g = later s entry t (runs s n (next s r)) f.shared (rest (after_event t 0) (next s r) g e (next_goes s r goes))

  from_instr : (i : XInstr) → instr_of s r ≡ Some i → (i ≡ Back) ⊎ IsOther i → Leaves s entry t (runs s n (next s r))
  from_instr i is (inl back) = from_back (stays_at_back (instr_of s r) r (is ∙ ap Some back))
  from_instr i is (inr other) =
      let more = one_more s entry t r i f other is (subst (λ o. goes_on o r ≡ true) is (first_goes s r goes)) in
      from_other (subst (λ o. Follows s entry (after_event t 0) (act_alone o r)) (sym is) more)

  from_word : (o : Option XInstr) → instr_of s r ≡ o → Leaves s entry t (runs s n (next s r))
  from_word None is = absurd (none_goes (instr_of s r) r is (first_goes s r goes))
  from_word (Some i) is = from_instr i is (is_other i)

leaves : (n : ℕ) (s : State) (entry : ℕ) → LeavesBy n s entry
leaves zero s entry t r f e goes =
    let same = no_run s r in
    let left = at_back s entry t r f (subst (λ x. instr_of s x ≡ Some Back) same e) in
    subst (Leaves s entry t) (sym same) (at_once s entry t r f.shared left)
leaves (suc n) s entry t r f e goes =
    let same = next_run s n r in
    let e' = subst (λ x. instr_of s x ≡ Some Back) same e in
    subst (Leaves s entry t) (sym same) (from_word n s entry (leaves n s entry) t r f e' goes (instr_of s r) refl)

-- the machine stands where the hart does at the start
pub begins : (s : State) (r : OneHart) (i : IsInStub s r) → Follows s i.hart.kept s r
begins s r i = record {
  hart = i.hart;
  log = r.log;
  only = i.only;
  stub = i.stub;
  kept = refl;
  is = λ j. record {
    pc = i.pc j;
    regs = i.regs j;
    slots = i.slots j;
    memory = i.memory j;
    log = r.log;
    number = i.number j;
    harts = i.harts j;
  };
  shared = record { brk = refl; running = i.running; image = refl; output = refl; rest = refl };
}

pub stub_law : StubLaw
stub_law s r n i e goes = leaves n s i.hart.kept s r (begins s r i) e goes
