-- Laws of the events of hart 0 alone.
use Rattle.std.proofs.Common.{◌≡◌, ℕ, zero, suc, ◌+◌, ◌-◌, ◌≤◌, List, [], ◌++◌, false, Option, Some, None, refl, ap, sym, ◌∙◌, arith}
use Rattle.std.proofs.lemmas.List.{append-nil, append_assoc}
use Rattle.std.specs.Prelude.{IsSome, slice_get}
use Rattle.rv64_decode.specs.Ask.{after}
use Rattle.rv64_decode.specs.Row.{asks, outcome}
use Rattle.rv64_decode.specs.XTable.{decoded_x}
use Rattle.rv64_decode.specs.declared.instr.Instr.{Instr}
use Rattle.rv64_decode.specs.declared.xinstr.XInstr.{XInstr}
use Rattle.rv64_decode.specs.declared.xinstr.XInstr.TheVariants.{Base, Put, Get, Par, Join, Back, Id, Harts}
use Rattle.rv64_decode.specs.declared.outcome.Next.{Next}
use Rattle.rv64_decode.specs.declared.outcome.Next.TheVariants.{At, Call, Fault as Faulting}
use Rattle.guest_calls.specs.Calls.{called}
use Rattle.serial_run.specs.Serial.{State as Serial, with_left, after_next, after_instr}
use Rattle.serial_run.specs.declared.machine.End.{End}
use Rattle.serial_run.proofs.Steps.{step_before, with_before as serial_with_before}
use Rattle.hart_core.specs.Machine.{Mode, Free, Stub, Passing, Waiting, Idle, Hart, State, alone_in}
use Rattle.hart_core.specs.Rows.{after_own, after_base}
use Rattle.hart_core.specs.Events.{added_word, own_event, base_event, added_event, decoded_event, word_event, event_by, event_of, unless_ended, after_event, is_effective}
use Rattle.hart_core.specs.Alone.{events_alone}
use Rattle.hart_core.proofs.Steps.{stays, ended_before}

-- n events and then one more
pub events-suc : (n : ℕ) (s : State) → events_alone (suc n) s ≡ after_event (events_alone n s) 0
events-suc zero s = refl
events-suc (suc n) s = events-suc n (after_event s 0)

-- n events and then m are their sum
pub events-add : (n m : ℕ) (s : State) → events_alone (n + m) s ≡ events_alone m (events_alone n s)
events-add zero m s = let e : 0 + m ≡ m = omega arith in ap (λ (k : ℕ). events_alone k s) e
events-add (suc n) m s =
    let e : suc n + m ≡ suc (n + m) = omega arith in
    ap (λ (k : ℕ). events_alone k s) e ∙ events-add n m (after_event s 0)

-- where an event does nothing, later ones do nothing either
pub events_stay : (n : ℕ) (s : State) → is_effective s.core 0 ≡ false → events_alone n s ≡ s
events_stay zero s e = refl
events_stay (suc n) s e = ap (λ (t : State). events_alone n t) (stays s 0 e) ∙ events_stay n s e

pub events_ended : (n : ℕ) (s : State) → IsSome s.core.ended → events_alone n s ≡ s
events_ended n s e = events_stay n s (ended_before s.core.ended _ e)

pub events_next : (k : ℕ) (s : State) → after_event (events_alone k s) 0 ≡ events_alone (k + 1) s
events_next k s = let e : k + 1 ≡ suc k = omega arith in rw e (sym (events-suc k s))

-- where a state is one at which nothing happens any more, it is the last
pub events_last : (k n : ℕ) (s : State) → k ≤ n → is_effective (events_alone k s).core 0 ≡ false → events_alone n s ≡ events_alone k s
events_last k n s l at =
    let e : k + (n - k) ≡ n = omega arith in
    ap (λ (j : ℕ). events_alone j s) (sym e) ∙ events-add k (n - k) s ∙ events_stay (n - k) (events_alone k s) at

-- ---- what was written before makes no difference

-- the state where these bytes were written before
abbrev pub with_before : List ℕ → State → State
with_before before s = record s { output = before ++ s.output }

next_before : (before : List ℕ) (s : Serial) (n : Next) → after_next (serial_with_before before s) n ≡ serial_with_before before (after_next s n)
next_before before s (At pc) = refl
next_before before s Call =
    let c = called s.machine.regs s.machine.memory s.machine.brk s.rest in
    ap (λ (output : List ℕ). record (after_next s Call) { output = output }) (append_assoc before s.output c.written)
next_before before s (Faulting kind addr) = refl

instr_before : (before : List ℕ) (s : Serial) (i : Instr) → after_instr (serial_with_before before s) i ≡ serial_with_before before (after_instr s i)
instr_before before s i =
    let m = s.machine in
    let o = outcome i m.pc m.regs m.memory in
    next_before before (with_left s o.regs (after m.memory (asks i m.regs))) o.next

own_before : (before : List ℕ) (s : State) (k : ℕ) (h : Hart) → own_event (with_before before s) k h ≡ with_before before (own_event s k h)
own_before before s k h =
    ap (λ (t : Serial). record { core = after_own s.core k h t.machine; output = t.output; rest = t.rest }) (step_before before (alone_in s h))

base_before : (before : List ℕ) (s : State) (k : ℕ) (h : Hart) (i : Instr) → base_event (with_before before s) k h i ≡ with_before before (base_event s k h i)
base_before before s k h i =
    ap (λ (t : Serial). record { core = after_base s.core k h t.machine; output = t.output; rest = t.rest }) (instr_before before (alone_in s h) i)

added_before : (before : List ℕ) (s : State) (k : ℕ) (h : Hart) (word : ℕ) (i : XInstr)
    → added_event (with_before before s) k h word i ≡ with_before before (added_event s k h word i)
added_before before s k h word (Base i) = base_before before s k h i
added_before before s k h word (Put slot rs1) = refl
added_before before s k h word (Get rd slot) = refl
added_before before s k h word Par = refl
added_before before s k h word Join = refl
added_before before s k h word Back = refl
added_before before s k h word (Id rd) = refl
added_before before s k h word (Harts rd) = refl

decoded_before : (before : List ℕ) (s : State) (k : ℕ) (h : Hart) (word : ℕ) (x : Option XInstr)
    → decoded_event (with_before before s) k h word x ≡ with_before before (decoded_event s k h word x)
decoded_before before s k h word None = refl
decoded_before before s k h word (Some i) = added_before before s k h word i

word_before : (before : List ℕ) (s : State) (k : ℕ) (h : Hart) (o : Option ℕ)
    → word_event (with_before before s) k h o ≡ with_before before (word_event s k h o)
word_before before s k h None = refl
word_before before s k h (Some word) = decoded_before before s k h word (decoded_x word)

by_before : (before : List ℕ) (m : Mode) (s : State) (k : ℕ) (h : Hart) → event_by m (with_before before s) k h ≡ with_before before (event_by m s k h)
by_before before Free s k h = own_before before s k h
by_before before Stub s k h = word_before before s k h (added_word s.core.image.code h.pc)
by_before before Passing s k h = own_before before s k h
by_before before Waiting s k h = refl
by_before before Idle s k h = refl

of_before : (before : List ℕ) (s : State) (k : ℕ) (o : Option Hart) → event_of (with_before before s) k o ≡ with_before before (event_of s k o)
of_before before s k None = refl
of_before before s k (Some h) = by_before before h.mode s k h

unless_before : (before : List ℕ) (o : Option End) (s t : State) → unless_ended o (with_before before s) (with_before before t) ≡ with_before before (unless_ended o s t)
unless_before before None s t = refl
unless_before before (Some end) s t = refl

pub event_before : (before : List ℕ) (s : State) (k : ℕ) → after_event (with_before before s) k ≡ with_before before (after_event s k)
unfolding after_event
event_before before s k =
    let o = slice_get s.core.harts k in
    ap (λ (t : State). unless_ended s.core.ended (with_before before s) t) (of_before before s k o)
    ∙ unless_before before s.core.ended s (event_of s k o)

pub events_before : (n : ℕ) (before : List ℕ) (s : State) → events_alone n (with_before before s) ≡ with_before before (events_alone n s)
events_before zero before s = refl
events_before (suc n) before s = ap (λ (t : State). events_alone n t) (event_before before s 0) ∙ events_before n before (after_event s 0)

-- ---- output only grows

pub record Grows (before now : List ℕ) : Type 0 where
  pub more : List ℕ
  pub are : now ≡ before ++ more

events_grow : (n : ℕ) (s : State) → Grows s.output (events_alone n s).output
events_grow n s =
    let t : State = record s { output = [] } in
    let same : s ≡ with_before s.output t = ap (λ (o : List ℕ). record s { output = o }) (sym (append-nil s.output)) in
    record {
      more = (events_alone n t).output;
      are = ap (λ (u : State). (events_alone n u).output) same ∙ ap (λ (u : State). u.output) (events_before n s.output t);
    }

-- the output after more events
pub output_more : (n m : ℕ) (s : State) → n ≤ m → Grows (events_alone n s).output (events_alone m s).output
output_more n m s l =
    let e : n + (m - n) ≡ m = omega arith in
    let all : events_alone m s ≡ events_alone (m - n) (events_alone n s) = ap (λ (k : ℕ). events_alone k s) (sym e) ∙ events-add n (m - n) s in
    let grown = events_grow (m - n) (events_alone n s) in
    record { more = grown.more; are = ap (λ (t : State). t.output) all ∙ grown.are }
