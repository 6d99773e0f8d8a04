-- Laws of the serial run.
use Rattle.std.proofs.Common.{◌≡◌, ℕ, zero, suc, ◌+◌, ◌-◌, ◌<◌, ◌≤◌, refl, ap, sym, ◌∙◌, arith, true, false, Bool, Option, Some, None, Result, Ok, Err, List, ◌++◌, [], take, drop, ◌==◌, ◌||◌, if◌then◌else◌}
use Rattle.std.proofs.lemmas.List.{append-nil, append_assoc, take-append-drop}
use Rattle.std.specs.Prelude.{IsSome, IsNone, is_some}
use Rattle.rv64_decode.specs.Area.{Area, fetch_of}
use Rattle.rv64_decode.specs.Ask.{after}
use Rattle.rv64_decode.specs.Table.{decoded}
use Rattle.rv64_decode.specs.Row.{asks, outcome}
use Rattle.rv64_decode.specs.declared.memory.MemFault.{MemFault}
use Rattle.rv64_decode.specs.declared.instr.Instr.{Instr}
use Rattle.rv64_decode.specs.declared.outcome.Next.{Next}
use Rattle.rv64_decode.specs.declared.outcome.Next.TheVariants.{At, Call, Fault as Faulting}
use Rattle.guest_calls.specs.Calls.{called, a7, read_call, write_call, exit_call, brk_call, answered, negated}
use Rattle.guest_calls.specs.declared.Brk.{Brk}
use Rattle.serial_run.specs.Serial.{State, state_of, ended, with_left, after_next, after_word, after_fetch, step, serial, executed_of, unless_ended, IsEnding}
use Rattle.serial_run.specs.Runs.{is_port_fault}
use Rattle.serial_run.specs.declared.machine.End.{End}
use Rattle.serial_run.specs.declared.machine.Machine.{Machine}

ended_step : (e : Option End) (s t : State) → is_some e ≡ true → unless_ended e s t ≡ s
ended_step None s t h = cc
ended_step (Some e) s t h = refl

-- a state with an ending stays as it is
pub step_of_ended : (s : State) → is_some (ended s) ≡ true → step s ≡ s
unfolding step
step_of_ended s h = ended_step (ended s) s _ h

pub serial-ended : (n : ℕ) (s : State) → is_some (ended s) ≡ true → serial n s ≡ s
serial-ended zero s h = refl
serial-ended (suc n) s h = rw (step_of_ended s h) (serial-ended n s h)

-- n instructions and then one more
pub serial-suc : (n : ℕ) (s : State) → serial (suc n) s ≡ step (serial n s)
serial-suc zero s = refl
serial-suc (suc n) s = serial-suc n (step s)

-- n instructions and then m are their sum
pub serial-add : (n m : ℕ) (s : State) → serial (n + m) s ≡ serial m (serial n s)
serial-add zero m s = let e : 0 + m ≡ m = omega arith in ap (λ (k : ℕ). serial k s) e
serial-add (suc n) m s =
    let e : suc n + m ≡ suc (n + m) = omega arith in
    ap (λ (k : ℕ). serial k s) e ∙ serial-add n m (step s)

none_before : (n : ℕ) (s : State) → is_some (ended s) ≡ false → ((k : ℕ) → k < n → IsNone (ended (serial k (step s)))) → (k : ℕ) → k < suc n → IsNone (ended (serial k s))
none_before n s e later zero l = e
none_before n s e later (suc k) l = later k (omega arith)

-- the instructions that are counted are those before the ending
executed_step : (fuel : ℕ) (s : State) (b : Bool) → is_some (ended s) ≡ b
    → (IsSome (ended (serial fuel (step s))) → IsEnding (step s) (executed_of fuel (step s)) (serial fuel (step s)))
    → IsSome (ended (serial (suc fuel) s)) → IsEnding s (executed_of (suc fuel) s) (serial (suc fuel) s)
executed_step fuel s true e later h =
    let same : serial fuel (step s) ≡ s = ap (λ (t : State). serial fuel t) (step_of_ended s e) ∙ serial-ended fuel s e in
    rw e (record { reached = sym same; at_end = h; first = λ k l. absurd (omega arith) })
executed_step fuel s false e later h =
    let rest = later h in
    rw e (record { reached = rest.reached; at_end = h; first = none_before (executed_of fuel (step s)) s e rest.first })

pub executed-ending : (fuel : ℕ) (s : State) → IsSome (ended (serial fuel s)) → IsEnding s (executed_of fuel s) (serial fuel s)
executed-ending zero s h = record { reached = refl; at_end = h; first = λ k l. absurd (omega arith) }
executed-ending (suc fuel) s h = executed_step fuel s (is_some (ended s)) refl (executed-ending fuel (step s)) h

-- a run that has ended by then has ended in the same state
pub ending-serial : (s t : State) (n fuel : ℕ) → IsEnding s n t → n ≤ fuel → serial fuel s ≡ t
ending-serial s t n fuel i l =
    let e : n + (fuel - n) ≡ fuel = omega arith in
    let there = i.reached in
    let stays = serial-ended (fuel - n) t i.at_end in
    ap (λ (k : ℕ). serial k s) (sym e) ∙ serial-add n (fuel - n) s ∙ ap (λ (v : State). serial (fuel - n) v) there ∙ stays

pub executed_none : (fuel : ℕ) (s : State) → ((k : ℕ) → k < fuel → IsNone (ended (serial k s))) → executed_of fuel s ≡ fuel
executed_none zero s h = refl
executed_none (suc fuel) s h =
    let e = h 0 (omega arith) in
    let rest = executed_none fuel (step s) (λ k l. h (suc k) (omega arith)) in
    rw (e, rest) refl

pub executed_first : (n fuel : ℕ) (s : State) → n ≤ fuel → is_some (ended (serial n s)) ≡ true → ((k : ℕ) → k < n → IsNone (ended (serial k s))) → executed_of fuel s ≡ n
executed_first zero zero s l at first = refl
executed_first zero (suc fuel) s l at first = rw at refl
executed_first (suc n) zero s l at first = absurd (omega arith)
executed_first (suc n) (suc fuel) s l at first =
    let e = first 0 (omega arith) in
    let rest = executed_first n fuel (step s) (omega arith) at (λ k h. first (suc k) (omega arith)) in
    rw (e, rest) refl

-- as many instructions are counted as there are before the first ending
pub ending-executed : (s t : State) (n fuel : ℕ) → IsEnding s n t → n ≤ fuel → executed_of fuel s ≡ n
ending-executed s t n fuel i l =
    let at : is_some (ended (serial n s)) ≡ true = ap (λ (v : State). is_some (ended v)) i.reached ∙ i.at_end in
    executed_first n fuel s l at i.first

-- a state of these parts
pub same_state : (s : State) (m : Machine) → m ≡ s.machine → state_of m s.output s.rest ≡ s
same_state s m e = ap (λ (v : Machine). state_of v s.output s.rest) e

-- the next state
pub serial_next : (k : ℕ) (s : State) → step (serial k s) ≡ serial (k + 1) s
serial_next k s = let e : k + 1 ≡ suc k = omega arith in rw e (sym (serial-suc k s))

-- where the next state has an ending, it is the last
pub serial_last : (k fuel : ℕ) (s : State) → k < fuel → is_some (ended (step (serial k s))) ≡ true → serial fuel s ≡ step (serial k s)
serial_last k fuel s l at =
    let e : suc k + (fuel - suc k) ≡ fuel = omega arith in
    let next = serial-suc k s in
    ap (λ (n : ℕ). serial n s) (sym e)
    ∙ serial-add (suc k) (fuel - suc k) s
    ∙ ap (λ (t : State). serial (fuel - suc k) t) next
    ∙ serial-ended (fuel - suc k) (step (serial k s)) at

pub some_ended : (s : State) (m : Machine) (end : End) → m ≡ s.machine → m.ended ≡ Some end → is_some (ended s) ≡ true
some_ended s m end e h = ap (λ (v : Machine). is_some v.ended) (sym e) ∙ ap (λ (o : Option End). is_some o) h

pub none_ended : (s : State) (m : Machine) → m ≡ s.machine → m.ended ≡ None → IsNone (ended s)
none_ended s m e h = ap (λ (v : Machine). is_some v.ended) (sym e) ∙ ap (λ (o : Option End). is_some o) h

pub none_fault : (o : Option End) → o ≡ None → is_port_fault o ≡ false
none_fault o e = ap is_port_fault e

-- ---- output only grows

pub record Grows (before now : List ℕ) : Type 0 where
  pub more : List ℕ
  pub are : now ≡ before ++ more

same_output : (xs : List ℕ) → Grows xs xs
same_output xs = record { more = []; are = sym (append-nil xs) }

next_output : (s : State) (n : Next) → Grows s.output (after_next s n).output
next_output s (At pc) = same_output s.output
next_output s Call = record { more = (called s.machine.regs s.machine.memory s.machine.brk s.rest).written; are = refl }
next_output s (Faulting kind addr) = same_output s.output

word_output : (s : State) (word : ℕ) (i : Option Instr) → Grows s.output (after_word s word i).output
word_output s word None = same_output s.output
word_output s word (Some i) =
    let m = s.machine in
    let o = outcome i m.pc m.regs m.memory in
    next_output (with_left s o.regs (after m.memory (asks i m.regs))) o.next

fetch_output : (s : State) (r : Result ℕ MemFault) → Grows s.output (after_fetch s r).output
fetch_output s (Ok word) = word_output s word (decoded word)
fetch_output s (Err why) = same_output s.output

unless_output : (o : Option End) (s t : State) → Grows s.output t.output → Grows s.output (unless_ended o s t).output
unless_output None s t h = h
unless_output (Some end) s t h = same_output s.output

step_output : (s : State) → Grows s.output (step s).output
unfolding step
step_output s = unless_output (ended s) s _ (fetch_output s (fetch_of s.machine.memory s.machine.pc))

grows_on : (xs ys zs : List ℕ) → Grows xs ys → Grows ys zs → Grows xs zs
grows_on xs ys zs a b =
    record { more = a.more ++ b.more; are = b.are ∙ ap (λ (v : List ℕ). v ++ b.more) a.are ∙ append_assoc xs a.more b.more }

serial_output : (n : ℕ) (s : State) → Grows s.output (serial n s).output
serial_output zero s = same_output s.output
serial_output (suc n) s = grows_on s.output (step s).output (serial n (step s)).output (step_output s) (serial_output n (step s))

-- the output after more instructions
pub output_more : (n m : ℕ) (s : State) → n ≤ m → Grows (serial n s).output (serial m s).output
output_more n m s l =
    let e : n + (m - n) ≡ m = omega arith in
    let all : serial m s ≡ serial (m - n) (serial n s) = ap (λ (k : ℕ). serial k s) (sym e) ∙ serial-add n (m - n) s in
    let grown = serial_output (m - n) (serial n s) in
    record { more = grown.more; are = ap (λ (t : State). t.output) all ∙ grown.are }

-- ---- input is only taken

pub record Leaves (before now : List ℕ) : Type 0 where
  pub taken : List ℕ
  pub are : before ≡ taken ++ now

same_rest : (xs : List ℕ) → Leaves xs xs
same_rest xs = record { taken = []; are = refl }

read_rest : (n : ℕ) (xs : List ℕ) → Leaves xs (drop n xs)
read_rest n xs = record { taken = take n xs; are = sym (take-append-drop n xs) }

-- each call leaves what it does not take
call_rest : (regs : List ℕ) (memory : List Area) (brk : Brk) (rest : List ℕ) → Leaves rest (called regs memory brk rest).rest
unfolding called
call_rest regs memory brk rest = go (a7 regs == 63) (a7 regs == 64) (a7 regs == 93 || a7 regs == 94) (a7 regs == 214)
  where
    go : (a b c d : Bool) → Leaves rest
        (if a then read_call regs memory brk rest else
        if b then write_call regs memory brk rest else
        if c then exit_call regs memory brk rest else
        if d then brk_call regs memory brk rest else
        answered (negated 38) regs memory brk rest).rest
    go true b c d = read_rest _ rest
    go false true c d = same_rest rest
    go false false true d = same_rest rest
    go false false false true = same_rest rest
    go false false false false = same_rest rest

next_rest : (s : State) (n : Next) → Leaves s.rest (after_next s n).rest
next_rest s (At pc) = same_rest s.rest
next_rest s Call = call_rest s.machine.regs s.machine.memory s.machine.brk s.rest
next_rest s (Faulting kind addr) = same_rest s.rest

word_rest : (s : State) (word : ℕ) (i : Option Instr) → Leaves s.rest (after_word s word i).rest
word_rest s word None = same_rest s.rest
word_rest s word (Some i) =
    let m = s.machine in
    let o = outcome i m.pc m.regs m.memory in
    next_rest (with_left s o.regs (after m.memory (asks i m.regs))) o.next

fetch_rest : (s : State) (r : Result ℕ MemFault) → Leaves s.rest (after_fetch s r).rest
fetch_rest s (Ok word) = word_rest s word (decoded word)
fetch_rest s (Err why) = same_rest s.rest

unless_rest : (o : Option End) (s t : State) → Leaves s.rest t.rest → Leaves s.rest (unless_ended o s t).rest
unless_rest None s t h = h
unless_rest (Some end) s t h = same_rest s.rest

step_rest : (s : State) → Leaves s.rest (step s).rest
unfolding step
step_rest s = unless_rest (ended s) s _ (fetch_rest s (fetch_of s.machine.memory s.machine.pc))

leaves_on : (xs ys zs : List ℕ) → Leaves xs ys → Leaves ys zs → Leaves xs zs
leaves_on xs ys zs a b =
    record { taken = a.taken ++ b.taken; are = a.are ∙ ap (λ (v : List ℕ). a.taken ++ v) b.are ∙ sym (append_assoc a.taken b.taken zs) }

serial_rest : (n : ℕ) (s : State) → Leaves s.rest (serial n s).rest
serial_rest zero s = same_rest s.rest
serial_rest (suc n) s = leaves_on s.rest (step s).rest (serial n (step s)).rest (step_rest s) (serial_rest n (step s))

-- what is unread after more instructions
pub rest_later : (n m : ℕ) (s : State) → n ≤ m → Leaves (serial n s).rest (serial m s).rest
rest_later n m s l =
    let e : n + (m - n) ≡ m = omega arith in
    let all : serial m s ≡ serial (m - n) (serial n s) = ap (λ (k : ℕ). serial k s) (sym e) ∙ serial-add n (m - n) s in
    let left = serial_rest (m - n) (serial n s) in
    record { taken = left.taken; are = left.are ∙ ap (λ (t : State). left.taken ++ t.rest) (sym all) }

-- nothing is counted behind an ending
pub executed_ended : (fuel : ℕ) (s : State) → is_some (ended s) ≡ true → executed_of fuel s ≡ 0
executed_ended zero s h = refl
executed_ended (suc fuel) s h = rw h refl

-- ---- what was written before makes no difference

-- the state where these bytes were written before
abbrev pub with_before : List ℕ → State → State
with_before before s = record s { output = before ++ s.output }

next_before : (before : List ℕ) (s : State) (n : Next) → after_next (with_before before s) n ≡ with_before before (after_next s n)
next_before before s (At pc) = refl
next_before before s Call =
    let c = called s.machine.regs s.machine.memory s.machine.brk s.rest in
    ap (λ (output : List ℕ). record (after_next s Call) { output = output }) (append_assoc before s.output c.written)
next_before before s (Faulting kind addr) = refl

word_before : (before : List ℕ) (s : State) (word : ℕ) (i : Option Instr) → after_word (with_before before s) word i ≡ with_before before (after_word s word i)
word_before before s word None = refl
word_before before s word (Some i) =
    let m = s.machine in
    let o = outcome i m.pc m.regs m.memory in
    next_before before (with_left s o.regs (after m.memory (asks i m.regs))) o.next

fetch_before : (before : List ℕ) (s : State) (r : Result ℕ MemFault) → after_fetch (with_before before s) r ≡ with_before before (after_fetch s r)
fetch_before before s (Ok word) = word_before before s word (decoded word)
fetch_before before s (Err why) = refl

unless_before : (before : List ℕ) (o : Option End) (s t : State) → unless_ended o (with_before before s) (with_before before t) ≡ with_before before (unless_ended o s t)
unless_before before None s t = refl
unless_before before (Some end) s t = refl

pub step_before : (before : List ℕ) (s : State) → step (with_before before s) ≡ with_before before (step s)
unfolding step
step_before before s =
    let m = s.machine in
    let r = fetch_of m.memory m.pc in
    ap (λ (t : State). unless_ended (ended s) (with_before before s) t) (fetch_before before s r)
    ∙ unless_before before (ended s) s (after_fetch s r)

pub serial_before : (n : ℕ) (before : List ℕ) (s : State) → serial n (with_before before s) ≡ with_before before (serial n s)
serial_before zero before s = refl
serial_before (suc n) before s = ap (λ (t : State). serial n t) (step_before before s) ∙ serial_before n before (step s)
