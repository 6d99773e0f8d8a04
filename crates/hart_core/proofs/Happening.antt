-- What an event makes of the machine and its ports, from what one word makes of the serial machine of its hart.
use Rattle.std.proofs.Common.{◌≡◌, ℕ, ◌==◌, ◌⊎◌, inl, inr, if◌then◌else◌, Bool, List, true, false, Option, Some, None, refl, ap, sym, subst, ◌∙◌, arith}
use Rattle.std.specs.Prelude.{IsNone, slice_get, slice_set, unwrap_or}
use Rattle.outside_ports.specs.Ports.{Rose}
use Rattle.rv64_decode.specs.XTable.{decoded_x}
use Rattle.rv64_decode.specs.Fetched.{instr_at}
use Rattle.rv64_decode.specs.declared.instr.Instr.{Instr}
use Rattle.rv64_decode.specs.declared.instr.Instr.TheVariants.{Ecall}
use Rattle.rv64_decode.specs.declared.xinstr.XInstr.{XInstr}
use Rattle.rv64_decode.specs.declared.xinstr.XInstr.TheVariants.{Base, Put, Get, Par, Join, Back, Id, Harts}
use Rattle.rv64_meaning.specs.declared.decoded.Decoded.{Decoded}
use Rattle.rv64_meaning.specs.Mnemonics.{instr_of}
use Rattle.guest_calls.specs.Calls.{a7}
use Rattle.serial_run.specs.Serial.{State as Serial, step, after_instr}
use Rattle.serial_run.specs.Runs.{is_port_fault, WritesPart, DoesCall, StandsAtCall as CallStands, Acts as OneActs, Keeps as OneKeeps, configuration_of as one_configuration}
use Rattle.serial_run.specs.declared.machine.Machine.{Machine}
use Rattle.serial_run.specs.declared.machine.End.{End}
use Rattle.serial_run.specs.declared.machine.End.TheVariants.{Exited, Faulted, Spent, ReadFault, WriteFault}
use Rattle.hart_core.specs.declared.counts.LoopCount.{LoopCount}
use Rattle.hart_core.specs.Machine.{Mode, Free, Stub, Passing, Waiting, Idle, Place, Hart, Core, State, alone, alone_in}
use Rattle.hart_core.specs.Rows.{IsForOne, of_hart, after_own, after_base, shared_from, illegal, forked, went_back}
use Rattle.hart_core.specs.Events.{added_word, added_core, added_event, base_event, own_event, decoded_event, word_event, with_core, event_by, event_of, unless_ended, after_event}
use Rattle.hart_core.specs.Acting.{configuration_of, Acts, Keeps, is_free, base_of, base_in, instr_by, IsCall, StandsAtCall, TellsRead, NeverCalls, settled_by, StopsReading, StopsWriting}

-- where the hart comes to by what its serial machine does
abbrev joint : (Core → Machine → Core) → (Serial → Serial) → State → Hart → State
joint B to s h = record {
  core = B s.core (to (alone_in s h)).machine;
  output = (to (alone_in s h)).output;
  rest = (to (alone_in s h)).rest;
}

-- ---- one word that the serial machine of a hart executes

module _ (k : ℕ) (h : Hart) (c : Core) (At : ℕ → Machine → Type 0) (to : Serial → Serial)
    (H : Core → Machine → List Hart) (L : Core → Machine → List LoopCount) (P : Core → Machine → Place)
    (is : (s : State) → c ≡ s.core → after_event s k ≡ joint (λ b n. record (shared_from b n) { harts = H b n; loops = L b n; place = P b n }) to s h)
    (stands : slice_get c.harts k ≡ Some h)
    (tells : At 63 (alone c h) → StandsAtCall 63 c k h)
    (call : (n : ℕ) (m : Machine) → m.pc ≡ h.pc → m.regs ≡ h.regs → At n m
    → IsCall n (record (shared_from c m) { harts = H c m; loops = L c m; place = P c m }) h)
    (settles : (m : Machine) → record (shared_from c m) { harts = H c m; loops = L c m; place = P c m } ≡ settled_by h.mode c k h m)
    (m : Machine) (r q : Option (List ℕ)) (rf qf : ℕ) (w v : Option (List ℕ)) (wf vf : ℕ)
    (a : OneActs At to (one_configuration (alone c h) r rf w wf) (one_configuration m q qf v vf)) where
  abbrev pub B : Core → Machine → Core
  B b n = record (shared_from b n) { harts = H b n; loops = L b n; place = P b n }

  one : (s : State) → c ≡ s.core → alone c h ≡ alone s.core h
  one s e = ap (λ (b : Core). alone b h) e

  told : (s : State) → c ≡ s.core → TellsRead s k r → At 63 (alone c h) → r ≡ Some s.rest
  told s e t at = t h (subst (λ (b : Core). StandsAtCall 63 b k h) e (tells at))

  core_is : (s : State) → c ≡ s.core → TellsRead s k r → is_port_fault m.ended ≡ false → B c m ≡ (after_event s k).core
  core_is s e t f =
      ap (λ (n : Machine). B c n) (a.machine (alone_in s h) (one s e) (told s e t) f)
      ∙ ap (λ (b : Core). B b (to (alone_in s h)).machine) e
      ∙ sym (ap (λ (t : State). t.core) (is s e))

  read_stops : m.ended ≡ Some ReadFault → StopsReading k c (B c m)
  read_stops e =
      let s = a.reading e in
      record {
        hart = h;
        stands = stands;
        call = call 63 m (ap (λ (n : Machine). n.pc) s.others) (ap (λ (n : Machine). n.regs) s.others) (a.at_read e);
        buffer = s.buffer;
        others = ap (λ (n : Machine). B c n) s.others ∙ settles (record (alone c h) { memory = m.memory; ended = Some ReadFault });
      }

  write_stops : m.ended ≡ Some WriteFault → StopsWriting k c (B c m)
  write_stops e =
      let s = a.writing e in
      record {
        hart = h;
        stands = stands;
        call = call 64 m (ap (λ (n : Machine). n.pc) s) (ap (λ (n : Machine). n.regs) s) (a.at_write e);
        others = ap (λ (n : Machine). B c n) s ∙ settles (record (alone c h) { memory = c.memory; ended = Some WriteFault });
      }

  pub word_acts : Acts k (configuration_of c r rf w wf) (configuration_of (B c m) q qf v vf)
  word_acts = record {
    core = core_is;
    rest = λ s e t f. a.rest (alone_in s h) (one s e) t f ∙ sym (ap (λ (t : State). Some t.rest) (is s e));
    output = λ s e f o. a.output (alone_in s h) (one s e) f o ∙ sym (ap (λ (t : State). Some t.output) (is s e));
    reading = read_stops;
    writing = write_stops;
    unread = a.unread;
    sent = λ s e f o.
        subst (λ (t : State). WritesPart s.output t.output v) (sym (is s e)) (a.sent (alone_in s h) (one s e) f o);
  }

pub is_none : (o : Option End) → o ≡ None → IsNone o
is_none None e = refl
is_none (Some end) e = cc

-- ---- a word of the original

by_free : (m : Mode) (s : State) (k : ℕ) (h : Hart) → is_free m ≡ true → event_by m s k h ≡ own_event s k h
by_free Free s k h e = refl
by_free Stub s k h e = cc
by_free Passing s k h e = refl
by_free Waiting s k h e = cc
by_free Idle s k h e = cc

event_is : (s : State) (k : ℕ) (h : Hart) → s.core.ended ≡ None → slice_get s.core.harts k ≡ Some h
    → after_event s k ≡ event_by h.mode s k h
unfolding after_event
event_is s k h none at =
    ap (λ (o : Option End). unless_ended o s (event_of s k (slice_get s.core.harts k))) none
    ∙ ap (λ (o : Option Hart). event_of s k o) at

free_settles : (m : Mode) (c : Core) (k : ℕ) (h : Hart) (n : Machine) → is_free m ≡ true → after_own c k h n ≡ settled_by m c k h n
free_settles Free c k h n e = refl
free_settles Stub c k h n e = cc
free_settles Passing c k h n e = refl
free_settles Waiting c k h n e = cc
free_settles Idle c k h n e = cc

free_instr : (m : Mode) (c : Core) (h : Hart) → is_free m ≡ true → instr_by m c h ≡ instr_at c.memory h.pc
free_instr Free c h e = refl
free_instr Stub c h e = cc
free_instr Passing c h e = refl
free_instr Waiting c h e = cc
free_instr Idle c h e = cc

pub stands_free : (n k : ℕ) (h : Hart) (c : Core) → slice_get c.harts k ≡ Some h → is_free h.mode ≡ true
    → CallStands n (alone c h) → StandsAtCall n c k h
stands_free n k h c at free s =
    record { hart = at; call = record { instr = free_instr h.mode c h free ∙ s.instr; number = s.number } }

own_call : (k : ℕ) (h : Hart) (c : Core) → is_free h.mode ≡ true → (n : ℕ) (m : Machine) → m.pc ≡ h.pc → m.regs ≡ h.regs
    → CallStands n m → IsCall n (after_own c k h m) h
own_call k h c free n m pc regs s =
    record {
      instr = free_instr h.mode (after_own c k h m) h free ∙ ap (λ (p : ℕ). instr_at m.memory p) (sym pc) ∙ s.instr;
      number = ap a7 (sym regs) ∙ s.number;
    }

own_acts : (k : ℕ) (h : Hart) (c : Core) → c.ended ≡ None → slice_get c.harts k ≡ Some h → is_free h.mode ≡ true
    → (m : Machine) (r q : Option (List ℕ)) (rf qf : ℕ) (w v : Option (List ℕ)) (wf vf : ℕ)
    → OneActs CallStands step (one_configuration (alone c h) r rf w wf) (one_configuration m q qf v vf)
    → Acts k (configuration_of c r rf w wf) (configuration_of (after_own c k h m) q qf v vf)
own_acts k h c none at free m r q rf qf w v wf vf a =
    word_acts k h c CallStands step
    (λ b n. (after_own b k h n).harts) (λ b n. (after_own b k h n).loops) (λ b n. (after_own b k h n).place)
    (λ s e. event_is s k h (ap (λ (b : Core). b.ended) (sym e) ∙ none) (ap (λ (b : Core). slice_get b.harts k) (sym e) ∙ at)
    ∙ by_free h.mode s k h free)
    at (stands_free 63 k h c at free) (own_call k h c free) (λ n. free_settles h.mode c k h n free)
    m r q rf qf w v wf vf a

-- the same by the parts of what is left
pub own_parts : (k : ℕ) (h : Hart) (c : Core) → c.ended ≡ None → slice_get c.harts k ≡ Some h → is_free h.mode ≡ true
    → (n m : Machine) (r q : Option (List ℕ)) (rf qf : ℕ) (w v : Option (List ℕ)) (wf vf : ℕ) → n ≡ alone c h
    → OneActs CallStands step (one_configuration n r rf w wf) (one_configuration m q qf v vf)
    → (harts : List Hart) (loops : List LoopCount) (place : Place) → harts ≡ (after_own c k h m).harts
    → loops ≡ (after_own c k h m).loops → place ≡ (after_own c k h m).place
    → Acts k (configuration_of c r rf w wf)
    (configuration_of (record (shared_from c m) { harts = harts; loops = loops; place = place }) q qf v vf)
own_parts k h c none at free n m r q rf qf w v wf vf same a harts loops place e f g =
    let A = own_acts k h c none at free m r q rf qf w v wf vf
    (subst (λ (o : Machine). OneActs CallStands step (one_configuration o r rf w wf) (one_configuration m q qf v vf)) same a) in
    let b = subst (λ (x : List Hart). Acts k (configuration_of c r rf w wf) (configuration_of (record (after_own c k h m) { harts = x }) q qf v vf)) (sym e) A in
    let d = subst (λ (x : List LoopCount). Acts k (configuration_of c r rf w wf)
    (configuration_of (record (after_own c k h m) { harts = harts; loops = x }) q qf v vf)) (sym f) b in
    subst (λ (x : Place). Acts k (configuration_of c r rf w wf)
    (configuration_of (record (after_own c k h m) { harts = harts; loops = loops; place = x }) q qf v vf)) (sym g) d

-- ---- an ordinary word of added code

base_by : (x : Option XInstr) (i : Instr) (word : ℕ) (s : State) (k : ℕ) (h : Hart) → base_of x ≡ Some i
    → decoded_event s k h word x ≡ base_event s k h i
base_by None i word s k h e = cc
base_by (Some (Base j)) i word s k h e = let same : j ≡ i = cc in ap (λ (j : Instr). base_event s k h j) same
base_by (Some (Put slot rs1)) i word s k h e = cc
base_by (Some (Get rd slot)) i word s k h e = cc
base_by (Some Par) i word s k h e = cc
base_by (Some Join) i word s k h e = cc
base_by (Some Back) i word s k h e = cc
base_by (Some (Id rd)) i word s k h e = cc
base_by (Some (Harts rd)) i word s k h e = cc

base_word : (o : Option ℕ) (i : Instr) (s : State) (k : ℕ) (h : Hart) → base_in o ≡ Some i → word_event s k h o ≡ base_event s k h i
base_word None i s k h e = cc
base_word (Some word) i s k h e = base_by (decoded_x word) i word s k h e

in_stub : (m : Mode) (s : State) (k : ℕ) (h : Hart) → m ≡ Stub → event_by m s k h ≡ word_event s k h (added_word s.core.image.code h.pc)
in_stub Free s k h e = cc
in_stub Stub s k h e = refl
in_stub Passing s k h e = cc
in_stub Waiting s k h e = cc
in_stub Idle s k h e = cc

stub_event : (k : ℕ) (h : Hart) (c : Core) → c.ended ≡ None → slice_get c.harts k ≡ Some h → h.mode ≡ Stub
    → (o : Option ℕ) → added_word c.image.code h.pc ≡ o → (s : State) → c ≡ s.core → after_event s k ≡ word_event s k h o
stub_event k h c none at stub o is s e =
    event_is s k h (ap (λ (b : Core). b.ended) (sym e) ∙ none) (ap (λ (b : Core). slice_get b.harts k) (sym e) ∙ at)
    ∙ in_stub h.mode s k h stub
    ∙ ap (λ (b : Core). word_event s k h (added_word b.image.code h.pc)) (sym e)
    ∙ ap (λ (p : Option ℕ). word_event s k h p) is

stub_settles : (m : Mode) (c : Core) (k : ℕ) (h : Hart) (n : Machine) → m ≡ Stub → after_base c k h n ≡ settled_by m c k h n
stub_settles Free c k h n e = cc
stub_settles Stub c k h n e = refl
stub_settles Passing c k h n e = cc
stub_settles Waiting c k h n e = cc
stub_settles Idle c k h n e = cc

stub_instr : (m : Mode) (c : Core) (h : Hart) → m ≡ Stub → instr_by m c h ≡ base_in (added_word c.image.code h.pc)
stub_instr Free c h e = cc
stub_instr Stub c h e = refl
stub_instr Passing c h e = cc
stub_instr Waiting c h e = cc
stub_instr Idle c h e = cc

pub stands_stub : (n k : ℕ) (h : Hart) (c : Core) (i : Instr) → slice_get c.harts k ≡ Some h → h.mode ≡ Stub
    → base_in (added_word c.image.code h.pc) ≡ Some i → (m : Machine) → m.regs ≡ h.regs → DoesCall i n m → StandsAtCall n c k h
stands_stub n k h c i at stub is m regs d =
    record {
      hart = at;
      call = record {
        instr = stub_instr h.mode c h stub ∙ is ∙ ap (λ (j : Instr). Some j) d.0;
        number = ap a7 (sym regs) ∙ d.1;
      };
    }

base_call : (k : ℕ) (h : Hart) (c : Core) (i : Instr) → h.mode ≡ Stub → base_in (added_word c.image.code h.pc) ≡ Some i
    → (n : ℕ) (m : Machine) → m.pc ≡ h.pc → m.regs ≡ h.regs → DoesCall i n m → IsCall n (after_base c k h m) h
base_call k h c i stub is n m pc regs d =
    record {
      instr = stub_instr h.mode (after_base c k h m) h stub ∙ is ∙ ap (λ (j : Instr). Some j) d.0;
      number = ap a7 (sym regs) ∙ d.1;
    }

base_acts : (k : ℕ) (h : Hart) (c : Core) (i : Instr) → c.ended ≡ None → slice_get c.harts k ≡ Some h → h.mode ≡ Stub
    → base_in (added_word c.image.code h.pc) ≡ Some i
    → (m : Machine) (r q : Option (List ℕ)) (rf qf : ℕ) (w v : Option (List ℕ)) (wf vf : ℕ)
    → OneActs (DoesCall i) (λ s. after_instr s i) (one_configuration (alone c h) r rf w wf) (one_configuration m q qf v vf)
    → Acts k (configuration_of c r rf w wf) (configuration_of (after_base c k h m) q qf v vf)
base_acts k h c i none at stub is m r q rf qf w v wf vf a =
    word_acts k h c (DoesCall i) (λ s. after_instr s i)
    (λ b n. (after_base b k h n).harts) (λ b n. (after_base b k h n).loops) (λ b n. (after_base b k h n).place)
    (λ s e. stub_event k h c none at stub (added_word c.image.code h.pc) refl s e
    ∙ base_word (added_word c.image.code h.pc) i s k h is)
    at (stands_stub 63 k h c i at stub is (alone c h) refl) (base_call k h c i stub is) (λ n. stub_settles h.mode c k h n stub)
    m r q rf qf w v wf vf a

pub base_parts : (k : ℕ) (h : Hart) (c : Core) (i : Instr) → c.ended ≡ None → slice_get c.harts k ≡ Some h → h.mode ≡ Stub
    → base_in (added_word c.image.code h.pc) ≡ Some i
    → (n m : Machine) (r q : Option (List ℕ)) (rf qf : ℕ) (w v : Option (List ℕ)) (wf vf : ℕ) → n ≡ alone c h
    → OneActs (DoesCall i) (λ s. after_instr s i) (one_configuration n r rf w wf) (one_configuration m q qf v vf)
    → (harts : List Hart) (place : Place) → harts ≡ (after_base c k h m).harts → place ≡ (after_base c k h m).place
    → Acts k (configuration_of c r rf w wf)
    (configuration_of (record (shared_from c m) { harts = harts; place = place }) q qf v vf)
base_parts k h c i none at stub is n m r q rf qf w v wf vf same a harts place e g =
    let A = base_acts k h c i none at stub is m r q rf qf w v wf vf
    (subst (λ (o : Machine). OneActs (DoesCall i) (λ s. after_instr s i) (one_configuration o r rf w wf) (one_configuration m q qf v vf)) same a) in
    let b = subst (λ (x : List Hart). Acts k (configuration_of c r rf w wf) (configuration_of (record (after_base c k h m) { harts = x }) q qf v vf)) (sym e) A in
    subst (λ (x : Place). Acts k (configuration_of c r rf w wf)
    (configuration_of (record (after_base c k h m) { harts = harts; place = x }) q qf v vf)) (sym g) b

-- the instruction that was executed is the last of its run, and leads nowhere
pub executed_last : (d : Decoded) (i : Instr) → instr_of d ≡ i → (m n : Machine) (next : Option ℕ) → next ≡ None
    → (r q : Option (List ℕ)) (rf qf : ℕ) (w v : Option (List ℕ)) (wf vf : ℕ)
    → OneActs (DoesCall (instr_of d)) (λ s. after_instr s (instr_of d)) (one_configuration m r rf w wf)
    (one_configuration (record n { pc = unwrap_or next n.pc }) q qf v vf)
    → OneActs (DoesCall i) (λ s. after_instr s i) (one_configuration m r rf w wf) (one_configuration n q qf v vf)
executed_last d i is m n next none r q rf qf w v wf vf a =
    subst (λ (j : Instr). OneActs (DoesCall j) (λ s. after_instr s j) (one_configuration m r rf w wf)
    (one_configuration n q qf v vf)) is
    (subst (λ (o : Option ℕ). OneActs (DoesCall (instr_of d)) (λ s. after_instr s (instr_of d)) (one_configuration m r rf w wf)
    (one_configuration (record n { pc = unwrap_or o n.pc }) q qf v vf)) none a)

-- what is kept by one word of the serial machine is kept by the event
pub word_keeps : (c d : Core) (n m : Machine) (r q : Option (List ℕ)) (rf qf : ℕ) (w v : Option (List ℕ)) (wf vf : ℕ)
    → c.ended ≡ n.ended → d.ended ≡ m.ended
    → OneKeeps (one_configuration n r rf w wf) (one_configuration m q qf v vf)
    → Keeps (configuration_of c r rf w wf) (configuration_of d q qf v vf)
word_keeps c d n m r q rf qf w v wf vf b e a = record {
  unspent = λ g f. a.unspent (λ h. g (b ∙ h)) (sym e ∙ f);
  read_fault = λ f. earlier ReadFault rf qf (a.read_fault (sym e ∙ f));
  write_fault = λ f. earlier WriteFault wf vf (a.write_fault (sym e ∙ f));
  input_never_falls = a.input_never_falls;
  output_never_falls = a.output_never_falls;
}
  where
    earlier : (end : End) (x y : ℕ) → (n.ended ≡ Some end) ⊎ Rose x y → (c.ended ≡ Some end) ⊎ Rose x y
    earlier end x y (inl h) = inl (b ∙ h)
    earlier end x y (inr h) = inr h

-- ---- all other words of added code

-- no ending, or a fault of an instruction
abbrev pub is_plain : Option End → Bool
is_plain None = true
is_plain (Some (Exited code)) = true
is_plain (Some (Faulted kind pc addr)) = true
is_plain (Some Spent) = false
is_plain (Some ReadFault) = false
is_plain (Some WriteFault) = false

plain_not : (o : Option End) (end : End) → is_plain o ≡ true → is_plain (Some end) ≡ false → o ≡ Some end → ⊥
plain_not o end p f e = let g = ap is_plain e in cc

plain_no_fault : (o : Option End) → is_plain o ≡ true → is_port_fault o ≡ true → ⊥
plain_no_fault None p f = absurd (cc)
plain_no_fault (Some (Exited code)) p f = absurd (cc)
plain_no_fault (Some (Faulted kind pc addr)) p f = absurd (cc)
plain_no_fault (Some Spent) p f = absurd (cc)
plain_no_fault (Some ReadFault) p f = absurd (cc)
plain_no_fault (Some WriteFault) p f = absurd (cc)

pub still_acts : (k : ℕ) (c d : Core) (r : Option (List ℕ)) (rf : ℕ) (w : Option (List ℕ)) (wf : ℕ)
    → ((s : State) → c ≡ s.core → after_event s k ≡ with_core s d) → is_plain d.ended ≡ true
    → Acts k (configuration_of c r rf w wf) (configuration_of d r rf w wf)
still_acts k c d r rf w wf is p = record {
  core = λ s e t f. sym (ap (λ (t : State). t.core) (is s e));
  rest = λ s e t f. t ∙ sym (ap (λ (t : State). Some t.rest) (is s e));
  output = λ s e f o. o ∙ sym (ap (λ (t : State). Some t.output) (is s e));
  reading = λ e. absurd (plain_not d.ended ReadFault p refl e);
  writing = λ e. absurd (plain_not d.ended WriteFault p refl e);
  unread = λ e. refl;
  sent = λ s e f o. absurd (plain_no_fault d.ended p f);
}

still_keeps : (c d : Core) (r : Option (List ℕ)) (rf : ℕ) (w : Option (List ℕ)) (wf : ℕ) → is_plain d.ended ≡ true
    → Keeps (configuration_of c r rf w wf) (configuration_of d r rf w wf)
still_keeps c d r rf w wf p = record {
  unspent = λ g e. plain_not d.ended Spent p refl e;
  read_fault = λ e. absurd (plain_not d.ended ReadFault p refl e);
  write_fault = λ e. absurd (plain_not d.ended WriteFault p refl e);
  input_never_falls = omega arith;
  output_never_falls = omega arith;
}

-- it is no ordinary one
abbrev pub IsAdded : XInstr → Type 0
IsAdded (Base i) = ⊥
IsAdded (Put slot rs1) = Unit {0}
IsAdded (Get rd slot) = Unit {0}
IsAdded Par = Unit {0}
IsAdded Join = Unit {0}
IsAdded Back = Unit {0}
IsAdded (Id rd) = Unit {0}
IsAdded (Harts rd) = Unit {0}

added_is : (i : XInstr) (s : State) (k : ℕ) (h : Hart) (word : ℕ) → IsAdded i → added_event s k h word i ≡ with_core s (added_core s.core k h word i)
added_is (Base i) s k h word a = absurd a
added_is (Put slot rs1) s k h word a = refl
added_is (Get rd slot) s k h word a = refl
added_is Par s k h word a = refl
added_is Join s k h word a = refl
added_is Back s k h word a = refl
added_is (Id rd) s k h word a = refl
added_is (Harts rd) s k h word a = refl

pub none_plain : (o : Option End) → o ≡ None → is_plain o ≡ true
none_plain o e = ap is_plain e

choice_plain : (b : Bool) (c d : Core) → is_plain c.ended ≡ true → is_plain d.ended ≡ true → is_plain (if b then c else d).ended ≡ true
choice_plain true c d p q = p
choice_plain false c d p q = q

added_plain : (i : XInstr) (c : Core) (k : ℕ) (h : Hart) (word : ℕ) → c.ended ≡ None → is_plain (added_core c k h word i).ended ≡ true
added_plain (Base i) c k h word e = none_plain c.ended e
added_plain (Put slot rs1) c k h word e = none_plain c.ended e
added_plain (Get rd slot) c k h word e = none_plain c.ended e
added_plain Par c k h word e = choice_plain (k == 0) (forked c h) (illegal c k h word) (none_plain c.ended e) refl
added_plain Join c k h word e = none_plain c.ended e
added_plain Back c k h word e = choice_plain (k == 0) (went_back c h) (illegal c k h word) (none_plain c.ended e) refl
added_plain (Id rd) c k h word e = none_plain c.ended e
added_plain (Harts rd) c k h word e = none_plain c.ended e

one_added : (i : XInstr) → IsForOne i → IsAdded i
one_added (Base i) one = absurd one
one_added (Put slot rs1) one = tt
one_added (Get rd slot) one = tt
one_added Par one = absurd one
one_added Join one = absurd one
one_added Back one = absurd one
one_added (Id rd) one = tt
one_added (Harts rd) one = tt

one_core : (i : XInstr) (c : Core) (k : ℕ) (h : Hart) (word : ℕ) → IsForOne i → of_hart c k h i ≡ added_core c k h word i
one_core (Base i) c k h word one = absurd one
one_core (Put slot rs1) c k h word one = refl
one_core (Get rd slot) c k h word one = refl
one_core Par c k h word one = absurd one
one_core Join c k h word one = absurd one
one_core Back c k h word one = absurd one
one_core (Id rd) c k h word one = refl
one_core (Harts rd) c k h word one = refl

module _ (k : ℕ) (h : Hart) (c d : Core) (r : Option (List ℕ)) (rf : ℕ) (w : Option (List ℕ)) (wf : ℕ)
    (none : c.ended ≡ None) (at : slice_get c.harts k ≡ Some h) (stub : h.mode ≡ Stub) where
  with_old : (s : State) → c ≡ s.core → (f : Core → Core) → with_core s (f s.core) ≡ with_core s (f c)
  with_old s e f = ap (λ (b : Core). with_core s (f b)) (sym e)

  pub added_acts : (i : XInstr) (word : ℕ) → added_word c.image.code h.pc ≡ Some word → decoded_x word ≡ Some i → IsAdded i
      → d ≡ added_core c k h word i → Acts k (configuration_of c r rf w wf) (configuration_of d r rf w wf)
  added_acts i word is means a e =
      subst (λ (b : Core). Acts k (configuration_of c r rf w wf) (configuration_of b r rf w wf)) (sym e)
      (still_acts k c (added_core c k h word i) r rf w wf
      (λ s same. stub_event k h c none at stub (Some word) is s same
      ∙ ap (λ (o : Option XInstr). decoded_event s k h word o) means
      ∙ added_is i s k h word a
      ∙ with_old s same (λ b. added_core b k h word i))
      (added_plain i c k h word none))

  pub added_keeps : (i : XInstr) (word : ℕ) → d ≡ added_core c k h word i → Keeps (configuration_of c r rf w wf) (configuration_of d r rf w wf)
  added_keeps i word e =
      subst (λ (b : Core). Keeps (configuration_of c r rf w wf) (configuration_of b r rf w wf)) (sym e)
      (still_keeps c (added_core c k h word i) r rf w wf (added_plain i c k h word none))

  illegal_acts : (addr : ℕ) → ((s : State) → c ≡ s.core → after_event s k ≡ with_core s (illegal s.core k h addr))
      → d ≡ illegal c k h addr → Acts k (configuration_of c r rf w wf) (configuration_of d r rf w wf)
  illegal_acts addr is e =
      subst (λ (b : Core). Acts k (configuration_of c r rf w wf) (configuration_of b r rf w wf)) (sym e)
      (still_acts k c (illegal c k h addr) r rf w wf (λ s same. is s same ∙ with_old s same (λ b. illegal b k h addr)) refl)

  pub illegal_keeps : (addr : ℕ) → d ≡ illegal c k h addr → Keeps (configuration_of c r rf w wf) (configuration_of d r rf w wf)
  illegal_keeps addr e =
      subst (λ (b : Core). Keeps (configuration_of c r rf w wf) (configuration_of b r rf w wf)) (sym e)
      (still_keeps c (illegal c k h addr) r rf w wf refl)

  -- where there is no added word
  pub outside_acts : added_word c.image.code h.pc ≡ None → d ≡ illegal c k h 0
      → Acts k (configuration_of c r rf w wf) (configuration_of d r rf w wf)
  outside_acts is = illegal_acts 0 (stub_event k h c none at stub None is)

  -- where the word is none
  pub unknown_acts : (word : ℕ) → added_word c.image.code h.pc ≡ Some word → decoded_x word ≡ None → d ≡ illegal c k h word
      → Acts k (configuration_of c r rf w wf) (configuration_of d r rf w wf)
  unknown_acts word is means =
      illegal_acts word (λ s same. stub_event k h c none at stub (Some word) is s same
      ∙ ap (λ (o : Option XInstr). decoded_event s k h word o) means)

  -- an instruction of the hart alone
  pub alone_acts : (i j : XInstr) → i ≡ j → IsForOne j → (word : ℕ) → added_word c.image.code h.pc ≡ Some word → decoded_x word ≡ Some i
      → d ≡ of_hart c k h i → Acts k (configuration_of c r rf w wf) (configuration_of d r rf w wf)
  alone_acts i j same one word is means e =
      added_acts j word is (means ∙ ap (λ (x : XInstr). Some x) same) (one_added j one)
      (e ∙ ap (λ (x : XInstr). of_hart c k h x) same ∙ one_core j c k h word one)

  pub alone_keeps : (i : XInstr) → d ≡ of_hart c k h i → Keeps (configuration_of c r rf w wf) (configuration_of d r rf w wf)
  alone_keeps i e =
      subst (λ (b : Core). Keeps (configuration_of c r rf w wf) (configuration_of b r rf w wf)) (sym e)
      (still_keeps c (of_hart c k h i) r rf w wf (none_plain c.ended none))
