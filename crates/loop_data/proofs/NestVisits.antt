-- What is known of each visit of a run that executes the words of a nest.
use Rattle.std.proofs.Common.{◌≡◌, ◌≢◌, ℕ, zero, suc, ◌%◌, ◌<◌, ◌≤◌, ◌⊎◌, inl, inr, List, [], ◌∷◌, Bool, true, false, Option, Some, None, Result, Ok, Err, refl, ap, sym, ◌∙◌, subst, arith, if◌then◌else◌, ◌==◌}
use Rattle.std.specs.List.{AllPairs}
use Rattle.std.proofs.lemmas.List.Kept.{AllPairs-from_increasing}
use Rattle.rv64_decode.specs.Area.{Area, fetch_of}
use Rattle.rv64_decode.specs.Ask.{answer}
use Rattle.rv64_decode.specs.Fetched.{instr_in}
use Rattle.rv64_decode.specs.Range.{IsInRange, AreWords, AreBytes}
use Rattle.rv64_decode.specs.Registers.{register}
use Rattle.rv64_decode.specs.Row.{row, asks, next_pc, plus_offset, onward, jump, stopped, loaded, stored, taken}
use Rattle.rv64_decode.specs.Table.{decoded}
use Rattle.rv64_decode.specs.declared.instr.Instr.{Instr}
use Rattle.rv64_decode.specs.declared.instr.Instr.TheVariants.{Alu, AluImm, Upper, Load, Store, Branch, Jal, Jalr, Fence, Ecall, Ebreak}
use Rattle.rv64_decode.specs.declared.instr.LoadOp.{LoadOp}
use Rattle.rv64_decode.specs.declared.memory.MemFault.{MemFault}
use Rattle.rv64_decode.specs.declared.outcome.Fault.TheVariants.{Target}
use Rattle.rv64_decode.specs.declared.outcome.Next.{Next}
use Rattle.rv64_decode.specs.declared.outcome.Next.TheVariants.{At, Call, Fault as Faulting}
use Rattle.rv64_decode.proofs.Fields.{decoded-in_range}
use Rattle.rv64_decode.proofs.Sound.{row-words, after_are}
use Rattle.loop_data.specs.declared.graph.Word.{Word}
use Rattle.loop_data.specs.declared.graph.Graph.{Graph}
use Rattle.loop_data.specs.declared.shape.Level.{Level}
use Rattle.loop_data.specs.Paths.{IsInOrder, addresses_of}
use Rattle.loop_data.specs.Instructions.{Means}
use Rattle.loop_data.specs.Nests.{Nest, has, In, levels, Among, Edge, nest_of, IsNest, Holds}
use Rattle.loop_data.specs.LoopWords.{next_words, IsPlainInstr, IsLoopWord, AreNest}
use Rattle.loop_data.specs.LoopCode.{LoopCode, instr_among, code_of, IsForwardIn}
use Rattle.loop_data.specs.Locations.{CellMap}
use Rattle.loop_data.specs.Runs.{State, run, step, stepped, fetched, performed, instr, instr_of, walk, pc_in, goes_at}
use Rattle.loop_data.specs.Executing.{AreProgramWords, Executes}
use Rattle.loop_data.proofs.Tests.{eq_of, ne_of, is_eq, is_ne, yes_no}
use Rattle.loop_data.proofs.Steps.{Within, within_at, leads_is, has_contains}

-- a state that goes on at a word that passes the test
pub goes_here : (test : ℕ → Bool) (x : Next) → goes_at test x ≡ true → x ≡ At (pc_in x)
goes_here test (At pc) e = refl
goes_here test Call e = absurd (cc)
goes_here test (Faulting kind addr) e = absurd (cc)

pub goes_to : (test : ℕ → Bool) (x : Next) → goes_at test x ≡ true → test (pc_in x) ≡ true
goes_to test (At pc) e = e
goes_to test Call e = absurd (cc)
goes_to test (Faulting kind addr) e = absurd (cc)

-- the word at u is the first of the list at its address
below_later : (a : ℕ) (xs : List Word) (w : Word) → AllPairs (λ x y. x < y) (a ∷ addresses_of xs) → Within xs w → a < w.at
below_later a [] w h i = absurd i
below_later a (x ∷ xs) w h (inl e) =
    let p : a < x.at = h 0 1 0 (omega arith) (omega arith) in subst (λ (z : Word). a < z.at) e p
below_later a (x ∷ xs) w h (inr i) =
    let p : a < x.at = h 0 1 0 (omega arith) (omega arith) in
    let q = below_later x.at xs w (λ i j d below within. h (suc i) (suc j) d (omega arith) (omega arith)) i in
    omega arith

found_among : (ws : List Word) (w : Word) → AllPairs (λ x y. x < y) (addresses_of ws) → Within ws w → instr_among ws w.at ≡ decoded w.bits
found_among [] w h i = absurd i
found_among (x ∷ xs) w h (inl e) =
    ap (λ b. if b then decoded x.bits else instr_among xs w.at) (is_eq x.at w.at (ap (λ (z : Word). z.at) e)) ∙ ap (λ (z : Word). decoded z.bits) e
found_among (x ∷ xs) w h (inr i) =
    let lt = below_later x.at xs w h i in
    ap (λ b. if b then decoded x.bits else instr_among xs w.at) (is_ne x.at w.at (λ e. absurd (omega arith)))
    ∙ found_among xs w (λ i j d below within. h (suc i) (suc j) d (omega arith) (omega arith)) i

-- the instruction of a word that stands for one
pub found_instr : (G : Graph) (u : ℕ) (i : Option Instr) → IsInOrder G → Means G u i → instr_among G.words u ≡ i
found_instr G u i order m =
    let c = m.among in
    subst (λ x. instr_among G.words x ≡ i) m.at (found_among G.words m.word (AllPairs-from_increasing _ order) (within_at G.words m.word c.0 c.1 c.2) ∙ m.means)

-- an instruction that a state fetches is executed
fetched_is : (o : Result ℕ MemFault) (i : Instr) (u : ℕ) (regs : List ℕ) (m : List Area) → instr_in o ≡ Some i → fetched o u regs m ≡ performed i u regs m
fetched_is (Ok w) i u regs m e = go (decoded w) e
  where
    go : (o : Option Instr) → o ≡ Some i → Rattle.loop_data.specs.Runs.executed w o u regs m ≡ performed i u regs m
    go (Some j) e = let q : j ≡ i = cc in ap (λ k. performed k u regs m) q
    go None e = absurd (cc)
fetched_is (Err why) i u regs m e = absurd (cc)

pub step_is : (s : State) (u : ℕ) (i : Instr) → s.next ≡ At u → instr s ≡ Some i → step s ≡ performed i u s.regs s.memory
unfolding step
step_is s u i e f =
    ap (λ n. stepped n s.regs s.memory) e ∙ fetched_is (fetch_of s.memory u) i u s.regs s.memory (sym (ap (λ n. instr_of n s.memory) e) ∙ f)

-- an instruction goes on to one of the words to which it leads
has_here : (x v : ℕ) (xs : List ℕ) → x ≡ v → has (x ∷ xs) v ≡ true
has_here x v xs e = let k = is_eq x v e in rw k refl

has_later : (x v : ℕ) (xs : List ℕ) → has xs v ≡ true → has (x ∷ xs) v ≡ true
has_later x v xs e = go (x == v)
  where
    go : (b : Bool) → (if b then true else has xs v) ≡ true
    go true = refl
    go false = e

at_same : (a b : ℕ) → At a ≡ At b → a ≡ b
at_same a b e = cc

jump_leads : (to v : ℕ) (old new : List ℕ) → (jump to old new).next ≡ At v → to ≡ v
jump_leads to v old new = go (to % 4 == 0)
  where
    go : (b : Bool) → (if b then record { next = At to; regs = new } else stopped Target to old).next ≡ At v → to ≡ v
    go true e = cc
    go false e = absurd (cc)

loaded_leads : (op : LoadOp) (rd addr pc v : ℕ) (regs : List ℕ) (told : Result ℕ MemFault) → (loaded op rd addr pc regs told).next ≡ At v → next_pc pc ≡ v
loaded_leads op rd addr pc v regs (Ok n) e = cc
loaded_leads op rd addr pc v regs (Err why) e = absurd (cc)

stored_leads : (addr pc v : ℕ) (regs : List ℕ) (told : Result ℕ MemFault) → (stored addr pc regs told).next ≡ At v → next_pc pc ≡ v
stored_leads addr pc v regs (Ok n) e = cc
stored_leads addr pc v regs (Err why) e = absurd (cc)

branch_leads : (b : Bool) (pc to v : ℕ) (regs : List ℕ) → (if b then jump to regs regs else onward pc regs).next ≡ At v → has (next_pc pc ∷ to ∷ []) v ≡ true
branch_leads true pc to v regs e = has_later (next_pc pc) v (to ∷ []) (has_here to v [] (jump_leads to v regs regs e))
branch_leads false pc to v regs e = has_here (next_pc pc) v (to ∷ []) (at_same _ _ e)

pub leads_there : (i : Instr) (pc v : ℕ) (regs : List ℕ) (told : Result ℕ MemFault) → IsPlainInstr i → (row i pc regs told).next ≡ At v → has (next_words i pc) v ≡ true
leads_there (Alu op rd rs1 rs2) pc v regs told d e = has_here _ v [] (at_same _ _ e)
leads_there (AluImm op rd rs1 imm) pc v regs told d e = has_here _ v [] (at_same _ _ e)
leads_there (Upper op rd imm) pc v regs told d e = has_here _ v [] (at_same _ _ e)
leads_there (Load op rd rs1 imm) pc v regs told d e = has_here _ v [] (loaded_leads op rd _ pc v regs told e)
leads_there (Store op rs1 rs2 imm) pc v regs told d e = has_here _ v [] (stored_leads _ pc v regs told e)
leads_there (Branch op rs1 rs2 imm) pc v regs told d e = branch_leads (taken op (register regs rs1) (register regs rs2)) pc (plus_offset pc imm) v regs e
leads_there (Jal rd imm) pc v regs told d e = has_here _ v [] (jump_leads _ v _ _ e)
leads_there (Jalr rd rs1 imm) pc v regs told d e = absurd d
leads_there (Fence rd rs1 imm) pc v regs told d e = has_here _ v [] (at_same _ _ e)
leads_there Ecall pc v regs told d e = absurd (cc)
leads_there Ebreak pc v regs told d e = absurd (cc)

-- a word of the root: its instruction, and that it leads to words of the nest
pub record IsGiven (N : Nest) (B : LoopCode) (u : ℕ) : Type 0 where
  pub does : Instr
  pub is : B.instr u ≡ Some does
  pub range : IsInRange does
  pub plain : IsPlainInstr does
  pub leads : (v : ℕ) → has (next_words does u) v ≡ true → N.leads u v ≡ true

abbrev pub AreGiven : Nest → LoopCode → Type 0
AreGiven N B = (u : ℕ) → has N.root.body u ≡ true → IsGiven N B u

pub are_given : (G : Graph) (levels : List Level) (nest : AreNest G levels) (C : CellMap) → AreProgramWords G → AreGiven (nest_of G nest.root nest.inner) (code_of G C)
are_given G levels nest C words u h =
    record {
      does = w.instr;
      is = found_instr G u (Some w.instr) words.ordered w.means;
      range = let m = w.means in decoded-in_range m.word.bits w.instr (words.bits m.word m.among) m.means;
      plain = w.plain;
      leads = λ v k. leads_is G u v ((w.leads v).1 (has_contains (next_words w.instr u) v k));
    }
  where
    w : IsLoopWord G u
    w = nest.words u h

-- words that a walk may follow, one after the other
pub record Inside (N : Nest) (pc : ℕ → ℕ) (n : ℕ) : Type 0 where
  pub start : pc 0 ≡ N.root.header
  pub body : (m : ℕ) → m ≤ n → has N.root.body (pc m) ≡ true
  pub leads : (m : ℕ) → m < n → N.leads (pc m) (pc (suc m)) ≡ true

pub edge_of : (N : Nest) (pc : ℕ → ℕ) (n : ℕ) → Inside N pc (suc n) → Edge N N.root.body (pc n) (pc (suc n))
edge_of N pc n inside = record { from = inside.body n (omega arith); to = inside.body (suc n) (omega arith); leads = inside.leads n (omega arith) }

pub inside_less : (N : Nest) (pc : ℕ → ℕ) (n : ℕ) → Inside N pc (suc n) → Inside N pc n
inside_less N pc n inside = record { start = inside.start; body = λ m le. inside.body m (omega arith); leads = λ m lt. inside.leads m (omega arith) }

-- a visit of a word of the nest: what it executes there
pub record Visit (B : LoopCode) (s : State) (m : ℕ) : Type 0 where
  pub does : Instr
  pub is : B.instr (walk s m) ≡ Some does
  pub range : IsInRange does
  pub registers : AreWords (run s m).regs
  pub next : run s (suc m) ≡ performed does (walk s m) (run s m).regs (run s m).memory

-- words that a walk may follow inside a loop, one after the other
pub record IsInside (N : Nest) (l : Level) (pc : ℕ → ℕ) (n : ℕ) : Type 0 where
  pub start : pc 0 ≡ l.header
  pub body : (m : ℕ) → m ≤ n → has l.body (pc m) ≡ true
  pub leads : (m : ℕ) → m < n → N.leads (pc m) (pc (suc m)) ≡ true

pub edge_in : (N : Nest) (l : Level) (pc : ℕ → ℕ) (n : ℕ) → IsInside N l pc (suc n) → Edge N l.body (pc n) (pc (suc n))
edge_in N l pc n inside = record { from = inside.body n (omega arith); to = inside.body (suc n) (omega arith); leads = inside.leads n (omega arith) }

pub is_inside_less : (N : Nest) (l : Level) (pc : ℕ → ℕ) (n : ℕ) → IsInside N l pc (suc n) → IsInside N l pc n
is_inside_less N l pc n inside = record { start = inside.start; body = λ m le. inside.body m (omega arith); leads = λ m lt. inside.leads m (omega arith) }

module _ (N : Nest) (B : LoopCode) (given : AreGiven N B) (l : Level) (within : (x : ℕ) → has l.body x ≡ true → has N.root.body x ≡ true) (s : State) (n : ℕ) (e : Executes l B s n) where
  pub here_in : (m : ℕ) → m ≤ n → (run s m).next ≡ At (walk s m)
  here_in m le = goes_here (has l.body) (run s m).next (e.inside m le)

  pub holds_in : (m : ℕ) → m ≤ n → has l.body (walk s m) ≡ true
  holds_in m le = goes_to (has l.body) (run s m).next (e.inside m le)

  visit_from : (m : ℕ) → m < n → AreWords (run s m).regs → Visit B s m
  visit_from m lt ok =
      let w = given (walk s m) (within (walk s m) (holds_in m (omega arith))) in
      record {
        does = w.does;
        is = w.is;
        range = w.range;
        registers = ok;
        next = step_is (run s m) (walk s m) w.does (here_in m (omega arith)) (e.words m lt ∙ w.is);
      }

  pub sound : (m : ℕ) → m ≤ n → AreWords (run s m).regs × AreBytes (run s m).memory
  sound zero le = (e.registers, e.bytes)
  sound (suc m) le =
      let a = sound m (omega arith) in
      let v = visit_from m le a.0 in (
        subst (λ (x : State). AreWords x.regs) (sym v.next) (row-words v.does (walk s m) (run s m).regs (run s m).memory v.range a.1 a.0),
        subst (λ (x : State). AreBytes x.memory) (sym v.next) (after_are (run s m).memory (asks v.does (run s m).regs) a.1),
      )

  pub visit_in : (m : ℕ) → m < n → Visit B s m
  visit_in m lt = visit_from m lt (sound m (omega arith)).0

  leads_on : (m : ℕ) → m < n → N.leads (walk s m) (walk s (suc m)) ≡ true
  leads_on m lt =
      let w = given (walk s m) (within (walk s m) (holds_in m (omega arith))) in
      let v = step_is (run s m) (walk s m) w.does (here_in m (omega arith)) (e.words m lt ∙ w.is) in
      w.leads (walk s (suc m))
      (leads_there w.does (walk s m) (walk s (suc m)) (run s m).regs (answer (run s m).memory (asks w.does (run s m).regs)) w.plain (sym (ap (λ (x : State). x.next) v) ∙ here_in (suc m) lt))

  -- the walk goes along edges of the loop
  pub walks_in : IsInside N l (walk s) n
  walks_in = record { start = ap pc_in e.start; body = holds_in; leads = leads_on }

-- the same for the root
module _ (N : Nest) (B : LoopCode) (given : AreGiven N B) (s : State) (n : ℕ) (e : Executes N.root B s n) where
  pub here : (m : ℕ) → m ≤ n → (run s m).next ≡ At (walk s m)
  here = here_in N B given N.root (λ x h. h) s n e

  pub holds_word : (m : ℕ) → m ≤ n → has N.root.body (walk s m) ≡ true
  holds_word = holds_in N B given N.root (λ x h. h) s n e

  pub visit : (m : ℕ) → m < n → Visit B s m
  visit = visit_in N B given N.root (λ x h. h) s n e

  pub walks_inside : Inside N (walk s) n
  walks_inside = let w = walks_in N B given N.root (λ x h. h) s n e in record { start = w.start; body = w.body; leads = w.leads }

-- the visits before visit n too
pub executes_less : (l : Level) (B : LoopCode) (s : State) (n m : ℕ) → m ≤ n → Executes l B s n → Executes l B s m
executes_less l B s n m le e =
    record {
      start = e.start;
      registers = e.registers;
      bytes = e.bytes;
      inside = λ k l. e.inside k (omega arith);
      words = λ k l. e.words k (omega arith);
    }

-- a word is the header of a loop, or of none
pub header_or : (ls : List Level) (v : ℕ) → ((l : Level) × In ls l × (v ≡ l.header)) ⊎ ((l : Level) → In ls l → v ≢ l.header)
header_or [] v = inr (λ l i. absurd i)
header_or (m ∷ ms) v = go (v == m.header) refl (header_or ms v)
  where
    go : (b : Bool) → (v == m.header) ≡ b → ((l : Level) × In ms l × (v ≡ l.header)) ⊎ ((l : Level) → In ms l → v ≢ l.header)
        → ((l : Level) × In (m ∷ ms) l × (v ≡ l.header)) ⊎ ((l : Level) → In (m ∷ ms) l → v ≢ l.header)
    go true e o = inl (m, inl refl, eq_of _ _ e)
    go false e (inl o) = inl (o.0, inr o.1, o.2)
    go false e (inr o) = inr (λ l i. by l i)
      where
        by : (l : Level) → (m ≡ l) ⊎ In ms l → v ≢ l.header
        by l (inl q) = λ k. ne_of _ _ e (k ∙ sym (ap (λ (z : Level). z.header) q))
        by l (inr j) = o l j

-- an edge to a header from outside its loop closes no loop
pub entering_edge : (N : Nest) (l : Level) (u : ℕ) → IsNest N → Among N l → Edge N N.root.body u l.header → has l.body u ≡ false → IsForwardIn N N.root.body u l.header
entering_edge N l u nest i edge out = record { edge = edge; closes = closes }
  where
    differ : (m : Level) → has m.body u ≡ true → l ≡ m → ⊥
    differ m mu p = yes_no _ mu (subst (λ (z : Level). has z.body u ≡ false) p out)

    closes : (m : Level) → Among N m → Holds m u → l.header ≢ m.header
    closes m im mu q =
        let b = nest.bodies in
        differ m mu
        (b.apart l m i im (subst (λ z. has m.body z ≡ true) (sym q) (b.header m im)) (subst (λ z. has l.body z ≡ true) q (b.header l i)))
