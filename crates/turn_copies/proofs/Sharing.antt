-- Accesses of different turns, and the memory after those of the first turns.
use Rattle.std.proofs.Common.{◌≡◌, ◌≢◌, ℕ, zero, suc, ◌+◌, ◌-◌, ◌<◌, refl, sym, subst, ap, ◌∙◌, arith, Option, Some, None, Ok, Bool, true, false, List, Err, Result}
use Rattle.rv64_decode.specs.Area.{Area, bytes_of, why, writable_of, or_refusal, unless_refused, with_number, fetch_of, load_of}
use Rattle.rv64_decode.specs.Ask.{Ask, Nothing, Loads, Stores, after, without_number}
use Rattle.rv64_decode.specs.Fetched.{instr_in}
use Rattle.rv64_decode.specs.Row.{asks}
use Rattle.rv64_decode.specs.Table.{decoded}
use Rattle.rv64_decode.specs.declared.instr.Instr.{Instr}
use Rattle.rv64_decode.specs.declared.memory.MemFault.{MemFault}
use Rattle.rv64_decode.specs.declared.outcome.Next.{Next}
use Rattle.rv64_decode.specs.declared.outcome.Next.TheVariants.{At, Call, Fault as Faulting}
use Rattle.loop_data.specs.declared.shape.Level.{Level}
use Rattle.loop_data.specs.declared.verdict.Cell.{Cell}
use Rattle.loop_data.specs.Independent.{Role, IsAccess, IsOutside, in_cell}
use Rattle.loop_data.specs.Locations.{cell_at, address, width_of}
use Rattle.loop_data.specs.LoopCode.{LoopCode}
use Rattle.loop_data.specs.Nests.{has}
use Rattle.loop_data.specs.Runs.{State, run, walk, step, stepped, fetched, executed, access, asks_of, granted, unless_denied, instr_of}
use Rattle.loop_data.specs.Turns.{turn, covers, Reads, Writes, loads_byte, stores_byte}
use Rattle.loop_data.proofs.Tests.{yes_no}
use Rattle.turn_copies.specs.Memories.{Agree, replayed}
use Rattle.turn_copies.specs.Bodies.{IsDivided}
use Rattle.turn_copies.specs.Passages.{IsUnstored, unless_of_cell, outside_access, accesses_from}
use Rattle.turn_copies.specs.Sharing.{AccessLaw, DisjointLaw, ReplayLaw}
use Rattle.turn_copies.proofs.Agreeing.{agree_refl, agree_after, agree_hidden, agree_sym}
use Rattle.turn_copies.proofs.Visits.{covers_is}
use Rattle.turn_copies.proofs.Following.{replayed_logged}
use Rattle.loop_data.proofs.NestVisits.{goes_to}
use Rattle.rv64_decode.specs.declared.memory.Width.{Width}
use Rattle.turn_copies.proofs.Blocks.{before_arrival}

-- ---- a step is its access

-- an access that is granted leaves what was asked for
granted_after : (m : List Area) (ask : Ask) → after m (granted m ask) ≡ after m ask
granted_after m Nothing = refl
granted_after m (Loads x w) = go (load_of m x w)
  where
    go : (r : Result ℕ MemFault) → after m (unless_denied r (Loads x w)) ≡ m
    go (Ok n) = refl
    go (Err f) = refl
granted_after m (Stores x w v) = go (why writable_of m x w) refl
  where
    go : (o : Option MemFault) → why writable_of m x w ≡ o → after m (unless_denied (without_number (or_refusal o tt)) (Stores x w v)) ≡ unless_refused o m (with_number (bytes_of w) m x v)
    go None e = ap (λ o. unless_refused o m (with_number (bytes_of w) m x v)) e
    go (Some f) e = refl

executed_after : (w : ℕ) (o : Option Instr) (pc : ℕ) (regs : List ℕ) (m : List Area) → (executed w o pc regs m).memory ≡ after m (granted m (asks_of o regs))
executed_after w (Some i) pc regs m = sym (granted_after m (asks i regs))
executed_after w None pc regs m = refl

fetched_after : (o : Result ℕ MemFault) (pc : ℕ) (regs : List ℕ) (m : List Area) → (fetched o pc regs m).memory ≡ after m (granted m (asks_of (instr_in o) regs))
fetched_after (Ok w) pc regs m = executed_after w (decoded w) pc regs m
fetched_after (Err f) pc regs m = refl

stepped_after : (n : Next) (regs : List ℕ) (m : List Area) → (stepped n regs m).memory ≡ after m (granted m (asks_of (instr_of n m) regs))
stepped_after (At pc) regs m = fetched_after (fetch_of m pc) pc regs m
stepped_after Call regs m = refl
stepped_after (Faulting kind addr) regs m = refl

step_after : (s : State) → (step s).memory ≡ after s.memory (access s)
unfolding step
step_after s = stepped_after s.next s.regs s.memory

-- an access that covers a byte of a cell
cell_access : (ask : Ask) (x : ℕ) (w : Width) (z : ℕ) → IsAccess ask x w → stores_byte ask z ≡ true → covers x (bytes_of w) z ≡ true
cell_access Nothing x w z i e = absurd i
cell_access (Loads a u) x w z i e = absurd (cc)
cell_access (Stores a u v) x w z i e = subst (λ y. covers y (bytes_of w) z ≡ true) i.0 (subst (λ y. covers a (bytes_of y) z ≡ true) i.1 e)

module _ (l : Level) (B : LoopCode) (roles : ℕ → Role) (s : State) (p : ℕ) (d : IsDivided l B roles s p) where
  not_used : (n k : ℕ) → B.cells.uses (walk s n) ≡ None → B.cells.uses (walk s n) ≢ Some k
  not_used n k e q = absurd (cc)

  -- a byte that is loaded outside the cells is in no stored cell, and one that is stored in none
  loads_unstored : (n z : ℕ) → turn l s n < p → B.cells.uses (walk s n) ≡ None → loads_byte (access (run s n)) z ≡ true → IsUnstored B.cells s z
  loads_unstored n z lt none e k c q st = go (in_cell s c z) refl
    where
      go : (i : Bool) → in_cell s c z ≡ i → in_cell s c z ≡ false
      go false i = i
      go true i = absurd (yes_no _ e (d.independent.cells.touched n k z c lt q st (not_used n k none) i).0)

  stores_outside : (n z : ℕ) → turn l s n < p → B.cells.uses (walk s n) ≡ None → stores_byte (access (run s n)) z ≡ true → IsOutside B.cells s z
  stores_outside n z lt none e k c q = go (in_cell s c z) c.stored refl refl
    where
      go : (i st : Bool) → in_cell s c z ≡ i → c.stored ≡ st → in_cell s c z ≡ false
      go false st i j = i
      go true true i j = absurd (yes_no _ e (d.independent.cells.touched n k z c lt q j (not_used n k none) i).1)
      go true false i j = absurd (yes_no _ e (d.independent.cells.written n k z c lt q j i))

  loads_is : (n z : ℕ) → turn l s n < p → loads_byte (outside_access B.cells s n) z ≡ true → Reads l s (turn l s n) z × IsUnstored B.cells s z
  loads_is n z lt e = go (B.cells.uses (walk s n)) refl e
    where
      go : (o : Option ℕ) → B.cells.uses (walk s n) ≡ o → loads_byte (unless_of_cell o (access (run s n))) z ≡ true → Reads l s (turn l s n) z × IsUnstored B.cells s z
      go None q h = (record { at = n; turn = refl; loads = h }, loads_unstored n z lt q h)
      go (Some k) q h = absurd (cc)

  stores_is : (n z : ℕ) → turn l s n < p → stores_byte (outside_access B.cells s n) z ≡ true → Writes l s (turn l s n) z × IsOutside B.cells s z
  stores_is n z lt e = go (B.cells.uses (walk s n)) refl e
    where
      go : (o : Option ℕ) → B.cells.uses (walk s n) ≡ o → stores_byte (unless_of_cell o (access (run s n))) z ≡ true → Writes l s (turn l s n) z × IsOutside B.cells s z
      go None q h = (record { at = n; turn = refl; stores = h }, stores_outside n z lt q h)
      go (Some k) q h = absurd (cc)

  -- a store to a cell is one to a stored cell
  hidden_store : (n k z : ℕ) → turn l s n < p → B.cells.uses (walk s n) ≡ Some k → stores_byte (access (run s n)) z ≡ true → ((c : Cell) → cell_at B.cells.cells k ≡ Some c → IsUnstored B.cells s z → ⊥)
  hidden_store n k z lt used e c q unstored =
      let own = d.independent.cells.own n k c lt used q in
      let inside : in_cell s c z ≡ true = cell_access (access (run s n)) (address s.regs c) (width_of c) z own e in
      go c.stored refl inside
    where
      go : (st : Bool) → c.stored ≡ st → in_cell s c z ≡ true → ⊥
      go true j inside = yes_no _ inside (unstored k c q j)
      go false j inside = yes_no _ e (d.independent.cells.written n k z c lt q j inside)

disjoint : (b : Bool) → (b ≡ true → ⊥) → b ≡ false
disjoint true h = absurd (h refl)
disjoint false h = refl

pub access_law : AccessLaw
access_law l B roles s p n z d lt = (loads_is l B roles s p d n z lt, stores_is l B roles s p d n z lt)

pub disjoint_law : DisjointLaw
disjoint_law l B roles s p m n z d a b other e =
    let w = stores_is l B roles s p d m z a e in (
      disjoint (loads_byte (outside_access B.cells s n) z) (λ h. let r = loads_is l B roles s p d n z b h in d.independent.apart.reads (turn l s m) (turn l s n) z a b other w.0 w.1 r.0),
      disjoint (stores_byte (outside_access B.cells s n) z) (λ h. let r = stores_is l B roles s p d n z b h in d.independent.apart.writes (turn l s m) (turn l s n) z a b other w.0 w.1 r.0),
    )

-- ---- the memory after the accesses of the first turns

-- an access that stores to none of these bytes, in the second memory alone
cell_hidden : (ask : Ask) (at : ℕ → Type 0) (m m' : List Area) → ((z : ℕ) → stores_byte ask z ≡ true → at z → ⊥) → Agree at m m' → Agree at m (after m' ask)
cell_hidden Nothing at m m' h a = a
cell_hidden (Loads x w) at m m' h a = a
cell_hidden (Stores x w v) at m m' h a = agree_sym at (after m' (Stores x w v)) m (agree_hidden at m' m x v w (λ z lo hi k. h z (covers_is x (bytes_of w) z lo hi) k) (agree_sym at m m' a))

replay_from : (l : Level) (B : LoopCode) (roles : ℕ → Role) (s : State) (p : ℕ) → IsDivided l B roles s p → ((u k : ℕ) → has l.body u ≡ true → B.cells.uses u ≡ Some k → (c : Cell) × (cell_at B.cells.cells k ≡ Some c)) → (n : ℕ) → ((m : ℕ) → m < n → turn l s m < p)
    → Agree (IsUnstored B.cells s) (replayed s.memory (accesses_from B.cells s 0 n)) (run s n).memory
replay_from l B roles s p d cells zero early = agree_refl (IsUnstored B.cells s) s.memory
replay_from l B roles s p d cells (suc n) early =
    let before = replay_from l B roles s p d cells n (λ m lt. early m (omega arith)) in
    let zero_n : 0 + n ≡ n = omega arith in
    let m1 = replayed s.memory (accesses_from B.cells s 0 n) in
    let joined : replayed s.memory (accesses_from B.cells s 0 (suc n)) ≡ after m1 (outside_access B.cells s n) = replayed_logged s.memory (accesses_from B.cells s 0 n) (outside_access B.cells s (0 + n)) ∙ ap (λ x. after m1 (outside_access B.cells s x)) zero_n in
    subst (λ x. Agree (IsUnstored B.cells s) x (run s (suc n)).memory) (sym joined) (subst (λ x. Agree (IsUnstored B.cells s) (after m1 (outside_access B.cells s n)) x) (sym (step_after (run s n))) (go m1 before (B.cells.uses (walk s n)) refl))
  where
    go : (m1 : List Area) → Agree (IsUnstored B.cells s) m1 (run s n).memory → (o : Option ℕ) → B.cells.uses (walk s n) ≡ o → Agree (IsUnstored B.cells s) (after m1 (unless_of_cell (B.cells.uses (walk s n)) (access (run s n)))) (after (run s n).memory (access (run s n)))
    go m1 h None q = subst (λ o. Agree (IsUnstored B.cells s) (after m1 (unless_of_cell o (access (run s n)))) (after (run s n).memory (access (run s n)))) (sym q) (agree_after (IsUnstored B.cells s) m1 (run s n).memory (access (run s n)) h)
    go m1 h (Some k) q =
        let lt = early n (omega arith) in
        let inside = goes_to (has l.body) (run s n).next (d.independent.turns.inside n lt) in
        let c = cells (walk s n) k inside q in
        subst (λ o. Agree (IsUnstored B.cells s) (after m1 (unless_of_cell o (access (run s n)))) (after (run s n).memory (access (run s n)))) (sym q)
        (cell_hidden (access (run s n)) (IsUnstored B.cells s) m1 (run s n).memory (λ z e u. hidden_store l B roles s p d n k z lt q e c.0 c.1 u) h)

pub replay_law : ReplayLaw
replay_law l B roles s p t b body d le there =
    let e : b - 0 ≡ b = omega arith in
    subst (λ n. Agree (IsUnstored B.cells s) (replayed s.memory (accesses_from B.cells s 0 n)) (run s b).memory) (sym e)
    (replay_from l B roles s p d (λ u k h q. let x = body.cells.uses u k h q in (x.0, x.1)) b (λ m lt. let low = before_arrival l B roles s p body d t b m there lt in omega arith))
