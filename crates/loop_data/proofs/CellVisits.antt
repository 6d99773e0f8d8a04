-- What the words that a run visits do to the cells of a loop.
use Rattle.std.proofs.Common.{◌≡◌, ℕ, zero, suc, ◌<◌, List, Option, Some, None, Result, Ok, Err, true, false, ap, sym, ◌∙◌, subst}
use Rattle.rv64_decode.specs.Area.{Area, fetch_of}
use Rattle.rv64_decode.specs.Table.{decoded}
use Rattle.rv64_decode.specs.Row.{asks}
use Rattle.rv64_decode.specs.declared.memory.MemFault.{MemFault}
use Rattle.rv64_decode.specs.declared.instr.Instr.{Instr}
use Rattle.rv64_decode.specs.declared.outcome.Next.{Next}
use Rattle.rv64_decode.specs.declared.outcome.Next.TheVariants.{At, Call, Fault as Faulting}
use Rattle.loop_data.specs.declared.shape.Level.{Level}
use Rattle.loop_data.specs.declared.verdict.Cell.{Cell}
use Rattle.loop_data.specs.Nests.{has}
use Rattle.loop_data.specs.Runs.{State, executed, fetched, stepped, step, run, walk, instr, asks_of, granted, access}
use Rattle.loop_data.specs.Turns.{stores_byte}
use Rattle.loop_data.specs.Locations.{cell_at, address, width_of, moves_cell}
use Rattle.loop_data.specs.LoopCode.{LoopCode}
use Rattle.loop_data.specs.Independent.{IsAccess}
use Rattle.loop_data.specs.Executing.{AreWhole, AreCellWords, LeavesCells, AreAtCells}
use Rattle.loop_data.proofs.NestVisits.{Visit}
use Rattle.loop_data.proofs.CellBytes.{whole_after}
use Rattle.loop_data.proofs.CellWords.{OnCells, own_of}

whole_executed : (word : ℕ) (o : Option Instr) (pc : ℕ) (regs : List ℕ) (m : List Area) → AreWhole m → AreWhole (executed word o pc regs m).memory
whole_executed word (Some i) pc regs m w = whole_after m (asks i regs) w
whole_executed word None pc regs m w = w

whole_fetched : (o : Result ℕ MemFault) (pc : ℕ) (regs : List ℕ) (m : List Area) → AreWhole m → AreWhole (fetched o pc regs m).memory
whole_fetched (Ok word) pc regs m w = whole_executed word (decoded word) pc regs m w
whole_fetched (Err why) pc regs m w = w

whole_stepped : (n : Next) (regs : List ℕ) (m : List Area) → AreWhole m → AreWhole (stepped n regs m).memory
whole_stepped (At pc) regs m w = whole_fetched (fetch_of m pc) pc regs m w
whole_stepped Call regs m w = w
whole_stepped (Faulting kind addr) regs m w = w

whole_step : (s : State) → AreWhole s.memory → AreWhole (step s).memory
unfolding step
whole_step s w = whole_stepped s.next s.regs s.memory w

-- areas stay whole in a run
pub whole_run : (s : State) (n : ℕ) → AreWhole s.memory → AreWhole (run s n).memory
whole_run s zero w = w
whole_run s (suc n) w = whole_step (run s n) (whole_run s n w)

-- what the word of a visit does to the cells
pub on_cells : (l : Level) (B : LoopCode) (s : State) (n m : ℕ) → AreCellWords l B → AreAtCells B.cells s n → LeavesCells B.cells s n → m < n → has l.body (walk s m) ≡ true → (v : Visit B s m)
    → instr (run s m) ≡ Some v.does → OnCells B.cells (walk s m) v.does s.regs (run s m).regs (run s m).memory
on_cells l B s n m words own leaves lt h v e = record { own = owns; others = λ j b c k ne cover. subst (λ a. stores_byte a b ≡ false) there (leaves.others m j b c lt k ne cover) }
  where
    there : access (run s m) ≡ granted (run s m).memory (asks v.does (run s m).regs)
    there = ap (λ o. granted (run s m).memory (asks_of o (run s m).regs)) e

    owns : (k : ℕ) → B.cells.uses (walk s m) ≡ Some k → (c : Cell) × (cell_at B.cells.cells k ≡ Some c) × Rattle.loop_data.proofs.CellWords.IsOwn v.does s.regs (run s m).regs (run s m).memory c
    owns k q =
        let w = words.uses (walk s m) k h q in (
          w.0,
          w.1,
          own_of v.does s.regs (run s m).regs (run s m).memory w.0 (ap (λ o. moves_cell o (w.0).wide) (sym v.is) ∙ w.2)
              (subst (λ a. IsAccess a (address s.regs w.0) (width_of w.0)) there (own m k w.0 lt q w.1))
              (whole_run s m (leaves.areas k w.0 w.1)),
        )
