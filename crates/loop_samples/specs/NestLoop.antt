-- A nest with two cells, and an inner loop of 3 passes:
--    0x10000  ld    x7, 0(x2)       a cell of 8 bytes
--    0x10004  lw    x10, 8(x2)      a cell of 4 bytes
--    0x10008  addi  x7, x7, 1
--    0x1000c  sd    x7, 0(x2)
--    0x10010  addi  x6, x0, 0
--    0x10014  addi  x6, x6, 1       the inner loop's header
--    0x10018  bne   x6, x8, 0x10014
--    0x1001c  addi  x5, x5, 1
--    0x10020  bne   x5, x9, 0x10000
use Rattle.std.specs.Prelude.{List, ℕ, ◌≡◌, ◌+◌, ◌-◌, ◌/◌, ◌%◌, ◌==◌, ◌<◌, Bool, true, false, ◌||◌, ◌&&◌, nat_lt, if◌then◌else◌, [], ◌∷◌, Option, Some, None, pos}
use Rattle.rv64_decode.specs.declared.outcome.Next.TheVariants.{At}
use Rattle.linear_forms.specs.Forms.{LinearForm, moving}
use Rattle.loop_data.specs.declared.shape.Level.{Level}
use Rattle.loop_data.specs.declared.verdict.Cell.{Cell}
use Rattle.loop_data.specs.Nests.{Nest}
use Rattle.loop_data.specs.Runs.{State, walk}
use Rattle.loop_data.specs.Passes.{passes, passed}
use Rattle.loop_data.specs.Locations.{CellMap}
use Rattle.loop_data.specs.Independent.{Role, Keeps, Moves, Private}
use Rattle.loop_samples.specs.Samples.{series, code_area, data_area}

abbrev pub outer : Level
outer =
    record {
      header = 0x1_0000;
      body = 0x1_0000 ∷ 0x1_0004 ∷ 0x1_0008 ∷ 0x1_000C ∷ 0x1_0010 ∷ 0x1_0014 ∷ 0x1_0018 ∷ 0x1_001C ∷ 0x1_0020 ∷ [];
      back = 0x1_0020;
      exit = 0x1_0020;
      depth = 0;
    }

abbrev pub inner : Level
inner = record { header = 0x1_0014; body = 0x1_0014 ∷ 0x1_0018 ∷ []; back = 0x1_0018; exit = 0x1_0018; depth = 1 }

-- each word leads to the next, and the two branches also to the headers
abbrev pub leads : ℕ → ℕ → Bool
leads u v = (v == u + 4) || ((u == 0x1_0018) && (v == 0x1_0014)) || ((u == 0x1_0020) && (v == 0x1_0000))

abbrev pub nest : Nest
nest = record { root = outer; inner = inner ∷ []; leads = leads }

abbrev pub counter : Cell
counter = record { base = Some 2; offset = pos 0; wide = true; stored = true }

abbrev pub number : Cell
number = record { base = Some 2; offset = pos 8; wide = false; stored = false }

abbrev pub used_by : ℕ → Option ℕ
used_by u = if u == 0x1_0000 then Some 0 else if u == 0x1_0004 then Some 1 else if u == 0x1_000C then Some 0 else None

abbrev pub two_cells : CellMap
two_cells = record { cells = counter ∷ number ∷ []; uses = used_by }

abbrev pub nest_words : List ℕ
nest_words =
    0x0001_3383 ∷ 0x0081_2503 ∷ 0x0013_8393 ∷ 0x0071_3023 ∷ 0x0000_0313 ∷ 0x0013_0313 ∷ 0xFE83_1EE3 ∷ 0x0012_8293
    ∷ 0xFE92_90E3 ∷ []

-- the cells hold 100 and -5; there are 4 turns, of 3 passes each
abbrev pub counting : State
counting =
    record {
      next = At 0x1_0000;
      regs = 0 ∷ 0 ∷ 0x2_0000 ∷ 0 ∷ 0 ∷ 0 ∷ 0 ∷ 0 ∷ 3 ∷ 4 ∷ series 22 0 0;
      memory =
          code_area 0x1_0000 nest_words ∷ data_area 0x2_0000 (100 ∷ 0xFFFF_FFFB ∷ []) ∷ [];
    }

-- x5 and the counter move on by 1; x6, x7 and x10 are written anew
abbrev pub nest_roles : ℕ → Role
nest_roles r =
    if r == 5 then Moves (pos 1) else if r == 32 then Moves (pos 1) else if r == 6 then Private
    else if r == 7 then Private else if r == 10 then Private else Keeps

-- the pass of the inner loop, by the number of the visit in its turn
abbrev pub inner_pass : ℕ → ℕ
inner_pass i = if nat_lt i 5 then 0 else (if nat_lt i 11 then (i - 5) / 2 else 0)

-- at each visit of the four turns, the passes by depth
abbrev pub NestPasses : Type 0
NestPasses = (n : ℕ) → n < 52
    → (passes nest (walk counting) n 0 ≡ n / 13) × (passes nest (walk counting) n 1 ≡ inner_pass (n % 13))
    × (passes nest (walk counting) n 2 ≡ 0)

-- before visit 8 the inner loop's pass has visited its header, and before visit 3 the turn three words
pub record NestPassed : Type 0 where
  pub deep : passed inner (walk counting) 8 ≡ 0x1_0014 ∷ []
  pub out : passed outer (walk counting) 3 ≡ 0x1_0008 ∷ 0x1_0004 ∷ 0x1_0000 ∷ []

-- one more than a location's value at the entry, and one more in each turn
abbrev pub one_on : ℕ → LinearForm
one_on r =
    record {
      constant = pos 1;
      terms = record { loc = r; by = pos 1 } ∷ [];
      first = pos 1;
      second = pos 0;
      third = pos 0;
    }

-- so much, and so much more in each pass
abbrev pub counted : ℕ → ℕ → LinearForm
counted more each = record { constant = pos more; terms = []; first = pos 0; second = pos each; third = pos 0 }

-- the forms at each word: of x5, x6, x7, x10, the counter, and what is kept
abbrev pub nest_forms : ℕ → ℕ → Option LinearForm
nest_forms u r =
    if r == 0 then None else if r == 5 then (if nat_lt u 0x1_0020 then Some (moving 5 (pos 1)) else Some (one_on 5))
    else if r == 6
    then (if u == 0x1_0014 then Some (counted 0 1) else if u == 0x1_0018 then Some (counted 1 1) else None)
    else if r == 7
    then (if nat_lt u 0x1_0004 then None else if nat_lt u 0x1_000C then Some (moving 32 (pos 1)) else Some (one_on 32))
    else if r == 10 then (if nat_lt u 0x1_0008 then None else Some (moving 33 (pos 0)))
    else if r == 32 then (if nat_lt u 0x1_0010 then Some (moving 32 (pos 1)) else Some (one_on 32))
    else if nat_lt r 34 then Some (moving r (pos 0)) else None
