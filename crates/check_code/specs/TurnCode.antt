-- The words that tell how many turns a loop has. How often its exit branch stays is worked out in x5; where the trip
-- tells no number, the open target follows. Of the root the number of the last turn, one less, goes into slot 23. An
-- inner loop is passed once more than its branch stays, so that the number of the last pass, which goes into the loop's
-- slot, is how often it stays.
use Rattle.std.specs.Prelude.{ℕ, ◌*◌, Bool, true, false, List, [], ◌∷◌, ◌++◌, ℤ, pos, negsuc}
use Rattle.std.specs.Int.RustNames.{unsigned_abs}
use Rattle.rv64_decode.specs.declared.instr.AluOp.TheVariants.{Add, Sub, Mul, Div, Divu, Rem}
use Rattle.rv64_decode.specs.declared.instr.ImmOp.TheVariants.{Addi, Slli, Srli}
use Rattle.rv64_decode.specs.declared.instr.BranchOp.TheVariants.{Beq, Bge}
use Rattle.rv64_decode.specs.declared.instr.Instr.TheVariants.{Alu, AluImm, Branch}
use Rattle.rv64_decode.specs.declared.xinstr.XInstr.{XInstr}
use Rattle.rv64_decode.specs.declared.xinstr.XInstr.TheVariants.{Base, Put}
use Rattle.linear_forms.specs.Forms.{LinearForm}
use Rattle.loop_data.specs.declared.trips.Relation.{Relation}
use Rattle.loop_data.specs.declared.trips.Relation.TheVariants.{Differ}
use Rattle.loop_data.specs.declared.trips.Trip.{Trip}
use Rattle.check_numbers.specs.TripWords.{is_strict, is_up, branch_of, swapped, side, less_one}
use Rattle.check_code.specs.Macros.{load_upper, add_lower, number_code, form_code, need_code}

-- how often a step leads a difference to 0, where it leads there at all
abbrev pub difference_code : LinearForm → ℤ → List XInstr
difference_code f step =
    form_code 5 f ++ (number_code 6 step ++ (Base (Alu Sub 5 0 5) ∷ Base (Alu Rem 7 5 6)
    ∷ (need_code Beq 7 0 ++ (Base (Alu Div 5 5 6) ∷ need_code Bge 5 0))))

-- how far the bound in x6 is ahead of the start in x5, where the step leads up or down
abbrev pub gap_code : Bool → XInstr
gap_code true = Base (Alu Sub 7 6 5)
gap_code false = Base (Alu Sub 7 5 6)

-- and how far a word that stays may be ahead
abbrev pub less_code : Bool → XInstr
less_code strict = Base (AluImm Addi 7 7 (less_one strict))

-- where the steps that x28 has lead from the start
abbrev pub end_code : Bool → XInstr
end_code true = Base (Alu Add 28 5 28)
end_code false = Base (Alu Sub 28 5 28)

-- how often a turn stays by steps of this size, in x7, and the value then, in x28
abbrev pub count_code : Bool → Bool → ℕ → List XInstr
count_code strict up size =
    gap_code up ∷ less_code strict ∷ load_upper 28 (pos size) ∷ add_lower 28 (pos size)
    ∷ Base (Alu Divu 7 7 28) ∷ Base (AluImm Addi 7 7 (pos 1)) ∷ Base (Alu Mul 28 7 28) ∷ end_code up ∷ []

-- the same, where the relation has ended with that value
abbrev pub counted_code : Bool → Bool → Bool → ℕ → List XInstr
counted_code signed strict up size =
    count_code strict up size
    ++ need_code (branch_of signed strict) (side (swapped strict up) 28 6) (side (swapped strict up) 6 28)

-- over these ten words, where the relation does not hold at the start
abbrev pub skip_code : Bool → Bool → Bool → XInstr
skip_code signed strict up =
    Base (Branch (branch_of signed strict) (side (swapped strict up) 5 6) (side (swapped strict up) 6 5) (pos (4 * 11)))

-- how often an order of two words holds: never, or as often as is counted
abbrev pub order_code : Bool → Bool → Bool → LinearForm → LinearForm → ℕ → List XInstr
order_code signed strict up start bound size =
    form_code 5 start ++ (form_code 6 bound ++ (Base (AluImm Addi 7 0 (pos 0))
    ∷ skip_code signed strict up ∷ (counted_code signed strict up size ++ (Base (AluImm Addi 5 7 (pos 0)) ∷ []))))

abbrev pub trip_by : Relation → Bool → LinearForm → LinearForm → ℤ → List XInstr
trip_by Differ signed start bound step = difference_code start step
trip_by relation signed start bound step =
    order_code signed (is_strict relation) (is_up relation) start bound (unsigned_abs step)

-- how often the exit branch of a loop stays
abbrev pub trip_code : Trip → List XInstr
trip_code t = trip_by t.relation t.signed t.start t.bound t.step

-- from 16 to 2 ^ 31 turns, and the number of the last
abbrev pub last_turn_code : List XInstr
last_turn_code =
    Base (AluImm Addi 6 0 (pos 16)) ∷ (need_code Bge 5 6
    ++ (Base (AluImm Addi 6 0 (pos 1)) ∷ Base (AluImm Slli 6 6 (pos 31)) ∷ (need_code Bge 6 5
    ++ (Base (AluImm Addi 5 5 (negsuc 0)) ∷ Put 23 5 ∷ []))))

-- less than 2 ^ 31 stays, as many as the number of the last pass
abbrev pub last_pass_code : ℕ → List XInstr
last_pass_code slot = Base (AluImm Srli 6 5 (pos 31)) ∷ (need_code Beq 6 0 ++ (Put slot 5 ∷ []))

-- the turns of the root
abbrev pub root_code : Trip → List XInstr
root_code t = trip_code t ++ last_turn_code

-- the passes of an inner loop, whose slot this is
abbrev pub inner_code : ℕ → Trip → List XInstr
inner_code slot t = trip_code t ++ last_pass_code slot
