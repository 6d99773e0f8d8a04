-- The words of a command.
use Rattle.std.specs.Prelude.{ℕ, ◌^◌, ◌-◌, ◌≤◌, ◌==◌, ◌&&◌, nat_le, not, Bool, false, if◌then◌else◌, List, [], ◌∷◌, Option, Some}
use Rattle.std.specs.Prelude.{None, codes}
use Rattle.std.specs.Option.{option_map}
use Rattle.std.specs.Str.{all_ascii_digits, bytes_eq}
use Rattle.std.specs.Str.Parse.{digits_value}
use Rattle.sample_maker.specs.declared.Kind.{Kind}
use Rattle.sample_maker.specs.declared.Kind.TheVariants.{Vadd, Stencil, Bytemap}

-- a command that is well formed
pub data Command : Type 0 where
  -- run the executable of this name for at most so many instructions, and save the memory at its
  -- ending under a name where one is given
  Run : (file : List ℕ) (fuel : ℕ) (dump : Option (List ℕ)) → Command
  -- rewrite the executable of the first name, and save its image under the second
  Rewrite : (file new : List ℕ) → Command
  -- list the loops of the executable of this name
  Loops : (file : List ℕ) → Command
  -- make the sample of this kind and size, and save it under a name
  Make : (kind : Kind) (size : ℕ) (new : List ℕ) → Command

-- ---- numbers

-- decimal digits, of which the first is not 0
abbrev pub is_number : List ℕ → Bool
is_number [] = false
is_number (first ∷ others) = not (first == 48) && all_ascii_digits (first ∷ others)

-- the number that a word is, if it is one and not above a limit
abbrev pub number_up_to : ℕ → List ℕ → Option ℕ
number_up_to limit word =
    if is_number word && nat_le (digits_value 10 word) limit then Some (digits_value 10 word) else None

-- ---- commands

-- as many instructions as a run may be given, and has where none are named
abbrev pub most_fuel : ℕ
most_fuel = 2 ^ 40

-- the words before and behind the file are those of a run by one hart
abbrev pub is_run_by_one : List ℕ → List ℕ → Bool
is_run_by_one verb harts = bytes_eq verb (codes "run") && bytes_eq harts (codes "1")

-- a run for at most as many instructions as a word says
abbrev pub run_for : List ℕ → List ℕ → Option (List ℕ) → Option Command
run_for file fuel dump = option_map (λ n. Run file n dump) (number_up_to most_fuel fuel)

-- the largest size that the words of a sample may have
abbrev pub most_size : ℕ
most_size = 2 ^ 63 - 1

-- the kind of sample that a word is
abbrev pub kind_of : List ℕ → Option Kind
kind_of word =
    if bytes_eq word (codes "vadd") then Some Vadd
    else if bytes_eq word (codes "stencil") then Some Stencil
    else if bytes_eq word (codes "bytemap") then Some Bytemap
    else None

-- a sample of a kind and size, where there are such
abbrev pub make_of : Option Kind → Option ℕ → List ℕ → Option Command
make_of (Some kind) (Some size) new = Some (Make kind size new)
make_of _ _ new = None

-- the command that the words are; every other list of words is none
abbrev pub command_of : List (List ℕ) → Option Command
command_of (verb ∷ file ∷ []) = if bytes_eq verb (codes "list") then Some (Loops file) else None
command_of (verb ∷ file ∷ third ∷ []) =
    if is_run_by_one verb third then Some (Run file most_fuel None)
    else if bytes_eq verb (codes "rewrite") then Some (Rewrite file third)
    else None
command_of (verb ∷ first ∷ second ∷ third ∷ []) =
    if bytes_eq verb (codes "make") then make_of (kind_of first) (number_up_to most_size second) third
    else if is_run_by_one verb second then run_for first third None
    else None
command_of (verb ∷ file ∷ harts ∷ fuel ∷ dump ∷ []) =
    if is_run_by_one verb harts then run_for file fuel (Some dump) else None
command_of _ = None

-- a sample that is to be made has a size of at least 1
abbrev pub HasSize : Option Command → Type 0
HasSize (Some (Make kind size new)) = 1 ≤ size
HasSize _ = Unit {0}
