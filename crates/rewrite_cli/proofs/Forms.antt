-- Lists of words by their length, and the size of a sample among them.
use Rattle.std.proofs.Common.{◌≡◌, ◌<◌, ◌≤◌, ℕ, List, [], ◌∷◌, length, map, Option, Some, None, Bool, true, false, refl}
use Rattle.std.proofs.Common.{arith}
use Rattle.std.specs.Prelude.{nat_le, ◌&&◌, if◌then◌else◌, codes}
use Rattle.std.specs.Option.{option_map}
use Rattle.std.specs.Str.{bytes_eq}
use Rattle.std.specs.Str.Parse.{digits_value}
use Rattle.sample_maker.specs.declared.Kind.{Kind}
use Rattle.rewrite_cli.specs.Words.{is_number, number_up_to, is_run_by_one, kind_of, make_of, most_size}
use Rattle.rewrite_cli.specs.Words.{most_fuel, Command, Run, HasSize, command_of}
use Rattle.rewrite_cli.proofs.Numbers.{at_least_one}

-- ---- no command by their length

pub one_word : {A : Type 0} (f : A → List ℕ) (words : List A) → 1 ≤ length words → length words < 2
    → None ≡ command_of (map f words)
one_word f [] more few = absurd (omega arith)
one_word f (a ∷ []) more few = refl
one_word f (a ∷ b ∷ rest) more few = absurd (omega arith)

pub many_words : {A : Type 0} (f : A → List ℕ) (words : List A) → 6 ≤ length words → None ≡ command_of (map f words)
many_words f [] more = absurd (omega arith)
many_words f (a ∷ []) more = absurd (omega arith)
many_words f (a ∷ b ∷ []) more = absurd (omega arith)
many_words f (a ∷ b ∷ c ∷ []) more = absurd (omega arith)
many_words f (a ∷ b ∷ c ∷ d ∷ []) more = absurd (omega arith)
many_words f (a ∷ b ∷ c ∷ d ∷ e ∷ []) more = absurd (omega arith)
many_words f (a ∷ b ∷ c ∷ d ∷ e ∷ g ∷ rest) more = refl

-- ---- the size of a sample is at least 1

sized_if : (test : Bool) (one other : Option Command) → HasSize one → HasSize other
    → HasSize (if test then one else other)
sized_if true one other h k = h
sized_if false one other h k = k

sized_run : (file : List ℕ) (fuel : Option ℕ) (dump : Option (List ℕ))
    → HasSize (option_map (λ n. Run file n dump) fuel)
sized_run file None dump = tt
sized_run file (Some n) dump = tt

sized_make : (kind : Option Kind) (number within : Bool) (size : ℕ) (new : List ℕ) → (number ≡ true → 1 ≤ size)
    → HasSize (make_of kind (if number && within then Some size else None) new)
sized_make None number within size new h = tt
sized_make (Some kind) true true size new h = h refl
sized_make (Some kind) true false size new h = tt
sized_make (Some kind) false within size new h = tt

pub sized : (words : List (List ℕ)) → HasSize (command_of words)
sized [] = tt
sized (verb ∷ []) = tt
sized (verb ∷ file ∷ []) = sized_if (bytes_eq verb (codes "list")) _ _ tt tt
sized (verb ∷ file ∷ third ∷ []) =
    sized_if (is_run_by_one verb third) _ _ tt (sized_if (bytes_eq verb (codes "rewrite")) _ _ tt tt)
sized (verb ∷ first ∷ second ∷ third ∷ []) =
    sized_if (bytes_eq verb (codes "make")) _ _
    (sized_make (kind_of first) (is_number second) (nat_le (digits_value 10 second) most_size)
    (digits_value 10 second) third (at_least_one second))
    (sized_if (is_run_by_one verb second) _ _ (sized_run first (number_up_to most_fuel third) None) tt)
sized (verb ∷ file ∷ harts ∷ fuel ∷ dump ∷ []) =
    sized_if (is_run_by_one verb harts) _ _ (sized_run file (number_up_to most_fuel fuel) (Some dump)) tt
sized (a ∷ b ∷ c ∷ d ∷ e ∷ f ∷ rest) = tt
