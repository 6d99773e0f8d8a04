-- Checks of two sample loops, and states in which they hold or do not: the loop that adds arrays, and the nest with two
-- cells, which goes round 20 times here.
use Rattle.std.specs.Prelude.{ℕ, List, [], ◌∷◌, ℤ, pos, negsuc, Bool, true, false, Option, Some, None}
use Rattle.rv64_decode.specs.declared.memory.Width.TheVariants.{Eight}
use Rattle.linear_forms.specs.Forms.{EntryTerm, LinearForm, moving, pure}
use Rattle.loop_data.specs.declared.accesses.Access.{Access}
use Rattle.loop_data.specs.declared.plans.Term.{Term}
use Rattle.loop_data.specs.declared.plans.Term.TheVariants.{Same}
use Rattle.loop_data.specs.declared.trips.Relation.TheVariants.{Differ}
use Rattle.loop_data.specs.declared.trips.Trip.{Trip}
use Rattle.alias_checks.specs.declared.lists.Check.{Check}
use Rattle.alias_checks.specs.declared.lists.Turns.{Turns}
use Rattle.loop_samples.specs.Samples.{series}
use Rattle.loop_samples.specs.NestLoop.{counter, number}

-- so many turns, with so many passes of the first inner loop in each
abbrev pub told : ℕ → ℕ → Option Turns
told p q = Some (record { root = p; inner = q ∷ 1 ∷ 1 ∷ [] })

-- a number that is to be 0, with these steps
abbrev pub from : ℕ → List EntryTerm → ℕ → ℕ → LinearForm
from constant terms first second =
    record { constant = pos constant; terms = terms; first = pos first; second = pos second; third = pos 0 }

-- a loop stays while that number is not 0
abbrev pub until_zero : LinearForm → ℕ → Trip
until_zero f step = record { relation = Differ; signed = true; start = f; bound = pure (pos 0); step = pos step }

abbrev pub once : ℕ → EntryTerm
once r = record { loc = r; by = pos 1 }

abbrev pub less : ℕ → EntryTerm
less r = record { loc = r; by = negsuc 0 }

-- a word of a loop without inner loops accesses 8 bytes at a register, which moves on by 8
abbrev pub access_of : ℕ → ℕ → Bool → Access
access_of at r store =
    record { at = at; level = 0; around = 0 ∷ 0 ∷ 0 ∷ []; form = moving r (pos 8); width = Eight; store = store }

-- what two of these have in common, the difference of their addresses apart
abbrev pub stepping : Option ℤ → Term
stepping known = Same 8 (0 ∷ 0 ∷ 0 ∷ []) 0 8 8 known

-- the loop that adds arrays: two loads and a store, and x11 goes on to x13
abbrev pub add_check : Check
add_check =
    record {
      cells = record { list = record { items = [] }; uses = record { items = [] }; fault = None };
      trips = until_zero (from 8 (once 11 ∷ less 13 ∷ []) 8 0) 8 ∷ [];
      duties = [];
      accesses = record {
        list = record {
          items = access_of 0x1_00F0 11 false ∷ access_of 0x1_00F4 12 false ∷ access_of 0x1_00FC 10 true ∷ [];
        };
      };
      pairs = (0, 2, stepping None) ∷ (1, 2, stepping None) ∷ (2, 2, stepping (Some (pos 0))) ∷ [];
      areas = [];
    }

-- the registers of the state that adds arrays, with the sums stored at this address
abbrev pub summing_at : ℕ → List ℕ
summing_at sums =
    0 ∷ 0 ∷ 0x7F7F_FFC0 ∷ 0 ∷ 0 ∷ 20 ∷ 38 ∷ 0 ∷ 0 ∷ 160 ∷ sums ∷ 0x2_0000 ∷ 0x2_00A0 ∷ 0x2_00A0 ∷ series 18 0 0

-- the nest with two cells, of which one is stored: x5 goes on to x9, and x6 from 0 to x8
abbrev pub nest_check : Check
nest_check =
    record {
      cells = record {
        list = record { items = counter ∷ number ∷ [] };
        uses = record { items = (0x1_0000, 0) ∷ (0x1_0004, 1) ∷ (0x1_000C, 0) ∷ [] };
        fault = None;
      };
      trips =
          until_zero (from 1 (once 5 ∷ less 9 ∷ []) 1 0) 1 ∷ until_zero (from 1 (less 8 ∷ []) 0 1) 1 ∷ [];
      duties = [];
      accesses = record { list = record { items = [] } };
      pairs = [];
      areas = [];
    }

-- its registers, with the cells from this address on and so many turns
abbrev pub counting_at : ℕ → ℕ → List ℕ
counting_at cells turns = 0 ∷ 0 ∷ cells ∷ 0 ∷ 0 ∷ 0 ∷ 0 ∷ 0 ∷ 3 ∷ turns ∷ series 22 0 0
