-- Small cases of the tests, worked out by hand: a counter in x10 and a bound in x11, areas of a few bytes, and the
-- loop of vadd that adds two arrays.
use Rattle.std.specs.Prelude.{ℕ, Bool, true, false, List, [], ◌∷◌, ◌++◌, ℤ, pos, negsuc, Option, Some, None, replicate}
use Rattle.rv64_decode.specs.Area.{Area}
use Rattle.rv64_decode.specs.declared.memory.Width.TheVariants.{Eight}
use Rattle.linear_forms.specs.Forms.{moving, pure, integers}
use Rattle.loop_data.specs.declared.accesses.Access.{Access}
use Rattle.loop_data.specs.declared.equations.Duty.{Duty}
use Rattle.loop_data.specs.declared.plans.Term.{Term}
use Rattle.loop_data.specs.declared.plans.Term.TheVariants.{Same}
use Rattle.loop_data.specs.declared.trips.Relation.TheVariants.{Differ, Less}
use Rattle.loop_data.specs.declared.trips.Trip.{Trip}
use Rattle.loop_data.specs.declared.verdict.Cell.{Cell}
use Rattle.alias_checks.specs.declared.areas.Permission.{Permission}
use Rattle.alias_checks.specs.declared.lists.Check.{Check}
use Rattle.alias_checks.specs.declared.lists.Turns.{Turns}
use Rattle.alias_checks.specs.declared.lists.Place.{Place}
use Rattle.alias_checks.specs.Areas.{Range}

-- registers of which x10 to x13 have these values
abbrev pub four : ℕ → ℕ → ℕ → ℕ → List ℕ
four a b c d = replicate 10 0 ++ (a ∷ b ∷ c ∷ d ∷ replicate 18 0)

-- their values at the entry
abbrev pub entered : ℕ → ℕ → ℕ → ℤ
entered a b = integers (four a b 0 0)

-- x10 gains a step in each turn, and is below x11
abbrev pub below : ℤ → Trip
below step =
    record {
      relation = Less;
      signed = true;
      start = moving 10 step;
      bound = moving 11 (pos 0);
      step = step;
    }

-- so many turns of the root, and so many passes of the first inner loop
abbrev pub told : ℕ → ℕ → Option Turns
told p q = Some (record { root = p; inner = q ∷ 1 ∷ 1 ∷ [] })

-- an area of 16 bytes
abbrev pub sixteen : ℕ → Bool → Bool → Area
sixteen low readable writable =
    record {
      low = low;
      readable = readable;
      writable = writable;
      executable = false;
      bytes = replicate 16 0;
    }

-- one that may be read and written, and one behind it that may be read alone
abbrev pub two_areas : List Area
two_areas = sixteen 4096 true true ∷ sixteen 4112 true false ∷ []

abbrev pub range : ℕ → ℕ → Range
range low end = (pos low, pos end)

-- every range is in an area
abbrev pub everywhere : Permission → Range → Bool
everywhere permission r = true

-- a cell of 8 bytes at an offset from a register
abbrev pub cell : ℕ → ℤ → Bool → Cell
cell base offset stored = record { base = Some base; offset = offset; wide = true; stored = stored }

-- a duty of x10, which gains a step in each turn, up to a last turn
abbrev pub owing : ℤ → Duty
owing step = record { at = 65536; level = 0; around = 0 ∷ 0 ∷ 0 ∷ []; form = moving 10 step }

abbrev pub up_to_turn : ℕ → List ℕ
up_to_turn n = n ∷ 0 ∷ 0 ∷ 0 ∷ []

-- an access of 8 bytes at a register, which gains a step in each turn
abbrev pub access : ℕ → ℤ → Bool → Access
access r step store =
    record {
      at = 65536;
      level = 0;
      around = 0 ∷ 0 ∷ 0 ∷ [];
      form = moving r step;
      width = Eight;
      store = store;
    }

-- the term of two accesses of 8 bytes that step on by 8
abbrev pub stepping : Option ℤ → Term
stepping known = Same 8 (0 ∷ 0 ∷ 0 ∷ []) 0 8 8 known

-- a store of 8 bytes to one place in each turn, and its term with itself
abbrev pub still : Place
still = record { address = 4096; range = (pos 4096, pos 4104); store = true }

abbrev pub standing : Term
standing = Same 0 (0 ∷ 0 ∷ 0 ∷ []) 0 0 8 (Some (pos 0))

-- the loop of vadd: it loads at x11 and x12, stores at x10, and goes on until x11 is x13
abbrev pub vadd : Check
vadd =
    record {
      cells = record { list = record { items = [] }; uses = record { items = [] }; fault = None };
      trips =
          record {
            relation = Differ;
            signed = true;
            start = record {
              constant = pos 8;
              terms = record { loc = 11; by = pos 1 } ∷ record { loc = 13; by = negsuc 0 } ∷ [];
              first = pos 8;
              second = pos 0;
              third = pos 0;
            };
            bound = pure (pos 0);
            step = pos 8;
          }
          ∷ [];
      duties = [];
      accesses = record {
        list = record { items = access 11 (pos 8) false ∷ access 12 (pos 8) false ∷ access 10 (pos 8) true ∷ [] };
      };
      pairs =
          (0, 2, stepping None) ∷ (1, 2, stepping None) ∷ (2, 2, stepping (Some (pos 0))) ∷ [];
      areas = [];
    }

-- a nest: the root goes on while x10, which gains 1, is below x11, and the inner loop while x12 is below x13; it
-- stores 8 bytes in each pass, from 0x20000 on, and begins 80 bytes farther in each turn
abbrev pub rows : Check
rows =
    record {
      cells = record { list = record { items = [] }; uses = record { items = [] }; fault = None };
      trips =
          below (pos 1)
          ∷ record {
            relation = Less;
            signed = true;
            start = record {
              constant = pos 0;
              terms = record { loc = 12; by = pos 1 } ∷ [];
              first = pos 0;
              second = pos 1;
              third = pos 0;
            };
            bound = moving 13 (pos 0);
            step = pos 1;
          }
          ∷ [];
      duties = [];
      accesses = record {
        list = record {
          items =
              record {
                at = 65536;
                level = 1;
                around = 0 ∷ 1 ∷ 0 ∷ [];
                form = record { constant = pos 131072; terms = []; first = pos 80; second = pos 8; third = pos 0 };
                width = Eight;
                store = true;
              }
              ∷ [];
        };
      };
      pairs = (0, 0, Same 80 (8 ∷ 0 ∷ 0 ∷ []) 8 8 8 (Some (pos 0))) ∷ [];
      areas = [];
    }

-- memory of one area, from 0x20000 on, that may be read and written or read alone
abbrev pub room : ℕ → Bool → List Area
room n writable =
    record { low = 131072; readable = true; writable = writable; executable = false; bytes = replicate n 0 } ∷ []
