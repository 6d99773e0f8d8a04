-- The check of a plan can be asked.
use Rattle.std.proofs.Common.{◌≡◌, ℕ, ◌<◌, ◌≤◌, length, get_or, List, Option, Some, None, refl, sym, subst}
use Rattle.std.specs.List.{All, Contains}
use Rattle.std.proofs.lemmas.List.{get_or_default}
use Rattle.elf_image.specs.declared.image.Elf.{Elf}
use Rattle.elf_image.specs.Layout.{IsLoadable}
use Rattle.guest_memory.specs.Areas.{areas_of}
use Rattle.loop_data.specs.declared.graph.Graph.{Graph}
use Rattle.loop_data.specs.declared.plans.Plan.{Plan}
use Rattle.loop_data.specs.declared.shape.LoopShape.{LoopShape}
use Rattle.loop_data.specs.declared.verdict.Cell.{Cell}
use Rattle.loop_data.specs.LoopWords.{AreNest}
use Rattle.loop_data.specs.Nests.{nest_of}
use Rattle.stack_slots.specs.CellLaws.{HasOffset, BasesLaw, OffsetsLaw}
use Rattle.alias_checks.specs.declared.lists.Check.{Check}
use Rattle.alias_checks.specs.Areas.{Bounds, AreBoundsOf}
use Rattle.alias_checks.specs.BoundsLaws.{StartLaw}
use Rattle.alias_checks.specs.CellTests.{HasRegister}
use Rattle.loop_choice.specs.Asking.{CanBeAsked, AskingLaw}
use Rattle.loop_choice.specs.Judging.{IsPlanOf}

-- what holds of each member holds of all
all_members : {X : Type 0} (P : X → Type 0) (xs : List X) → ((x : X) → Contains xs x → P x) → All P xs
all_members P xs each k d l = each (get_or xs k d) (k, l, sym (get_or_default xs k d (get_or xs k d) l))

has_register : (base : Option ℕ) → ((q : ℕ) → base ≡ Some q → q < 32) → HasRegister base
has_register None low = tt
has_register (Some q) low = low q refl

pub can_be_asked : BasesLaw → OffsetsLaw → StartLaw → AskingLaw
can_be_asked bases offsets start elf G shape plan check load nest p =
    let cells = p.found.confirmed.solved.sound.cells in
    record {
      registers = subst (All (λ (c : Cell). HasRegister c.base)) (sym p.cells.list)
          (all_members (λ (c : Cell). HasRegister c.base) plan.cells.list.items
          (λ c h. has_register c.base (λ q e. (bases G shape.levels plan.cells (nest_of G nest.root nest.inner) nest cells
          (record { root = nest.root; inner = nest.inner; are = nest.are; is = refl }) c h q e).1)));
      offsets = subst (All (λ (c : Cell). HasOffset c.base c.offset)) (sym p.cells.list)
          (all_members (λ (c : Cell). HasOffset c.base c.offset) plan.cells.list.items
          (λ c h. offsets G shape.levels plan.cells nest cells c h));
      pairs = p.pairs;
      areas = subst (λ (bs : List Bounds). AreBoundsOf bs (areas_of elf)) (sym p.areas) (start elf load);
    }
