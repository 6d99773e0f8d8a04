-- What a word leads to, alone and as the second of a pair.
use Rattle.std.proofs.Common.{◌≡◌, ℕ, ◌^◌, ◌<◌, ◌⊎◌, inl, inr, ◌==◌, Bool, true, false, if◌then◌else◌, List, [], ◌∷◌, Option, Some, None, Contains, refl, ap, sym, subst, ◌∙◌, arith}
use Rattle.std.proofs.lemmas.List.Elements.{All-contains, Contains-append_left}
use Rattle.std.proofs.lemmas.Bool.Decides.{nat_tests}
use Rattle.elf_image.specs.declared.image.Elf.{Elf}
use Rattle.rv64_decode.specs.Row.{next_pc}
use Rattle.rv64_decode.specs.declared.instr.Instr.{Instr}
use Rattle.rv64_decode.specs.declared.instr.Instr.TheVariants.{Jalr}
use Rattle.loop_data.specs.Code.{IsCode, word_at}
use Rattle.loop_data.specs.Targets.{before, asks_exit, instr_of, instr_at, targets_by, targets_of, targets_from, targets_at, pair_at, successors, nowhere, on_from, steps_to, call_from, each_once}
use Rattle.loop_data.specs.Reaching.{Reached, alone, paired}
use Rattle.flow_recovery.specs.Flows.{targets_in}
use Rattle.flow_recovery.specs.declared.flow.Flow.{Flow}
use Rattle.flow_recovery.specs.declared.flow.Flow.TheVariants.{Branch, Call}
use Rattle.flow_recovery.specs.Search.{AreReached}

-- what a reached word leads to is reached, where a pair counts only if its first word is reached
pub leads_alone : (elf : Elf) (a : ℕ) (pair : Option ℕ) → Reached elf a → pair ≡ None → (b : ℕ) → Contains (successors (targets_at elf pair a)) b → IsCode elf b → Reached elf b
leads_alone elf a pair r e b m code = alone a b r (subst (λ p. Contains (successors (targets_at elf p a)) b) e m) code

pub leads_paired : (elf : Elf) (a : ℕ) (pair : Option ℕ) → Reached elf a → Reached elf (before a) → pair_at elf a ≡ pair → (b : ℕ) → Contains (successors (targets_at elf pair a)) b → IsCode elf b → Reached elf b
leads_paired elf a None r first e b m code = alone a b r m code
leads_paired elf a (Some target) r first e b m code = paired a b target r first e m code

pub leads_found : (elf : Elf) (found : List ℕ) (a : ℕ) (pair : Option ℕ) → AreReached elf found → Contains found a
    → (Contains found (before a) × (pair ≡ pair_at elf a)) ⊎ ((¬ Contains found (before a)) × (pair ≡ None))
    → (b : ℕ) → Contains (successors (targets_at elf pair a)) b → IsCode elf b → Reached elf b
leads_found elf found a pair are m cases b s code =
    let r : Reached elf a = All-contains (Reached elf) found a are.each m in
    elim cases [
      | inl h ↦ leads_paired elf a pair r (All-contains (Reached elf) found (before a) are.each h.0) (sym h.1) b s code
      | inr h ↦ leads_alone elf a pair r h.1 b s code
    ]

pub before_next : (a : ℕ) → a < 2 ^ 64 → before (next_pc a) ≡ a
before_next a h = omega arith

-- the same of the word behind a reached word
pub leads_behind : (elf : Elf) (found : List ℕ) (at second : ℕ) (pair : Option ℕ) → AreReached elf found → Contains found at → Contains found second
    → at < 2 ^ 64 → second ≡ next_pc at → pair ≡ pair_at elf second
    → (b : ℕ) → Contains (successors (targets_at elf pair second)) b → IsCode elf b → Reached elf b
leads_behind elf found at second pair are m n fits s p =
    let first : before second ≡ at = ap before s ∙ before_next at fits in
    leads_paired elf second pair (All-contains (Reached elf) found second are.each n)
    (subst (Reached elf) (sym first) (All-contains (Reached elf) found at are.each m)) (sym p)

-- what a word leads to alone it also leads to as the second of a pair
wider_by : (i : Instr) (at : ℕ) (ends : Bool) (pair : Option ℕ) (b : ℕ) → Contains (successors (targets_by i at ends None)) b → Contains (successors (targets_by i at ends pair)) b
wider_by (Jalr rd rs1 imm) at ends None b m = m
wider_by (Jalr rd rs1 imm) at ends (Some target) b m = by (rd == 0) m
  where
    by : (t : Bool) → Contains (successors (if t then nowhere else on_from at)) b → Contains (successors (if t then steps_to (target ∷ []) else call_from at target)) b
    by true h = absurd (let l = h.1 in omega arith)
    by false h = Contains-append_left (next_pc at ∷ []) (target ∷ []) b h
wider_by _ at ends pair b m = m

wider_of : (i : Option Instr) (w at : ℕ) (ends : Bool) (pair : Option ℕ) (b : ℕ) → Contains (successors (targets_of i w at ends None)) b → Contains (successors (targets_of i w at ends pair)) b
wider_of None w at ends pair b m = m
wider_of (Some i) w at ends pair b m = wider_by i at ends pair b m

wider_from : (o : Option ℕ) (at : ℕ) (ends : Bool) (pair : Option ℕ) (b : ℕ) → Contains (successors (targets_from o at ends None)) b → Contains (successors (targets_from o at ends pair)) b
wider_from None at ends pair b m = m
wider_from (Some w) at ends pair b m = wider_of (instr_of w) w at ends pair b m

pub wider : (elf : Elf) (a : ℕ) (pair : Option ℕ) (b : ℕ) → Contains (successors (targets_at elf None a)) b → Contains (successors (targets_at elf pair a)) b
unfolding targets_at
wider elf a pair b m = wider_from (word_at elf a) a (asks_exit (instr_at elf (before a))) pair b m

-- a branch and a call lead to their target
among_each : (a b : ℕ) → Contains (successors (steps_to (each_once a b))) b
among_each a b = go (a == b) refl
  where
    go : (t : Bool) → (a == b) ≡ t → Contains (successors (steps_to (if t then a ∷ [] else a ∷ b ∷ []))) b
    go true e = let q : a ≡ b = grind (arith, nat_tests) in (0, omega arith, q)
    go false e = (1, omega arith, refl)

pub leads_to_target : (at target : ℕ) (flow : Flow) → (flow ≡ Branch target) ⊎ (flow ≡ Call target) → Contains (successors (targets_in at flow)) target
leads_to_target at target flow (inl e) = subst (λ (f : Flow). Contains (successors (targets_in at f)) target) (sym e) (among_each (next_pc at) target)
leads_to_target at target flow (inr e) = subst (λ (f : Flow). Contains (successors (targets_in at f)) target) (sym e) (1, omega arith, refl)
