-- In the graph of an executable each word is reached by step edges from a start word.
use Rattle.std.proofs.Common.{◌≡◌, ℕ, ◌⊎◌, inl, inr, List, [], ◌∷◌, ◌++◌, Bool, true, false, Option, Some, None, refl, ap, sym, subst, if◌then◌else◌, ◌==◌}
use Rattle.std.specs.List.{Contains}
use Rattle.rv64_decode.specs.declared.instr.Instr.{Instr}
use Rattle.rv64_decode.specs.declared.instr.Instr.TheVariants.{Alu, AluImm, Upper, Load, Store, Branch, Jal, Jalr, Fence, Ecall, Ebreak}
use Rattle.elf_image.specs.declared.image.Elf.{Elf}
use Rattle.loop_data.specs.declared.graph.Word.{Word}
use Rattle.loop_data.specs.declared.graph.Graph.{Graph}
use Rattle.loop_data.specs.Code.{word_at}
use Rattle.loop_data.specs.Targets.{Targets, nowhere, steps_to, on_from, call_from, targets_by, targets_of, targets_from, targets_at, instr_of, pair_at, successors, called}
use Rattle.loop_data.specs.Reaching.{Reached, entry, alone, paired, HasTargets}
use Rattle.loop_data.specs.Paths.{addresses, addresses_of, Leads}
use Rattle.loop_data.specs.Starts.{FromStart, AreFromStarts}
use Rattle.loop_data.specs.Graphs.{IsWordOf, IsGraph}
use Rattle.loop_data.proofs.Lists.{In, to_in, from_in}
use Rattle.loop_data.proofs.Ways.{stop, further}
use Rattle.loop_data.proofs.Steps.{Within, at_within}

-- the word at an address
pub word_of_address : (ws : List Word) (a : ℕ) → In (addresses_of ws) a → (w : Word) × Within ws w × (w.at ≡ a)
word_of_address [] a i = absurd i
word_of_address (w ∷ ws) a (inl e) = (w, inl refl, e)
word_of_address (w ∷ ws) a (inr i) = let r = word_of_address ws a i in (r.0, inr r.1, r.2)

pub at_in : (ws : List Word) (w : Word) → Within ws w → In (addresses_of ws) w.at
at_in [] w i = absurd i
at_in (x ∷ xs) w (inl e) = inl (ap (λ (z : Word). z.at) e)
at_in (x ∷ xs) w (inr i) = inr (at_in xs w i)

in_either : (xs ys : List ℕ) (b : ℕ) → In (xs ++ ys) b → In xs b ⊎ In ys b
in_either [] ys b i = inr i
in_either (x ∷ xs) ys b (inl e) = inl (inl e)
in_either (x ∷ xs) ys b (inr i) = up (in_either xs ys b i)
  where
    up : In xs b ⊎ In ys b → In (x ∷ xs) b ⊎ In ys b
    up (inl j) = inl (inr j)
    up (inr j) = inr j

-- a successor is that of a step edge or of a call
split : (t : Targets) (b : ℕ) → In (successors t) b → In t.steps b ⊎ (t.call ≡ Some b)
split t b i = go (in_either t.steps (called t.call) b i)
  where
    of_call : (o : Option ℕ) → In (called o) b → o ≡ Some b
    of_call None j = absurd j
    of_call (Some c) (inl e) = ap Some e
    of_call (Some c) (inr j) = absurd j

    go : In t.steps b ⊎ In (called t.call) b → In t.steps b ⊎ (t.call ≡ Some b)
    go (inl j) = inl j
    go (inr j) = inr (of_call t.call j)

-- a known pair only adds successors
more_by : (i : Instr) (at : ℕ) (ends : Bool) (q : Option ℕ) (b : ℕ) → In (successors (targets_by i at ends None)) b → In (successors (targets_by i at ends q)) b
more_by (Jalr rd rs1 imm) at ends None b i = i
more_by (Jalr rd rs1 imm) at ends (Some t) b i = go (rd == 0) i
  where
    go : (c : Bool) → In (successors (if c then nowhere else on_from at)) b → In (successors (if c then steps_to (t ∷ []) else call_from at t)) b
    go true i = absurd i
    go false (inl e) = inl e
    go false (inr j) = absurd j
more_by (Branch op rs1 rs2 imm) at ends q b i = i
more_by (Jal rd imm) at ends q b i = i
more_by Ecall at ends q b i = i
more_by Ebreak at ends q b i = i
more_by (Alu op rd rs1 rs2) at ends q b i = i
more_by (AluImm op rd rs1 imm) at ends q b i = i
more_by (Upper op rd imm) at ends q b i = i
more_by (Load op rd rs1 imm) at ends q b i = i
more_by (Store op rs1 rs2 imm) at ends q b i = i
more_by (Fence rd rs1 imm) at ends q b i = i

more_of : (o : Option Instr) (w at : ℕ) (ends : Bool) (q : Option ℕ) (b : ℕ) → In (successors (targets_of o w at ends None)) b → In (successors (targets_of o w at ends q)) b
more_of None w at ends q b i = i
more_of (Some j) w at ends q b i = more_by j at ends q b i

more_from : (o : Option ℕ) (at : ℕ) (ends : Bool) (q : Option ℕ) (b : ℕ) → In (successors (targets_from o at ends None)) b → In (successors (targets_from o at ends q)) b
more_from None at ends q b i = i
more_from (Some w) at ends q b i = more_of (instr_of w) w at ends q b i

more_at : (elf : Elf) (at : ℕ) (q : Option ℕ) (b : ℕ) → In (successors (targets_at elf None at)) b → In (successors (targets_at elf q at)) b
unfolding targets_at
more_at elf at q b i = more_from (word_at elf at) at _ q b i

module _ (elf : Elf) (G : Graph) (g : IsGraph elf G) where
  -- the word at a reached address, with its targets
  reached_word : (a : ℕ) → Reached elf a → (w : Word) × Within G.words w × (w.at ≡ a)
  reached_word a r = word_of_address G.words a (to_in (addresses G) a ((g.reached a).1 r))

  pub word_is : (w : Word) → Within G.words w → IsWordOf elf w
  word_is w i = let c = at_within G.words w i in subst (IsWordOf elf) c.2 (g.words c.0 w c.1)

  -- along a successor of a reached word
  along : (a b : ℕ) → Reached elf a → FromStart G a → ((t : Targets) → HasTargets elf a t → In (successors t) b) → FromStart G b
  along a b r s i =
      let w = reached_word a r in
      by w.0 w.1 w.2
    where
      by : (w : Word) → Within G.words w → w.at ≡ a → FromStart G b
      by w j e = go (split x.targets b (i x.targets leads))
        where
          x : IsWordOf elf w
          x = word_is w j

          leads : HasTargets elf a x.targets
          leads = subst (λ z. HasTargets elf z x.targets) e x.leads

          go : In x.targets.steps b ⊎ (x.targets.call ≡ Some b) → FromStart G b
          go (inl k) =
              record {
                start = s.start;
                starts = s.starts;
                reaches = further s.start a b s.reaches (record { word = w; among = at_within G.words w j; at = e; step = subst (λ (xs : List ℕ). Contains xs b) (sym x.steps) (from_in x.targets.steps b k) }) tt tt;
              }
          go (inr k) = record { start = b; starts = (g.starts b).1 (inr (a, record { reached = r; targets = x.targets; leads = leads; calls = k })); reaches = stop (Leads G) (λ _. Unit {0}) b tt }

  from_start : (a : ℕ) → Reached elf a → FromStart G a
  from_start _ (entry c) = record { start = elf.entry; starts = (g.starts elf.entry).1 (inl refl); reaches = stop (Leads G) (λ _. Unit {0}) elf.entry tt }
  from_start _ (alone a b r i c) = along a b r (from_start a r) (λ t h. by t h)
    where
      by : (t : Targets) → HasTargets elf a t → In (successors t) b
      by t (inl h) = subst (λ z. In (successors z) b) (sym h.1) (more_at elf a (pair_at elf a) b (to_in (successors (targets_at elf None a)) b i))
      by t (inr h) = subst (λ z. In (successors z) b) (sym h.1) (to_in (successors (targets_at elf None a)) b i)
  from_start _ (paired a b c r rb e i code) = along a b r (from_start a r) (λ t h. by t h)
    where
      by : (t : Targets) → HasTargets elf a t → In (successors t) b
      by t (inl h) = subst (λ z. In (successors z) b) (sym h.1) (subst (λ q. In (successors (targets_at elf q a)) b) (sym e) (to_in (successors (targets_at elf (Some c) a)) b i))
      by t (inr h) = absurd (h.0 rb)

  -- each word is reached by step edges from a start word
  pub from_starts : AreFromStarts G
  from_starts a c = from_start a ((g.reached a).0 c)
