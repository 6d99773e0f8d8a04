-- What the words of a loop say, from the reached words of an executable and the verdicts that the shape decides.
use Rattle.std.proofs.Common.{◌≡◌, ◌≢◌, ℕ, ◌%◌, ◌⊎◌, inl, inr, List, [], ◌∷◌, Bool, true, false, Option, Some, None, refl, ap, sym, ◌∙◌, subst, arith, if◌then◌else◌, ◌==◌}
use Rattle.std.specs.Prelude.{IsTrue, is_some}
use Rattle.std.specs.List.{Contains}
use Rattle.std.proofs.lemmas.Bool.Decides.{nat_tests}
use Rattle.std.proofs.lemmas.Bool.{cases_eq}
use Rattle.rv64_decode.specs.Table.{decoded}
use Rattle.rv64_decode.specs.Row.{plus_offset, next_pc}
use Rattle.rv64_decode.specs.declared.instr.Instr.{Instr}
use Rattle.rv64_decode.specs.declared.instr.Instr.TheVariants.{Alu, AluImm, Upper, Load, Store, Branch, Jal, Jalr, Fence, Ecall, Ebreak}
use Rattle.elf_image.specs.declared.image.Elf.{Elf}
use Rattle.loop_data.specs.declared.graph.Word.{Word}
use Rattle.loop_data.specs.declared.graph.Graph.{Graph}
use Rattle.loop_data.specs.Code.{word_at, IsCode}
use Rattle.loop_data.specs.Targets.{Targets, steps_to, call_from, each_once, targets_by, targets_of, targets_from, targets_at, instr_of, pair_at}
use Rattle.loop_data.specs.Reaching.{Reached, entry, alone, paired, HasTargets}
use Rattle.loop_data.specs.Graphs.{IsWordOf, IsGraph}
use Rattle.loop_data.specs.Paths.{addresses, addresses_of, Leads, IsWay}
use Rattle.loop_data.specs.Bodies.{InPart, IsClosed, InBody}
use Rattle.loop_data.specs.Instructions.{Means, IsPaired}
use Rattle.loop_data.specs.Early.{IsPlain}
use Rattle.loop_data.specs.LoopWords.{next_words, IsPlainInstr, IsLoopWord}
use Rattle.loop_data.proofs.Lists.{In, to_in, from_in, Apart, apart_from_increasing}
use Rattle.loop_data.proofs.Steps.{Within, within_at}
use Rattle.loop_data.proofs.FromStarts.{at_in}
use Rattle.loop_shapes.proofs.Bridge.{word_in}
use Rattle.loop_shapes.proofs.BodyLaws.{body_law}

in_each : (a b v : ℕ) → In (each_once a b) v → (v ≡ a) ⊎ (v ≡ b)
in_each a b v = go (a == b)
  where
    go : (c : Bool) → In (if c then a ∷ [] else a ∷ b ∷ []) v → (v ≡ a) ⊎ (v ≡ b)
    go true (inl e) = inl (sym e)
    go true (inr i) = absurd i
    go false (inl e) = inl (sym e)
    go false (inr (inl e)) = inr (sym e)
    go false (inr (inr i)) = absurd i

each_in : (a b v : ℕ) → (v ≡ a) ⊎ (v ≡ b) → In (each_once a b) v
each_in a b v = go (a == b) refl
  where
    go : (c : Bool) → (a == b) ≡ c → (v ≡ a) ⊎ (v ≡ b) → In (if c then a ∷ [] else a ∷ b ∷ []) v
    go true e (inl p) = inl (sym p)
    go true e (inr p) = let q : a ≡ b = grind (arith, nat_tests) in inl (q ∙ sym p)
    go false e (inl p) = inl (sym p)
    go false e (inr p) = inr (inl (sym p))

jump_steps : (rd at t : ℕ) → rd ≡ 0 → (if rd == 0 then steps_to (t ∷ []) else call_from at t).steps ≡ t ∷ []
jump_steps rd at t e = let q : (rd == 0) ≡ true = grind (arith, nat_tests) in ap (λ b. (if b then steps_to (t ∷ []) else call_from at t).steps) q

steps_forth : (i : Instr) (at : ℕ) (ends : Bool) (q : Option ℕ) (v : ℕ) → IsPlainInstr i → In (targets_by i at ends q).steps v → In (next_words i at) v
steps_forth (Branch op rs1 rs2 imm) at ends q v d i = by (in_each (next_pc at) (plus_offset at imm) v i)
  where
    by : (v ≡ next_pc at) ⊎ (v ≡ plus_offset at imm) → In (next_pc at ∷ plus_offset at imm ∷ []) v
    by (inl e) = inl (sym e)
    by (inr e) = inr (inl (sym e))
steps_forth (Jal rd imm) at ends q v d i = subst (λ (xs : List ℕ). In xs v) (jump_steps rd at (plus_offset at imm) d) i
steps_forth (Jalr rd rs1 imm) at ends q v d i = absurd d
steps_forth Ecall at ends q v d i = absurd d
steps_forth Ebreak at ends q v d i = absurd d
steps_forth (Alu op rd rs1 rs2) at ends q v d i = i
steps_forth (AluImm op rd rs1 imm) at ends q v d i = i
steps_forth (Upper op rd imm) at ends q v d i = i
steps_forth (Load op rd rs1 imm) at ends q v d i = i
steps_forth (Store op rs1 rs2 imm) at ends q v d i = i
steps_forth (Fence rd rs1 imm) at ends q v d i = i

steps_back : (i : Instr) (at : ℕ) (ends : Bool) (q : Option ℕ) (v : ℕ) → IsPlainInstr i → In (next_words i at) v → In (targets_by i at ends q).steps v
steps_back (Branch op rs1 rs2 imm) at ends q v d (inl e) = each_in (next_pc at) (plus_offset at imm) v (inl (sym e))
steps_back (Branch op rs1 rs2 imm) at ends q v d (inr (inl e)) = each_in (next_pc at) (plus_offset at imm) v (inr (sym e))
steps_back (Branch op rs1 rs2 imm) at ends q v d (inr (inr i)) = absurd i
steps_back (Jal rd imm) at ends q v d i = subst (λ (xs : List ℕ). In xs v) (sym (jump_steps rd at (plus_offset at imm) d)) i
steps_back (Jalr rd rs1 imm) at ends q v d i = absurd d
steps_back Ecall at ends q v d i = absurd d
steps_back Ebreak at ends q v d i = absurd d
steps_back (Alu op rd rs1 rs2) at ends q v d i = i
steps_back (AluImm op rd rs1 imm) at ends q v d i = i
steps_back (Upper op rd imm) at ends q v d i = i
steps_back (Load op rd rs1 imm) at ends q v d i = i
steps_back (Store op rs1 rs2 imm) at ends q v d i = i
steps_back (Fence rd rs1 imm) at ends q v d i = i

-- the targets of a word that stands for an instruction
record TargetsOf (i : Instr) (at : ℕ) (t : Targets) : Type 0 where
  pub ends : Bool
  pub pair : Option ℕ
  pub is : t ≡ targets_by i at ends pair

targets_of_word : (o : Option ℕ) (bits at : ℕ) (i : Instr) (ends : Bool) (q : Option ℕ) → o ≡ Some bits → decoded bits ≡ Some i → targets_from o at ends q ≡ targets_by i at ends q
unfolding instr_of
targets_of_word o bits at i ends q e d = ap (λ o. targets_from o at ends q) e ∙ ap (λ j. targets_of j bits at ends q) d

targets_at_is : (elf : Elf) (bits at : ℕ) (i : Instr) (q : Option ℕ) → word_at elf at ≡ Some bits → decoded bits ≡ Some i → TargetsOf i at (targets_at elf q at)
unfolding targets_at
targets_at_is elf bits at i q e d = record { ends = _; pair = q; is = targets_of_word (word_at elf at) bits at i _ q e d }

code_of : (elf : Elf) (a : ℕ) → Reached elf a → IsCode elf a
code_of elf _ (entry c) = c
code_of elf _ (alone a b r i c) = c
code_of elf _ (paired a b t r rb e i c) = c

some_aligned : (x : ℕ) (o : Option ℕ) → IsTrue (is_some (if x % 4 == 0 then o else None)) → x % 4 ≡ 0
some_aligned x o = go (x % 4 == 0) refl
  where
    go : (b : Bool) → (x % 4 == 0) ≡ b → IsTrue (is_some (if b then o else None)) → x % 4 ≡ 0
    go true e t = grind (arith, nat_tests)
    go false e t = absurd (cc)

aligned_code : (elf : Elf) (a : ℕ) → IsCode elf a → a % 4 ≡ 0
unfolding word_at
aligned_code elf a c = some_aligned a _ c

-- two words at one address are one
one_word : (ws : List Word) → Apart (addresses_of ws) → (v w : Word) → Within ws v → Within ws w → v.at ≡ w.at → v ≡ w
one_word [] a v w i j e = absurd i
one_word (x ∷ xs) a v w (inl p) (inl q) e = sym p ∙ q
one_word (x ∷ xs) a v w (inl p) (inr j) e = absurd (a.0 (subst (In (addresses_of xs)) (sym e ∙ sym (ap (λ (z : Word). z.at) p)) (at_in xs w j)))
one_word (x ∷ xs) a v w (inr i) (inl q) e = absurd (a.0 (subst (In (addresses_of xs)) (e ∙ sym (ap (λ (z : Word). z.at) q)) (at_in xs v i)))
one_word (x ∷ xs) a v w (inr i) (inr j) e = one_word xs a.1 v w i j e

module _ (elf : Elf) (G : Graph) (g : IsGraph elf G) where
  pub same_word : (v w : Word) → Contains G.words v → Contains G.words w → v.at ≡ w.at → v ≡ w
  same_word v w i j e = one_word G.words (apart_from_increasing (addresses G) g.ordered) v w (within_at G.words v i.0 i.1 i.2) (within_at G.words w j.0 j.1 j.2) e

  is_word : (w : Word) → Contains G.words w → IsWordOf elf w
  is_word w c = subst (IsWordOf elf) c.2 (g.words c.0 w c.1)

  -- a word of a loop leads somewhere
  leads_on : (h x : ℕ) → InBody G h x → (y : ℕ) × Leads G x y
  leads_on h x b = part b.part
    where
      from_header : (u : ℕ) → IsClosed G h u → (y : ℕ) × Leads G h y
      from_header u c = let r = (body_law elf G g).closed h u c in go r.words r.way
        where
          go : (ws : List ℕ) → IsWay (Leads G) (InBody G h) ws h u → (y : ℕ) × Leads G h y
          go [] w = (h, subst (λ z. Leads G z h) (sym w.1) c.edge)
          go (z ∷ zs) w = (z, w.1)

      part : InPart G h b.source x → (y : ℕ) × Leads G x y
      part (inl e) = let r = from_header b.source b.closed in (r.0, subst (λ z. Leads G z r.0) (sym e) r.1)
      part (inr r) = way r.words r.way
        where
          way : (ws : List ℕ) → IsWay (Leads G) (λ y. y ≢ h) ws x b.source → (y : ℕ) × Leads G x y
          way [] w = (h, subst (λ z. Leads G z h) (sym w.1) b.closed.edge)
          way (y ∷ ys) w = (y, w.1)

  -- a word that stands for an instruction: its step edges, and its steps
  step_in : (x y : ℕ) (w : Word) → Contains G.words w → w.at ≡ x → Leads G x y → In w.steps.items y
  step_in x y w c e l =
      let q : l.word ≡ w = same_word l.word w l.among c (l.at ∙ sym e) in
      subst (λ (w : Word). In w.steps.items y) q (to_in l.word.steps.items y l.step)

  told : (x : ℕ) (i : Instr) (m : Means G x (Some i)) → TargetsOf i x (is_word m.word m.among).targets
  told x i m = by (is_word m.word m.among).leads
    where
      here : word_at elf x ≡ Some m.word.bits
      here = subst (λ z. word_at elf z ≡ Some m.word.bits) m.at (is_word m.word m.among).bits

      make : (q : Option ℕ) → (is_word m.word m.among).targets ≡ targets_at elf q m.word.at → TargetsOf i x (is_word m.word m.among).targets
      make q p = subst (TargetsOf i x) (sym (p ∙ ap (targets_at elf q) m.at)) (targets_at_is elf m.word.bits x i q here m.means)

      by : HasTargets elf m.word.at (is_word m.word m.among).targets → TargetsOf i x (is_word m.word m.among).targets
      by (inl p) = make (pair_at elf m.word.at) p.1
      by (inr p) = make None p.1

  steps_are : (x : ℕ) (i : Instr) (m : Means G x (Some i)) → m.word.steps.items ≡ (targets_by i x (told x i m).ends (told x i m).pair).steps
  steps_are x i m = (is_word m.word m.among).steps ∙ ap (λ (t : Targets). t.steps) (told x i m).is

  -- the words of a plain body are plain
  plain_instr : (h x : ℕ) → IsPlain G h → InBody G h x → (i : Instr) → Means G x (Some i) → IsPlainInstr i
  plain_instr h x p b (Jal rd imm) m = go (cases_eq rd 0)
    where
      go : (rd ≡ 0) ⊎ (rd ≢ 0) → rd ≡ 0
      go (inl z) = z
      go (inr ne) = absurd (p.no_call x (record { inside = b; holds = inl (record { rd = rd; imm = imm; links = ne; means = m }) }))
  plain_instr h x p b (Jalr rd rs1 imm) m = go (cases_eq rd 0)
    where
      anywhere : (rd ≡ 0) ⊎ (IsPaired G x rs1 → ⊥) → ⊥
      anywhere o = p.no_indirect x (record { inside = b; holds = record { rd = rd; rs1 = rs1; imm = imm; means = m; holds = o } })

      go : (rd ≡ 0) ⊎ (rd ≢ 0) → ⊥
      go (inl z) = anywhere (inl z)
      go (inr ne) = anywhere (inr (λ q. p.no_call x (record { inside = b; holds = inr (record { rd = rd; rs1 = rs1; imm = imm; means = m; holds = (ne, q) }) })))
  plain_instr h x p b Ecall m = p.no_system x (record { inside = b; holds = m })
  plain_instr h x p b Ebreak m =
      let a = leads_on h x b in
      subst (λ (xs : List ℕ). In xs a.0) (steps_are x Ebreak m) (step_in x a.0 m.word m.among m.at a.1)
  plain_instr h x p b (Alu op rd rs1 rs2) m = tt
  plain_instr h x p b (AluImm op rd rs1 imm) m = tt
  plain_instr h x p b (Upper op rd imm) m = tt
  plain_instr h x p b (Load op rd rs1 imm) m = tt
  plain_instr h x p b (Store op rs1 rs2 imm) m = tt
  plain_instr h x p b (Branch op rs1 rs2 imm) m = tt
  plain_instr h x p b (Fence rd rs1 imm) m = tt

  -- a word of a plain body is a word of a loop
  pub loop_word : (h x : ℕ) → IsPlain G h → InBody G h x → IsLoopWord G x
  loop_word h x p b = by (word_at_x) (decoded word_at_x.word.bits) refl
    where
      l : (y : ℕ) × Leads G x y
      l = leads_on h x b

      word_at_x : Leads G x l.0
      word_at_x = l.1

      by : (k : Leads G x l.0) (o : Option Instr) → decoded k.word.bits ≡ o → IsLoopWord G x
      by k None e = absurd (p.no_unsupported x (record { inside = b; holds = record { word = k.word; among = k.among; at = k.at; means = e } }))
      by k (Some i) e =
          record {
            instr = i;
            means = m;
            plain = d;
            aligned = aligned_code elf x (code_of elf x ((g.reached x).0 (word_in G h b.source x b.closed b.part)));
            leads = λ v. (forth v, back v);
          }
        where
          m : Means G x (Some i)
          m = record { word = k.word; among = k.among; at = k.at; means = e }

          d : IsPlainInstr i
          d = plain_instr h x p b i m

          forth : (v : ℕ) → Leads G x v → Contains (next_words i x) v
          forth v t = from_in (next_words i x) v (steps_forth i x (told x i m).ends (told x i m).pair v d (subst (λ (xs : List ℕ). In xs v) (steps_are x i m) (step_in x v k.word k.among k.at t)))

          back : (v : ℕ) → Contains (next_words i x) v → Leads G x v
          back v c =
              record {
                word = k.word;
                among = k.among;
                at = k.at;
                step = from_in k.word.steps.items v (subst (λ (xs : List ℕ). In xs v) (sym (steps_are x i m)) (steps_back i x (told x i m).ends (told x i m).pair v d (to_in (next_words i x) v c)));
              }
