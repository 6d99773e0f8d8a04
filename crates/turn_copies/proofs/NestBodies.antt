-- The words of a nest may be copied.
use Rattle.std.proofs.Common.{◌≡◌, ℕ, ◌^◌, ◌<◌, refl, sym, subst, ap, ◌∙◌, Option, Some, None, Bool, true, false, List, [], ◌∷◌, ◌⊎◌, inl, inr, if◌then◌else◌}
use Rattle.std.specs.Prelude.{◌==◌}
use Rattle.rv64_decode.specs.Row.{plus_offset, next_pc}
use Rattle.rv64_decode.specs.declared.instr.UpperOp.TheVariants.{Lui, Auipc}
use Rattle.rv64_decode.specs.declared.instr.Instr.{Instr}
use Rattle.rv64_decode.specs.declared.instr.Instr.TheVariants.{Alu, AluImm, Upper, Load, Store, Branch, Jal, Jalr, Fence, Ecall, Ebreak}
use Rattle.loop_data.specs.declared.graph.Graph.{Graph}
use Rattle.loop_data.specs.declared.shape.Level.{Level}
use Rattle.loop_data.specs.Executing.{AreProgramWords, AreCellWords}
use Rattle.loop_data.specs.Instructions.{Means}
use Rattle.loop_data.specs.Locations.{CellMap}
use Rattle.loop_data.specs.LoopCode.{LoopCode, code_of, instr_among}
use Rattle.loop_data.specs.LoopWords.{AreNest, next_words}
use Rattle.loop_data.specs.Lookups.{AreFew}
use Rattle.loop_data.specs.Nests.{has, Holds}
use Rattle.loop_data.proofs.NestVisits.{found_instr}
use Rattle.loop_data.proofs.Steps.{leads_is, is_leads, has_contains, contains_has}
use Rattle.loop_data.proofs.Tests.{eq_of}
use Rattle.turn_copies.specs.Bodies.{HasShortValue, IsLeft, IsBody, IsOrdered}
use Rattle.turn_copies.specs.Listing.{HasShortValues, NestLaw}

module _ (G : Graph) (levels : List Level) (C : CellMap) (nest : AreNest G levels) (words : AreProgramWords G) where
  abbrev B : LoopCode
  B = code_of G C

  is_word : (u : ℕ) (i : Option Instr) → Means G u i → instr_among G.words u ≡ i
  is_word u i m = found_instr G u i words.ordered m

  short_of : (u : ℕ) (i : Instr) → HasShortValues G nest.root → Holds nest.root u → Means G u (Some i) → HasShortValue u i
  short_of u (Upper Auipc rd imm) h inside m = h u rd imm inside m
  short_of u (Upper Lui rd imm) h inside m = tt
  short_of u (Alu op rd rs1 rs2) h inside m = tt
  short_of u (AluImm op rd rs1 imm) h inside m = tt
  short_of u (Load op rd rs1 imm) h inside m = tt
  short_of u (Store op rs1 rs2 imm) h inside m = tt
  short_of u (Branch op rs1 rs2 imm) h inside m = tt
  short_of u (Jal rd imm) h inside m = tt
  short_of u (Jalr rd rs1 imm) h inside m = tt
  short_of u (Fence rd rs1 imm) h inside m = tt
  short_of u Ecall h inside m = tt
  short_of u Ebreak h inside m = tt

  either_of : (x y v : ℕ) → has (x ∷ y ∷ []) v ≡ true → (x ≡ v) ⊎ (y ≡ v)
  either_of x y v h = go (x == v) (y == v) refl refl h
    where
      go : (b d : Bool) → (x == v) ≡ b → (y == v) ≡ d → (if b then true else (if d then true else false)) ≡ true → (x ≡ v) ⊎ (y ≡ v)
      go true d p q e = inl (eq_of x v p)
      go false true p q e = inr (eq_of y v q)
      go false false p q e = absurd (cc)

  left : IsLeft nest.root B
  left =
      let sides = nest.nest.shapes.sides nest.root (inl refl) in
      let branch = nest.branches nest.root (inl refl) in
      let w = nest.words nest.root.exit sides.inside in
      let is = is_word nest.root.exit _ branch.means in
      let same : Some w.instr ≡ Some (Branch branch.op branch.rs1 branch.rs2 branch.imm) = sym (is_word nest.root.exit _ w.means) ∙ is in
      let leads = (w.leads sides.out).0 (is_leads G nest.root.exit sides.out sides.leads_out) in
      let listed = contains_has (next_words w.instr nest.root.exit) sides.out leads in
      let listed' : has (next_pc nest.root.exit ∷ plus_offset nest.root.exit branch.imm ∷ []) sides.out ≡ true = subst (λ o. has (words_of o nest.root.exit) sides.out ≡ true) same listed in
      record {
        op = branch.op;
        rs1 = branch.rs1;
        rs2 = branch.rs2;
        imm = branch.imm;
        is = is;
        out = sorted (either_of (next_pc nest.root.exit) (plus_offset nest.root.exit branch.imm) sides.out listed') sides.leaves;
      }
    where
      words_of : Option Instr → ℕ → List ℕ
      words_of None u = []
      words_of (Some i) u = next_words i u

      sorted : {x y v : ℕ} → (x ≡ v) ⊎ (y ≡ v) → has nest.root.body v ≡ false → (has nest.root.body y ≡ false) ⊎ (has nest.root.body x ≡ false)
      sorted (inl e) h = inr (ap (has nest.root.body) e ∙ h)
      sorted (inr e) h = inl (ap (has nest.root.body) e ∙ h)

  body : AreCellWords nest.root B → AreFew C → HasShortValues G nest.root → IsBody nest.root B
  body cells few short =
      record {
        header = nest.nest.bodies.header nest.root (inl refl);
        words = λ u inside. let w = nest.words u inside in record { does = w.instr; is = is_word u _ w.means; plain = w.plain; short = short_of u w.instr short inside w.means };
        left = left;
        cells = cells;
        few = few;
      }

  order : ((u : ℕ) → Holds nest.root u → u < 2 ^ 63) → IsOrdered nest.root B
  order low =
      record {
        ordered = nest.ordered nest.root (inl refl);
        low = low;
        aligned = λ u inside. (nest.words u inside).aligned;
        inside = λ u v i inside ne is h.
            let w = nest.words u inside in
            let same : Some i ≡ Some w.instr = sym is ∙ is_word u _ w.means in
            let i_is : i ≡ w.instr = cc in
            let leads = (w.leads v).1 (has_contains (next_words w.instr u) v (subst (λ j. has (next_words j u) v ≡ true) i_is h)) in
            nest.nest.shapes.stays_in nest.root (inl refl) u v inside ne (leads_is G u v leads);
      }

pub nest_law : NestLaw
nest_law G levels C nest words cells few short low = (body G levels C nest words cells few short, order G levels C nest words low)
