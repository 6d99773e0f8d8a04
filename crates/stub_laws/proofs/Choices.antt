-- Tests with a branch over what follows.
use Rattle.std.proofs.Common.{◌≡◌, ℕ, suc, ◌*◌, ◌^◌, ◌<◌, refl, sym, subst, ◌∙◌, arith, pos, Bool, true, false, List, [], ◌∷◌, ◌++◌, length}
use Rattle.std.specs.Prelude.{◌||◌, if◌then◌else◌}
use Rattle.rv64_decode.specs.Row.{taken}
use Rattle.rv64_decode.specs.declared.instr.BranchOp.{BranchOp}
use Rattle.rv64_decode.specs.declared.instr.Instr.TheVariants.{Branch}
use Rattle.rv64_decode.specs.declared.xinstr.XInstr.{XInstr}
use Rattle.rv64_decode.specs.declared.xinstr.XInstr.TheVariants.{Base}
use Rattle.stub_laws.specs.Code.{open_jump}
use Rattle.stub_laws.specs.Places.{behind}
use Rattle.stub_laws.specs.Straight.{read}
use Rattle.stub_laws.proofs.Steps.{World, Wins, behind-append, behind_hop, stands_back, branch_law, no_law}
use Rattle.stub_laws.proofs.Tests.{State, IsTest}

-- the branch over n instructions
abbrev pub over : BranchOp → ℕ → ℕ → List XInstr → XInstr
over op r s passed = Base (Branch op r s (pos (4 * suc (length passed))))

-- a branch to the end, or else a further test
pub or_else : (w : World) (z b c : State) (op : BranchOp) (r s : ℕ) (rest : List XInstr) (t u : Bool) → ((f g : ℕ → ℕ) → b f g → taken op (read f r) (read f s) ≡ t) → ((f g : ℕ → ℕ) → b f g → c f g) → length rest < 2 ^ 19 → (t ≡ false → IsTest w z b c rest u) → IsTest w z b c (over op r s rest ∷ rest) (t || u)
or_else w z b c op r s rest t u is weaker near further = record {
  by = λ p f g x has on off.
      branch_law w p f g op r s (suc (length rest)) has.0 (omega arith)
      (λ y. subst (λ n. Wins w n f g) (behind_hop (suc p) rest) (on (rw (sym (is f g x) ∙ y) refl) f g (weaker f g x)))
      (λ y. let n = sym (is f g x) ∙ y in (further n).by (suc p) f g x has.1 (λ h. on (rw (n, h) refl)) (λ h. off (rw (n, h) refl)));
}

-- a branch over a part: past it where the branch is taken
pub skip : (w : World) (z b c : State) (op : BranchOp) (r s : ℕ) (part rest : List XInstr) (t u v : Bool) → ((f g : ℕ → ℕ) → b f g → taken op (read f r) (read f s) ≡ t) → length part < 2 ^ 19 → (t ≡ true → IsTest w z b c rest u) → (t ≡ false → IsTest w z b c (part ++ rest) v) → IsTest w z b c (over op r s part ∷ (part ++ rest)) (if t then u else v)
skip w z b c op r s part rest t u v is near yes' no' = record {
  by = λ p f g x has on off.
      branch_law w p f g op r s (suc (length part)) has.0 (omega arith)
      (λ y. let n = sym (is f g x) ∙ y in
      subst (λ m. Wins w m f g) (behind_hop (suc p) part)
      ((yes' n).by (behind (suc p) part) f g x (stands_back w (suc p) part rest has.1)
      (λ h f' g' q. subst (λ m. Wins w m f' g') (behind-append (suc p) part rest) (on (rw (n, h) refl) f' g' q))
      (λ h. off (rw (n, h) refl))))
      (λ y. let n = sym (is f g x) ∙ y in (no' n).by (suc p) f g x has.1 (λ h. on (rw (n, h) refl)) (λ h. off (rw (n, h) refl)));
}

-- the jump to the open target: a test that always fails
pub never : (w : World) (z b c : State) → ((f g : ℕ → ℕ) → b f g → z f g) → IsTest w z b c (open_jump ∷ []) false
never w z b c weaker = record { by = λ p f g x has on off. no_law w p f g has.0 (off refl f g (weaker f g x)) }
