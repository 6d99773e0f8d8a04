-- What the result of a test says.
use Rattle.std.proofs.Common.{◌≡◌, ◌↔◌, Bool, true, false, Option, Some, None, sym, subst, ◌∙◌}
use Rattle.std.specs.Option.{MatchOption}
use Rattle.std.specs.Bool.{IsTrue}
use Rattle.std.proofs.lemmas.Bool.{false≢true}

pub passed : {P : Type 0} (b : Bool) → (IsTrue b ↔ P) → b ≡ true → P
passed b says e = says.0 e

pub failed : {P : Type 0} (b : Bool) → (IsTrue b ↔ P) → b ≡ false → P → ⊥
failed b says e p = false≢true (sym e ∙ says.1 p)

pub at_some : {X : Type 0} (P : Type 0) (Q : X → Type 0) (o : Option X) (x : X) → o ≡ Some x → MatchOption o P Q → Q x
at_some P Q o x e m = subst (λ v. MatchOption v P Q) e m

pub at_none : {X : Type 0} (P : Type 0) (Q : X → Type 0) (o : Option X) → o ≡ None → MatchOption o P Q → P
at_none P Q o e m = subst (λ v. MatchOption v P Q) e m
