-- The loops round an access stand at places of their own.
use Rattle.std.proofs.Common.{◌≡◌, ℕ, ◌<◌, ◌≤◌, inl, inr, List, length, Option, ap, sym, ◌∙◌, arith, slice_index_or}
use Rattle.std.proofs.lemmas.List.{get_or_default}
use Rattle.linear_forms.specs.Forms.{LinearForm}
use Rattle.loop_data.specs.declared.accesses.Access.{Access}
use Rattle.loop_data.specs.declared.shape.Level.{Level}
use Rattle.loop_data.specs.LoopCode.{LoopCode}
use Rattle.loop_data.specs.Results.{IsAround}
use Rattle.loop_data.specs.Accesses.{IsAccessOf}
use Rattle.dependence_tests.specs.Overlaps.{IsPlaced}

below : (levels : List Level) (u depth place : ℕ) → length levels ≤ 4 → IsAround levels u depth place → place < 4
below levels u depth place h (inl x) = let a = x.1 in omega arith
below levels u depth place h (inr x) = let a = x.1 in omega arith

differ : (levels : List Level) (u p q : ℕ) → IsAround levels u 1 p → IsAround levels u 2 q → p ≡ q → p ≡ 0
differ levels u p q (inr x) y e = x.1
differ levels u p q (inl x) (inr y) e = e ∙ y.1
differ levels u p q (inl x) (inl y) e =
    let f : slice_index_or levels p x.0 ≡ slice_index_or levels p y.0 = get_or_default levels p x.0 y.0 x.1 in
    let g : slice_index_or levels p y.0 ≡ y.0 = ap (λ n. slice_index_or levels n y.0) e ∙ y.2 in
    let h : x.0.depth ≡ y.0.depth = ap (λ (l : Level). l.depth) (sym x.2 ∙ f ∙ g) in
    let i = x.4 in
    let j = y.4 in
    absurd (omega arith)

pub placed : (levels : List Level) (B : LoopCode) (at : ℕ → ℕ → Option LinearForm) (a : Access) → length levels ≤ 4 → IsAccessOf levels B at a → IsPlaced a
placed levels B at a h is =
    record {
      second = below levels a.at 1 _ h (is.around 1 (omega arith));
      third = below levels a.at 2 _ h (is.around 2 (omega arith));
      apart = λ e. differ levels a.at _ _ (is.around 1 (omega arith)) (is.around 2 (omega arith)) e;
    }
