-- The words that duties append.
use Rattle.std.proofs.Common.{◌≡◌, ℕ, ap, ◌∙◌, List, ◌++◌}
use Rattle.linear_forms.specs.Forms.{LinearForm}
use Rattle.stub_laws.specs.Code.{Appended}
use Rattle.stub_laws.proofs.Appends.{joined, as_list}
use Rattle.check_code.specs.Macros.{form_code, low_code, high_code}
use Rattle.check_code.specs.Rounds.{own_slots, own_form}
use Rattle.check_code.specs.DutyCode.{short_code, shorts_code}

pub test_words : (a b c d x y : List ℕ) (f : LinearForm) (around : List ℕ) (own : LinearForm) (slots : List ℕ) (r s : ℕ)
    → own ≡ own_form f around → slots ≡ own_slots around → r ≡ 5 → s ≡ 6
    → Appended a b (form_code 5 f) → Appended b c short_code → Appended c d (low_code r own slots)
    → Appended d x (high_code s own slots 0) → Appended x y shorts_code
    → Appended a y
    (form_code 5 f
    ++ (short_code
    ++ (low_code 5 (own_form f around) (own_slots around) ++ (high_code 6 (own_form f around) (own_slots around) 0 ++ shorts_code))))
test_words a b c d x y f around own slots r s e1 e2 e3 e4 f1 f2 f3 f4 f5 =
    let low : low_code r own slots ≡ low_code 5 (own_form f around) (own_slots around) = ap (λ k. low_code k own slots) e3 ∙ ap
    (λ g. low_code 5 g slots) e1 ∙ ap (low_code 5 (own_form f around)) e2 in
    let high : high_code s own slots 0 ≡ high_code 6 (own_form f around) (own_slots around) 0 = ap (λ k. high_code k own slots 0) e4 ∙ ap
    (λ g. high_code 6 g slots 0) e1 ∙ ap (λ l. high_code 6 (own_form f around) l 0) e2 in
    joined a b y _ _ f1 (joined b c y _ _ f2 (joined c d y _ _ (as_list c d _ _ f3 low) (joined d x y _ _ (as_list d x _ _ f4 high) f5)))
