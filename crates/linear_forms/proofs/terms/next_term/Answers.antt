use Rattle.std.proofs.Common.{◌≡◌, ℕ, ◌<◌, ◌==◌, Bool, true, false, arith, sym, ◌∙◌}
use Rattle.std.proofs.lemmas.Bool.Decides.{nat_tests}
use Rattle.linear_forms.proofs.Nexts.{next_first, next_second, next_both}
use Rattle.linear_forms.proofs.terms.next_term.Goals as goal

-- a test for an empty list
some : (n : ℕ) (b : Bool) → b ≡ (n == 0) → b ≡ false → 0 < n
some n b e f = let g : (n == 0) ≡ false = sym e ∙ f in grind (arith, nat_tests)

none : (n : ℕ) (b : Bool) → b ≡ (n == 0) → b ≡ true → n ≡ 0
none n b e f = let g : (n == 0) ≡ true = sym e ∙ f in grind (arith, nat_tests)

pub returns-then-is_empty : goal.returns-then-is_empty
returns-then-is_empty c =
    let z = none _ _ c.is_empty.ensures c.if-is_empty.true in
    rw c.from_first.ensures (next_first c.args.first.now c.args.second.now _ c.requires.first c.requires.second (omega arith) (λ h. absurd (omega arith)))

pub returns-then-here-there : goal.returns-then-here-there
returns-then-here-there c =
    let z = some _ _ c.is_empty-2.ensures c.if-is_empty-2.false in
    rw c.from_first-then-here-there.ensures (next_first c.args.first.now c.args.second.now _ c.requires.first c.requires.second z (λ h. omega arith))

pub returns-then-there-here : goal.returns-then-there-here
returns-then-there-here c =
    let z = some _ _ c.is_empty.ensures c.if-is_empty.false in
    rw c.from_second-then-there-here.ensures (next_second c.args.first.now c.args.second.now _ c.requires.first c.requires.second z (λ h. omega arith))

pub returns-else-there-here : goal.returns-else-there-here
returns-else-there-here c =
    let y = some _ _ c.is_empty-2.ensures c.if-is_empty-2.false in
    let z = some _ _ c.is_empty.ensures c.if-is_empty.false in
    rw c.from_both.ensures (next_both c.args.first.now c.args.second.now _ c.requires.first c.requires.second y z (omega arith))
