use Rattle.std.proofs.Common.{◌≡◌, ℕ, ◌<◌, ◌≤◌, ◌==◌, Bool, false, sym, ap, ◌∙◌, arith, of_z, w64}
use Rattle.std.proofs.lemmas.Bool.Decides.{nat_tests}
use Rattle.std.proofs.lemmas.Int.{to_z-of_z}
use Rattle.linear_forms.specs.Forms.{is_small}
use Rattle.linear_forms.proofs.Built.{adds_term, passes_large}
use Rattle.linear_forms.proofs.terms.push_term.Goals as goal

fewer : (n : ℕ) (b : Bool) → b ≡ (n == 4) → b ≡ false → n ≤ 4 → n < 4
fewer n b e f h = let g : (n == 4) ≡ false = sym e ∙ f in grind (arith, nat_tests)

pub returns-then-not-is_within-clause-limits : goal.returns-then-not-is_within-clause-limits
returns-then-not-is_within-clause-limits c =
    let e = ap is_small (sym (to_z-of_z w64 c.args.by c.ranges.by)) ∙ sym c.is_within.ensures ∙ c.if-not-is_within.true in
    λ _. passes_large _ (c.args.loc, c.args.by) (λ z. c.if-by-eq0.false (ap (of_z w64) z)) e

pub returns-clause-built : goal.returns-clause-built
returns-clause-built c =
    let e = ap is_small (sym (to_z-of_z w64 c.args.by c.ranges.by)) ∙ sym c.is_within.ensures ∙ c.if-not-is_within.false in
    let z = to_z-of_z w64 c.args.by c.ranges.by in
    λ _. rw (c.push.ensures.items, z) (adds_term _ (c.args.loc, c.args.by) (λ z. c.if-by-eq0.false (ap (of_z w64) z)) e c.requires (fewer _ _ c.is_full.ensures.value c.if-is_full.false c.is_full.ensures.fits))
