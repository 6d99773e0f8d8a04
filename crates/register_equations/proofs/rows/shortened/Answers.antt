use Rattle.std.proofs.Common.{◌∙◌, sym, true, false, w64}
use Rattle.std.proofs.lemmas.Int.{to_z-of_z}
use Rattle.register_equations.proofs.ShortForms.{short_constant, pure_short, limited_back}
use Rattle.register_equations.proofs.rows.shortened.Goals as goal

pub returns-then-is_constant : goal.returns-then-is_constant
returns-then-is_constant c f e q = (
  pure_short f c.in-Some.form true (sym c.in-Some.is ∙ e) (sym c.is_constant.ensures ∙ c.if-is_constant.true),
  short_constant c.low_half.result f.constant c.args.constant c.cast_unsigned.result c.ranges.constant c.cast_unsigned.ensures c.low_half.ensures q,
)

pub returns-else-is_constant : goal.returns-else-is_constant
returns-else-is_constant c f e q = (
  pure_short f c.in-Some.form false (sym c.in-Some.is ∙ e) (sym c.is_constant.ensures ∙ c.if-is_constant.false),
  limited_back f c.in-Some.form _ c.with_constant.result (sym c.in-Some.is ∙ e) (to_z-of_z w64 c.args.constant c.ranges.constant ∙ q) c.with_constant.ensures,
)
