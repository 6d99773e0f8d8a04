use Rattle.std.proofs.Common.{◌∙◌, sym, refl}
use Rattle.register_equations.proofs.Coming.{small_class}
use Rattle.register_equations.proofs.passes.headed.Goals as goal

pub header_form-requires : goal.header_form-requires
header_form-requires c step e = small_class c.args.levels.now c.args.classes.now c.args.level.now c.requires.steps c.args.r step (sym (c.class_at.ensures c.args.level.now refl) ∙ e)
