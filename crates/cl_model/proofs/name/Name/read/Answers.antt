use Rattle.std.proofs.Common.{sym, ◌∙◌}
use Rattle.cl_model.proofs.Names.{name_is_text}
use Rattle.cl_model.proofs.name.Name.read.Goals as goal

pub unreachable-requires : goal.unreachable-requires
unreachable-requires c = c.in_default.ensures.cases.0 (name_is_text _ (sym c.is_name.ensures ∙ c.if-not-is_name.false))
