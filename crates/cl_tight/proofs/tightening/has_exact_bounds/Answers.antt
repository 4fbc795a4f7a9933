use Rattle.std.proofs.Common.{sym, ◌∙◌}
use Rattle.cl_tight.proofs.CommonPeriods.{rule_timed, rule_other}
use Rattle.cl_tight.proofs.tightening.has_exact_bounds.Goals as goal

pub returns-then-is_timed_periodic : goal.returns-then-is_timed_periodic
returns-then-is_timed_periodic c =
    rule_timed c.args.model.now c.requires.valid c.args.chain (sym c.is_timed_periodic.ensures ∙ c.if-is_timed_periodic.true) c.is_within_limit.result c.is_within_limit.ensures

pub returns-else-is_timed_periodic : goal.returns-else-is_timed_periodic
returns-else-is_timed_periodic c =
    c.if-is_timed_periodic.false ∙ sym (rule_other c.args.model.now c.args.chain (sym c.is_timed_periodic.ensures ∙ c.if-is_timed_periodic.false))
