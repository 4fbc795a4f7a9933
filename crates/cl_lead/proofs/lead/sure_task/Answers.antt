use Rattle.std.proofs.Common.{sym, ◌∙◌, subst}
use Rattle.cl_model.specs.{Ranges.IsKindInRange, Timing.IsKindOrdered}
use Rattle.cl_model.proofs.ValidTasks.{kind_in_range, kind_ordered}
use Rattle.cl_lead.proofs.SureTasks.{periodic_in_range}
use Rattle.cl_lead.proofs.lead.sure_task.Goals as goal

pub returns-in-Periodic-clause-in_range : goal.returns-in-Periodic-clause-in_range
returns-in-Periodic-clause-in_range c =
    let same = sym c.stimulus_of.ensures ∙ c.in-Periodic.is in
    periodic_in_range c.in-Periodic.period c.in-Periodic.offset c.in-Periodic.jitter c.least_time.result
    (subst IsKindInRange same (kind_in_range c.args.model.now c.requires.valid c.args.other c.requires.other))
    (subst IsKindOrdered same (kind_ordered c.args.model.now c.requires.valid c.args.other c.requires.other))
    c.least_time.ensures.small
