use Rattle.std.proofs.Common.{◌∙◌, arith}
use Rattle.std.specs.Prelude.{sum_by}
use Rattle.cl_runs.specs.SystemOf.{system_of}
use Rattle.cl_cycle.specs.Cycles.{is_one_of, in_phase_above}
use Rattle.cl_cycle.proofs.{CycleLengths.cycle_short, GatheredWork.deadline_few}
use Rattle.cl_lead.specs.Inner.Sure.{sure_time}
use Rattle.cl_lead.proofs.{SureTasks.work_is, SureAhead.put_together}
use Rattle.cl_lead.proofs.lead.ahead_of.Goals as goal

pub returns-clause-in_range : goal.returns-clause-in_range
returns-clause-in_range c = record {
  arrivals = c.requires.in_range;
  short = omega (arith, c.ticks.ensures, c.of-cycle.ensures.ticks, cycle_short c.args.model.now c.requires.valid c.args.task c.requires.task);
  deadline = omega (arith, c.deadline_of.ensures, deadline_few c.args.model.now c.requires.valid c.args.task c.requires.task);
  above = c.all_sure.ensures.in_range;
}

pub returns-clause-lead : goal.returns-clause-lead
returns-clause-lead c =
    let model = c.args.model.now in
    let task = c.args.task in
    put_together model task c.requires.task c.args.before c.args.arrivals c.requires.in_range.is_phase c.requires.arrivals c.ticks.result c.deadline_of.result
    (c.ticks.ensures ∙ c.of-cycle.ensures.ticks) c.deadline_of.ensures (is_one_of (in_phase_above (system_of model) task))
    (λ from width. sum_by (sure_time from width) c.all_sure.result.items)
    (λ from width. c.all_sure.ensures.time from width
    ∙ work_is model task c.requires.task c.of-cycle.result.in_phase.items (is_one_of (in_phase_above (system_of model) task)) c.of-cycle.ensures.in_phase from width)
