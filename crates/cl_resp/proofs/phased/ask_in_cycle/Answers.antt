use Rattle.std.proofs.Common.{sym, ap, ◌∙◌, subst}
use Rattle.cl_model.specs.{declared.stimulus.StimulusKind.StimulusKind, Ranges.IsKindInRange, Timing.IsKindOrdered}
use Rattle.cl_model.proofs.ValidTasks.{kind_in_range, kind_ordered}
use Rattle.cl_runs.specs.SystemOf.{system_of}
use Rattle.cl_cycle.specs.{Counts.arrivals_of, Cycles.in_phase_above}
use Rattle.cl_resp.proofs.{PhasedSums.same_in_phase, PhasedQuestions.{whole_time, put_asks, put_in_range, put_alone}}
use Rattle.cl_resp.proofs.phased.ask_in_cycle.Goals as goal

pub arrivals_of-requires-clause-range : goal.arrivals_of-requires-clause-range
arrivals_of-requires-clause-range c =
    subst (λ (k : StimulusKind). IsKindInRange k) (sym c.stimulus_of.ensures) (kind_in_range c.args.model.now c.task.ensures.valid c.args.task c.requires.task)

pub arrivals_of-requires-clause-ordered : goal.arrivals_of-requires-clause-ordered
arrivals_of-requires-clause-ordered c =
    subst (λ (k : StimulusKind). IsKindOrdered k) (sym c.stimulus_of.ensures) (kind_ordered c.args.model.now c.task.ensures.valid c.args.task c.requires.task)

pub returns-clause-question : goal.returns-clause-question
returns-clause-question c =
    put_asks c.args.model.now c.task.ensures.valid c.args.task c.requires.task c.args.cycle.now.in_phase.items c.requires.cycle.in_phase
    _ _ _ _ _ _ _ _ (c.arrivals_of.ensures.arrivals ∙ ap arrivals_of c.stimulus_of.ensures) (c.ticks.ensures ∙ c.requires.cycle.ticks)
    c.in_ok-all_in_phase.ensures c.time_of.ensures c.block_of.ensures c.jitter_of.ensures c.deadline_of.ensures c.in_ok-all_beside.ensures

pub returns-clause-time : goal.returns-clause-time
returns-clause-time c =
    whole_time c.args.model.now c.task.ensures.valid c.args.task c.requires.task c.args.cycle.now.in_phase.items c.requires.cycle.in_phase
    _ _ _ _ _ _ _ _ (c.arrivals_of.ensures.arrivals ∙ ap arrivals_of c.stimulus_of.ensures) (c.ticks.ensures ∙ c.requires.cycle.ticks)
    c.in_ok-all_in_phase.ensures c.time_of.ensures c.block_of.ensures c.jitter_of.ensures c.deadline_of.ensures c.in_ok-all_beside.ensures

pub returns-clause-in_range : goal.returns-clause-in_range
returns-clause-in_range c =
    put_in_range c.args.model.now c.task.ensures.valid c.args.task c.requires.task c.args.cycle.now.in_phase.items c.requires.cycle.in_phase
    _ _ _ _ _ _ _ _ (c.arrivals_of.ensures.arrivals ∙ ap arrivals_of c.stimulus_of.ensures) (c.ticks.ensures ∙ c.requires.cycle.ticks)
    c.in_ok-all_in_phase.ensures c.time_of.ensures c.block_of.ensures c.jitter_of.ensures c.deadline_of.ensures c.in_ok-all_beside.ensures

pub returns-clause-alone : goal.returns-clause-alone
returns-clause-alone c =
    put_alone c.args.model.now c.task.ensures.valid c.args.task c.requires.task c.args.cycle.now.in_phase.items c.requires.cycle.in_phase
    _ _ _ _ _ _ _ _ (c.arrivals_of.ensures.arrivals ∙ ap arrivals_of c.stimulus_of.ensures) (c.ticks.ensures ∙ c.requires.cycle.ticks)
    c.in_ok-all_in_phase.ensures c.time_of.ensures c.block_of.ensures c.jitter_of.ensures c.deadline_of.ensures c.in_ok-all_beside.ensures

pub returns-clause-in_phase : goal.returns-clause-in_phase
returns-clause-in_phase c =
    let system = system_of c.args.model.now in
    c.in_ok-all_in_phase.ensures
    ∙ same_in_phase system c.args.cycle.now.in_phase.items (in_phase_above system c.args.task) c.requires.cycle.in_phase c.args.task
