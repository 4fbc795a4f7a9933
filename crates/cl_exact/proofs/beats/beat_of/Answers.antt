use Rattle.std.proofs.Common.{ap, sym, ◌∙◌}
use Rattle.cl_model.specs.{ByNumber.stimulus_of, Timing.deadline_under, Kinds.is_periodic}
use Rattle.cl_exact.proofs.ModelBeats.{is_of_period, periodic_kind, beat_is_of, beat_in_range}
use Rattle.cl_exact.proofs.beats.beat_of.Goals as goal

pub unreachable-requires : goal.unreachable-requires
unreachable-requires c = periodic_kind c.stimulus_of-kind.result
    (ap is_periodic c.stimulus_of-kind.ensures ∙ is_of_period c.args.model.now c.args.task c.requires.is_task c.requires.periodic)
    c.in_default.not-Periodic

pub returns-clause-of : goal.returns-clause-of
returns-clause-of c =
    beat_is_of c.args.model.now c.args.task c.in-Periodic.period c.in-Periodic.offset c.in-Periodic.jitter c.deadline_under-deadline.result c.requires.is_task
    (sym c.stimulus_of-kind.ensures ∙ c.in-Periodic.is)
    (c.deadline_under-deadline.ensures ∙ ap (λ kind. deadline_under kind c.task.result.now) c.stimulus_of-kind.ensures
    ∙ ap (deadline_under (stimulus_of c.args.model.now c.args.task)) c.task.ensures.task)

pub returns-clause-beat : goal.returns-clause-beat
returns-clause-beat c =
    beat_in_range c.args.model.now c.task.ensures.valid c.args.task c.in-Periodic.period c.in-Periodic.offset c.in-Periodic.jitter
    c.deadline_under-deadline.result c.requires.is_task
    (sym c.stimulus_of-kind.ensures ∙ c.in-Periodic.is)
    (c.deadline_under-deadline.ensures ∙ ap (λ kind. deadline_under kind c.task.result.now) c.stimulus_of-kind.ensures
    ∙ ap (deadline_under (stimulus_of c.args.model.now c.args.task)) c.task.ensures.task)
