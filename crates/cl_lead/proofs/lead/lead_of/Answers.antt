use Rattle.std.proofs.Common.{sym, ap, ◌∙◌, subst}
use Rattle.cl_model.specs.{declared.{stimulus.StimulusKind.StimulusKind, task.TaskDef.TaskDef}, Ranges.IsKindInRange, Timing.IsKindOrdered}
use Rattle.cl_model.proofs.ValidTasks.{kind_in_range, kind_ordered}
use Rattle.cl_stim.specs.Phase.{phase_of}
use Rattle.cl_comm.specs.declared.spot.Spot.{Spot}
use Rattle.cl_lead.specs.Leads.{before_read}
use Rattle.cl_lead.proofs.SureAhead.{lead_waits, lead_timed, lead_free}
use Rattle.cl_lead.proofs.lead.lead_of.Goals as goal

pub of-requires-clause-range : goal.of-requires-clause-range
of-requires-clause-range c =
    subst (λ (k : StimulusKind). IsKindInRange k) (sym c.stimulus_of.ensures) (kind_in_range c.args.model.now c.task.ensures.valid c.args.task c.requires.is_task)

pub of-requires-clause-ordered : goal.of-requires-clause-ordered
of-requires-clause-ordered c =
    subst (λ (k : StimulusKind). IsKindOrdered k) (sym c.stimulus_of.ensures) (kind_ordered c.args.model.now c.task.ensures.valid c.args.task c.requires.is_task)

pub returns-in-Some : goal.returns-in-Some
returns-in-Some c = lead_waits c.args.model.now c.args.task c.requires.is_task c.args.place c.task.result.now.access
    (ap (λ (t : TaskDef). t.access) c.task.ensures.task) c.before_read-before.result
    (c.before_read-before.ensures ∙ ap (λ (s : Spot). before_read c.task.result.now.access s.before) c.spot_of.ensures)
    c.in-Some.arrivals (ap phase_of (sym c.stimulus_of.ensures) ∙ sym c.of.ensures.phase ∙ c.in-Some.is)
    (sym c.is_timed.ensures ∙ c.if-is_timed.false) c.lead.result (c.lead.ensures ∙ c.ahead_of.ensures.lead)

pub returns-then-is_timed : goal.returns-then-is_timed
returns-then-is_timed c = lead_timed c.args.model.now c.args.task c.requires.is_task c.args.place c.task.result.now.access
    (ap (λ (t : TaskDef). t.access) c.task.ensures.task) c.before_read-before.result
    (c.before_read-before.ensures ∙ ap (λ (s : Spot). before_read c.task.result.now.access s.before) c.spot_of.ensures)
    (sym c.is_timed.ensures ∙ c.if-is_timed.true)

pub returns-in-None : goal.returns-in-None
returns-in-None c = lead_free c.args.model.now c.args.task c.requires.is_task c.args.place c.task.result.now.access
    (ap (λ (t : TaskDef). t.access) c.task.ensures.task) c.before_read-before.result
    (c.before_read-before.ensures ∙ ap (λ (s : Spot). before_read c.task.result.now.access s.before) c.spot_of.ensures)
    (ap phase_of (sym c.stimulus_of.ensures) ∙ sym c.of.ensures.phase ∙ c.in-None.is)
