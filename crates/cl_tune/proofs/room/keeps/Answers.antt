use Rattle.std.proofs.Common.{sym, ap, ◌∙◌, subst}
use Rattle.std.specs.Prelude.{IfOk, MatchBool}
use Rattle.std.proofs.lemmas.Bool.{MatchBool-at_true, MatchBool-at_false}
use Rattle.cl_model.specs.{declared.model.SystemModel.SystemModel, Ranges.IsInRange, Validity.IsValid}
use Rattle.cl_scale.specs.Scaled.{scaled}
use Rattle.cl_tune.specs.{Headroom.Keeps, Inner.Times.AreTimely}
use Rattle.cl_tune.proofs.KeptTimes.{tasks_in_range, past_range, in_range, one_a_task, questions_in_range, late_fails, timely_passes}
use Rattle.cl_tune.proofs.room.keeps.Goals as goal

pub are_within-requires-clause-in_range : goal.are_within-requires-clause-in_range
are_within-requires-clause-in_range g c =
    tasks_in_range c.args.model.now c.args.percent c.plain-plain.ensures.valid c.as_slice-tasks.result.now
    (c.as_slice-tasks.ensures ∙ ap (λ (m : SystemModel). m.tasks) c.plain-plain.ensures.plain)

pub returns-then-not-are_within : goal.returns-then-not-are_within
returns-then-not-are_within g c =
    past_range c.args.model.now c.args.percent c.plain-plain.ensures.valid c.as_slice-tasks.result.now
    (c.as_slice-tasks.ensures ∙ ap (λ (m : SystemModel). m.tasks) c.plain-plain.ensures.plain)
    (sym c.are_within.ensures ∙ c.if-not-are_within.true)

pub all_times-requires-clause-in_range : goal.all_times-requires-clause-in_range
all_times-requires-clause-in_range g c =
    tasks_in_range c.args.model.now c.args.percent c.plain-plain.ensures.valid c.as_slice-tasks.result.now
    (c.as_slice-tasks.ensures ∙ ap (λ (m : SystemModel). m.tasks) c.plain-plain.ensures.plain)

pub all_times-requires-clause-within : goal.all_times-requires-clause-within
all_times-requires-clause-within g c =
    sym c.are_within.ensures ∙ c.if-not-are_within.false

pub tasks_in_time-requires-clause-times : goal.tasks_in_time-requires-clause-times
tasks_in_time-requires-clause-times g c =
    one_a_task c.args.model.now c.args.percent c.plain-plain.ensures.valid c.as_slice-tasks.result.now
    (c.as_slice-tasks.ensures ∙ ap (λ (m : SystemModel). m.tasks) c.plain-plain.ensures.plain)
    (sym c.are_within.ensures ∙ c.if-not-are_within.false) c.as_slice.result.now (c.as_slice.ensures ∙ c.in_ok-times.ensures)

pub tasks_in_time-requires-clause-in_range : goal.tasks_in_time-requires-clause-in_range
tasks_in_time-requires-clause-in_range g c =
    questions_in_range c.args.model.now c.args.percent c.plain-plain.ensures.valid c.as_slice-tasks.result.now
    (c.as_slice-tasks.ensures ∙ ap (λ (m : SystemModel). m.tasks) c.plain-plain.ensures.plain)
    (sym c.are_within.ensures ∙ c.if-not-are_within.false) c.as_slice.result.now (c.as_slice.ensures ∙ c.in_ok-times.ensures)

pub returns-then-not-timely : goal.returns-then-not-timely
returns-then-not-timely g c =
    late_fails c.args.model.now c.args.percent c.plain-plain.ensures.valid c.as_slice-tasks.result.now
    (c.as_slice-tasks.ensures ∙ ap (λ (m : SystemModel). m.tasks) c.plain-plain.ensures.plain)
    (sym c.are_within.ensures ∙ c.if-not-are_within.false) c.as_slice.result.now (c.as_slice.ensures ∙ c.in_ok-times.ensures)
    (MatchBool-at_false (AreTimely c.args.model.now c.as_slice.result.now) (AreTimely c.args.model.now c.as_slice.result.now → ⊥)
    c.if-not-timely.true c.in_ok-timely.ensures)

pub returns-then-is_empty : goal.returns-then-is_empty
returns-then-is_empty g c =
    timely_passes c.args.model.now c.args.percent c.plain-plain.ensures.valid c.as_slice-tasks.result.now
    (c.as_slice-tasks.ensures ∙ ap (λ (m : SystemModel). m.tasks) c.plain-plain.ensures.plain)
    (sym c.are_within.ensures ∙ c.if-not-are_within.false) c.as_slice.result.now (c.as_slice.ensures ∙ c.in_ok-times.ensures)
    (ap (λ (m : SystemModel). m.requirements) (sym c.plain-plain.ensures.plain) ∙ c.is_empty.ensures.0 c.if-is_empty.true)
    (MatchBool-at_true (AreTimely c.args.model.now c.as_slice.result.now) (AreTimely c.args.model.now c.as_slice.result.now → ⊥)
    c.if-not-timely.false c.in_ok-timely.ensures)

pub keeps_by_findings-requires-clause-valid : goal.keeps_by_findings-requires-clause-valid
keeps_by_findings-requires-clause-valid g c =
    subst (λ (m : SystemModel). IsValid m) (sym c.plain-plain.ensures.plain) c.plain-plain.ensures.valid

pub keeps_by_findings-requires-clause-in_range : goal.keeps_by_findings-requires-clause-in_range
keeps_by_findings-requires-clause-in_range g c =
    subst (λ (m : SystemModel). IsInRange (scaled m c.args.percent)) (sym c.plain-plain.ensures.plain)
    (in_range c.args.model.now c.args.percent c.plain-plain.ensures.valid c.as_slice-tasks.result.now
    (c.as_slice-tasks.ensures ∙ ap (λ (m : SystemModel). m.tasks) c.plain-plain.ensures.plain)
    (sym c.are_within.ensures ∙ c.if-not-are_within.false))

pub returns : goal.returns
returns g c =
    subst (λ (m : SystemModel). IfOk c.keeps_by_findings.result (λ kept. MatchBool kept (Keeps m c.args.percent) (Keeps m c.args.percent → ⊥)))
    c.plain-plain.ensures.plain c.keeps_by_findings.ensures
