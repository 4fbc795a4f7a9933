use Rattle.std.proofs.Common.{sym, ap, ◌∙◌, arith}
use Rattle.cl_runs.specs.SystemOf.{system_of}
use Rattle.cl_runs.proofs.ModelSystem.{count_is, system_sound}
use Rattle.cl_bound.specs.Answers.{is_late}
use Rattle.cl_margin.proofs.TrialSteps.{timely_with_window}
use Rattle.cl_margin.proofs.trial.Trial.is_late.Goals as goal

pub returns-in-Some-clause-late : goal.returns-in-Some-clause-late
returns-in-Some-clause-late g c = c.is_late.ensures ∙ ap is_late c.in-Some.ensures

pub returns-in-Some-2-clause-late : goal.returns-in-Some-2-clause-late
returns-in-Some-2-clause-late g c =
    let model = c.args.self.now.model in
    sym (timely_with_window (system_of model) (system_sound model c.plain-valid.ensures.valid) c.args.task (omega (arith, c.requires.task, count_is model)) c.in-Some-2.field-0
    (sym c.in_ok-widest_window.ensures ∙ c.in-Some-2.is))

pub answer_within-requires-clause-widest : goal.answer_within-requires-clause-widest
answer_within-requires-clause-widest g c = sym c.in-None.is ∙ c.in_ok-widest_window.ensures

pub returns-in_ok-answer-in-None-clause-late : goal.returns-in_ok-answer-in-None-clause-late
returns-in_ok-answer-in-None-clause-late g c = c.is_late-in-None.ensures ∙ ap is_late c.in_ok-answer-in-None.ensures.answer
