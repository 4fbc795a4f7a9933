use Rattle.std.proofs.Common.{sym, ap, ◌∙◌, subst}
use Rattle.cl_model.specs.{declared.model.SystemModel.SystemModel, Groups.IsGroupOf}
use Rattle.cl_runs.specs.SystemOf.{system_of}
use Rattle.cl_bound.specs.Answers.{is_late}
use Rattle.cl_tight.specs.{Found.AreWindowsOf, TightTimings.tight_timing}
use Rattle.cl_margin.proofs.TrialSteps.{response_found, settled_found, with_windows}
use Rattle.cl_margin.proofs.trial.Trial.timing_of.Goals as goal

pub answer-requires-clause-task : goal.answer-requires-clause-task
answer-requires-clause-task g c = c.requires.group.known

pub timing_within-requires-clause-group : goal.timing_within-requires-clause-group
timing_within-requires-clause-group g c = subst (λ (m : SystemModel). IsGroupOf m c.args.group) (sym c.answer.ensures.trial.is) c.requires.group

pub timing_within-requires-clause-response : goal.timing_within-requires-clause-response
timing_within-requires-clause-response g c =
    response_found c.args.self.now.model c.answer.new.self.model c.answer.ensures.trial.is c.args.group.task c.in_ok-answer.field-0 c.in-Settled.settled
    c.in_ok-answer.ensures.answer c.in-Settled.is c.response-response.result c.response-response.ensures

pub timing_within-requires-clause-settled : goal.timing_within-requires-clause-settled
timing_within-requires-clause-settled g c =
    settled_found c.args.self.now.model c.answer.new.self.model c.answer.ensures.trial.is c.args.group.task c.in_ok-answer.field-0 c.in-Settled.settled
    c.in_ok-answer.ensures.answer c.in-Settled.is c.requires.group.known c.response-response.result c.response-response.ensures

pub timing_within-requires-clause-found : goal.timing_within-requires-clause-found
timing_within-requires-clause-found g c =
    subst (λ (m : SystemModel). AreWindowsOf (system_of m) c.answer.new.self.windows) (sym c.answer.ensures.trial.is) c.answer.ensures.trial.windows

pub returns-in-Late-clause-timing : goal.returns-in-Late-clause-timing
returns-in-Late-clause-timing g c = ap is_late (sym c.in_ok-answer.ensures.answer ∙ c.in-Late.is)

pub returns-in_ok-timing-in-Settled-clause-timing : goal.returns-in_ok-timing-in-Settled-clause-timing
returns-in_ok-timing-in-Settled-clause-timing g c =
    let same = c.answer.ensures.trial.is in
    record {
      timely = ap is_late (sym c.in_ok-answer.ensures.answer ∙ c.in-Settled.is);
      is = c.in_ok-timing-in-Settled.ensures.timing ∙ ap (λ (m : SystemModel). tight_timing (system_of m) c.args.group) same;
      near = c.in_ok-timing-in-Settled.ensures.near;
    }

pub returns-in_ok-timing-in-Settled-clause-trial : goal.returns-in_ok-timing-in-Settled-clause-trial
returns-in_ok-timing-in-Settled-clause-trial g c =
    let same = c.answer.ensures.trial.is in
    with_windows c.args.self.now.model c.answer.new.self c.answer.ensures.trial c.timing_within.new.self
    (subst (λ (m : SystemModel). AreWindowsOf (system_of m) c.timing_within.new.self) same c.timing_within.ensures.found)

pub returns-in_err-timing-in-Settled-clause-trial : goal.returns-in_err-timing-in-Settled-clause-trial
returns-in_err-timing-in-Settled-clause-trial g c =
    let same = c.answer.ensures.trial.is in
    with_windows c.args.self.now.model c.answer.new.self c.answer.ensures.trial c.timing_within.new.self
    (subst (λ (m : SystemModel). AreWindowsOf (system_of m) c.timing_within.new.self) same c.timing_within.ensures.found)
