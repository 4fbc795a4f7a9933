use Rattle.std.proofs.Common.{sym, subst}
use Rattle.cl_margin.specs.{declared.trial.Trial.Trial, Inner.Trials.IsTrialOf}
use Rattle.cl_margin.proofs.TrialSteps.{one_answered}
use Rattle.cl_margin.proofs.trial.Trial.answer_within.Goals as goal

pub returns-clause-trial : goal.returns-clause-trial
returns-clause-trial c =
    let model = c.args.self.now.model in
    subst (λ (t : Trial). IsTrialOf model t) (sym c.keep.ensures)
    (one_answered model c.args.self.now c.requires.trial c.args.task c.in_ok-answer.answer c.requires.task c.in_ok-answer.ensures)
