use Rattle.std.proofs.Common.{◌∙◌, subst}
use Rattle.std.specs.Result.{IfOk}
use Rattle.cl_model.specs.declared.model.SystemModel.{SystemModel}
use Rattle.cl_report.specs.Survey.{IsSurveyOf}
use Rattle.cl_engine.specs.Done.{IsDone}
use Rattle.cl_top.specs.Commands.{command_meaning}
use Rattle.cl_top.proofs.commands.survey.surveyed.Goals as goal

-- the model that is adopted is the generated one
pub returns-in-Ok-clause-outcome : goal.returns-in-Ok-clause-outcome
unfolding command_meaning
returns-in-Ok-clause-outcome g c =
    subst (λ (model : SystemModel). IfOk c.survey_of.result (IsDone (IsSurveyOf model))) (c.in-Ok.ensures.ok ∙ c.in_ok-model.ensures.generated) c.survey_of.ensures.outcome
