-- The findings of a model: the answer for each task, the bounds and the exact lengths of each chain, and the verdict on
-- each requirement.
use Rattle.std.specs.Prelude.{◌≡◌}
use Rattle.cl_model.specs.declared.model.SystemModel.{SystemModel}
use Rattle.cl_runs.specs.SystemOf.{system_of}
use Rattle.cl_bound.specs.Answers.{answers_of}
use Rattle.cl_analyse.specs.{declared.findings.Findings.Findings, ChainAnswers.{chain_answers_of, AreExactAnswers}, Verdicts.verdicts_of}

-- the findings of a model, each list in file order. They are a relation, since exact lengths are; a valid model has one
-- findings and no other
pub record AreFindings (model : SystemModel) (findings : Findings) : Type 0 where
  pub tasks : findings.tasks ≡ answers_of (system_of model)
  pub chains : findings.chains ≡ chain_answers_of model
  pub exacts : AreExactAnswers model findings.exacts
  pub verdicts : findings.verdicts ≡ verdicts_of model findings.chains findings.exacts
