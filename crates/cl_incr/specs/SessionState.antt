-- What a session holds: a model, and its findings.
use Rattle.cl_model.specs.declared.model.SystemModel.{SystemModel}
use Rattle.cl_analyse.specs.declared.findings.Findings.{Findings}

pub record SessionState : Type 0 where
  pub model : SystemModel
  pub findings : Findings
