-- What a session keeps beside its model and its findings.
use Rattle.std.specs.Prelude.{◌≡◌, IfSome}
use Rattle.cl_model.specs.declared.model.SystemModel.{SystemModel}
use Rattle.cl_analyse.specs.Findings.{AreFindings}
use Rattle.cl_incr.specs.declared.session.Session.TheInside.{Inside}

-- the findings are those of the model, and its copy is the same
pub record IsSession (session : Inside) : Type 0 where
  pub found : AreFindings session.model session.findings
  pub twin : IfSome session.twin (λ (twin : SystemModel). twin ≡ session.model)
