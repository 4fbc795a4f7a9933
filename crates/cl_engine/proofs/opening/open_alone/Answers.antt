use Rattle.cl_engine.proofs.OpenedFiles.{model_opens, model_none, model_unread}
use Rattle.cl_engine.proofs.opening.open_alone.Goals as goal

pub returns-in-Valid-clause-opened : goal.returns-in-Valid-clause-opened
returns-in-Valid-clause-opened g c = model_opens _ _ _ c.in_ok-model.ensures.opened _ c.in-Valid.is

pub returns-in-Refused-clause-opened : goal.returns-in-Refused-clause-opened
returns-in-Refused-clause-opened g c =
    model_none _ _ _ c.in_ok-model.ensures.opened _ _ _ c.in-Refused.is c.in_ok-model_refused-in-Refused.ensures

pub returns-clause-opened : goal.returns-clause-opened
returns-clause-opened g c = model_unread _ _ _ c.in_ok-model.ensures.opened _ c.in-Stopped.is
