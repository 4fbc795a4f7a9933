use Rattle.cl_engine.proofs.Answered.{kept}
use Rattle.cl_engine.proofs.running.run.Goals as goal

pub returns-in-Ok : goal.returns-in-Ok
returns-in-Ok g c = kept g.C.Command.language _ _ _ _ _ _ _ _ c.in-Ok.ensures.leaves c.in-Ok.ensures.unasked _ c.in-Ok.ensures.comes c.in-Ok.ensures.caused c.carry_out.ensures
