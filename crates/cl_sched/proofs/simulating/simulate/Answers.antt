use Rattle.cl_runs.specs.SystemOf.{system_of}
use Rattle.cl_runs.proofs.{ModelSystem.system_sound, Continuing.has_continuation}
use Rattle.cl_sched.proofs.simulating.simulate.Goals as goal

pub returns-in-Ok-clause-continuation : goal.returns-in-Ok-clause-continuation
returns-in-Ok-clause-continuation c = λ ticks h.
    has_continuation (system_of c.args.model.now) (system_sound c.args.model.now c.cores.ensures.valid) c.fill.new.run c.in-Ok.ensures.legal ticks h
