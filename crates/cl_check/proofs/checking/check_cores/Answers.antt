use Rattle.std.proofs.Common.{◌+◌, ◌<◌, refl, arith}
use Rattle.std.proofs.lemmas.Result.{err_from_is_err_and}
use Rattle.cl_runs.specs.SystemOf.{system_of}
use Rattle.cl_runs.proofs.ModelSystem.{cores_are, system_sound}
use Rattle.cl_check.proofs.BrokenRules.{kept_more, breaks_first}
use Rattle.cl_check.proofs.checking.check_cores.Goals as goal

pub check_core-requires-clause-sound : goal.check_core-requires-clause-sound
check_core-requires-clause-sound c = system_sound c.args.model.now c.cores-core-end.ensures.valid

pub returns-in_err-check_core : goal.returns-in_err-check_core
returns-in_err-check_core c =
    let system = system_of c.args.model.now in
    let on : c.loop-core.core < system.cores = omega (arith, c.loop-core-test.true, c.cores-core-end.ensures.count, cores_are c.args.model.now) in
    let p = err_from_is_err_and c.from_residual.result c.from_residual.ensures.1 in
    rw (p.1, p.2) (breaks_first system c.args.run.now c.loop-core.core c.in_err-check_core.field-0.0 on c.loop-core.invariant c.in_err-check_core.ensures)

pub loop-core-preserved : goal.loop-core-preserved
loop-core-preserved c = kept_more (system_of c.args.model.now) c.args.run.now c.loop-core.core (c.loop-core.core + 1) refl c.loop-core.invariant
    c.in_ok-check_core.ensures

pub returns : goal.returns
returns c = λ core t h below. c.loop-core.invariant core t
    (omega (arith, h, c.loop-core-test.false, c.cores-core-end.ensures.count, cores_are c.args.model.now)) below
