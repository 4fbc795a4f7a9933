use Rattle.std.proofs.Common.{ap, sym, subst}
use Rattle.cl_runs.specs.{declared.job.JobTable.JobTable, SystemOf.system_of, Run.Run}
use Rattle.cl_sched.specs.CoreTables.{HaveTimes}
use Rattle.cl_sched.proofs.CoreTables.{part_have_times}
use Rattle.cl_sched.proofs.simulating.simulate_cores.Goals as goal

pub fill_marked-requires-clause-times : goal.fill_marked-requires-clause-times
fill_marked-requires-clause-times c =
    let system = system_of c.args.model.now in
    subst (λ (t : JobTable). HaveTimes system t) (sym (ap (λ (run : Run). run.table) c.in_ok-run.ensures))
    (part_have_times system c.args.cores.now c.args.table c.requires.lawful c.requires.none)
