use Rattle.std.proofs.Common.{◌≤◌, arith}
use Rattle.std.proofs.Math.Nat.{mul-le-mul}
use Rattle.cl_model.proofs.ValidTasks.{little_time}
use Rattle.cl_why.proofs.WindowJobs.{time_is_in}
use Rattle.cl_why.proofs.window.Window.time_of_jobs.Goals as goal

pub returns-clause-time : goal.returns-clause-time
returns-clause-time c =
    time_is_in c.args.model.now c.args.self.now.task c.args.other c.requires.other c.args.self.now.worst c.jobs.result c.from.result c.time_of.result c.from-2.result
    c.from.ensures c.from-2.ensures c.jobs.ensures.jobs c.time_of.ensures

pub returns-clause-small : goal.returns-clause-small
returns-clause-small c =
    let most : c.from.result ≤ 18446744073709551616 = omega (arith, c.from.ensures, c.jobs.type_inv) in
    let time : c.from-2.result ≤ 256000000000000 =
    omega (arith, c.from-2.ensures, c.time_of.ensures, little_time c.args.model.now c.jobs.ensures.valid c.args.other c.requires.other) in
    mul-le-mul most time
