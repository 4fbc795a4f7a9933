use Rattle.std.proofs.lemmas.Result.{IfOk-weaker}
use Rattle.cl_runs.specs.SystemOf.{system_of}
use Rattle.cl_chain.proofs.GroupReads.{ends_listed}
use Rattle.cl_chain.proofs.group_moments.ends_of.Goals as goal

pub returns : goal.returns
returns c = IfOk-weaker c.ends_apart.result _ _
    (ends_listed (system_of c.args.model.now) c.args.run.now c.args.task c.args.place c.args.end) c.ends_apart.ensures
