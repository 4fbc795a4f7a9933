use Rattle.std.proofs.Common.{◌<◌, length, arith}
use Rattle.std.proofs.lemmas.Result.{IfOk-weaker}
use Rattle.cl_model.specs.Groups.{groups_at}
use Rattle.cl_runs.specs.SystemOf.{system_of}
use Rattle.cl_chain.specs.{JobChains.option_of, Inner.GroupTables.AreTables}
use Rattle.cl_chain.proofs.RunTables.{forward_answer}
use Rattle.cl_chain.proofs.chains_of_jobs.forward.Goals as goal

pub forward_over-requires : goal.forward_over-requires
forward_over-requires c =
    let some : 0 < length (groups_at c.args.model.now c.args.chain) = c.in_ok-groups.ensures.some in
    let tables : AreTables (system_of c.args.model.now) c.args.run.now (groups_at c.args.model.now c.args.chain) c.as_slice.result.now
    = rw c.as_slice.ensures c.in_ok-groups.ensures.tables in
    omega (arith, some, tables.one_a_group)

pub returns : goal.returns
returns c =
    let tables : AreTables (system_of c.args.model.now) c.args.run.now (groups_at c.args.model.now c.args.chain) c.as_slice.result.now
    = rw c.as_slice.ensures c.in_ok-groups.ensures.tables in
    IfOk-weaker c.forward_over.result _ _ (λ found. forward_answer (system_of c.args.model.now) c.args.run.now (groups_at c.args.model.now c.args.chain) c.as_slice.result.now tables c.args.job (option_of found)) c.forward_over.ensures
