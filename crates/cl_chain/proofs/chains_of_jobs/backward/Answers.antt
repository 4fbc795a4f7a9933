use Rattle.std.proofs.Common.{◌<◌, length}
use Rattle.std.proofs.lemmas.Result.{IfOk-weaker}
use Rattle.cl_model.specs.Groups.{groups_at}
use Rattle.cl_runs.specs.SystemOf.{system_of}
use Rattle.cl_chain.specs.{JobChains.option_of, Inner.GroupTables.AreTables}
use Rattle.cl_chain.proofs.RunTables.{backward_answer, tables_ordered}
use Rattle.cl_chain.proofs.chains_of_jobs.backward.Goals as goal

pub age_over-requires-clause-some : goal.age_over-requires-clause-some
age_over-requires-clause-some c =
    let some : 0 < length (groups_at c.args.model.now c.args.chain) = c.in_ok-groups.ensures.some in
    let tables : AreTables (system_of c.args.model.now) c.args.run.now (groups_at c.args.model.now c.args.chain) c.as_slice.result.now
    = rw c.as_slice.ensures c.in_ok-groups.ensures.tables in
    (tables_ordered c.args.model.now c.in_ok-groups.ensures.valid c.args.run.now c.requires.in_form c.args.chain c.requires.ordered some c.as_slice.result.now tables).some

pub age_over-requires-clause-order : goal.age_over-requires-clause-order
age_over-requires-clause-order c =
    let some : 0 < length (groups_at c.args.model.now c.args.chain) = c.in_ok-groups.ensures.some in
    let tables : AreTables (system_of c.args.model.now) c.args.run.now (groups_at c.args.model.now c.args.chain) c.as_slice.result.now
    = rw c.as_slice.ensures c.in_ok-groups.ensures.tables in
    (tables_ordered c.args.model.now c.in_ok-groups.ensures.valid c.args.run.now c.requires.in_form c.args.chain c.requires.ordered some c.as_slice.result.now tables).writes

pub returns : goal.returns
returns c =
    let tables : AreTables (system_of c.args.model.now) c.args.run.now (groups_at c.args.model.now c.args.chain) c.as_slice.result.now
    = rw c.as_slice.ensures c.in_ok-groups.ensures.tables in
    IfOk-weaker c.age_over.result _ _ (λ found. backward_answer (system_of c.args.model.now) c.args.run.now (groups_at c.args.model.now c.args.chain) c.as_slice.result.now tables c.args.job (option_of found)) c.age_over.ensures
