use Rattle.std.proofs.lemmas.Result.{IfOk-weaker}
use Rattle.cl_model.specs.Groups.{groups_at}
use Rattle.cl_runs.specs.SystemOf.{system_of}
use Rattle.cl_chain.specs.{JobChains.option_of, Inner.Events.AreEventTables}
use Rattle.cl_chain.proofs.{EventTables.{events_ordered, delay_answer}, GreatestDelayFacts.shown_delay_measured}
use Rattle.cl_chain.proofs.delays.measure_delay_apart.Goals as goal

pub delay_over-requires : goal.delay_over-requires
delay_over-requires c =
    let tables : AreEventTables (system_of c.args.model.now) c.args.run.now (groups_at c.args.model.now c.args.chain) c.as_slice.result.now
    = rw c.as_slice.ensures c.in_ok-groups.ensures.tables in
    events_ordered c.args.model.now c.in_ok-groups.ensures.valid c.args.run.now c.requires.in_form c.args.chain c.requires.ordered c.in_ok-groups.ensures.some c.as_slice.result.now tables

pub returns-clause-greatest : goal.returns-clause-greatest
returns-clause-greatest c =
    let tables : AreEventTables (system_of c.args.model.now) c.args.run.now (groups_at c.args.model.now c.args.chain) c.as_slice.result.now
    = rw c.as_slice.ensures c.in_ok-groups.ensures.tables in
    IfOk-weaker c.delay_over.result _ _
    (λ found. delay_answer (system_of c.args.model.now) c.args.run.now (groups_at c.args.model.now c.args.chain) c.as_slice.result.now tables (option_of found)) c.delay_over.ensures

pub returns-clause-shown : goal.returns-clause-shown
returns-clause-shown c = λ shows.
    let tables : AreEventTables (system_of c.args.model.now) c.args.run.now (groups_at c.args.model.now c.args.chain) c.as_slice.result.now
    = rw c.as_slice.ensures c.in_ok-groups.ensures.tables in
    IfOk-weaker c.delay_over.result _ _
    (λ found greatest. shown_delay_measured c.args.model.now c.in_ok-groups.ensures.valid c.args.run.now c.args.chain shows (option_of found)
    (delay_answer (system_of c.args.model.now) c.args.run.now (groups_at c.args.model.now c.args.chain) c.as_slice.result.now tables (option_of found) greatest)) c.delay_over.ensures
