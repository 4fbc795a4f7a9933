use Rattle.cl_model.specs.Groups.{groups_at}
use Rattle.cl_runs.specs.SystemOf.{system_of}
use Rattle.cl_chain.specs.{JobChains.{option_of, measured_of}, Inner.{GroupTables.AreTables, Events.AreEventTables}}
use Rattle.cl_chain.proofs.{RunTables.{measured_answer, tables_ordered}, EventTables.{events_ordered, delay_answer}}
use Rattle.cl_chain.proofs.delays.measure_with_delay_apart.Goals as goal

pub measured_over-requires : goal.measured_over-requires
measured_over-requires c =
    let tables : AreTables (system_of c.args.model.now) c.args.run.now (groups_at c.args.model.now c.args.chain) c.as_slice.result.now
    = rw c.as_slice.ensures c.in_ok-groups.ensures.tables in
    tables_ordered c.args.model.now c.in_ok-groups.ensures.valid c.args.run.now c.requires.in_form c.args.chain c.requires.ordered c.in_ok-groups.ensures.some c.as_slice.result.now tables

pub delay_over-requires : goal.delay_over-requires
delay_over-requires c =
    let tables : AreEventTables (system_of c.args.model.now) c.args.run.now (groups_at c.args.model.now c.args.chain) c.as_slice-2.result.now
    = rw c.as_slice-2.ensures c.in_ok-events.ensures in
    events_ordered c.args.model.now c.in_ok-groups.ensures.valid c.args.run.now c.requires.in_form c.args.chain c.requires.ordered c.in_ok-groups.ensures.some c.as_slice-2.result.now tables

pub returns-clause-measured : goal.returns-clause-measured
returns-clause-measured c =
    let tables : AreTables (system_of c.args.model.now) c.args.run.now (groups_at c.args.model.now c.args.chain) c.as_slice.result.now
    = rw c.as_slice.ensures c.in_ok-groups.ensures.tables in
    measured_answer (system_of c.args.model.now) c.args.run.now (groups_at c.args.model.now c.args.chain) c.as_slice.result.now tables
    (measured_of c.in_ok-measured.measured) c.in_ok-measured.ensures

pub returns-clause-greatest : goal.returns-clause-greatest
returns-clause-greatest c =
    let tables : AreEventTables (system_of c.args.model.now) c.args.run.now (groups_at c.args.model.now c.args.chain) c.as_slice-2.result.now
    = rw c.as_slice-2.ensures c.in_ok-events.ensures in
    delay_answer (system_of c.args.model.now) c.args.run.now (groups_at c.args.model.now c.args.chain) c.as_slice-2.result.now tables
    (option_of c.in_ok-delay.delay) c.in_ok-delay.ensures
