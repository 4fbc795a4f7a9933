use Rattle.std.proofs.Common.{◌≡◌, ◌<◌, Option, List, ◌∷◌, None, ℕ, length, set, ap, ◌∙◌, subst, arith}
use Rattle.cl_model.specs.declared.group.Group.{Group}
use Rattle.cl_runs.specs.{declared.job.JobTable.JobTable, Table.table_jobs}
use Rattle.cl_runs.proofs.ModelSystem.{count_is}
use Rattle.cl_chain.specs.{declared.group_moments.GroupMoments.GroupMoments, Inner.{GroupTables.{AreMomentsAt, writes_in}, Events.JobArrives}}
use Rattle.cl_chain.proofs.{TailFacts.writes_looked_up, EventTables.arrivals_listed}
use Rattle.cl_chain.proofs.delays.with_events.Goals as goal

pub jobs_of-requires : goal.jobs_of-requires
jobs_of-requires c = omega (
  arith,
  c.group-task.ensures.of_task.known,
  c.requires.in_form.tasks,
  count_is c.args.model.now,
  ap (λ (t : JobTable). length t.jobs) c.table.ensures,
)

pub returns : goal.returns
returns c =
    let plain = c.args.groups in
    let some : 0 < length c.as_slice.result.now
    = omega (arith, c.requires.some, c.requires.tables.one_a_group, ap length c.as_slice.ensures) in
    let writes : c.in_ok-writes.writes ≡ None ∷ writes_in plain 0
    = c.in_ok-writes.ensures ∙ ap (λ (ws : List (Option ℕ)). None ∷ ws)
    (writes_looked_up c.as_slice.result.now 0 some _ _ c.as_slice-2.ensures ∙ ap (λ (ts : List GroupMoments). writes_in ts 0) c.as_slice.ensures) in
    record {
      plain = plain;
      are_tables = c.requires.tables;
      arrivals = c.in_ok-reads.reads;
      arrive = subst (λ (g : Group). AreMomentsAt (JobArrives c.args.run.now g.task) c.in_ok-reads.reads) c.group-task.ensures.group
          (arrivals_listed c.args.run.now c.group-task.result.task c.jobs_of.result.now
          (c.jobs_of.ensures ∙ ap (λ (t : JobTable). table_jobs t c.group-task.result.task) c.table.ensures) c.in_ok-reads.reads c.in_ok-reads.ensures);
      is = ap (λ (ws : List (Option ℕ)). set plain 0 (record { reads = c.in_ok-reads.reads; writes = ws })) writes;
    }
