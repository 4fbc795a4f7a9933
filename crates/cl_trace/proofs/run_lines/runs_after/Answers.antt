use Rattle.std.proofs.Common.{ap, ◌∙◌, subst, arith}
use Rattle.cl_runs.specs.{declared.job.JobTable.JobTable, Run.core_entries}
use Rattle.cl_trace.specs.Inner.Bodies.{AreAllEntriesOf}
use Rattle.cl_trace.proofs.{RunWith.cores_same, CoreLines.{cores_more, other_core}}
use Rattle.cl_trace.proofs.run_lines.runs_after.Goals as goal

pub loop-core-preserved : goal.loop-core-preserved
loop-core-preserved c =
    let run = c.loop-core.run in
    let new = c.entries_after.new.run in
    let ticks = ap (λ (t : JobTable). t.ticks) c.loop-core.invariant.0 in
    let with = c.in_ok-left.ensures.run in
    let all = subst (λ n. AreAllEntriesOf c.args.model.now n c.loop-core.core c.loop-core.left.now (core_entries new c.loop-core.core) c.in_ok-left.left.now) ticks c.in_ok-left.ensures.entries in
    let before = c.loop-core.invariant.3 in (
      with.table ∙ c.loop-core.invariant.0,
      cores_same run new c.loop-core.core (core_entries new c.loop-core.core) with ∙ c.loop-core.invariant.1,
      λ core later.
          other_core c.args.model.now c.args.run.now.table.ticks c.loop-core.core c.args.text.now c.loop-core.left.now c.in_ok-left.left.now run new before with all core (λ is. omega (arith, later, is))
          ∙ c.loop-core.invariant.2 core (omega arith),
      cores_more c.args.model.now c.args.run.now.table.ticks c.loop-core.core c.args.text.now c.loop-core.left.now c.in_ok-left.left.now run new before with all,
    )
