use Rattle.std.proofs.Common.{◌≡◌, Bool, true, List, sym, subst}
use Rattle.cl_runs.specs.{SystemOf.system_of, TaskTiming.timing_at}
use Rattle.cl_run_data.specs.Parts.{is_among}
use Rattle.cl_near.proofs.MarkedCores.{marked_is_among}
use Rattle.cl_near.proofs.task_plan.plan_task.Goals as goal

pub returns : goal.returns
returns c = record {
  is_task = c.requires.task;
  of_task = c.note_aims.ensures.task;
  core =
      subst (λ (cores : List Bool). is_among cores (timing_at (system_of c.args.model.now) c.args.task).core ≡ true) (sym c.note_aims.ensures.cores)
      (marked_is_among c.args.model.now c.in_ok-cores.cores c.args.task c.requires.task c.in_ok-cores.ensures);
}
