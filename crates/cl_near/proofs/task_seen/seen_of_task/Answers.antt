use Rattle.std.proofs.Common.{List, Bool, ap, ◌∙◌, arith}
use Rattle.cl_runs.specs.{TaskTiming.timing_at, SystemOf.system_of}
use Rattle.cl_runs.proofs.ModelSystem.{count_is, system_sound}
use Rattle.cl_run_data.specs.Parts.{is_among}
use Rattle.cl_run_data.proofs.ShownTasks.{part_shows_task}
use Rattle.cl_near.proofs.task_seen.seen_of_task.Goals as goal

pub seen_in_run-requires-clause-shows : goal.seen_in_run-requires-clause-shows
seen_in_run-requires-clause-shows c =
    let model = c.args.model.now in
    let task = c.args.plan.now.task in
    part_shows_task (system_of model) (system_sound model c.plain-valid.ensures.valid) c.cores-cores.result.now c.in_ok-run.run' c.in_ok-run.ensures.legal
    task (omega (arith, c.requires.is_task, count_is model))
    (ap (λ (marked : List Bool). is_among marked (timing_at (system_of model) task).core) c.cores-cores.ensures ∙ c.requires.core)
