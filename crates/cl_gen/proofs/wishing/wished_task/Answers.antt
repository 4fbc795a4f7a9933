use Rattle.std.proofs.Common.{◌≤◌, List, map, sym, ap, ◌∙◌, subst}
use Rattle.std.specs.Prelude.{All}
use Rattle.std.specs.List.{AllZip}
use Rattle.cl_model.specs.{declared.{stimulus.StimulusKind.StimulusKind, task.{RunnableDef.RunnableDef, TaskDef.TaskDef}}, Ranges.IsKindInRange, Timing.IsKindOrdered}
use Rattle.cl_model.proofs.ValidTasks.{kind_in_range, kind_ordered, times_ordered}
use Rattle.cl_runs.specs.{declared.job.Job.Job, Arrivals.FollowPattern, SystemOf.{range_of, system_of}, TaskTiming.{TimeRange, timing_at}, Table.{LiesIn, AreLawfulJobs}}
use Rattle.cl_gen.proofs.{TasksOfModels.{pattern_is, ranges_of_slice}, WishedTables.of_both}
use Rattle.cl_gen.proofs.wishing.wished_task.Goals as goal

pub wished_jobs-requires-clause-kind : goal.wished_jobs-requires-clause-kind
wished_jobs-requires-clause-kind g c =
    subst (λ (kind : StimulusKind). IsKindInRange kind) (sym c.stimulus_of-pattern.ensures)
    (kind_in_range c.args.model.now c.task.ensures.valid c.args.task c.requires.task)

pub wished_jobs-requires-clause-kind_ordered : goal.wished_jobs-requires-clause-kind_ordered
wished_jobs-requires-clause-kind_ordered g c =
    subst (λ (kind : StimulusKind). IsKindOrdered kind) (sym c.stimulus_of-pattern.ensures)
    (kind_ordered c.args.model.now c.task.ensures.valid c.args.task c.requires.task)

pub wished_jobs-requires-clause-ordered : goal.wished_jobs-requires-clause-ordered
wished_jobs-requires-clause-ordered g c =
    let model = c.args.model.now in
    subst (λ (rs : List RunnableDef). All (λ (r : RunnableDef). r.least ≤ r.greatest) rs)
    (sym (c.as_slice-runnables.ensures ∙ ap (λ (t : TaskDef). t.runnables) c.task.ensures.task))
    (times_ordered model c.task.ensures.valid c.args.task c.requires.task)

pub returns : goal.returns
returns g c =
    let model = c.args.model.now in
    let timing = timing_at (system_of model) c.args.task in
    let ranges = map range_of c.as_slice-runnables.result.now in
    of_both c.wished_jobs.result (FollowPattern c.stimulus_of-pattern.result c.args.ticks) (All (λ (job : Job). AllZip LiesIn ranges job.times))
    (AreLawfulJobs timing c.args.ticks)
    (λ jobs follow times. record {
      arrivals = subst (λ (p : StimulusKind). FollowPattern p c.args.ticks jobs)
          (pattern_is model c.args.task c.requires.task _ c.stimulus_of-pattern.ensures) follow;
      times = subst (λ (rs : List TimeRange). All (λ (job : Job). AllZip LiesIn rs job.times) jobs)
          (ranges_of_slice model c.args.task c.requires.task _ (c.as_slice-runnables.ensures ∙ ap (λ (t : TaskDef). t.runnables) c.task.ensures.task)) times;
    })
    c.wished_jobs.ensures.arrivals c.wished_jobs.ensures.times
