use Rattle.std.proofs.Common.{◌≡◌, List, map, sym, ap, ◌∙◌, subst, arith}
use Rattle.cl_model.specs.declared.{stimulus.StimulusKind.StimulusKind, task.TaskDef.TaskDef}
use Rattle.cl_runs.specs.{declared.job.Job.Job, Pattern.IsPattern, Table.table_jobs, SystemOf.{range_of, system_of}, TaskTiming.{TimeRange, Timing, timing_at}}
use Rattle.cl_runs.proofs.ModelSystem.{timing_is, count_is, ranges_are, system_sound}
use Rattle.cl_check.specs.{Legality.task_faults, Inner.Finding.Finds}
use Rattle.cl_check.proofs.table_check.check_task.Goals as goal

pub check_jobs-requires : goal.check_jobs-requires
check_jobs-requires c =
    let model = c.args.model.now in
    let sound = system_sound model c.task.ensures.valid in
    let task = sound.tasks c.args.task (omega (arith, c.requires.task, count_is model)) in
    subst IsPattern (ap (λ (t : Timing). t.pattern) (timing_is model c.args.task c.requires.task) ∙ sym c.stimulus_of.ensures) task.pattern

pub returns : goal.returns
returns c =
    let model = c.args.model.now in
    let i = c.args.task in
    let ticks = c.args.table.now.ticks in
    let pattern : c.stimulus_of.result ≡ (timing_at (system_of model) i).pattern
    = c.stimulus_of.ensures ∙ sym (ap (λ (t : Timing). t.pattern) (timing_is model i c.requires.task)) in
    let ranges : map range_of c.as_slice-runnables.result.now ≡ (timing_at (system_of model) i).ranges
    = ap (map range_of) (c.as_slice-runnables.ensures ∙ ap (λ (t : TaskDef). t.runnables) c.task.ensures.task)
    ∙ sym (ranges_are model i c.requires.task) in
    subst (λ (p : StimulusKind). Finds c.check_jobs.result (task_faults p (timing_at (system_of model) i).ranges ticks i (table_jobs c.args.table.now i))) pattern
    (subst (λ (rs : List TimeRange). Finds c.check_jobs.result (task_faults c.stimulus_of.result rs ticks i (table_jobs c.args.table.now i))) ranges
    (subst (λ (js : List Job). Finds c.check_jobs.result (task_faults c.stimulus_of.result (map range_of c.as_slice-runnables.result.now) ticks i js))
    c.jobs_of-jobs.ensures c.check_jobs.ensures))
