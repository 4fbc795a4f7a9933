use Rattle.std.proofs.Common.{List, ℕ, ◌++◌, sym, ap, ◌∙◌, subst, arith}
use Rattle.cl_model.specs.{declared.{stimulus.StimulusKind.StimulusKind, task.TaskDef.TaskDef}, ByNumber.{task_at, stimulus_of}}
use Rattle.cl_runs.specs.{declared.job.{Job.Job, JobTable.JobTable}, Pattern.{IsPattern, first_least, first_greatest}, Table.table_jobs, TaskTiming.Timing}
use Rattle.cl_runs.proofs.ModelSystem.{timing_is, count_is, system_sound}
use Rattle.cl_traces.specs.SaidOfRules.{arrival_text}
use Rattle.cl_traces.proofs.broken.put_arrival_of.Goals as goal

pub put_arrival-requires : goal.put_arrival-requires
put_arrival-requires c =
    let model = c.args.model.now in
    let sound = system_sound model c.task.ensures.valid in
    let task = sound.tasks c.args.task (omega (arith, c.requires.task, count_is model)) in
    subst IsPattern (ap (λ (t : Timing). t.pattern) (timing_is model c.args.task c.requires.task) ∙ sym c.stimulus_of-kind.ensures) task.pattern

pub returns : goal.returns
returns c =
    let model = c.args.model.now in
    let old = c.args.text.now in
    let kind = stimulus_of model c.args.task in
    let name = (task_at model c.args.task).name in
    let table = c.table-table.result.now in
    let jobs = c.jobs_of.result.now in
    c.in_ok-put_arrival.ensures
    ∙ ap (λ (name : List ℕ). old ++ arrival_text name c.stimulus_of-kind.result table.ticks 0 (first_least c.stimulus_of-kind.result) (first_greatest c.stimulus_of-kind.result) jobs)
    (c.as_slice-name.ensures.bytes ∙ ap (λ (task : TaskDef). task.name) c.task.ensures.task)
    ∙ ap (λ (kind : StimulusKind). old ++ arrival_text name kind table.ticks 0 (first_least kind) (first_greatest kind) jobs) c.stimulus_of-kind.ensures
    ∙ ap (λ (jobs : List Job). old ++ arrival_text name kind table.ticks 0 (first_least kind) (first_greatest kind) jobs) c.jobs_of.ensures
    ∙ ap (λ (t : JobTable). old ++ arrival_text name kind t.ticks 0 (first_least kind) (first_greatest kind) (table_jobs t c.args.task)) c.table-table.ensures
