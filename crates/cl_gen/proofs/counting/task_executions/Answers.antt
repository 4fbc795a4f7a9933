use Rattle.std.proofs.Common.{◌≡◌, ◌*◌, length, sym, ap, ◌∙◌, subst}
use Rattle.cl_model.specs.{declared.{stimulus.StimulusKind.StimulusKind, task.TaskDef.TaskDef}, Ranges.IsKindInRange, Timing.IsKindOrdered}
use Rattle.cl_model.proofs.ValidTasks.{kind_in_range, kind_ordered}
use Rattle.cl_runs.specs.{SystemOf.system_of, TaskTiming.timing_at}
use Rattle.cl_gen.specs.Count.{arrival_count, task_executions}
use Rattle.cl_runs.proofs.ModelSystem.{range_count_is}
use Rattle.cl_gen.proofs.TasksOfModels.{pattern_is}
use Rattle.cl_gen.proofs.counting.task_executions.Goals as goal

pub arrival_count-requires-clause-range : goal.arrival_count-requires-clause-range
arrival_count-requires-clause-range c =
    subst (λ (kind : StimulusKind). IsKindInRange kind) (sym c.stimulus_of.ensures)
    (kind_in_range c.args.model.now c.task.ensures.valid c.args.task c.requires.task)

pub arrival_count-requires-clause-ordered : goal.arrival_count-requires-clause-ordered
arrival_count-requires-clause-ordered c =
    subst (λ (kind : StimulusKind). IsKindOrdered kind) (sym c.stimulus_of.ensures)
    (kind_ordered c.args.model.now c.task.ensures.valid c.args.task c.requires.task)

pub returns-clause-count : goal.returns-clause-count
unfolding task_executions
returns-clause-count c =
    let model = c.args.model.now in
    let long : c.len-runnables.result ≡ length (timing_at (system_of model) c.args.task).ranges
    = c.len-runnables.ensures ∙ ap (λ (t : TaskDef). length t.runnables) c.task.ensures.task ∙ sym (range_count_is model c.args.task c.requires.task) in
    ap (λ n. n * c.arrival_count.result) long
    ∙ ap (λ n. length (timing_at (system_of model) c.args.task).ranges * n)
    (c.arrival_count.ensures.count ∙ ap (λ p. arrival_count p c.args.ticks) (pattern_is model c.args.task c.requires.task _ c.stimulus_of.ensures))
