use Rattle.std.proofs.Common.{◌≡◌, ◌≤◌, List, map, sym, ap, ◌∙◌, subst}
use Rattle.std.specs.Prelude.{All, IfOk, OnOk}
use Rattle.cl_model.specs.{declared.{stimulus.StimulusKind.StimulusKind, task.{RunnableDef.RunnableDef, TaskDef.TaskDef}}, Ranges.IsKindInRange, Timing.IsKindOrdered}
use Rattle.cl_model.proofs.ValidTasks.{kind_in_range, kind_ordered, times_ordered}
use Rattle.cl_runs.specs.{SystemOf.{range_of, system_of}, TaskTiming.{TimeRange, timing_at}}
use Rattle.cl_gen.specs.{Words.word_of, Drawn.{drawn_jobs, word_after}}
use Rattle.cl_gen.proofs.TasksOfModels.{pattern_is, ranges_of_slice}
use Rattle.cl_gen.proofs.drawing.draw_task.Goals as goal

pub draw_jobs-requires-clause-kind : goal.draw_jobs-requires-clause-kind
draw_jobs-requires-clause-kind c =
    subst (λ (kind : StimulusKind). IsKindInRange kind) (sym c.stimulus_of.ensures)
    (kind_in_range c.args.model.now c.task.ensures.valid c.args.task c.requires.task)

pub draw_jobs-requires-clause-kind_ordered : goal.draw_jobs-requires-clause-kind_ordered
draw_jobs-requires-clause-kind_ordered c =
    subst (λ (kind : StimulusKind). IsKindOrdered kind) (sym c.stimulus_of.ensures)
    (kind_ordered c.args.model.now c.task.ensures.valid c.args.task c.requires.task)

pub draw_jobs-requires-clause-ordered : goal.draw_jobs-requires-clause-ordered
draw_jobs-requires-clause-ordered c =
    let model = c.args.model.now in
    subst (λ (rs : List RunnableDef). All (λ (r : RunnableDef). r.least ≤ r.greatest) rs)
    (sym (c.as_slice-runnables.ensures ∙ ap (λ (t : TaskDef). t.runnables) c.task.ensures.task))
    (times_ordered model c.task.ensures.valid c.args.task c.requires.task)

pub returns-clause-drawn : goal.returns-clause-drawn
returns-clause-drawn c =
    let model = c.args.model.now in
    let word = word_of c.args.draws.now.seed in
    let from = c.args.draws.now.words in
    subst (λ (rs : List TimeRange). IfOk c.draw_jobs.result (λ jobs. jobs ≡ drawn_jobs word from (timing_at (system_of model) c.args.task).pattern rs c.args.ticks))
    (ranges_of_slice model c.args.task c.requires.task _ (c.as_slice-runnables.ensures ∙ ap (λ (t : TaskDef). t.runnables) c.task.ensures.task))
    (subst (λ (p : StimulusKind). IfOk c.draw_jobs.result (λ jobs. jobs ≡ drawn_jobs word from p (map range_of c.as_slice-runnables.result.now) c.args.ticks))
    (pattern_is model c.args.task c.requires.task _ c.stimulus_of.ensures)
    c.draw_jobs.ensures.drawn)

pub returns-clause-taken : goal.returns-clause-taken
returns-clause-taken c =
    let model = c.args.model.now in
    let word = word_of c.args.draws.now.seed in
    let from = c.args.draws.now.words in
    subst (λ (rs : List TimeRange). OnOk c.draw_jobs.result
    (c.draw_jobs.new.draws ≡ record c.args.draws.now { words = word_after word from (timing_at (system_of model) c.args.task).pattern rs c.args.ticks }))
    (ranges_of_slice model c.args.task c.requires.task _ (c.as_slice-runnables.ensures ∙ ap (λ (t : TaskDef). t.runnables) c.task.ensures.task))
    (subst (λ (p : StimulusKind). OnOk c.draw_jobs.result
    (c.draw_jobs.new.draws ≡ record c.args.draws.now { words = word_after word from p (map range_of c.as_slice-runnables.result.now) c.args.ticks }))
    (pattern_is model c.args.task c.requires.task _ c.stimulus_of.ensures)
    c.draw_jobs.ensures.taken)
