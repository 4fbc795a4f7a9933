use Rattle.std.proofs.Common.{◌≡◌, ℕ, List, [], ◌∷◌, ◌++◌, length, sym, ap, ◌∙◌}
use Rattle.std.specs.Prelude.{codes}
use Rattle.cl_model.specs.{declared.{model.SystemModel.SystemModel, task.TaskDef.TaskDef}, ByNumber.task_at}
use Rattle.cl_runs.specs.declared.job.Job.{Job}
use Rattle.cl_trace.specs.{Trace.{JobOf, item_text, numbers}, Inner.Pieces.AreTimes}
use Rattle.cl_trace.proofs.LineFacts.{split_line, two_and_more}
use Rattle.cl_trace.proofs.lines.job_after.Goals as goal

-- a line of a job, behind the name of its task
line_parts : (model : SystemModel) (task : ℕ) (job : Job) (text rest name : List ℕ) → name ≡ (task_at model task).name
    → text ≡ item_text model (JobOf task job) ++ rest
    → text ≡ codes "job " ++ (name ++ (numbers (job.arrival ∷ job.release ∷ job.times) ++ 10 ∷ rest))
unfolding item_text
line_parts model task job text rest name named is =
    let numbers_of = numbers (job.arrival ∷ job.release ∷ job.times) in
    is ∙ split_line (codes "job ") (task_at model task).name numbers_of rest ∙ ap (λ n. codes "job " ++ (n ++ (numbers_of ++ 10 ∷ rest))) (sym named)

name_of : (model : SystemModel) (task : ℕ) (name : List ℕ) (t : TaskDef) → name ≡ t.name → t ≡ task_at model task → name ≡ (task_at model task).name
name_of model task name t is same = is ∙ ap (λ (t : TaskDef). t.name) same

count_of : (model : SystemModel) (task count : ℕ) (t : TaskDef) → count ≡ length t.runnables → t ≡ task_at model task
    → count ≡ length (task_at model task).runnables
count_of model task count t is same = is ∙ ap (λ (t : TaskDef). length t.runnables) same

pub returns-in_default-clause-none : goal.returns-in_default-clause-none
returns-in_default-clause-none c = λ job rest of_task is.
    let name = name_of c.args.model.now c.args.task c.as_slice.result.now c.task-task.result.now c.as_slice.ensures.bytes c.task-task.ensures.task in
    let fits = line_parts c.args.model.now c.args.task job c.args.text.now rest c.as_slice.result.now name is in
    c.in_default.ensures.only job.arrival job.release job.times rest of_task.in_range.arrival of_task.in_range.release fits

pub returns-in_default-2-clause-none : goal.returns-in_default-2-clause-none
returns-in_default-2-clause-none c = λ job rest of_task is.
    let name = name_of c.args.model.now c.args.task c.as_slice.result.now c.task-task.result.now c.as_slice.ensures.bytes c.task-task.ensures.task in
    let fits = line_parts c.args.model.now c.args.task job c.args.text.now rest c.as_slice.result.now name is in
    let head = c.in-Some.ensures.only job.arrival job.release job.times rest of_task.in_range.arrival of_task.in_range.release fits in
    let count = count_of c.args.model.now c.args.task c.len.result c.task-task.result.now c.len.ensures c.task-task.ensures.task in
    let are : AreTimes c.len.result c.in-Some.behind.now job.times (10 ∷ rest)
    = record { size = of_task.times ∙ sym count; in_range = of_task.in_range.times; parts = head.2 } in
    (rw c.in_default-2.is at c.in_ok-times.ensures.none) job.times rest are

pub returns-in-None-clause-none : goal.returns-in-None-clause-none
returns-in-None-clause-none c = λ job rest of_task is.
    let name = name_of c.args.model.now c.args.task c.as_slice.result.now c.task-task.result.now c.as_slice.ensures.bytes c.task-task.ensures.task in
    let fits = line_parts c.args.model.now c.args.task job c.args.text.now rest c.as_slice.result.now name is in
    let head = c.in-Some.ensures.only job.arrival job.release job.times rest of_task.in_range.arrival of_task.in_range.release fits in
    let count = count_of c.args.model.now c.args.task c.len.result c.task-task.result.now c.len.ensures c.task-task.ensures.task in
    let are : AreTimes c.len.result c.in-Some.behind.now job.times (10 ∷ rest)
    = record { size = of_task.times ∙ sym count; in_range = of_task.in_range.times; parts = head.2 } in
    let read = (rw c.in-Some-2.is at c.in_ok-times.ensures.only) job.times rest are in
    c.in-None.ensures.none rest read.1

pub returns-in-Some-byte_after-clause-some : goal.returns-in-Some-byte_after-clause-some
unfolding item_text
returns-in-Some-byte_after-clause-some c =
    let name = name_of c.args.model.now c.args.task c.as_slice.result.now c.task-task.result.now c.as_slice.ensures.bytes c.task-task.ensures.task in
    let count = count_of c.args.model.now c.args.task c.len.result c.task-task.result.now c.len.ensures c.task-task.ensures.task in
    let times = rw c.in-Some-2.is at c.in_ok-times.ensures.some in
    let numbers_of = numbers (c.in-Some.arrival ∷ c.in-Some.release ∷ c.in-Some-2.times) in
    let behind : numbers (c.in-Some.arrival ∷ c.in-Some.release ∷ []) ++ c.in-Some.behind.now ≡ numbers_of ++ c.in-Some-2.behind.now
    = ap (λ t. numbers (c.in-Some.arrival ∷ c.in-Some.release ∷ []) ++ t) times.parts
    ∙ two_and_more c.in-Some.arrival c.in-Some.release c.in-Some-2.times c.in-Some-2.behind.now in (
      record {
        is_task = c.requires;
        times = times.size ∙ count;
        in_range = record { arrival = c.in-Some.ensures.within.0; release = c.in-Some.ensures.within.1; times = times.in_range };
      },
      c.in-Some.ensures.some
          ∙ ap (λ n. codes "job " ++ (n ++ (numbers (c.in-Some.arrival ∷ c.in-Some.release ∷ []) ++ c.in-Some.behind.now))) name
          ∙ ap (λ t. codes "job " ++ ((task_at c.args.model.now c.args.task).name ++ t)) (behind ∙ ap (λ t. numbers_of ++ t) c.in-Some-byte_after.ensures.some)
          ∙ sym (split_line (codes "job ") (task_at c.args.model.now c.args.task).name numbers_of c.in-Some-byte_after.rest.now),
    )
