-- What a list of progress is where one task has executed its runnable for some ticks.
use Rattle.std.proofs.Common.{◌≡◌, ℕ, ◌+◌, ◌<◌, ◌↔◌, Some, Bool, List, length, get_or, set, sym, ap, ◌∙◌, subst}
use Rattle.std.specs.Prelude.{IsTrue}
use Rattle.std.proofs.lemmas.List.{get_or_default, get_or-set_same, get_or-set_other, length-set}
use Rattle.cl_runs.specs.{TaskTiming.System, declared.job.{Job.Job, JobTable.JobTable}, Table.table_jobs}
use Rattle.cl_sched.specs.{declared.{progress.Progress.Progress, core_progress.CoreProgress.CoreProgress}, Progress.{IsAtRunnable, HasComeTo}, CoreProgress.{no_progress, progress_at, Holds}, Inner.Executing.HasExecuted}

-- the progress at an index, read with any default
pub progress_read : (tasks : List Progress) (index : ℕ) (task : Progress) → index < length tasks → task ≡ get_or tasks index task
    → task ≡ progress_at tasks index
progress_read tasks index task h is = is ∙ get_or_default tasks index task no_progress h

-- jobs of the same task
pub jobs_along : (table : JobTable) (jobs : List Job) (one other : Progress) → jobs ≡ table_jobs table one.task → one ≡ other
    → jobs ≡ table_jobs table other.task
jobs_along table jobs one other are same = are ∙ ap (λ (p : Progress). table_jobs table p.task) same

module _ (system : System) (table : JobTable) (old new : CoreProgress) (index ticks : ℕ) (task moved : Progress) (jobs : List Job) (holds : Bool)
    (within : index < length old.tasks.items) (read : task ≡ get_or old.tasks.items index task) (are : jobs ≡ table_jobs table task.task)
    (same_task : moved.task ≡ task.task) (same_priority : moved.priority ≡ task.priority)
    (further : (done : ℕ) → IsAtRunnable jobs done task → HasComeTo jobs (done + ticks) moved)
    (holding : IsTrue holds ↔ Holds system table moved)
    (held : (other : ℕ) → (new.held ≡ Some other) ↔ ((other ≡ index) × IsTrue holds))
    (tick : new.tick ≡ old.tick) (written : new.tasks.items ≡ set old.tasks.items index moved) where
  task_is : task ≡ progress_at old.tasks.items index
  task_is = progress_read old.tasks.items index task within read

  moved_is : progress_at new.tasks.items index ≡ moved
  moved_is = ap (λ (tasks : List Progress). progress_at tasks index) written ∙ get_or-set_same old.tasks.items index moved no_progress within

  held_is : (other : ℕ) → (new.held ≡ Some other) ↔ ((other ≡ index) × Holds system table (progress_at new.tasks.items index))
  held_is other = (
    λ some. let both = (held other).0 some in (both.0, subst (λ (p : Progress). Holds system table p) (sym moved_is) (holding.0 both.1)),
    λ both. (held other).1 (both.0, holding.1 (subst (λ (p : Progress). Holds system table p) moved_is both.1)),
  )

  come : (one : Progress) → task ≡ one → (other : Progress) → moved ≡ other
      → (done : ℕ) → IsAtRunnable (table_jobs table one.task) done one → HasComeTo (table_jobs table one.task) (done + ticks) other
  come one is other is_other done at =
      let jobs_are : jobs ≡ table_jobs table one.task = jobs_along table jobs task one are is in
      subst (λ (p : Progress). HasComeTo (table_jobs table one.task) (done + ticks) p) is_other
      (subst (λ (js : List Job). HasComeTo js (done + ticks) moved) jobs_are
      (further done (subst (λ (p : Progress). IsAtRunnable jobs done p) (sym is)
      (subst (λ (js : List Job). IsAtRunnable js done one) (sym jobs_are) at))))

  pub has_executed : HasExecuted system table index ticks old new
  has_executed = record {
    tick = tick;
    as_many = ap length written ∙ length-set old.tasks.items index moved;
    others = λ other apart. ap (λ (tasks : List Progress). progress_at tasks other) written
        ∙ get_or-set_other old.tasks.items index other moved no_progress apart;
    task = ap (λ (p : Progress). p.task) moved_is ∙ same_task ∙ ap (λ (p : Progress). p.task) task_is;
    priority = ap (λ (p : Progress). p.priority) moved_is ∙ same_priority ∙ ap (λ (p : Progress). p.priority) task_is;
    further = come (progress_at old.tasks.items index) task_is (progress_at new.tasks.items index) (sym moved_is);
    held = held_is;
  }

-- where a moved task has come
pub some_come : (table : JobTable) (ticks : ℕ) (one task moved : Progress) (jobs : List Job) → task ≡ one → jobs ≡ table_jobs table task.task
    → moved.task ≡ task.task → ((done : ℕ) → IsAtRunnable jobs done task → HasComeTo jobs (done + ticks) moved)
    → ((done : ℕ) × IsAtRunnable (table_jobs table one.task) done one) → (done : ℕ) × HasComeTo (table_jobs table moved.task) done moved
some_come table ticks one task moved jobs is are same_task further (done, at) =
    let jobs_are : jobs ≡ table_jobs table one.task = jobs_along table jobs task one are is in (
      done + ticks,
      subst (λ (js : List Job). HasComeTo js (done + ticks) moved) (are ∙ ap (table_jobs table) (sym same_task))
          (further done (subst (λ (p : Progress). IsAtRunnable jobs done p) (sym is)
          (subst (λ (js : List Job). IsAtRunnable js done one) (sym jobs_are) at))),
    )
