-- Runs in order: their jobs take time. Legal runs are in order, and so is what a run shows of one.
use Rattle.std.proofs.Common.{◌≡◌, ℕ, ◌<◌, ◌≤◌, List, length, refl, sym, subst, arith}
use Rattle.std.specs.Prelude.{slice_index, All}
use Rattle.std.proofs.lemmas.List.{get_or_default}
use Rattle.cl_model.specs.{declared.group.Group.Group, Groups.{no_group, group_at}}
use Rattle.cl_runs.specs.{declared.job.Job.Job, Table.{no_job, job_at}, TaskTiming.{System, timing_at, IsSound}, Run.{Run, jobs_of, IsInForm}, Legal.IsLegal, MomentOrder.AreGroupsOf}
use Rattle.cl_runs.proofs.{LegalFacts.{job_places, time_positive}, RunArrivals.arrivals_rise}
use Rattle.cl_run_data.specs.Parts.{ShowsTask, ShowsGroups}
use Rattle.cl_run_data.proofs.ShownTasks.{groups_show_task}
use Rattle.cl_check.specs.InOrder.{AreTimesPositive, AreJobsInOrder, IsRunInOrder, AreGroupsInOrder}

-- each runnable of a job takes a tick at least
pub job_time : (system : System) (run : Run) → IsInForm system run → (task : ℕ) → task < length system.tasks → AreTimesPositive (jobs_of run task)
    → (job place : ℕ) → job < length (jobs_of run task) → place < length (timing_at system task).ranges
    → 1 ≤ slice_index (job_at (jobs_of run task) job).times place
job_time system run in_form task is times job place in_table is_runnable =
    times job no_job in_table place 0 (omega (arith, is_runnable, in_form.times task job is in_table))

module _ (system : System) (sound : IsSound system) where
  module _ (run : Run) (legal : IsLegal system run) where
    times_at : (task : ℕ) → task < length system.tasks → (job : ℕ) → job < length (jobs_of run task)
        → All (λ (time : ℕ). 1 ≤ time) (job_at (jobs_of run task) job).times
    times_at task is job in_table place d within =
        let time : 1 ≤ slice_index (job_at (jobs_of run task) job).times place
        = time_positive system sound run legal task is job place in_table (omega (arith, within, job_places system sound run legal task is job in_table)) in
        subst (λ t. 1 ≤ t) (sym (get_or_default (job_at (jobs_of run task) job).times place d 0 within)) time

    pub legal_in_order : IsRunInOrder system run
    legal_in_order task is = record {
      times = λ job d in_table.
          subst (λ (j : Job). All (λ (time : ℕ). 1 ≤ time) j.times) (sym (get_or_default (jobs_of run task) job d no_job in_table))
          (times_at task is job in_table);
      arrivals = arrivals_rise system sound run legal task is;
    }

  -- a task that a run shows
  pub shown_in_order : (task : ℕ) (run : Run) → ShowsTask system task run → task < length system.tasks → AreJobsInOrder (jobs_of run task)
  shown_in_order task run shows is =
      let same : jobs_of run task ≡ jobs_of shows.whole task = shows.alike.jobs task is refl in
      subst AreJobsInOrder (sym same) (legal_in_order shows.whole shows.legal task is)

  pub shown_groups_in_order : (groups : List Group) → AreGroupsOf system groups → (run : Run) → ShowsGroups system groups run → AreGroupsInOrder groups run
  shown_groups_in_order groups of run shows place within =
      shown_in_order (group_at groups place).task run (groups_show_task system groups run shows place within) (of place no_group within)

-- the groups of a run in order
pub groups_in_order : (system : System) (groups : List Group) → AreGroupsOf system groups → (run : Run) → IsRunInOrder system run
    → AreGroupsInOrder groups run
groups_in_order system groups of run ordered place within = ordered (group_at groups place).task (of place no_group within)
