-- Tables that are wished for, task by task; and tables that are lawful on all cores.
use Rattle.std.proofs.Common.{◌≡◌, ℕ, ◌<◌, Bool, true, Result, Ok, Err, List, [], length, get_or, sym, subst}
use Rattle.std.specs.Prelude.{IfOk}
use Rattle.cl_runs.specs.{declared.job.{Job.Job, JobTable.JobTable}, TaskTiming.{System, timing_at, IsSound}, Table.{table_jobs, AreLawfulJobs, IsLawful}}
use Rattle.cl_run_data.specs.Parts.{is_among, IsLawfulOn}
use Rattle.cl_gen.specs.Inner.WishedTasks.{AreWishedOf}

-- what follows of two things that hold of a result follows of the result
pub of_both : {X Y : Type 0} (r : Result X Y) (P Q R : X → Type 0) → ((x : X) → P x → Q x → R x) → IfOk r P → IfOk r Q → IfOk r R
of_both (Ok x) P Q R so p q = so x p q
of_both (Err e) P Q R so p q = _

module _ (system : System) (ticks : ℕ) (cores : List Bool) where
  -- the jobs of the first tasks
  pub record AreWishedFirst (n : ℕ) (tables : List (List Job)) : Type 0 where
    pub many : length tables ≡ n
    pub each : (task : ℕ) → task < n → AreWishedOf (timing_at system task) ticks cores (get_or tables task [])

  module _ (table : JobTable) (same_ticks : table.ticks ≡ ticks) (all : AreWishedFirst (length system.tasks) table.jobs) where
    pub lawful_on : IsLawfulOn system cores table
    lawful_on = record {
      tasks = all.many;
      jobs = λ task lt among.
          subst (λ n. AreLawfulJobs (timing_at system task) n (table_jobs table task)) (sym same_ticks) ((all.each task lt).lawful among);
    }

-- where all cores are marked, all jobs are lawful
pub lawful_on_all : (system : System) (cores : List Bool) → ((core : ℕ) → core < system.cores → is_among cores core ≡ true) → IsSound system
    → (table : JobTable) → IsLawfulOn system cores table → IsLawful system table
lawful_on_all system cores all sound table lawful = record {
  tasks = lawful.tasks;
  jobs = λ task lt. lawful.jobs task lt (all (timing_at system task).core (sound.tasks task lt).on_core);
}
