-- Two runs that are alike on a core: its tasks execute the same there, and what is scheduled in one is scheduled in the
-- other.
use Rattle.std.proofs.Common.{◌≡◌, ℕ, Option, None, List, get_or, take, refl, sym, ap, ◌∙◌, subst}
use Rattle.cl_runs.specs.{declared.job.Job.Job, TaskTiming.{System, timing_at}, Run.{Run, core_entries, entry_at, executed}, Legal.{released, IsScheduled}}
use Rattle.cl_runs.proofs.{Executed.executed_same, HeldTasks.held_moved, Scheduling.{AreAlike, scheduled_alike}}
use Rattle.cl_run_data.specs.Parts.{AreAlikeOn}

-- a run is like itself on each core
pub alike_same : (system : System) (core : ℕ) (run : Run) → AreAlikeOn system core run run
alike_same system core run = record { ticks = refl; entries = refl; jobs = λ task is on. refl }

-- and runs are alike either way
pub alike_back : (system : System) (core : ℕ) (one other : Run) → AreAlikeOn system core one other → AreAlikeOn system core other one
alike_back system core one other alike = record {
  ticks = sym alike.ticks;
  entries = sym alike.entries;
  jobs = λ task is on. sym (alike.jobs task is on);
}

module _ (system : System) (core : ℕ) (one other : Run) (alike : AreAlikeOn system core one other) where
  -- the entries of the core are the same
  pub entry_alike : (tick : ℕ) → entry_at one core tick ≡ entry_at other core tick
  entry_alike tick = ap (λ (entries : List (Option ℕ)). get_or entries tick None) alike.entries

  -- a task of the core has executed as much
  pub executed_alike : (task moment : ℕ) → (timing_at system task).core ≡ core → executed system one task moment ≡ executed system other task moment
  executed_alike task moment on = executed_same system one other task moment
      (ap (take moment) (ap (core_entries one) on ∙ alike.entries ∙ sym (ap (core_entries other) on)))

  at_tick : (tick : ℕ) → AreAlike system one.table other.table (λ task. executed system one task tick) (λ task. executed system other task tick) tick core
  at_tick tick = record {
    executed = λ task is on. executed_alike task tick on;
    released = λ task is on. ap (λ (jobs : List Job). released jobs tick) (alike.jobs task is on);
    held = λ task is on. held_moved (timing_at system task) _ _ _ _ (alike.jobs task is on) (executed_alike task tick on);
  }

  -- what is scheduled in one is scheduled in the other
  pub scheduled_moved : (tick : ℕ)
      → IsScheduled system one.table (λ task. executed system one task tick) tick core (entry_at one core tick)
      → IsScheduled system other.table (λ task. executed system other task tick) tick core (entry_at other core tick)
  scheduled_moved tick scheduled =
      subst (λ entry. IsScheduled system other.table (λ task. executed system other task tick) tick core entry) (entry_alike tick)
      (scheduled_alike system one.table other.table _ _ tick core (at_tick tick) (entry_at one core tick) scheduled)
