-- A run of which each core is filled is legal: what is scheduled on a core depends on the entries of that core alone.
use Rattle.std.proofs.Common.{◌≡◌, ℕ, ◌<◌, length, take, refl, sym, ap, arith}
use Rattle.std.specs.Prelude.{count_by}
use Rattle.cl_runs.specs.{TaskTiming.{System, timing_at}, Table.{table_jobs, IsLawful}, Run.{Run, core_entries, entry_at, is_task, executed}, Legal.IsLegal}
use Rattle.cl_runs.proofs.{Filling.legal_from, HeldTasks.held_moved, Scheduling.{AreAlike, scheduled_alike}}
use Rattle.cl_sched.specs.{CoreProgress.ticks_of, Inner.Filling.IsFilled}

module _ (system : System) (run : Run) where
  own_ticks : (core tick i : ℕ) → (timing_at system i).core ≡ core → ticks_of (take tick (core_entries run core)) i ≡ executed system run i tick
  unfolding executed
  own_ticks core tick i on = ap (λ c. count_by (is_task i) (take tick (core_entries run c))) (sym on)

  pub alike : (core tick : ℕ) → AreAlike system run.table run.table (ticks_of (take tick (core_entries run core))) (λ i. executed system run i tick) tick core
  alike core tick = record {
    executed = λ i is on. own_ticks core tick i on;
    released = λ i is on. refl;
    held = λ i is on. held_moved (timing_at system i) (table_jobs run.table i) _ _ _ refl (own_ticks core tick i on);
  }

  pub legal_of_cores : IsLawful system run.table → length run.entries ≡ system.cores → ((core : ℕ) → core < system.cores → IsFilled system run core)
      → IsLegal system run
  legal_of_cores lawful cores filled = legal_from system run lawful (record {
    cores = cores;
    ticks = λ core on. (filled core on).ticks;
    scheduled = λ core tick on h.
        let one = filled core on in
        scheduled_alike system run.table run.table _ _ tick core (alike core tick) (entry_at run core tick)
        (one.scheduled tick (omega (arith, h, one.ticks)));
  })
