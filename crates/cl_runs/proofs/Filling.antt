-- Runs filled tick by tick with what is scheduled: each lawful table has a legal run.
use Rattle.std.proofs.Common.{◌≡◌, ℕ, zero, suc, ◌<◌, ◌≤◌, inl, inr, Option, None, List, [], ◌∷◌, ◌++◌, replicate, length, get_or, take, refl, sym, ap, ◌∙◌, subst, arith}
use Rattle.std.proofs.lemmas.Bool.{cases_lt}
use Rattle.std.proofs.lemmas.List.{length_push, get_or_push, get_or_append_left, take-append-le, length-replicate, get_or-replicate}
use Rattle.cl_runs.specs.{TaskTiming.{System, timing_at, IsSound}, declared.job.JobTable.JobTable, Table.{table_jobs, IsLawful}, Run.{Run, core_entries, entry_at, executed}, Legal.{released, IsScheduled, IsLegal}}
use Rattle.cl_runs.proofs.{Executed.executed_same, HeldTasks.held_moved, Scheduling.{AreAlike, scheduled_alike, scheduled_some, scheduled_entry}, NextTable.{listed, length-listed, get_or-listed, get_or-listed_past, lawful_times}}

-- each core has an entry for each of the first t ticks, the one that is scheduled
pub record IsFilled (system : System) (run : Run) (t : ℕ) : Type 0 where
  pub cores : length run.entries ≡ system.cores
  pub ticks : (core : ℕ) → core < system.cores → length (core_entries run core) ≡ t
  pub scheduled : (core tick : ℕ) → core < system.cores → tick < t
      → IsScheduled system run.table (λ i. executed system run i tick) tick core (entry_at run core tick)

-- a run with a lawful table that is filled to its end is legal
pub legal_from : (system : System) (run : Run) → IsLawful system run.table → IsFilled system run run.table.ticks → IsLegal system run
legal_from system run lawful filled = record {
  in_form = record {
    tasks = lawful.tasks;
    times = lawful_times system run.table lawful;
    cores = filled.cores;
    ticks = filled.ticks;
    entries = λ core t on h. scheduled_entry system run.table (λ i. executed system run i t) t core _ (filled.scheduled core t on h);
  };
  lawful = lawful;
  scheduled = filled.scheduled;
}

-- ---- one more entry for each core

new_entry : System → Run → ℕ → ℕ → Option ℕ
new_entry system run t core = (scheduled_some system run.table (λ i. executed system run i t) t core).0

new_entries : System → Run → ℕ → ℕ → List (Option ℕ)
new_entries system run t core = core_entries run core ++ new_entry system run t core ∷ []

pub more_entries : System → Run → ℕ → Run
more_entries system run t = record { table = run.table; entries = listed (new_entries system run t) system.cores }

module _ (system : System) (sound : IsSound system) (run : Run) (t : ℕ) (filled : IsFilled system run t) where
  pub more_table : (more_entries system run t).table ≡ run.table
  unfolding more_entries
  more_table = refl

  more_cores : length (more_entries system run t).entries ≡ system.cores
  unfolding more_entries
  more_cores = length-listed (new_entries system run t) system.cores

  more_core : (core : ℕ) → core < system.cores
      → core_entries (more_entries system run t) core ≡ core_entries run core ++ new_entry system run t core ∷ []
  unfolding more_entries new_entries
  more_core core on = get_or-listed (new_entries system run t) system.cores core [] on

  pub no_more_core : (core : ℕ) → system.cores ≤ core → core_entries (more_entries system run t) core ≡ []
  unfolding more_entries
  no_more_core core off = get_or-listed_past (new_entries system run t) system.cores core [] off

  more_ticks : (core : ℕ) → core < system.cores → length (core_entries (more_entries system run t) core) ≡ suc t
  more_ticks core on = ap length (more_core core on) ∙ omega (
    arith,
    length_push (core_entries run core) (new_entry system run t core),
    filled.ticks core on,
  )

  -- the entries below t are the old ones
  pub more_take : (core u : ℕ) → core < system.cores → u ≤ t → take u (core_entries run core) ≡ take u (core_entries (more_entries system run t) core)
  more_take core u on h = sym (ap (take u) (more_core core on)
      ∙ take-append-le u (core_entries run core) (new_entry system run t core ∷ []) (omega (arith, filled.ticks core on)))

  old_entry : (core u : ℕ) → core < system.cores → u < t → entry_at run core u ≡ entry_at (more_entries system run t) core u
  old_entry core u on h = sym (ap (λ (xs : List (Option ℕ)). get_or xs u None) (more_core core on)
      ∙ get_or_append_left (core_entries run core) (new_entry system run t core ∷ []) None u (omega (arith, filled.ticks core on)))

  last_entry : (core : ℕ) → core < system.cores → new_entry system run t core ≡ entry_at (more_entries system run t) core t
  last_entry core on = sym (ap (λ (xs : List (Option ℕ)). get_or xs t None) (more_core core on)
      ∙ get_or_push (core_entries run core) (new_entry system run t core) None t (filled.ticks core on))

  more_executed : (i u : ℕ) → i < length system.tasks → u ≤ t → executed system run i u ≡ executed system (more_entries system run t) i u
  more_executed i u is h = executed_same system run (more_entries system run t) i u (more_take (timing_at system i).core u (sound.tasks i is).on_core h)

  more_alike : (core u : ℕ) → u ≤ t → AreAlike system run.table (more_entries system run t).table
      (λ i. executed system run i u) (λ i. executed system (more_entries system run t) i u) u core
  more_alike core u h = record {
    executed = λ i is on. more_executed i u is h;
    released = λ i is on. ap (λ (x : JobTable). released (table_jobs x i) u) (sym more_table);
    held = λ i is on. held_moved (timing_at system i) _ _ _ _ (ap (λ (x : JobTable). table_jobs x i) (sym more_table)) (more_executed i u is h);
  }

  new_scheduled : (core : ℕ) → IsScheduled system run.table (λ i. executed system run i t) t core (new_entry system run t core)
  unfolding new_entry
  new_scheduled core = (scheduled_some system run.table (λ i. executed system run i t) t core).1

  scheduled_old : (core u : ℕ) → core < system.cores → u < t
      → IsScheduled system (more_entries system run t).table (λ i. executed system (more_entries system run t) i u) u core (entry_at (more_entries system run t) core u)
  scheduled_old core u on h = subst
      (λ e. IsScheduled system (more_entries system run t).table (λ i. executed system (more_entries system run t) i u) u core e) (old_entry core u on h)
      (scheduled_alike system _ _ _ _ u core (more_alike core u (omega arith)) _ (filled.scheduled core u on h))

  scheduled_last : (core : ℕ) → core < system.cores
      → IsScheduled system (more_entries system run t).table (λ i. executed system (more_entries system run t) i t) t core (entry_at (more_entries system run t) core t)
  scheduled_last core on = subst
      (λ e. IsScheduled system (more_entries system run t).table (λ i. executed system (more_entries system run t) i t) t core e) (last_entry core on)
      (scheduled_alike system _ _ _ _ t core (more_alike core t (omega arith)) _ (new_scheduled core))

  pub more_filled : IsFilled system (more_entries system run t) (suc t)
  more_filled = record {
    cores = more_cores;
    ticks = more_ticks;
    scheduled = λ core u on h. elim (cases_lt u t) [
      | inl old ↦ scheduled_old core u on old
      | inr last ↦
          let same : t ≡ u = omega arith in
          subst (λ n. IsScheduled system (more_entries system run t).table (λ i. executed system (more_entries system run t) i n) n core (entry_at (more_entries system run t) core n))
          same (scheduled_last core on)
    ];
  }

-- ---- a table filled from its first tick on

no_entries : System → JobTable → Run
no_entries system table = record { table = table; entries = replicate system.cores [] }

none_filled : (system : System) (table : JobTable) → IsFilled system (no_entries system table) 0
unfolding no_entries
none_filled system table = record {
  cores = length-replicate system.cores [];
  ticks = λ core on. ap length (get_or-replicate system.cores core [] [] on);
  scheduled = λ core t on h. absurd (omega arith);
}

-- a run of a table, filled for the first t ticks
pub record Filled (system : System) (table : JobTable) (t : ℕ) : Type 0 where
  pub run : Run
  pub of_table : run.table ≡ table
  pub filled : IsFilled system run t

none_more : (system : System) (table : JobTable) → Filled system table 0
unfolding no_entries
none_more system table = record { run = no_entries system table; of_table = refl; filled = none_filled system table }

filled_to : (system : System) → IsSound system → (table : JobTable) (t : ℕ) → Filled system table t
filled_to system sound table zero = none_more system table
filled_to system sound table (suc t) =
    let before = filled_to system sound table t in
    record {
      run = more_entries system before.run t;
      of_table = more_table system sound before.run t before.filled ∙ before.of_table;
      filled = more_filled system sound before.run t before.filled;
    }

-- each lawful table has a legal run
pub legal_of_table : (system : System) → IsSound system → (table : JobTable) → IsLawful system table
    → (run : Run) × (run.table ≡ table) × IsLegal system run
legal_of_table system sound table lawful =
    let whole = filled_to system sound table table.ticks in (
      whole.run,
      whole.of_table,
      legal_from system whole.run (subst (λ (x : JobTable). IsLawful system x) (sym whole.of_table) lawful)
          (subst (λ n. IsFilled system whole.run n) (sym (ap (λ (x : JobTable). x.ticks) whole.of_table)) whole.filled),
    )
