-- Each legal run has a legal one that goes on from it by one tick.
use Rattle.std.proofs.Common.{◌≡◌, ℕ, suc, ◌<◌, ◌≤◌, inl, inr, [], length, take, refl, sym, ap, ◌∙◌, subst, arith}
use Rattle.std.proofs.lemmas.Bool.{cases_lt}
use Rattle.std.proofs.lemmas.List.{take_all, get_or_past}
use Rattle.cl_runs.specs.{TaskTiming.{System, timing_at, IsSound}, declared.job.JobTable.JobTable, Table.{job_at, table_jobs, IsLawful}, Run.{Run, jobs_of, core_entries, executed}, Legal.IsLegal, GoesOn.GoesOn}
use Rattle.cl_runs.proofs.{Executed.executed_same, HeldTasks.{held_longer, held_shorter, held_moved}, LegalFacts.executed_total, Scheduling.{AreAlike, scheduled_alike}, Filling.{IsFilled, legal_from, more_entries, more_table, no_more_core, more_take, more_filled}, NextTable.next_table}
use Rattle.cl_runs.proofs.NextTable.{next_ticks, no_next_jobs, next_lawful, next_released, next_first, next_later}

-- the same entries with the table for one more tick
retabled : System → Run → Run
retabled system run = record { table = next_table system run.table; entries = run.entries }

pub next_run : System → Run → Run
next_run system run = more_entries system (retabled system run) run.table.ticks

module _ (system : System) (sound : IsSound system) (run : Run) (legal : IsLegal system run) where
  retabled_table : (retabled system run).table ≡ next_table system run.table
  unfolding retabled
  retabled_table = refl

  retabled_core : (core : ℕ) → core_entries (retabled system run) core ≡ core_entries run core
  unfolding retabled
  retabled_core core = refl

  retabled_executed : (i t : ℕ) → executed system run i t ≡ executed system (retabled system run) i t
  retabled_executed i t = executed_same system run (retabled system run) i t (ap (take t) (sym (retabled_core (timing_at system i).core)))

  -- the old entries are those that are scheduled with the new table: no further job is released or begun before the end
  retabled_alike : (core t : ℕ) → t < run.table.ticks → AreAlike system run.table (retabled system run).table
      (λ i. executed system run i t) (λ i. executed system (retabled system run) i t) t core
  unfolding retabled
  retabled_alike core t h = record {
    executed = λ i is on. retabled_executed i t;
    released = λ i is on. next_released system run.table i t is h;
    held = λ i is on.
        let moved = held_moved (timing_at system i) (table_jobs (next_table system run.table) i) _ _ _ refl (retabled_executed i t) in (
          λ held. moved.0 (held_longer (timing_at system i) (jobs_of run i) _ (next_first system run.table i is) (executed system run i t) held),
          λ held. held_shorter (timing_at system i) (jobs_of run i) _ (next_first system run.table i is) (executed system run i t)
              (executed_total system sound run legal i is t) (moved.1 held),
        );
  }

  retabled_filled : IsFilled system (retabled system run) run.table.ticks
  unfolding retabled
  retabled_filled = record {
    cores = legal.in_form.cores;
    ticks = legal.in_form.ticks;
    scheduled = λ core t on h. scheduled_alike system _ _ _ _ t core (retabled_alike core t h) _ (legal.scheduled core t on h);
  }

  next_run_table : (next_run system run).table ≡ next_table system run.table
  unfolding next_run
  next_run_table = more_table system sound (retabled system run) run.table.ticks retabled_filled ∙ retabled_table

  pub next_end : (next_run system run).table.ticks ≡ suc run.table.ticks
  next_end = ap (λ (x : JobTable). x.ticks) next_run_table ∙ next_ticks system run.table

  pub next_legal : IsLegal system (next_run system run)
  unfolding next_run
  next_legal = legal_from system (next_run system run)
      (subst (λ (x : JobTable). IsLawful system x) (sym next_run_table) (next_lawful system run.table sound legal.lawful))
      (subst (λ n. IsFilled system (next_run system run) n) (sym next_end)
      (more_filled system sound (retabled system run) run.table.ticks retabled_filled))

  -- past the last task and the last core there is nothing
  no_jobs : (i : ℕ) → length system.tasks ≤ i → jobs_of run i ≡ []
  no_jobs i past = get_or_past run.table.jobs i [] (omega (arith, past, legal.lawful.tasks))

  no_core : (core : ℕ) → system.cores ≤ core → core_entries run core ≡ []
  no_core core past = get_or_past run.entries core [] (omega (arith, past, legal.in_form.cores))

  first_jobs_next : (i : ℕ) → jobs_of run i ≡ take (length (jobs_of run i)) (jobs_of (next_run system run) i)
  first_jobs_next i = elim (cases_lt i (length system.tasks)) [
    | inl is ↦ next_first system run.table i is ∙ ap (λ (x : JobTable). take (length (jobs_of run i)) (table_jobs x i)) (sym next_run_table)
    | inr past ↦ no_jobs i past ∙ ap (λ n. take n (jobs_of (next_run system run) i)) (sym (ap length (no_jobs i past)))
  ]

  later_jobs_next : (i k : ℕ) → length (jobs_of run i) ≤ k → k < length (jobs_of (next_run system run) i)
      → run.table.ticks ≤ (job_at (jobs_of (next_run system run) i) k).arrival
  later_jobs_next i k past h = subst
      (λ (x : JobTable). k < length (table_jobs x i) → run.table.ticks ≤ (job_at (table_jobs x i) k).arrival) (sym next_run_table)
      (λ below. elim (cases_lt i (length system.tasks)) [
        | inl is ↦ next_later system run.table i k is past below
        | inr none ↦ absurd (omega (arith, below, ap length (no_next_jobs system run.table i none)))
      ]) h

  entries_next : (core : ℕ) → core_entries run core ≡ take run.table.ticks (core_entries (next_run system run) core)
  unfolding next_run
  entries_next core = elim (cases_lt core system.cores) [
    | inl on ↦ sym (take_all run.table.ticks (core_entries run core) (omega (arith, legal.in_form.ticks core on)))
        ∙ ap (take run.table.ticks) (sym (retabled_core core))
        ∙ more_take system sound (retabled system run) run.table.ticks retabled_filled core run.table.ticks on (omega arith)
    | inr off ↦ no_core core off
        ∙ sym (ap (take run.table.ticks) (no_more_core system sound (retabled system run) run.table.ticks retabled_filled core off)
        ∙ take_all run.table.ticks [] (omega arith))
  ]

  pub next_goes_on : GoesOn run (next_run system run)
  next_goes_on = record {
    ticks = omega (arith, next_end);
    first_jobs = first_jobs_next;
    later_jobs = later_jobs_next;
    entries = entries_next;
  }
