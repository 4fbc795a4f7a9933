-- The run of no ticks is legal, and each legal run has legal ones of every greater length that go on from it.
use Rattle.std.proofs.Common.{◌≡◌, ℕ, zero, suc, ◌+◌, ◌-◌, ◌<◌, ◌≤◌, inl, inr, List, [], length, take, sym, ap, ◌∙◌, subst, arith}
use Rattle.std.proofs.lemmas.Bool.{cases_lt}
use Rattle.std.proofs.lemmas.List.{take-take, take_all, length-replicate, get_or-replicate, get_or_past}
use Rattle.std.proofs.lemmas.List.Elements.{All-nil}
use Rattle.cl_runs.specs.{TaskTiming.{System, timing_at, IsSound}, declared.job.Job.Job, Table.{job_at, table_jobs, HasTimes, AreLawfulJobs, IsLawful}, Run.{Run, jobs_of, core_entries, empty_run}, Legal.IsLegal, GoesOn.GoesOn}
use Rattle.cl_runs.proofs.{Work.{job_along, first_length}, Filling.legal_from, NextRun.{next_run, next_legal, next_end, next_goes_on}}

module _ (system : System) where
  no_jobs : (i : ℕ) → i < length system.tasks → table_jobs (empty_run system).table i ≡ []
  unfolding empty_run
  no_jobs i is = get_or-replicate (length system.tasks) i [] [] is

  empty_lawful : IsLawful system (empty_run system).table
  unfolding empty_run
  empty_lawful = record {
    tasks = length-replicate (length system.tasks) [];
    jobs = λ i is. subst (λ (jobs : List Job). AreLawfulJobs (timing_at system i) 0 jobs) (sym (no_jobs i is))
        (record { arrivals = omega arith; times = All-nil (HasTimes (timing_at system i)) });
  }

  -- the run of no ticks is legal
  pub empty_legal : IsLegal system (empty_run system)
  unfolding empty_run
  empty_legal = legal_from system (empty_run system) empty_lawful (record {
    cores = length-replicate system.cores [];
    ticks = λ core on. ap length (get_or-replicate system.cores core [] [] on);
    scheduled = λ core t on h. absurd (omega arith);
  })

-- a run goes on from itself
pub goes_on_refl : (system : System) (run : Run) → IsLegal system run → GoesOn run run
goes_on_refl system run legal = record {
  ticks = omega arith;
  first_jobs = λ i. sym (take_all (length (jobs_of run i)) (jobs_of run i) (omega arith));
  later_jobs = λ i k past h. absurd (omega arith);
  entries = λ core. sym (take_all run.table.ticks (core_entries run core) (entries_within core));
}
  where
    entries_within : (core : ℕ) → length (core_entries run core) ≤ run.table.ticks
    entries_within core = elim (cases_lt core system.cores) [
      | inl on ↦ omega (arith, legal.in_form.ticks core on)
      | inr off ↦ omega (arith, ap length (get_or_past run.entries core [] (omega (arith, off, legal.in_form.cores))))
    ]

-- a run that goes on from one that goes on from a third goes on from the third
module _ (one two three : Run) (first : GoesOn one two) (second : GoesOn two three) where
  jobs_through : (i : ℕ) → jobs_of one i ≡ take (length (jobs_of one i)) (jobs_of three i)
  jobs_through i =
      let fewer : length (jobs_of one i) ≤ length (jobs_of two i) = first_length _ _ _ (first.first_jobs i) in
      first.first_jobs i ∙ ap (take (length (jobs_of one i))) (second.first_jobs i)
      ∙ take-take (length (jobs_of one i)) (length (jobs_of two i)) (jobs_of three i) fewer

  later_through : (i k : ℕ) → length (jobs_of one i) ≤ k → k < length (jobs_of three i)
      → one.table.ticks ≤ (job_at (jobs_of three i) k).arrival
  later_through i k past h = elim (cases_lt k (length (jobs_of two i))) [
    | inl within ↦ omega (
      arith,
      first.later_jobs i k past within,
      ap (λ (job : Job). job.arrival) (job_along _ _ _ (second.first_jobs i) k within),
    )
    | inr beyond ↦ omega (arith, first.ticks, second.later_jobs i k beyond h)
  ]

  pub goes_on_trans : GoesOn one three
  goes_on_trans = record {
    ticks = omega (arith, first.ticks, second.ticks);
    first_jobs = jobs_through;
    later_jobs = later_through;
    entries = λ core. first.entries core ∙ ap (take one.table.ticks) (second.entries core)
        ∙ take-take one.table.ticks two.table.ticks (core_entries three core) first.ticks;
  }

-- a legal run that goes on from another
pub record Continues (system : System) (run : Run) (ticks : ℕ) (longer : Run) : Type 0 where
  pub end : longer.table.ticks ≡ ticks
  pub legal : IsLegal system longer
  pub goes_on : GoesOn run longer

module _ (system : System) (sound : IsSound system) where
  one_more : (run : Run) (ticks : ℕ) (longer : Run) → Continues system run ticks longer → Continues system run (suc ticks) (next_run system longer)
  one_more run ticks longer c = record {
    end = next_end system sound longer c.legal ∙ ap suc c.end;
    legal = next_legal system sound longer c.legal;
    goes_on = goes_on_trans run longer (next_run system longer) c.goes_on (next_goes_on system sound longer c.legal);
  }

  extended : (run : Run) → IsLegal system run → (d : ℕ) → (longer : Run) × Continues system run (d + run.table.ticks) longer
  extended run legal zero = (run, record { end = omega arith; legal = legal; goes_on = goes_on_refl system run legal })
  extended run legal (suc d) =
      let (longer, c) = extended run legal d in
      (next_run system longer, subst (λ n. Continues system run n (next_run system longer)) (omega arith) (one_more run (d + run.table.ticks) longer c))

  -- each legal run goes on to every greater length
  pub extension : (run : Run) → IsLegal system run → (ticks : ℕ) → run.table.ticks ≤ ticks
      → (longer : Run) × (longer.table.ticks ≡ ticks) × IsLegal system longer × GoesOn run longer
  extension run legal ticks h =
      let (longer, c) = extended run legal (ticks - run.table.ticks) in
      (longer, omega (arith, h, c.end), c.legal, c.goes_on)

  -- there is a legal run of every length
  pub some_legal : (ticks : ℕ) → (run : Run) × (run.table.ticks ≡ ticks) × IsLegal system run
  unfolding empty_run
  some_legal ticks =
      let (longer, c) = extended (empty_run system) (empty_legal system) ticks in
      (longer, omega (arith, c.end), c.legal)
