-- A run in form is legal, or has a first broken rule.
use Rattle.std.proofs.Common.{◌≡◌, ℕ, zero, suc, ◌+◌, ◌<◌, ◌⊎◌, inl, inr, Bool, true, false, Option, Some, None, List, [], ◌∷◌, ◌++◌, length, refl, sym, ap, ◌∙◌, subst, arith}
use Rattle.std.specs.Prelude.{nat_le, nat_lt, ◌&&◌}
use Rattle.std.specs.List.{All, flat_map, range_with_len}
use Rattle.std.proofs.lemmas.List.Elements.{All-nil, All-cons, All-append, All-head}
use Rattle.cl_model.specs.{declared.stimulus.StimulusKind.StimulusKind, Timing.greatest_jitter}
use Rattle.cl_runs.specs.{declared.job.{Job.Job, JobTable.JobTable}, Pattern.{first_least, first_greatest, least_gap, greatest_gap}, Table.table_jobs, TaskTiming.{TimeRange, System, timing_at, IsSound}, Run.{Run, entry_at, executed, IsInForm}, Legal.{IsScheduled, IsLegal}}
use Rattle.cl_runs.proofs.{Executed.cases_entry, FirstBelow.{IsFirst, first_or_none}, Scheduling.{scheduled_once, scheduled_some}}
use Rattle.cl_check.specs.{declared.run_fault.{Rule.{Rule, TheVariants.Schedule}, RunFault.{RunFault, TheVariants.{Illegal, NoMemory}}}, Legality.{fault_unless, first_fault, are_in_range, arrival_faults, release_faults, time_faults, job_faults, faults_from, faults_of_task, table_faults}}
use Rattle.cl_check.specs.Legality.{IsScheduleKept, IsFirstOnCore, BreaksSchedule, IsFirstBroken}
use Rattle.cl_check.proofs.BrokenRules.{checked_legal}

abbrev Decided : Type 0 → Type 0
Decided A = A ⊎ (A → ⊥)

-- a broken rule
abbrev pub IsBroken : System → Run → Type 0
IsBroken system run = (rule : Rule) × (place : ℕ) × (tick : ℕ) × IsFirstBroken system run (Illegal rule place tick)

-- ---- the faults of a table are broken rules

abbrev IsRule : RunFault → Type 0
IsRule (Illegal rule place tick) = Unit {0}
IsRule NoMemory = ⊥

unless_rule : (test : Bool) (rule : Rule) (place tick : ℕ) → All IsRule (fault_unless test (Illegal rule place tick))
unless_rule true rule place tick = All-nil IsRule
unless_rule false rule place tick = All-cons IsRule (Illegal rule place tick) [] tt (All-nil IsRule)

job_rules : (pattern : StimulusKind) (ranges : List TimeRange) (ticks task low high : ℕ) (job : Job) → All IsRule (job_faults pattern ranges ticks task low high job)
job_rules pattern ranges ticks task low high job = All-append IsRule (arrival_faults ticks task low high job) (release_faults pattern task job ++ time_faults ranges task job)
    (unless_rule ((nat_le low job.arrival && nat_le job.arrival high) && nat_lt job.arrival ticks) _ task job.arrival)
    (All-append IsRule (release_faults pattern task job) (time_faults ranges task job)
    (unless_rule (nat_le job.arrival job.release && nat_le job.release (job.arrival + greatest_jitter pattern)) _ task job.arrival)
    (unless_rule (are_in_range ranges job.times) _ task job.arrival))

jobs_rules : (pattern : StimulusKind) (ranges : List TimeRange) (ticks task : ℕ) (jobs : List Job) (k low high : ℕ) → All IsRule (faults_from pattern ranges ticks task k low high jobs)
jobs_rules pattern ranges ticks task [] k low high = unless_rule (nat_le ticks high) _ task high
jobs_rules pattern ranges ticks task (job ∷ jobs) k low high = All-append IsRule (job_faults pattern ranges ticks task low high job)
    (faults_from pattern ranges ticks task (suc k) (job.arrival + least_gap pattern k) (job.arrival + greatest_gap pattern k) jobs)
    (job_rules pattern ranges ticks task low high job)
    (jobs_rules pattern ranges ticks task jobs (suc k) (job.arrival + least_gap pattern k) (job.arrival + greatest_gap pattern k))

flat_rules : (f : ℕ → List RunFault) (n a : ℕ) → ((k : ℕ) → All IsRule (f k)) → All IsRule (flat_map f (range_with_len a n))
flat_rules f zero a each = All-nil IsRule
flat_rules f (suc n) a each = All-append IsRule (f a) (flat_map f (range_with_len (a + 1) n)) (each a) (flat_rules f n (a + 1) each)

table_rules : (system : System) (table : JobTable) → All IsRule (table_faults system table)
table_rules system table = flat_rules (faults_of_task system table) (length system.tasks) 0 (λ task.
    let timing = timing_at system task in
    jobs_rules timing.pattern timing.ranges table.ticks task (table_jobs table task) 0 (first_least timing.pattern) (first_greatest timing.pattern))

-- ---- the schedule

module _ (system : System) (sound : IsSound system) (run : Run) where
  by_entry : (core tick : ℕ) (e f : Option ℕ) → IsScheduled system run.table (λ task. executed system run task tick) tick core e → f ≡ entry_at run core tick
      → Decided (IsScheduleKept system run core tick)
  by_entry core tick None None scheduled is = inl (subst (IsScheduled system run.table (λ task. executed system run task tick) tick core) is scheduled)
  by_entry core tick None (Some j) scheduled is = inr (λ kept. differ
      (scheduled_once system sound run.table (λ task. executed system run task tick) tick core None (entry_at run core tick) scheduled kept))
    where
      no_some : None ≡ Some j → ⊥
      no_some wrong = cc

      differ : None ≡ entry_at run core tick → ⊥
      differ same = let wrong : None ≡ Some j = same ∙ sym is in absurd (no_some wrong)
  by_entry core tick (Some i) f scheduled is = elim (cases_entry i f) [
    | inl same ↦ inl (subst (IsScheduled system run.table (λ task. executed system run task tick) tick core) (sym same ∙ is) scheduled)
    | inr other ↦ inr (λ kept. other (is_of (scheduled_once system sound run.table (λ task. executed system run task tick) tick core (Some i) (entry_at run core tick) scheduled kept)))
  ]
    where
      is_of : Some i ≡ entry_at run core tick → f ≡ Some i
      is_of same = is ∙ sym same

  kept_or_not : (core tick : ℕ) → Decided (IsScheduleKept system run core tick)
  kept_or_not core tick =
      let there = scheduled_some system run.table (λ task. executed system run task tick) tick core in
      by_entry core tick there.0 (entry_at run core tick) there.1 refl

  broken_or_not : (core tick : ℕ) → Decided (IsScheduleKept system run core tick → ⊥)
  broken_or_not core tick = elim (kept_or_not core tick) [
    | inl kept ↦ inr (λ not. not kept)
    | inr not ↦ inl not
  ]

  kept_unless : (core tick : ℕ) → ((IsScheduleKept system run core tick → ⊥) → ⊥) → IsScheduleKept system run core tick
  kept_unless core tick none = elim (kept_or_not core tick) [
    | inl kept ↦ kept
    | inr not ↦ absurd (none not)
  ]

  abbrev BreaksAt : (core : ℕ) → Type 0
  BreaksAt core = (tick : ℕ) × IsFirstOnCore system run core tick

  core_or_not : (core : ℕ) → BreaksAt core ⊎ ((t : ℕ) → t < run.table.ticks → IsScheduleKept system run core t)
  core_or_not core = by_first (first_or_none (λ t. IsScheduleKept system run core t → ⊥) (broken_or_not core) run.table.ticks)
    where
      by_first : ((t : ℕ) × IsFirst (λ u. IsScheduleKept system run core u → ⊥) run.table.ticks t) ⊎ ((t : ℕ) → t < run.table.ticks → (IsScheduleKept system run core t → ⊥) → ⊥)
          → BreaksAt core ⊎ ((t : ℕ) → t < run.table.ticks → IsScheduleKept system run core t)
      by_first (inl found) = inl (
        found.0,
        record {
          is_tick = found.1.within;
          broken = found.1.holds;
          earlier = λ t lt. kept_unless core t (λ not. omega (arith, lt, found.1.least t (omega (arith, lt, found.1.within)) not));
        },
      )
      by_first (inr none) = inr (λ t lt. kept_unless core t (none t lt))

  core_decided : (core : ℕ) → Decided (BreaksAt core)
  core_decided core = elim (core_or_not core) [
    | inl breaks ↦ inl breaks
    | inr kept ↦ inr (λ breaks. breaks.1.broken (kept breaks.0 breaks.1.is_tick))
  ]

  kept_core : (core : ℕ) → (BreaksAt core → ⊥) → (t : ℕ) → t < run.table.ticks → IsScheduleKept system run core t
  kept_core core none = elim (core_or_not core) [
    | inl breaks ↦ absurd (none breaks)
    | inr kept ↦ kept
  ]

  schedule_or_not : ((core : ℕ) × (tick : ℕ) × BreaksSchedule system run (Illegal Schedule core tick))
      ⊎ ((core t : ℕ) → core < system.cores → t < run.table.ticks → IsScheduleKept system run core t)
  schedule_or_not = by_first (first_or_none BreaksAt core_decided system.cores)
    where
      by_first : ((core : ℕ) × IsFirst BreaksAt system.cores core) ⊎ ((core : ℕ) → core < system.cores → BreaksAt core → ⊥)
          → ((core : ℕ) × (tick : ℕ) × BreaksSchedule system run (Illegal Schedule core tick))
          ⊎ ((core t : ℕ) → core < system.cores → t < run.table.ticks → IsScheduleKept system run core t)
      by_first (inl found) = inl (
        found.0,
        found.1.holds.0,
        record {
          core = found.0;
          is_core = found.1.within;
          breaks = record { tick = found.1.holds.0; fault_is = refl; first_there = found.1.holds.1 };
          before = λ other t less lt. kept_core other (λ breaks. omega (arith, less, found.1.least other (omega (arith, less, found.1.within)) breaks)) t lt;
        },
      )
      by_first (inr none) = inr (λ core t is lt. kept_core core (none core is) t lt)

  pub legal_or_broken : IsInForm system run → IsLegal system run ⊎ IsBroken system run
  legal_or_broken in_form = by_faults (table_faults system run.table) refl (table_rules system run.table) schedule_or_not
    where
      by_faults : (faults : List RunFault) → table_faults system run.table ≡ faults → All IsRule faults
          → ((core : ℕ) × (tick : ℕ) × BreaksSchedule system run (Illegal Schedule core tick))
          ⊎ ((core t : ℕ) → core < system.cores → t < run.table.ticks → IsScheduleKept system run core t)
          → IsLegal system run ⊎ IsBroken system run
      by_faults [] none rules (inl breaks) = inr (Schedule, breaks.0, breaks.1, inr (none, breaks.2))
      by_faults [] none rules (inr kept) = inl (checked_legal system run in_form none kept)
      by_faults (Illegal rule place tick ∷ faults) is rules schedule = inr (rule, place, tick, inl (first_of is))
        where
          first_of : table_faults system run.table ≡ Illegal rule place tick ∷ faults → first_fault (table_faults system run.table) ≡ Some (Illegal rule place tick)
          first_of same = ap first_fault same
      by_faults (NoMemory ∷ faults) is rules schedule = absurd (All-head IsRule NoMemory faults rules)
