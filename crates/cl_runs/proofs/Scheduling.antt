-- What is scheduled: there is always one entry, and it is the only one.
use Rattle.std.proofs.Common.{◌≡◌, ℕ, zero, suc, ◌<◌, ◌≤◌, ◌⊎◌, ◌↔◌, inl, inr, Option, Some, None, length, refl, sym, ap, ◌∙◌, arith}
use Rattle.std.proofs.lemmas.Bool.{cases_lt, cases_eq}
use Rattle.cl_runs.specs.{TaskTiming.{System, timing_at, IsSound}, declared.job.JobTable.JobTable, Table.table_jobs, Run.IsEntryOf, Legal.{released, IsPending, IsHighestPending, IsNonePending, IsTaskHeld, IsFirstHeld, IsNoneHeld, IsScheduled}}
use Rattle.cl_runs.proofs.{FirstBelow.{IsFirst, both_or_not, first_or_none}, HeldTasks.held_or_not}

-- two tables with their executed ticks are alike at a moment, as far as the tasks of one core go
pub record AreAlike (system : System) (table other : JobTable) (done other_done : ℕ → ℕ) (t core : ℕ) : Type 0 where
  pub executed : (i : ℕ) → i < length system.tasks → (timing_at system i).core ≡ core → done i ≡ other_done i
  pub released : (i : ℕ) → i < length system.tasks → (timing_at system i).core ≡ core
      → released (table_jobs table i) t ≡ released (table_jobs other i) t
  pub held : (i : ℕ) → i < length system.tasks → (timing_at system i).core ≡ core
      → IsTaskHeld system table done i ↔ IsTaskHeld system other other_done i

less_along : (a b c d : ℕ) → a ≡ c → b ≡ d → a < b → c < d
less_along a b c d e f h = omega arith

module _ (system : System) (table other : JobTable) (done other_done : ℕ → ℕ) (t core : ℕ)
    (alike : AreAlike system table other done other_done t core) where
  pending_alike : (i : ℕ) → i < length system.tasks → (timing_at system i).core ≡ core
      → IsPending table done t i → IsPending other other_done t i
  pending_alike i h on pending = less_along _ _ _ _ (alike.executed i h on) (alike.released i h on) pending

  pending_back : (i : ℕ) → i < length system.tasks → (timing_at system i).core ≡ core
      → IsPending other other_done t i → IsPending table done t i
  pending_back i h on pending = less_along _ _ _ _ (sym (alike.executed i h on)) (sym (alike.released i h on)) pending

  none_held_alike : IsNoneHeld system table done core → IsNoneHeld system other other_done core
  none_held_alike idle = record { none = λ i h on held. idle.none i h on ((alike.held i h on).1 held) }

  none_pending_alike : IsNonePending system table done t core → IsNonePending system other other_done t core
  none_pending_alike idle = record { none = λ i h on pending. idle.none i h on (pending_back i h on pending) }

  first_alike : (i : ℕ) → IsFirstHeld system table done core i → IsFirstHeld system other other_done core i
  first_alike i runs = record {
    is_task = runs.is_task;
    on_core = runs.on_core;
    held = (alike.held i runs.is_task runs.on_core).0 runs.held;
    least = λ j h on held. runs.least j h on ((alike.held j h on).1 held);
  }

  highest_alike : (i : ℕ) → IsHighestPending system table done t core i → IsHighestPending system other other_done t core i
  highest_alike i runs = record {
    is_task = runs.is_task;
    on_core = runs.on_core;
    pending = pending_alike i runs.is_task runs.on_core runs.pending;
    highest = λ j h on pending. runs.highest j h on (pending_back j h on pending);
  }

  task_alike : (i : ℕ) → IsScheduled system table done t core (Some i) → IsScheduled system other other_done t core (Some i)
  task_alike i (inl held) = inl (first_alike i held)
  task_alike i (inr runs) = inr (none_held_alike runs.0, highest_alike i runs.1)

  -- what is scheduled in one is scheduled in the other
  pub scheduled_alike : (e : Option ℕ) → IsScheduled system table done t core e → IsScheduled system other other_done t core e
  scheduled_alike None idle = (none_held_alike idle.0, none_pending_alike idle.1)
  scheduled_alike (Some i) runs = task_alike i runs

module _ (system : System) (sound : IsSound system) (table : JobTable) (done : ℕ → ℕ) (t core : ℕ) where
  one_highest : (i j : ℕ) → IsHighestPending system table done t core i → IsHighestPending system table done t core j → i ≡ j
  one_highest i j one other =
      let lower : (timing_at system i).priority ≤ (timing_at system j).priority = other.highest i one.is_task one.on_core one.pending in
      let higher : (timing_at system j).priority ≤ (timing_at system i).priority = one.highest j other.is_task other.on_core other.pending in
      sound.distinct i j one.is_task other.is_task (one.on_core ∙ sym other.on_core) (omega arith)

  one_task : (i j : ℕ) → IsScheduled system table done t core (Some i) → IsScheduled system table done t core (Some j) → i ≡ j
  one_task i j (inl one) (inl other) =
      omega (arith, one.least j other.is_task other.on_core other.held, other.least i one.is_task one.on_core one.held)
  one_task i j (inl one) (inr other) = absurd (other.0.none i one.is_task one.on_core one.held)
  one_task i j (inr one) (inl other) = absurd (one.0.none j other.is_task other.on_core other.held)
  one_task i j (inr one) (inr other) = one_highest i j one.1 other.1

  not_idle : (i : ℕ) → IsScheduled system table done t core None → IsScheduled system table done t core (Some i) → ⊥
  not_idle i idle (inl held) = idle.0.none i held.is_task held.on_core held.held
  not_idle i idle (inr runs) = idle.1.none i runs.1.is_task runs.1.on_core runs.1.pending

  -- at most one entry is scheduled
  pub scheduled_once : (e f : Option ℕ) → IsScheduled system table done t core e → IsScheduled system table done t core f → e ≡ f
  scheduled_once None None one other = refl
  scheduled_once None (Some j) one other = absurd (not_idle j one other)
  scheduled_once (Some i) None one other = absurd (not_idle i other one)
  scheduled_once (Some i) (Some j) one other = ap Some (one_task i j one other)

task_entry : (system : System) (table : JobTable) (done : ℕ → ℕ) (t core i : ℕ)
    → IsScheduled system table done t core (Some i) → IsEntryOf system core (Some i)
task_entry system table done t core i (inl held) = (held.is_task, held.on_core)
task_entry system table done t core i (inr runs) = (runs.1.is_task, runs.1.on_core)

-- a scheduled entry is a task of the core, or idle
pub scheduled_entry : (system : System) (table : JobTable) (done : ℕ → ℕ) (t core : ℕ) (e : Option ℕ)
    → IsScheduled system table done t core e → IsEntryOf system core e
scheduled_entry system table done t core None runs = tt
scheduled_entry system table done t core (Some i) runs = task_entry system table done t core i runs

-- the best of the first n tasks: none of the core is pending, or the one of highest priority
abbrev BestOf : System → JobTable → (ℕ → ℕ) → ℕ → ℕ → ℕ → Option ℕ → Type 0
BestOf system table done t core n None = (i : ℕ) → i < n → (timing_at system i).core ≡ core → IsPending table done t i → ⊥
BestOf system table done t core n (Some i) = (i < n) × ((timing_at system i).core ≡ core) × IsPending table done t i
    × ((j : ℕ) → j < n → (timing_at system j).core ≡ core → IsPending table done t j → (timing_at system j).priority ≤ (timing_at system i).priority)

module _ (system : System) (table : JobTable) (done : ℕ → ℕ) (t core : ℕ) where
  -- a further task that isn't a pending one of the core changes nothing
  best_kept : (n : ℕ) (e : Option ℕ) → ((timing_at system n).core ≡ core → IsPending table done t n → ⊥)
      → BestOf system table done t core n e → BestOf system table done t core (suc n) e
  best_kept n None not best = λ i h on pending. elim (cases_eq i n) [
    | inl same ↦ not (sym (ap (λ k. (timing_at system k).core) same) ∙ on)
        (less_along _ _ _ _ (ap done same) (ap (λ k. released (table_jobs table k) t) same) pending)
    | inr other ↦ best i (omega arith) on pending
  ]
  best_kept n (Some i) not best = (
    omega arith,
    best.1,
    best.2,
    λ j h on pending. elim (cases_eq j n) [
      | inl same ↦ absurd (not (sym (ap (λ k. (timing_at system k).core) same) ∙ on)
          (less_along _ _ _ _ (ap done same) (ap (λ k. released (table_jobs table k) t) same) pending))
      | inr other ↦ best.3 j (omega arith) on pending
    ],
  )

  -- a further pending task of the core is the best, where it is no lower than the best so far
  best_taken : (n : ℕ) → (timing_at system n).core ≡ core → IsPending table done t n
      → ((j : ℕ) → j < n → (timing_at system j).core ≡ core → IsPending table done t j → (timing_at system j).priority ≤ (timing_at system n).priority)
      → BestOf system table done t core (suc n) (Some n)
  best_taken n on pending above = (
    omega arith,
    on,
    pending,
    λ j h on_j pending_j. elim (cases_eq j n) [
      | inl same ↦ omega (arith, ap (λ k. (timing_at system k).priority) same)
      | inr other ↦ above j (omega arith) on_j pending_j
    ],
  )

  -- and it isn't, where it is lower
  best_stays : (n i : ℕ) → (timing_at system n).priority ≤ (timing_at system i).priority
      → BestOf system table done t core n (Some i) → BestOf system table done t core (suc n) (Some i)
  best_stays n i lower best = (
    omega arith,
    best.1,
    best.2,
    λ j h on pending. elim (cases_eq j n) [
      | inl same ↦ omega (arith, lower, ap (λ k. (timing_at system k).priority) same)
      | inr other ↦ best.3 j (omega arith) on pending
    ],
  )

  best_more : (n : ℕ) (e : Option ℕ) → (timing_at system n).core ≡ core → IsPending table done t n
      → BestOf system table done t core n e → (f : Option ℕ) × BestOf system table done t core (suc n) f
  best_more n None on pending best = (Some n, best_taken n on pending (λ j h on_j pending_j. absurd (best j h on_j pending_j)))
  best_more n (Some i) on pending best = elim (cases_lt (timing_at system i).priority (timing_at system n).priority) [
    | inl higher ↦ (Some n, best_taken n on pending (λ j h on_j pending_j. omega (arith, higher, best.3 j h on_j pending_j)))
    | inr lower ↦ (Some i, best_stays n i lower best)
  ]

  best : (n : ℕ) → (e : Option ℕ) × BestOf system table done t core n e
  best zero = (None, λ i h on pending. omega arith)
  best (suc n) =
      let (e, b) = best n in
      elim (cases_eq (timing_at system n).core core) [
        | inl on ↦ elim (cases_lt (done n) (released (table_jobs table n) t)) [
          | inl pending ↦ best_more n e on pending b
          | inr not ↦ (e, best_kept n e (λ _ pending. omega (arith, not, pending)) b)
        ]
        | inr off ↦ (e, best_kept n e (λ on _. off on) b)
      ]

  best_scheduled : (e : Option ℕ) → BestOf system table done t core (length system.tasks) e → IsNoneHeld system table done core
      → IsScheduled system table done t core e
  best_scheduled None b free = (free, record { none = b })
  best_scheduled (Some i) b free = inr (free, record { is_task = b.0; on_core = b.1; pending = b.2; highest = b.3 })

  abbrev IsHeldHere : ℕ → Type 0
  IsHeldHere i = ((timing_at system i).core ≡ core) × IsTaskHeld system table done i

  on_or_not : (i : ℕ) → ((timing_at system i).core ≡ core) ⊎ ((timing_at system i).core ≡ core → ⊥)
  on_or_not i = cases_eq (timing_at system i).core core

  held_here_or_not : (i : ℕ) → IsHeldHere i ⊎ (IsHeldHere i → ⊥)
  held_here_or_not i = both_or_not (on_or_not i) (held_or_not (timing_at system i) (table_jobs table i) (done i))

  first_scheduled : (i : ℕ) → IsFirst IsHeldHere (length system.tasks) i → IsScheduled system table done t core (Some i)
  first_scheduled i first = inl (record {
    is_task = first.within;
    on_core = first.holds.0;
    held = first.holds.1;
    least = λ j h on held. first.least j h (on, held);
  })

  -- some entry is scheduled
  pub scheduled_some : (e : Option ℕ) × IsScheduled system table done t core e
  scheduled_some = elim (first_or_none IsHeldHere held_here_or_not (length system.tasks)) [
    | inl found ↦ (Some found.0, first_scheduled found.0 found.1)
    | inr none ↦ let (e, b) = best (length system.tasks) in (e, best_scheduled e b (record { none = λ i h on held. none i h (on, held) }))
  ]
