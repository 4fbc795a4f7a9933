-- Held tasks: whether one is held can be decided, and a held task has more work released than executed.
use Rattle.std.proofs.Common.{◌≡◌, ℕ, suc, ◌<◌, ◌≤◌, ◌⊎◌, ◌↔◌, inl, inr, Bool, true, false, List, length, take, refl, sym, ap, subst, arith}
use Rattle.std.proofs.lemmas.Bool.{cases_lt, cases_eq}
use Rattle.cl_runs.specs.{TaskTiming.{Timing, range_at}, declared.job.Job.Job, Table.job_at, Work.{work_before, work_through}, Held.IsHeld, Legal.released}
use Rattle.cl_runs.proofs.{FirstBelow.{IsFirst, both_or_not, first_or_none}, Work.{total_time, work_rises, places_rise, through_place, work_along, through_along, before_further, first_length, through_job, before_job, released_first, released_before}}

-- ---- it can be decided

lt_or_not : (m n : ℕ) → (m < n) ⊎ (m < n → ⊥)
lt_or_not m n = elim (cases_lt m n) [ inl less ↦ inl less | inr not ↦ inr (λ less. omega arith) ]

true_or_not : (b : Bool) → (b ≡ true) ⊎ (b ≡ true → ⊥)
true_or_not true = inl refl
true_or_not false = inr (λ same. cc)

module _ (task : Timing) (jobs : List Job) (n : ℕ) where
  abbrev IsInside : ℕ → ℕ → Type 0
  IsInside k p = ((range_at task p).whole ≡ true) × ((work_before jobs k p < n) × (n < work_through jobs k p))

  abbrev IsInsideJob : ℕ → Type 0
  IsInsideJob k = (p : ℕ) × IsFirst (IsInside k) (length task.ranges) p

  inside_or_not : (k p : ℕ) → IsInside k p ⊎ (IsInside k p → ⊥)
  inside_or_not k p = both_or_not (true_or_not (range_at task p).whole)
      (both_or_not (lt_or_not (work_before jobs k p) n) (lt_or_not n (work_through jobs k p)))

  inside_job_or_not : (k : ℕ) → IsInsideJob k ⊎ (IsInsideJob k → ⊥)
  inside_job_or_not k = elim (first_or_none (IsInside k) (inside_or_not k) (length task.ranges)) [
    | inl found ↦ inl found
    | inr none ↦ inr (λ found. none found.0 found.1.within found.1.holds)
  ]

  held_here : (k : ℕ) → IsFirst IsInsideJob (length jobs) k → IsHeld task jobs n
  held_here k found = record {
    job = k;
    place = found.holds.0;
    inside = record {
      in_table = found.within;
      is_runnable = found.holds.1.within;
      is_whole = found.holds.1.holds.0;
      begun = found.holds.1.holds.1.0;
      unfinished = found.holds.1.holds.1.1;
    };
  }

  held_nowhere : ((k : ℕ) → k < length jobs → IsInsideJob k → ⊥) → IsHeld task jobs n → ⊥
  held_nowhere none held = elim (first_or_none (IsInside held.job) (inside_or_not held.job) (length task.ranges)) [
    | inl found ↦ none held.job held.inside.in_table found
    | inr nowhere ↦ nowhere held.place held.inside.is_runnable (held.inside.is_whole, (held.inside.begun, held.inside.unfinished))
  ]

  -- a task is held, or it isn't
  pub held_or_not : IsHeld task jobs n ⊎ (IsHeld task jobs n → ⊥)
  held_or_not = elim (first_or_none IsInsideJob inside_job_or_not (length jobs)) [
    | inl found ↦ inl (held_here found.0 found.1)
    | inr none ↦ inr (held_nowhere none)
  ]

-- the same jobs with as many executed ticks hold alike
pub held_moved : (task : Timing) (jobs other : List Job) (m n : ℕ) → jobs ≡ other → m ≡ n → IsHeld task jobs m ↔ IsHeld task other n
held_moved task jobs other m n same count = (
  λ held. subst (λ x. IsHeld task other x) count (subst (λ (xs : List Job). IsHeld task xs m) same held),
  λ held. subst (λ x. IsHeld task jobs x) (sym count) (subst (λ (xs : List Job). IsHeld task xs n) (sym same) held),
)

-- ---- where a list of jobs goes on

module _ (task : Timing) (jobs longer : List Job) (same : jobs ≡ take (length jobs) longer) (n : ℕ) where
  -- a held task stays held
  pub held_longer : IsHeld task jobs n → IsHeld task longer n
  held_longer held = record {
    job = held.job;
    place = held.place;
    inside = record {
      in_table = omega (arith, held.inside.in_table, first_length (length jobs) jobs longer same);
      is_runnable = held.inside.is_runnable;
      is_whole = held.inside.is_whole;
      begun = omega (arith, held.inside.begun, work_along (length jobs) jobs longer same held.job held.place held.inside.in_table);
      unfinished = omega (arith, held.inside.unfinished, through_along (length jobs) jobs longer same held.job held.place held.inside.in_table);
    };
  }

  -- and no further job holds it, where no more is executed than all jobs take
  pub held_shorter : n ≤ total_time jobs → IsHeld task longer n → IsHeld task jobs n
  held_shorter within held = elim (cases_lt held.job (length jobs)) [
    | inl there ↦ record {
      job = held.job;
      place = held.place;
      inside = record {
        in_table = there;
        is_runnable = held.inside.is_runnable;
        is_whole = held.inside.is_whole;
        begun = omega (arith, held.inside.begun, work_along (length jobs) jobs longer same held.job held.place there);
        unfinished = omega (arith, held.inside.unfinished, through_along (length jobs) jobs longer same held.job held.place there);
      };
    }
    | inr further ↦ absurd (omega (arith, held.inside.begun, before_further jobs longer same held.job held.place further))
  ]

-- ---- where each job has a time for each runnable, and jobs are released in order

module _ (task : Timing) (jobs : List Job) (places : (k : ℕ) → k < length jobs → length (job_at jobs k).times ≡ length task.ranges) where
  -- a task isn't held where a runnable begins
  pub not_held_between : (k p : ℕ) → k < length jobs → p < length task.ranges → IsHeld task jobs (work_before jobs k p) → ⊥
  not_held_between k p job place held = elim (cases_eq held.job k) [
    | inl same ↦ within held.place held.inside.is_runnable
        (omega (arith, held.inside.begun, ap (λ l. work_before jobs l held.place) same))
        (omega (arith, held.inside.unfinished, ap (λ l. work_through jobs l held.place) same))
    | inr other ↦ elim (cases_lt held.job k) [
      | inl earlier ↦ omega (
        arith,
        held.inside.unfinished,
        work_rises jobs held.job held.place k p held.inside.in_table (omega (arith, held.inside.is_runnable, places held.job held.inside.in_table)) earlier,
      )
      | inr later ↦ omega (
        arith,
        held.inside.begun,
        work_rises jobs k p held.job held.place job (omega (arith, place, places k job)) (omega (arith, other, later)),
      )
    ]
  ]
    where
      within : (q : ℕ) → q < length task.ranges → work_before jobs k q < work_before jobs k p → work_before jobs k p < work_through jobs k q → ⊥
      within q there begun unfinished = elim (cases_lt q p) [
        | inl before ↦ omega (arith, through_place jobs k q (omega (arith, there, places k job)), places_rise jobs k (suc q) p before)
        | inr after ↦ omega (arith, places_rise jobs k p q after)
      ]

  -- a held task has more work released than executed, where it has no more executed than released
  pub held_released : (t n : ℕ) → ((k l : ℕ) → k ≤ l → l < length jobs → (job_at jobs k).release ≤ (job_at jobs l).release)
      → n ≤ released jobs t → IsHeld task jobs n → n < released jobs t
  held_released t n order within held = elim (cases_lt t (job_at jobs held.job).release) [
    | inl early ↦ absurd (omega (
      arith,
      held.inside.begun,
      before_job jobs held.job held.place,
      released_before t jobs held.job (λ l le lt. omega (arith, early, order held.job l le lt)),
    ))
    | inr late ↦ omega (
      arith,
      held.inside.unfinished,
      through_job jobs held.job held.place held.inside.in_table (omega (arith, held.inside.is_runnable, places held.job held.inside.in_table)),
      released_first jobs (suc held.job) t (λ l lt. omega (arith, late, order l held.job (omega arith) held.inside.in_table)),
    )
  ]
