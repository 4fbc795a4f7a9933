-- Where a core turns to a task in a legal run, a job of it begins, or a job of another task of the core has just
-- finished.
use Rattle.std.proofs.Common.{◌≡◌, ℕ, zero, suc, ◌<◌, ◌≤◌, ◌⊎◌, inl, inr, Option, Some, None, length, refl, ap, sym, subst, arith}
use Rattle.std.proofs.lemmas.Bool.{cases_lt}
use Rattle.cl_runs.specs.{TaskTiming.{System, timing_at, IsSound}, Table.job_at, Run.{Run, jobs_of, core_entries, entry_at, executed, IsEntryOf}, Legal.{released, IsScheduled, IsLegal}, Moments.IsHeldAt}
use Rattle.cl_runs.proofs.{Executed.{cases_entry, executed_zero, executed_more, executed_stays}, HeldTasks.held_moved, Holding.held_runs, LegalFacts.{core_ticks, running_scheduled, executed_released, running_pending}, RunArrivals.releases_in_order, Work.{total_time, released_before}}
use Rattle.cl_runs.proofs.Work.{released_first, released_total}
use Rattle.cl_trace.proofs.JobCounts.{IsInside, begun_jobs, done_jobs, inside_or_begins, inside_or_finishes}

module _ (system : System) (sound : IsSound system) (run : Run) (legal : IsLegal system run) where
  -- a job of the task has begun and isn't done
  abbrev IsMidJob : (task moment : ℕ) → Type 0
  IsMidJob i t = IsInside (jobs_of run i) (executed system run i t)

  -- then the task is pending
  mid_pending : (i t : ℕ) → i < length system.tasks → t ≤ run.table.ticks → IsMidJob i t
      → executed system run i t < released (jobs_of run i) t
  mid_pending i t is h mid = elim (cases_lt t (job_at (jobs_of run i) mid.job).release) [
    | inl early ↦ absurd (omega (
      arith,
      mid.begun,
      executed_released system sound run legal i is t h,
      released_before t (jobs_of run i) mid.job (λ l le lt. omega (arith, early, releases_in_order system sound run legal i is mid.job l le lt)),
    ))
    | inr late ↦ omega (
      arith,
      mid.unfinished,
      released_first (jobs_of run i) (suc mid.job) t
          (λ l lt. omega (arith, late, releases_in_order system sound run legal i is l mid.job (omega arith) mid.in_table)),
    )
  ]

  below_ticks : (i t : ℕ) → i < length system.tasks → t < run.table.ticks → t < length (core_entries run (timing_at system i).core)
  below_ticks i t is h = omega (arith, h, core_ticks system sound run legal i is)

  -- a task that doesn't run in a tick stays as it was
  held_before : (i t : ℕ) → i < length system.tasks → t < run.table.ticks → (entry_at run (timing_at system i).core t ≡ Some i → ⊥)
      → IsHeldAt system run i (suc t) → IsHeldAt system run i t
  held_before i t is h rests held =
      let moved = held_moved (timing_at system i) (jobs_of run i) (jobs_of run i) _ _ refl
      (executed_stays system run i t (below_ticks i t is h) rests) in
      moved.0 held

  mid_before : (i t : ℕ) → i < length system.tasks → t < run.table.ticks → (entry_at run (timing_at system i).core t ≡ Some i → ⊥)
      → IsMidJob i (suc t) → IsMidJob i t
  mid_before i t is h rests mid = subst (IsInside (jobs_of run i)) (executed_stays system run i t (below_ticks i t is h) rests) mid

  -- an entry of one task isn't one of another
  not_both : (i j t : ℕ) → (i ≡ j → ⊥) → (timing_at system i).core ≡ (timing_at system j).core
      → entry_at run (timing_at system i).core t ≡ Some i → entry_at run (timing_at system j).core t ≡ Some j → ⊥
  not_both i j t other cores runs_i runs_j =
      let same : entry_at run (timing_at system i).core t ≡ entry_at run (timing_at system j).core t = ap (λ c. entry_at run c t) cores in
      other cc

  -- where a task runs, no other task of its core is held
  runs_alone : (i j t : ℕ) → i < length system.tasks → j < length system.tasks → (i ≡ j → ⊥)
      → (timing_at system i).core ≡ (timing_at system j).core → t < run.table.ticks
      → entry_at run (timing_at system i).core t ≡ Some i → IsHeldAt system run j t → ⊥
  runs_alone i j t is_i is_j other cores h runs held = not_both i j t other cores runs (held_runs system sound run legal j t is_j h held)

  -- while a job of a task is begun and not done, a held task of its core has no lower priority
  abbrev HoldsNoLower : (moment : ℕ) → Type 0
  HoldsNoLower t = (i j : ℕ) → i < length system.tasks → j < length system.tasks → (i ≡ j → ⊥)
      → (timing_at system i).core ≡ (timing_at system j).core → IsMidJob i t → IsHeldAt system run j t
      → (timing_at system i).priority ≤ (timing_at system j).priority

  -- a task that runs while another one of the core is pending has no lower priority, unless it is held
  runs_above : (i j t : ℕ) → i < length system.tasks → (timing_at system i).core ≡ (timing_at system j).core
      → executed system run i t < released (jobs_of run i) t
      → IsScheduled system run.table (λ k. executed system run k t) t (timing_at system j).core (Some j)
      → IsHeldAt system run j t ⊎ ((timing_at system i).priority ≤ (timing_at system j).priority)
  runs_above i j t is cores pending (inl first) = inl first.held
  runs_above i j t is cores pending (inr highest) = inr (highest.1.highest i is cores pending)

  no_lower_next : (t : ℕ) → t < run.table.ticks → HoldsNoLower t → HoldsNoLower (suc t)
  no_lower_next t h before i j is_i is_j other cores mid held = elim (cases_entry i (entry_at run (timing_at system i).core t)) [
    | inl runs ↦ absurd (runs_alone i j t is_i is_j other cores h runs
        (held_before j t is_j h (λ runs_j. not_both i j t other cores runs runs_j) held))
    | inr rests ↦
        let mid_then : IsMidJob i t = mid_before i t is_i h rests mid in
        elim (cases_entry j (entry_at run (timing_at system j).core t)) [
          | inl runs ↦ elim (runs_above i j t is_i cores (mid_pending i t is_i (omega arith) mid_then)
              (running_scheduled system sound run legal j is_j t h runs)) [
                | inl held_then ↦ before i j is_i is_j other cores mid_then held_then
                | inr above ↦ above
              ]
          | inr rests_j ↦ before i j is_i is_j other cores mid_then (held_before j t is_j h rests_j held)
        ]
  ]

  no_lower : (t : ℕ) → t ≤ run.table.ticks → HoldsNoLower t
  no_lower zero h = λ i j is_i is_j other cores mid held. absurd (omega (arith, mid.begun, executed_zero system run i))
  no_lower (suc t) h = no_lower_next t (omega arith) (no_lower t (omega arith))

  -- so a task that runs while a job of another one is begun and not done has no lower priority
  runs_no_lower : (i j t : ℕ) → i < length system.tasks → j < length system.tasks → (i ≡ j → ⊥)
      → (timing_at system i).core ≡ (timing_at system j).core → t < run.table.ticks → IsMidJob i t
      → entry_at run (timing_at system j).core t ≡ Some j → (timing_at system i).priority ≤ (timing_at system j).priority
  runs_no_lower i j t is_i is_j other cores h mid runs = elim (runs_above i j t is_i cores
      (mid_pending i t is_i (omega arith) mid) (running_scheduled system sound run legal j is_j t h runs)) [
        | inl held ↦ no_lower t (omega arith) i j is_i is_j other cores mid held
        | inr above ↦ above
      ]

  -- a core doesn't turn from a task with a begun job to another with a begun job
  not_from_mid : (i j t : ℕ) → i < length system.tasks → j < length system.tasks → (i ≡ j → ⊥)
      → (timing_at system i).core ≡ (timing_at system j).core → suc t < run.table.ticks
      → entry_at run (timing_at system j).core t ≡ Some j → entry_at run (timing_at system i).core (suc t) ≡ Some i
      → IsMidJob i (suc t) → IsMidJob j (suc t) → ⊥
  not_from_mid i j t is_i is_j other cores h runs_j runs_i mid_i mid_j =
      let mid_then : IsMidJob i t = mid_before i t is_i (omega arith) (λ runs. not_both i j t other cores runs runs_j) mid_i in
      let up : (timing_at system i).priority ≤ (timing_at system j).priority
      = runs_no_lower i j t is_i is_j other cores (omega arith) mid_then runs_j in
      let down : (timing_at system j).priority ≤ (timing_at system i).priority
      = runs_no_lower j i (suc t) is_j is_i (λ same. other (sym same)) (sym cores) h mid_j runs_i in
      other (sound.distinct i j is_i is_j cores (omega (arith, up, down)))

  -- ---- what happens where a core turns to a task

  -- what happens at a moment at which a task begins to run: a job of it begins with the next tick, or the tick before
  -- finished a job of another task of its core
  pub data Turns (i t : ℕ) : Type 0 where
    begins : begun_jobs (jobs_of run i) (executed system run i t) < begun_jobs (jobs_of run i) (suc (executed system run i t)) → Turns i t
    follows : (j s : ℕ) → t ≡ suc s → j < length system.tasks → (timing_at system j).core ≡ (timing_at system i).core
        → done_jobs (jobs_of run j) (executed system run j s) < done_jobs (jobs_of run j) (executed system run j t) → Turns i t

  left_of : (i t : ℕ) → i < length system.tasks → t < run.table.ticks → entry_at run (timing_at system i).core t ≡ Some i
      → executed system run i t < total_time (jobs_of run i)
  left_of i t is h runs = omega (arith, running_pending system sound run legal i is t h runs, released_total (jobs_of run i) t)

  turns_from : (i j t : ℕ) → i < length system.tasks → j < length system.tasks → (i ≡ j → ⊥)
      → (timing_at system i).core ≡ (timing_at system j).core → suc t < run.table.ticks
      → entry_at run (timing_at system j).core t ≡ Some j → entry_at run (timing_at system i).core (suc t) ≡ Some i
      → IsMidJob i (suc t) → Turns i (suc t)
  turns_from i j t is_i is_j other cores h runs_j runs_i mid =
      let more : executed system run j (suc t) ≡ suc (executed system run j t)
      = executed_more system run j t (below_ticks j t is_j (omega arith)) runs_j in
      elim (inside_or_finishes (jobs_of run j) (executed system run j t) (left_of j t is_j (omega arith) runs_j)) [
        | inl inside ↦ absurd (not_from_mid i j t is_i is_j other cores h runs_j runs_i mid (subst (IsInside (jobs_of run j)) (sym more) inside))
        | inr finishes ↦ follows j t refl is_j (sym cores) (omega (arith, finishes, ap (done_jobs (jobs_of run j)) more))
      ]

  turns_after : (i t : ℕ) → i < length system.tasks → suc t < run.table.ticks
      → (entry_at run (timing_at system i).core t ≡ Some i → ⊥) → entry_at run (timing_at system i).core (suc t) ≡ Some i
      → IsMidJob i (suc t) → (e : Option ℕ) → entry_at run (timing_at system i).core t ≡ e → Turns i (suc t)
  turns_after i t is h rests runs mid None idles = absurd (nothing_pending.1.none i is refl
      (mid_pending i t is (omega arith) (mid_before i t is (omega arith) rests mid)))
    where
      nothing_pending : IsScheduled system run.table (λ k. executed system run k t) t (timing_at system i).core None
      nothing_pending = subst (λ e. IsScheduled system run.table (λ k. executed system run k t) t (timing_at system i).core e) idles
          (legal.scheduled (timing_at system i).core t (sound.tasks i is).on_core (omega arith))
  turns_after i t is h rests runs mid (Some j) runs_j = turns_from i j t is on_core.0
      (λ same. rests (subst (λ k. entry_at run (timing_at system i).core t ≡ Some k) (sym same) runs_j))
      (sym on_core.1) h (subst (λ c. entry_at run c t ≡ Some j) (sym on_core.1) runs_j) runs mid
    where
      on_core : (j < length system.tasks) × ((timing_at system j).core ≡ (timing_at system i).core)
      on_core = subst (λ e. IsEntryOf system (timing_at system i).core e) runs_j
          (legal.in_form.entries (timing_at system i).core t (sound.tasks i is).on_core (omega arith))

  pub turns_later : (i t : ℕ) → i < length system.tasks → suc t < run.table.ticks
      → (entry_at run (timing_at system i).core t ≡ Some i → ⊥) → entry_at run (timing_at system i).core (suc t) ≡ Some i → Turns i (suc t)
  turns_later i t is h rests runs = elim (inside_or_begins (jobs_of run i) (executed system run i (suc t)) (left_of i (suc t) is h runs)) [
    | inl mid ↦ turns_after i t is h rests runs mid (entry_at run (timing_at system i).core t) refl
    | inr more ↦ begins more
  ]

  pub turns_first : (i : ℕ) → i < length system.tasks → 0 < run.table.ticks → entry_at run (timing_at system i).core 0 ≡ Some i → Turns i 0
  turns_first i is h runs = elim (inside_or_begins (jobs_of run i) (executed system run i 0) (left_of i 0 is h runs)) [
    | inl mid ↦ absurd (omega (arith, mid.begun, executed_zero system run i))
    | inr more ↦ begins more
  ]
