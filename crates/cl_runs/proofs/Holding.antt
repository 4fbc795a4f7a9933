-- Held tasks in a legal run: at most one of a core, which runs, and ran before. So a whole runnable isn't interrupted,
-- and what starts is the highest pending task.
use Rattle.std.proofs.Common.{◌≡◌, ℕ, zero, suc, ◌+◌, ◌-◌, ◌<◌, ◌≤◌, true, inl, inr, Option, Some, None, length, refl, sym, ap, ◌∙◌, arith}
use Rattle.std.specs.Prelude.{slice_index}
use Rattle.cl_runs.specs.{TaskTiming.{System, timing_at, range_at, IsSound}, Table.job_at, Work.work_before, Run.{Run, jobs_of, core_entries, entry_at, executed}, Held.IsHeldIn, Legal.{IsNoneHeld, IsHighestPending, IsScheduled, IsLegal}, Moments.{IsHeldAt, Executes, Starts, Finishes}}
use Rattle.cl_runs.proofs.{Climbing.{climb_lt, climb_slow}, Executed.{cases_entry, executed_zero, executed_climbs, executed_more, executed_stays}, HeldTasks.{held_moved, not_held_between}, LegalFacts.{place_of_task, core_ticks, job_places, time_positive, running_scheduled}}

module _ (system : System) (sound : IsSound system) (run : Run) (legal : IsLegal system run) where
  -- a task that doesn't run in a tick was held before it, if it is held after it
  pub held_before : (i t : ℕ) → i < length system.tasks → t < run.table.ticks → (entry_at run (timing_at system i).core t ≡ Some i → ⊥)
      → IsHeldAt system run i (suc t) → IsHeldAt system run i t
  held_before i t is h rests held =
      let moved = held_moved (timing_at system i) (jobs_of run i) (jobs_of run i) _ _ refl
      (executed_stays system run i t (omega (arith, h, core_ticks system sound run legal i is)) rests) in
      moved.0 held

  abbrev IsOneHeld : ℕ → Type 0
  IsOneHeld t = (i j : ℕ) → i < length system.tasks → j < length system.tasks → (timing_at system i).core ≡ (timing_at system j).core
      → IsHeldAt system run i t → IsHeldAt system run j t → i ≡ j

  -- where a task runs, no other of its core is held
  runs_alone : (t : ℕ) → IsOneHeld t → (i j : ℕ) → i < length system.tasks → j < length system.tasks
      → (timing_at system i).core ≡ (timing_at system j).core → IsHeldAt system run j t
      → IsScheduled system run.table (λ k. executed system run k t) t (timing_at system i).core (Some i) → i ≡ j
  runs_alone t one i j is_i is_j cores held (inl first) = one i j is_i is_j cores first.held held
  runs_alone t one i j is_i is_j cores held (inr highest) = absurd (highest.0.none j is_j (sym cores) held)

  one_next : (t : ℕ) → t < run.table.ticks → IsOneHeld t → IsOneHeld (suc t)
  one_next t h one i j is_i is_j cores held_i held_j = elim (cases_entry i (entry_at run (timing_at system i).core t)) [
    | inl runs_i ↦ elim (cases_entry j (entry_at run (timing_at system j).core t)) [
      | inl runs_j ↦
          let same : entry_at run (timing_at system i).core t ≡ entry_at run (timing_at system j).core t = ap (λ c. entry_at run c t) cores in
          cc (runs_i, runs_j, same)
      | inr rests_j ↦ runs_alone t one i j is_i is_j cores (held_before j t is_j h rests_j held_j)
          (running_scheduled system sound run legal i is_i t h runs_i)
    ]
    | inr rests_i ↦ elim (cases_entry j (entry_at run (timing_at system j).core t)) [
      | inl runs_j ↦ sym (runs_alone t one j i is_j is_i (sym cores) (held_before i t is_i h rests_i held_i)
          (running_scheduled system sound run legal j is_j t h runs_j))
      | inr rests_j ↦ one i j is_i is_j cores (held_before i t is_i h rests_i held_i) (held_before j t is_j h rests_j held_j)
    ]
  ]

  -- at most one task of a core is held
  pub one_held : (t : ℕ) → t ≤ run.table.ticks → IsOneHeld t
  one_held zero h = λ i j is_i is_j cores held_i held_j. absurd (omega (arith, held_i.inside.begun, executed_zero system run i))
  one_held (suc t) h = one_next t (omega arith) (one_held t (omega arith))

  held_scheduled : (i t : ℕ) → i < length system.tasks → t < run.table.ticks → IsHeldAt system run i t
      → (e : Option ℕ) → IsScheduled system run.table (λ k. executed system run k t) t (timing_at system i).core e → e ≡ Some i
  held_scheduled i t is h held None idle = absurd (idle.0.none i is refl held)
  held_scheduled i t is h held (Some j) runs = ap Some (held_runs j runs)
    where
      held_runs : (j : ℕ) → IsScheduled system run.table (λ k. executed system run k t) t (timing_at system i).core (Some j) → j ≡ i
      held_runs j (inl first) = one_held t (omega arith) j i first.is_task is first.on_core first.held held
      held_runs j (inr highest) = absurd (highest.0.none i is refl held)

  -- a held task runs
  pub held_runs : (i t : ℕ) → i < length system.tasks → t < run.table.ticks → IsHeldAt system run i t
      → entry_at run (timing_at system i).core t ≡ Some i
  held_runs i t is h held = held_scheduled i t is h held _ (legal.scheduled (timing_at system i).core t (sound.tasks i is).on_core h)

  -- and executes the runnable in which it is held
  pub held_executes : (i k p t : ℕ) → t < run.table.ticks
      → IsHeldIn (timing_at system i) (jobs_of run i) k p (executed system run i t) → Executes system run i k p t
  held_executes i k p t h inside = record {
    in_table = inside.in_table;
    is_runnable = inside.is_runnable;
    below_end = h;
    runs = held_runs i t (place_of_task system i p inside.is_runnable) h (record { job = k; place = p; inside = inside });
    begun = omega (arith, inside.begun);
    unfinished = inside.unfinished;
  }

  -- it did so in the tick before too
  pub held_executed : (i k p t : ℕ) → t < run.table.ticks
      → IsHeldIn (timing_at system i) (jobs_of run i) k p (executed system run i (suc t)) → Executes system run i k p t
  held_executed i k p t h inside =
      let is : i < length system.tasks = place_of_task system i p inside.is_runnable in
      let below : t < length (core_entries run (timing_at system i).core) = omega (arith, h, core_ticks system sound run legal i is) in
      elim (cases_entry i (entry_at run (timing_at system i).core t)) [
        | inl runs ↦
            let more : executed system run i (suc t) ≡ suc (executed system run i t) = executed_more system run i t below runs in
            record {
              in_table = inside.in_table;
              is_runnable = inside.is_runnable;
              below_end = h;
              runs = runs;
              begun = omega (arith, inside.begun, more);
              unfinished = omega (arith, inside.unfinished, more);
            }
        | inr rests ↦ absurd (rests (held_runs i t is h (held_before i t is h rests (record { job = k; place = p; inside = inside }))))
      ]

  -- ---- a whole runnable from its start on

  module _ (i k p s : ℕ) (starts : Starts system run i k p s) (whole : (range_at (timing_at system i) p).whole ≡ true) where
    abbrev time : ℕ
    time = slice_index (job_at (jobs_of run i) k).times p

    is : i < length system.tasks
    is = place_of_task system i p starts.is_runnable

    runs_on : (d : ℕ) → d < time → s + d < run.table.ticks → executed system run i (s + d) ≡ work_before (jobs_of run i) k p + d
        → entry_at run (timing_at system i).core (s + d) ≡ Some i
    runs_on zero h below done = let here : s + 0 ≡ s = omega arith in ap (entry_at run (timing_at system i).core) here ∙ starts.runs
    runs_on (suc d) h below done = held_runs i (s + suc d) is below (record {
      job = k;
      place = p;
      inside = record {
        in_table = starts.in_table;
        is_runnable = starts.is_runnable;
        is_whole = whole;
        begun = omega (arith, done);
        unfinished = omega (arith, done, h);
      };
    })

    executed_on : (d : ℕ) → d ≤ time → s + d ≤ run.table.ticks → executed system run i (s + d) ≡ work_before (jobs_of run i) k p + d
    executed_on zero h by = let here : s + 0 ≡ s = omega arith in omega (arith, ap (executed system run i) here, starts.reached)
    executed_on (suc d) h by =
        let done : executed system run i (s + d) ≡ work_before (jobs_of run i) k p + d = executed_on d (omega arith) (omega arith) in
        let next : s + suc d ≡ suc (s + d) = omega arith in
        omega (
          arith,
          done,
          ap (executed system run i) next,
          executed_more system run i (s + d) (omega (arith, by, core_ticks system sound run legal i is)) (runs_on d (omega arith) (omega arith) done),
        )

    -- it is executed in each tick
    pub whole_executes : (t : ℕ) → s ≤ t → t < s + time → t < run.table.ticks → Executes system run i k p t
    whole_executes t from within below =
        let later : s + (t - s) ≡ t = omega arith in
        let done : executed system run i (s + (t - s)) ≡ work_before (jobs_of run i) k p + (t - s)
        = executed_on (t - s) (omega arith) (omega (arith, below)) in
        let here : executed system run i t ≡ executed system run i (s + (t - s)) = ap (executed system run i) (sym later) in
        record {
          in_table = starts.in_table;
          is_runnable = starts.is_runnable;
          below_end = below;
          runs = ap (entry_at run (timing_at system i).core) (sym later) ∙ runs_on (t - s) (omega arith) (omega (arith, below)) done;
          begun = omega (arith, here, done);
          unfinished = omega (arith, here, done, from, within);
        }

    -- and finishes after its time
    pub whole_finishes : s + time ≤ run.table.ticks → Finishes system run i k p (s + time)
    whole_finishes by = record {
      in_table = starts.in_table;
      is_runnable = starts.is_runnable;
      by_end = by;
      reached = executed_on time (omega arith) by;
      least = λ t reached.
          let some : 1 ≤ time = time_positive system sound run legal i is k p starts.in_table starts.is_runnable in
          let after : s < t = climb_lt (executed system run i) (executed_climbs system run i) s t (omega (arith, some, reached, starts.reached)) in
          omega (arith, reached, starts.reached, climb_slow (executed system run i) (executed_climbs system run i) s t (omega (arith, after)));
    }

  -- ---- where a runnable starts

  start_scheduled : (i k p t : ℕ) → Starts system run i k p t
      → IsScheduled system run.table (λ j. executed system run j t) t (timing_at system i).core (Some i)
      → IsNoneHeld system run.table (λ j. executed system run j t) (timing_at system i).core
      × IsHighestPending system run.table (λ j. executed system run j t) t (timing_at system i).core i
  start_scheduled i k p t starts (inl first) = absurd (
      not_held_between (timing_at system i) (jobs_of run i) (job_places system sound run legal i first.is_task) k p starts.in_table starts.is_runnable
      ((held_moved (timing_at system i) (jobs_of run i) (jobs_of run i) _ _ refl starts.reached).0 first.held)
      )
  start_scheduled i k p t starts (inr highest) = highest

  start_highest : (i k p t : ℕ) → Starts system run i k p t
      → IsNoneHeld system run.table (λ j. executed system run j t) (timing_at system i).core
      × IsHighestPending system run.table (λ j. executed system run j t) t (timing_at system i).core i
  start_highest i k p t starts = start_scheduled i k p t starts
      (running_scheduled system sound run legal i (place_of_task system i p starts.is_runnable) t starts.below_end starts.runs)

  -- no task of the core is held
  pub start_free : (i k p t : ℕ) → Starts system run i k p t
      → IsNoneHeld system run.table (λ j. executed system run j t) (timing_at system i).core
  start_free i k p t starts = (start_highest i k p t starts).0

  -- and the task is the highest pending one
  pub start_pending : (i k p t : ℕ) → Starts system run i k p t
      → IsHighestPending system run.table (λ j. executed system run j t) t (timing_at system i).core i
  start_pending i k p t starts = (start_highest i k p t starts).1
