-- The run in which B isn't interrupted is legal, and the one in which it is isn't.
use Rattle.std.proofs.Common.{◌≡◌, ℕ, zero, suc, ◌<◌, ◌≤◌, inl, inr, true, false, Some, length, refl, sym, ap, ◌∙◌, arith}
use Rattle.std.proofs.lemmas.List.Elements.{All-from_recursion}
use Rattle.cl_model.specs.declared.task.AccessKind.TheVariants.{Implicit}
use Rattle.cl_runs.specs.{TaskTiming.{timing_at, range_at, IsSoundTask, IsSound}, Table.{HasTimes, AreLawfulJobs, IsLawful, table_jobs}, Run.{Run, jobs_of, core_entries, entry_at, executed}, Work.{work_before, work_through}, Held.IsHeld, Legal.{released, IsNoneHeld, IsScheduled, IsLegal}}
use Rattle.cl_runs.proofs.{Filling.{IsFilled, legal_from}, OneRun.one_run, Work.released_mono}
use Rattle.cl_examples.specs.WholeExample.{later_a, whole_b, one_core, one_core_table, whole_run, broken_run}
use Rattle.cl_examples.proofs.ExampleFacts.{both, plain_task_sound}

-- ---- the system

tasks_are : length one_core.tasks ≡ 2
unfolding one_core
tasks_are = refl

cores_are : one_core.cores ≡ 1
unfolding one_core
cores_are = refl

differ : (i j : ℕ) → i < 2 → j < 2 → (timing_at one_core i).priority ≡ (timing_at one_core j).priority → i ≡ j
unfolding one_core
differ i j hi hj = both (λ i. (timing_at one_core i).priority ≡ (timing_at one_core j).priority → i ≡ j)
    (both (λ j. 2 ≡ (timing_at one_core j).priority → 0 ≡ j) (λ e. refl) (λ e. absurd (omega arith)) j hj)
    (both (λ j. 1 ≡ (timing_at one_core j).priority → 1 ≡ j) (λ e. absurd (omega arith)) (λ e. refl) j hj) i hi

pub one_core_sound : IsSound one_core
unfolding one_core
one_core_sound = record {
  tasks = both (λ i. IsSoundTask 1 (timing_at one_core i))
      (plain_task_sound 1 0 2 10 10 1 3 Implicit false (omega arith) (omega arith) (omega arith) (omega arith))
      (plain_task_sound 1 0 1 20 20 0 6 Implicit true (omega arith) (omega arith) (omega arith) (omega arith));
  distinct = λ i j hi hj cores priorities. differ i j hi hj priorities;
}

-- ---- the table

pub lawful_a : AreLawfulJobs later_a 9 (table_jobs one_core_table 0)
lawful_a = record {
  arrivals = (
    record { not_early = omega arith; not_late = omega arith; arrives = omega arith; released = omega arith; in_jitter = omega arith },
    omega arith,
  );
  times = All-from_recursion (HasTimes later_a) (table_jobs one_core_table 0) (((omega arith, omega arith), _), _);
}

lawful_b : AreLawfulJobs whole_b 9 (table_jobs one_core_table 1)
lawful_b = record {
  arrivals = (
    record { not_early = omega arith; not_late = omega arith; arrives = omega arith; released = omega arith; in_jitter = omega arith },
    omega arith,
  );
  times = All-from_recursion (HasTimes whole_b) (table_jobs one_core_table 1) (((omega arith, omega arith), _), _);
}

pub one_core_lawful : IsLawful one_core one_core_table
unfolding one_core
one_core_lawful = record { tasks = refl; jobs = both (λ i. AreLawfulJobs (timing_at one_core i) 9 (table_jobs one_core_table i)) lawful_a lawful_b }

-- ---- the run

abbrev E : ℕ → ℕ → ℕ
E t i = executed one_core whole_run i t

-- A is never held
a_free : (n : ℕ) → IsHeld (timing_at one_core 0) (jobs_of whole_run 0) n → ⊥
unfolding one_core
a_free n held =
    let first : held.place ≡ 0 = omega (arith, held.inside.is_runnable) in
    let whole : false ≡ true = ap (λ p. (range_at later_a p).whole) (sym first) ∙ held.inside.is_whole in
    absurd (cc whole)

-- B is held where it has begun and not finished
b_held : (n : ℕ) → 0 < n → n < 6 → IsHeld (timing_at one_core 1) (jobs_of whole_run 1) n
unfolding one_core whole_run work_before
b_held n begun unfinished = record {
  job = 0;
  place = 0;
  inside = record { in_table = omega arith; is_runnable = omega arith; is_whole = refl; begun = omega arith; unfinished = omega arith };
}

-- and not before, nor after
b_before : (n : ℕ) → n ≡ 0 → IsHeld (timing_at one_core 1) (jobs_of whole_run 1) n → ⊥
b_before n none held = omega (arith, none, held.inside.begun)

b_after : (n : ℕ) → 6 ≤ n → IsHeld (timing_at one_core 1) (jobs_of whole_run 1) n → ⊥
unfolding one_core whole_run work_before
b_after n done held =
    let first : held.job ≡ 0 = omega (arith, held.inside.in_table) in
    let only : held.place ≡ 0 = omega (arith, held.inside.is_runnable) in
    omega (
      arith,
      held.inside.unfinished,
      ap (λ k. work_through (jobs_of whole_run 1) k held.place) first ∙ ap (λ q. work_through (jobs_of whole_run 1) 0 q) only,
    )

none_held : (t : ℕ) → (IsHeld (timing_at one_core 1) (jobs_of whole_run 1) (E t 1) → ⊥) → IsNoneHeld one_core whole_run.table (E t) 0
none_held t free = record {
  none = λ i is on held. both (λ i. IsHeld (timing_at one_core i) (jobs_of whole_run i) (E t i) → ⊥) (a_free (E t 0)) free i (omega (arith, is, tasks_are)) held;
}

b_starts : IsScheduled one_core whole_run.table (E 0) 0 0 (Some 1)
unfolding one_core whole_run executed released
b_starts = inr (
  none_held 0 (b_before (E 0 1) refl),
  record {
    is_task = omega arith;
    on_core = refl;
    pending = omega arith;
    highest = λ j is on pending. both (λ j. E 0 j < released (jobs_of whole_run j) 0 → (timing_at one_core j).priority ≤ 1)
        (λ more. absurd (omega arith)) (λ more. omega arith) j is pending;
  },
)

b_runs : (t : ℕ) → 0 < E t 1 → E t 1 < 6 → IsScheduled one_core whole_run.table (E t) t 0 (Some 1)
unfolding one_core
b_runs t begun unfinished = inl (record {
  is_task = omega arith;
  on_core = refl;
  held = b_held (E t 1) begun unfinished;
  least = λ j is on held. both (λ j. IsHeld (timing_at one_core j) (jobs_of whole_run j) (E t j) → 1 ≤ j)
      (λ a. absurd (a_free (E t 0) a)) (λ b. omega arith) j is held;
})

a_released : (t : ℕ) → 1 ≤ t → 3 ≤ released (jobs_of whole_run 0) t
unfolding whole_run released
a_released t h = released_mono (jobs_of whole_run 0) 1 t h

a_runs : (t : ℕ) → 1 ≤ t → 6 ≤ E t 1 → E t 0 < 3 → IsScheduled one_core whole_run.table (E t) t 0 (Some 0)
unfolding one_core
a_runs t h done more = inr (
  none_held t (b_after (E t 1) done),
  record {
    is_task = omega arith;
    on_core = refl;
    pending = omega (arith, more, a_released t h);
    highest = λ j is on pending. both (λ j. (timing_at one_core j).priority ≤ 2) (omega arith) (omega arith) j is;
  },
)

pub nine : (P : ℕ → Type 0) → P 0 → P 1 → P 2 → P 3 → P 4 → P 5 → P 6 → P 7 → P 8 → (t : ℕ) → t < 9 → P t
nine P a b c d e f g h i zero lt = a
nine P a b c d e f g h i (suc t) lt = eight t (omega arith)
  where
    eight : (t : ℕ) → t < 8 → P (suc t)
    eight zero lt = b
    eight (suc zero) lt = c
    eight (suc (suc zero)) lt = d
    eight (suc (suc (suc zero))) lt = e
    eight (suc (suc (suc (suc zero)))) lt = f
    eight (suc (suc (suc (suc (suc zero))))) lt = g
    eight (suc (suc (suc (suc (suc (suc zero)))))) lt = h
    eight (suc (suc (suc (suc (suc (suc (suc zero))))))) lt = i
    eight (suc (suc (suc (suc (suc (suc (suc (suc t)))))))) lt = absurd (omega arith)

scheduled_at : (t : ℕ) → t < 9 → IsScheduled one_core whole_run.table (E t) t 0 (entry_at whole_run 0 t)
unfolding one_core whole_run executed
scheduled_at = nine (λ t. IsScheduled one_core whole_run.table (E t) t 0 (entry_at whole_run 0 t))
    b_starts
    (b_runs 1 (omega arith) (omega arith))
    (b_runs 2 (omega arith) (omega arith))
    (b_runs 3 (omega arith) (omega arith))
    (b_runs 4 (omega arith) (omega arith))
    (b_runs 5 (omega arith) (omega arith))
    (a_runs 6 (omega arith) (omega arith) (omega arith))
    (a_runs 7 (omega arith) (omega arith) (omega arith))
    (a_runs 8 (omega arith) (omega arith) (omega arith))

pub one : (P : ℕ → Type 0) → P 0 → (core : ℕ) → core < 1 → P core
one P holds zero h = holds
one P holds (suc core) h = absurd (omega arith)

whole_filled : IsFilled one_core whole_run 9
unfolding whole_run
whole_filled = record {
  cores = sym cores_are;
  ticks = λ core on. one (λ c. length (core_entries whole_run c) ≡ 9) refl core (omega (arith, on, cores_are));
  scheduled = λ core t on h. one (λ c. IsScheduled one_core whole_run.table (E t) t c (entry_at whole_run c t))
      (scheduled_at t h) core (omega (arith, on, cores_are));
}

pub whole_legal : IsLegal one_core whole_run
unfolding whole_run
whole_legal = legal_from one_core whole_run one_core_lawful whole_filled

-- where A interrupts B, A runs in tick 1 and not B
tables_same : broken_run.table ≡ whole_run.table
unfolding broken_run whole_run
tables_same = refl

entries_differ : (entry_at broken_run 0 1 ≡ Some 0) × (entry_at whole_run 0 1 ≡ Some 1)
unfolding broken_run whole_run
entries_differ = (refl, refl)

pub broken_not_legal : IsLegal one_core broken_run → ⊥
broken_not_legal legal =
    let same : broken_run ≡ whole_run = one_run one_core one_core_sound broken_run whole_run legal whole_legal tables_same in
    let entry : entry_at broken_run 0 1 ≡ entry_at whole_run 0 1 = ap (λ (r : Run). entry_at r 0 1) same in
    let ran : Some 0 ≡ Some 1 = sym entries_differ.0 ∙ entry ∙ entries_differ.1 in
    absurd (cc ran)
