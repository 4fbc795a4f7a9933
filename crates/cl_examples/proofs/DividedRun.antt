-- Where B's runnable isn't whole, the run in which A interrupts B is legal.
use Rattle.std.proofs.Common.{◌≡◌, ℕ, ◌<◌, ◌≤◌, true, inr, Some, length, refl, sym, arith}
use Rattle.std.proofs.lemmas.List.Elements.{All-from_recursion}
use Rattle.cl_runs.specs.{TaskTiming.{timing_at, range_at}, Table.{HasTimes, AreLawfulJobs, IsLawful, table_jobs}, Run.{jobs_of, core_entries, entry_at, executed}, Held.IsHeld, Legal.{released, IsNoneHeld, IsScheduled, IsLegal}}
use Rattle.cl_runs.proofs.Filling.{IsFilled, legal_from}
use Rattle.cl_examples.specs.WholeExample.{divided_b, one_core_divided, one_core_table, broken_run}
use Rattle.cl_examples.proofs.{ExampleFacts.both, ExampleRun.not_whole, WholeRun.{lawful_a, one, nine}}

tasks_are : length one_core_divided.tasks ≡ 2
unfolding one_core_divided
tasks_are = refl

cores_are : one_core_divided.cores ≡ 1
unfolding one_core_divided
cores_are = refl

lawful_b : AreLawfulJobs divided_b 9 (table_jobs one_core_table 1)
lawful_b = record {
  arrivals = (
    record { not_early = omega arith; not_late = omega arith; arrives = omega arith; released = omega arith; in_jitter = omega arith },
    omega arith,
  );
  times = All-from_recursion (HasTimes divided_b) (table_jobs one_core_table 1) (((omega arith, omega arith), _), _);
}

table_lawful : IsLawful one_core_divided one_core_table
unfolding one_core_divided
table_lawful = record {
  tasks = refl;
  jobs = both (λ i. AreLawfulJobs (timing_at one_core_divided i) 9 (table_jobs one_core_table i)) lawful_a lawful_b;
}

abbrev E : ℕ → ℕ → ℕ
E t i = executed one_core_divided broken_run i t

free : (i : ℕ) → i < 2 → (n : ℕ) → IsHeld (timing_at one_core_divided i) (jobs_of broken_run i) n → ⊥
unfolding one_core_divided
free i is n held = both
    (λ i. (place : ℕ) → place < length (timing_at one_core_divided i).ranges → (range_at (timing_at one_core_divided i) place).whole ≡ true → ⊥)
    (λ place. not_whole _ place refl) (λ place. not_whole _ place refl) i is held.place held.inside.is_runnable held.inside.is_whole

none_held : (t : ℕ) → IsNoneHeld one_core_divided broken_run.table (E t) 0
none_held t = record { none = λ i is on held. free i (omega (arith, is, tasks_are)) (E t i) held }

a_runs : (t : ℕ) → E t 0 < released (jobs_of broken_run 0) t → IsScheduled one_core_divided broken_run.table (E t) t 0 (Some 0)
unfolding one_core_divided
a_runs t pending = inr (
  none_held t,
  record {
    is_task = omega arith;
    on_core = refl;
    pending = pending;
    highest = λ j is on more. both (λ j. (timing_at one_core_divided j).priority ≤ 2) (omega arith) (omega arith) j is;
  },
)

b_runs : (t : ℕ) → E t 1 < released (jobs_of broken_run 1) t → released (jobs_of broken_run 0) t ≤ E t 0
    → IsScheduled one_core_divided broken_run.table (E t) t 0 (Some 1)
unfolding one_core_divided
b_runs t pending done = inr (
  none_held t,
  record {
    is_task = omega arith;
    on_core = refl;
    pending = pending;
    highest = λ j is on more. both (λ j. E t j < released (jobs_of broken_run j) t → (timing_at one_core_divided j).priority ≤ 1)
        (λ a. absurd (omega arith)) (λ b. omega arith) j is more;
  },
)

scheduled_at : (t : ℕ) → t < 9 → IsScheduled one_core_divided broken_run.table (E t) t 0 (entry_at broken_run 0 t)
unfolding one_core_divided broken_run executed released
scheduled_at = nine (λ t. IsScheduled one_core_divided broken_run.table (E t) t 0 (entry_at broken_run 0 t))
    (b_runs 0 (omega arith) (omega arith))
    (a_runs 1 (omega arith))
    (a_runs 2 (omega arith))
    (a_runs 3 (omega arith))
    (b_runs 4 (omega arith) (omega arith))
    (b_runs 5 (omega arith) (omega arith))
    (b_runs 6 (omega arith) (omega arith))
    (b_runs 7 (omega arith) (omega arith))
    (b_runs 8 (omega arith) (omega arith))

filled : IsFilled one_core_divided broken_run 9
unfolding broken_run
filled = record {
  cores = sym cores_are;
  ticks = λ core on. one (λ c. length (core_entries broken_run c) ≡ 9) refl core (omega (arith, on, cores_are));
  scheduled = λ core t on h. one (λ c. IsScheduled one_core_divided broken_run.table (E t) t c (entry_at broken_run c t))
      (scheduled_at t h) core (omega (arith, on, cores_are));
}

pub broken_legal_divided : IsLegal one_core_divided broken_run
unfolding broken_run
broken_legal_divided = legal_from one_core_divided broken_run table_lawful filled
