-- The run of two tasks: its table is lawful, the run is legal, and its moments.
use Rattle.std.proofs.Common.{◌≡◌, ℕ, zero, suc, ◌+◌, ◌*◌, ◌<◌, ◌≤◌, inr, true, false, cond, Option, Some, None, [], ◌∷◌, length, get_or, map, take, refl, sym, ap, ◌∙◌, subst, arith, nat_lt}
use Rattle.std.specs.List.{range_with_len}
use Rattle.std.proofs.lemmas.List.Elements.{All-from_recursion}
use Rattle.std.proofs.lemmas.Bool.{cond_both, ltb-true, ltb-false}
use Rattle.std.proofs.lemmas.List.FromFn.{get_or-map-range_with_len}
use Rattle.cl_model.specs.declared.task.AccessKind.TheVariants.{Implicit}
use Rattle.cl_runs.specs.{TaskTiming.{TimeRange, timing_at, range_at, no_range, IsSoundTask, IsSound}, Table.{job_at, table_jobs, HasTimes, AreLawfulJobs, IsLawful}, Run.{jobs_of, core_entries, entry_at, executed, IsEntryOf, IsInForm}, Legal.{released, IsNoneHeld, IsScheduled, IsLegal}}
use Rattle.cl_runs.specs.{Held.IsHeld, Work.work_before, Moments.{Starts, Finishes, Reads, Writes}}
use Rattle.cl_examples.specs.Examples.{task_a, task_b, two_tasks, jobs_of_a, jobs_of_b, table_with, two_tasks_run}
use Rattle.cl_examples.proofs.ExampleFacts.{both, plain_task_sound}
use Rattle.cl_runs.proofs.{Climbing.climb_lt, Executed.executed_climbs, MomentFacts.{reads_once, writes_once}}

-- ---- the system

tasks_are : length two_tasks.tasks ≡ 2
unfolding two_tasks
tasks_are = refl

cores_are : two_tasks.cores ≡ 2
unfolding two_tasks
cores_are = refl

core_is : (i : ℕ) → i < 2 → (timing_at two_tasks i).core ≡ i
unfolding two_tasks
core_is = both (λ i. (timing_at two_tasks i).core ≡ i) refl refl

pub two_tasks_sound : IsSound two_tasks
unfolding two_tasks
two_tasks_sound = record {
  tasks = both (λ i. IsSoundTask 2 (timing_at two_tasks i))
      (plain_task_sound 2 0 2 10 10 0 3 Implicit false (omega arith) (omega arith) (omega arith) (omega arith))
      (plain_task_sound 2 1 1 20 20 12 5 Implicit false (omega arith) (omega arith) (omega arith) (omega arith));
  distinct = λ i j hi hj cores priorities. sym (core_is i hi) ∙ cores ∙ core_is j hj;
}

-- ---- the table

lawful_a : AreLawfulJobs task_a 37 jobs_of_a
lawful_a = record {
  arrivals = (
    record { not_early = omega arith; not_late = omega arith; arrives = omega arith; released = omega arith; in_jitter = omega arith },
    (
      record { not_early = omega arith; not_late = omega arith; arrives = omega arith; released = omega arith; in_jitter = omega arith },
      (
        record { not_early = omega arith; not_late = omega arith; arrives = omega arith; released = omega arith; in_jitter = omega arith },
        (
          record { not_early = omega arith; not_late = omega arith; arrives = omega arith; released = omega arith; in_jitter = omega arith },
          omega arith,
        ),
      ),
    ),
  );
  times = All-from_recursion (HasTimes task_a) jobs_of_a (((omega arith, omega arith), _), (((omega arith, omega arith), _), (((omega arith, omega arith), _), (((omega arith, omega arith), _), _))));
}

lawful_b : AreLawfulJobs task_b 37 jobs_of_b
lawful_b = record {
  arrivals = (
    record { not_early = omega arith; not_late = omega arith; arrives = omega arith; released = omega arith; in_jitter = omega arith },
    (
      record { not_early = omega arith; not_late = omega arith; arrives = omega arith; released = omega arith; in_jitter = omega arith },
      omega arith,
    ),
  );
  times = All-from_recursion (HasTimes task_b) jobs_of_b (((omega arith, omega arith), _), (((omega arith, omega arith), _), _));
}

pub table_lawful : IsLawful two_tasks (table_with jobs_of_b)
unfolding two_tasks
table_lawful = record { tasks = refl; jobs = both (λ i. AreLawfulJobs (timing_at two_tasks i) 37 (table_jobs (table_with jobs_of_b) i)) lawful_a lawful_b }

-- after B's first job another is due
pub table_without_second : IsLawful two_tasks (table_with (take 1 jobs_of_b)) → ⊥
unfolding two_tasks
table_without_second lawful =
    let one : AreLawfulJobs task_b 37 (take 1 jobs_of_b) = lawful.jobs 1 (omega (arith, tasks_are)) in
    let arrivals = one.arrivals in
    omega (arith, arrivals.1)

-- ---- the run

-- a task of one runnable that isn't whole has no whole one
pub not_whole : (range : TimeRange) (place : ℕ) → range.whole ≡ false → place < 1 → (get_or (range ∷ []) place no_range).whole ≡ true → ⊥
not_whole range zero divided h whole = cc (divided, whole)
not_whole range (suc place) divided h whole = omega arith

-- a task runs where more of it is released than executed
due : ℕ → ℕ → Option ℕ
due i t = cond (nat_lt (executed two_tasks two_tasks_run i t) (released (jobs_of two_tasks_run i) t)) (Some i) None

entries_due_a : core_entries two_tasks_run 0 ≡ map (due 0) (range_with_len 0 37)
unfolding due two_tasks two_tasks_run executed released
entries_due_a = refl

entries_due_b : core_entries two_tasks_run 1 ≡ map (due 1) (range_with_len 0 37)
unfolding due two_tasks two_tasks_run executed released
entries_due_b = refl

entry_due : (i : ℕ) → i < 2 → (t : ℕ) → t < 37 → entry_at two_tasks_run i t ≡ due i t
entry_due i is t h =
    ap (λ es. get_or es t None) (both (λ i. core_entries two_tasks_run i ≡ map (due i) (range_with_len 0 37)) entries_due_a entries_due_b i is)
    ∙ get_or-map-range_with_len (due i) 0 37 t t None h (omega arith)

-- no task is held, since none has a whole runnable
none_whole : (i : ℕ) → i < 2 → (n : ℕ) → IsHeld (timing_at two_tasks i) (jobs_of two_tasks_run i) n → ⊥
unfolding two_tasks
none_whole i is n held = absurd (both (λ i. (place : ℕ) → place < length (timing_at two_tasks i).ranges → (range_at (timing_at two_tasks i) place).whole ≡ true → ⊥)
    (λ place. not_whole _ place refl) (λ place. not_whole _ place refl) i is held.place held.inside.is_runnable held.inside.is_whole)

none_held : (t core : ℕ) → IsNoneHeld two_tasks two_tasks_run.table (λ j. executed two_tasks two_tasks_run j t) core
none_held t core = record { none = λ i is on held. none_whole i (omega (arith, is, tasks_are)) (executed two_tasks two_tasks_run i t) held }

due_scheduled : (i : ℕ) → i < 2 → (t : ℕ) → IsScheduled two_tasks two_tasks_run.table (λ j. executed two_tasks two_tasks_run j t) t i (due i t)
unfolding due
due_scheduled i is t =
    let E = λ (j : ℕ). executed two_tasks two_tasks_run j t in
    let R = λ (j : ℕ). released (jobs_of two_tasks_run j) t in
    let same = λ (j : ℕ) (hj : j < length two_tasks.tasks) (on : (timing_at two_tasks j).core ≡ i).
    (let below : j < 2 = omega (arith, hj, tasks_are) in sym (core_is j below) ∙ on) in
    cond_both (nat_lt (E i) (R i)) (Some i) None (IsScheduled two_tasks two_tasks_run.table E t i)
    (λ more. inr (
      none_held t i,
      record {
        is_task = omega (arith, tasks_are);
        on_core = core_is i is;
        pending = ltb-true (E i) (R i) more;
        highest = λ j hj on pending. omega (arith, ap (λ n. (timing_at two_tasks n).priority) (same j hj on));
      },
    ))
    (λ none. (
      none_held t i,
      record {
        none = λ j hj on pending.
            let e = same j hj on in
            omega (arith, subst (λ n. E n < R n) e pending, ltb-false (E i) (R i) none);
      },
    ))

entry_in_form : (i : ℕ) → i < 2 → (t : ℕ) → IsEntryOf two_tasks i (due i t)
unfolding due
entry_in_form i is t =
    cond_both (nat_lt (executed two_tasks two_tasks_run i t) (released (jobs_of two_tasks_run i) t)) (Some i) None (IsEntryOf two_tasks i)
    (λ more. (omega (arith, tasks_are), core_is i is))
    (λ none. tt)

ticks_are : two_tasks_run.table.ticks ≡ 37
unfolding two_tasks_run
ticks_are = refl

four : (P : ℕ → Type 0) → P 0 → P 1 → P 2 → P 3 → (k : ℕ) → k < 4 → P k
four P a b c d zero h = a
four P a b c d (suc zero) h = b
four P a b c d (suc (suc zero)) h = c
four P a b c d (suc (suc (suc zero))) h = d
four P a b c d (suc (suc (suc (suc k)))) h = absurd (omega arith)

times_in_form : (i k : ℕ) → i < length two_tasks.tasks → k < length (jobs_of two_tasks_run i)
    → length (job_at (jobs_of two_tasks_run i) k).times ≡ length (timing_at two_tasks i).ranges
unfolding two_tasks two_tasks_run
times_in_form zero k hi hk = four (λ k. length (job_at jobs_of_a k).times ≡ 1) refl refl refl refl k hk
times_in_form (suc zero) k hi hk = both (λ k. length (job_at jobs_of_b k).times ≡ 1) refl refl k hk
times_in_form (suc (suc i)) k hi hk = absurd (omega arith)

lengths : (i : ℕ) → i < 2 → length (core_entries two_tasks_run i) ≡ 37
unfolding two_tasks_run
lengths = both (λ i. length (core_entries two_tasks_run i) ≡ 37) refl refl

sizes : (length two_tasks_run.table.jobs ≡ length two_tasks.tasks) × (length two_tasks_run.entries ≡ two_tasks.cores)
unfolding two_tasks two_tasks_run
sizes = (refl, refl)

in_form : IsInForm two_tasks two_tasks_run
in_form = record {
  tasks = sizes.0;
  times = times_in_form;
  cores = sizes.1;
  ticks = λ core h. lengths core (omega (arith, h, cores_are)) ∙ sym ticks_are;
  entries = λ core t h ht.
      let is : core < 2 = omega (arith, h, cores_are) in
      subst (IsEntryOf two_tasks core) (sym (entry_due core is t (omega (arith, ht, ticks_are)))) (entry_in_form core is t);
}

run_table : two_tasks_run.table ≡ table_with jobs_of_b
unfolding two_tasks_run
run_table = refl

pub run_legal : IsLegal two_tasks two_tasks_run
run_legal = record {
  in_form = in_form;
  lawful = subst (IsLawful two_tasks) (sym run_table) table_lawful;
  scheduled = λ core t h ht.
      let is : core < 2 = omega (arith, h, cores_are) in
      subst (IsScheduled two_tasks two_tasks_run.table (λ j. executed two_tasks two_tasks_run j t) t core)
      (sym (entry_due core is t (omega (arith, ht, ticks_are)))) (due_scheduled core is t);
}

-- ---- its moments

-- where executed ticks grow to a number, no earlier moment has it
first_reached : (i t n s : ℕ) → executed two_tasks two_tasks_run i t ≡ n → executed two_tasks two_tasks_run i s ≡ suc n → suc t ≤ s
first_reached i t n s before reached = climb_lt (executed two_tasks two_tasks_run i) (executed_climbs two_tasks two_tasks_run i) t s (omega arith)

-- job k of A starts at 10 k, and finishes 3 ticks later
starts_a : (k : ℕ) → k < 4 → Starts two_tasks two_tasks_run 0 k 0 (10 * k)
unfolding two_tasks two_tasks_run executed work_before
starts_a = four (λ k. Starts two_tasks two_tasks_run 0 k 0 (10 * k))
    (record { in_table = omega arith; is_runnable = omega arith; below_end = omega arith; reached = refl; runs = refl })
    (record { in_table = omega arith; is_runnable = omega arith; below_end = omega arith; reached = refl; runs = refl })
    (record { in_table = omega arith; is_runnable = omega arith; below_end = omega arith; reached = refl; runs = refl })
    (record { in_table = omega arith; is_runnable = omega arith; below_end = omega arith; reached = refl; runs = refl })

finishes_a : (k : ℕ) → k < 4 → Finishes two_tasks two_tasks_run 0 k 0 (10 * k + 3)
unfolding two_tasks two_tasks_run executed work_before
finishes_a = four (λ k. Finishes two_tasks two_tasks_run 0 k 0 (10 * k + 3))
    (record { in_table = omega arith; is_runnable = omega arith; by_end = omega arith; reached = refl; least = λ s. first_reached 0 2 2 s refl })
    (record { in_table = omega arith; is_runnable = omega arith; by_end = omega arith; reached = refl; least = λ s. first_reached 0 12 5 s refl })
    (record { in_table = omega arith; is_runnable = omega arith; by_end = omega arith; reached = refl; least = λ s. first_reached 0 22 8 s refl })
    (record { in_table = omega arith; is_runnable = omega arith; by_end = omega arith; reached = refl; least = λ s. first_reached 0 32 11 s refl })

-- job k of B starts at 12 + 20 k, and finishes 5 ticks later
starts_b : (k : ℕ) → k < 2 → Starts two_tasks two_tasks_run 1 k 0 (20 * k + 12)
unfolding two_tasks two_tasks_run executed work_before
starts_b = both (λ k. Starts two_tasks two_tasks_run 1 k 0 (20 * k + 12))
    (record { in_table = omega arith; is_runnable = omega arith; below_end = omega arith; reached = refl; runs = refl })
    (record { in_table = omega arith; is_runnable = omega arith; below_end = omega arith; reached = refl; runs = refl })

finishes_b : (k : ℕ) → k < 2 → Finishes two_tasks two_tasks_run 1 k 0 (20 * k + 17)
unfolding two_tasks two_tasks_run executed work_before
finishes_b = both (λ k. Finishes two_tasks two_tasks_run 1 k 0 (20 * k + 17))
    (record { in_table = omega arith; is_runnable = omega arith; by_end = omega arith; reached = refl; least = λ s. first_reached 1 16 4 s refl })
    (record { in_table = omega arith; is_runnable = omega arith; by_end = omega arith; reached = refl; least = λ s. first_reached 1 36 9 s refl })

pub reads_a : (k : ℕ) → k < 4 → Reads two_tasks two_tasks_run 0 k 0 (10 * k)
unfolding two_tasks
reads_a k h = let starts = starts_a k h in record { in_table = starts.in_table; is_runnable = starts.is_runnable; moment = starts }

pub writes_a : (k : ℕ) → k < 4 → Writes two_tasks two_tasks_run 0 k 0 (10 * k + 3)
unfolding two_tasks
writes_a k h = let finishes = finishes_a k h in record { in_table = finishes.in_table; is_runnable = finishes.is_runnable; moment = finishes }

pub reads_b : (k : ℕ) → k < 2 → Reads two_tasks two_tasks_run 1 k 0 (20 * k + 12)
unfolding two_tasks
reads_b k h = let starts = starts_b k h in record { in_table = starts.in_table; is_runnable = starts.is_runnable; moment = starts }

pub writes_b : (k : ℕ) → k < 2 → Writes two_tasks two_tasks_run 1 k 0 (20 * k + 17)
unfolding two_tasks
writes_b k h = let finishes = finishes_b k h in record { in_table = finishes.in_table; is_runnable = finishes.is_runnable; moment = finishes }

jobs_are : (length (jobs_of two_tasks_run 0) ≡ 4) × (length (jobs_of two_tasks_run 1) ≡ 2)
unfolding two_tasks_run
jobs_are = (refl, refl)

-- and at no other moments
pub write_of_a : (k t : ℕ) → Writes two_tasks two_tasks_run 0 k 0 t → (k < 4) × (t ≡ 10 * k + 3)
write_of_a k t writes =
    let job : k < 4 = omega (arith, writes.in_table, jobs_are.0) in
    (job, writes_once two_tasks two_tasks_run 0 k 0 t (10 * k + 3) writes (writes_a k job))

pub read_of_b : (k t : ℕ) → Reads two_tasks two_tasks_run 1 k 0 t → (k < 2) × (t ≡ 20 * k + 12)
read_of_b k t reads =
    let job : k < 2 = omega (arith, reads.in_table, jobs_are.1) in
    (job, reads_once two_tasks two_tasks_run 1 k 0 t (20 * k + 12) reads (reads_b k job))

pub write_of_b : (k t : ℕ) → Writes two_tasks two_tasks_run 1 k 0 t → (k < 2) × (t ≡ 20 * k + 17)
write_of_b k t writes =
    let job : k < 2 = omega (arith, writes.in_table, jobs_are.1) in
    (job, writes_once two_tasks two_tasks_run 1 k 0 t (20 * k + 17) writes (writes_b k job))
