-- When a job of a run reads and writes can be decided.
use Rattle.std.proofs.Common.{◌≡◌, ℕ, suc, ◌+◌, ◌-◌, ◌<◌, ◌⊎◌, inl, inr, Some, length, refl, arith}
use Rattle.std.proofs.lemmas.Bool.{cases_lt, cases_eq}
use Rattle.cl_model.specs.declared.task.AccessKind.{AccessKind, TheVariants.{Explicit, Implicit, Timed}}
use Rattle.cl_runs.specs.{TaskTiming.{System, timing_at}, Table.job_at, Work.{work_before, work_through}, Run.{Run, jobs_of, entry_at, executed}, Moments.{Starts, Finishes, WritesAtDeadline, ReadsBy, WritesBy, Reads, Writes}}
use Rattle.cl_runs.proofs.{Executed.cases_entry, FirstBelow.{IsFirst, both_or_not, first_or_none}}

-- something holds, or it doesn't
abbrev pub Decided : Type 0 → Type 0
Decided A = A ⊎ (A → ⊥)

pub lt_or_not : (m n : ℕ) → Decided (m < n)
lt_or_not m n = elim (cases_lt m n) [ inl less ↦ inl less | inr not ↦ inr (λ less. omega arith) ]

module _ (system : System) (run : Run) (i : ℕ) where
  -- the job is one of the table, and the place one of the runnables
  abbrev IsThere : (job place : ℕ) → Type 0
  IsThere k p = (k < length (jobs_of run i)) × (p < length (timing_at system i).ranges)

  there_or_not : (k p : ℕ) → Decided (IsThere k p)
  there_or_not k p = both_or_not (lt_or_not k (length (jobs_of run i))) (lt_or_not p (length (timing_at system i).ranges))

  abbrev IsAtStart : (job place tick : ℕ) → Type 0
  IsAtStart k p t = (executed system run i t ≡ work_before (jobs_of run i) k p) × (entry_at run (timing_at system i).core t ≡ Some i)

  some_start : (k p : ℕ) → Decided ((t : ℕ) × Starts system run i k p t)
  some_start k p = by_there (there_or_not k p)
    where
      by_first : IsThere k p → ((t : ℕ) × IsFirst (IsAtStart k p) run.table.ticks t) ⊎ ((t : ℕ) → t < run.table.ticks → IsAtStart k p t → ⊥)
          → Decided ((t : ℕ) × Starts system run i k p t)
      by_first there (inl found) = inl (
        found.0,
        record {
          in_table = there.0;
          is_runnable = there.1;
          below_end = found.1.within;
          reached = found.1.holds.0;
          runs = found.1.holds.1;
        },
      )
      by_first there (inr none) = inr (λ start. none start.0 start.1.below_end (start.1.reached, start.1.runs))

      by_there : Decided (IsThere k p) → Decided ((t : ℕ) × Starts system run i k p t)
      by_there (inl there) = by_first there (first_or_none (IsAtStart k p)
          (λ t. both_or_not (cases_eq (executed system run i t) (work_before (jobs_of run i) k p)) (cases_entry i (entry_at run (timing_at system i).core t))) run.table.ticks)
      by_there (inr not) = inr (λ start. not (start.1.in_table, start.1.is_runnable))

  abbrev IsAtFinish : (job place moment : ℕ) → Type 0
  IsAtFinish k p t = executed system run i t ≡ work_through (jobs_of run i) k p

  some_finish : (k p : ℕ) → Decided ((t : ℕ) × Finishes system run i k p t)
  some_finish k p = by_there (there_or_not k p)
    where
      by_first : IsThere k p → ((t : ℕ) × IsFirst (IsAtFinish k p) (suc run.table.ticks) t) ⊎ ((t : ℕ) → t < suc run.table.ticks → IsAtFinish k p t → ⊥)
          → Decided ((t : ℕ) × Finishes system run i k p t)
      by_first there (inl found) = inl (
        found.0,
        record {
          in_table = there.0;
          is_runnable = there.1;
          by_end = omega (arith, found.1.within);
          reached = found.1.holds;
          least = λ s reached. elim (cases_lt s (suc run.table.ticks)) [
            | inl below ↦ found.1.least s below reached
            | inr past ↦ omega (arith, past, found.1.within)
          ];
        },
      )
      by_first there (inr none) = inr (λ finish. none finish.0 (omega (arith, finish.1.by_end)) finish.1.reached)

      by_there : Decided (IsThere k p) → Decided ((t : ℕ) × Finishes system run i k p t)
      by_there (inl there) = by_first there (first_or_none (IsAtFinish k p)
          (λ t. cases_eq (executed system run i t) (work_through (jobs_of run i) k p)) (suc run.table.ticks))
      by_there (inr not) = inr (λ finish. not (finish.1.in_table, finish.1.is_runnable))

  -- ---- reads and writes

  some_read_by : (access : AccessKind) (k p : ℕ) → Decided ((t : ℕ) × ReadsBy access system run i k p t)
  some_read_by Explicit k p = some_start k p
  some_read_by Implicit k p = some_start k 0
  some_read_by Timed k p = inl ((job_at (jobs_of run i) k).arrival, refl)

  abbrev due_at : (job : ℕ) → ℕ
  due_at k = (job_at (jobs_of run i) k).arrival + (timing_at system i).deadline

  some_deadline_write : (k : ℕ) → Decided ((t : ℕ) × WritesAtDeadline system run i k t)
  some_deadline_write k = by_finish (some_finish k (length (timing_at system i).ranges - 1))
    where
      by_time : (f : ℕ) → Finishes system run i k (length (timing_at system i).ranges - 1) f
          → Decided ((f < suc (due_at k)) × (due_at k < suc run.table.ticks)) → Decided ((t : ℕ) × WritesAtDeadline system run i k t)
      by_time f finishes (inl within) = inl (
        due_at k,
        record {
          finish = f;
          finishes = finishes;
          in_time = omega (arith, within.0);
          at_deadline = refl;
          by_end = omega (arith, within.1);
        },
      )
      by_time f finishes (inr not) = inr (λ write. not (
        omega (arith, finishes.least write.1.finish write.1.finishes.reached, write.1.in_time, write.1.at_deadline),
        omega (arith, write.1.by_end, write.1.at_deadline),
      ))

      by_finish : Decided ((t : ℕ) × Finishes system run i k (length (timing_at system i).ranges - 1) t) → Decided ((t : ℕ) × WritesAtDeadline system run i k t)
      by_finish (inl found) = by_time found.0 found.1 (both_or_not (lt_or_not found.0 (suc (due_at k))) (lt_or_not (due_at k) (suc run.table.ticks)))
      by_finish (inr none) = inr (λ write. none (write.1.finish, write.1.finishes))

  some_write_by : (access : AccessKind) (k p : ℕ) → Decided ((t : ℕ) × WritesBy access system run i k p t)
  some_write_by Explicit k p = some_finish k p
  some_write_by Implicit k p = some_finish k (length (timing_at system i).ranges - 1)
  some_write_by Timed k p = some_deadline_write k

  pub some_read : (k p : ℕ) → Decided ((t : ℕ) × Reads system run i k p t)
  some_read k p = by_parts (both_or_not (there_or_not k p) (some_read_by (timing_at system i).access k p))
    where
      by_parts : Decided (IsThere k p × ((t : ℕ) × ReadsBy (timing_at system i).access system run i k p t)) → Decided ((t : ℕ) × Reads system run i k p t)
      by_parts (inl parts) = inl (parts.1.0, record { in_table = parts.0.0; is_runnable = parts.0.1; moment = parts.1.1 })
      by_parts (inr not) = inr (λ read. not ((read.1.in_table, read.1.is_runnable), (read.0, read.1.moment)))

  pub some_write : (k p : ℕ) → Decided ((t : ℕ) × Writes system run i k p t)
  some_write k p = by_parts (both_or_not (there_or_not k p) (some_write_by (timing_at system i).access k p))
    where
      by_parts : Decided (IsThere k p × ((t : ℕ) × WritesBy (timing_at system i).access system run i k p t)) → Decided ((t : ℕ) × Writes system run i k p t)
      by_parts (inl parts) = inl (parts.1.0, record { in_table = parts.0.0; is_runnable = parts.0.1; moment = parts.1.1 })
      by_parts (inr not) = inr (λ write. not ((write.1.in_table, write.1.is_runnable), (write.0, write.1.moment)))
