-- Two legal runs with one table are equal.
use Rattle.std.proofs.Common.{◌≡◌, ℕ, zero, suc, ◌<◌, ◌≤◌, None, [], length, take, refl, sym, ap, ◌∙◌, arith}
use Rattle.std.proofs.Math.Numerals.{add-one}
use Rattle.std.proofs.lemmas.List.{take_more_same, take_all, ext_get_or}
use Rattle.cl_runs.specs.{TaskTiming.{System, timing_at, IsSound}, declared.job.JobTable.JobTable, Table.table_jobs, Run.{Run, core_entries, entry_at, executed}, Legal.{released, IsLegal}}
use Rattle.cl_runs.proofs.{Executed.executed_same, HeldTasks.held_moved, Scheduling.{AreAlike, scheduled_alike, scheduled_once}}

pub run_same : (one other : Run) → one.table ≡ other.table → one.entries ≡ other.entries → one ≡ other
run_same one other table entries = λ i. record { table = table i; entries = entries i }

module _ (system : System) (sound : IsSound system) (one other : Run) (legal : IsLegal system one) (legal_other : IsLegal system other)
    (table : one.table ≡ other.table) where
  ticks : one.table.ticks ≡ other.table.ticks
  ticks = ap (λ (x : JobTable). x.ticks) table

  -- where the entries below t are the same, the next ones are
  next_same : (t core : ℕ) → t < one.table.ticks → core < system.cores
      → ((c : ℕ) → c < system.cores → take t (core_entries one c) ≡ take t (core_entries other c))
      → entry_at one core t ≡ entry_at other core t
  next_same t core h on before =
      let alike : AreAlike system one.table other.table (λ i. executed system one i t) (λ i. executed system other i t) t core = record {
        executed = λ i is same. executed_same system one other i t (before (timing_at system i).core (sound.tasks i is).on_core);
        released = λ i is same. ap (λ (x : JobTable). released (table_jobs x i) t) table;
        held = λ i is same. held_moved (timing_at system i) _ _ _ _ (ap (λ (x : JobTable). table_jobs x i) table)
            (executed_same system one other i t (before (timing_at system i).core (sound.tasks i is).on_core));
      } in
      scheduled_once system sound other.table (λ i. executed system other i t) t core _ _
      (scheduled_alike system one.table other.table _ _ t core alike _ (legal.scheduled core t on h))
      (legal_other.scheduled core t on (omega (arith, ticks)))

  same_below : (t : ℕ) → t ≤ one.table.ticks → (core : ℕ) → core < system.cores
      → take t (core_entries one core) ≡ take t (core_entries other core)
  same_below zero h core on = refl
  same_below (suc t) h core on =
      let below_one : t < length (core_entries one core) = omega (arith, legal.in_form.ticks core on) in
      let below_other : t < length (core_entries other core) = omega (arith, ticks, legal_other.in_form.ticks core on) in
      rw add-one at (take_more_same (core_entries one core) (core_entries other core) t None below_one below_other
      (same_below t (omega arith) core on) (next_same t core h on (λ c on_c. same_below t (omega arith) c on_c)))

  same_entries : (core : ℕ) → core < system.cores → core_entries one core ≡ core_entries other core
  same_entries core on =
      sym (take_all one.table.ticks (core_entries one core) (omega (arith, legal.in_form.ticks core on)))
      ∙ same_below one.table.ticks (omega arith) core on
      ∙ take_all one.table.ticks (core_entries other core) (omega (arith, ticks, legal_other.in_form.ticks core on))

  pub one_run : one ≡ other
  one_run = run_same one other table (ext_get_or [] one.entries other.entries
      (legal.in_form.cores ∙ sym legal_other.in_form.cores)
      (λ core h. same_entries core (omega (arith, legal.in_form.cores))))
