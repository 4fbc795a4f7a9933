-- At tick 0 each task of a core stands before its first job.
use Rattle.std.proofs.Common.{◌≡◌, ℕ, ◌<◌, inl, inr, Bool, List, [], length, get_or, sym, ap, ◌∙◌, subst, arith}
use Rattle.std.specs.Prelude.{◌==◌}
use Rattle.std.proofs.lemmas.Bool.{cases_lt, cases_eq, eqb-true, eq-eqb}
use Rattle.cl_model.specs.{declared.model.SystemModel.SystemModel, ByNumber.{task_at, core_of, tasks_of_core}}
use Rattle.cl_runs.specs.{declared.job.JobTable.JobTable, SystemOf.system_of, TaskTiming.{Timing, timing_at}, Table.table_jobs}
use Rattle.cl_runs.proofs.ModelSystem.{timing_is, count_is}
use Rattle.cl_sched.specs.{declared.progress.Progress.Progress, Progress.HasComeTo, CoreProgress.{progress_at, IsOfCore, StandsAmong, AreOfCore}, Inner.Executing.IsUnbegun}
use Rattle.cl_sched.proofs.CoreLists.{passing, passing_there, passing_fine, passing_rise}

-- each of the tasks of a core is on it
pub number_on : (model : SystemModel) (core : ℕ) (numbers : List ℕ) → numbers ≡ tasks_of_core model core
    → (k : ℕ) → k < length numbers → (timing_at (system_of model) (get_or numbers k 0)).core ≡ core
number_on model core numbers are k h =
    let is_on : ℕ → Bool = λ i. core_of model i == core in
    let number = get_or (passing is_on (length model.tasks)) k 0 in
    let fine = passing_fine is_on (length model.tasks) k (omega (arith, h, ap length are)) in
    ap (λ (ns : List ℕ). (timing_at (system_of model) (get_or ns k 0)).core) are
    ∙ ap (λ (t : Timing). t.core) (timing_is model number fine.0) ∙ eqb-true (core_of model number) core fine.1

module _ (model : SystemModel) (table : JobTable) (core : ℕ) (tasks : List Progress) (numbers : List ℕ) (are : numbers ≡ tasks_of_core model core)
    (as_many : length tasks ≡ length numbers)
    (begun : (k : ℕ) → k < length numbers → IsUnbegun model table (get_or numbers k 0) (progress_at tasks k)) where
  abbrev is_on : ℕ → Bool
  is_on i = core_of model i == core

  abbrev number : ℕ → ℕ
  number k = get_or (passing is_on (length model.tasks)) k 0

  within : (k : ℕ) → k < length tasks → k < length (passing is_on (length model.tasks))
  within k h = omega (arith, h, as_many, ap length are)

  task_is : (k : ℕ) → k < length tasks → (progress_at tasks k).task ≡ number k
  task_is k h = (begun k (omega (arith, h, as_many))).task_is ∙ ap (λ (ns : List ℕ). get_or ns k 0) are

  core_is : (i : ℕ) → i < length model.tasks → (timing_at (system_of model) i).core ≡ core_of model i
  core_is i h = ap (λ (t : Timing). t.core) (timing_is model i h)

  of_core : (k : ℕ) → k < length tasks → IsOfCore (system_of model) table core [] (progress_at tasks k)
  of_core k h =
      let fine = passing_fine is_on (length model.tasks) k (within k h) in
      let one = begun k (omega (arith, h, as_many)) in
      let own : (progress_at tasks k).task ≡ get_or numbers k 0 = one.task_is in
      let is : (progress_at tasks k).task < length model.tasks = omega (arith, task_is k h, fine.0) in
      record {
        is_task = omega (arith, is, count_is model);
        on_core = core_is (progress_at tasks k).task is ∙ ap (core_of model) (task_is k h) ∙ eqb-true (core_of model (number k)) core fine.1;
        priority = one.priority ∙ ap (λ i. (task_at model i).priority) (sym own)
            ∙ sym (ap (λ (t : Timing). t.priority) (timing_is model (progress_at tasks k).task is));
        has_come = subst (λ i. HasComeTo (table_jobs table i) 0 (progress_at tasks k)) (sym own) one.has_come;
      }

  listed : (task : ℕ) → task < length (system_of model).tasks → (timing_at (system_of model) task).core ≡ core → StandsAmong task tasks
  listed task h on =
      let is : task < length model.tasks = omega (arith, h, count_is model) in
      let there = passing_there is_on (length model.tasks) task is (eq-eqb (core_of model task) core (sym (core_is task is) ∙ on)) in
      let place : there.index < length tasks = omega (arith, there.within, as_many, ap length are) in
      record {
        index = there.index;
        within = place;
        is = task_is there.index place ∙ there.is;
      }

  once : (one other : ℕ) → one < length tasks → other < length tasks
      → (progress_at tasks one).task ≡ (progress_at tasks other).task → one ≡ other
  once one other h_one h_other same = elim (cases_eq one other) [
    | inl is ↦ is
    | inr apart ↦ elim (cases_lt one other) [
      | inl less ↦ absurd (omega (
        arith,
        same,
        task_is one h_one,
        task_is other h_other,
        passing_rise is_on (length model.tasks) one other less (within other h_other),
      ))
      | inr more ↦ absurd (omega (
        arith,
        same,
        task_is one h_one,
        task_is other h_other,
        passing_rise is_on (length model.tasks) other one (omega (arith, apart, more)) (within one h_one),
      ))
    ]
  ]

  pub all_of_core : AreOfCore (system_of model) table core [] tasks
  all_of_core = record { each = of_core; all = listed; once = once }
