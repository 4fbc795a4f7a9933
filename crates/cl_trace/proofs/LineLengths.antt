-- How long the lines of a trace are.
use Rattle.std.proofs.Common.{ℕ, ◌*◌, ◌<◌, ◌≤◌, inl, inr, List, [], ◌∷◌, ◌++◌, length, codes, decimal, ap, arith}
use Rattle.std.specs.Prelude.{All}
use Rattle.std.proofs.lemmas.Bool.{cases_lt}
use Rattle.std.proofs.lemmas.Bool.Decides.{nat_tests}
use Rattle.std.proofs.lemmas.Fmt.{length-decimal-le}
use Rattle.std.proofs.lemmas.List.{length-append, get_or_past}
use Rattle.std.proofs.lemmas.List.Concat.{length-flat_map}
use Rattle.std.proofs.lemmas.List.Elements.{All-head, All-tail, All-cons}
use Rattle.std.proofs.lemmas.List.Sums.{sum_by-cons}
use Rattle.cl_model.specs.{declared.model.SystemModel.SystemModel, Name.IsName, AreNamed.AreNamed, ByNumber.{task_at, no_task}}
use Rattle.cl_runs.specs.declared.job.Job.{Job}
use Rattle.cl_trace.specs.Trace.{JobOf, Runs, numbers, item_text}

-- a number of at most 13 digits
abbrev pub IsShort : ℕ → Type 0
IsShort n = n < 10000000000000

short_number : (n : ℕ) → IsShort n → length (codes " " ++ decimal n) ≤ 14
short_number n h = omega (arith, length-append (codes " ") (decimal n), length-decimal-le 13 n (omega arith) h (omega (arith, h)))

pub numbers_short : (ns : List ℕ) → All IsShort ns → length (numbers ns) ≤ 14 * length ns
numbers_short [] h = omega arith
numbers_short (n ∷ ns) h = omega (
  arith,
  length-flat_map (λ k. codes " " ++ decimal k) (n ∷ ns),
  sum_by-cons (λ k. length (codes " " ++ decimal k)) n ns,
  length-flat_map (λ k. codes " " ++ decimal k) ns,
  short_number n (All-head IsShort n ns h),
  numbers_short ns (All-tail IsShort n ns h),
)

name_short : (name : List ℕ) → IsName name → length name ≤ 64
name_short name is = grind (arith, nat_tests, is)

pub task_name_short : (model : SystemModel) → AreNamed model → (task : ℕ) → length (task_at model task).name ≤ 64
unfolding no_task
task_name_short model named task = elim (cases_lt task (length model.tasks)) [
  | inl is ↦ name_short _ (named.tasks task no_task is).name
  | inr past ↦ omega (arith, ap (λ (t : Rattle.cl_model.specs.declared.task.TaskDef.TaskDef). length t.name) (get_or_past model.tasks task no_task past))
]

module _ (model : SystemModel) (named : AreNamed model) where
  -- a line of a job whose times are short, and at least one
  pub job_short : (task : ℕ) (job : Job) → IsShort job.arrival → IsShort job.release → All IsShort job.times → 0 < length job.times
      → length (item_text model (JobOf task job)) ≤ 111 * length job.times
  unfolding item_text
  job_short task job arrival release times some = omega (
    arith,
    some,
    length-append (codes "job " ++ (task_at model task).name ++ numbers (job.arrival ∷ job.release ∷ job.times)) (10 ∷ []),
    length-append (codes "job ") ((task_at model task).name ++ numbers (job.arrival ∷ job.release ∷ job.times)),
    length-append (task_at model task).name (numbers (job.arrival ∷ job.release ∷ job.times)),
    numbers_short (job.arrival ∷ job.release ∷ job.times) (All-cons IsShort job.arrival (job.release ∷ job.times) arrival (All-cons IsShort job.release job.times release times)),
    task_name_short model named task,
  )

  pub run_short : (task from to : ℕ) → IsShort from → IsShort to → length (item_text model (Runs task from to)) ≤ 97
  unfolding item_text
  run_short task from to h k = omega (
    arith,
    length-append (codes "run " ++ (task_at model task).name ++ numbers (from ∷ to ∷ [])) (10 ∷ []),
    length-append (codes "run ") ((task_at model task).name ++ numbers (from ∷ to ∷ [])),
    length-append (task_at model task).name (numbers (from ∷ to ∷ [])),
    numbers_short (from ∷ to ∷ []) (All-cons IsShort from (to ∷ []) h (All-cons IsShort to [] k (λ i d below. absurd (omega arith)))),
    task_name_short model named task,
  )
