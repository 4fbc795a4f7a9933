-- How an order is filled from the lowest priority upward: by the first task that fits below all others without a place
-- yet.
use Rattle.std.specs.Prelude.{◌≡◌, ℕ, zero, suc, Bool, false, not, ◌&&◌, ◌==◌, max, List, [], ◌∷◌, map, filter, find, is_some, Option, Some}
use Rattle.std.specs.List.{list_all, list_any}
use Rattle.std.specs.Option.{option_map, option_and_then}
use Rattle.cl_model.specs.{Timing.greatest_jitter, ValidTasks.spans_too_many}
use Rattle.cl_runs.specs.{TaskTiming.{System, timing_at}, ExecutionTimes.greatest_execution}
use Rattle.cl_resp.specs.{declared.question.{Above.Above, Question.Question}, Question.{longest_hold, taken_by}, Response.response_to}

-- the tasks of a list but for one
abbrev pub without : (task : ℕ) → List ℕ → List ℕ
without task tasks = filter (λ other. not (other == task)) tasks

-- no task stands in a list twice
abbrev pub AreDistinct : List ℕ → Type 0
AreDistinct [] = Unit {0}
AreDistinct (x ∷ xs) = (list_any (λ y. y == x) xs ≡ false) × AreDistinct xs

-- the question of a task below others that take so much, where whole runnables of the tasks below it block it for so
-- long
abbrev pub question_over : System → (block : ℕ) (above : List Above) → (task : ℕ) → Question
question_over system block above task = record {
  time = greatest_execution (timing_at system task);
  block = max block (longest_hold (timing_at system task));
  jitter = greatest_jitter (timing_at system task).pattern;
  deadline = (timing_at system task).deadline;
  above = above;
}

-- the question of a task below others, where whole runnables of the tasks below it block it for so long
abbrev pub question_below : System → (block : ℕ) (others : List ℕ) → (task : ℕ) → Question
question_below system block others task =
    question_over system block (map (λ other. taken_by (timing_at system other)) others) task

-- whether a deadline spans few least distances of each of the others
abbrev pub spans_few_of : System → (deadline : ℕ) → (others : List ℕ) → Bool
spans_few_of system deadline others = list_all (λ other. not (spans_too_many deadline (timing_at system other).pattern)) others

-- whether the deadline of a task spans few least distances of each of the others
abbrev pub spans_few : System → (others : List ℕ) → (task : ℕ) → Bool
spans_few system others task = spans_few_of system (timing_at system task).deadline others

-- whether a task passes below the others
abbrev pub fits_below : System → (block : ℕ) (others : List ℕ) → (task : ℕ) → Bool
fits_below system block others task = spans_few system others task && is_some (response_to (question_below system block others task))

-- whether an unplaced task passes below all other unplaced ones
abbrev pub fits : System → (block : ℕ) (unplaced : List ℕ) → (task : ℕ) → Bool
fits system block unplaced task = fits_below system block (without task unplaced) task

-- the best order of so many unplaced tasks: the first that fits comes first, and then those of the others
abbrev pub best_order : System → (count : ℕ) → (block : ℕ) (unplaced : List ℕ) → Option (List ℕ)
best_order system zero block unplaced = Some []
best_order system (suc count) block unplaced =
    option_and_then (λ task. option_map (λ order. task ∷ order)
    (best_order system count (max block (longest_hold (timing_at system task))) (without task unplaced)))
    (find (fits system block unplaced) unplaced)
