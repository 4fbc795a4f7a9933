-- The question of a task of a valid model: what it is by the numbers of the tasks of its core, and that it is in range.
use Rattle.std.proofs.Common.{◌≡◌, ℕ, ◌+◌, ◌-◌, ◌*◌, ◌<◌, ◌≤◌, Bool, true, false, cond, nat_le, nat_lt, List, length, get_or, map, sym, ap, ◌∙◌, subst, arith}
use Rattle.std.specs.Prelude.{All, ◌==◌, ◌&&◌}
use Rattle.std.specs.List.{filter, range_with_len}
use Rattle.std.proofs.lemmas.Bool.{ltb-true, eqb-true, eq-eqb, le-ltb}
use Rattle.std.proofs.lemmas.List.{length-map}
use Rattle.std.proofs.lemmas.List.Elements.{All-map, All-filter, filter_passes}
use Rattle.std.proofs.lemmas.List.Folds.{fold-map}
use Rattle.std.proofs.lemmas.List.FromFn.{length-range_with_len, get_or-range_with_len}
use Rattle.std.proofs.lemmas.Simd.{map-map}
use Rattle.cl_model.specs.{declared.{limits.TheConstants.{MOST_TICKS, MOST_DISTANCES, MOST_TASKS_OF_CORE}, model.SystemModel.SystemModel, stimulus.StimulusKind.StimulusKind}, ByNumber.{no_task, task_at, core_of, deadline_of, jitter_of, time_of, tasks_of_core}, Timing.least_distance}
use Rattle.cl_model.specs.{Timing.greatest_jitter, Validity.IsValid, Holds.{greatest_by, runnable_hold, task_hold}}
use Rattle.cl_model.specs.ByNumber as tasks
use Rattle.cl_model.proofs.{ValidTasks.{kind_in_range, early_enough, released_before, some_time, little_time, runnables_in_range}, CoreTasks.{below_known, few_tasks, few_distances}, ListFacts.maps_agree, Greatest.{greatest_within, greatest_agrees, greatest_mapped}}
use Rattle.cl_runs.specs.{TaskTiming.{TimeRange, Timing, timing_at}, SystemOf.{range_of, timing_of, system_of}, Priorities.is_above, ExecutionTimes.greatest_execution}
use Rattle.cl_runs.proofs.ModelSystem.{timing_is}
use Rattle.cl_stim.specs.AnyStimulus.{as_stimulus}
use Rattle.cl_stim.proofs.StimulusKinds.{kind_of-as_stimulus, least_few}
use Rattle.cl_resp.specs.{declared.question.{Block.{Block, TheVariants.{OfLower, WithOwn}}, Above.Above, Question.Question}, Question.{hold_of, longest_hold, block_of, lower_block_of, taken_by, question_of, tight_question_of, either_question, block_by, may_hold_beside, IsAboveInRange}}
use Rattle.cl_resp.specs.Question.{IsQuestionInRange}
use Rattle.cl_resp.proofs.Filters.{by_number, filter-map, filter-both, fewer}

-- whether another task has a higher priority, by number
abbrev pub is_higher : SystemModel → (task other : ℕ) → Bool
is_higher model task other = nat_lt (task_at model task).priority (task_at model other).priority

-- what a task takes of its core, by number
abbrev pub above_at : SystemModel → (other : ℕ) → Above
above_at model other = record { stimulus = as_stimulus (tasks.stimulus_of model other); time = time_of model other }

-- the numbers of the tasks above a task
abbrev pub numbers_above : SystemModel → (task : ℕ) → List ℕ
numbers_above model task = filter (is_higher model task) (tasks_of_core model (core_of model task))

-- how long a runnable of a task may hold its core, by number
abbrev pub hold_at : SystemModel → (other : ℕ) → ℕ
hold_at model other = task_hold (task_at model other)

-- whether another task may hold the core of a task, by number: it has a lower priority, or no higher one, where the
-- task's own runnables count
abbrev pub may_hold : SystemModel → (blocking : Block) → (task other : ℕ) → Bool
may_hold model blocking task other = may_hold_beside blocking (task_at model other).priority (task_at model task).priority

-- how long a runnable of such a task may
abbrev pub longest_blocker : SystemModel → (blocking : Block) → (task : ℕ) → ℕ
longest_blocker model blocking task = greatest_by (hold_at model) (filter (may_hold model blocking task) (tasks_of_core model (core_of model task)))

-- the question of a task, by number: with these times and tasks above it, and with its own
abbrev pub question_with : SystemModel → (task time block : ℕ) → List Above → Question
question_with model task time block above = record {
  time = time;
  block = block;
  jitter = jitter_of model task;
  deadline = deadline_of model task;
  above = above;
}

abbrev pub question_by_number : SystemModel → (blocking : Block) → (task : ℕ) → Question
question_by_number model blocking task =
    question_with model task (time_of model task) (longest_blocker model blocking task) (map (above_at model) (numbers_above model task))

-- ---- the question by number is the question

module _ (model : SystemModel) where
  pub time_is : (i : ℕ) → greatest_execution (timing_of model (task_at model i)) ≡ time_of model i
  unfolding greatest_execution
  time_is i = fold-map (λ (a : ℕ) (range : TimeRange). a + range.greatest) range_of 0 (task_at model i).runnables

  pub taken_is : (i : ℕ) → taken_by (timing_of model (task_at model i)) ≡ above_at model i
  taken_is i = ap (λ time. record { stimulus = as_stimulus (tasks.stimulus_of model i); time = time }) (time_is i)

  pub hold_is : (i : ℕ) → longest_hold (timing_of model (task_at model i)) ≡ hold_at model i
  unfolding longest_hold
  hold_is i = greatest_mapped hold_of range_of (task_at model i).runnables

  -- the timings that pass a test are those of the numbers that do
  timings_passing : (test : Timing → Bool) → filter test (system_of model).tasks
      ≡ map (λ j. timing_of model (task_at model j)) (filter (λ j. test (timing_of model (task_at model j))) (range_with_len 0 (length model.tasks)))
  unfolding system_of
  timings_passing test =
      let all = range_with_len 0 (length model.tasks) in
      ap (λ tasks. filter test (map (timing_of model) tasks)) (sym (by_number model.tasks no_task))
      ∙ ap (filter test) (map-map (timing_of model) (task_at model) all)
      ∙ filter-map test (λ j. timing_of model (task_at model j)) all

  pub above_is : (i : ℕ) → map taken_by (filter (is_above (timing_of model (task_at model i))) (system_of model).tasks) ≡ map (above_at model) (numbers_above model i)
  above_is i =
      let task = timing_of model (task_at model i) in
      let timing : ℕ → Timing = λ j. timing_of model (task_at model j) in
      let all = range_with_len 0 (length model.tasks) in
      ap (map taken_by) (timings_passing (is_above task))
      ∙ map-map taken_by timing (filter (λ j. is_above task (timing j)) all)
      ∙ ap (map (λ j. taken_by (timing j))) (filter-both (λ j. core_of model j == core_of model i) (is_higher model i) all)
      ∙ maps_agree (λ j. taken_by (timing j)) (above_at model) taken_is (numbers_above model i)

  -- of the tasks of a core whose priority passes a test
  longest_is : (test : ℕ → ℕ → Bool) (i : ℕ) → greatest_by longest_hold
      (filter (λ other. (other.core == core_of model i) && test other.priority (task_at model i).priority) (system_of model).tasks)
      ≡ greatest_by (hold_at model) (filter (λ j. test (task_at model j).priority (task_at model i).priority) (tasks_of_core model (core_of model i)))
  longest_is test i =
      let timing : ℕ → Timing = λ j. timing_of model (task_at model j) in
      let all = range_with_len 0 (length model.tasks) in
      let here : ℕ → Bool = λ j. core_of model j == core_of model i in
      let passes : ℕ → Bool = λ j. test (task_at model j).priority (task_at model i).priority in
      ap (greatest_by longest_hold) (timings_passing (λ other. (other.core == core_of model i) && test other.priority (task_at model i).priority))
      ∙ greatest_mapped longest_hold timing (filter (λ j. here j && passes j) all)
      ∙ ap (greatest_by (λ j. longest_hold (timing j))) (filter-both here passes all)
      ∙ greatest_agrees (λ j. longest_hold (timing j)) (hold_at model) hold_is (filter passes (tasks_of_core model (core_of model i)))

  pub block_is : (blocking : Block) (i : ℕ) → block_by blocking (system_of model) (timing_of model (task_at model i)) ≡ longest_blocker model blocking i
  unfolding block_of lower_block_of
  block_is WithOwn i = longest_is nat_le i
  block_is OfLower i = longest_is nat_lt i

  -- with the timing of the task, and a block
  with_block : (block : ℕ) (i : ℕ)
      → question_with model i (greatest_execution (timing_of model (task_at model i))) block
      (map taken_by (filter (is_above (timing_of model (task_at model i))) (system_of model).tasks))
      ≡ question_with model i (time_of model i) block (map (above_at model) (numbers_above model i))
  with_block block i =
      let above = map taken_by (filter (is_above (timing_of model (task_at model i))) (system_of model).tasks) in
      ap (λ time. question_with model i time block above) (time_is i) ∙ ap (question_with model i (time_of model i) block) (above_is i)

  -- with the timing of the task
  with_timing : (blocking : Block) (i : ℕ) → either_question blocking (system_of model) (timing_of model (task_at model i)) ≡ question_by_number model blocking i
  unfolding question_of tight_question_of
  with_timing WithOwn i = with_block (block_of (system_of model) (timing_of model (task_at model i))) i
      ∙ ap (λ block. question_with model i (time_of model i) block (map (above_at model) (numbers_above model i))) (block_is WithOwn i)
  with_timing OfLower i = with_block (lower_block_of (system_of model) (timing_of model (task_at model i))) i
      ∙ ap (λ block. question_with model i (time_of model i) block (map (above_at model) (numbers_above model i))) (block_is OfLower i)

  pub question_is : (blocking : Block) (i : ℕ) → i < length model.tasks
      → either_question blocking (system_of model) (timing_at (system_of model) i) ≡ question_by_number model blocking i
  question_is blocking i h = ap (either_question blocking (system_of model)) (timing_is model i h) ∙ with_timing blocking i

-- ---- the question is in range

-- no runnable in range holds its core for longer than the greatest time
part_few : (whole : Bool) (greatest : ℕ) → greatest ≤ MOST_TICKS → cond whole (greatest - 1) 0 ≤ MOST_TICKS
part_few true greatest few = omega (arith, few)
part_few false greatest few = omega arith

pub hold_few : (model : SystemModel) → IsValid model → (j : ℕ) → j < length model.tasks → hold_at model j ≤ MOST_TICKS
hold_few model valid j known = greatest_within runnable_hold (task_at model j).runnables MOST_TICKS
    (λ p d lt. part_few (get_or (task_at model j).runnables p d).whole (get_or (task_at model j).runnables p d).greatest
    (runnables_in_range model valid j known p d lt).greatest.1)

module _ (model : SystemModel) (valid : IsValid model) (i : ℕ) (h : i < length model.tasks) where
  one_above : (j : ℕ) → j < length model.tasks → core_of model j ≡ core_of model i → (task_at model i).priority < (task_at model j).priority
      → IsAboveInRange (deadline_of model i) (above_at model j)
  one_above j known cores higher =
      let kind = tasks.stimulus_of model j in
      record {
        time = little_time model valid j known;
        distances = subst (λ (k : StimulusKind). deadline_of model i + greatest_jitter k ≤ MOST_DISTANCES * least_distance k) (sym (kind_of-as_stimulus kind))
            (few_distances model valid i j h known (sym cores) higher);
      }

  all_above : All (IsAboveInRange (deadline_of model i)) (map (above_at model) (numbers_above model i))
  all_above =
      let on_core : ℕ → Bool = λ j. core_of model j == core_of model i in
      let all = range_with_len 0 (length model.tasks) in
      All-map (IsAboveInRange (deadline_of model i)) (above_at model) (numbers_above model i)
      (λ k d lt.
      let known = All-filter (is_higher model i) (λ j. j < length model.tasks) (filter on_core all) (below_known model (length model.tasks) (core_of model i)) k d lt in
      let cores = All-filter (is_higher model i) (λ j. on_core j ≡ true) (filter on_core all) (filter_passes on_core all) k d lt in
      let higher = filter_passes (is_higher model i) (filter on_core all) k d lt in
      one_above (get_or (numbers_above model i) k d) known (eqb-true _ _ cores) (ltb-true _ _ higher))

  few_above : length (map (above_at model) (numbers_above model i)) < MOST_TASKS_OF_CORE
  few_above =
      let on_core : ℕ → Bool = λ j. core_of model j == core_of model i in
      let all = range_with_len 0 (length model.tasks) in
      let here : get_or all i 0 ≡ i = get_or-range_with_len 0 (length model.tasks) i 0 h ∙ omega arith in
      let itself : on_core (get_or all i 0) ≡ true = eq-eqb _ _ (ap (core_of model) here) in
      let not_above : is_higher model i (get_or all i 0) ≡ false = ap (is_higher model i) here ∙ le-ltb (task_at model i).priority (task_at model i).priority (omega arith) in
      let less = fewer on_core (is_higher model i) all i 0 (omega (arith, h, length-range_with_len 0 (length model.tasks))) itself not_above in
      omega (arith, less, length-map (numbers_above model i) (above_at model), few_tasks model valid (core_of model i))

  block_few : (blocking : Block) → longest_blocker model blocking i ≤ MOST_TICKS
  block_few blocking =
      let on_core : ℕ → Bool = λ j. core_of model j == core_of model i in
      let all = range_with_len 0 (length model.tasks) in
      greatest_within (hold_at model) (filter (may_hold model blocking i) (filter on_core all)) MOST_TICKS
      (λ k d lt. hold_few model valid _ (All-filter (may_hold model blocking i) (λ j. j < length model.tasks) (filter on_core all)
      (below_known model (length model.tasks) (core_of model i)) k d lt))

  pub question_in_range : (blocking : Block) → IsQuestionInRange (question_by_number model blocking i)
  question_in_range blocking = record {
    released_before = released_before model valid i h;
    deadline = omega (arith, early_enough model valid i h, least_few (tasks.stimulus_of model i) (kind_in_range model valid i h));
    some_time = some_time model valid i h;
    time = little_time model valid i h;
    block = block_few blocking;
    few_above = few_above;
    above = all_above;
  }

-- ---- the question that is put together

module _ (model : SystemModel) (blocking : Block) (i : ℕ) (h : i < length model.tasks) (time block jitter deadline : ℕ) (above : List Above)
    (is_time : time ≡ time_of model i) (is_block : block ≡ block_by blocking (system_of model) (timing_of model (task_at model i)))
    (is_jitter : jitter ≡ jitter_of model i) (is_deadline : deadline ≡ deadline_of model i)
    (is_list : above ≡ map taken_by (filter (is_above (timing_of model (task_at model i))) (system_of model).tasks)) where
  put_together : record { time = time; block = block; jitter = jitter; deadline = deadline; above = above } ≡ question_by_number model blocking i
  put_together =
      let above_by_number = is_list ∙ above_is model i in
      let block_by_number = is_block ∙ block_is model blocking i in
      cc

  pub is_question : record { time = time; block = block; jitter = jitter; deadline = deadline; above = above }
      ≡ either_question blocking (system_of model) (timing_at (system_of model) i)
  is_question = put_together ∙ sym (question_is model blocking i h)

  pub is_in_range : IsValid model → IsQuestionInRange (record { time = time; block = block; jitter = jitter; deadline = deadline; above = above })
  is_in_range valid = subst (λ (q : Question). IsQuestionInRange q) (sym put_together) (question_in_range model valid i h blocking)

-- the questions of each task are in range
pub questions_in_range : (blocking : Block) (model : SystemModel) → IsValid model → (i : ℕ) → i < length model.tasks
    → IsQuestionInRange (either_question blocking (system_of model) (timing_at (system_of model) i))
questions_in_range blocking model valid i h =
    subst (λ (q : Question). IsQuestionInRange q) (sym (question_is model blocking i h)) (question_in_range model valid i h blocking)
