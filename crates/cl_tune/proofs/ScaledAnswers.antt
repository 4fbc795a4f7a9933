-- Smaller percentages: greatest times are smaller, so are blocking and demand, and no task answers later.
use Rattle.std.proofs.Common.{◌≡◌, ℕ, zero, suc, ◌+◌, ◌-◌, ◌*◌, ◌/◌, ◌≤◌, Bool, true, false, cond, Option, Some, None, List, [], ◌∷◌, length, get_or, map, refl, sym, ap, ◌∙◌, arith}
use Rattle.std.specs.Prelude.{All, filter, sum_by}
use Rattle.std.proofs.lemmas.Bool.{true≢false}
use Rattle.std.proofs.lemmas.List.{length-map}
use Rattle.std.proofs.lemmas.List.Elements.{All-from_get_or, All-cons, All-head, All-nil, All-tail}
use Rattle.std.proofs.lemmas.List.Folds.{fold-map}
use Rattle.std.proofs.lemmas.List.Sums.{sum_by-le-sum_by}
use Rattle.std.proofs.lemmas.Nat.{le-div}
use Rattle.std.proofs.lemmas.Simd.{map-map}
use Rattle.std.proofs.Math.Nat.{mul-le-mul_left, div-mul-le_self}
use Rattle.cl_model.specs.{declared.{model.SystemModel.SystemModel, task.{RunnableDef.RunnableDef, TaskDef.TaskDef}}, Ranges.{IsRunnableInRange, IsTaskInRange, IsInRange}, Holds.greatest_by}
use Rattle.cl_model.proofs.Greatest.{greatest_mapped, greatest_within, greatest_least}
use Rattle.cl_runs.specs.{SystemOf.{range_of, timing_of, system_of}, TaskTiming.{TimeRange, Timing}, Priorities.{is_above, may_block}, ExecutionTimes.greatest_execution}
use Rattle.cl_stim.specs.{AnyStimulus.{kind_of, as_stimulus}, Releases.most_releases}
use Rattle.cl_resp.specs.{declared.question.{Above.Above, Question.Question}, Question.{hold_of, longest_hold, block_of, taken_by, question_of}, Response.{Response, demand, response_to, AsksNoMore}}
use Rattle.cl_resp.proofs.{Filters.filter-map, LessAsked.answered_no_later}
use Rattle.cl_bound.specs.{declared.answer.TaskAnswer.{TaskAnswer, TheVariants.Late}, Answers.{answer_with, answer_to, answers_of, answer_at, is_late, response_in}}
use Rattle.cl_scale.specs.Scaled.{scaled_time, scaled_runnable, scaled_task, scaled}

-- ---- times

quotient_rises : (m n : ℕ) → m ≤ n → m / 100 ≤ n / 100
quotient_rises m n le = le-div (m / 100) n 100 (omega arith) (omega (arith, le, div-mul-le_self m 100))

time_rises : (less more least greatest : ℕ) → less ≤ more → scaled_time less least greatest ≤ scaled_time more least greatest
time_rises less more least greatest le = omega (arith, quotient_rises (greatest * less) (greatest * more) (mul-le-mul_left greatest le))

greatest_rises : {X : Type 0} (f g : X → ℕ) (xs : List X) → ((x : X) → f x ≤ g x) → greatest_by f xs ≤ greatest_by g xs
greatest_rises f g xs le = greatest_within f xs (greatest_by g xs)
    (λ k d lt. omega (arith, le (get_or xs k d), greatest_least g xs k d lt))

-- the task of a scaled model
abbrev pub timing : SystemModel → (percent : ℕ) → TaskDef → Timing
timing model percent task = timing_of (scaled model percent) (scaled_task percent task)

pub tasks_are : (model : SystemModel) (percent : ℕ) → (system_of (scaled model percent)).tasks ≡ map (timing model percent) model.tasks
unfolding system_of scaled
tasks_are model percent = map-map (timing_of (scaled model percent)) (scaled_task percent) model.tasks

-- a number of the ranges of a task is one of its runnables
execution_is : (model : SystemModel) (percent : ℕ) (task : TaskDef)
    → greatest_execution (timing model percent task) ≡ sum_by (λ (r : RunnableDef). scaled_time percent r.least r.greatest) task.runnables
unfolding greatest_execution
execution_is model percent task =
    fold-map (λ (a : ℕ) (range : TimeRange). a + range.greatest) range_of 0 (map (scaled_runnable percent) task.runnables)
    ∙ fold-map (λ (a : ℕ) (r : RunnableDef). a + r.greatest) (scaled_runnable percent) 0 task.runnables

hold_is : (model : SystemModel) (percent : ℕ) (task : TaskDef)
    → longest_hold (timing model percent task) ≡ greatest_by (λ (r : RunnableDef). hold_of (range_of (scaled_runnable percent r))) task.runnables
unfolding longest_hold
hold_is model percent task =
    greatest_mapped hold_of range_of (map (scaled_runnable percent) task.runnables)
    ∙ greatest_mapped (λ (r : RunnableDef). hold_of (range_of r)) (scaled_runnable percent) task.runnables

hold_rises : (whole : Bool) (less more : ℕ) → less ≤ more → cond whole (less - 1) 0 ≤ cond whole (more - 1) 0
hold_rises true less more le = omega (arith, le)
hold_rises false less more le = omega arith

-- ---- questions

-- where a question asks no more than another that has a response, it has one that is no later
answers_sooner : (question other : Question) → AsksNoMore question other → is_late (answer_with (response_to other)) ≡ false
    → (is_late (answer_with (response_to question)) ≡ false)
    × (response_in (answer_with (response_to question)) ≤ response_in (answer_with (response_to other)))
answers_sooner question other less timely = go (response_to other) refl timely
  where
    go : (latest : Option Response) → response_to other ≡ latest → is_late (answer_with latest) ≡ false
        → (is_late (answer_with (response_to question)) ≡ false)
        × (response_in (answer_with (response_to question)) ≤ response_in (answer_with (response_to other)))
    go None none timely = absurd (true≢false timely)
    go (Some latest) answered timely =
        let sooner = answered_no_later question other less latest answered in
        let here = ap answer_with sooner.answered in
        let there = ap answer_with answered in
        (ap is_late here, omega (arith, sooner.no_later, ap response_in here, ap response_in there))

-- ---- answers of two scaled models

module _ (model : SystemModel) (less more : ℕ) (le : less ≤ more) where
  execution_rises : (task : TaskDef) → greatest_execution (timing model less task) ≤ greatest_execution (timing model more task)
  execution_rises task = omega (
    arith,
    execution_is model less task,
    execution_is model more task,
    sum_by-le-sum_by (λ (r : RunnableDef). scaled_time less r.least r.greatest) (λ (r : RunnableDef). scaled_time more r.least r.greatest) task.runnables
        (λ r. time_rises less more r.least r.greatest le),
  )

  longest_rises : (task : TaskDef) → longest_hold (timing model less task) ≤ longest_hold (timing model more task)
  longest_rises task = omega (
    arith,
    hold_is model less task,
    hold_is model more task,
    greatest_rises (λ (r : RunnableDef). hold_of (range_of (scaled_runnable less r))) (λ (r : RunnableDef). hold_of (range_of (scaled_runnable more r))) task.runnables
        (λ r. hold_rises r.whole (scaled_time less r.least r.greatest) (scaled_time more r.least r.greatest) (time_rises less more r.least r.greatest le)),
  )

  -- the same tasks may block and stand above at each percentage
  abbrev blocks : TaskDef → TaskDef → Bool
  blocks task other = may_block (timing_of model task) (timing_of model other)

  abbrev above : TaskDef → TaskDef → Bool
  above task other = is_above (timing_of model task) (timing_of model other)

  abbrev takes : (width : ℕ) → Above → ℕ
  takes width above = most_releases (kind_of above.stimulus) width * above.time

  block_is : (percent : ℕ) (task : TaskDef)
      → block_of (system_of (scaled model percent)) (timing model percent task)
      ≡ greatest_by (λ (other : TaskDef). longest_hold (timing model percent other)) (filter (blocks task) model.tasks)
  unfolding block_of scaled
  block_is percent task =
      ap (λ (tasks : List Timing). greatest_by longest_hold (filter (may_block (timing model percent task)) tasks)) (tasks_are model percent)
      ∙ ap (greatest_by longest_hold) (filter-map (may_block (timing model percent task)) (timing model percent) model.tasks)
      ∙ greatest_mapped longest_hold (timing model percent) (filter (blocks task) model.tasks)

  loads_are : (percent : ℕ) (task : TaskDef) (width : ℕ)
      → sum_by (takes width) (map taken_by (filter (is_above (timing model percent task)) (system_of (scaled model percent)).tasks))
      ≡ sum_by (λ (other : TaskDef). takes width (taken_by (timing model percent other))) (filter (above task) model.tasks)
  unfolding scaled
  loads_are percent task width =
      ap (λ (tasks : List Timing). sum_by (takes width) (map taken_by (filter (is_above (timing model percent task)) tasks))) (tasks_are model percent)
      ∙ ap (λ (tasks : List Timing). sum_by (takes width) (map taken_by tasks)) (filter-map (is_above (timing model percent task)) (timing model percent) model.tasks)
      ∙ ap (sum_by (takes width)) (map-map taken_by (timing model percent) (filter (above task) model.tasks))
      ∙ fold-map (λ (a : ℕ) (above : Above). a + takes width above) (λ (other : TaskDef). taken_by (timing model percent other)) 0 (filter (above task) model.tasks)

  load_rises : (width : ℕ) (other : TaskDef) → takes width (taken_by (timing model less other)) ≤ takes width (taken_by (timing model more other))
  unfolding scaled
  load_rises width other = mul-le-mul_left (most_releases (kind_of (as_stimulus (timing_of model other).pattern)) width) (execution_rises other)

  asked : (percent : ℕ) → TaskDef → Question
  asked percent task = question_of (system_of (scaled model percent)) (timing model percent task)

  demand_rises : (task : TaskDef) (width : ℕ) → demand (asked less task) width ≤ demand (asked more task) width
  unfolding asked question_of demand
  demand_rises task width = omega (
    arith,
    block_is less task,
    block_is more task,
    greatest_rises (λ (other : TaskDef). longest_hold (timing model less other)) (λ (other : TaskDef). longest_hold (timing model more other))
        (filter (blocks task) model.tasks) longest_rises,
    execution_rises task,
    loads_are less task width,
    loads_are more task width,
    sum_by-le-sum_by (λ (other : TaskDef). takes width (taken_by (timing model less other))) (λ (other : TaskDef). takes width (taken_by (timing model more other)))
        (filter (above task) model.tasks) (load_rises width),
  )

  abbrev pub answered : (percent : ℕ) → TaskDef → TaskAnswer
  answered percent task = answer_to (system_of (scaled model percent)) (timing model percent task)

  same_deadline : (task : TaskDef) → (asked less task).deadline ≡ (asked more task).deadline
  unfolding asked question_of scaled
  same_deadline task = refl

  same_jitter : (task : TaskDef) → (asked less task).jitter ≡ (asked more task).jitter
  unfolding asked question_of scaled
  same_jitter task = refl

  -- a task that isn't late isn't late at the smaller percentage, and answers no later
  task_sooner : (task : TaskDef) → is_late (answered more task) ≡ false
      → (is_late (answered less task) ≡ false) × (response_in (answered less task) ≤ response_in (answered more task))
  unfolding asked
  task_sooner task timely = answers_sooner (asked less task) (asked more task) (record {
    deadline = same_deadline task;
    jitter = same_jitter task;
    needs = λ width some. demand_rises task width;
  }) timely

  answers_are : (percent : ℕ) → answers_of (system_of (scaled model percent)) ≡ map (answered percent) model.tasks
  unfolding answers_of
  answers_are percent = ap (map (answer_to (system_of (scaled model percent)))) (tasks_are model percent)
      ∙ map-map (answer_to (system_of (scaled model percent))) (timing model percent) model.tasks

  in_lists : (tasks : List TaskDef) (i : ℕ) → is_late (answer_at (map (answered more) tasks) i) ≡ false
      → (is_late (answer_at (map (answered less) tasks) i) ≡ false)
      × (response_in (answer_at (map (answered less) tasks) i) ≤ response_in (answer_at (map (answered more) tasks) i))
  in_lists [] i timely = absurd (true≢false timely)
  in_lists (task ∷ tasks) zero timely = task_sooner task timely
  in_lists (task ∷ tasks) (suc i) timely = in_lists tasks i timely

  -- so for the answers by number
  pub answer_sooner : (i : ℕ) → is_late (answer_at (answers_of (system_of (scaled model more))) i) ≡ false
      → (is_late (answer_at (answers_of (system_of (scaled model less))) i) ≡ false)
      × (response_in (answer_at (answers_of (system_of (scaled model less))) i) ≤ response_in (answer_at (answers_of (system_of (scaled model more))) i))
  answer_sooner i timely =
      let there = in_lists model.tasks i (ap (λ (answers : List TaskAnswer). is_late (answer_at answers i)) (sym (answers_are more)) ∙ timely) in (
        ap (λ (answers : List TaskAnswer). is_late (answer_at answers i)) (answers_are less) ∙ there.0,
        omega (
          arith,
          there.1,
          ap (λ (answers : List TaskAnswer). response_in (answer_at answers i)) (answers_are less),
          ap (λ (answers : List TaskAnswer). response_in (answer_at answers i)) (answers_are more),
        ),
      )

  pub all_in_time : All (λ (answer : TaskAnswer). is_late answer ≡ false) (answers_of (system_of (scaled model more)))
      → All (λ (answer : TaskAnswer). is_late answer ≡ false) (answers_of (system_of (scaled model less)))
  all_in_time timely = All-from_get_or (λ (answer : TaskAnswer). is_late answer ≡ false) (answers_of (system_of (scaled model less))) Late
      (λ i lt. (answer_sooner i (timely i Late (omega (
        arith,
        lt,
        ap length (answers_are less),
        ap length (answers_are more),
        length-map model.tasks (answered less),
        length-map model.tasks (answered more),
      )))).0)

  -- ---- ranges

  runnable_stays : (r : RunnableDef) → IsRunnableInRange (scaled_runnable more r) → IsRunnableInRange (scaled_runnable less r)
  runnable_stays r in_range = record {
    least = in_range.least;
    greatest = (omega (arith, in_range.least.0), omega (arith, in_range.greatest.1, time_rises less more r.least r.greatest le));
    reads = in_range.reads;
    writes = in_range.writes;
  }

  runnables_stay : (runnables : List RunnableDef) → All IsRunnableInRange (map (scaled_runnable more) runnables) → All IsRunnableInRange (map (scaled_runnable less) runnables)
  runnables_stay [] in_range = All-nil IsRunnableInRange
  runnables_stay (r ∷ rs) in_range = All-cons IsRunnableInRange (scaled_runnable less r) (map (scaled_runnable less) rs)
      (runnable_stays r (All-head IsRunnableInRange (scaled_runnable more r) (map (scaled_runnable more) rs) in_range))
      (runnables_stay rs (All-tail IsRunnableInRange (scaled_runnable more r) (map (scaled_runnable more) rs) in_range))

  task_stays : (task : TaskDef) → IsTaskInRange (scaled_task more task) → IsTaskInRange (scaled_task less task)
  task_stays task in_range = record {
    priority = in_range.priority;
    deadline = in_range.deadline;
    count = omega (arith, in_range.count, length-map task.runnables (scaled_runnable less), length-map task.runnables (scaled_runnable more));
    runnables = runnables_stay task.runnables in_range.runnables;
  }

  tasks_stay : (tasks : List TaskDef) → All IsTaskInRange (map (scaled_task more) tasks) → All IsTaskInRange (map (scaled_task less) tasks)
  tasks_stay [] in_range = All-nil IsTaskInRange
  tasks_stay (t ∷ ts) in_range = All-cons IsTaskInRange (scaled_task less t) (map (scaled_task less) ts)
      (task_stays t (All-head IsTaskInRange (scaled_task more t) (map (scaled_task more) ts) in_range))
      (tasks_stay ts (All-tail IsTaskInRange (scaled_task more t) (map (scaled_task more) ts) in_range))

  pub range_stays : IsInRange (scaled model more) → IsInRange (scaled model less)
  unfolding scaled
  range_stays in_range = record {
    counts = record {
      cores = in_range.counts.cores;
      stimuli = in_range.counts.stimuli;
      labels = in_range.counts.labels;
      tasks = omega (arith, in_range.counts.tasks, length-map model.tasks (scaled_task less), length-map model.tasks (scaled_task more));
      chains = in_range.counts.chains;
      requirements = in_range.counts.requirements;
    };
    stimuli = in_range.stimuli;
    tasks = tasks_stay model.tasks in_range.tasks;
    chains = in_range.chains;
    requirements = in_range.requirements;
  }
