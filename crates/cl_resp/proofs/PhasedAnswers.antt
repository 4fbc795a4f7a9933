-- The response of a task by phases: it is that of its question, and a window of its tight question
-- serves anywhere.
use Rattle.std.proofs.Common.{◌≡◌, ℕ, suc, ◌+◌, ◌-◌, ◌<◌, ◌≤◌, ℤ, pos, ◌-ℤ◌, Bool, true, false, List, [], ◌∷◌, length, take, refl, sym, ap, ◌∙◌, subst, arith, get_or}
use Rattle.std.specs.Prelude.{All, IfSome, Option, Some, None}
use Rattle.std.specs.Option.{option_map}
use Rattle.std.specs.List.{range_with_len, sum_by}
use Rattle.std.proofs.Math.Nat.{mul-le-mul_right}
use Rattle.std.proofs.lemmas.List.{get_or-take, length-map, length-take}
use Rattle.std.proofs.lemmas.List.Elements.{All-head, All-tail, All-filter}
use Rattle.std.proofs.lemmas.List.FromFn.{get_or-range_with_len, length-range_with_len}
use Rattle.std.proofs.lemmas.List.Sums.{sum_by-cons, sum_by-take-le, get_or-le-sum_by}
use Rattle.cl_model.specs.{declared.{limits.TheConstants.MOST_TICKS, model.SystemModel.SystemModel, stimulus.StimulusKind.StimulusKind}, ByNumber.task_at, Timing.greatest_jitter, Validity.IsValid}
use Rattle.cl_runs.specs.{Pattern.IsPattern, TaskTiming.{TimeRange, Timing, System, timing_at, no_range, IsSound}, SystemOf.{range_of, system_of}, Responses.AlwaysFinishesWithin, Priorities.{is_above, tasks_above}, ExecutionTimes.greatest_execution}
use Rattle.cl_runs.proofs.ModelSystem.{timing_is, count_is, system_sound}
use Rattle.cl_stim.specs.{declared.phase.Phase.Phase, Phase.phase_of, Releases.most_releases}
use Rattle.cl_cycle.specs.Cycles.{is_one_of, in_phase_above}
use Rattle.cl_cycle.proofs.CountedMost.{most_arrivals as at_most}
use Rattle.cl_resp.specs.{declared.{question.{Above.Above, Question.Question, Block.TheVariants.OfLower}, phased.PhasedQuestion.PhasedQuestion}, Clear.greatest_through, Question.{taken_by, tight_question_of}, Response.{demand, busy_window}, Asked.least_response, ByPhase.phase_if}
use Rattle.cl_resp.specs.{ByPhase.{released_by, time_by, demand_by, asked_by_phase, response_by_phase, response_through, IsSettledByPhase}, Inner.Phased.{asked_of, IsPhasedQuestionOf, IsPhasedInRange, ServesAnywhere}}
use Rattle.cl_resp.proofs.{LeastParts.{settled_timely as timely, execution_in_response as execution}, Questions.questions_in_range, Windows.window_is_least, PhasedSums.{sum_mapped, takes, takes_is, above_by_number}}

-- ---- what is asked

-- a question of a task asks what the task does
pub same_asked : (system : System) (task own : ℕ) (question : PhasedQuestion) → IsPhasedQuestionOf system task own question
    → asked_of question ≡ asked_by_phase system task own
same_asked system task own question is = λ i. record {
  arrivals = is.arrivals i;
  cycle = is.cycle i;
  jitter = is.jitter i;
  deadline = is.deadline i;
  demand = λ start width. is.demand start width i;
}

-- ---- a window of the tight question

-- a sum that is at most another, item by item
pub sums_ordered_on : {X : Type 0} (f g : X → ℕ) (xs : List X) → All (λ x. f x ≤ g x) xs → sum_by f xs ≤ sum_by g xs
sums_ordered_on f g [] all = omega arith
sums_ordered_on f g (x ∷ xs) all =
    omega (arith, sum_by-cons f x xs, sum_by-cons g x xs, All-head (λ y. f y ≤ g y) x xs all, sums_ordered_on f g xs (All-tail (λ y. f y ≤ g y) x xs all))

-- by its phase or not, a task releases at most as many jobs as in any window
released_at_most : (kind : StimulusKind) → IsPattern kind → (in_phase : Bool) (start : ℤ) (width : ℕ)
    → released_by (phase_if in_phase kind) kind start width ≤ most_releases kind width
released_at_most kind is false start width = omega arith
released_at_most kind is true start width = of_phase (phase_of kind) refl
  where
    of_phase : (phase : Option Phase) → phase_of kind ≡ phase → released_by phase kind start width ≤ most_releases kind width
    of_phase None none = omega arith
    of_phase (Some phase) fixed = at_most kind is phase fixed (start -ℤ pos (greatest_jitter kind)) width

module _ (system : System) (sound : IsSound system) (task : ℕ) where
  above_known : All (λ other. other < length system.tasks) (tasks_above system task)
  above_known = All-filter (λ other. is_above (timing_at system task) (timing_at system other)) (λ other. other < length system.tasks)
      (range_with_len 0 (length system.tasks))
      (λ k d lt.
      let within : k < length system.tasks = omega (arith, lt, length-range_with_len 0 (length system.tasks)) in
      omega (arith, within, get_or-range_with_len 0 (length system.tasks) k d within))

  module _ (in_phase : ℕ → Bool) (start : ℤ) (width : ℕ) where
    one_at_most : (other : ℕ) → other < length system.tasks
        → time_by system in_phase start width other ≤ takes width (taken_by (timing_at system other))
    one_at_most other known =
        let timing = timing_at system other in
        subst (λ n. time_by system in_phase start width other ≤ n) (sym (takes_is width timing))
        (mul-le-mul_right (greatest_execution timing) (released_at_most timing.pattern (sound.tasks other known).pattern (in_phase other) start width))

    all_at_most : sum_by (time_by system in_phase start width) (tasks_above system task) ≤ sum_by (takes width) (tight_question_of system (timing_at system task)).above
    all_at_most =
        let taken : ℕ → Above = λ other. taken_by (timing_at system other) in
        let sums = ap (sum_by (takes width)) (above_by_number system task) ∙ sum_mapped (takes width) taken (tasks_above system task) in
        let ordered = sums_ordered_on (time_by system in_phase start width) (λ other. takes width (taken other)) (tasks_above system task)
        (λ k d lt. one_at_most _ (above_known k d lt)) in
        omega (arith, sums, ordered)

    -- by phases no more is asked than by the tight question
    pub asks_at_most : (own : ℕ) → own ≤ greatest_execution (timing_at system task)
        → demand_by system in_phase task own start width ≤ demand (tight_question_of system (timing_at system task)) width
    unfolding demand_by demand tight_question_of
    asks_at_most own less = omega (arith, less, all_at_most)

-- a window that holds the demand of the tight question serves anywhere
pub serves : (system : System) → IsSound system → (task own : ℕ) → own ≤ greatest_execution (timing_at system task)
    → (question : PhasedQuestion) → IsPhasedQuestionOf system task own question
    → (width : ℕ) → demand (tight_question_of system (timing_at system task)) width ≤ width → ServesAnywhere (asked_of question) width
serves system sound task own less question is width enough start =
    subst (λ n. n ≤ width) (sym (is.demand start width)) (lower _ _ width (asks_at_most system sound task (is_one_of (in_phase_above system task)) start width own less) enough)
  where
    lower : (a b c : ℕ) → a ≤ b → b ≤ c → a ≤ c
    lower a b c h k = omega (arith, h, k)

-- ---- for the runnables up to a place

pub ranges_counted : (model : SystemModel) (i : ℕ) → i < length model.tasks → length (timing_at (system_of model) i).ranges ≡ length (task_at model i).runnables
ranges_counted model i h = ap (λ (t : Timing). length t.ranges) (timing_is model i h) ∙ length-map (task_at model i).runnables range_of

-- they take a tick or more, and no longer than all
pub through_between : (system : System) → IsSound system → (task : ℕ) → task < length system.tasks → (place : ℕ)
    → (1 ≤ greatest_through (timing_at system task) place) × (greatest_through (timing_at system task) place ≤ greatest_execution (timing_at system task))
unfolding greatest_through greatest_execution
through_between system sound task known place =
    let ranges = (timing_at system task).ranges in
    let greatest : TimeRange → ℕ = λ range. range.greatest in
    let is = sound.tasks task known in
    let first = is.times 0 no_range is.some_runnable in
    let one = get_or-le-sum_by greatest (take (suc place) ranges) 0 no_range (omega (arith, length-take (suc place) ranges, is.some_runnable)) in
    let same : get_or (take (suc place) ranges) 0 no_range ≡ get_or ranges 0 no_range = get_or-take (suc place) ranges 0 no_range (omega arith) in
    (omega (arith, first.0, first.1, one, ap greatest same), sum_by-take-le greatest ranges (suc place))

-- ---- for a task of a valid model

module _ (model : SystemModel) (valid : IsValid model) (task : ℕ) (h : task < length model.tasks) where
  abbrev system : System
  system = system_of model

  abbrev tight : Question
  tight = tight_question_of system (timing_at system task)

  abbrev whole : ℕ
  whole = greatest_execution (timing_at system task)

  known : task < length system.tasks
  known = subst (λ n. task < n) (sym (count_is model)) h

  -- the window of its tight question serves anywhere
  pub serves_if : (own : ℕ) → own ≤ whole → (question : PhasedQuestion) → IsPhasedQuestionOf system task own question
      → (widest : Option ℕ) → widest ≡ busy_window tight → IfSome widest (ServesAnywhere (asked_of question))
  serves_if own less question is None widest = tt
  serves_if own less question is (Some width) widest = serves system (system_sound model valid) task own less question is width
      (window_is_least tight width (sym widest)).enough

  -- and is no wider than the longest deadline
  pub short_if : (widest : Option ℕ) → widest ≡ busy_window tight → IfSome widest (λ width. width ≤ MOST_TICKS)
  short_if None widest = tt
  short_if (Some width) widest =
      omega (arith, (window_is_least tight width (sym widest)).within, (questions_in_range OfLower model valid task h).deadline)

  module _ (question : PhasedQuestion) (is : IsPhasedQuestionOf system task whole question) where
    least_is : (found : Option ℕ) → found ≡ least_response (asked_of question) → least_response (asked_by_phase system task whole) ≡ found
    least_is found answered = sym (answered ∙ ap least_response (same_asked system task whole question is))

    -- what its question is answered is its response
    pub answer_is : (response : ℕ) → Some response ≡ least_response (asked_of question)
        → response_by_phase system task ≡ Some (record { window = response - question.beside.jitter; response = response })
    unfolding response_by_phase
    answer_is response answered =
        ap (option_map (λ response. record { window = response - greatest_jitter (timing_at system task).pattern; response = response })) (least_is (Some response) answered)
        ∙ ap (λ jitter. Some (record { window = response - jitter; response = response })) (sym is.jitter)

    pub no_answer_is : None ≡ least_response (asked_of question) → response_by_phase system task ≡ None
    unfolding response_by_phase
    no_answer_is answered =
        ap (option_map (λ response. record { window = response - greatest_jitter (timing_at system task).pattern; response = response })) (least_is None answered)

    module _ (response : ℕ) (answered : Some response ≡ least_response (asked_of question)) where
      settled : IsSettledByPhase system task response
      settled = record { is_task = known; window = response - question.beside.jitter; answered = answer_is response answered }

      -- the response is at least the jitter
      pub jitter_first : question.beside.jitter ≤ response
      jitter_first = omega (arith, is.jitter, execution system (system_sound model valid) task response settled)

      pub always_finishes : AlwaysFinishesWithin system task response
      always_finishes = (timely system (system_sound model valid) task response settled).always

  -- ---- with less work of the task itself

  module _ (place : ℕ) where
    abbrev part : ℕ
    part = greatest_through (timing_at system task) place

    pub part_less : part ≤ whole
    part_less = (through_between system (system_sound model valid) task known place).1

    part_some : 1 ≤ part
    part_some = (through_between system (system_sound model valid) task known place).0

    -- the question for the runnables up to a place
    abbrev pub for_part : PhasedQuestion → (time : ℕ) → PhasedQuestion
    for_part question time = record {
      arrivals = question.arrivals;
      cycle = question.cycle;
      in_phase = question.in_phase;
      beside = record {
        time = time;
        block = question.beside.block;
        jitter = question.beside.jitter;
        deadline = question.beside.deadline;
        above = question.beside.above;
      };
    }

    other_time : (block time other sum more lower own part sums : ℕ) → block + time + sum + more ≡ lower + own + sums → time ≡ own → other ≡ part
        → block + other + sum + more ≡ lower + part + sums
    other_time block time other sum more lower own part sums same is is_other = omega (arith, same, is, is_other)

    module _ (question : PhasedQuestion) (is : IsPhasedQuestionOf system task whole question) (own : question.beside.time ≡ whole)
        (time : ℕ) (is_time : time ≡ part) where
      part_demand : (start : ℤ) (width : ℕ) → (asked_of (for_part question time)).demand start width ≡ (asked_by_phase system task part).demand start width
      unfolding demand demand_by
      part_demand start width = other_time _ _ _ _ _ _ _ _ _ (is.demand start width) own is_time

      pub asks_part : IsPhasedQuestionOf system task part (for_part question time)
      asks_part = record { arrivals = is.arrivals; cycle = is.cycle; jitter = is.jitter; deadline = is.deadline; demand = part_demand }

      pub part_in_range : IsPhasedInRange question → IsPhasedInRange (for_part question time)
      part_in_range range = record {
        beside = record {
          released_before = range.beside.released_before;
          deadline = range.beside.deadline;
          some_time = omega (arith, is_time, part_some);
          time = omega (arith, is_time, part_less, own, range.beside.time);
          block = range.beside.block;
          few_above = range.beside.few_above;
          above = range.beside.above;
        };
        arrivals = range.arrivals;
        comes_round = range.comes_round;
        some = range.some;
        short = range.short;
        few = range.few;
        in_phase = range.in_phase;
      }

      pub part_answer : (found : Option ℕ) → found ≡ least_response (asked_of (for_part question time)) → found ≡ response_through system task place
      unfolding response_through
      part_answer found answered = answered ∙ ap least_response (same_asked system task part (for_part question time) asks_part)
