-- The question by phases of a task of a valid model: it asks what it should, and its numbers are in range.
use Rattle.std.proofs.Common.{◌≡◌, ℕ, ◌+◌, ◌*◌, ◌<◌, ◌≤◌, ℤ, Bool, true, false, List, [], length, map, refl, sym, ap, ◌∙◌, subst, arith}
use Rattle.std.specs.Prelude.{All, Option, Some, unwrap_or}
use Rattle.std.specs.Int.{◌∣◌}
use Rattle.std.specs.List.{sum_by}
use Rattle.std.proofs.lemmas.List.{length-map, get_or-map}
use Rattle.std.proofs.lemmas.List.Elements.{All-map, All-filter, filter_passes}
use Rattle.cl_model.specs.{declared.{limits.TheConstants.{MOST_TICKS, MOST_RUNNABLES, MOST_TASKS_OF_CORE}, model.SystemModel.SystemModel, stimulus.StimulusKind.{StimulusKind, TheVariants.{Periodic, Sporadic, Burst}}}, ByNumber.{task_at, stimulus_of, deadline_of, jitter_of, time_of}}
use Rattle.cl_model.specs.{Ranges.IsKindInRange, Timing.{IsKindOrdered, greatest_jitter}, Validity.IsValid}
use Rattle.cl_model.proofs.ValidTasks.{kind_in_range, kind_ordered, early_enough, released_before, little_time}
use Rattle.cl_runs.specs.{TaskTiming.{Timing, System, timing_at, IsSound}, SystemOf.{timing_of, system_of}, Priorities.tasks_above, ExecutionTimes.greatest_execution}
use Rattle.cl_runs.proofs.ModelSystem.{timing_is, count_is, system_sound}
use Rattle.cl_stim.specs.{declared.phase.Phase.Phase, Phase.{IsPhaseInRange, phase_of}}
use Rattle.cl_stim.proofs.StimulusKinds.{least_few}
use Rattle.cl_cycle.specs.{Counts.{arrivals_of, each_moment}, Cycles.{is_one_of, in_phase_above, cycle_of}, Promises.ComesRound}
use Rattle.cl_cycle.proofs.{CycleMembers.{cycle_positive as some, own_divides as own, members_come_round as in_phase}, CycleLengths.cycle_short as short}
use Rattle.cl_resp.specs.{declared.{question.{Above.Above, Block.TheVariants.OfLower, Question.Question}, phased.{InPhase.InPhase, PhasedQuestion.PhasedQuestion}}, Question.{lower_block_of, taken_by, tight_question_of, IsAboveInRange, IsQuestionInRange}, Response.demand, ByPhase.time_by}
use Rattle.cl_resp.specs.{ByPhase.demand_by, Inner.{Phased.{time_in_phase, IsInPhaseInRange, IsPhasedInRange, IsPhasedQuestionOf}, Counted.{counts_in_phase, counted_above, by_phase_of, in_phase_with, beside_with}}}
use Rattle.cl_resp.proofs.{Filters.shorter, PhasedLists.{numbers_are, numbers_known}, PhasedSums.{takes, both_sums, above_by_number, all_stand_beside}, Questions.{time_is, questions_in_range}}

-- a question with these parts
abbrev pub phased_with : Phase → (cycle : ℕ) → List InPhase → Question → PhasedQuestion
phased_with arrivals cycle in_phase beside = record { arrivals = arrivals; cycle = cycle; in_phase = in_phase; beside = beside }

abbrev pub beside_of : (time block jitter deadline : ℕ) → List Above → Question
beside_of time block jitter deadline above = record { time = time; block = block; jitter = jitter; deadline = deadline; above = above }

-- ---- it asks what it should

regroup : (a b in_phase others all : ℕ) → in_phase + others ≡ all → a + b + others + in_phase ≡ a + b + all
regroup a b in_phase others all h = omega (arith, h)

-- with so much work of the task itself
pub demand_is : (system : System) (task : ℕ) (cycle : List ℕ)
    → ((other : ℕ) → is_one_of cycle other ≡ is_one_of (in_phase_above system task) other)
    → ((other : ℕ) → is_one_of (in_phase_above system task) other ≡ true → ComesRound system (cycle_of system task) other)
    → (time jitter deadline : ℕ) (start : ℤ) (width : ℕ)
    → demand (beside_of time (lower_block_of system (timing_at system task)) jitter deadline (beside_with system cycle task)) width
    + sum_by (time_in_phase start width) (in_phase_with system cycle task)
    ≡ demand_by system (is_one_of (in_phase_above system task)) task time start width
unfolding demand demand_by
demand_is system task cycle same fixed time jitter deadline start width =
    regroup (lower_block_of system (timing_at system task)) time (sum_by (time_in_phase start width) (in_phase_with system cycle task))
    (sum_by (takes width) (beside_with system cycle task))
    (sum_by (time_by system (is_one_of (in_phase_above system task)) start width) (tasks_above system task))
    (both_sums system task cycle same fixed start width)

-- ---- its numbers are in range

-- the phase of a kind in range is too
phase_in_range : (kind : StimulusKind) → IsKindInRange kind → IsKindOrdered kind → IsPhaseInRange (arrivals_of kind)
phase_in_range (Periodic period offset jitter) range ordered = record {
  is_phase = record { some = omega arith; apart = range.0.0; fits = omega arith };
  offset = ordered;
  period = range.0.1;
  count = omega arith;
}
phase_in_range (Sporadic least greatest) range ordered = record {
  is_phase = record { some = omega arith; apart = omega arith; fits = omega arith };
  offset = omega arith;
  period = omega arith;
  count = omega arith;
}
phase_in_range (Burst period offset count distance) range ordered = record {
  is_phase = record { some = omega (arith, range.2.0); apart = range.3.0; fits = ordered.1 };
  offset = ordered.0;
  period = range.0.1;
  count = range.2.1;
}

known_period : (kind : StimulusKind) (phase : Phase) → phase_of kind ≡ Some phase → arrivals_of kind ≡ phase
known_period kind phase fixed = ap (λ (p : Option Phase). unwrap_or p each_moment) fixed

module _ (model : SystemModel) (valid : IsValid model) (i : ℕ) (h : i < length model.tasks) (cycle : List ℕ)
    (same : (other : ℕ) → is_one_of cycle other ≡ is_one_of (in_phase_above (system_of model) i) other) where
  abbrev system : System
  system = system_of model

  is_sound : IsSound system
  is_sound = system_sound model valid

  known : i < length system.tasks
  known = subst (λ n. i < n) (sym (count_is model)) h

  tight : IsQuestionInRange (tight_question_of system (timing_at system i))
  tight = questions_in_range OfLower model valid i h

  -- the tasks above a task are tasks
  above_known : All (λ j. j < length model.tasks) (tasks_above system i)
  above_known = subst (All (λ j. j < length model.tasks)) (numbers_are model i h) (numbers_known model i)

  abbrev above : List Above
  above = map (λ other. taken_by (timing_at system other)) (tasks_above system i)

  few_above : length (tasks_above system i) < MOST_TASKS_OF_CORE
  few_above = subst (λ n. n < MOST_TASKS_OF_CORE)
      (ap (λ (xs : List Above). length xs) (above_by_number system i) ∙ length-map (tasks_above system i) (λ other. taken_by (timing_at system other))) tight.few_above

  fewer : (so : Bool) → length (counted_above system so cycle i) < MOST_TASKS_OF_CORE
  fewer so = omega (arith, shorter (counts_in_phase so cycle) (tasks_above system i), few_above)

  each_above : All (λ other. IsAboveInRange (timing_at system i).deadline (taken_by (timing_at system other))) (tasks_above system i)
  unfolding tight_question_of
  each_above k d lt =
      let taken : ℕ → Above = λ other. taken_by (timing_at system other) in
      let all : All (IsAboveInRange (timing_at system i).deadline) above =
      subst (All (IsAboveInRange (timing_at system i).deadline)) (above_by_number system i) tight.above in
      subst (IsAboveInRange (timing_at system i).deadline) (get_or-map taken (tasks_above system i) k d (taken d) lt)
      (all k (taken d) (omega (arith, lt, length-map (tasks_above system i) taken)))

  all_beside : All (IsAboveInRange (timing_at system i).deadline) (beside_with system cycle i)
  all_beside = All-map (IsAboveInRange (timing_at system i).deadline) (λ other. taken_by (timing_at system other)) (counted_above system false cycle i)
      (All-filter (counts_in_phase false cycle) (λ other. IsAboveInRange (timing_at system i).deadline (taken_by (timing_at system other))) (tasks_above system i) each_above)

  -- with so much work of the task itself
  pub beside_in_range : (time : ℕ) → 1 ≤ time → time ≤ MOST_RUNNABLES * MOST_TICKS
      → IsQuestionInRange (beside_of time (lower_block_of system (timing_at system i)) (greatest_jitter (timing_at system i).pattern)
      (timing_at system i).deadline (beside_with system cycle i))
  unfolding tight_question_of
  beside_in_range time some_time little = record {
    released_before = tight.released_before;
    deadline = tight.deadline;
    some_time = some_time;
    time = little;
    block = tight.block;
    few_above = omega (arith, fewer false, length-map (counted_above system false cycle i) (λ other. taken_by (timing_at system other)));
    above = all_beside;
  }

  one_in_phase : (other : ℕ) → other < length model.tasks → counts_in_phase true cycle other ≡ true → IsInPhaseInRange (cycle_of system i) (by_phase_of system other)
  one_in_phase other is_task passes =
      let timing : timing_at system other ≡ timing_of model (task_at model other) = timing_is model other is_task in
      let round = in_phase system is_sound i known other (sym (same other) ∙ passes) in
      record {
        phase = subst (λ (t : Timing). IsPhaseInRange (arrivals_of t.pattern)) (sym timing)
            (phase_in_range (stimulus_of model other) (kind_in_range model valid other is_task) (kind_ordered model valid other is_task));
        comes_round = subst (λ (p : Phase). p.period ∣ cycle_of system i) (sym (known_period (timing_at system other).pattern round.phase round.fixed)) round.divides;
        jitter = subst (λ (t : Timing). greatest_jitter t.pattern ≤ MOST_TICKS) (sym timing)
            (omega (
              arith,
              released_before model valid other is_task,
              early_enough model valid other is_task,
              least_few (stimulus_of model other) (kind_in_range model valid other is_task),
            ));
        time = subst (λ (t : Timing). greatest_execution t ≤ MOST_RUNNABLES * MOST_TICKS) (sym timing)
            (subst (λ n. n ≤ MOST_RUNNABLES * MOST_TICKS) (sym (time_is model other)) (little_time model valid other is_task));
      }

  pub all_in_phase : All (IsInPhaseInRange (cycle_of system i)) (in_phase_with system cycle i)
  all_in_phase = All-map (IsInPhaseInRange (cycle_of system i)) (by_phase_of system) (counted_above system true cycle i)
      (λ k d lt. one_in_phase _
      (All-filter (counts_in_phase true cycle) (λ j. j < length model.tasks) (tasks_above system i) above_known k d lt)
      (filter_passes (counts_in_phase true cycle) (tasks_above system i) k d lt))

  abbrev the_question : (time : ℕ) → PhasedQuestion
  the_question time = phased_with (arrivals_of (timing_at system i).pattern) (cycle_of system i) (in_phase_with system cycle i)
      (beside_of time (lower_block_of system (timing_at system i)) (greatest_jitter (timing_at system i).pattern) (timing_at system i).deadline (beside_with system cycle i))

  pub is_question : (time : ℕ) → IsPhasedQuestionOf system i time (the_question time)
  is_question time = record {
    arrivals = refl;
    cycle = refl;
    jitter = refl;
    deadline = refl;
    demand = demand_is system i cycle same (in_phase system is_sound i known) time (greatest_jitter (timing_at system i).pattern) (timing_at system i).deadline;
  }

  pub question_in_range : (time : ℕ) → 1 ≤ time → time ≤ MOST_RUNNABLES * MOST_TICKS → IsPhasedInRange (the_question time)
  question_in_range time some_time little = record {
    beside = beside_in_range time some_time little;
    arrivals = subst (λ (t : Timing). IsPhaseInRange (arrivals_of t.pattern)) (sym (timing_is model i h))
        (phase_in_range (stimulus_of model i) (kind_in_range model valid i h) (kind_ordered model valid i h));
    comes_round = own system is_sound i known;
    some = some system is_sound i known;
    short = short model valid i h;
    few = omega (arith, fewer true, length-map (counted_above system true cycle i) (by_phase_of system));
    in_phase = all_in_phase;
  }

  abbrev whole : ℕ
  whole = greatest_execution (timing_at system i)

  whole_some : 1 ≤ whole
  unfolding tight_question_of
  whole_some = tight.some_time

  whole_few : whole ≤ MOST_RUNNABLES * MOST_TICKS
  unfolding tight_question_of
  whole_few = tight.time

  -- ---- the question that is put together

  module _ (arrivals : Phase) (ticks time block jitter deadline : ℕ) (phased : List InPhase) (others : List Above)
      (is_arrivals : arrivals ≡ arrivals_of (stimulus_of model i)) (is_ticks : ticks ≡ cycle_of system i) (is_phased : phased ≡ in_phase_with system cycle i)
      (is_time : time ≡ time_of model i) (is_block : block ≡ lower_block_of system (timing_of model (task_at model i)))
      (is_jitter : jitter ≡ jitter_of model i) (is_deadline : deadline ≡ deadline_of model i) (is_beside : others ≡ beside_with system cycle i) where
    abbrev put : PhasedQuestion
    put = phased_with arrivals ticks phased (beside_of time block jitter deadline others)

    pub whole_time : time ≡ whole
    whole_time = is_time ∙ sym (ap greatest_execution (timing_is model i h) ∙ time_is model i)

    put_together : put ≡ the_question whole
    put_together =
        let timing = sym (timing_is model i h) in
        let one : arrivals ≡ arrivals_of (timing_at system i).pattern = is_arrivals ∙ ap (λ (t : Timing). arrivals_of t.pattern) timing in
        let two : block ≡ lower_block_of system (timing_at system i) = is_block ∙ ap (lower_block_of system) timing in
        let three : jitter ≡ greatest_jitter (timing_at system i).pattern = is_jitter ∙ ap (λ (t : Timing). greatest_jitter t.pattern) timing in
        let four : deadline ≡ (timing_at system i).deadline = is_deadline ∙ ap (λ (t : Timing). t.deadline) timing in
        let five = whole_time in
        cc

    pub put_asks : IsPhasedQuestionOf system i whole put
    put_asks = subst (IsPhasedQuestionOf system i whole) (sym put_together) (is_question whole)

    pub put_in_range : IsPhasedInRange put
    put_in_range = subst IsPhasedInRange (sym put_together) (question_in_range whole whole_some whole_few)

    -- where none is in phase, what stands beside is its tight question
    pub put_alone : phased ≡ [] → put.beside ≡ tight_question_of system (timing_at system i)
    unfolding tight_question_of
    put_alone none =
        let all : beside_with system cycle i ≡ (tight_question_of system (timing_at system i)).above = all_stand_beside system cycle i (sym is_phased ∙ none) in
        ap (λ (question : PhasedQuestion). question.beside) put_together
        ∙ ap (beside_of whole (lower_block_of system (timing_at system i)) (greatest_jitter (timing_at system i).pattern) (timing_at system i).deadline) all
