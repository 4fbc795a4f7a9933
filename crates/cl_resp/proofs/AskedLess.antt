-- Where a task and what it waits for take no longer, no more is asked of any window: so what is answered stays so, and no
-- later.
use Rattle.std.proofs.Common.{◌≡◌, ℕ, ◌*◌, ◌<◌, ◌≤◌, ℤ, pos, ◌+ℤ◌, ◌-ℤ◌, ◌≤ℤ◌, Bool, true, Option, Some, None, length, refl, sym, ◌∙◌, subst, arith}
use Rattle.std.specs.List.{sum_by, range_with_len}
use Rattle.std.proofs.Math.Nat.{mul-le-mul_left}
use Rattle.std.proofs.lemmas.List.Elements.{All-weaker, filter_passes}
use Rattle.cl_model.specs.{declared.stimulus.StimulusKind.StimulusKind, Timing.greatest_jitter}
use Rattle.cl_runs.specs.{TaskTiming.{System, timing_at, IsSound}, Priorities.{is_above, tasks_above}, ExecutionTimes.greatest_execution}
use Rattle.cl_stim.specs.Phase.{IsArrivalOf, last_arrival}
use Rattle.cl_cycle.specs.{Counts.arrivals_of, Cycles.{is_one_of, in_phase_above}}
use Rattle.cl_cycle.proofs.SameCycles.{same_above, same_in_phase}
use Rattle.cl_resp.specs.{Asked.{MayBegin, AnswersWithin, IsLeastResponse, least_response}, ByPhase.{phase_if, released_by, time_by, demand_by, asked_by_phase, response_by_phase, response_through, IsSettledByPhase}, Clear.greatest_through, LesserTimes.TakesNoMore, Response.Response}
use Rattle.cl_resp.proofs.{AnsweredSooner.settled_by_phase, LeastAnswers.{found_is_least, finds_some}, LeastParts.settled_least, LeastRound.asked_comes_round, PhasedAnswers.sums_ordered_on}

module _ (less more : System) (task : ℕ) (takes : TakesNoMore less more task) where
  abbrev pattern_same : (other : ℕ) → (timing_at less other).pattern ≡ (timing_at more other).pattern
  pattern_same = takes.alike.patterns

  -- ---- what is asked

  module _ (in_phase : ℕ → Bool) (start : ℤ) (width : ℕ) where
    -- a task above is released as often, and each time takes no longer
    one_takes_less : (other : ℕ) → is_above (timing_at more task) (timing_at more other) ≡ true
        → time_by less in_phase start width other ≤ time_by more in_phase start width other
    one_takes_less other is =
        subst (λ (kind : StimulusKind). released_by (phase_if (in_phase other) kind) kind start width * greatest_execution (timing_at less other)
        ≤ time_by more in_phase start width other) (sym (pattern_same other))
        (mul-le-mul_left (released_by (phase_if (in_phase other) (timing_at more other).pattern) (timing_at more other).pattern start width)
        (takes.above other is))

    all_take_less : sum_by (time_by less in_phase start width) (tasks_above less task) ≤ sum_by (time_by more in_phase start width) (tasks_above more task)
    all_take_less =
        subst (λ tasks. sum_by (time_by less in_phase start width) tasks ≤ sum_by (time_by more in_phase start width) (tasks_above more task))
        (sym (same_above less more takes.alike task))
        (sums_ordered_on (time_by less in_phase start width) (time_by more in_phase start width) (tasks_above more task)
        (All-weaker (λ other. is_above (timing_at more task) (timing_at more other) ≡ true)
        (λ other. time_by less in_phase start width other ≤ time_by more in_phase start width other) one_takes_less (tasks_above more task)
        (filter_passes (λ other. is_above (timing_at more task) (timing_at more other)) (range_with_len 0 (length more.tasks)))))

  module _ (own own_more : ℕ) (own_less : own ≤ own_more) where
    -- no more is asked of a window, wherever it begins
    asks_less : (in_phase : ℕ → Bool) (start : ℤ) (width : ℕ)
        → demand_by less in_phase task own start width ≤ demand_by more in_phase task own_more start width
    unfolding demand_by
    asks_less in_phase start width = omega (arith, takes.block, own_less, all_take_less in_phase start width)

    asks_less_by_phase : (start : ℤ) (width : ℕ) → (asked_by_phase less task own).demand start width ≤ (asked_by_phase more task own_more).demand start width
    asks_less_by_phase start width =
        subst (λ tasks. demand_by less (is_one_of tasks) task own start width ≤ (asked_by_phase more task own_more).demand start width)
        (sym (same_in_phase less more takes.alike task)) (asks_less (is_one_of (in_phase_above more task)) start width)

    -- ---- so what answers more answers less

    begins_alike : (arrival start : ℤ) → MayBegin (asked_by_phase less task own) arrival start → MayBegin (asked_by_phase more task own_more) arrival start
    begins_alike arrival start begins = record {
      after = subst (λ (kind : StimulusKind). (last_arrival (arrivals_of kind) (arrival -ℤ pos 1) +ℤ pos 1) ≤ℤ start) (pattern_same task) begins.after;
      by = subst (λ (kind : StimulusKind). start ≤ℤ (arrival +ℤ pos (greatest_jitter kind))) (pattern_same task) begins.by;
    }

    answers_less : (response : ℕ) → AnswersWithin (asked_by_phase more task own_more) response → AnswersWithin (asked_by_phase less task own) response
    answers_less response answers arrival start arrives begins =
        let ends = answers arrival start (subst (λ (kind : StimulusKind). IsArrivalOf (arrivals_of kind) arrival) (pattern_same task) arrives)
        (begins_alike arrival start begins) in
        record {
          width = ends.width;
          some = ends.some;
          by = ends.by;
          enough = omega (arith, asks_less_by_phase start ends.width, ends.enough);
        }

    found_sooner : IsSound less → task < length less.tasks → (response : ℕ) → IsLeastResponse (asked_by_phase more task own_more) response
        → (sooner : ℕ) × (least_response (asked_by_phase less task own) ≡ Some sooner) × (sooner ≤ response)
    found_sooner sound known response least = finds_some (asked_by_phase less task own) (asked_comes_round less sound task own known) response
        least.some (omega (arith, least.by_deadline, takes.alike.deadlines task)) (answers_less response least.answers)

-- ---- the response of the task, and of its runnables up to a place

module _ (less more : System) (sound : IsSound less) (sound_more : IsSound more) (task : ℕ) (takes : TakesNoMore less more task) where
  pub settled_sooner : (response : ℕ) → IsSettledByPhase more task response → (sooner : ℕ) × IsSettledByPhase less task sooner × (sooner ≤ response)
  settled_sooner response settled =
      let known : task < length less.tasks = omega (arith, settled.is_task, takes.alike.count) in
      let (sooner, is, by) = found_sooner less more task takes (greatest_execution (timing_at less task)) (greatest_execution (timing_at more task))
      takes.own sound known response (settled_least more sound_more task response settled) in
      (sooner, settled_by_phase less task sooner known is, by)

  -- so a task that is late there is late where it takes longer
  pub late_stays_late : task < length more.tasks → response_by_phase less task ≡ None → response_by_phase more task ≡ None
  late_stays_late known none = go (response_by_phase more task) refl
    where
      not_both : {answer : Response} → None ≡ Some answer → ⊥
      not_both is = cc

      go : (found : Option Response) → response_by_phase more task ≡ found → found ≡ None
      go None is = refl
      go (Some answer) is =
          let sooner = settled_sooner answer.response (record { is_task = known; window = answer.window; answered = is }) in
          absurd (not_both (sym none ∙ sooner.1.answered))

  pub through_sooner : task < length more.tasks → (place : ℕ)
      → greatest_through (timing_at less task) place ≤ greatest_through (timing_at more task) place
      → (response : ℕ) → response_through more task place ≡ Some response
      → (sooner : ℕ) × (response_through less task place ≡ Some sooner) × (sooner ≤ response)
  unfolding response_through
  through_sooner known place part response is =
      let own = greatest_through (timing_at more task) place in
      found_sooner less more task takes (greatest_through (timing_at less task) place) own part sound (omega (arith, known, takes.alike.count)) response
      (found_is_least (asked_by_phase more task own) (asked_comes_round more sound_more task own known) response is)
