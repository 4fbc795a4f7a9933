-- A task that is settled by its question, or by its tight one, has a response by phases that is no
-- later. For the window of that question serves wherever it begins.
use Rattle.std.proofs.Common.{◌≡◌, ℕ, ◌+◌, ◌-◌, ◌<◌, ◌≤◌, ℤ, pos, ◌+ℤ◌, ◌-ℤ◌, inl, inr, Bool, true, false, nat_le, Option, Some, None, length, get_or, refl, sym, ap, ◌∙◌, subst, arith}
use Rattle.std.specs.Prelude.{filter, find}
use Rattle.std.specs.List.{range_with_len}
use Rattle.std.specs.Option.{option_map}
use Rattle.std.proofs.lemmas.Bool.{cases_lt, le-leb, true≢false}
use Rattle.std.proofs.lemmas.List.Folds.{list_any_at}
use Rattle.std.proofs.lemmas.List.FromFn.{get_or-range_with_len, length-range_with_len}
use Rattle.std.proofs.lemmas.List.Sums.{list_all-from_AllPass}
use Rattle.cl_model.specs.Timing.{greatest_jitter}
use Rattle.cl_runs.specs.{TaskTiming.{System, timing_at, IsSound}, ExecutionTimes.greatest_execution}
use Rattle.cl_runs.proofs.FirstFound.{first_found, none_passes}
use Rattle.cl_stim.specs.Phase.{arrives_at}
use Rattle.cl_cycle.specs.Cycles.{is_one_of, in_phase_above}
use Rattle.cl_resp.specs.{Response.{IsSettled, IsTightlySettled}, Asked.{Asked, holds_within, beginnings_of, is_answered, suffices, least_response, AnswersWithin}, ByPhase.{asked_with, asked_by_phase, response_by_phase, IsSettledByPhase}}
use Rattle.cl_resp.proofs.{BusyWindowDemand.window_holds, LessAsked.tight_no_later, SettledTasks.{answered_window, answered_response, tight_answer}, AnsweredDemand.{choice_asks_less, holds_anywhere}}

-- ---- a window that serves wherever it begins

module _ (asked : Asked) (width : ℕ) (some : 1 ≤ width) (serves : (start : ℤ) → asked.demand start width ≤ width) where
  -- it is found among all that are wide enough
  held_within : (start : ℤ) (most : ℕ) → width ≤ most → holds_within asked start most ≡ true
  held_within start most within =
      let at : get_or (range_with_len 1 most) (width - 1) 0 ≡ width
      = get_or-range_with_len 1 most (width - 1) 0 (omega (arith, some, within)) ∙ omega (arith, some) in
      list_any_at (λ w. nat_le (asked.demand start w) w) (range_with_len 1 most) (width - 1) 0
      (omega (arith, some, within, length-range_with_len 1 most))
      (subst (λ w. nat_le (asked.demand start w) w ≡ true) (sym at) (le-leb (asked.demand start width) width (serves start)))

  -- so each arrival is answered within it and the jitter
  answered_anywhere : (arrival : ℤ) → is_answered asked (asked.jitter + width) arrival ≡ true
  answered_anywhere arrival = list_all-from_AllPass
      (λ earlier. holds_within asked ((arrival +ℤ pos asked.jitter) -ℤ pos earlier) (((asked.jitter + width) + earlier) - asked.jitter))
      (range_with_len 0 (beginnings_of asked arrival)) (λ k d lt. held_within _ _ (omega arith))

  -- and so is each of a cycle
  served_suffices : suffices asked (asked.jitter + width) ≡ true
  unfolding suffices
  served_suffices =
      let moments = filter (λ moment. arrives_at asked.arrivals (pos moment)) (range_with_len 0 asked.cycle) in
      list_all-from_AllPass (λ moment. is_answered asked (asked.jitter + width) (pos moment)) moments
      (λ k d lt. answered_anywhere (pos (get_or moments k d)))

-- ---- the least response

module _ (asked : Asked) (latest : ℕ) (some : 1 ≤ latest) (within : latest ≤ asked.deadline) (enough : suffices asked latest ≡ true) where
  -- it stands among those that are tried, so that none before it fails where it doesn't
  passes_there : suffices asked (get_or (range_with_len 1 asked.deadline) (latest - 1) 0) ≡ true
  passes_there =
      let at : get_or (range_with_len 1 asked.deadline) (latest - 1) 0 ≡ latest
      = get_or-range_with_len 1 asked.deadline (latest - 1) 0 (omega (arith, some, within)) ∙ omega (arith, some) in
      subst (λ r. suffices asked r ≡ true) (sym at) enough

  -- so the search finds it, or one before it
  by_search : (found : Option ℕ) → find (λ response. suffices asked response) (range_with_len 1 asked.deadline) ≡ found
      → (response : ℕ) × (found ≡ Some response) × (response ≤ latest)
  by_search None none = absurd (true≢false (sym passes_there ∙ none_passes (λ response. suffices asked response) (range_with_len 1 asked.deadline) none
      (latest - 1) 0 (omega (arith, some, within, length-range_with_len 1 asked.deadline))))
  by_search (Some response) found =
      let first = first_found (λ response. suffices asked response) (range_with_len 1 asked.deadline) response found in
      elim (cases_lt (latest - 1) first.place) [
        | inl before ↦ absurd (true≢false (sym passes_there ∙ first.fails_before (latest - 1) 0 before))
        | inr after ↦
            let in_range : first.place < asked.deadline = omega (arith, first.within, length-range_with_len 1 asked.deadline) in
            (response, refl, omega (arith, sym (first.is 0), get_or-range_with_len 1 asked.deadline first.place 0 in_range, after, some))
      ]

  -- so there is a least response, and one that is no later
  found_no_later : (response : ℕ) × (least_response asked ≡ Some response) × (response ≤ latest)
  unfolding least_response
  found_no_later = by_search (find (λ response. suffices asked response) (range_with_len 1 asked.deadline)) refl

-- ---- by phases

-- a task with a least response is settled by it
pub settled_by_phase : (system : System) (task by_phase : ℕ) → task < length system.tasks
    → least_response (asked_by_phase system task (greatest_execution (timing_at system task))) ≡ Some by_phase → IsSettledByPhase system task by_phase
unfolding response_by_phase
settled_by_phase system task by_phase known found =
    let jitter = greatest_jitter (timing_at system task).pattern in
    record {
      is_task = known;
      window = by_phase - jitter;
      answered = ap (option_map (λ (r : ℕ). record { window = r - jitter; response = r })) found;
    }

module _ (system : System) (sound : IsSound system) (task response : ℕ) where
  -- its tight question has a window, which serves wherever it begins
  pub tight_by_phase : IsTightlySettled system task response → (by_phase : ℕ) × IsSettledByPhase system task by_phase × (by_phase ≤ response)
  tight_by_phase settled =
      let answer = tight_answer system task response settled in
      let window = answered_window system task response answer in
      let same : response ≡ greatest_jitter (timing_at system task).pattern + answer.window = answered_response system task response answer in
      let holds = window_holds system sound task settled.is_task answer.question answer.asks answer.window window in
      let asked = asked_by_phase system task (greatest_execution (timing_at system task)) in
      let enough = served_suffices asked answer.window window.some
      (holds_anywhere system sound task answer.question.block answer.window holds (is_one_of (in_phase_above system task))) in
      let (by_phase, found, no_later) = found_no_later asked (asked.jitter + answer.window) (omega (arith, window.some)) holds.within enough in
      (by_phase, settled_by_phase system task by_phase settled.is_task found, omega (arith, no_later, same))

module _ (system : System) (sound : IsSound system) where
  -- its question has a tight one that is answered no later
  pub report_by_phase : (task response : ℕ) → IsSettled system task response → (by_phase : ℕ) × IsSettledByPhase system task by_phase × (by_phase ≤ response)
  report_by_phase task response settled =
      let (tight, tightly, earlier) = tight_no_later system task response settled in
      let (by_phase, is, no_later) = tight_by_phase system sound task tight tightly in
      (by_phase, is, omega (arith, earlier, no_later))

  -- whichever tasks are in phase, what is asked with none of them is answered no sooner
  pub choice_answers : (in_phase : ℕ → Bool) (cycle task own response : ℕ) → task < length system.tasks
      → AnswersWithin (asked_with system (λ _. false) cycle task own) response → AnswersWithin (asked_with system in_phase cycle task own) response
  choice_answers in_phase cycle task own response is answers arrival start arrives begins =
      let ends = answers arrival start arrives (record { after = begins.after; by = begins.by }) in
      record {
        width = ends.width;
        some = ends.some;
        by = ends.by;
        enough = omega (arith, choice_asks_less system sound task in_phase own start ends.width, ends.enough);
      }
