-- A task without a response by phases: within no number of ticks up to its deadline are its arrivals answered.
use Rattle.std.proofs.Common.{◌≡◌, ℕ, zero, suc, ◌<◌, ◌≤◌, Option, Some, None, length, refl, sym, ◌∙◌, inl, inr, arith}
use Rattle.std.specs.Option.{option_map}
use Rattle.std.proofs.lemmas.Bool.{cases_lt}
use Rattle.cl_runs.specs.{TaskTiming.{System, timing_at, IsSound}, ExecutionTimes.greatest_execution}
use Rattle.cl_resp.specs.{Asked.{Asked, least_response, AnswersWithin, IsLeastResponse, AskedComesRound}, ByPhase.{asked_by_phase, response_by_phase}, Response.Response}

pub not_some : {X : Type 0} (x : X) → Some x ≡ None → ⊥
not_some x is = absurd cc

none_mapped : (f : ℕ → Response) (found : Option ℕ) → option_map f found ≡ None → found ≡ None
none_mapped f None is = refl
none_mapped f (Some n) is = absurd cc

-- where there is no least response, nothing up to the deadline is one
module _ (asked : Asked) (found : (response : ℕ) → IsLeastResponse asked response → least_response asked ≡ Some response)
    (none : least_response asked ≡ None) where
  none_to : (most : ℕ) → most ≤ asked.deadline → (response : ℕ) → 1 ≤ response → response ≤ most → AnswersWithin asked response → ⊥
  none_to zero by response some within answers = absurd (omega (arith, some, within))
  none_to (suc most) by response some within answers = elim (cases_lt response (suc most)) [
    | inl less ↦ none_to most (omega (arith, by)) response some (omega (arith, less)) answers
    | inr last ↦ not_some response (sym (found response (record {
      some = some;
      by_deadline = omega (arith, within, by);
      answers = answers;
      least = λ lesser some_lesser answers_lesser. elim (cases_lt lesser response) [
        | inl less ↦ absurd (none_to most (omega (arith, by)) lesser some_lesser (omega (arith, less, within)) answers_lesser)
        | inr not ↦ not
      ];
    })) ∙ none)
  ]

-- so it is of whole jobs of a task
module _ (is_found : (asked : Asked) → AskedComesRound asked → (response : ℕ) → IsLeastResponse asked response → least_response asked ≡ Some response)
    (comes_round : (system : System) → IsSound system → (task own : ℕ) → task < length system.tasks → AskedComesRound (asked_by_phase system task own)) where
  pub unanswered : (system : System) → IsSound system → (task : ℕ) → task < length system.tasks → response_by_phase system task ≡ None
      → (response : ℕ) → 1 ≤ response → response ≤ (timing_at system task).deadline
      → AnswersWithin (asked_by_phase system task (greatest_execution (timing_at system task))) response → ⊥
  unfolding response_by_phase
  unanswered system sound task is none response some within =
      let own = greatest_execution (timing_at system task) in
      let asked = asked_by_phase system task own in
      none_to asked (is_found asked (comes_round system sound task own is)) (none_mapped _ (least_response asked) none)
      (timing_at system task).deadline (omega arith) response some within
