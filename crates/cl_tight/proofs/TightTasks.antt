-- Tasks that aren't late by phases: they have a response by phases, and settled ones are such, with responses that are
-- no later.
use Rattle.std.proofs.Common.{◌≡◌, ℕ, ◌<◌, ◌≤◌, false, Option, Some, None, List, length, get_or, refl, sym, ap, ◌∙◌, subst, arith}
use Rattle.std.proofs.lemmas.Bool.{true≢false}
use Rattle.std.proofs.lemmas.List.FromFn.{get_or-map-range_with_len}
use Rattle.cl_model.specs.declared.group.Group.{Group}
use Rattle.cl_runs.specs.TaskTiming.{System, IsSound}
use Rattle.cl_resp.specs.{ByPhase.{response_by_phase, IsSettledByPhase}, Response.{Response, IsSettled}}
use Rattle.cl_bound.specs.{declared.answer.TaskAnswer.{TaskAnswer, TheVariants.Late}, Answers.{answer_with, is_late, response_in, answer_at, answers_of}, SettledChains.IsSettledChain}
use Rattle.cl_bound.proofs.SettledTasks.{settled_task}
use Rattle.cl_tight.specs.TightAnswers.{tight_answer_to, tight_answers_of, tight_response}
use Rattle.cl_resp.proofs.AnsweredSooner.{report_by_phase}

-- the response in an answer that isn't late is the one that it was made with
answered : (response : Option Response) (answer : TaskAnswer) → answer ≡ answer_with response → is_late answer ≡ false
    → (window : ℕ) × (response ≡ Some (record { window = window; response = response_in answer }))
answered (Some response) answer is timely = (
  response.window,
  subst (λ (a : TaskAnswer). Some response ≡ Some (record { window = response.window; response = response_in a })) (sym is) refl,
)
answered None answer is timely = absurd (true≢false (sym (ap is_late is) ∙ timely))

module _ (system : System) (task : ℕ) (is : task < length system.tasks) where
  -- the answer for a task is the one by phases
  pub phased_answer : answer_at (tight_answers_of system) task ≡ tight_answer_to system task
  unfolding tight_answers_of
  phased_answer = get_or-map-range_with_len (tight_answer_to system) 0 (length system.tasks) task task Late is (omega arith)

  -- a task that isn't late by phases has a response by phases
  pub tight_task : is_late (answer_at (tight_answers_of system) task) ≡ false → IsSettledByPhase system task (tight_response system task)
  tight_task timely =
      let found = answered (response_by_phase system task) (answer_at (tight_answers_of system) task) phased_answer timely in
      record { is_task = is; window = found.0; answered = found.1 }

  -- and one that has isn't late
  pub timely_by_phase : (response : ℕ) → IsSettledByPhase system task response → is_late (answer_at (tight_answers_of system) task) ≡ false
  timely_by_phase response settled = ap is_late (phased_answer ∙ ap answer_with settled.answered)

  -- a settled task has one, no later
  pub tight_of_settled : IsSound system → (response : ℕ) → IsSettled system task response
      → IsSettledByPhase system task (tight_response system task) × (tight_response system task ≤ response)
  tight_of_settled sound response settled =
      let (by_phase, phased, no_later) = report_by_phase system sound task response settled in
      let same : tight_response system task ≡ by_phase = ap response_in (phased_answer ∙ ap answer_with phased.answered) in
      (subst (IsSettledByPhase system task) (sym same) phased, omega (arith, same, no_later))

-- a group of a settled chain has a response by phases, no later than it is settled
pub tight_group : (system : System) → IsSound system → (groups : List Group) → IsSettledChain system groups → (place : ℕ) (d : Group) → (h : place < length groups)
    → IsSettledByPhase system (get_or groups place d).task (tight_response system (get_or groups place d).task)
    × (tight_response system (get_or groups place d).task ≤ response_in (answer_at (answers_of system) (get_or groups place d).task))
tight_group system sound groups chain place d h =
    let task = (get_or groups place d).task in
    let is = (chain.groups_of place d h).is_task in
    tight_of_settled system task is sound (response_in (answer_at (answers_of system) task)) (settled_task system task is (chain.settled place d h))
