-- The response of the runnables of a task up to a place, found from the response of the task: it leaves
-- as long as the runnables behind the place take at most.
use Rattle.std.proofs.Common.{◌≡◌, ℕ, suc, ◌+◌, ◌-◌, ◌<◌, ◌≤◌, Option, Some, true, List, length, take, drop, get_or, sym, ap, ◌∙◌, subst, add-one, arith}
use Rattle.std.specs.Prelude.{sum_by, unwrap_or, IfSome}
use Rattle.std.proofs.lemmas.List.{drop-map}
use Rattle.std.proofs.lemmas.List.Sums.{sum_by_more_le, sum_by-take-drop}
use Rattle.cl_model.specs.{declared.{model.SystemModel.SystemModel, task.RunnableDef.RunnableDef}, ByNumber.task_at, Validity.IsValid}
use Rattle.cl_runs.specs.{TaskTiming.{TimeRange, System, timing_at}, SystemOf.{range_of, system_of}, ExecutionTimes.greatest_execution}
use Rattle.cl_runs.proofs.ModelSystem.{ranges_are, count_is, system_sound}
use Rattle.cl_resp.specs.{declared.phased.PhasedQuestion.PhasedQuestion, Asked.{suffices, least_response, IsLeastResponse}, ByPhase.{asked_by_phase, response_through, IsSettledByPhase}, Clear.{greatest_through, greatest_behind}, Promises.AlwaysFinishesThrough, Question.tight_question_of}
use Rattle.cl_resp.specs.{Response.busy_window, Inner.Phased.{asked_of, IsPhasedQuestionOf, IsPhasedInRange, ServesAnywhere}}
use Rattle.cl_resp.proofs.{LeastAnswers.{found_is_least, least_is_found, answers_later, test_from_answers}, LeastParts.{settled_least, settled_through}, LeastRound.asked_comes_round, PhasedAnswers.{same_asked, serves_if, part_less, for_part, asks_part, part_in_range, part_answer}}
use Rattle.cl_resp.proofs.{PhasedSums.sum_mapped, LeastBehind.{through_and_behind, part_leaves_room}}

-- ---- the runnables behind a place

-- their times are those of the model
pub behind_is : (model : SystemModel) (i : ℕ) → i < length model.tasks → (place : ℕ)
    → greatest_behind (timing_at (system_of model) i) place
    ≡ sum_by (λ (runnable : RunnableDef). runnable.greatest) (drop (place + 1) (task_at model i).runnables)
unfolding greatest_behind
behind_is model i h place =
    let runnables = (task_at model i).runnables in
    ap (λ (ranges : List TimeRange). sum_by (λ (range : TimeRange). range.greatest) (drop (suc place) ranges)) (ranges_are model i h)
    ∙ ap (sum_by (λ (range : TimeRange). range.greatest)) (drop-map range_of (suc place) runnables)
    ∙ sum_mapped (λ (range : TimeRange). range.greatest) range_of (drop (suc place) runnables)
    ∙ ap (λ n. sum_by (λ (runnable : RunnableDef). runnable.greatest) (drop n runnables)) (sym (add-one place))

-- with one more of them, the time is no longer than all take
pub one_more_fits : (runnables items : List RunnableDef) (n i time : ℕ) (runnable : RunnableDef) → items ≡ drop n runnables
    → i < length items → runnable ≡ get_or items i runnable → time ≡ sum_by (λ (one : RunnableDef). one.greatest) (take i items)
    → time + runnable.greatest ≤ sum_by (λ (one : RunnableDef). one.greatest) runnables
one_more_fits runnables items n i time runnable rest within at is =
    let greatest : RunnableDef → ℕ = λ one. one.greatest in
    omega (
      arith,
      is,
      ap greatest at,
      sum_by_more_le greatest items i runnable within,
      ap (sum_by greatest) rest,
      sum_by-take-drop greatest runnables n,
    )

-- ---- for a task of a model that is settled by phases

pub numbered : (model : SystemModel) (task response : ℕ) → IsSettledByPhase (system_of model) task response → task < length model.tasks
numbered model task response settled = subst (λ n. task < n) (count_is model) settled.is_task

module _ (model : SystemModel) (valid : IsValid model) (task response : ℕ) (settled : IsSettledByPhase (system_of model) task response)
    (place : ℕ) (within : place < length (timing_at (system_of model) task).ranges) where
  abbrev system : System
  system = system_of model

  abbrev whole : ℕ
  whole = greatest_execution (timing_at system task)

  abbrev part : ℕ
  part = greatest_through (timing_at system task) place

  abbrev behind : ℕ
  behind = greatest_behind (timing_at system task) place

  -- where they take no time, the response is that of the task
  pub same_response : behind ≡ 0 → response_through system task place ≡ Some response
  unfolding response_through
  same_response none =
      let sound = system_sound model valid in
      let all : part ≡ whole = omega (arith, through_and_behind (timing_at system task) place, none) in
      least_is_found (asked_by_phase system task part) (asked_comes_round system sound task part settled.is_task) response
      (subst (λ own. IsLeastResponse (asked_by_phase system task own) response) (sym all) (settled_least system sound task response settled))

  abbrev found : (through : ℕ) × (response_through system task place ≡ Some through) × (through + behind ≤ response)
  found = part_leaves_room system (system_sound model valid) task response settled place within

  -- it is at least as long as they take
  pub behind_first : (less : ℕ) → less ≡ behind → less ≤ response
  behind_first less is_less = omega (arith, is_less, found.2)

  -- what is answered up to the place is found, whatever would stand for no answer
  answered_through : (answer : Option ℕ) → answer ≡ response_through system task place
      → (most through : ℕ) → through ≡ unwrap_or answer most → response_through system task place ≡ Some through
  answered_through answer is most through unwrapped =
      found.1 ∙ ap Some (sym (unwrapped ∙ ap (λ (o : Option ℕ). unwrap_or o most) (is ∙ found.1)))

  -- which holds
  pub finishes_through : (through : ℕ) → response_through system task place ≡ Some through → AlwaysFinishesThrough system task place through
  finishes_through through is = settled_through system (system_sound model valid) task response settled place through within is

  -- ---- the question of the task, with less work

  module _ (question : PhasedQuestion) (is : IsPhasedQuestionOf system task whole question) (own : question.beside.time ≡ whole)
      (less : ℕ) (is_less : less ≡ behind) where
    abbrev known : task < length model.tasks
    known = numbered model task response settled

    abbrev without : PhasedQuestion
    without = for_part model valid task known place question (question.beside.time - less)

    pub less_work : less ≤ question.beside.time
    less_work = omega (arith, through_and_behind (timing_at system task) place, own, is_less)

    is_part : question.beside.time - less ≡ part
    is_part = omega (arith, through_and_behind (timing_at system task) place, own, is_less)

    asks : IsPhasedQuestionOf system task part without
    asks = asks_part model valid task known place question is own (question.beside.time - less) is_part

    pub in_range_without : IsPhasedInRange question → IsPhasedInRange without
    in_range_without range = part_in_range model valid task known place question is own (question.beside.time - less) is_part range

    pub serves_without : (widest : Option ℕ) → widest ≡ busy_window (tight_question_of system (timing_at system task))
        → IfSome widest (ServesAnywhere (asked_of without))
    serves_without widest found = serves_if model valid task known part (part_less model valid task known place) without asks widest found

    -- all that it asks is answered that much sooner
    pub suffices_without : suffices (asked_of without) (response - less) ≡ true
    unfolding response_through
    suffices_without =
        let asked = asked_by_phase system task part in
        let comes = asked_comes_round system (system_sound model valid) task part settled.is_task in
        let sooner : found.0 ≤ response - less = omega (arith, found.2, is_less) in
        subst (λ a. suffices a (response - less) ≡ true) (sym (same_asked system task part without asks))
        (test_from_answers asked comes (response - less)
        (answers_later asked found.0 (response - less) sooner (found_is_least asked comes found.0 found.1).answers))

    -- and the answer is the response up to the place
    pub answered_without : (answer : Option ℕ) → answer ≡ least_response (asked_of without)
        → (most through : ℕ) → through ≡ unwrap_or answer most → response_through system task place ≡ Some through
    answered_without answer answers most through unwrapped =
        answered_through answer (part_answer model valid task known place question is own (question.beside.time - less) is_part answer answers)
        most through unwrapped
