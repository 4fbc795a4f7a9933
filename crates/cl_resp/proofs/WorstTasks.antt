-- From the worst window of a question to that of a task, and that a task has one worst window.
use Rattle.std.proofs.Common.{◌≡◌, ℕ, zero, suc, ◌+◌, ◌-◌, ◌<◌, ◌≤◌, Bool, true, false, cond, ℤ, pos, ◌-ℤ◌, ◌≤ℤ◌, ◌<ℤ◌, refl, sym, ap, ◌∙◌, subst, arith}
use mathlib.Core.Path.{fun_ext}
use Rattle.std.specs.Prelude.{Option, Some, None, is_some, find, filter}
use Rattle.std.specs.List.{range_with_len}
use Rattle.std.specs.Option.{option_map}
use Rattle.std.proofs.lemmas.Bool.{true≢false}
use Rattle.std.proofs.lemmas.Int.{ints}
use Rattle.cl_model.specs.Timing.{greatest_jitter}
use Rattle.cl_runs.specs.{TaskTiming.{System, timing_at}, Priorities.tasks_above, ExecutionTimes.greatest_execution}
use Rattle.cl_stim.specs.{declared.phase.Phase.Phase, Phase.phase_of}
use Rattle.cl_cycle.specs.Cycles.{is_one_of, in_phase_above}
use Rattle.cl_resp.specs.{declared.{phased.{InPhase.InPhase, PhasedQuestion.PhasedQuestion}, worst.WorstWindow.WorstWindow}, Asked.{Asked, suffices, least_response}, ByPhase.{asked_by_phase, response_by_phase}, Response.Response, Worst.{less_than, within_of, IsUnanswered}}
use Rattle.cl_resp.specs.{Worst.{IsFirstUnanswered, IsLeastUnanswered, PassesOrZero, is_released_in, IsCandidate, IsWorstBy, IsWorstWindowOf}, Inner.{Counted.{by_phase_of, in_phase_with}, Phased.{asked_of, IsPhasedQuestionOf}, Worst.{IsCandidateOf, IsLeastAfter}}}
use Rattle.cl_resp.proofs.WorstCandidates.{passes_mapped}

-- ---- there is one

module _ (one other : WorstWindow) where
  equal : (a b : ℤ) → a ≤ℤ b → b ≤ℤ a → a ≡ b
  equal a b less more = omega (arith, ints, less, more)

  same_parts : one.arrival ≡ other.arrival → one.start ≡ other.start → one ≡ other
  same_parts arrivals starts =
      ap (λ (a : ℤ). record { arrival = a; start = one.start }) arrivals ∙ ap (λ (s : ℤ). record { arrival = other.arrival; start = s }) starts

  first_once : (asked : Asked) (within : ℕ) → IsFirstUnanswered asked within one → IsFirstUnanswered asked within other → one ≡ other
  first_once asked within this that =
      let arrivals = equal one.arrival other.arrival (this.first other.arrival other.start that.unanswered) (that.first one.arrival one.start this.unanswered) in
      same_parts arrivals (equal one.start other.start
      (that.latest one.start (subst (λ a. IsUnanswered asked within a one.start) arrivals this.unanswered))
      (this.latest other.start (subst (λ a. IsUnanswered asked within a other.start) (sym arrivals) that.unanswered)))

  least_once : (asked : Asked) (candidate : ℤ → Type 0) (within : ℕ) → IsLeastUnanswered asked candidate within one
      → IsLeastUnanswered asked candidate within other → one ≡ other
  least_once asked candidate within this that =
      let starts = equal one.start other.start (this.least other.start that.is_candidate that.none) (that.least one.start this.is_candidate this.none) in
      same_parts (this.arrives ∙ starts ∙ sym that.arrives) starts

  worst_once : (fixed : Option Phase) (asked : Asked) (candidate : ℤ → Type 0) (within : ℕ) → IsWorstBy fixed asked candidate within one
      → IsWorstBy fixed asked candidate within other → one ≡ other
  worst_once (Some phase) asked candidate within = first_once asked within
  worst_once None asked candidate within = least_once asked candidate within

pub only_one : (system : System) (task : ℕ) (one other : WorstWindow) → IsWorstWindowOf system task one → IsWorstWindowOf system task other → one ≡ other
only_one system task one other this that = worst_once one other _ _ _ _ this.worst that.worst

-- ---- what a question asks is what is asked of the task

abbrev made : Phase → (cycle jitter deadline : ℕ) → ((start : ℤ) → (width : ℕ) → ℕ) → Asked
made arrivals cycle jitter deadline demand =
    record { arrivals = arrivals; cycle = cycle; jitter = jitter; deadline = deadline; demand = demand }

pub same_asked : (system : System) (task own : ℕ) (question : PhasedQuestion) → IsPhasedQuestionOf system task own question
    → asked_of question ≡ asked_by_phase system task own
same_asked system task own question is =
    let asked = asked_by_phase system task own in
    let here = asked_of question in
    ap (λ a. made a here.cycle here.jitter here.deadline here.demand) is.arrivals
    ∙ ap (λ n. made asked.arrivals n here.jitter here.deadline here.demand) is.cycle
    ∙ ap (λ n. made asked.arrivals asked.cycle n here.deadline here.demand) is.jitter
    ∙ ap (λ n. made asked.arrivals asked.cycle asked.jitter n here.demand) is.deadline
    ∙ ap (λ d. made asked.arrivals asked.cycle asked.jitter asked.deadline d) (fun_ext (λ start. fun_ext (λ width. is.demand start width)))

-- its candidates are those of the task
pub same_candidates : (system : System) (task : ℕ) (question : PhasedQuestion) (start : ℤ)
    → question.in_phase ≡ in_phase_with system (in_phase_above system task) task
    → IsCandidateOf question start ≡ IsCandidate system task question.cycle start
same_candidates system task question start is =
    ap (λ list. PassesOrZero (λ (above : InPhase). is_released_in question.cycle start above.phase above.jitter) list start) is
    ∙ passes_mapped (λ (above : InPhase). is_released_in question.cycle start above.phase above.jitter) (by_phase_of system)
    (filter (is_one_of (in_phase_above system task)) (tasks_above system task)) start

cast : (A B : Type 0) → A ≡ B → A → B
cast A B same a = subst (λ (T : Type 0). T) same a

-- the least candidate of a question that isn't answered
pub least_is : (system : System) (task within : ℕ) (question : PhasedQuestion) (start : ℤ)
    → question.in_phase ≡ in_phase_with system (in_phase_above system task) task
    → ((moment : ℤ) → IsCandidateOf question moment → (pos 0 -ℤ pos 1) <ℤ moment) → IsLeastAfter question within (pos 0 -ℤ pos 1) start
    → IsLeastUnanswered (asked_of question) (IsCandidate system task question.cycle) within (record { arrival = start; start = start })
least_is system task within question start list follows is = record {
  arrives = refl;
  is_candidate = cast (IsCandidateOf question start) (IsCandidate system task question.cycle start) (same_candidates system task question start list) is.is_candidate;
  none = is.none;
  least = λ other candidate lacks.
      let here = cast (IsCandidate system task question.cycle other) (IsCandidateOf question other) (sym (same_candidates system task question other list)) candidate in
      is.least other (follows other here) here lacks;
}

-- ---- the ticks within which not all is answered

found_below : (test : ℕ → Bool) (from n k : ℕ) → find test (range_with_len from n) ≡ Some k → k < from + n
found_below test from zero k is = absurd (true≢false (sym (ap is_some is)))
found_below test from (suc n) k is = by (test from) refl (found_below test (from + 1) n k)
  where
    one : (a b : ℕ) → Some a ≡ Some b → a ≡ b
    one a b same = ap (λ (m : Option ℕ). some_or m a) same
      where
        some_or : Option ℕ → ℕ → ℕ
        some_or (Some x) d = x
        some_or None d = d

    first : (from n k : ℕ) → from ≡ k → k < from + suc n
    first from n k same = omega (arith, same)

    later : (from n k : ℕ) → k < from + 1 + n → k < from + suc n
    later from n k less = omega (arith, less)

    by : (b : Bool) → test from ≡ b → (find test (range_with_len (from + 1) n) ≡ Some k → k < from + 1 + n) → k < from + suc n
    by true passes rest = first from n k (one from k (sym (ap (λ b. cond b (Some from) (find test (range_with_len (from + 1) n))) passes) ∙ is))
    by false fails rest = later from n k (rest (sym (ap (λ b. cond b (Some from) (find test (range_with_len (from + 1) n))) fails) ∙ is))

least_below : (asked : Asked) (found : Option ℕ) → least_response asked ≡ found → less_than found asked.deadline ≤ asked.deadline
unfolding least_response
least_below asked None is = omega arith
least_below asked (Some response) is = below response asked.deadline (found_below (λ response. suffices asked response) 1 asked.deadline response is)
  where
    below : (r d : ℕ) → r < 1 + d → r - 1 ≤ d
    below r d less = omega (arith, less)

pub within_least : (system : System) (task : ℕ) → option_map (λ (settled : Response). settled.response) (response_by_phase system task)
    ≡ least_response (asked_by_phase system task (greatest_execution (timing_at system task)))
unfolding response_by_phase
within_least system task = again (least_response (asked_by_phase system task (greatest_execution (timing_at system task))))
  where
    again : (found : Option ℕ) → option_map (λ (settled : Response). settled.response)
        (option_map (λ response. record { window = response - greatest_jitter (timing_at system task).pattern; response = response }) found) ≡ found
    again None = refl
    again (Some response) = refl

pub within_below : (system : System) (task : ℕ) → within_of system task ≤ (timing_at system task).deadline
within_below system task =
    least_below (asked_by_phase system task (greatest_execution (timing_at system task)))
    (option_map (λ (settled : Response). settled.response) (response_by_phase system task)) (sym (within_least system task))

-- ---- the worst window of a task

module _ (system : System) (task : ℕ) (question : PhasedQuestion)
    (is_question : IsPhasedQuestionOf system task (greatest_execution (timing_at system task)) question) where
  abbrev asked : Asked
  asked = asked_by_phase system task (greatest_execution (timing_at system task))

  pub worst_fixed : (phase : Phase) → phase_of (timing_at system task).pattern ≡ Some phase → (window : WorstWindow)
      → IsFirstUnanswered (asked_of question) (within_of system task) window → IsWorstWindowOf system task window
  worst_fixed phase fixed window first = record {
    worst = subst (λ f. IsWorstBy f asked (IsCandidate system task asked.cycle) (within_of system task) window) (sym fixed)
        (subst (λ a. IsFirstUnanswered a (within_of system task) window) (same_asked system task (greatest_execution (timing_at system task)) question is_question) first);
  }

  pub worst_other : phase_of (timing_at system task).pattern ≡ None → (start : ℤ)
      → question.in_phase ≡ in_phase_with system (in_phase_above system task) task
      → ((moment : ℤ) → IsCandidateOf question moment → (pos 0 -ℤ pos 1) <ℤ moment)
      → IsLeastAfter question (within_of system task) (pos 0 -ℤ pos 1) start → IsWorstWindowOf system task (record { arrival = start; start = start })
  worst_other fixed start list follows least = record {
    worst = subst (λ f. IsWorstBy f asked (IsCandidate system task asked.cycle) (within_of system task) (record { arrival = start; start = start })) (sym fixed)
        (subst (λ a. IsLeastUnanswered a (IsCandidate system task a.cycle) (within_of system task) (record { arrival = start; start = start }))
        (same_asked system task (greatest_execution (timing_at system task)) question is_question)
        (least_is system task (within_of system task) question start list follows least));
  }
