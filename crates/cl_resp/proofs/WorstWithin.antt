-- Within less than the response not all arrivals are answered, nor within the deadline where there is none. So a task has
-- a worst window.
use Rattle.std.proofs.Common.{◌≡◌, ℕ, ◌-◌, ◌<◌, ◌≤◌, true, pos, ◌-ℤ◌, length, refl, sym, ap, ◌∙◌, subst, arith}
use Rattle.std.specs.Prelude.{Option, Some, None, is_some, unwrap_or}
use Rattle.std.specs.Option.{option_map}
use Rattle.std.proofs.lemmas.Bool.{true≢false}
use Rattle.cl_model.specs.{declared.{model.SystemModel.SystemModel, stimulus.StimulusKind.{StimulusKind, TheVariants.{Periodic, Sporadic, Burst}}}, Timing.greatest_jitter, Validity.IsValid}
use Rattle.cl_runs.specs.{SystemOf.system_of, TaskTiming.{System, timing_at, IsSound}, ExecutionTimes.greatest_execution}
use Rattle.cl_runs.proofs.ModelSystem.{count_is, system_sound}
use Rattle.cl_stim.specs.{declared.phase.Phase.Phase, Phase.phase_of}
use Rattle.cl_cycle.specs.Counts.{each_moment}
use Rattle.cl_resp.specs.{declared.phased.PhasedQuestion.PhasedQuestion, Asked.{Asked, suffices, least_response, AskedComesRound}, ByPhase.{asked_by_phase, response_by_phase}, Response.Response, Worst.{less_than, within_of}, Inner.Phased.{asked_of, IsPhasedQuestionOf, IsPhasedInRange}}
use Rattle.cl_resp.specs.Inner.Worst.{AreCandidatesAnswered}
use Rattle.cl_resp.proofs.{LeastAnswers.{answers_from_test, found_is_least, none_answers}, LeastRound.asked_comes_round, SearchedArrivals.some_response, WorstMoments.candidates_suffice, WorstTasks.{same_asked, within_least}}

module _ (asked : Asked) (comes : AskedComesRound asked) where
  -- what suffices takes a tick or more
  some : (response : ℕ) → suffices asked response ≡ true → 1 ≤ response
  some response enough = some_response asked comes.phase comes.arrivals comes.some response enough

  pub never_enough : (found : Option ℕ) → least_response asked ≡ found → suffices asked (less_than found asked.deadline) ≡ true → ⊥
  never_enough (Some response) is enough =
      let more : 1 ≤ response - 1 = some (response - 1) enough in
      omega (arith, more, (found_is_least asked comes response is).least (response - 1) more (answers_from_test asked comes (response - 1) enough))
  never_enough None is enough =
      none_answers asked comes is asked.deadline (some asked.deadline enough) (omega arith) (answers_from_test asked comes asked.deadline enough)

pub within_never_enough : (system : System) → IsSound system → (task : ℕ) → task < length system.tasks
    → suffices (asked_by_phase system task (greatest_execution (timing_at system task))) (within_of system task) ≡ true → ⊥
within_never_enough system sound task is enough =
    let own = greatest_execution (timing_at system task) in
    never_enough (asked_by_phase system task own) (asked_comes_round system sound task own is)
    (option_map (λ (settled : Response). settled.response) (response_by_phase system task)) (sym (within_least system task)) enough

-- ---- of a task of a valid model

module _ (model : SystemModel) (valid : IsValid model) (task : ℕ) (known : task < length model.tasks) (question : PhasedQuestion)
    (is : IsPhasedQuestionOf (system_of model) task (greatest_execution (timing_at (system_of model) task)) question) where
  abbrev system : System
  system = system_of model

  abbrev own : ℕ
  own = greatest_execution (timing_at (system_of model) task)

  same : asked_of question ≡ asked_by_phase system task own
  same = same_asked system task own question is

  in_system : task < length system.tasks
  in_system = subst (λ n. task < n) (sym (count_is model)) known

  -- what its question asks comes round
  comes : AskedComesRound (asked_of question)
  comes = subst AskedComesRound (sym same) (asked_comes_round system (system_sound model valid) task own in_system)

  -- not all arrivals are answered
  pub arrivals_lack : suffices (asked_of question) (within_of system task) ≡ true → ⊥
  arrivals_lack enough = within_never_enough system (system_sound model valid) task in_system
      (subst (λ a. suffices a (within_of system task) ≡ true) same enough)

  -- nor all candidates, where its arrivals aren't fixed
  pub candidates_lack : phase_of (timing_at system task).pattern ≡ None → IsPhasedInRange question
      → AreCandidatesAnswered question (within_of system task) (pos 0 -ℤ pos 1) → ⊥
  candidates_lack free range answered = arrivals_lack
      (candidates_suffice question comes (within_of system task) range answered
      (ap (λ (phase : Phase). phase.period) is.arrivals ∙ ap (λ found. (unwrap_or found each_moment).period) free)
      (is.jitter ∙ no_jitter (timing_at system task).pattern free))
    where
      never : (phase : Phase) → Some phase ≡ None → ⊥
      never phase is = true≢false (ap is_some is)

      no_jitter : (kind : StimulusKind) → phase_of kind ≡ None → greatest_jitter kind ≡ 0
      no_jitter (Periodic period offset jitter) free = absurd (never _ free)
      no_jitter (Sporadic least greatest) free = refl
      no_jitter (Burst period offset count distance) free = refl
