-- A task for which two systems take the same has the same answer by phases in both, and so have its runnables up to each.
use Rattle.std.proofs.Common.{◌≡◌, ℕ, ◌-◌, ◌<◌, ◌≤◌, Option, Some, None, length, refl, sym, ap, ◌∙◌, arith}
use Rattle.std.specs.Prelude.{unwrap_or}
use Rattle.std.specs.Option.{option_map}
use Rattle.std.proofs.lemmas.List.{get_or_past}
use Rattle.std.proofs.lemmas.Option.{same_Some}
use Rattle.cl_model.specs.Timing.{greatest_jitter}
use Rattle.cl_runs.specs.{TaskTiming.{System, Timing, timing_at, no_timing, IsSound}, ExecutionTimes.greatest_execution}
use Rattle.cl_resp.specs.{Asked.least_response, ByPhase.{asked_by_phase, response_by_phase, response_through}, Clear.greatest_through, LesserTimes.TakesNoMore, Response.Response}
use Rattle.cl_resp.proofs.AskedLess.{settled_sooner, late_stays_late, through_sooner}
use Rattle.cl_bound.specs.Answers.{answer_with, answer_at}
use Rattle.cl_tight.specs.{TightAnswers.tight_answers_of, TightTimings.part_response}
use Rattle.cl_tight.proofs.TightTasks.{phased_answer}

-- the window in an answer is what the jitter leaves of the response
window_left : (jitter : ℕ) (answer : Response) (found : Option ℕ)
    → option_map (λ response. record { window = response - jitter; response = response }) found ≡ Some answer
    → answer ≡ record { window = answer.response - jitter; response = answer.response }
window_left jitter answer None is = cc
window_left jitter answer (Some response) is =
    let same : record { window = response - jitter; response = response } ≡ answer = same_Some _ _ is in
    sym same ∙ ap (λ n. record { window = n - jitter; response = n }) (ap (λ (a : Response). a.response) same)

window_is : (system : System) (task : ℕ) (answer : Response) → response_by_phase system task ≡ Some answer
    → answer ≡ record { window = answer.response - greatest_jitter (timing_at system task).pattern; response = answer.response }
unfolding response_by_phase
window_is system task answer is = window_left (greatest_jitter (timing_at system task).pattern) answer
    (least_response (asked_by_phase system task (greatest_execution (timing_at system task)))) is

-- a task that isn't there has no response
past_none : (system : System) (task place : ℕ) → length system.tasks ≤ task → part_response system task place ≡ 0
unfolding response_through least_response no_timing
past_none system task place past =
    ap (λ (t : Timing). unwrap_or (least_response (record (asked_by_phase system task (greatest_through (timing_at system task) place)) { deadline = t.deadline })) 0)
    (get_or_past system.tasks task no_timing past)

module _ (one other : System) (sound : IsSound one) (sound_other : IsSound other) (task : ℕ) (takes : TakesNoMore one other task) (back : TakesNoMore other one task) where
  module _ (h : task < length other.tasks) where
    known : task < length one.tasks
    known = omega (arith, h, takes.alike.count)

    jitters : greatest_jitter (timing_at one task).pattern ≡ greatest_jitter (timing_at other task).pattern
    jitters = ap greatest_jitter (takes.alike.patterns task)

    pub same_response : response_by_phase one task ≡ response_by_phase other task
    same_response = go (response_by_phase other task) refl
      where
        go : (found : Option Response) → response_by_phase other task ≡ found → response_by_phase one task ≡ found
        go None is = late_stays_late other one sound_other sound task back known is
        go (Some answer) is =
            let (sooner, settled, by) = settled_sooner one other sound sound_other task takes answer.response
            (record { is_task = h; window = answer.window; answered = is }) in
            let (latest, later, within) = settled_sooner other one sound_other sound task back sooner settled in
            let alike : record { window = later.window; response = latest } ≡ answer = same_Some _ _ (sym later.answered ∙ is) in
            let same : sooner ≡ answer.response = omega (arith, by, within, ap (λ (a : Response). a.response) alike) in
            let found : Response = record { window = settled.window; response = sooner } in
            settled.answered
            ∙ ap Some (window_is one task found settled.answered
            ∙ ap (λ n. record { window = sooner - n; response = sooner }) jitters
            ∙ ap (λ n. record { window = n - greatest_jitter (timing_at other task).pattern; response = n }) same
            ∙ sym (window_is other task answer is))

    pub same_answer : answer_at (tight_answers_of one) task ≡ answer_at (tight_answers_of other) task
    same_answer = phased_answer one task known ∙ ap answer_with same_response ∙ sym (phased_answer other task h)

    module _ (place : ℕ) (through : greatest_through (timing_at one task) place ≡ greatest_through (timing_at other task) place) where
      same_through : response_through one task place ≡ response_through other task place
      same_through = go (response_through one task place) (response_through other task place) refl refl
        where
          go : (found wanted : Option ℕ) → response_through one task place ≡ found → response_through other task place ≡ wanted → found ≡ wanted
          go None None is are = refl
          go (Some response) wanted is are =
              let (sooner, found, by) = through_sooner other one sound_other sound task back known place (omega (arith, through)) response is in
              let (latest, later, within) = through_sooner one other sound sound_other task takes h place (omega (arith, through)) sooner found in
              let alike : latest ≡ response = same_Some _ _ (sym later ∙ is) in
              let same : sooner ≡ response = omega (arith, by, within, alike) in
              ap Some (sym same) ∙ sym found ∙ are
          go None (Some response) is are =
              let (sooner, found, by) = through_sooner one other sound sound_other task takes h place (omega (arith, through)) response are in
              cc

      pub same_part : part_response one task place ≡ part_response other task place
      same_part = ap (λ (found : Option ℕ). unwrap_or found 0) same_through

pub past_parts : (one other : System) (task place : ℕ) → length one.tasks ≤ task → length other.tasks ≤ task → part_response one task place ≡ part_response other task place
past_parts one other task place past too = past_none one task place past ∙ sym (past_none other task place too)
