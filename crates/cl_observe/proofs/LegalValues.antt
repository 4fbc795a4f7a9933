-- What a legal run shows lies within what is found of its model.
use Rattle.std.proofs.Common.{◌≡◌, ℕ, ◌+◌, ◌<◌, ◌≤◌, ℤ, inl, inr, Option, Some, None, List, length, refl, ap, subst, ◌∙◌, arith}
use Rattle.std.specs.Prelude.{pos, ◌-ℤ◌, ◌≤ℤ◌, slice_index, slice_index_or}
use Rattle.std.proofs.lemmas.Bool.{cases_lt}
use Rattle.std.proofs.lemmas.Int.{ints}
use Rattle.std.proofs.lemmas.List.{get_or-map}
use Rattle.cl_model.specs.{declared.{model.SystemModel.SystemModel, chain.{RequirementKind.{RequirementKind, TheVariants.{Length, Delay}}, LengthKind.TheVariants.{Reaction, Age, Reduced}}}, Timing.greatest_jitter, ByNumber.{task_at, runnable_at, no_runnable, jitter_of}, Groups.groups_at}
use Rattle.cl_model.specs.Validity.{IsValid}
use Rattle.cl_runs.specs.{TaskTiming.{TimeRange, Timing, timing_at, no_range, range_at}, SystemOf.{system_of, range_of}, Table.{job_at, no_job, LiesIn}, Run.{Run, jobs_of}, Legal.IsLegal, Chains.{JobChain, chain_length, first_job, last_job, IsForwardChain, IsAgeChain, IsReducedChain}}
use Rattle.cl_runs.specs.{RunChains.run_moments, Delays.IsDelayChain, Measured.IsMeasuredBy}
use Rattle.cl_runs.proofs.{ModelSystem.{timing_is, count_is, ranges_are, range_count_is, system_sound}, RunArrivals.{released_late, released_within}, StartsFinishes.finishes_once, ZippedLists.zip_at}
use Rattle.cl_chain.specs.GreatestDelays.{IsGreatestDelayBy}
use Rattle.cl_hop.specs.{Promises.AreAtLeast, Bounds.Lengths}
use Rattle.cl_resp.specs.Response.{Response}
use Rattle.cl_bound.specs.{declared.answer.TaskAnswer.TaskAnswer, Answers.answer_at}
use Rattle.cl_bound.specs.declared.answer.TaskAnswer.TheVariants as task_answer
use Rattle.cl_analyse.specs.{declared.findings.ChainAnswer.ChainAnswer, ChainAnswers.chain_answer_at, Verdicts.limited_bound}
use Rattle.cl_analyse.specs.declared.findings.ChainAnswer.TheVariants as chain_answer
use Rattle.cl_tight.specs.TightFindings.{tight_findings_of}
use Rattle.cl_tight.proofs.TightLaws.{tight_findings_safe}
use Rattle.cl_observe.specs.{declared.values.{GreatestResponse.GreatestResponse, Spread.Spread}, Values.{IsGreatestResponseOf, IsSpreadOf}, Shown.{HasResponseIn, HasJitterIn, HasTimeIn}, Observed.{response_number, response_bound}, Within.{IsNotAbove, AreInside, IsTaskWithin}}
use Rattle.cl_observe.specs.Within.{IsLengthWithin, IsChainWithin, IsWithinFindings}

some_same : {X : Type 0} (a b : X) → Some a ≡ Some b → a ≡ b
some_same a b is = cc

-- where each number lies in a range, so do the least and the greatest
spread_inside : (Has : ℕ → ℤ → Type 0) (least greatest : ℕ)
    → ((job : ℕ) (number : ℤ) → Has job number → (pos least ≤ℤ number) × (number ≤ℤ pos greatest))
    → (found : Option Spread) → IsSpreadOf Has found → AreInside found least greatest
spread_inside Has least greatest inside None none spread is = absurd (cc is)
spread_inside Has least greatest inside (Some found) has spread is =
    let same : found ≡ spread = some_same found spread is in
    subst (λ (s : Spread). (pos least ≤ℤ s.least) × (s.greatest ≤ℤ pos greatest)) same
    ((inside has.at_least.0 found.least has.at_least.1).0, (inside has.at_greatest.0 found.greatest has.at_greatest.1).1)

module _ (model : SystemModel) (valid : IsValid model) (run : Run) (legal : IsLegal (system_of model) run) where
  -- ---- tasks

  module _ (task : ℕ) (is : task < length model.tasks) where
    known : task < length (system_of model).tasks
    known = omega (arith, is, count_is model)

    response_within : (settled : Response) → answer_at (tight_findings_of model).tasks task ≡ task_answer.Settled settled
        → (job : ℕ) (response : ℤ) → HasResponseIn (system_of model) run task job response → response ≤ℤ pos settled.response
    response_within settled at job response has =
        let arrival = (job_at (jobs_of run task) job).arrival in
        let soon : has.finish ≤ arrival + settled.response = elim (cases_lt run.table.ticks (arrival + settled.response)) [
          | inl ends ↦ omega (arith, ends, has.finishes.by_end)
          | inr lasts ↦
              let (finish, finishes, within) = ((tight_findings_safe model valid).responses task settled is at run legal).each job has.finishes.in_table lasts in
              omega (arith, within, finishes_once (system_of model) run task job _ has.finish finish has.finishes finishes)
        ] in
        omega (arith, ints, soon, has.response_is)

    not_above : (found : Option GreatestResponse) (answer : TaskAnswer) → answer_at (tight_findings_of model).tasks task ≡ answer
        → IsGreatestResponseOf (HasResponseIn (system_of model) run task) found → IsNotAbove (response_number found) (response_bound answer)
    not_above None answer at none number most shown bound = absurd (cc shown)
    not_above (Some found) task_answer.Late at has number most shown bound = absurd (cc bound)
    not_above (Some found) (task_answer.Settled settled) at has number most shown bound =
        omega (
          arith,
          ints,
          some_same found.response number shown,
          some_same settled.response most bound,
          response_within settled at found.job found.response has.has,
        )

    jitter_within : (job : ℕ) (jitter : ℤ) → HasJitterIn run task job jitter → (pos 0 ≤ℤ jitter) × (jitter ≤ℤ pos (jitter_of model task))
    jitter_within job jitter has =
        let sound = system_sound model valid in
        let late = released_late (system_of model) sound run legal task known job has.in_table in
        let within = released_within (system_of model) sound run legal task known job has.in_table in
        let most : greatest_jitter (timing_at (system_of model) task).pattern ≡ jitter_of model task
        = ap (λ (t : Timing). greatest_jitter t.pattern) (timing_is model task is) in
        (omega (arith, ints, late, has.jitter_is), omega (arith, ints, within, has.jitter_is, most))

    time_within : (place : ℕ) → place < length (task_at model task).runnables → (job : ℕ) (time : ℤ) → HasTimeIn (system_of model) run task place job time
        → (pos (runnable_at model (record { task = task; place = place })).least ≤ℤ time)
        × (time ≤ℤ pos (runnable_at model (record { task = task; place = place })).greatest)
    time_within place within job time has =
        let lies = zip_at LiesIn (timing_at (system_of model) task).ranges (job_at (jobs_of run task) job).times
        ((legal.lawful.jobs task known).times job no_job has.finishes.in_table) no_range 0 place
        (omega (arith, within, range_count_is model task is)) in
        let range : range_at (timing_at (system_of model) task) place ≡ range_of (runnable_at model (record { task = task; place = place }))
        = ap (λ (ranges : List TimeRange). slice_index_or ranges place no_range) (ranges_are model task is)
        ∙ get_or-map range_of (task_at model task).runnables place no_runnable no_range within in
        let there = subst (λ (r : TimeRange). LiesIn r (slice_index (job_at (jobs_of run task) job).times place)) range lies in
        (omega (arith, ints, there.0, has.time_is), omega (arith, ints, there.1, has.time_is))

    task_within : IsTaskWithin model run (answer_at (tight_findings_of model).tasks task) task
    task_within = record {
      response = λ shown are. not_above shown.response (answer_at (tight_findings_of model).tasks task) refl are.response;
      jitter = λ shown are. spread_inside (HasJitterIn run task) 0 (jitter_of model task) jitter_within shown.jitter are.jitter;
      times = λ place within time are. spread_inside (HasTimeIn (system_of model) run task place) _ _ (time_within place within) time are;
    }

  -- ---- chains

  length_within : (kind : RequirementKind) (answer : ChainAnswer) (IsChain : JobChain → Type 0)
      → ((bounds : Lengths) → answer ≡ chain_answer.Bounds bounds → (chain : JobChain) → IsChain chain → chain_length chain ≤ limited_bound kind bounds)
      → (longest : Option JobChain) → ((chain : JobChain) → longest ≡ Some chain → IsChain chain) → IsLengthWithin answer kind longest
  length_within kind answer IsChain most None are number bound shown limit = absurd (cc shown)
  length_within kind (chain_answer.Late task) IsChain most (Some chain) are number bound shown limit = absurd (cc limit)
  length_within kind (chain_answer.Bounds bounds) IsChain most (Some chain) are number bound shown limit =
      let within = most bounds refl chain (are chain refl) in
      omega (arith, ints, within, some_same (pos chain.to -ℤ pos chain.from) number shown, some_same (limited_bound kind bounds) bound limit)

  is_of_kind : (IsChain : JobChain → Type 0) (job_of : JobChain → ℕ) (longest : Option JobChain) → IsMeasuredBy IsChain job_of longest
      → (chain : JobChain) → longest ≡ Some chain → IsChain chain
  is_of_kind IsChain job_of None none chain some = absurd (cc some)
  is_of_kind IsChain job_of (Some own) is chain some = subst IsChain (some_same own chain some) is.is_chain

  is_delay : (IsChain : JobChain → Type 0) (longest : Option JobChain) → IsGreatestDelayBy IsChain longest
      → (chain : JobChain) → longest ≡ Some chain → IsChain chain
  is_delay IsChain None none chain some = absurd (cc some)
  is_delay IsChain (Some own) is chain some = subst IsChain (some_same own chain some) is.is_chain

  module _ (chain : ℕ) (is : chain < length model.chains) where
    at_least : (bounds : Lengths) → chain_answer_at (tight_findings_of model).chains chain ≡ chain_answer.Bounds bounds
        → AreAtLeast (system_of model) (groups_at model chain) bounds run
    at_least bounds at = (tight_findings_safe model valid).bounds chain bounds is at run legal

    chain_within : IsChainWithin model run (chain_answer_at (tight_findings_of model).chains chain) chain
    chain_within =
        let answer = chain_answer_at (tight_findings_of model).chains chain in
        record {
          reaction = λ measured are. length_within (Length Reaction) answer (IsForwardChain (run_moments (system_of model) run) (groups_at model chain)) (λ bounds at. (at_least bounds at).reaction) measured.reaction
              (is_of_kind _ first_job measured.reaction are.is_reaction);
          age = λ measured are. length_within (Length Age) answer (IsAgeChain (run_moments (system_of model) run) (groups_at model chain)) (λ bounds at. (at_least bounds at).age) measured.age
              (is_of_kind _ last_job measured.age are.is_age);
          reduced = λ measured are. length_within (Length Reduced) answer (IsReducedChain (run_moments (system_of model) run) (groups_at model chain)) (λ bounds at. (at_least bounds at).reduced) measured.reduced
              (is_of_kind _ last_job measured.reduced are.is_reduced);
          delay = λ delay are. length_within Delay answer (IsDelayChain (system_of model) run (groups_at model chain)) (λ bounds at. (at_least bounds at).delay) delay
              (is_delay _ delay are);
        }

pub legal_within : (model : SystemModel) → IsValid model → (run : Run) → IsLegal (system_of model) run → IsWithinFindings model run
legal_within model valid run legal = record { tasks = task_within model valid run legal; chains = chain_within model valid run legal }
