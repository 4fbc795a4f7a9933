-- Each run in form shows something.
use Rattle.std.proofs.Common.{◌⊎◌, ℕ, zero, suc, ◌<◌, inl, inr, List, [], ◌++◌, length, refl, arith}
use Rattle.std.specs.Prelude.{codes}
use Rattle.cl_text.specs.Line.{line}
use Rattle.cl_model.specs.{declared.model.SystemModel.SystemModel, ByNumber.task_at, Groups.groups_at, Validity.IsValid}
use Rattle.cl_model.proofs.GroupFacts.{groups_at_some}
use Rattle.cl_runs.specs.{Run.{Run, jobs_of, IsInForm}, SystemOf.system_of, Legal.IsLegal}
use Rattle.cl_runs.proofs.ModelSystem.{system_sound}
use Rattle.cl_bound.specs.{declared.answer.TaskAnswer.TaskAnswer, Answers.answer_at}
use Rattle.cl_analyse.specs.{declared.findings.ChainAnswer.ChainAnswer, ChainAnswers.chain_answer_at}
use Rattle.cl_check.specs.InOrder.{IsRunInOrder}
use Rattle.cl_chain.proofs.{DecidedMoments.Decided, SomeMeasured.run_measured, SomeDelay.some_delay}
use Rattle.cl_tight.specs.TightFindings.{tight_findings_of}
use Rattle.cl_observe.specs.{Rules.{illegal_line, IsLegalityLine}, Observed.{observed_runnable_line, shown_line, observed_jitter_line, length_of, kind_length_lines, IsMadeOf, IsTimeLine, IsTaskText, IsChainText, IsShownInOrder, IsUnordered, IsObservationOf}}
use Rattle.cl_observe.proofs.{LegalOrBroken.{IsBroken, legal_or_broken}, DecidedOrder.order_or_not, DecidedJobs.{some_shown_task, some_shown_time}}

-- where there is a piece for each number there is a text
some_made : (Is : ℕ → List ℕ → Type 0) (n : ℕ) → ((k : ℕ) → k < n → (text : List ℕ) × Is k text) → (text : List ℕ) × IsMadeOf Is n text
some_made Is zero each = ([], refl)
some_made Is (suc n) each = more (some_made Is n (λ k lt. each k (omega (arith, lt)))) (each n (omega arith))
  where
    more : (text : List ℕ) × IsMadeOf Is n text → (text : List ℕ) × Is n text → (text : List ℕ) × IsMadeOf Is (suc n) text
    more before next = (before.0 ++ next.0, (before.0, before.1, record { piece = next.0; is = next.1; joined = refl }))

module _ (model : SystemModel) (run : Run) where
  -- ---- tasks

  some_time : (task place : ℕ) → (text : List ℕ) × IsTimeLine model run task place text
  some_time task place =
      let found = some_shown_time (system_of model) run task place in
      (observed_runnable_line model task place found.0, record { time = found.0; shown = found.1; printed = refl })

  some_task : (answer : TaskAnswer) (task : ℕ) → (text : List ℕ) × IsTaskText model run answer task text
  some_task answer task =
      let found = some_shown_task (system_of model) run task in
      let times = some_made (IsTimeLine model run task) (length (task_at model task).runnables) (λ place within. some_time task place) in (
        (shown_line model answer task (length (jobs_of run task)) found.0 ++ observed_jitter_line model task found.0.jitter) ++ times.0,
        record { shown = found.0; is_shown = found.1; times = times.0; are_times = times.1; printed = refl },
      )

  module _ (valid : IsValid model) where
    -- ---- chains

    some_chain : (answer : ChainAnswer) (chain : ℕ) → chain < length model.chains → (text : List ℕ) × IsChainText model run answer chain text
    some_chain answer chain is =
        let some = groups_at_some model valid chain is in
        let found = run_measured (system_of model) run (groups_at model chain) some in
        let delay = some_delay (system_of model) run (groups_at model chain) some in (
          kind_length_lines model answer chain found.0 (length_of delay.0),
          record { measured = found.0; is_measured = found.1; delay = delay.0; is_delay = delay.1; printed = refl },
        )

    -- ---- the run

    some_in_order : IsRunInOrder (system_of model) run → (text : List ℕ) × IsShownInOrder model run text
    some_in_order ordered =
        let tasks = some_made (λ task. IsTaskText model run (answer_at (tight_findings_of model).tasks task) task) (length model.tasks)
        (λ task within. some_task (answer_at (tight_findings_of model).tasks task) task) in
        let chains = some_made (λ chain. IsChainText model run (chain_answer_at (tight_findings_of model).chains chain) chain) (length model.chains)
        (λ chain within. some_chain (chain_answer_at (tight_findings_of model).chains chain) chain within) in (
          tasks.0 ++ chains.0,
          record {
            in_order = ordered;
            tasks = tasks.0;
            are_tasks = tasks.1;
            chains = chains.0;
            are_chains = chains.1;
            printed = refl;
          },
        )

    some_shown : Decided (IsRunInOrder (system_of model) run) → (text : List ℕ) × (IsShownInOrder model run text ⊎ IsUnordered model run text)
    some_shown (inl ordered) = let shown = some_in_order ordered in (shown.0, inl shown.1)
    some_shown (inr not) = (line (codes "unordered"), inr (record { out_of_order = not; printed = refl }))

  some_legality : IsLegal (system_of model) run ⊎ IsBroken (system_of model) run → (text : List ℕ) × IsLegalityLine model run text
  some_legality (inl legal) = (line (codes "legal"), inl (record { legal = legal; printed = refl }))
  some_legality (inr broken) = (
    illegal_line model broken.0 broken.1 broken.2,
    inr (record { rule = broken.0; place = broken.1; tick = broken.2; broken = broken.3; printed = refl }),
  )

pub some_observation : (model : SystemModel) → IsValid model → (run : Run) → IsInForm (system_of model) run → (text : List ℕ) × IsObservationOf model run text
some_observation model valid run in_form =
    let legality = some_legality model run (legal_or_broken (system_of model) (system_sound model valid) run in_form) in
    let shown = some_shown model run valid (order_or_not (system_of model) run) in (
      (line (codes "chainlat observed 1") ++ legality.0) ++ shown.0,
      record {
        legality = legality.0;
        is_legality = legality.1;
        shown = shown.0;
        is_shown = shown.1;
        printed = refl;
      },
    )
