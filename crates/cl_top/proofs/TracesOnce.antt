-- The text of a trace has one outcome, where each legal run has.
use Rattle.std.proofs.Common.{◌≡◌, ℕ, inl, inr, List, ◌⊎◌, refl, sym, ap, ◌∙◌, subst}
use Rattle.cl_model.specs.{AreNamed.AreNamed, declared.model.SystemModel.SystemModel, Validity.IsValid}
use Rattle.cl_runs.specs.{Legal.IsLegal, Run.Run, SystemOf.system_of}
use Rattle.cl_runs.proofs.ModelSystem.{system_sound}
use Rattle.cl_trace.specs.Rules.{IsTraceOf}
use Rattle.cl_trace.proofs.{OneReading.bad_once, OneTrace.{one_run, no_bad_line}, SomeAnswer.{HasAnswer, some_answer}}
use Rattle.cl_engine.specs.declared.outcome.Outcome.{Outcome}
use Rattle.cl_top.specs.OfTrace.{trace_refused, trace_illegal, IsOfRun, IsOfTrace}
use Rattle.cl_top.proofs.AnswersOfRuns.{of_run_once}
use Rattle.cl_observe.proofs.LegalOrBroken.{IsBroken, legal_or_broken}

module _ (model : SystemModel) (valid : IsValid model) (next : Run → Outcome → Type 0) where
  -- ---- there is one

  module _ (some : (run : Run) → IsLegal (system_of model) run → (found : Outcome) × next run found) where
    -- a run is legal, or breaks a rule
    run_some : (text : List ℕ) (run : Run) → IsTraceOf model text run → (found : Outcome) × IsOfTrace model next text found
    run_some text run trace = by_rule (legal_or_broken (system_of model) (system_sound model valid) run trace.in_form)
      where
        by_rule : IsLegal (system_of model) run ⊎ IsBroken (system_of model) run → (found : Outcome) × IsOfTrace model next text found
        by_rule (inl legal) =
            let found = some run legal in
            (found.0, inl (record { run = run; trace = trace; of_run = inl (record { legal = legal; outcome = found.1 }) }))
        by_rule (inr broken) = (
          trace_illegal model broken.0 broken.1 broken.2,
          inl (record { run = run; trace = trace; of_run = inr (record { rule = broken.0; place = broken.1; tick = broken.2; broken = broken.3; printed = refl }) }),
        )

    -- a text is the trace of a run, or has a first bad line
    pub trace_some : AreNamed model → (text : List ℕ) → (found : Outcome) × IsOfTrace model next text found
    trace_some named text = by_answer (some_answer model valid named text)
      where
        by_answer : HasAnswer model text → (found : Outcome) × IsOfTrace model next text found
        by_answer (inl found) = run_some text found.0 found.1
        by_answer (inr bad) = (trace_refused bad.0, inr (record { number = bad.0; bad = bad.1; printed = refl }))

  -- ---- there is but one

  pub one_traced : ((run : Run) → IsLegal (system_of model) run → (one other : Outcome) → next run one → next run other → one ≡ other)
      → AreNamed model → (text : List ℕ) (one other : Outcome) → IsOfTrace model next text one → IsOfTrace model next text other → one ≡ other
  one_traced once named text one other (inl first) (inl second) = of_run_once model second.run next (once second.run) one other
      (subst (λ run. IsOfRun model next run one) (one_run model valid named text first.run second.run first.trace second.trace) first.of_run) second.of_run
  one_traced once named text one other (inl first) (inr second) = absurd (no_bad_line model valid named text first.run second.number first.trace second.bad)
  one_traced once named text one other (inr first) (inl second) = absurd (no_bad_line model valid named text second.run first.number second.trace first.bad)
  one_traced once named text one other (inr first) (inr second) =
      first.printed ∙ ap trace_refused (bad_once model valid named text first.number second.number first.bad second.bad) ∙ sym second.printed
