-- `observe`: what the run of a trace shows.
use Rattle.std.proofs.Common.{◌≡◌, ℕ, ◌+◌, ◌≤◌, inl, inr, List, refl, sym, ap, ◌∙◌, subst, arith}
use Rattle.cl_model.specs.{AreNamed.AreNamed, declared.model.SystemModel.SystemModel, Validity.IsValid}
use Rattle.cl_trace.proofs.{OneReading.bad_once, OneTrace.{one_run, no_bad_line}, SomeAnswer.{HasAnswer, some_answer}}
use Rattle.cl_observe.specs.Observed.{IsObservationOf}
use Rattle.cl_observe.proofs.{OneObservation.one_observation, SomeObservation.some_observation, LegalValues.legal_within}
use Rattle.cl_engine.specs.declared.files.Files.TheVariants as files
use Rattle.cl_engine.specs.{declared.{outcome.Outcome.Outcome, status.TheConstants.DONE}, Content.of_both, Done.IsDone, Language.IsOfContent}
use Rattle.cl_engine.proofs.Outcomes.{SomeOutcome}
use Rattle.cl_top.specs.{declared.command.TheConstants.TRACE_LIMIT, Commands.Observe.{IsOfObserve, IsSafeObservation, observing}, OfTrace.trace_refused, Meaning.{task_steps, promises_of_both, equal}}
use Rattle.cl_top.proofs.{Meanings.{IsMeantWell, done_some, done_once, both_well}, OfTrace.six_content}

module _ (model : SystemModel) where
  observed_some : IsValid model → AreNamed model → (text : List ℕ) → SomeOutcome (IsOfObserve model text)
  observed_some valid named text = by_answer (some_answer model valid named text)
    where
      by_answer : HasAnswer model text → SomeOutcome (IsOfObserve model text)
      by_answer (inl found) =
          let shown = some_observation model valid found.0 found.1.in_form in
          let done = done_some (IsObservationOf model found.0) shown.0 shown.1 in
          (done.0, inl (record { run = found.0; trace = found.1; outcome = done.1 }))
      by_answer (inr bad) = (trace_refused bad.0, inr (record { number = bad.0; bad = bad.1; printed = refl }))

  observed_once : IsValid model → AreNamed model → (text : List ℕ) (one other : Outcome) → IsOfObserve model text one → IsOfObserve model text other → one ≡ other
  observed_once valid named text one other (inl first) (inl second) = done_once (IsObservationOf model second.run) (λ text again is likewise. one_observation model second.run text again is likewise) one other
      (subst (λ run. IsDone (IsObservationOf model run) one) (one_run model valid named text first.run second.run first.trace second.trace) first.outcome) second.outcome
  observed_once valid named text one other (inl first) (inr second) = absurd (no_bad_line model valid named text first.run second.number first.trace second.bad)
  observed_once valid named text one other (inr first) (inl second) = absurd (no_bad_line model valid named text second.run first.number second.trace first.bad)
  observed_once valid named text one other (inr first) (inr second) =
      first.printed ∙ ap trace_refused (bad_once model valid named text first.number second.number first.bad second.bad) ∙ sym second.printed

  observed_content : (text : List ℕ) (found : Outcome) → IsOfObserve model text found → IsOfContent found.status
  observed_content text found (inl has) = inl has.outcome.status_is
  observed_content text found (inr bad) = six_content found (ap (λ (o : Outcome). o.status) bad.printed)

  observed_safe : IsValid model → (text : List ℕ) (found : Outcome) → IsOfObserve model text found → found.status ≡ DONE → IsSafeObservation model text found.text
  observed_safe valid text found (inl has) done =
      record { run = has.run; is_trace = has.trace; observed = has.outcome.text_is; within = legal_within model valid has.run }
  observed_safe valid text found (inr bad) done = absurd (omega (arith, done, ap (λ (o : Outcome). o.status) bad.printed))

pub observing_well : IsMeantWell (files.ModelAnd TRACE_LIMIT) observing (Unit {0})
observing_well = both_well (of_both (λ model trace before after. after ≤ before + task_steps model) (λ before after. ⊥)) (promises_of_both IsSafeObservation) equal (Unit {0})
    (λ one other is. is) TRACE_LIMIT IsOfObserve observed_some observed_once observed_content (λ model text steps. omega arith) observed_safe
