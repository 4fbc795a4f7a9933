-- What the text of a trace comes to, by what comes of a legal run.
use Rattle.std.proofs.Common.{◌≡◌, ℕ, inl, inr, List, sym, ap, subst, arith}
use Rattle.std.specs.Prelude.{Result, IfOk}
use Rattle.std.proofs.lemmas.Result.{IfOk-weaker}
use Rattle.cl_time.specs.declared.no_memory.NoMemory.{NoMemory}
use Rattle.cl_model.specs.declared.model.SystemModel.{SystemModel}
use Rattle.cl_runs.specs.{Legal.IsLegal, Run.Run, SystemOf.system_of}
use Rattle.cl_trace.specs.Rules.{IsTraceOf}
use Rattle.cl_engine.specs.{declared.{outcome.Outcome.Outcome, status.TheConstants.DONE}, Language.IsOfContent}
use Rattle.cl_top.specs.{declared.commands.legal_run.LegalRun.LegalRun, Inner.LegalRuns.{NothingOf, IsCheckedAs, IsTracedAs}, OfTrace.{IsOfLegal, IsOfTrace}}
use Rattle.cl_top.specs.declared.commands.legal_run.LegalRun.TheVariants as legal_run

pub six_content : (found : Outcome) → found.status ≡ 6 → IsOfContent found.status
six_content found six = inr (inl (omega (arith, six), omega (arith, six)))

module _ (model : SystemModel) (next : Run → Outcome → Type 0) where
  -- it is of content, where what comes of a legal run is
  pub traced_content : ((run : Run) (found : Outcome) → next run found → IsOfContent found.status)
      → (text : List ℕ) (found : Outcome) → IsOfTrace model next text found → IsOfContent found.status
  traced_content content text found (inl has) = elim has.of_run [
    | inl legal ↦ content has.run found legal.outcome
    | inr illegal ↦ six_content found (ap (λ (o : Outcome). o.status) illegal.printed)
  ]
  traced_content content text found (inr bad) = six_content found (ap (λ (o : Outcome). o.status) bad.printed)

  -- the legal run of a text, where the command did what it says
  pub done_trace : (text : List ℕ) (found : Outcome) → found.status ≡ DONE → IsOfTrace model next text found → (run : Run) × IsTraceOf model text run × IsOfLegal model next run found
  done_trace text found done (inl traced) = elim traced.of_run [
    | inl legal ↦ (traced.run, traced.trace, legal)
    | inr illegal ↦ absurd (omega (arith, done, ap (λ (o : Outcome). o.status) illegal.printed))
  ]
  done_trace text found done (inr bad) = absurd (omega (arith, done, ap (λ (o : Outcome). o.status) bad.printed))

  by_legal : (text : List ℕ) (run : Run) → IsTraceOf model text run × IsLegal (system_of model) run → (found : Outcome) → next run found → IsOfTrace model next text found
  by_legal text run (trace, legal) found is = inl (record { run = run; trace = trace; of_run = inl (record { legal = legal; outcome = is }) })

  by_stop : (text : List ℕ) (found : Outcome) → IsOfTrace model NothingOf text found → IsOfTrace model next text found
  by_stop text found (inl has) = elim has.of_run [
    | inl legal ↦ absurd legal.outcome
    | inr illegal ↦ inl (record { run = has.run; trace = has.trace; of_run = inr illegal })
  ]
  by_stop text found (inr bad) = inr bad

  module _ (text : List ℕ) (given : LegalRun) (traced : IsTracedAs model text given) where
    -- what comes of the legal run of a text is the outcome of the text
    pub legal_follows : (run : Run) → given ≡ legal_run.Legal run → (found : Outcome) → next run found → IsOfTrace model next text found
    legal_follows run is found comes = by_legal text run (subst (IsTracedAs model text) is traced) found comes

    pub legal_answer : (run : Run) → given ≡ legal_run.Legal run → (answer : Result Outcome NoMemory) → IfOk answer (next run) → IfOk answer (IsOfTrace model next text)
    legal_answer run is answer comes = IfOk-weaker answer (next run) (IsOfTrace model next text) (legal_follows run is) comes

    -- and so is what stands in its place
    pub stop_follows : (found : Outcome) → given ≡ legal_run.Stopped found → IsOfTrace model next text found
    stop_follows found is = by_stop text found (subst (IsTracedAs model text) is traced)

-- the run that a text gives is legal
pub is_legal : (model : SystemModel) (text : List ℕ) (given : LegalRun) → IsTracedAs model text given → (run : Run) → given ≡ legal_run.Legal run → IsLegal (system_of model) run
is_legal model text given traced run is = (subst (IsTracedAs model text) is traced).1

-- what the checked run of a text gives is what the text gives
pub checked_traced : (model : SystemModel) (text : List ℕ) (run : Run) → IsTraceOf model text run → (given : LegalRun) → IsCheckedAs model run given → IsTracedAs model text given
checked_traced model text run trace (legal_run.Legal legal) (same, is) = (subst (λ (r : Run). IsTraceOf model text r) (sym same) trace, is)
checked_traced model text run trace (legal_run.Stopped found) (inl legal) = absurd legal.outcome
checked_traced model text run trace (legal_run.Stopped found) (inr illegal) = inl (record { run = run; trace = trace; of_run = inr illegal })
