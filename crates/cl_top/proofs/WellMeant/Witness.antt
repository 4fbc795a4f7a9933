-- `witness`: the trace of a run that comes near to what is asked of.
use Rattle.std.proofs.Common.{◌≡◌, ℕ, inl, inr, List, Option, Some, None, refl, ap, arith}
use Rattle.cl_model.specs.{declared.model.SystemModel.SystemModel, Named.index_of, Validity.IsValid}
use Rattle.cl_runs.specs.{Run.Run, SystemOf.system_of, Legal.IsLegal}
use Rattle.cl_runs.proofs.{Filling.legal_of_table, ModelSystem.system_sound}
use Rattle.cl_gen.specs.Drawn.{drawn}
use Rattle.cl_gen.proofs.LawfulTables.{table_lawful}
use Rattle.cl_engine.specs.declared.files.Files.TheVariants as files
use Rattle.cl_engine.specs.{declared.{outcome.Outcome.Outcome, status.TheConstants.DONE}, Language.IsOfContent}
use Rattle.cl_engine.proofs.Outcomes.{SomeOutcome}
use Rattle.cl_top.specs.{declared.subject.What.What, Subject.names_asked, Commands.{Simulate.traced, Witness.{name_unknown, IsLegalTrace, IsRunOutcome, IsNumbered, IsWitnessed, witnessing}}, Meaning.{at_most, task_steps, promises, of_one_model}}
use Rattle.cl_top.proofs.Meanings.{IsMeantWell, model_well}

module _ (what : What) (name : List ℕ) (model : SystemModel) where
  -- there is a legal run of each valid model
  run_some : IsValid model → SomeOutcome (IsRunOutcome model)
  run_some valid = of_run (legal_of_table (system_of model) (system_sound model valid) (drawn model 0 0) (table_lawful model valid 0 0))
    where
      of_run : (run : Run) × (run.table ≡ drawn model 0 0) × IsLegal (system_of model) run → SomeOutcome (IsRunOutcome model)
      of_run (run, table, legal) = (traced model run, inl (record { run = run; legal = legal; printed = refl }))

  numbered_some : IsValid model → (number : Option ℕ) → SomeOutcome (IsNumbered what name model number)
  numbered_some valid (Some number) = run_some valid
  numbered_some valid None = (name_unknown what name, refl)

  run_content : (found : Outcome) → IsRunOutcome model found → IsOfContent found.status
  run_content found (inl traced) = inl (ap (λ (o : Outcome). o.status) traced.printed)
  run_content found (inr (inl ticks)) =
      let sixteen : found.status ≡ 16 = ap (λ (o : Outcome). o.status) ticks.printed in inr (inr (omega arith))
  run_content found (inr (inr count)) =
      let eight : found.status ≡ 8 = ap (λ (o : Outcome). o.status) count.printed in inr (inl (omega arith, omega arith))

  numbered_content : (number : Option ℕ) (found : Outcome) → IsNumbered what name model number found → IsOfContent found.status
  numbered_content (Some number) found is = run_content found is
  numbered_content None found is = let fifteen : found.status ≡ 15 = ap (λ (o : Outcome). o.status) is in inr (inr (omega arith))

  run_holds : (found : Outcome) → IsRunOutcome model found → found.status ≡ DONE → IsLegalTrace model found.text
  run_holds found (inl traced) done =
      record { run = traced.run; legal = traced.legal; printed = ap (λ (o : Outcome). o.text) traced.printed }
  run_holds found (inr (inl ticks)) done =
      let sixteen : found.status ≡ 16 = ap (λ (o : Outcome). o.status) ticks.printed in absurd (omega (arith, done))
  run_holds found (inr (inr count)) done =
      let eight : found.status ≡ 8 = ap (λ (o : Outcome). o.status) count.printed in absurd (omega (arith, done))

  numbered_holds : (number : Option ℕ) (found : Outcome) → IsNumbered what name model number found → found.status ≡ DONE → IsLegalTrace model found.text
  numbered_holds (Some number) found is done = run_holds found is done
  numbered_holds None found is done = let fifteen : found.status ≡ 15 = ap (λ (o : Outcome). o.status) is in absurd (omega (arith, done))

pub witnessing_well : (what : What) (name : List ℕ) (limited : Type 0) → IsMeantWell files.Model (witnessing what name) limited
witnessing_well what name limited = model_well (at_most task_steps) (promises IsLegalTrace) (of_one_model (IsWitnessed what name)) limited (λ one other is. inl is)
    (IsWitnessed what name)
    (λ model valid named few. numbered_some what name model valid (index_of name (names_asked what model)))
    (λ model valid one other h k. inr (model, h, k))
    (λ model found is. numbered_content what name model (index_of name (names_asked what model)) found is)
    (λ model steps. omega arith)
    (λ model valid found is done. numbered_holds what name model (index_of name (names_asked what model)) found is done)
