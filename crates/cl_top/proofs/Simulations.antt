-- A valid model has one outcome of a simulation.
use Rattle.std.proofs.Common.{◌≡◌, ℕ, ◌≤◌, inl, inr, refl, sym, ap, ◌∙◌, arith}
use Rattle.std.proofs.lemmas.Bool.{cases_lt}
use Rattle.cl_model.specs.{declared.model.SystemModel.SystemModel, Validity.IsValid}
use Rattle.cl_runs.specs.{Run.Run, SystemOf.system_of, Legal.IsLegal}
use Rattle.cl_runs.proofs.{Filling.legal_of_table, ModelSystem.system_sound, OneRun.one_run}
use Rattle.cl_gen.specs.{declared.limits.TheConstants.MOST_EXECUTIONS, Count.execution_count, Drawn.drawn}
use Rattle.cl_gen.proofs.LawfulTables.{table_lawful}
use Rattle.cl_engine.specs.declared.outcome.Outcome.{Outcome}
use Rattle.cl_top.specs.Commands.Simulate.{simulation_refused, traced, IsSimulated}

-- a model that is read and not refused is valid

module _ (ticks seed : ℕ) (model : SystemModel) (valid : IsValid model) where
  pub simulated_some : (found : Outcome) × IsSimulated ticks seed model found
  simulated_some = elim (cases_lt MOST_EXECUTIONS (execution_count model ticks)) [
    | inl many ↦ (simulation_refused (execution_count model ticks), record { refused = λ also. refl; simulated = λ few. absurd (omega arith) })
    | inr few ↦ of_run few (legal_of_table (system_of model) (system_sound model valid) (drawn model ticks seed) (table_lawful model valid ticks seed))
  ]
    where
      of_run : execution_count model ticks ≤ MOST_EXECUTIONS → (run : Run) × (run.table ≡ drawn model ticks seed) × IsLegal (system_of model) run → (found : Outcome) × IsSimulated ticks seed model found
      of_run few (run, table, legal) = (
        traced model run,
        record {
          refused = λ many. absurd (omega arith);
          simulated = λ also. record { run = run; table = table; legal = legal; printed = refl };
        },
      )

  pub simulated_once : (one other : Outcome) → IsSimulated ticks seed model one → IsSimulated ticks seed model other → one ≡ other
  simulated_once one other is also = elim (cases_lt MOST_EXECUTIONS (execution_count model ticks)) [
    | inl many ↦ is.refused many ∙ sym (also.refused many)
    | inr few ↦
        let first = is.simulated few in
        let second = also.simulated few in
        first.printed
        ∙ ap (traced model) (one_run (system_of model) (system_sound model valid) first.run second.run first.legal second.legal (first.table ∙ sym second.table))
        ∙ sym second.printed
  ]
