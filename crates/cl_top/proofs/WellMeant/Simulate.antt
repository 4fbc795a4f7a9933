-- `simulate`: the trace of a drawn run.
use Rattle.std.proofs.Common.{◌≡◌, ℕ, inl, inr, ap, arith}
use Rattle.std.proofs.lemmas.Bool.{cases_lt}
use Rattle.cl_model.specs.declared.model.SystemModel.{SystemModel}
use Rattle.cl_gen.specs.{declared.limits.TheConstants.MOST_EXECUTIONS, Count.execution_count}
use Rattle.cl_engine.specs.declared.files.Files.TheVariants as files
use Rattle.cl_engine.specs.{declared.outcome.Outcome.Outcome, Language.IsOfContent}
use Rattle.cl_top.specs.{Commands.Simulate.{IsSimulated, simulating}, Meaning.{takes_no_step, no_promise, equal}}
use Rattle.cl_top.proofs.{Meanings.{IsMeantWell, model_well}, Simulations.{simulated_some, simulated_once}}

simulated_content : (ticks seed : ℕ) (model : SystemModel) (found : Outcome) → IsSimulated ticks seed model found → IsOfContent found.status
simulated_content ticks seed model found is = elim (cases_lt MOST_EXECUTIONS (execution_count model ticks)) [
  | inl many ↦ let eight : found.status ≡ 8 = ap (λ (o : Outcome). o.status) (is.refused many) in inr (inl (omega arith, omega arith))
  | inr few ↦ inl (ap (λ (o : Outcome). o.status) (is.simulated few).printed)
]

pub simulating_well : (ticks seed : ℕ) (limited : Type 0) → IsMeantWell files.Model (simulating ticks seed) limited
simulating_well ticks seed limited = model_well takes_no_step no_promise equal limited (λ one other is. is) (IsSimulated ticks seed)
    (λ model valid named few. simulated_some ticks seed model valid) (λ model valid. simulated_once ticks seed model valid) (simulated_content ticks seed)
    (λ model steps. omega arith) (λ model valid found is done. tt)
