-- `simulate MODEL TICKS SEED`: the trace of a drawn run.
use Rattle.std.specs.Prelude.{◌≡◌, ℕ, ◌<◌, ◌≤◌, ◌++◌, codes, decimal}
use Rattle.cl_text.specs.Line.{line}
use Rattle.cl_model.specs.declared.model.SystemModel.{SystemModel}
use Rattle.cl_runs.specs.{Run.Run, SystemOf.system_of, Legal.IsLegal}
use Rattle.cl_gen.specs.{declared.limits.TheConstants.MOST_EXECUTIONS, Count.execution_count, Drawn.drawn}
use Rattle.cl_trace.specs.Trace.{spelled}
use Rattle.cl_engine.specs.declared.{outcome.Outcome.Outcome, status.TheConstants.{DONE, SIMULATION_REFUSED}}
use Rattle.cl_top.specs.Meaning.{Meaning, on_model, takes_no_step, no_promise, equal}

-- so many executions are counted, which are too many
abbrev pub simulation_refused : (count : ℕ) → Outcome
simulation_refused count = record {
  status = SIMULATION_REFUSED;
  text = line (codes "simulation refused " ++ decimal count ++ codes " of " ++ decimal MOST_EXECUTIONS);
}

-- the trace of a run
abbrev pub traced : SystemModel → Run → Outcome
traced model run = record { status = DONE; text = spelled model run }

-- the trace of the legal run of the table that is drawn; there is one such run
pub record IsTraced (ticks seed : ℕ) (model : SystemModel) (found : Outcome) : Type 0 where
  pub run : Run
  pub table : run.table ≡ drawn model ticks seed
  pub legal : IsLegal (system_of model) run
  pub printed : found ≡ traced model run

-- the outcome of the simulation of a valid model: a refusal where too many executions are counted, and else a trace
pub record IsSimulated (ticks seed : ℕ) (model : SystemModel) (found : Outcome) : Type 0 where
  pub refused : MOST_EXECUTIONS < execution_count model ticks → found ≡ simulation_refused (execution_count model ticks)
  pub simulated : execution_count model ticks ≤ MOST_EXECUTIONS → IsTraced ticks seed model found

-- what `simulate` means
abbrev pub simulating : (ticks seed : ℕ) → Meaning
simulating ticks seed = record { comes_to = on_model (IsSimulated ticks seed); takes = takes_no_step; safe = no_promise; same = equal }
