-- `witness MODEL WHAT NAME`: the trace of a run that comes near to what is asked of. Which run that is, is no promise.
use Rattle.std.specs.Prelude.{◌≡◌, ◌⊎◌, ℕ, ◌<◌, List, ◌++◌, codes, decimal, Option, Some, None}
use Rattle.cl_text.specs.Line.{line}
use Rattle.cl_model.specs.{declared.model.SystemModel.SystemModel, Named.index_of}
use Rattle.cl_runs.specs.{Run.Run, SystemOf.system_of, Legal.IsLegal}
use Rattle.cl_gen.specs.declared.limits.TheConstants.{MOST_RUN_TICKS, MOST_EXECUTIONS}
use Rattle.cl_trace.specs.Trace.{spelled}
use Rattle.cl_engine.specs.declared.{outcome.Outcome.Outcome, status.TheConstants.{NAME_UNKNOWN, RUN_REFUSED}}
use Rattle.cl_top.specs.{declared.subject.What.What, Subject.{section_word, names_asked}, Commands.Simulate.{simulation_refused, traced}, Meaning.{Meaning, on_model, at_most, task_steps, promises, of_one_model}}

-- the model has nothing of that name
abbrev pub name_unknown : What → (name : List ℕ) → Outcome
name_unknown what name = record { status = NAME_UNKNOWN; text = line (codes "unknown " ++ section_word what ++ codes " " ++ name) }

-- the run would have so many ticks, which are too many
abbrev pub run_refused : (ticks : ℕ) → Outcome
run_refused ticks = record {
  status = RUN_REFUSED;
  text = line (codes "run refused " ++ decimal ticks ++ codes " ticks of " ++ decimal MOST_RUN_TICKS);
}

-- the trace of a legal run of the model
pub record IsLegalTrace (model : SystemModel) (text : List ℕ) : Type 0 where
  pub run : Run
  pub legal : IsLegal (system_of model) run
  pub printed : text ≡ spelled model run

-- such a trace
pub record HasTraced (model : SystemModel) (found : Outcome) : Type 0 where
  pub run : Run
  pub legal : IsLegal (system_of model) run
  pub printed : found ≡ traced model run

-- the refusal of a run with too many ticks
pub record HasRefusedTicks (found : Outcome) : Type 0 where
  pub ticks : ℕ
  pub many : MOST_RUN_TICKS < ticks
  pub printed : found ≡ run_refused ticks

-- the refusal of one that may have too many executions
pub record HasRefusedExecutions (found : Outcome) : Type 0 where
  pub count : ℕ
  pub many : MOST_EXECUTIONS < count
  pub printed : found ≡ simulation_refused count

-- the outcome of a run that is to be written
abbrev pub IsRunOutcome : SystemModel → Outcome → Type 0
IsRunOutcome model found = HasTraced model found ⊎ (HasRefusedTicks found ⊎ HasRefusedExecutions found)

-- the outcome of a name that has this number, or none
abbrev pub IsNumbered : What → (name : List ℕ) → SystemModel → (number : Option ℕ) → Outcome → Type 0
IsNumbered what name model (Some number) found = IsRunOutcome model found
IsNumbered what name model None found = found ≡ name_unknown what name

-- the outcome of `witness` for a valid model
abbrev pub IsWitnessed : What → (name : List ℕ) → SystemModel → Outcome → Type 0
IsWitnessed what name model found = IsNumbered what name model (index_of name (names_asked what model)) found

-- what `witness` means
abbrev pub witnessing : What → (name : List ℕ) → Meaning
witnessing what name = record {
  comes_to = on_model (IsWitnessed what name);
  takes = at_most task_steps;
  safe = promises IsLegalTrace;
  same = of_one_model (IsWitnessed what name);
}
