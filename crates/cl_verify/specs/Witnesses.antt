-- Runs that are to be written, as the tables of their jobs.
use Rattle.std.specs.Prelude.{ℕ, ◌<◌, Option, Some, None}
use Rattle.cl_model.specs.declared.model.SystemModel.{SystemModel}
use Rattle.cl_runs.specs.{SystemOf.system_of, Table.IsLawful}
use Rattle.cl_gen.specs.declared.limits.TheConstants.{MOST_RUN_TICKS, MOST_EXECUTIONS}
use Rattle.cl_bound.specs.declared.answer.TaskAnswer.{TaskAnswer, TheVariants.{Settled, Late}}
use Rattle.cl_verify.specs.declared.witness.Witness.{Witness, TheVariants.{Table, TooLong, TooMany}}

-- the response of a task that isn't late
abbrev pub settled_response : TaskAnswer → Option ℕ
settled_response (Settled settled) = Some settled.response
settled_response Late = None

-- a lawful table, or that the run would have too many ticks or may have too many executions
abbrev pub IsWitness : SystemModel → Witness → Type 0
IsWitness model (Table table) = IsLawful (system_of model) table
IsWitness model (TooLong ticks) = MOST_RUN_TICKS < ticks
IsWitness model (TooMany count) = MOST_EXECUTIONS < count
