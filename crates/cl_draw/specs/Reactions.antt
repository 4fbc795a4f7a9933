-- The longest reactions of a run, with the moments of the jobs that carry them. Times are in ticks.
use Rattle.std.specs.Prelude.{◌≡◌, ℕ, Option, Some, None, ◌<◌, List, length, slice_index, slice_index_or}
use Rattle.cl_model.specs.{declared.{model.SystemModel.SystemModel, group.Group.Group}, Groups.{group_at, groups_at}}
use Rattle.cl_runs.specs.{Run.Run, SystemOf.system_of, Chains.{Moments, JobChain}, RunChains.run_moments, Measured.{Measured, IsMeasured}}
use Rattle.cl_draw.specs.declared.stops.{Stop.Stop, Reaction.Reaction}

-- what stands past the last stop
unfoldable pub no_drawn_stop : Stop
no_drawn_stop = record { task = 0; job = 0; read = 0; write = 0 }

-- the stop of a group
abbrev pub stop_at_group : List Stop → (group : ℕ) → Stop
stop_at_group stops group = slice_index_or stops group no_drawn_stop

-- a job of a group, with the moments at which it reads and writes
pub record IsStop (moments : Moments) (group : Group) (job : ℕ) (stop : Stop) : Type 0 where
  pub task : stop.task ≡ group.task
  pub job_is : stop.job ≡ job
  pub reads : moments.reads group job stop.read
  pub writes : moments.writes group job stop.write

-- a reaction shows a job chain: from when to when it lasts, and its jobs
pub record IsShown (moments : Moments) (groups : List Group) (chain : JobChain) (reaction : Reaction) : Type 0 where
  pub from : reaction.from ≡ chain.from
  pub to : reaction.to ≡ chain.to
  pub one_a_group : length reaction.stops ≡ length groups
  pub stops : (i : ℕ) → i < length groups → IsStop moments (group_at groups i) (slice_index chain.jobs i) (stop_at_group reaction.stops i)

-- so where there is one, and nothing is shown where there is none
abbrev pub IsShownOf : Moments → List Group → Option JobChain → Option Reaction → Type 0
IsShownOf moments groups None None = Unit {0}
IsShownOf moments groups None (Some reaction) = ⊥
IsShownOf moments groups (Some chain) None = ⊥
IsShownOf moments groups (Some chain) (Some reaction) = IsShown moments groups chain reaction

-- what is shown of a chain is the longest of its complete forward chains, by what is measured of it in the run
pub record IsDrawnReaction (model : SystemModel) (run : Run) (chain : ℕ) (reaction : Option Reaction) : Type 0 where
  pub measured : Measured
  pub is_measured : IsMeasured (run_moments (system_of model) run) (groups_at model chain) measured
  pub shown : IsShownOf (run_moments (system_of model) run) (groups_at model chain) measured.reaction reaction

-- what is shown of the chain of a number
abbrev pub reaction_at : List (Option Reaction) → (chain : ℕ) → Option Reaction
reaction_at reactions chain = slice_index_or reactions chain None
