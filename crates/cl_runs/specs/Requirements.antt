-- What it means that a requirement of a model is kept or broken, and that a model is in time. Times are in ticks.
use Rattle.std.specs.Prelude.{◌≡◌, ℕ, ◌+◌, ◌<◌, ◌≤◌, List, [], length, unwrap_or}
use Rattle.cl_model.specs.{declared.{chain.{LengthKind.{LengthKind, TheVariants.{Reaction, Age, Reduced}}, RequirementKind.{RequirementKind, TheVariants.{Length, Delay}}, RequirementDef.RequirementDef}, group.Group.Group, model.SystemModel.SystemModel}, ByNumber.chain_named}
use Rattle.cl_model.specs.{ByNumber.requirement_at, Groups.groups_at}
use Rattle.cl_runs.specs.{TaskTiming.{System, timing_at}, SystemOf.system_of, Table.job_at, Run.{Run, jobs_of}, Legal.IsLegal, Moments.JobFinishes, Chains.{Moments, JobChain, chain_length, IsForwardChain, IsAgeChain, IsReducedChain}, RunChains.run_moments, Delays.IsDelayChain}

-- ---- requirements by number

-- the number of the chain that a requirement names
abbrev pub required_chain : SystemModel → RequirementDef → ℕ
required_chain model requirement = unwrap_or (chain_named model requirement.chain) 0

-- ---- kept and broken

-- a complete chain of a kind of length
abbrev pub IsChainOfKind : LengthKind → Moments → List Group → JobChain → Type 0
IsChainOfKind Reaction = IsForwardChain
IsChainOfKind Age = IsAgeChain
IsChainOfKind Reduced = IsReducedChain

-- a chain of a run, of a kind of requirement
abbrev pub IsChainRequired : RequirementKind → System → Run → List Group → JobChain → Type 0
IsChainRequired (Length kind) system run = IsChainOfKind kind (run_moments system run)
IsChainRequired Delay system run = IsDelayChain system run

-- a chain of a run, of the chain and the kind that a requirement names
abbrev pub IsRequiredChain : SystemModel → RequirementDef → Run → JobChain → Type 0
IsRequiredChain model requirement run chain =
    let groups = groups_at model (required_chain model requirement) in
    IsChainRequired requirement.kind (system_of model) run groups chain

-- a requirement is kept: in every legal run no chain of its chain and kind is longer than it says
abbrev pub IsKept : SystemModel → RequirementDef → Type 0
IsKept model requirement = (run : Run) → IsLegal (system_of model) run
    → (chain : JobChain) → IsRequiredChain model requirement run chain → chain_length chain ≤ requirement.most

-- a requirement is broken: in some legal run a chain of its chain and kind is longer than it says
pub record IsBroken (model : SystemModel) (requirement : RequirementDef) : Type 0 where
  pub run : Run
  pub legal : IsLegal (system_of model) run
  pub chain : JobChain
  pub complete : IsRequiredChain model requirement run chain
  pub longer : requirement.most < chain_length chain

-- in some legal run a complete chain of a chain of the model, of a kind, is this long
pub record HasLength (model : SystemModel) (chain : ℕ) (kind : RequirementKind) (ticks : ℕ) : Type 0 where
  pub run : Run
  pub legal : IsLegal (system_of model) run
  pub jobs : JobChain
  pub complete : IsChainRequired kind (system_of model) run (groups_at model chain) jobs
  pub lasts : chain_length jobs ≡ ticks

-- a requirement is broken by a length that its chain and kind have: it is longer than it says
pub record IsBrokenBy (model : SystemModel) (requirement : RequirementDef) (ticks : ℕ) : Type 0 where
  pub longer : requirement.most < ticks
  pub occurs : HasLength model (required_chain model requirement) requirement.kind ticks

-- ---- in time

-- The deadlines of a model are met: in every legal run, of any length, every job whose deadline lies within the run has
-- finished by then.
abbrev pub MeetsDeadlines : SystemModel → Type 0
MeetsDeadlines model = (run : Run) → IsLegal (system_of model) run → (task job : ℕ) → task < length model.tasks → job < length (jobs_of run task)
    → (job_at (jobs_of run task) job).arrival + (timing_at (system_of model) task).deadline ≤ run.table.ticks
    → (finish : ℕ) × JobFinishes (system_of model) run task job finish
    × (finish ≤ (job_at (jobs_of run task) job).arrival + (timing_at (system_of model) task).deadline)

-- A model is in time: its deadlines are met, and each requirement is kept.
pub record IsInTime (model : SystemModel) : Type 0 where
  pub deadlines : MeetsDeadlines model
  pub requirements : (i : ℕ) → i < length model.requirements → IsKept model (requirement_at model i)
