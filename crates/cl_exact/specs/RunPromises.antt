-- What exact lengths promise of legal runs, where no task of the chain is late. Times are in ticks.
use Rattle.std.specs.Prelude.{◌≡◌, ℕ, ◌+◌, ◌<◌, ◌≤◌, ◌↔◌, true, List, length, All}
use Rattle.cl_model.specs.declared.group.Group.{Group}
use Rattle.cl_runs.specs.{TaskTiming.{System, timing_at}, Run.{Run, jobs_of}, Legal.IsLegal, Chains.{Moments, JobChain, chain_length, last_group, IsForwardChain, IsAgeChain, IsReducedChain}, RunChains.{run_moments, ideal_moments}, Responses.IsTimely}
use Rattle.cl_exact.specs.{TimedPeriodic.are_timed_periodic, Hyperperiod.period_of, ExactLengths.{chain_of, Witnesses}, declared.witness.Witness.Witness}

-- ---- which chains

-- a task that isn't late: its jobs always finish within a response that its deadline allows
pub record HasResponse (system : System) (task : ℕ) : Type 0 where
  pub response : ℕ
  pub timely : IsTimely system task response

-- none of the tasks of these groups is late
abbrev pub HaveResponses : System → List Group → Type 0
HaveResponses system groups = All (λ (group : Group). HasResponse system group.task) groups

-- the first and the last runnable of a group are runnables of its task
pub record HasItsRunnables (system : System) (group : Group) : Type 0 where
  pub first : group.first < length (timing_at system group.task).ranges
  pub last : group.last < length (timing_at system group.task).ranges

-- a chain of a system whose tasks are timed and periodic, and none of them late
pub record IsSettledTimedChain (system : System) (groups : List Group) : Type 0 where
  pub runnables : All (HasItsRunnables system) groups
  pub timed : are_timed_periodic system groups ≡ true
  pub settled : HaveResponses system groups

-- ---- moments and chains

-- a job of a group has a read
pub record HasRead (moments : Moments) (group : Group) (job : ℕ) : Type 0 where
  pub read : ℕ
  pub reads : moments.reads group job read

-- in a run a group reads and writes at its ideal moments until the end: the jobs of the table are those that read, a
-- read is there exactly where the ideal one lies below the end, a write exactly where the ideal one lies at or before
-- it
pub record IsIdealUntilTheEnd (system : System) (run : Run) (group : Group) : Type 0 where
  pub jobs : (job : ℕ) → (job < length (jobs_of run group.task)) ↔ HasRead (run_moments system run) group job
  pub reads : (job tick : ℕ) → ((run_moments system run).reads group job tick)
      ↔ ((ideal_moments system).reads group job tick × (tick < run.table.ticks))
  pub writes : (job tick : ℕ) → ((run_moments system run).writes group job tick)
      ↔ ((ideal_moments system).writes group job tick × (tick ≤ run.table.ticks))

-- the complete chains of a run are those over the ideal moments that are complete by its end: a forward chain and one
-- of an age by the write with which they end, one of a reduced age by that of the job after the last, one period later
pub record AreIdealUntilTheEnd (system : System) (groups : List Group) (run : Run) : Type 0 where
  pub forward : (chain : JobChain) → (IsForwardChain (run_moments system run) groups chain)
      ↔ (IsForwardChain (ideal_moments system) groups chain × (chain.to ≤ run.table.ticks))
  pub age : (chain : JobChain) → (IsAgeChain (run_moments system run) groups chain)
      ↔ (IsAgeChain (ideal_moments system) groups chain × (chain.to ≤ run.table.ticks))
  pub reduced : (chain : JobChain) → (IsReducedChain (run_moments system run) groups chain)
      ↔ (IsReducedChain (ideal_moments system) groups chain
      × (chain.to + period_of system (last_group groups) ≤ run.table.ticks))

-- that holds of each group and of the complete chains, in every legal run, of any length
pub record AlwaysIdealUntilTheEnd (system : System) (groups : List Group) : Type 0 where
  pub moments : (run : Run) → IsLegal system run → All (IsIdealUntilTheEnd system run) groups
  pub chains : (run : Run) → IsLegal system run → AreIdealUntilTheEnd system groups run

-- ---- lengths

-- no complete chain of a run is longer than the exact length of its kind
pub record AreGreatestIn (system : System) (groups : List Group) (exact : Witnesses) (run : Run) : Type 0 where
  pub reaction : (chain : JobChain) → IsForwardChain (run_moments system run) groups chain
      → chain_length chain ≤ exact.reaction.length
  pub age : (chain : JobChain) → IsAgeChain (run_moments system run) groups chain
      → chain_length chain ≤ exact.age.length
  pub reduced : (chain : JobChain) → IsReducedChain (run_moments system run) groups chain
      → chain_length chain ≤ exact.reduced.length

-- a witness is a chain of a kind, of the length that it says
pub record IsAttained (IsChain : JobChain → Type 0) (witness : Witness) : Type 0 where
  pub is_chain : IsChain (chain_of witness)
  pub length : chain_length (chain_of witness) ≡ witness.length

-- the witnesses are complete chains of a run that lasts to their ends: for the reaction and the age that is the write
-- with which they end, for the reduced age that of the job after the last, one period later
pub record AreAttainedIn (system : System) (groups : List Group) (exact : Witnesses) (run : Run) : Type 0 where
  pub reaction : exact.reaction.to ≤ run.table.ticks
      → IsAttained (IsForwardChain (run_moments system run) groups) exact.reaction
  pub age : exact.age.to ≤ run.table.ticks
      → IsAttained (IsAgeChain (run_moments system run) groups) exact.age
  pub reduced : exact.reduced.to + period_of system (last_group groups) ≤ run.table.ticks
      → IsAttained (IsReducedChain (run_moments system run) groups) exact.reduced

-- exact lengths are exact: in every legal run, of any length, no complete chain is longer, and each witness is a
-- complete chain where the run lasts to its end
pub record AreExactInRuns (system : System) (groups : List Group) (exact : Witnesses) : Type 0 where
  pub greatest : (run : Run) → IsLegal system run → AreGreatestIn system groups exact run
  pub attained : (run : Run) → IsLegal system run → AreAttainedIn system groups exact run

-- a legal run has all three witnesses
pub record HasWitnessRun (system : System) (groups : List Group) (exact : Witnesses) : Type 0 where
  pub run : Run
  pub legal : IsLegal system run
  pub reaction : IsAttained (IsForwardChain (run_moments system run) groups) exact.reaction
  pub age : IsAttained (IsAgeChain (run_moments system run) groups) exact.age
  pub reduced : IsAttained (IsReducedChain (run_moments system run) groups) exact.reduced
