-- The exact lengths of a chain whose tasks are timed and periodic: the longest of all its job chains over the ideal
-- moments, once all its tasks have begun. No hyperperiod plays a part in it. Times are in ticks.
use Rattle.std.specs.Prelude.{◌≡◌, ℕ, ◌+◌, ◌≤◌, List, All, sum_by}
use Rattle.cl_model.specs.declared.group.Group.{Group}
use Rattle.cl_runs.specs.{Pattern.first_least, TaskTiming.{System, timing_at}, Chains.{JobChain, chain_length, first_group, last_group, first_job, last_job, IsForwardChain, IsAgeChain, IsReducedChain}, RunChains.ideal_moments, Measured.IsLongest}
use Rattle.cl_exact.specs.{declared.witness.Witness.Witness, Hyperperiod.period_of}

-- when job 1 of the task of a group arrives: its offset and a period
abbrev pub second_arrival : System → Group → ℕ
second_arrival system group = first_least (timing_at system group.task).pattern + period_of system group

-- job 1 of each task of a chain has arrived at a moment
abbrev pub HaveAllBegun : System → List Group → (moment : ℕ) → Type 0
HaveAllBegun system groups moment = All (λ (group : Group). second_arrival system group ≤ moment) groups

-- from this moment on no backward chain goes back to before all tasks have begun: the offset, the period and the
-- deadline of each group, one after the other
abbrev pub start_up : System → List Group → ℕ
start_up system groups = sum_by (λ (group : Group). second_arrival system group + (timing_at system group.task).deadline) groups

-- the forward chains that count: the first job reads when all tasks have begun
pub record IsSteadyForward (system : System) (groups : List Group) (chain : JobChain) : Type 0 where
  pub is_chain : IsForwardChain (ideal_moments system) groups chain
  pub read : ℕ
  pub reads : (ideal_moments system).reads (first_group groups) (first_job chain) read
  pub steady : HaveAllBegun system groups read

-- the backward chains that count, by their age: the last job reads at or after the start-up
pub record IsSteadyAge (system : System) (groups : List Group) (chain : JobChain) : Type 0 where
  pub is_chain : IsAgeChain (ideal_moments system) groups chain
  pub read : ℕ
  pub reads : (ideal_moments system).reads (last_group groups) (last_job chain) read
  pub steady : start_up system groups ≤ read

-- the same chains, by their reduced age
pub record IsSteadyReduced (system : System) (groups : List Group) (chain : JobChain) : Type 0 where
  pub is_chain : IsReducedChain (ideal_moments system) groups chain
  pub read : ℕ
  pub reads : (ideal_moments system).reads (last_group groups) (last_job chain) read
  pub steady : start_up system groups ≤ read

-- the job chain of a witness
abbrev pub chain_of : Witness → JobChain
chain_of witness = record { from = witness.from; to = witness.to; jobs = witness.jobs }

-- a witness of the greatest length: a longest of the chains that count and, among equals, the one of the least job
pub record IsExact (IsChain : JobChain → Type 0) (job_of : JobChain → ℕ) (witness : Witness) : Type 0 where
  pub longest : IsLongest IsChain job_of (chain_of witness)
  pub length : witness.length ≡ chain_length (chain_of witness)

-- the exact lengths of a chain, as three witnesses
pub record Witnesses : Type 0 where
  pub reaction : Witness
  pub age : Witness
  pub reduced : Witness

-- the witnesses of a chain of these groups. A reaction is named by its first job, an age and a reduced age by the last
pub record AreExactLengths (system : System) (groups : List Group) (exact : Witnesses) : Type 0 where
  pub reaction : IsExact (IsSteadyForward system groups) first_job exact.reaction
  pub age : IsExact (IsSteadyAge system groups) last_job exact.age
  pub reduced : IsExact (IsSteadyReduced system groups) last_job exact.reduced
