-- How the exact lengths of a chain are tied to each other. Times are in ticks.
use Rattle.std.specs.Prelude.{◌≡◌, ◌+◌, List}
use Rattle.cl_model.specs.declared.group.Group.{Group}
use Rattle.cl_runs.specs.{TaskTiming.System, Chains.last_group}
use Rattle.cl_exact.specs.{Hyperperiod.period_of, ExactLengths.{Witnesses, AreExactLengths}}

-- the reaction equals the age, and the reduced age is the age less the last period, with the same jobs
pub record AreTied (system : System) (groups : List Group) (exact : Witnesses) : Type 0 where
  pub equal : exact.reaction.length ≡ exact.age.length
  pub shorter : exact.reduced.length + period_of system (last_group groups) ≡ exact.age.length
  pub same_jobs : exact.reduced.jobs ≡ exact.age.jobs

-- a chain has exact lengths
pub record HasExactLengths (system : System) (groups : List Group) : Type 0 where
  pub exact : Witnesses
  pub are : AreExactLengths system groups exact
