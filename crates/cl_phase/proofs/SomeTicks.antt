-- Tight bounds of groups whose timings always hold are 1 tick or more: they are at least the lengths of complete chains.
use Rattle.std.proofs.Common.{◌<◌, List, length, arith}
use Rattle.std.specs.Prelude.{All}
use Rattle.cl_model.specs.declared.{chain.LengthKind.TheVariants.{Reaction, Age, Reduced}, group.Group.Group}
use Rattle.cl_runs.specs.TaskTiming.{System, IsSound}
use Rattle.cl_hop.specs.{Promises.AreAtLeast, Timings.AlwaysKeeps, declared.group_timing.GroupTiming.GroupTiming}
use Rattle.cl_phase.specs.{CompleteChains.{HasCompleteChains, AreSomeTicks}, TightBounds.tight_bounds}
use Rattle.cl_phase.proofs.{ChainsComplete.has_complete_chains, DelayExists.delay_takes_time, TightSafety.kept_safe}

module _ (system : System) (sound : IsSound system) (timing : Group → GroupTiming) (groups : List Group) (some : 0 < length groups)
    (keep : All (λ (group : Group). AlwaysKeeps system group (timing group)) groups) where
  has : HasCompleteChains system groups
  has = has_complete_chains system sound timing groups some keep

  at_least : AreAtLeast system groups (tight_bounds system timing groups) has.run
  at_least = kept_safe system sound timing groups keep has.run has.legal

  pub take_time : AreSomeTicks (tight_bounds system timing groups)
  take_time = record {
    reaction = let one = has.each Reaction in omega (arith, one.lasts, at_least.reaction one.chain one.complete);
    age = let one = has.each Age in omega (arith, one.lasts, at_least.age one.chain one.complete);
    reduced = let one = has.each Reduced in omega (arith, one.lasts, at_least.reduced one.chain one.complete);
    delay = delay_takes_time system sound timing groups some keep;
  }
