use Rattle.cl_top.proofs.SimulationsReplayed.{simulation_replayed}
use Rattle.cl_top.proofs.laws.outcomes.simulations_can_be_replayed.Goals as goal

pub returns : goal.returns
returns c contents ticks seed found file replays = simulation_replayed contents ticks seed found file replays
