use Rattle.std.proofs.Common.{refl, arith}
use Rattle.std.proofs.lemmas.List.Elements.{All-nil}
use Rattle.cl_stim.specs.{Phase.IsPhaseInRange, Multiples.hyperperiod_of}
use Rattle.cl_phase.proofs.keeping.Keeping.new.Goals as goal

pub returns : goal.returns
unfolding hyperperiod_of
returns c = record { hyperperiod = refl; fewest = refl; short = omega arith; phases = All-nil IsPhaseInRange }
