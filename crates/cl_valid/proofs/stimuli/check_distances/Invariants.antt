use Rattle.std.proofs.Common.{◌≡◌, drop}
use Rattle.cl_model.specs.{Refusals.{each, each_from}, ValidNames.distance_check}
use Rattle.cl_valid.proofs.stimuli.check_distances.Given as goal

-- what is refused in all is what is refused in the rest
abbrev pub invariant-loop-i : goal.invariant-loop-i
invariant-loop-i l = each distance_check l.stimuli ≡ each_from l.i distance_check (drop l.i l.stimuli)
