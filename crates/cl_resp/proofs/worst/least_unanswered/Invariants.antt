use Rattle.std.proofs.Common.{pos, ◌≤ℤ◌, ◌+◌, ◌-ℤ◌}
use Rattle.std.specs.Prelude.{MatchOption}
use Rattle.cl_model.specs.declared.limits.TheConstants.{MOST_TICKS}
use Rattle.cl_resp.specs.Inner.Worst.{AreCandidatesAnswered, IsLeastAfter}
use Rattle.cl_resp.proofs.WorstPlaces.{way_down}
use Rattle.cl_resp.proofs.worst.least_unanswered.Given as goal

-- the least candidate after the start that isn't answered is found, if there is one
abbrev pub invariant-loop-start : goal.invariant-loop-start
invariant-loop-start l = record {
  near : l.start ≤ℤ pos (l.fn.question.cycle + MOST_TICKS);
  found : MatchOption l.found (AreCandidatesAnswered l.fn.question l.fn.within l.start) (IsLeastAfter l.fn.question l.fn.within l.start);
}

abbrev pub decreases-loop-start : goal.decreases-loop-start
decreases-loop-start l = way_down l.start (pos 0 -ℤ pos 1)
