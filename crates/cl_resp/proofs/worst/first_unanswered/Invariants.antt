use Rattle.std.proofs.Common.{pos, ◌≤ℤ◌, ◌+◌}
use Rattle.cl_model.specs.declared.limits.TheConstants.{MOST_TICKS}
use Rattle.cl_resp.proofs.WorstPlaces.{way_down}
use Rattle.cl_stim.specs.Phase.{IsArrivalOf}
use Rattle.cl_resp.specs.Inner.{Phased.asked_of, Worst.AreAnsweredBefore}
use Rattle.cl_resp.proofs.worst.first_unanswered.Given as goal

-- a job arrives at the arrival, and those before it are answered
abbrev pub invariant-loop-arrival : goal.invariant-loop-arrival
invariant-loop-arrival l = record {
  not_before : pos 0 ≤ℤ l.arrival;
  near : l.arrival ≤ℤ pos (l.fn.question.cycle + MOST_TICKS);
  arrives : IsArrivalOf l.fn.question.arrivals l.arrival;
  answered : AreAnsweredBefore (asked_of l.fn.question) l.fn.within l.arrival;
}

abbrev pub decreases-loop-arrival : goal.decreases-loop-arrival
decreases-loop-arrival l = way_down (pos l.fn.question.cycle) l.arrival
