use Rattle.std.proofs.Common.{◌≡◌, true, ◌+◌, ◌-◌, pos, ◌≤ℤ◌}
use Rattle.std.specs.Prelude.{unsigned_abs}
use Rattle.cl_model.specs.declared.limits.TheConstants.{MOST_TICKS}
use Rattle.cl_stim.specs.Phase.{arrives_at}
use Rattle.cl_resp.specs.Inner.{Phased.asked_of, Searching.{IsLeastSoFar, AnsweredBefore}}
use Rattle.cl_resp.proofs.by_phase.Search.answer_all.Given as goal

-- the arrivals before this one are answered
abbrev pub invariant-loop-arrival : goal.invariant-loop-arrival
invariant-loop-arrival l = record {
  there : pos 0 ≤ℤ l.arrival;
  near : l.arrival ≤ℤ pos (l.question.cycle + MOST_TICKS);
  arrives : arrives_at l.question.arrivals l.arrival ≡ true;
  reached : IsLeastSoFar (asked_of l.question) l.longest;
  answered : AnsweredBefore (asked_of l.question) l.longest l.arrival;
}

abbrev pub decreases-loop-arrival : goal.decreases-loop-arrival
decreases-loop-arrival l = l.question.cycle - unsigned_abs l.arrival
