use Rattle.std.proofs.Common.{◌≡◌, ◌+◌, ◌-◌, ◌≤◌, true, pos}
use Rattle.cl_model.specs.declared.limits.TheConstants.{MOST_TICKS}
use Rattle.cl_stim.specs.Phase.{arrives_at}
use Rattle.cl_lead.specs.Inner.Sure.{ahead_in}
use Rattle.cl_lead.proofs.SureLeads.{IsReached, NoneBefore}
use Rattle.cl_lead.proofs.sure.SureWork.lead.Given as goal

-- the least so far is reached, and none is less after the arrivals before this one
abbrev pub invariant-loop-arrival : goal.invariant-loop-arrival
invariant-loop-arrival l = record {
  within : l.least ≤ l.self.deadline;
  near : l.arrival ≤ l.self.cycle + MOST_TICKS;
  arrives : arrives_at l.self.arrivals (pos l.arrival) ≡ true;
  reached : IsReached (ahead_in l.self) l.least;
  none : NoneBefore (ahead_in l.self) l.least l.arrival;
}

abbrev pub decreases-loop-arrival : goal.decreases-loop-arrival
decreases-loop-arrival l = l.self.cycle - l.arrival
