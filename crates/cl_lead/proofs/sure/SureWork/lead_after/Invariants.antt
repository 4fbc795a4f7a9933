use Rattle.std.proofs.Common.{◌-◌, ◌≤◌}
use Rattle.cl_lead.specs.Inner.Sure.{ahead_in, NoneMayStart}
use Rattle.cl_lead.proofs.sure.SureWork.lead_after.Given as goal

-- at no distance before may it start
abbrev pub invariant-loop-lead : goal.invariant-loop-lead
invariant-loop-lead l = record {
  no_less : l.self.before ≤ l.lead;
  no_more : l.lead ≤ l.most;
  none : NoneMayStart (ahead_in l.self) l.arrival l.self.before l.lead;
}

abbrev pub decreases-loop-lead : goal.decreases-loop-lead
decreases-loop-lead l = l.most - l.lead
