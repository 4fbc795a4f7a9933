use Rattle.std.proofs.Common.{◌+◌, ◌-◌, ◌≤◌}
use Rattle.cl_lead.specs.Inner.Sure.{ahead_in, NoneMayStart}
use Rattle.cl_lead.proofs.SureRaises.{IsChecked}
use Rattle.cl_lead.proofs.sure.SureWork.raise.Given as goal

-- from the moments that are done no more is needed, and at no distance before may it start
abbrev pub invariant-loop-until : goal.invariant-loop-until
invariant-loop-until l = record {
  no_less : l.lead ≤ l.raised;
  no_more : l.raised ≤ l.most;
  start : l.until ≤ l.arrival + l.lead + 1;
  none : NoneMayStart (ahead_in l.self) l.arrival l.lead l.raised;
  checked : IsChecked l.self l.arrival l.lead l.first l.raised l.until;
}

abbrev pub decreases-loop-until : goal.decreases-loop-until
decreases-loop-until l = l.until - l.first
