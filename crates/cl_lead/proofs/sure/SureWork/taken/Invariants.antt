use Rattle.std.proofs.Common.{◌≡◌, ◌*◌, ◌^◌, ◌≤◌, take}
use Rattle.std.specs.Prelude.{sum_by}
use Rattle.cl_model.specs.declared.limits.TheConstants.{MOST_TICKS, MOST_RUNNABLES}
use Rattle.cl_lead.specs.Inner.Sure.{sure_time}
use Rattle.cl_lead.proofs.sure.SureWork.taken.Given as goal

-- what the tasks so far take
abbrev pub invariant-loop-above : goal.invariant-loop-above
invariant-loop-above l = record {
  taken : l.taken ≡ sum_by (sure_time l.from l.width) (take l.above-index l.self.above.items);
  small : l.taken ≤ l.above-index * (2 ^ 64 * (MOST_RUNNABLES * MOST_TICKS));
}
