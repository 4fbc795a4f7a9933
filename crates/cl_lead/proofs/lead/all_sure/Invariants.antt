use Rattle.std.proofs.Common.{◌≡◌, ℕ, ◌≤◌, take, length}
use Rattle.std.specs.Prelude.{sum_by, All}
use Rattle.cl_lead.specs.Inner.Sure.{sure_time, counted_time, IsSureTaskInRange}
use Rattle.cl_lead.proofs.lead.all_sure.Given as goal

-- those of the tasks so far
abbrev pub invariant-loop-other : goal.invariant-loop-other
invariant-loop-other l = record {
  few : length l.above.items ≤ l.other-index;
  time : (from width : ℕ) → sum_by (sure_time from width) l.above.items
      ≡ sum_by (counted_time l.model l.task l.cycle.in_phase.items from width) (take l.other-index l.other-items);
  in_range : All IsSureTaskInRange l.above.items;
}
