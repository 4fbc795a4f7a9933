use Rattle.std.proofs.Common.{ℕ, ◌+◌, ◌≤◌, List, length, take}
use Rattle.std.specs.List.{filter, fold}
use Rattle.arrayvec.specs.ArrayVec.{array_vec_len}
use Rattle.cl_runs.specs.SystemOf.{system_of}
use Rattle.cl_cycle.specs.{Cycles.joined_by, Inner.Gathering.{is_above_with, IsGathered}}
use Rattle.cl_cycle.proofs.cycle.Cycle.join_all.Given as goal

-- those of this period so far have joined where they come round soon
abbrev pub invariant-loop-other : goal.invariant-loop-other
invariant-loop-other l = record {
  ticks : 1 ≤ l.self.ticks;
  room : array_vec_len l.self.in_phase
      ≤ array_vec_len l.fn.self.in_phase + length (filter (is_above_with l.model l.task l.period) (take l.other-index l.other-items));
  gathered : (so_far : List ℕ) → IsGathered (system_of l.model) l.task so_far l.fn.self
      → IsGathered (system_of l.model) l.task
      (fold (joined_by (system_of l.model) l.task) so_far (filter (is_above_with l.model l.task l.period) (take l.other-index l.other-items))) l.self;
}
