use Rattle.std.proofs.Common.{pos, negsuc, ◌<ℤ◌}
use Rattle.cl_resp.specs.Inner.{Phased.asked_of, Searching.{IsLeastSoFar, WindowsWithin}}
use Rattle.cl_resp.proofs.SearchedArrivals.{way_down}
use Rattle.cl_resp.proofs.by_phase.Search.answer_each_moment.Given as goal

-- the windows that begin after the start are within the longest
abbrev pub invariant-loop-start : goal.invariant-loop-start
invariant-loop-start l = record {
  by_end : l.start <ℤ pos l.question.cycle;
  reached : IsLeastSoFar (asked_of l.question) l.longest;
  within : WindowsWithin (asked_of l.question) l.longest l.start (pos l.question.cycle);
}

abbrev pub decreases-loop-start : goal.decreases-loop-start
decreases-loop-start l = way_down l.start (negsuc 0)
