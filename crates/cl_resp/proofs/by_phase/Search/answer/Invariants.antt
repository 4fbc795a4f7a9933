use Rattle.std.proofs.Common.{pos, ◌+ℤ◌, ◌≤ℤ◌, ◌≤◌}
use Rattle.cl_resp.specs.Inner.{Phased.asked_of, Searching.{IsLeastSoFar, AnsweredAfter}}
use Rattle.cl_resp.proofs.SearchedArrivals.{way_down}
use Rattle.cl_resp.proofs.by_phase.Search.answer.Given as goal

-- what begins after the start is answered
abbrev pub invariant-loop-start : goal.invariant-loop-start
invariant-loop-start l = record {
  by_latest : l.start ≤ℤ (l.fn.arrival +ℤ pos l.fn.question.beside.jitter);
  reached : IsLeastSoFar (asked_of l.fn.question) l.longest;
  longer : l.so_far ≤ l.longest;
  answered : AnsweredAfter (asked_of l.fn.question) l.longest l.fn.arrival l.start;
}

abbrev pub decreases-loop-start : goal.decreases-loop-start
decreases-loop-start l = way_down l.start l.before
