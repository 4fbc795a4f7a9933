use Rattle.std.proofs.Common.{ℤ, pos, ◌+ℤ◌, ◌≤ℤ◌, ◌<ℤ◌}
use Rattle.cl_resp.proofs.WorstPlaces.{way_down}
use Rattle.cl_resp.specs.{Asked.{MayBegin, EndsBy}, Inner.Phased.asked_of}
use Rattle.cl_resp.proofs.worst.latest_unanswered.Given as goal

-- windows that begin after the start end in time
abbrev pub invariant-loop-start : goal.invariant-loop-start
invariant-loop-start l = record {
  by_latest : l.start ≤ℤ (l.fn.arrival +ℤ pos l.fn.question.beside.jitter);
  answered : (other : ℤ) → l.start <ℤ other → MayBegin (asked_of l.fn.question) l.fn.arrival other
      → EndsBy (asked_of l.fn.question) other (l.fn.arrival +ℤ pos l.fn.within);
}

abbrev pub decreases-loop-start : goal.decreases-loop-start
decreases-loop-start l = way_down l.start l.before
