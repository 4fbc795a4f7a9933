use Rattle.std.proofs.Common.{◌≡◌, take}
use Rattle.std.specs.Prelude.{MatchOption}
use Rattle.cl_resp.proofs.PhasedReleases.{IsLastAmong}
use Rattle.cl_resp.proofs.phased.PhasedQuestion.last_release_before.Given as goal

-- the last of the tasks so far, if there are any
abbrev pub invariant-loop-above : goal.invariant-loop-above
invariant-loop-above l = MatchOption l.last (l.above-index ≡ 0) (IsLastAmong (take l.above-index l.self.in_phase) l.start)
