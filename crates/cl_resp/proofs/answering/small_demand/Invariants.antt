use Rattle.std.proofs.Common.{◌≡◌, ◌+◌, ◌*◌, ◌^◌, ◌≤◌, take}
use Rattle.std.specs.Prelude.{sum_by}
use Rattle.cl_model.specs.declared.limits.TheConstants.{MOST_TICKS, MOST_RUNNABLES}
use Rattle.cl_stim.specs.{AnyStimulus.kind_of, Releases.most_releases}
use Rattle.cl_resp.specs.declared.question.Above.{Above}
use Rattle.cl_resp.proofs.answering.small_demand.Given as goal

-- what is needed is the demand of the tasks so far, each of which takes little enough that all of them fit
abbrev pub invariant-loop-above : goal.invariant-loop-above
invariant-loop-above l = record {
  needed : l.needed
      ≡ l.question.block + l.question.time
      + sum_by (λ (above : Above). most_releases (kind_of above.stimulus) l.width * above.time) (take l.above-index l.question.above);
  small : l.needed ≤ 2 ^ 64 + l.above-index * (2 ^ 64 * (MOST_RUNNABLES * MOST_TICKS));
}
