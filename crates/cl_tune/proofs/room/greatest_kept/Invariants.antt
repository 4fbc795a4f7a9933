use Rattle.std.proofs.Common.{ℕ, ◌+◌, ◌-◌, ◌<◌, ◌≤◌}
use Rattle.cl_model.specs.declared.model.SystemModel.{SystemModel}
use Rattle.cl_scale.specs.declared.percent.TheConstants.{MOST_PERCENT}
use Rattle.cl_tune.specs.Headroom.{Keeps}
use Rattle.cl_tune.proofs.room.greatest_kept.Given as goal

-- what keeps is below, and what doesn't is from the end on
pub record IsBetween (model : SystemModel) (kept end : ℕ) : Type 0 where
  pub apart : kept < end
  pub within : end ≤ MOST_PERCENT + 1
  pub keeps : 1 ≤ kept → Keeps model kept
  pub fails : (other : ℕ) → end ≤ other → other ≤ MOST_PERCENT → Keeps model other → ⊥

abbrev pub invariant-loop-end : goal.invariant-loop-end
invariant-loop-end g l = IsBetween l.model l.kept l.end

abbrev pub decreases-loop-end : goal.decreases-loop-end
decreases-loop-end g l = l.end - l.kept
