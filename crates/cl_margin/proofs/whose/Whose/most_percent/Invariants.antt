use Rattle.std.proofs.Common.{ℕ, ◌-◌, ◌<◌, ◌≤◌}
use Rattle.cl_model.specs.{declared.model.SystemModel.SystemModel, Ranges.IsInRange}
use Rattle.cl_scale.specs.declared.percent.TheConstants.{MOST_PERCENT}
use Rattle.cl_margin.specs.{declared.whose.Whose.Whose, Grown.grown}
use Rattle.cl_margin.proofs.whose.Whose.most_percent.Given as goal

-- the greatest percentage in range is found between these
pub record IsFoundBetween (model : SystemModel) (whose : Whose) (within end : ℕ) : Type 0 where
  pub some : 100 ≤ within
  pub apart : within < end
  pub few : end ≤ MOST_PERCENT
  pub in_range : IsInRange (grown model whose within)
  pub out : IsInRange (grown model whose end) → ⊥

abbrev pub invariant-loop-end : goal.invariant-loop-end
invariant-loop-end l = IsFoundBetween l.model l.self l.within l.end

abbrev pub decreases-loop-end : goal.decreases-loop-end
decreases-loop-end l = l.end - l.within
