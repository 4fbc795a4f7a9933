-- What the answers on orders and percentages promise of every legal run.
use Rattle.std.proofs.Common.{ℕ, List}
use Rattle.std.specs.Prelude.{slice_index}
use Rattle.cl_model.specs.{declared.model.SystemModel.SystemModel, Validity.IsValid}
use Rattle.cl_runs.specs.Requirements.{MeetsDeadlines, IsInTime}
use Rattle.cl_analyse.proofs.InTime.{deadlines_met, in_time}
use Rattle.cl_scale.specs.Scaled.{scaled}
use Rattle.cl_scale.proofs.ScaledValid.{scaled_valid}
use Rattle.cl_tune.specs.{BestOrders.AreBestPriorities, Headroom.Keeps, Priorities.with_all_priorities}
use Rattle.cl_tune.proofs.{ReorderedModels.all_in_time, ReorderedValid.reordered_valid}

pub reordered_in_time : (model : SystemModel) → IsValid model → (priorities : List ℕ) → AreBestPriorities model priorities
    → MeetsDeadlines (with_all_priorities model (slice_index priorities))
reordered_in_time model valid priorities best =
    deadlines_met (with_all_priorities model (slice_index priorities)) (reordered_valid model valid priorities best) (all_in_time model valid priorities best)

pub kept_in_time : (model : SystemModel) → IsValid model → (percent : ℕ) → Keeps model percent → IsInTime (scaled model percent)
kept_in_time model valid percent keeps =
    in_time (scaled model percent) (scaled_valid model percent valid keeps.in_range) keeps.findings keeps.found keeps.in_time keeps.met
