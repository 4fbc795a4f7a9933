-- What the texts of orders and of headroom promise of every legal run.
use Rattle.std.proofs.Common.{ℕ, List, Option, Some, None}
use Rattle.std.specs.Prelude.{IfSome}
use Rattle.cl_model.specs.{declared.model.SystemModel.SystemModel, Validity.IsValid}
use Rattle.cl_runs.specs.Requirements.{IsInTime}
use Rattle.cl_scale.specs.Scaled.{scaled}
use Rattle.cl_tune.specs.{declared.answer.OrderAnswer.{OrderAnswer, TheVariants.{Order, NoOrder}}, BestOrders.IsOrderAnswer, Headroom.IsHeadroom}
use Rattle.cl_tune.proofs.KeptInTime.{reordered_in_time, kept_in_time}
use Rattle.cl_designs.specs.{Orders.{IsOrderTextOf, OrderIsSafe, IsSafeOrderText}, Headroom.{IsHeadroomTextOf, IsSafeHeadroomText}}

module _ (model : SystemModel) (valid : IsValid model) where
  safe_order : (answer : OrderAnswer) → IsOrderAnswer model answer → OrderIsSafe model answer
  safe_order (Order priorities) best = reordered_in_time model valid priorities best
  safe_order (NoOrder core) none = tt

  pub safe_order_text : (text : List ℕ) → IsOrderTextOf model text → IsSafeOrderText model text
  safe_order_text text is = record { order = is; in_time = safe_order is.answer is.is }

  safe_headroom : (percent : Option ℕ) → IsHeadroom model percent → IfSome percent (λ percent. IsInTime (scaled model percent))
  safe_headroom None none = tt
  safe_headroom (Some percent) greatest = kept_in_time model valid percent greatest.kept

  pub safe_headroom_text : (text : List ℕ) → IsHeadroomTextOf model text → IsSafeHeadroomText model text
  safe_headroom_text text is = record { headroom = is; in_time = safe_headroom is.percent is.is }
