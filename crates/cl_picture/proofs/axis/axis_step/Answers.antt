use Rattle.std.proofs.Common.{ap, ◌∙◌, ℕ, Option, unwrap_or}
use Rattle.cl_picture.specs.{declared.window.TheConstants.MOST_WINDOW, Axis.axis_step}
use Rattle.cl_picture.proofs.axis.axis_step.Goals as goal

pub returns-clause-step : goal.returns-clause-step
unfolding axis_step
returns-clause-step c = c.unwrap_or.ensures ∙ ap (λ (o : Option ℕ). unwrap_or o MOST_WINDOW) c.first_step.ensures.first
