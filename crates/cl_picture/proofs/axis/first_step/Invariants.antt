use Rattle.std.proofs.Common.{◌≡◌, ◌*◌, nat_le, drop}
use Rattle.std.specs.List.{find}
use Rattle.cl_picture.proofs.axis.first_step.Given as goal

abbrev pub invariant-loop-step : goal.invariant-loop-step
invariant-loop-step l = find (λ step. nat_le l.span (12 * step)) (drop l.step-index l.steps) ≡ find (λ step. nat_le l.span (12 * step)) l.steps
