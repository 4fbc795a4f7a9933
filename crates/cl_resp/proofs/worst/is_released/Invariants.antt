use Rattle.std.proofs.Common.{◌≡◌, false, take}
use Rattle.std.specs.List.{list_any}
use Rattle.cl_resp.specs.{declared.phased.InPhase.InPhase, Worst.is_released_in}
use Rattle.cl_resp.proofs.worst.is_released.Given as goal

-- none of the tasks so far is released there
abbrev pub invariant-loop-above : goal.invariant-loop-above
invariant-loop-above l =
    list_any (λ (above : InPhase). is_released_in l.question.cycle l.start above.phase above.jitter) (take l.above-index l.question.in_phase) ≡ false
