use Rattle.std.proofs.Common.{◌≡◌, ◌++◌}
use Rattle.std.specs.List.{flat_map, range_with_len}
use Rattle.cl_model.specs.ByNumber.{requirement_at}
use Rattle.cl_verify.specs.{Decisions.decision_at, VerifyText.decision_line}
use Rattle.cl_verify.proofs.text.put_requirements.Given as goal

abbrev pub invariant-loop-place : goal.invariant-loop-place
invariant-loop-place l =
    l.text ≡ l.initial.text ++ flat_map (λ i. decision_line l.model (requirement_at l.model i) (decision_at l.decisions i)) (range_with_len 0 l.place)
