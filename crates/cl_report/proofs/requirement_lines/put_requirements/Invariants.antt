use Rattle.std.proofs.Common.{◌≡◌, ◌++◌}
use Rattle.std.specs.List.{flat_map, range_with_len}
use Rattle.cl_model.specs.ByNumber.{requirement_at}
use Rattle.cl_analyse.specs.Verdicts.{verdict_at}
use Rattle.cl_report.specs.Report.{verdict_line}
use Rattle.cl_report.proofs.requirement_lines.put_requirements.Given as goal

abbrev pub invariant-loop-place : goal.invariant-loop-place
invariant-loop-place l = l.text ≡ l.initial.text ++ flat_map (λ i. verdict_line (requirement_at l.model i) (verdict_at l.verdicts i)) (range_with_len 0 l.place)
