use Rattle.std.proofs.Common.{◌≡◌, ◌++◌}
use Rattle.std.specs.List.{flat_map, range_with_len}
use Rattle.cl_report.specs.Report.{chain_lines}
use Rattle.cl_report.proofs.lines.put_chains.Given as goal

abbrev pub invariant-loop-chain : goal.invariant-loop-chain
invariant-loop-chain l = l.text ≡ l.initial.text ++ flat_map (chain_lines l.model l.findings) (range_with_len 0 l.chain)
