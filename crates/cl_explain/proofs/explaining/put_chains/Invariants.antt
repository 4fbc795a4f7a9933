use Rattle.std.proofs.Common.{◌≡◌, ◌+◌, ◌≤◌, ◌++◌}
use Rattle.std.specs.List.{flat_map, range_with_len}
use Rattle.cl_explain.specs.Explanation.{chain_lines_of}
use Rattle.cl_runs.specs.SystemOf.{system_of}
use Rattle.cl_tight.specs.Found.{AreWindowsOf}
use Rattle.cl_explain.proofs.explaining.put_chains.Given as goal

abbrev pub invariant-loop-chain : goal.invariant-loop-chain
invariant-loop-chain g l = record {
  text : l.text ≡ l.initial.text ++ flat_map (chain_lines_of l.model) (range_with_len 0 l.chain);
  steps : l.steps ≤ l.initial.steps + l.chain;
  windows : AreWindowsOf (system_of l.model) l.windows;
}
