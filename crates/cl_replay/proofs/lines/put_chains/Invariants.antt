use Rattle.std.proofs.Common.{◌≡◌, ◌++◌, map}
use Rattle.std.specs.List.{flat_map, range_with_len}
use Rattle.cl_chain.specs.JobChains.{measured_of}
use Rattle.cl_replay.specs.Replay.{measured_chain_lines}
use Rattle.cl_replay.proofs.lines.put_chains.Given as goal

abbrev pub invariant-loop-chain : goal.invariant-loop-chain
invariant-loop-chain l = l.text ≡ l.initial.text ++ flat_map (measured_chain_lines l.model l.findings (map measured_of l.measured)) (range_with_len 0 l.chain)
