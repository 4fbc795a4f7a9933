use Rattle.std.proofs.Common.{◌≡◌, take}
use Rattle.cl_runs.specs.SystemOf.{system_of}
use Rattle.cl_tight.specs.{TightFindings.tight_chain_answers_of, Found.AreWindowsOf}
use Rattle.cl_tight.proofs.tightening.tighten_chains.Given as goal

abbrev pub invariant-loop-chain : goal.invariant-loop-chain
invariant-loop-chain l = record {
  answers : l.answers ≡ take l.chain (tight_chain_answers_of l.model);
  windows : AreWindowsOf (system_of l.model) l.windows;
}
