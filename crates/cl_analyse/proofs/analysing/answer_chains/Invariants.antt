use Rattle.std.proofs.Common.{◌≡◌, ◌+◌, ◌≤◌, take, map}
use Rattle.cl_analyse.specs.ChainAnswers.{chain_answer_of}
use Rattle.cl_analyse.proofs.analysing.answer_chains.Given as goal

abbrev pub invariant-loop-chain : goal.invariant-loop-chain
invariant-loop-chain g l = (l.answers ≡ take l.chain (map (chain_answer_of l.model) l.model.chains)) × (l.steps ≤ l.initial.steps + l.chain)
