use Rattle.std.proofs.Common.{◌≡◌, take, map}
use Rattle.cl_analyse.specs.ChainAnswers.{chain_answer_of}
use Rattle.cl_incr.specs.{Changed.IsChangedChain, Inner.{Asked.AsksBelow, News.AreNoted}}
use Rattle.cl_incr.proofs.chains.find_chains.Given as goal

-- what is found so far is right
abbrev pub invariant-loop-chain : goal.invariant-loop-chain
invariant-loop-chain g l = record {
  bounds : l.bounds ≡ take l.chain (map (chain_answer_of l.new) l.new.chains);
  noted : AreNoted l.old l.new l.findings.exacts l.chain l.noted.items;
  asked : AsksBelow (IsChangedChain l.old l.new) 2 l.chain l.initial.steps l.steps;
}
