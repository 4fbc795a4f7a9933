use Rattle.cl_analyse.specs.ChainAnswers.{chain_answer_at}
use Rattle.cl_observe.specs.Observed.{GoesOnWith, IsMadeOf, IsChainText}
use Rattle.cl_observe.proofs.chain_lines.put_chains.Given as goal

abbrev pub invariant-loop-chain : goal.invariant-loop-chain
invariant-loop-chain l = GoesOnWith (IsMadeOf (λ chain. IsChainText l.model l.run (chain_answer_at l.answers chain) chain) l.chain) l.initial.text l.text
