use Rattle.std.proofs.Common.{◌≡◌, ◌++◌}
use Rattle.std.specs.List.{flat_map, range_with_len}
use Rattle.cl_analyse.specs.ChainAnswers.{chain_answer_at}
use Rattle.cl_tighten.specs.Tight.{tight_chain_line}
use Rattle.cl_tighten.proofs.tight.put_bounded.Given as goal

abbrev pub invariant-loop-chain : goal.invariant-loop-chain
invariant-loop-chain l = l.text ≡ l.initial.text ++ flat_map (λ chain. tight_chain_line l.model (chain_answer_at l.chains chain) chain) (range_with_len 0 l.chain)
