use Rattle.std.proofs.Common.{◌≡◌, ℕ, ◌<◌, length}
use Rattle.cl_analyse.specs.ChainAnswers.{exact_answer_at}
use Rattle.cl_incr.specs.Inner.News.{chain_before}
use Rattle.cl_incr.proofs.put.copy_moved.Given as goal

abbrev pub invariant-loop-chain : goal.invariant-loop-chain
invariant-loop-chain l = record {
  count : length l.moved ≡ l.chain;
  each : (k : ℕ) → k < l.chain → exact_answer_at l.moved k ≡ exact_answer_at l.exacts (chain_before l.old l.new k);
}
