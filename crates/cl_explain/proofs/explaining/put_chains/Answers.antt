use Rattle.std.proofs.Common.{ℕ, List, ◌++◌, ap, ◌∙◌, arith}
use Rattle.std.proofs.lemmas.List.{append_assoc}
use Rattle.cl_text.proofs.MoreLines.{line_more}
use Rattle.cl_model.specs.ByNumber.{chain_at}
use Rattle.cl_tight.specs.TightFindings.{tight_chain_answer_of}
use Rattle.cl_explain.specs.Explanation.{report_lines_of, tight_lines, chain_lines_of}
use Rattle.cl_explain.proofs.explaining.put_chains.Goals as goal

pub loop-chain-preserved : goal.loop-chain-preserved
unfolding chain_lines_of
loop-chain-preserved g c =
    let model = c.args.model.now in
    let i = c.loop-chain.chain in
    let tight = tight_lines model i (tight_chain_answer_of model (chain_at model i)) in
    record {
      text = line_more (λ (chain : ℕ). report_lines_of model chain ++ tight_lines model chain (tight_chain_answer_of model (chain_at model chain)))
          c.args.text.now c.loop-chain.text c.put_tight.new.text i c.loop-chain.invariant.text
          (c.in_ok-put_tight.ensures.text ∙ ap (λ (t : List ℕ). t ++ tight) c.in_ok-put_chain_lines.ensures.text ∙ append_assoc c.loop-chain.text (report_lines_of model i) tight);
      steps = omega (arith, c.loop-chain.invariant.steps, c.put_chain_lines.ensures.steps);
      windows = c.put_tight.ensures.windows;
    }
