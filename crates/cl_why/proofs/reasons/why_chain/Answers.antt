use Rattle.std.proofs.Common.{ℕ, List, subst}
use Rattle.cl_why.specs.Reasons.{IsReasonOfChain, Appends}
use Rattle.cl_why.proofs.reasons.why_chain.Goals as goal

pub returns : goal.returns
returns c =
    subst (λ (text : List ℕ). Appends (IsReasonOfChain c.args.model.now c.args.chain c.args.kind) text c.put_reason_of_chain.new.text)
    c.in_ok-text.ensures c.in_ok-put_reason_of_chain.ensures.text
