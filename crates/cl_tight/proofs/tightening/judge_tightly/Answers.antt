use Rattle.std.proofs.Common.{sym, ap, ◌∙◌, ℕ, Option, unwrap_or}
use Rattle.cl_tight.proofs.{TightLists.{judged_exact, judged_bound}, tightening.judge_tightly.Goals.{then-has_exact_bounds, else-has_exact_bounds}}
use Rattle.cl_tight.proofs.tightening.judge_tightly.Goals as goal

pub returns : goal.returns
returns c =
    let same = c.unwrap_or-chain.ensures ∙ ap (λ (o : Option ℕ). unwrap_or o 0) c.chain_named.ensures.number in
    c.verdict_on.ensures ∙ elim c.if-has_exact_bounds.branch [
      | then-has_exact_bounds w ↦
          judged_exact c.args.model.now c.args.chains.now c.args.requirement.now c.unwrap_or-chain.result c.required_bound-bound.result
          same c.required_bound-bound.ensures c.if-has_exact_bounds.exact w.exact-is (sym c.has_exact_bounds.ensures ∙ w.if-has_exact_bounds.true)
      | else-has_exact_bounds w ↦
          judged_bound c.args.model.now c.args.chains.now c.args.requirement.now c.unwrap_or-chain.result c.required_bound-bound.result
          same c.required_bound-bound.ensures c.if-has_exact_bounds.exact w.exact-is (sym c.has_exact_bounds.ensures ∙ w.if-has_exact_bounds.false)
    ]
