use Rattle.std.proofs.Common.{rules, sym, ◌∙◌}
use Rattle.std.proofs.lemmas.List.{append_assoc}
use Rattle.std.proofs.lemmas.Result.{IfOk-equal}
use Rattle.cl_designs.specs.Cuts.{cut_line}
use Rattle.cl_designs.proofs.DesignLines.{answer_within, answer_found, late_within}
use Rattle.cl_designs.proofs.cuts.put_chain.Goals as goal

pub bounds-answers-chain : goal.bounds-answers-chain
bounds-answers-chain c = answer_within c.args.model.now c.args.answers.now c.requires.answers c.args.chain c.requires.within

pub put_cut-requires : goal.put_cut-requires
put_cut-requires c =
    let model = c.args.model.now in
    let answers = c.args.answers.now in
    let found = answer_found model answers c.requires.answers c.args.chain c.requires.within c.index-answers-chain.result c.index-answers-chain.is in
    λ late named. late_within model answers c.requires.answers c.args.chain c.requires.within c.chain.ensures.valid late (sym found ∙ named)

pub returns : goal.returns
unfolding cut_line
returns c =
    let found = answer_found c.args.model.now c.args.answers.now c.requires.answers c.args.chain c.requires.within c.index-answers-chain.result c.index-answers-chain.is in
    search (rules, IfOk-equal, append_assoc)
