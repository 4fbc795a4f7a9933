use Rattle.cl_near.proofs.SeenChains.{plan_shows_chain, length_found}
use Rattle.cl_near.proofs.chain_seen.length_under.Goals as goal

pub longest_of_kind-requires-clause-shows : goal.longest_of_kind-requires-clause-shows
longest_of_kind-requires-clause-shows c =
    plan_shows_chain c.args.model.now c.plain-valid.ensures.valid c.args.chain c.args.plan.now c.requires.plan c.cores-cores.result.now c.cores-cores.ensures
    c.in_ok-run.run' c.in_ok-run.ensures.legal

pub returns : goal.returns
returns c =
    length_found c.args.model.now c.args.chain c.args.kind c.in_ok-run.run'
    (plan_shows_chain c.args.model.now c.plain-valid.ensures.valid c.args.chain c.args.plan.now c.requires.plan c.cores-cores.result.now c.cores-cores.ensures
    c.in_ok-run.run' c.in_ok-run.ensures.legal)
    c.in_ok-longest.longest c.in_ok-longest.ensures c.length_of.result c.length_of.ensures
