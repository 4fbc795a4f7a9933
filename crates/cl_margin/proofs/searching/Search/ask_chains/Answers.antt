use Rattle.std.proofs.Common.{arith, below_more}
use Rattle.cl_margin.proofs.{SearchEnds.all_chains, AskedItems.chain_below, StaysMet.task_met_below}
use Rattle.cl_margin.proofs.searching.Search.ask_chains.Goals as goal

pub loop-chain-init : goal.loop-chain-init
loop-chain-init g c = record { is = c.requires.search; tasks = c.requires.tasks; chains = λ chain lt. absurd (omega (arith, lt)) }

pub loop-chain-preserved : goal.loop-chain-preserved
loop-chain-preserved g c =
    let model = c.args.standing.now.model.now in
    let valid = c.requires.standing.valid in
    let is = c.loop-chain.invariant in
    let asked = c.in_ok-search.ensures in
    record {
      is = asked.search;
      tasks = λ task h met. task_met_below model valid c.args.whose _ c.loop-chain.search.percent asked.no_greater is.is.in_range task h (is.tasks task h met);
      chains = below_more _ c.loop-chain.chain
          (λ chain lt. chain_below model valid c.args.whose _ c.loop-chain.search.percent asked.no_greater is.is.in_range chain (is.chains chain lt))
          asked.kept;
    }

pub returns-clause-kept : goal.returns-clause-kept
returns-clause-kept g c =
    let is = c.loop-chain.invariant in
    all_chains c.args.standing.now.model.now _ is.is.in_range is.tasks (λ chain lt. is.chains chain (omega arith))
