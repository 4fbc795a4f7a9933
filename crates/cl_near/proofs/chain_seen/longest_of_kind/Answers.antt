use Rattle.std.proofs.lemmas.Result.{IfOk-weaker}
use Rattle.cl_model.specs.Groups.{groups_at}
use Rattle.cl_runs.specs.SystemOf.{system_of}
use Rattle.cl_check.proofs.ModelsInOrder.{shown_chain_in_order}
use Rattle.cl_near.proofs.SeenChains.{longest_length_required, longest_delay_required}
use Rattle.cl_near.proofs.chain_seen.longest_of_kind.Goals as goal

pub measure_apart-requires-clause-ordered : goal.measure_apart-requires-clause-ordered
measure_apart-requires-clause-ordered c =
    shown_chain_in_order c.args.model.now c.plain-valid.ensures.valid c.args.run.now c.args.chain c.requires.shows

pub measure_delay_apart-requires-clause-ordered : goal.measure_delay_apart-requires-clause-ordered
measure_delay_apart-requires-clause-ordered c =
    shown_chain_in_order c.args.model.now c.plain-valid.ensures.valid c.args.run.now c.args.chain c.requires.shows

pub returns-in-Length : goal.returns-in-Length
returns-in-Length c =
    longest_length_required (system_of c.args.model.now) c.args.run.now (groups_at c.args.model.now c.args.chain) c.args.kind c.in-Length.length c.in-Length.is
    c.in_ok-measured-in-Length.measured c.in_ok-measured-in-Length.ensures c.longest_of_length.result c.longest_of_length.ensures

pub returns : goal.returns
returns c = IfOk-weaker c.measure_delay_apart.result _ _
    (longest_delay_required (system_of c.args.model.now) c.args.run.now (groups_at c.args.model.now c.args.chain) c.args.kind c.in-Delay.is)
    c.measure_delay_apart.ensures.greatest
