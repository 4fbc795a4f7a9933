use Rattle.std.proofs.Common.{arith}
use Rattle.std.proofs.lemmas.Result.{on_ok_weaker}
use Rattle.cl_model.specs.Groups.{groups_at}
use Rattle.cl_model.proofs.GroupFacts.{groups_at_are}
use Rattle.cl_runs.specs.SystemOf.{system_of}
use Rattle.cl_runs.proofs.ModelSystem.{count_is}
use Rattle.cl_check.proofs.JobsInOrder.{groups_in_order}
use Rattle.cl_observe.proofs.PutTexts.{chain_put}
use Rattle.cl_observe.proofs.chain_lines.put_chain.Goals as goal

pub measure_with_delay_apart-requires-clause-ordered : goal.measure_with_delay_apart-requires-clause-ordered
measure_with_delay_apart-requires-clause-ordered c =
    groups_in_order (system_of c.args.model.now) (groups_at c.args.model.now c.args.chain)
    (λ place d within. omega (arith, (groups_at_are c.args.model.now c.plain-valid.ensures.valid c.args.chain place d within).known, count_is c.args.model.now))
    c.args.run.now c.requires.in_order

pub returns : goal.returns
returns c = on_ok_weaker c.put_lengths.result (λ last.
    chain_put c.args.model.now c.args.run.now c.args.answer.now c.args.chain c.in_ok-measured.measured c.in_ok-measured.delay
    c.in_ok-measured.ensures.measured c.in_ok-measured.ensures.greatest c.args.text.now c.put_lengths.new.text last) c.put_lengths.ensures
