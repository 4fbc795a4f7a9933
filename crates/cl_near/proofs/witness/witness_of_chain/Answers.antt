use Rattle.std.proofs.Common.{◌∙◌}
use Rattle.std.proofs.lemmas.Result.{IfOk-weaker}
use Rattle.cl_near.proofs.AllCores.{lawful_of_all}
use Rattle.cl_near.proofs.witness.witness_of_chain.Goals as goal

pub returns : goal.returns
returns c = IfOk-weaker c.planned_table.result _ _
    (lawful_of_all c.args.model.now c.plain-valid.ensures.valid c.as_slice.result.now (c.as_slice.ensures ∙ c.in_ok-cores.ensures))
    c.planned_table.ensures.lawful
