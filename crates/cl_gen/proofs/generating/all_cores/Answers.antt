use Rattle.std.proofs.Common.{ℕ, List, ap, arith}
use Rattle.cl_model.specs.declared.model.CoreDef.{CoreDef}
use Rattle.cl_gen.specs.Generated.{generated_core}
use Rattle.cl_gen.proofs.MappedRanges.{mapped_more}
use Rattle.cl_gen.proofs.generating.all_cores.Goals as goal

pub loop-number-preserved : goal.loop-number-preserved
loop-number-preserved c =
    let named : List ℕ → CoreDef = λ name. record { name = name } in
    mapped_more generated_core 0 c.loop-number.number c.loop-number.number _ _ _ (omega arith) c.loop-number.invariant
    (ap named c.numbered-name.ensures) c.in_ok-push.ensures.ok
