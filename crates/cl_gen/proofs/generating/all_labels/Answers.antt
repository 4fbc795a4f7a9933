use Rattle.std.proofs.Common.{ℕ, List, ap, arith}
use Rattle.cl_model.specs.declared.model.LabelDef.{LabelDef}
use Rattle.cl_gen.specs.Generated.{generated_label}
use Rattle.cl_gen.proofs.MappedRanges.{mapped_more}
use Rattle.cl_gen.proofs.generating.all_labels.Goals as goal

pub loop-number-preserved : goal.loop-number-preserved
loop-number-preserved c =
    let named : List ℕ → LabelDef = λ name. record { name = name } in
    mapped_more generated_label 0 c.loop-number.number c.loop-number.number _ _ _ (omega arith) c.loop-number.invariant
    (ap named c.label_name-name.ensures) c.in_ok-push.ensures.ok
