use Rattle.std.proofs.Common.{◌<◌, length, refl, sym, ap, arith}
use Rattle.std.proofs.lemmas.List.{length-map}
use Rattle.cl_analyse.specs.ChainAnswers.{chain_answer_of}
use Rattle.cl_cut.proofs.ChainValues.{answer_read, late_found, none_found}
use Rattle.cl_cut.proofs.cutting.late_task.Goals as goal

pub returns-in-Late : goal.returns-in-Late
returns-in-Late c = λ model are.
    let within : c.args.chain < length model.chains = omega (arith, c.requires, ap length are, length-map model.chains (chain_answer_of model)) in
    sym (late_found model c.args.chain within c.in-Late.task
    (answer_read model c.args.chain c.args.found.now c.args.found.now _ _ refl are within c.in-Late.is))

pub returns-in-Bounds : goal.returns-in-Bounds
returns-in-Bounds c = λ model are.
    let within : c.args.chain < length model.chains = omega (arith, c.requires, ap length are, length-map model.chains (chain_answer_of model)) in
    sym (none_found model c.args.chain within c.in-Bounds.field-0
    (answer_read model c.args.chain c.args.found.now c.args.found.now _ _ refl are within c.in-Bounds.is))
