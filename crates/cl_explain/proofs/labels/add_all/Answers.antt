use Rattle.std.proofs.Common.{ℕ, List, [], ap, ◌∙◌}
use Rattle.std.proofs.lemmas.List.{get_or_default}
use Rattle.cl_model.specs.NameSets.{names_with}
use Rattle.cl_explain.proofs.MarkedLabels.{more_names}
use Rattle.cl_explain.proofs.labels.add_all.Goals as goal

pub loop-name-preserved : goal.loop-name-preserved
loop-name-preserved c =
    let names = c.args.names.now in
    let i = c.loop-name.name-index in
    λ name. more_names name c.args.set.now c.loop-name.set c.add.new.self names i c.loop-name-test.true (c.loop-name.invariant name)
    (c.in_ok-add.ensures.ok ∙ ap (λ (one : List ℕ). names_with one c.loop-name.set) (c.name-item.is ∙ get_or_default names i c.name-item.result [] c.loop-name-test.true))
