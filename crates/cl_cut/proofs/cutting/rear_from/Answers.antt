use Rattle.std.proofs.Common.{ℕ, ◌-◌, List, length, sym, subst}
use Rattle.std.proofs.lemmas.Result.{IfOk-weaker}
use Rattle.cl_runs.specs.SystemOf.{system_of}
use Rattle.cl_cut.specs.Inner.Rears.{AreValuesFrom}
use Rattle.cl_cut.proofs.ChainValues.{groups_positive, values_some}
use Rattle.cl_cut.proofs.cutting.rear_from.Goals as goal

pub best_from-requires-clause-values : goal.best_from-requires-clause-values
best_from-requires-clause-values g c =
    let groups = c.args.groups.now in
    let system = system_of c.args.model.now in
    let first : ℕ = length groups - 1 - length c.args.rears.now in
    values_some system groups (groups_positive c.args.model.now c.requires.valid groups c.requires.groups) first c.as_slice.result.now
    (subst (λ (list : List ℕ). AreValuesFrom system groups first list) (sym c.as_slice.ensures.value) c.in_ok-values.ensures)

pub returns-clause-best : goal.returns-clause-best
returns-clause-best g c =
    let groups = c.args.groups.now in
    let system = system_of c.args.model.now in
    let first : ℕ = length groups - 1 - length c.args.rears.now in
    let known = subst (λ (list : List ℕ). AreValuesFrom system groups first list) (sym c.as_slice.ensures.value) c.in_ok-values.ensures in
    IfOk-weaker c.best_from.result _ _
    (λ rear best. best system groups (groups_positive c.args.model.now c.requires.valid groups c.requires.groups) known c.requires.rears)
    c.best_from.ensures.best
