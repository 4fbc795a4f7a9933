use Rattle.std.proofs.Common.{◌≡◌, ℕ, ◌-◌, List, length, get_or, inl, inr, sym, ap, ◌∙◌, subst, arith}
use Rattle.std.specs.Prelude.{Some, unwrap_or}
use Rattle.std.proofs.lemmas.Option.{slice_get-get_or}
use Rattle.cl_edit.specs.Inner.{Paces.with_retiming, Places.IsFirstBeyond}
use Rattle.cl_edit.specs.declared.pace.Retiming.TheVariants as change
use Rattle.cl_edit.proofs.FullCores.{none_beyond, last_beyond, last_of, count_all}
use Rattle.cl_edit.proofs.check_move.first_beyond.Goals as goal

-- where the task is on the core already, or the core has room, none
pub returns-then-core_of-core : goal.returns-then-core_of-core
returns-then-core_of-core c =
    λ priority. none_beyond c.args.model.now c.requires.valid c.args.task c.args.core priority c.requires.task c.requires.core (elim c.then-core_of-core.either [
      | inl on ↦ inl (sym c.core_of.ensures.core ∙ on)
      | inr room ↦ inr (omega (arith, room.1, ap length c.tasks_of_core-others.ensures.tasks, count_all c.args.model.now c.args.core))
    ])

-- and else the last of the core and the task
pub returns-in-Some : goal.returns-in-Some
returns-in-Some c =
    λ priority.
    let model = c.args.model.now in
    let core = c.args.core in
    let others : List ℕ = c.tasks_of_core-others.result.now in
    let full = c.if-others-lt-MOST_TASKS_OF_CORE.false in
    let all = ap length c.tasks_of_core-others.ensures.tasks in
    let place : ℕ = length others - 1 in
    let at : c.in-Some.last.now ≡ get_or others place 0 = ap (λ o. unwrap_or o 0) (c.in-Some.ensures.value ∙ slice_get-get_or others place 0 (omega (arith, full))) in
    subst (λ k. IsFirstBeyond (with_retiming model (change.Move c.args.task core priority)) (Some k)) (sym c.later_of.ensures)
    (last_beyond model c.requires.valid c.args.task core priority c.requires.task c.requires.core c.in-Some.last.now (λ on. c.if-core_of-core.false (c.core_of.ensures.core ∙ on))
    (omega (arith, full, all, count_all model core))
    (last_of model core (length model.tasks) place c.in-Some.last.now others c.tasks_of_core-others.ensures.tasks (omega (arith, full)) at))
