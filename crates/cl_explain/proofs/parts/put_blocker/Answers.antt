use Rattle.std.proofs.Common.{◌≡◌, ℕ, ◌+◌, ◌<◌, List, ◌++◌, length, get_or, refl, sym, ap, ◌∙◌, subst, arith}
use Rattle.std.specs.Prelude.{OnOk}
use Rattle.std.specs.List.{position}
use Rattle.std.proofs.lemmas.List.{append-nil}
use Rattle.cl_model.specs.declared.task.{RunnableDef.RunnableDef, TaskDef.TaskDef}
use Rattle.cl_explain.specs.Parts.{blocks_so_long}
use Rattle.cl_explain.proofs.{Blockers.{blocker_below, is_named, none_named, none_of_task, none_apart}, parts.put_blocker.Goals.{then-may_block+in-None, else-may_block}}
use Rattle.cl_explain.proofs.parts.put_blocker.Goals as goal

pub returns-in-Some : goal.returns-in-Some
returns-in-Some c =
    let runnable = c.index-as_slice-place.result in
    let known : c.loop-other.other < length c.args.model.now.tasks = omega (arith, c.loop-other-test.true, c.tasks-other-end.ensures.count) in
    let named = is_named c.args.blocking c.args.model.now c.args.task c.args.block c.loop-other.other c.in-Some.place known c.loop-other.invariant.1
    (sym c.may_block.ensures ∙ c.if-may_block.true)
    (ap (λ (t : TaskDef). position (blocks_so_long c.args.block) t.runnables) (sym c.task-blocker.ensures.task) ∙ sym c.blocks_at.ensures ∙ c.in-Some.is)
    runnable
    (c.index-as_slice-place.is ∙ ap (λ (rs : List RunnableDef). get_or rs c.in-Some.place runnable) (c.as_slice.ensures ∙ ap (λ (t : TaskDef). t.runnables) c.task-blocker.ensures.task)) in
    let there : RunnableDef = get_or c.as_slice.result.now c.in-Some.place runnable in
    subst (λ (name : List ℕ). OnOk c.put_name.result (c.put_name.new.text ≡ c.args.text.now ++ name)) (ap (λ (r : RunnableDef). r.name) (sym c.index-as_slice-place.is) ∙ named)
    (subst (λ (text : List ℕ). OnOk c.put_name.result (c.put_name.new.text ≡ text ++ there.name)) c.loop-other.invariant.0 c.put_name.ensures.ok)

pub loop-other-preserved : goal.loop-other-preserved
loop-other-preserved c =
    let next : c.loop-other.other + 1 ≡ c.loop-other.other + 1 = refl in (
      c.loop-other.invariant.0,
      elim c.if-may_block.branch [
        | then-may_block+in-None w ↦ none_of_task c.args.blocking c.args.model.now c.args.task c.args.block c.loop-other.other (c.loop-other.other + 1) next c.loop-other.invariant.1
            (ap (λ (t : TaskDef). position (blocks_so_long c.args.block) t.runnables) (sym w.task-blocker.ensures.task) ∙ sym w.blocks_at.ensures ∙ w.in-None.is)
        | else-may_block w ↦ none_apart c.args.blocking c.args.model.now c.args.task c.args.block c.loop-other.other (c.loop-other.other + 1) next c.loop-other.invariant.1
            (sym c.may_block.ensures ∙ w.if-may_block.false)
      ],
    )

pub returns : goal.returns
returns c =
    let model = c.args.model.now in
    let all : c.loop-other.other ≡ length model.tasks = omega (arith, c.loop-other-test.false, c.loop-other.auto.other-end, c.tasks-other-end.ensures.count) in
    let none = none_named c.args.blocking model c.args.task c.args.block (ap (blocker_below c.args.blocking model c.args.task c.args.block) (sym all) ∙ c.loop-other.invariant.1) in
    c.loop-other.invariant.0 ∙ sym (append-nil c.args.text.now) ∙ ap (λ (name : List ℕ). c.args.text.now ++ name) (sym none)
