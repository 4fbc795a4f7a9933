use Rattle.std.proofs.Common.{◌≡◌, ℕ, List, [], ◌∷◌, ◌++◌, length, get_or, sym, ap, ◌∙◌, arith, below_more}
use Rattle.std.proofs.lemmas.List.{get_or_append_left, length_push, get_or_default}
use Rattle.std.proofs.Math.Seq.{get_or-append_seam}
use Rattle.cl_tune.specs.Orders.{priority_in}
use Rattle.cl_tune.proofs.ordering.priorities_by.Goals as goal

-- what is pushed stands at the end
last_is : (xs : List ℕ) (x place : ℕ) → length xs ≡ place → get_or (xs ++ x ∷ []) place 0 ≡ x
last_is xs x place is = ap (λ n. get_or (xs ++ x ∷ []) n 0) (sym is) ∙ get_or-append_seam xs x [] 0

pub loop-task-preserved : goal.loop-task-preserved
loop-task-preserved c =
    let model = c.args.model.now in
    let before = c.loop-task.priorities in
    let here = c.loop-task.task in
    let pushed : c.push.new.self ≡ before ++ c.priority_in.result ∷ [] = c.in_ok-push.ensures.ok in (
      ap length pushed ∙ length_push before c.priority_in.result ∙ omega (arith, c.loop-task.invariant.0),
      below_more _ here
          (λ task lt d. ap (λ (list : List ℕ). get_or list task 0) pushed
          ∙ get_or_append_left before (c.priority_in.result ∷ []) 0 task (omega (arith, lt, c.loop-task.invariant.0))
          ∙ c.loop-task.invariant.1 task lt d)
          (λ d. ap (λ (list : List ℕ). get_or list here 0) pushed
          ∙ last_is before c.priority_in.result here c.loop-task.invariant.0
          ∙ c.priority_in.ensures
          ∙ ap (λ (order : List ℕ). priority_in order here)
          (c.as_slice.ensures.value
          ∙ ap (λ order. order.items) (c.index-orders-core_of.is ∙ get_or_default c.args.orders.now c.core_of.result c.index-orders-core_of.result d (omega (arith, c.requires, c.core_of.ensures.within))
          ∙ ap (λ core. get_or c.args.orders.now core d) c.core_of.ensures.core))),
    )

pub returns-clause-each : goal.returns-clause-each
returns-clause-each c = λ task lt d. c.loop-task.invariant.1 task (omega (arith, lt, c.loop-task-test.false, c.tasks-task-end.ensures.count)) d
