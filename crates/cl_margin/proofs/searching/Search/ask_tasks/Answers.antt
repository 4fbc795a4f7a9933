use Rattle.std.proofs.Common.{ℕ, ◌-◌, inl, inr, length, get_or, sym, subst, arith}
use Rattle.std.proofs.lemmas.Bool.{cases_eq}
use Rattle.cl_margin.specs.{Grown.grown, Inner.Searches.KeepsTask}
use Rattle.cl_margin.proofs.{SearchEnds.{order_known, all_tasks}, StaysMet.task_met_below}
use Rattle.cl_margin.proofs.searching.Search.ask_tasks.Goals as goal

pub loop-asked-init : goal.loop-asked-init
loop-asked-init g c = record { is = c.requires.search; tasks = λ k past lt. absurd (omega (arith, past, lt)) }

pub returns-clause-tasks : goal.returns-clause-tasks
returns-clause-tasks g c = all_tasks c.args.standing.now.model.now c.args.standing.now.order.now c.requires.standing.order _
    (λ k lt. c.loop-asked.invariant.tasks k (omega arith) lt)

pub ask_task-requires-clause-task : goal.ask_task-requires-clause-task
ask_task-requires-clause-task g c =
    order_known c.args.standing.now.model.now c.args.standing.now.order.now c.requires.standing.order _ 0 (omega (arith, c.loop-asked-test.true))

pub loop-asked-preserved : goal.loop-asked-preserved
loop-asked-preserved g c =
    let model = c.args.standing.now.model.now in
    let order = c.args.standing.now.order.now in
    let asked = c.in_ok-search.ensures in
    let is = c.loop-asked.invariant in
    let place : ℕ = length order - 1 - c.loop-asked.asked in
    record {
      is = asked.search;
      tasks = λ k past lt. elim (cases_eq k place) [
        | inl same ↦ subst (λ n. KeepsTask model (grown model c.args.whose c.in_ok-search.search.percent) (get_or order n 0)) (sym same) asked.kept
        | inr apart ↦ λ met. task_met_below model c.requires.standing.valid c.args.whose _ c.loop-asked.search.percent asked.no_greater is.is.in_range (get_or order k 0)
            (order_known model order c.requires.standing.order k 0 lt) (is.tasks k (omega (arith, past, apart, lt)) lt met)
      ];
    }
