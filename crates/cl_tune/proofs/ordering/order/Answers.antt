use Rattle.std.proofs.Common.{◌≡◌, ℕ, ◌<◌, None, List, [], ◌∷◌, length, get_or, sym, ap, ◌∙◌, arith}
use Rattle.std.specs.Option.{option_map}
use Rattle.cl_model.specs.ByNumber.{tasks_of_core}
use Rattle.cl_runs.specs.SystemOf.{system_of}
use Rattle.cl_tune.specs.{Inner.Filling.best_order, Orders.priority_in}
use Rattle.cl_tune.proofs.CoreOrders.{filled_is_best, none_filled}
use Rattle.cl_tune.proofs.ordering.order.Goals as goal

-- some element of a list that has one
some_element : {X : Type 0} (xs : List X) (place : ℕ) → place < length xs → X
some_element [] place within = absurd (omega (arith, within))
some_element (x ∷ xs) place within = x

pub returns-in_default : goal.returns-in_default
returns-in_default g c =
    let model = c.args.model.now in
    let core = c.loop-core.core in
    let none : best_order (system_of model) (length (tasks_of_core model core)) 0 (tasks_of_core model core) ≡ None =
    sym c.in_ok-order.ensures ∙ ap (λ found. option_map (λ order. order.items) found) c.in_default.is in
    record {
      is_core = omega (arith, c.loop-core-test.true, c.cores-core-end.ensures.count);
      none = none_filled model c.cores-core-end.ensures.valid core none;
      first = λ earlier below.
          let d = some_element c.loop-core.orders.items earlier (omega (arith, below, c.loop-core.invariant.0)) in
          let order = (get_or c.loop-core.orders.items earlier d).items in
          (order, (filled_is_best model c.cores-core-end.ensures.valid earlier order (c.loop-core.invariant.1 earlier below d)).passing);
    }

pub returns : goal.returns
returns g c =
    let model = c.args.model.now in
    record {
      one_a_task = c.in_ok-priorities.ensures.one_a_task;
      cores = λ core h.
          let below : core < c.loop-core.core = omega (arith, h, c.loop-core-test.false, c.cores-core-end.ensures.count) in
          let d = some_element c.loop-core.orders.items core (omega (arith, below, c.loop-core.invariant.0)) in
          let order = (get_or c.loop-core.orders.items core d).items in
          record {
            order = order;
            best = filled_is_best model c.cores-core-end.ensures.valid core order (c.loop-core.invariant.1 core below d);
            given = λ task lt on.
                c.in_ok-priorities.ensures.each task lt d
                ∙ ap (λ n. priority_in (get_or c.as_slice.result.now n d).items task) on
                ∙ ap (λ list. priority_in (get_or list core d).items task) c.as_slice.ensures.value;
          };
    }
