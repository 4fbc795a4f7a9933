use Rattle.std.proofs.Common.{◌≡◌, ℕ, suc, ◌+◌, ◌-◌, ◌<◌, ◌≤◌, max, not, Option, Some, None, List, [], ◌∷◌, ◌++◌, length, refl, sym, ap, ◌∙◌, subst, arith}
use Rattle.std.specs.Prelude.{All, ◌==◌, find}
use Rattle.std.proofs.lemmas.List.Elements.{All-filter}
use Rattle.cl_model.specs.{declared.limits.TheConstants.{MOST_TICKS, MOST_TASKS_OF_CORE}, ByNumber.tasks_of_core}
use Rattle.cl_model.proofs.CoreTasks.{few_tasks}
use Rattle.cl_runs.specs.{SystemOf.system_of, TaskTiming.timing_at}
use Rattle.cl_resp.specs.Question.{longest_hold}
use Rattle.cl_resp.proofs.Filters.{shorter}
use Rattle.cl_tune.specs.Inner.Filling.{without, fits, best_order}
use Rattle.cl_tune.proofs.{Members.distinct_filter, FilledOrders.tasks_distinct, FillingSteps.{found_known, behind, none_fits, one_fits, all_placed}, filling.best_order.Invariants.IsSoFar}
use Rattle.cl_tune.proofs.filling.best_order.Goals as goal

start : (whole : Option (List ℕ)) → whole ≡ behind [] whole
start None = refl
start (Some order) = refl

pub loop-init : goal.loop-init
loop-init g c =
    let model = c.args.model.now in
    let tasks = tasks_of_core model c.args.core in
    let unplaced : c.in_ok-unplaced.unplaced.items ≡ tasks = c.in_ok-unplaced.ensures.items ∙ c.tasks_of_core-tasks.ensures.tasks in
    let count : length c.tasks_of_core-tasks.result.now - 0 ≡ length tasks = omega (arith, ap length c.tasks_of_core-tasks.ensures.tasks) in
    subst (λ (n : ℕ). IsSoFar model c.args.core c.new-order.result.items n 0 c.in_ok-unplaced.unplaced.items) (sym count)
    (subst (λ (list : List ℕ). IsSoFar model c.args.core c.new-order.result.items (length tasks) 0 list) (sym unplaced)
    (subst (λ (list : List ℕ). IsSoFar model c.args.core list (length tasks) 0 tasks) (sym c.new-order.ensures.items)
    (record {
      so_far = start (best_order (system_of model) (length tasks) 0 tasks);
      small = omega arith;
      known = subst (λ (list : List ℕ). All (λ other. other < length model.tasks) list) c.tasks_of_core-tasks.ensures.tasks c.tasks_of_core-tasks.ensures.within;
      few = few_tasks model c.requires.valid c.args.core;
      once = tasks_distinct model c.args.core;
    })))

pub returns-in_default : goal.returns-in_default
returns-in_default g c =
    let model = c.args.model.now in
    let left : length c.tasks_of_core-tasks.result.now - c.loop.counter ≡ suc (length c.tasks_of_core-tasks.result.now - (c.loop.counter + 1)) = omega (arith, c.loop-test.true) in
    let none : find (fits (system_of model) c.loop.block c.loop.unplaced.items) c.loop.unplaced.items ≡ None =
    ap (λ (list : List ℕ). find (fits (system_of model) c.loop.block list) list) (sym c.as_slice.ensures.value) ∙ sym c.in_ok-task.ensures ∙ c.in_default.is in
    sym (none_fits (system_of model) _ c.loop.order.items _ _ c.loop.block c.loop.unplaced.items left c.loop.invariant.so_far none)

pub longest_hold-requires : goal.longest_hold-requires
longest_hold-requires g c =
    let model = c.args.model.now in
    found_known (λ other. other < length model.tasks) (fits (system_of model) c.loop.block c.loop.unplaced.items) c.loop.unplaced.items c.in-Some.task c.loop.invariant.known
    (ap (λ (list : List ℕ). find (fits (system_of model) c.loop.block list) list) (sym c.as_slice.ensures.value) ∙ sym c.in_ok-task.ensures ∙ c.in-Some.is)

pub loop-preserved : goal.loop-preserved
loop-preserved g c =
    let model = c.args.model.now in
    let task = c.in-Some.task in
    let left : length c.tasks_of_core-tasks.result.now - c.loop.counter ≡ suc (length c.tasks_of_core-tasks.result.now - (c.loop.counter + 1)) = omega (arith, c.loop-test.true) in
    let found : find (fits (system_of model) c.loop.block c.loop.unplaced.items) c.loop.unplaced.items ≡ Some task =
    ap (λ (list : List ℕ). find (fits (system_of model) c.loop.block list) list) (sym c.as_slice.ensures.value) ∙ sym c.in_ok-task.ensures ∙ c.in-Some.is in
    let placed : c.push.new.self.items ≡ c.loop.order.items ++ task ∷ [] = c.in_ok-push.ensures.items in
    let block : c.max-block.result ≡ max c.loop.block (longest_hold (timing_at (system_of model) task)) = c.max-block.ensures ∙ ap (max c.loop.block) c.longest_hold.ensures.hold in
    let unplaced : c.in_ok-unplaced-2.unplaced.items ≡ without task c.loop.unplaced.items = c.in_ok-unplaced-2.ensures ∙ ap (without task) c.as_slice-in-loop.ensures.value in
    let rest = length c.tasks_of_core-tasks.result.now - (c.loop.counter + 1) in
    let fewer = shorter (λ other. not (other == task)) c.loop.unplaced.items in
    let short : length (without task c.loop.unplaced.items) ≤ MOST_TASKS_OF_CORE = omega (arith, fewer, c.loop.invariant.few) in
    let small : max c.loop.block (longest_hold (timing_at (system_of model) task)) ≤ MOST_TICKS = omega (arith, c.loop.invariant.small, c.longest_hold.ensures.small, c.longest_hold.ensures.hold) in
    subst (λ (list : List ℕ). IsSoFar model c.args.core list rest c.max-block.result c.in_ok-unplaced-2.unplaced.items) (sym placed)
    (subst (λ (n : ℕ). IsSoFar model c.args.core (c.loop.order.items ++ task ∷ []) rest n c.in_ok-unplaced-2.unplaced.items) (sym block)
    (subst (λ (list : List ℕ). IsSoFar model c.args.core (c.loop.order.items ++ task ∷ []) rest (max c.loop.block (longest_hold (timing_at (system_of model) task))) list) (sym unplaced)
    (record {
      so_far = one_fits (system_of model) _ c.loop.order.items _ _ c.loop.block c.loop.unplaced.items left c.loop.invariant.so_far task found;
      small = small;
      known = All-filter (λ other. not (other == task)) (λ other. other < length model.tasks) c.loop.unplaced.items c.loop.invariant.known;
      few = short;
      once = distinct_filter (λ other. not (other == task)) c.loop.unplaced.items c.loop.invariant.once;
    })))

pub returns : goal.returns
returns g c =
    sym (all_placed (system_of c.args.model.now) _ c.loop.order.items _ c.loop.block c.loop.unplaced.items (omega (arith, c.loop-test.false)) c.loop.invariant.so_far)
