use Rattle.std.proofs.Common.{◌≡◌, ℕ, ◌<◌, ◌==◌, List, length, get_or, sym, ap, ◌∙◌, arith}
use Rattle.std.specs.List.{range_with_len}
use Rattle.std.proofs.lemmas.Bool.{eqb-true}
use Rattle.std.proofs.lemmas.List.Elements.{filter_passes}
use Rattle.cl_model.specs.ByNumber.{core_of, tasks_of_core}
use Rattle.cl_incr.specs.Inner.Standing.{timing_in}
use Rattle.cl_incr.proofs.{SameCores.stands_on_core, SameQuestions.{maps_count, maps_at}, StandingTasks.note_standing}
use Rattle.cl_incr.proofs.standing.note_core.Goals as goal

pub loop-place-preserved : goal.loop-place-preserved
loop-place-preserved c =
    let old = c.args.old.now in
    let new = c.args.new.now in
    let core = c.args.core in
    let place = c.loop-place.place in
    let was : ℕ = get_or c.tasks_of_core-were.result.now place 0 in
    let task : ℕ = get_or c.tasks_of_core-are.result.now place 0 in
    let was_is : was ≡ get_or (tasks_of_core old core) place 0 = ap (λ (l : List ℕ). get_or l place 0) c.tasks_of_core-were.ensures.tasks in
    let task_is : task ≡ get_or (tasks_of_core new core) place 0 = ap (λ (l : List ℕ). get_or l place 0) c.tasks_of_core-are.ensures.tasks in
    let within : place < length (tasks_of_core new core) = omega (arith, c.loop-place-test.true, ap length c.tasks_of_core-are.ensures.tasks) in
    let is_task : task < length new.tasks = c.tasks_of_core-are.ensures.within place 0 c.loop-place-test.true in
    let on : core_of new task ≡ core
    = ap (core_of new) task_is
    ∙ eqb-true (core_of new (get_or (tasks_of_core new core) place 0)) core (filter_passes (λ i. core_of new i == core) (range_with_len 0 (length new.tasks)) place 0 within) in
    let timing : timing_in old was ≡ timing_in new task
    = ap (timing_in old) was_is
    ∙ maps_at (timing_in old) (timing_in new) (tasks_of_core old core) (tasks_of_core new core) 0 0 c.requires.same place
    (omega (arith, within, maps_count (timing_in old) (timing_in new) (tasks_of_core old core) (tasks_of_core new core) 0 0 c.requires.same))
    ∙ sym (ap (timing_in new) task_is) in
    note_standing old new c.loop-place.standing.items c.loop-place.invariant task was is_task
    (λ known. stands_on_core old new core c.requires.same was task known is_task on timing)
