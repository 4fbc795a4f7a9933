use Rattle.std.proofs.Common.{◌≡◌, [], ◌∷◌, length, take, sym, ap, ◌∙◌, take_all, arith}
use Rattle.std.specs.Prelude.{sum_by}
use Rattle.std.proofs.lemmas.List.{length-append}
use Rattle.std.proofs.lemmas.List.Elements.{All-push}
use Rattle.cl_model.specs.ByNumber.{core_of, tasks_of_core}
use Rattle.cl_model.proofs.CoreTasks.{few_tasks}
use Rattle.cl_lead.specs.Inner.Sure.{time_if, counted_time, IsSureTaskInRange}
use Rattle.cl_lead.proofs.{SureTasks.{one_more, none_more, not_more}, lead.all_sure.Goals.{then-is_sure+in-Some, then-is_sure+in_default, else-is_sure}}
use Rattle.cl_lead.proofs.lead.all_sure.Goals as goal

pub push-requires : goal.push-requires
push-requires c =
    let model = c.args.model.now in
    let all : c.tasks_of_core-other-items.result.now ≡ tasks_of_core model (core_of model c.args.task)
    = c.tasks_of_core-other-items.ensures.tasks ∙ ap (tasks_of_core model) c.core_of.ensures.core in (
      omega arith,
      omega (
        arith,
        c.loop-other.invariant.few,
        c.loop-other-test.true,
        ap length all,
        few_tasks model c.requires.valid (core_of model c.args.task),
      ),
    )

pub loop-other-preserved : goal.loop-other-preserved
loop-other-preserved c =
    let model = c.args.model.now in
    let task = c.args.task in
    let taken = c.args.cycle.now.in_phase.items in
    let others = c.tasks_of_core-other-items.result.now in
    let index = c.loop-other.other-index in
    let within = c.loop-other-test.true in
    let before = c.loop-other.invariant in
    let items = c.loop-other.above.items in
    elim c.if-is_sure.branch [
      | then-is_sure+in-Some w ↦ rw w.above-is (rw w.push.ensures.items (record {
        few = omega (arith, before.few, length-append items (w.in-Some.sure ∷ []));
        time = λ from width. one_more model task taken others index within items from width (before.time from width) w.in-Some.sure
            (sym c.is_sure.ensures ∙ w.if-is_sure.true) (ap (time_if from width) (sym w.in-Some.is) ∙ w.sure_task.ensures.time from width);
        in_range = All-push IsSureTaskInRange items w.in-Some.sure before.in_range w.in-Some.ensures.in_range;
      }))
      | then-is_sure+in_default w ↦ rw w.above-is (record {
        few = omega (arith, before.few);
        time = λ from width. none_more model task taken others index within items from width (before.time from width)
            (sym c.is_sure.ensures ∙ w.if-is_sure.true) (ap (time_if from width) (sym w.in_default.is) ∙ w.sure_task.ensures.time from width);
        in_range = before.in_range;
      })
      | else-is_sure w ↦ rw w.above-is (record {
        few = omega (arith, before.few);
        time = λ from width. not_more model task taken others index within items from width (before.time from width)
            (sym c.is_sure.ensures ∙ w.if-is_sure.false);
        in_range = before.in_range;
      })
    ]

pub returns-clause-time : goal.returns-clause-time
returns-clause-time c from width =
    let model = c.args.model.now in
    let others = c.tasks_of_core-other-items.result.now in
    let all : take c.loop-other.other-index others ≡ tasks_of_core model (core_of model c.args.task)
    = take_all c.loop-other.other-index others (omega (arith, c.loop-other-test.false))
    ∙ c.tasks_of_core-other-items.ensures.tasks ∙ ap (tasks_of_core model) c.core_of.ensures.core in
    c.loop-other.invariant.time from width
    ∙ ap (sum_by (counted_time model c.args.task c.args.cycle.now.in_phase.items from width)) all
