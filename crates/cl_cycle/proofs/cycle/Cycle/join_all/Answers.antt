use Rattle.std.proofs.Common.{◌≡◌, ℕ, ◌+◌, ◌<◌, true, false, List, length, get_or, take, sym, ap, ◌∙◌, subst, take_all, arith}
use Rattle.std.specs.List.{filter, fold}
use Rattle.cl_model.specs.ByNumber.{tasks_of_core}
use Rattle.cl_runs.specs.SystemOf.{system_of}
use Rattle.cl_cycle.specs.{Cycles.joined_by, Inner.Gathering.{is_above_with, tasks_beside, IsGathered}}
use Rattle.cl_cycle.proofs.{GatheredLists.{fold_more_yes, fold_more_no, length_more_yes, length_more_le, length_taken}, GatheredNumbers.{has_period, has_other_period, has_no_period, fixed_above}, cycle.Cycle.join_all.Goals.{in-Some+then-phase-period, in-Some+else-phase-period, in_default}}
use Rattle.cl_cycle.proofs.cycle.Cycle.join_all.Goals as goal

pub join-requires-clause-room : goal.join-requires-clause-room
join-requires-clause-room c =
    let model = c.args.model.now in
    let others = c.tasks_of_core-other-items.result.now in
    let index = c.loop-other.other-index in
    let test = is_above_with model c.args.task c.args.period in
    let all : others ≡ tasks_beside model c.args.task = c.tasks_of_core-other-items.ensures.tasks ∙ ap (tasks_of_core model) c.core_of.ensures.core in
    let passes : test (get_or others index 0) ≡ true =
    has_period model c.args.task c.args.period (get_or others index 0) c.in-Some.phase (sym c.phase_above.ensures.phase ∙ c.in-Some.is) c.if-phase-period.true in
    let whole : length (filter test others) ≡ length (filter test (tasks_beside model c.args.task)) = ap (λ list. length (filter test list)) all in
    omega (arith, length_more_yes test others index 0 c.loop-other-test.true passes, length_taken test others (index + 1), whole, c.loop-other.invariant.room, c.requires.room)

pub loop-other-preserved : goal.loop-other-preserved
loop-other-preserved c =
    let model = c.args.model.now in
    let task = c.args.task in
    let system = system_of model in
    let others = c.tasks_of_core-other-items.result.now in
    let index = c.loop-other.other-index in
    let other = get_or others index 0 in
    let test = is_above_with model task c.args.period in
    let within = c.loop-other-test.true in
    let known : other < length model.tasks = c.tasks_of_core-other-items.ensures.within index 0 within in
    let before = c.loop-other.invariant in
    elim c.match-phase_above.branch [
      | in-Some+then-phase-period w ↦
          let is = sym c.phase_above.ensures.phase ∙ w.in-Some.is in
          let passes : test other ≡ true = has_period model task c.args.period other w.in-Some.phase is w.if-phase-period.true in
          rw w.self-is (record {
            ticks = w.join.ensures.ticks;
            room = omega (arith, before.room, w.join.ensures.room, length_more_yes test others index 0 within passes);
            gathered = λ so_far gathered.
                rw (fold_more_yes (joined_by system task) so_far test others index 0 within passes)
                (w.join.ensures.gathered system task (fold (joined_by system task) so_far (filter test (take index others)))
                (fixed_above model task other known w.in-Some.phase is) (before.gathered so_far gathered));
          })
      | in-Some+else-phase-period w ↦
          let is = sym c.phase_above.ensures.phase ∙ w.in-Some.is in
          let fails : test other ≡ false = has_other_period model task c.args.period other w.in-Some.phase is w.if-phase-period.false in
          rw w.self-is (record {
            ticks = before.ticks;
            room = omega (arith, before.room, length_more_le test others index 0 within);
            gathered = λ so_far gathered. rw (fold_more_no (joined_by system task) so_far test others index 0 within fails) (before.gathered so_far gathered);
          })
      | in_default w ↦
          let fails : test other ≡ false = has_no_period model task c.args.period other (sym c.phase_above.ensures.phase ∙ w.in_default.is) in
          rw w.self-is (record {
            ticks = before.ticks;
            room = omega (arith, before.room, length_more_le test others index 0 within);
            gathered = λ so_far gathered. rw (fold_more_no (joined_by system task) so_far test others index 0 within fails) (before.gathered so_far gathered);
          })
    ]

pub returns-clause-room : goal.returns-clause-room
returns-clause-room c =
    let model = c.args.model.now in
    let others = c.tasks_of_core-other-items.result.now in
    let test = is_above_with model c.args.task c.args.period in
    let all : others ≡ tasks_beside model c.args.task = c.tasks_of_core-other-items.ensures.tasks ∙ ap (tasks_of_core model) c.core_of.ensures.core in
    let whole : length (filter test others) ≡ length (filter test (tasks_beside model c.args.task)) = ap (λ list. length (filter test list)) all in
    omega (arith, c.loop-other.invariant.room, length_taken test others c.loop-other.other-index, whole)

pub returns-clause-gathered : goal.returns-clause-gathered
returns-clause-gathered c so_far gathered =
    let model = c.args.model.now in
    let others = c.tasks_of_core-other-items.result.now in
    let test = is_above_with model c.args.task c.args.period in
    let all : take c.loop-other.other-index others ≡ tasks_beside model c.args.task =
    take_all c.loop-other.other-index others (omega (arith, c.loop-other-test.false))
    ∙ c.tasks_of_core-other-items.ensures.tasks ∙ ap (tasks_of_core model) c.core_of.ensures.core in
    subst (λ (list : List ℕ). IsGathered (system_of model) c.args.task (fold (joined_by (system_of model) c.args.task) so_far (filter test list)) c.loop-other.self) all
    (c.loop-other.invariant.gathered so_far gathered)
