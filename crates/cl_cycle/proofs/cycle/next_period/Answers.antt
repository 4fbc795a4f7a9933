use Rattle.std.proofs.Common.{◌≡◌, ℕ, ◌+◌, List, get_or, take, sym, ap, ◌∙◌, subst, take_all, arith}
use Rattle.cl_model.specs.{ByNumber.tasks_of_core, declared.limits.TheConstants.MOST_TICKS}
use Rattle.cl_cycle.specs.Inner.Gathering.{tasks_beside, AreNoneBetween}
use Rattle.cl_cycle.proofs.{GatheredNumbers.{has_other_period, has_no_period, none_more}, cycle.next_period.Goals.{in-Some+then-phase-period, in-Some+else-phase-period, in_default}}
use Rattle.cl_cycle.proofs.cycle.next_period.Goals as goal

pub loop-other-preserved : goal.loop-other-preserved
loop-other-preserved c =
    let model = c.args.model.now in
    let task = c.args.task in
    let others = c.tasks_of_core-other-items.result.now in
    let index = c.loop-other.other-index in
    let other = get_or others index 0 in
    let within = c.loop-other-test.true in
    let before = c.loop-other.invariant in
    elim c.match-phase_above.branch [
      | in-Some+then-phase-period w ↦
          let is = sym c.phase_above.ensures.phase ∙ w.in-Some.is in
          let least = w.least-is ∙ w.min-least.ensures in
          record {
            later = omega (arith, least, before.later, w.if-phase-period.true);
            few = omega (arith, least, before.few);
            none_between = none_more model task c.args.period c.loop-other.least c.match-phase_above.least others index within (omega (arith, least)) before.none_between
                (λ period later sooner. has_other_period model task period other w.in-Some.phase is (λ same. omega (arith, same, sooner, least)));
          }
      | in-Some+else-phase-period w ↦
          let is = sym c.phase_above.ensures.phase ∙ w.in-Some.is in
          rw w.least-is (record {
            later = before.later;
            few = before.few;
            none_between = none_more model task c.args.period c.loop-other.least c.loop-other.least others index within (omega arith) before.none_between
                (λ period later sooner. has_other_period model task period other w.in-Some.phase is (λ same. omega (arith, same, later, w.if-phase-period.false)));
          })
      | in_default w ↦
          rw w.least-is (record {
            later = before.later;
            few = before.few;
            none_between = none_more model task c.args.period c.loop-other.least c.loop-other.least others index within (omega arith) before.none_between
                (λ period later sooner. has_no_period model task period other (sym c.phase_above.ensures.phase ∙ w.in_default.is));
          })
    ]

pub returns-then-least-gt-MOST_TICKS-clause-none : goal.returns-then-least-gt-MOST_TICKS-clause-none
returns-then-least-gt-MOST_TICKS-clause-none c =
    let model = c.args.model.now in
    let others = c.tasks_of_core-other-items.result.now in
    let all : take c.loop-other.other-index others ≡ tasks_beside model c.args.task =
    take_all c.loop-other.other-index others (omega (arith, c.loop-other-test.false))
    ∙ c.tasks_of_core-other-items.ensures.tasks ∙ ap (tasks_of_core model) c.core_of.ensures.core in
    let last : c.loop-other.least ≡ MOST_TICKS + 1 = omega (arith, c.loop-other.invariant.few, c.if-least-gt-MOST_TICKS.true) in
    subst (λ n. AreNoneBetween model c.args.task c.args.period n (tasks_beside model c.args.task)) last
    (subst (λ (list : List ℕ). AreNoneBetween model c.args.task c.args.period c.loop-other.least list) all c.loop-other.invariant.none_between)

pub returns-else-least-gt-MOST_TICKS-clause-next : goal.returns-else-least-gt-MOST_TICKS-clause-next
returns-else-least-gt-MOST_TICKS-clause-next c =
    let model = c.args.model.now in
    let others = c.tasks_of_core-other-items.result.now in
    let all : take c.loop-other.other-index others ≡ tasks_beside model c.args.task =
    take_all c.loop-other.other-index others (omega (arith, c.loop-other-test.false))
    ∙ c.tasks_of_core-other-items.ensures.tasks ∙ ap (tasks_of_core model) c.core_of.ensures.core in
    record {
      later = c.loop-other.invariant.later;
      few = c.if-least-gt-MOST_TICKS.false;
      none_between = subst (λ (list : List ℕ). AreNoneBetween model c.args.task c.args.period c.loop-other.least list) all c.loop-other.invariant.none_between;
    }
