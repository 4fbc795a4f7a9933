use Rattle.std.proofs.Common.{◌∙◌, arith}
use Rattle.std.proofs.lemmas.Int.{ints, clamps}
use Rattle.cl_near.proofs.NearWindows.{held_arrival, held_start, moved_run}
use Rattle.cl_near.proofs.task_plan.moved.Goals as goal

pub returns-clause-window : goal.returns-clause-window
returns-clause-window c =
    let model = c.args.model.now in
    let valid = c.steady_together-steady.ensures.valid in
    let steady = c.steady_together-steady.ensures.near in
    let window = c.args.window in
    let arrival = held_arrival model valid c.args.task c.requires.task window c.requires.worst in
    let start = held_start model valid c.args.task c.requires.task window c.requires.worst in
    let moved = moved_run model valid c.args.task c.requires.task window c.requires.worst c.ticks.result (c.ticks.ensures ∙ c.of-cycle.ensures.ticks)
    (omega (arith, ints, clamps, arrival, start, c.min-first.ensures.value))
    (omega (arith, ints, steady), omega (arith, ints, steady)) c.turns_to_reach-ticks.ensures.least in
    moved.1 _ (omega (arith, ints, arrival, moved.0.moved, moved.0.arrival)) (omega (arith, ints, start, moved.0.moved, moved.0.start))

pub returns-clause-near : goal.returns-clause-near
returns-clause-near c =
    let model = c.args.model.now in
    let valid = c.steady_together-steady.ensures.valid in
    let steady = c.steady_together-steady.ensures.near in
    let window = c.args.window in
    let arrival = held_arrival model valid c.args.task c.requires.task window c.requires.worst in
    let start = held_start model valid c.args.task c.requires.task window c.requires.worst in
    let few = (moved_run model valid c.args.task c.requires.task window c.requires.worst c.ticks.result (c.ticks.ensures ∙ c.of-cycle.ensures.ticks)
    (omega (arith, ints, clamps, arrival, start, c.min-first.ensures.value))
    (omega (arith, ints, steady), omega (arith, ints, steady)) c.turns_to_reach-ticks.ensures.least).0 in
    record {
      arrival = (omega (arith, ints, arrival, few.moved, few.arrival), omega (arith, ints, arrival, few.moved, few.arrival));
      start = (omega (arith, ints, start, few.moved, few.start), omega (arith, ints, start, few.moved, few.start));
    }

pub overflow_add-result : goal.overflow_add-result
overflow_add-result c =
    let model = c.args.model.now in
    let valid = c.steady_together-steady.ensures.valid in
    let steady = c.steady_together-steady.ensures.near in
    let window = c.args.window in
    let arrival = held_arrival model valid c.args.task c.requires.task window c.requires.worst in
    let start = held_start model valid c.args.task c.requires.task window c.requires.worst in
    let few = (moved_run model valid c.args.task c.requires.task window c.requires.worst c.ticks.result (c.ticks.ensures ∙ c.of-cycle.ensures.ticks)
    (omega (arith, ints, clamps, arrival, start, c.min-first.ensures.value))
    (omega (arith, ints, steady), omega (arith, ints, steady)) c.turns_to_reach-ticks.ensures.least).0 in
    omega (arith, ints, arrival, few.moved, few.arrival)

pub overflow_add-result-2 : goal.overflow_add-result-2
overflow_add-result-2 c =
    let model = c.args.model.now in
    let valid = c.steady_together-steady.ensures.valid in
    let steady = c.steady_together-steady.ensures.near in
    let window = c.args.window in
    let arrival = held_arrival model valid c.args.task c.requires.task window c.requires.worst in
    let start = held_start model valid c.args.task c.requires.task window c.requires.worst in
    let few = (moved_run model valid c.args.task c.requires.task window c.requires.worst c.ticks.result (c.ticks.ensures ∙ c.of-cycle.ensures.ticks)
    (omega (arith, ints, clamps, arrival, start, c.min-first.ensures.value))
    (omega (arith, ints, steady), omega (arith, ints, steady)) c.turns_to_reach-ticks.ensures.least).0 in
    omega (arith, ints, start, few.moved, few.start)
