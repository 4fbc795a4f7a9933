use Rattle.std.proofs.Common.{◌≡◌, ◌+◌, ap, ◌∙◌, arith, w64}
use Rattle.std.proofs.lemmas.Int.{to_z-of_z}
use Rattle.cl_stim.specs.Phase.{since_turn}
use Rattle.cl_cycle.specs.Counts.{arrivals_from}
use Rattle.cl_cycle.proofs.{CountedTicks.few_in_width, CountedTurns.{in_turns, counted}}
use Rattle.cl_cycle.proofs.counting.arrivals_from.Goals as goal

-- the arrivals until the end of the window are those until its beginning and those in it
parts : (c : goal.After-arrivals_in_turns-2)
    → c.arrivals_in_turns-2.result + arrivals_from c.args.phase.now c.args.from c.args.width ≡ c.arrivals_in_turns.result
parts c =
    let phase = c.args.phase.now in
    let since : c.since_turn-since.result ≡ since_turn phase c.args.from =
    c.since_turn-since.ensures.since ∙ ap (since_turn phase) (to_z-of_z w64 c.args.from c.ranges.from) in
    omega (
      arith,
      counted phase c.requires.phase.is_phase c.args.width c.args.from,
      ap (in_turns phase) since,
      ap (λ n. in_turns phase (n + c.args.width)) since,
    )

pub overflow_sub-result : goal.overflow_sub-result
overflow_sub-result c = omega (arith, parts c)

pub returns-clause-arrivals : goal.returns-clause-arrivals
returns-clause-arrivals c = omega (arith, parts c)

pub returns-clause-few : goal.returns-clause-few
returns-clause-few c = omega (arith, parts c, few_in_width c.args.phase.now c.args.from c.args.width)
