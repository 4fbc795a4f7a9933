use Rattle.std.proofs.Common.{◌≡◌, ℕ, ◌-◌, ◌*◌, ◌/◌, ◌≤◌, min, ap, arith}
use Rattle.std.proofs.lemmas.Nat.{le-div}
use Rattle.cl_stim.proofs.phase.Phase.last_in_turn.Goals as goal

least_right : (m n : ℕ) → n ≤ m → n ≡ min m n
least_right m n h = omega (arith, h)

pub returns-then-since-last-clause-last : goal.returns-then-since-last-clause-last
returns-then-since-last-clause-last c =
    let phase = c.args.self.now in
    let passed : phase.count - 1 ≤ c.args.since / phase.distance = le-div (phase.count - 1) c.args.since phase.distance c.requires.phase.is_phase.apart c.if-since-last.true in
    ap (λ n. n * phase.distance) (least_right (c.args.since / phase.distance) (phase.count - 1) passed)
