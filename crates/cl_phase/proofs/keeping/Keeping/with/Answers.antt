use Rattle.std.proofs.Common.{◌≡◌, ◌-◌, ◌*◌, ◌/◌, ◌^◌, ◌<◌, ◌≤◌, min, arith, sym, ap, subst, ◌∙◌, inl, inr}
use Rattle.std.proofs.lemmas.Bool.{cases_lt}
use Rattle.cl_time.specs.Divisors.{IsLcm}
use Rattle.cl_stim.specs.Phase.{arrivals_in}
use Rattle.cl_phase.specs.Inner.{Ranges.LONGEST_HYPERPERIOD, Keeping.AreKeptWith}
use Rattle.cl_phase.proofs.KeptPhases.{too_long, not_soon, soon}
use Rattle.cl_phase.proofs.keeping.Keeping.with.Goals as goal

pub returns-in_err-hyperperiod-clause-too_long : goal.returns-in_err-hyperperiod-clause-too_long
returns-in_err-hyperperiod-clause-too_long c =
    let lcm = c.in_err-hyperperiod.ensures.least in
    let long : LONGEST_HYPERPERIOD < lcm.0 = elim (cases_lt LONGEST_HYPERPERIOD lcm.0) [ inl less ↦ less | inr not ↦ absurd (lcm.2 not) ] in
    rw c.from_residual.ensures (λ kept are. too_long c.args.phase.now c.requires.phase kept c.args.self are lcm.0 lcm.1 long)

pub returns-then-fewest-gt-MOST_ARRIVALS-clause-too_long : goal.returns-then-fewest-gt-MOST_ARRIVALS-clause-too_long
returns-then-fewest-gt-MOST_ARRIVALS-clause-too_long c kept are =
    let ticks = c.in_ok-hyperperiod.hyperperiod in
    let lcm = c.in_ok-hyperperiod.ensures.least in
    let least : IsLcm c.args.phase.now.period c.args.self.hyperperiod ticks =
    subst (IsLcm c.args.phase.now.period c.args.self.hyperperiod) (sym lcm.2.1) lcm.1 in
    let short : ticks ≤ LONGEST_HYPERPERIOD = omega (arith, lcm.2.0, lcm.2.1) in
    let fewest : c.min-fewest.result ≡ min (min (c.args.self.fewest * (ticks / c.args.self.hyperperiod)) (2 ^ 64 - 1)) (arrivals_in ticks c.args.phase.now) =
    c.min-fewest.ensures ∙ ap (λ n. min n c.arrivals_in.result) c.saturating_mul.ensures
    ∙ ap (min (min (c.args.self.fewest * (ticks / c.args.self.hyperperiod)) (2 ^ 64 - 1))) c.arrivals_in.ensures.arrivals in
    not_soon c.args.phase.now c.requires.phase kept c.args.self are ticks least c.in_ok-hyperperiod.ensures.positive short
    (subst (λ n. 1000000 < n) fewest c.if-fewest-gt-MOST_ARRIVALS.true)

pub returns-clause-soon : goal.returns-clause-soon
returns-clause-soon c kept are =
    let ticks = c.in_ok-hyperperiod.hyperperiod in
    let lcm = c.in_ok-hyperperiod.ensures.least in
    let least : IsLcm c.args.phase.now.period c.args.self.hyperperiod ticks =
    subst (IsLcm c.args.phase.now.period c.args.self.hyperperiod) (sym lcm.2.1) lcm.1 in
    let short : ticks ≤ LONGEST_HYPERPERIOD = omega (arith, lcm.2.0, lcm.2.1) in
    let fewest : c.min-fewest.result ≡ min (min (c.args.self.fewest * (ticks / c.args.self.hyperperiod)) (2 ^ 64 - 1)) (arrivals_in ticks c.args.phase.now) =
    c.min-fewest.ensures ∙ ap (λ n. min n c.arrivals_in.result) c.saturating_mul.ensures
    ∙ ap (min (min (c.args.self.fewest * (ticks / c.args.self.hyperperiod)) (2 ^ 64 - 1))) c.arrivals_in.ensures.arrivals in
    subst (λ n. AreKeptWith c.args.phase.now kept (record { hyperperiod = ticks; fewest = n })) (sym fewest)
    (soon c.args.phase.now c.requires.phase kept c.args.self are ticks least c.in_ok-hyperperiod.ensures.positive short
    (subst (λ n. n ≤ 1000000) fewest c.if-fewest-gt-MOST_ARRIVALS.false))
