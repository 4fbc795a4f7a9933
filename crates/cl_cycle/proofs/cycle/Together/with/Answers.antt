use Rattle.std.proofs.Common.{◌+◌, ◌-◌, ◌*◌, ◌/◌, ◌^◌, ◌<◌, min, sym, ap, subst, ◌∙◌, inl, inr}
use Rattle.std.proofs.lemmas.Bool.{cases_lt}
use Rattle.cl_time.specs.Divisors.{IsLcm}
use Rattle.cl_model.specs.declared.limits.TheConstants.{MOST_TICKS}
use Rattle.cl_cycle.specs.declared.cycle.TheConstants.{MOST_IN_CYCLE}
use Rattle.cl_cycle.proofs.GatheredPhases.{many_in_long, many_counted, few_counted}
use Rattle.cl_cycle.proofs.cycle.Together.with.Goals as goal

pub returns-in_err-ticks-clause-many : goal.returns-in_err-ticks-clause-many
returns-in_err-ticks-clause-many c =
    let lcm = c.in_err-ticks.ensures.least in
    let long : MOST_IN_CYCLE * MOST_TICKS < lcm.0 = elim (cases_lt (MOST_IN_CYCLE * MOST_TICKS) lcm.0) [ inl less ↦ less | inr not ↦ absurd (lcm.2 not) ] in
    rw c.from_residual.ensures (λ phases are. many_in_long c.args.phase.now c.requires.phase phases c.args.self.ticks c.args.self.arrivals are lcm.0 lcm.1 long)

pub returns-then-arrivals-gt-MOST_IN_CYCLE-clause-many : goal.returns-then-arrivals-gt-MOST_IN_CYCLE-clause-many
returns-then-arrivals-gt-MOST_IN_CYCLE-clause-many c phases are =
    let ticks = c.in_ok-ticks.ticks in
    let lcm = c.in_ok-ticks.ensures.least in
    let least : IsLcm c.args.phase.now.period c.args.self.ticks ticks = subst (IsLcm c.args.phase.now.period c.args.self.ticks) (sym lcm.2.1) lcm.1 in
    let counted = c.saturating_add-arrivals.ensures
    ∙ ap (λ n. min (n + c.arrivals_in.result) (2 ^ 64 - 1)) c.saturating_mul-before.ensures
    ∙ ap (λ n. min (min (c.args.self.arrivals * (ticks / c.args.self.ticks)) (2 ^ 64 - 1) + n) (2 ^ 64 - 1)) c.arrivals_in.ensures.arrivals in
    many_counted c.args.phase.now c.requires.phase phases c.args.self.ticks c.args.self.arrivals are ticks least
    c.saturating_add-arrivals.result counted c.if-arrivals-gt-MOST_IN_CYCLE.true

pub returns-clause-few : goal.returns-clause-few
returns-clause-few c phases are =
    let ticks = c.in_ok-ticks.ticks in
    let lcm = c.in_ok-ticks.ensures.least in
    let least : IsLcm c.args.phase.now.period c.args.self.ticks ticks = subst (IsLcm c.args.phase.now.period c.args.self.ticks) (sym lcm.2.1) lcm.1 in
    let counted = c.saturating_add-arrivals.ensures
    ∙ ap (λ n. min (n + c.arrivals_in.result) (2 ^ 64 - 1)) c.saturating_mul-before.ensures
    ∙ ap (λ n. min (min (c.args.self.arrivals * (ticks / c.args.self.ticks)) (2 ^ 64 - 1) + n) (2 ^ 64 - 1)) c.arrivals_in.ensures.arrivals in
    few_counted c.args.phase.now c.requires.phase phases c.args.self.ticks c.args.self.arrivals are ticks least
    c.saturating_add-arrivals.result counted c.if-arrivals-gt-MOST_IN_CYCLE.false
