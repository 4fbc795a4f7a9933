use Rattle.std.proofs.Common.{◌≡◌, ℤ, ◌++◌, ap, ◌∙◌, arith, rules}
use mir.Syntax.{w128}
use mir.Val.{of_z, to_z}
use Rattle.std.proofs.lemmas.Int.{ints, to_z-of_z}
use Rattle.std.proofs.lemmas.Result.{on_ok_weaker}
use Rattle.std.specs.Fmt.{signed_decimal}
use Rattle.cl_why.specs.Hops.{missed_by_words}
use Rattle.cl_why.proofs.TimedGroups.{lag_shown}
use Rattle.cl_why.proofs.hops.put_lag.Goals as goal

pub returns : goal.returns
returns c =
    let walk = c.args.walk.now in
    let place = c.args.place in
    let lag = c.lag-lag.result in
    let held : to_z w128 (of_z w128 lag) ≡ lag = first_of (search (rules, to_z-of_z), omega (arith, ints, c.lag-lag.type_inv)) in
    on_ok_weaker c.put_missed_by.result (λ last.
    lag_shown walk place c.args.writer.now c.args.reader.now c.args.text.now c.put.new.self c.put_signed.new.text c.put_missed_by.new.text
    (λ same. c.if-task.false (cc))
    c.in_ok-put.ensures.ok
    (c.in_ok-put_signed.ensures ∙ ap (λ (z : ℤ). c.put.new.self ++ signed_decimal z) (held ∙ c.lag-lag.ensures.lag))
    (last ∙ ap (λ (z : ℤ). c.put_signed.new.text ++ missed_by_words walk place z) (held ∙ c.lag-lag.ensures.lag))) c.put_missed_by.ensures
