use Rattle.std.proofs.Common.{◌≡◌, ℕ, ◌+◌, ℤ, Bool, true, false, List, ◌++◌, get_or, ◌+ℤ◌, ◌-ℤ◌, sym, ap, ◌∙◌, arith, rules}
use mir.Syntax.{w128}
use mir.Val.{of_z, to_z}
use Rattle.std.proofs.lemmas.Int.{ints, to_z-of_z}
use Rattle.std.proofs.lemmas.Result.{on_ok_weaker}
use Rattle.std.specs.Fmt.{signed_decimal}
use Rattle.cl_why.specs.Hops.{kept_at, missed_arrival, taken_arrival}
use Rattle.cl_why.proofs.TimedGroups.{missed_shown}
use Rattle.cl_why.proofs.hops.put_missed_by.Goals as goal

pub returns : goal.returns
returns c =
    let walk = c.args.walk.now in
    let place = c.args.place in
    let lag = c.args.lag in
    let by = c.missed_by-by.result in
    let here : kept_at walk place ≡ true = sym (ap (λ (list : List Bool). get_or list place false) c.as_slice-kept.ensures) ∙ c.if-not-kept-place.false in
    let next : kept_at walk (place + 1) ≡ true =
    ap (kept_at walk) (sym c.requires.place) ∙ sym (ap (λ (list : List Bool). get_or list c.args.next false) c.as_slice-kept.ensures) ∙ c.if-not-kept-next.false in
    let held : to_z w128 (of_z w128 by) ≡ by = first_of (search (rules, to_z-of_z), omega (arith, ints, c.missed_by-by.type_inv)) in
    let held_lag : to_z w128 (of_z w128 lag) ≡ lag = to_z-of_z w128 lag c.ranges.lag in
    let value = held ∙ c.missed_by-by.ensures ∙ ap (λ (z : ℤ). (taken_arrival walk place +ℤ z) -ℤ missed_arrival walk c.args.next) held_lag
    ∙ ap (λ (n : ℕ). (taken_arrival walk place +ℤ lag) -ℤ missed_arrival walk n) c.requires.place in
    on_ok_weaker c.put_signed.result (λ last.
    missed_shown walk place lag c.args.text.now c.put.new.self c.put_signed.new.text here next c.in_ok-put.ensures.ok
    (last ∙ ap (λ (z : ℤ). c.put.new.self ++ signed_decimal z) value)) c.put_signed.ensures
