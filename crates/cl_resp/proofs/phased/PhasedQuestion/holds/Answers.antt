use Rattle.std.proofs.Common.{◌≡◌, nat_le, to_z, of_z, w64, ap, ◌∙◌, arith}
use Rattle.std.proofs.lemmas.Int.{ints}
use Rattle.cl_resp.specs.Inner.Phased.{asked_of}
use Rattle.cl_resp.proofs.phased.PhasedQuestion.holds.Goals as goal

pub returns : goal.returns
returns c =
    let asked = asked_of c.args.self.now in
    let same : to_z w64 (of_z w64 c.args.start) ≡ c.args.start = omega (arith, ints) in
    ap (λ needed. nat_le needed c.from.result) (c.demand.ensures ∙ ap (λ from. asked.demand from c.args.width) same)
    ∙ ap (nat_le (asked.demand c.args.start c.args.width)) c.from.ensures
