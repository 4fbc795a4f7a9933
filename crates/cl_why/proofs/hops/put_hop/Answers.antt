use Rattle.std.proofs.Common.{◌<◌, length, ap, ◌∙◌, arith}
use Rattle.std.proofs.lemmas.Result.{on_ok_weaker}
use Rattle.cl_model.specs.Groups.{groups_at}
use Rattle.cl_why.specs.Hops.{timing_at_place}
use Rattle.cl_why.proofs.TimedGroups.{timing_found, hop_shown}
use Rattle.cl_why.proofs.hops.put_hop.Goals as goal

pub returns : goal.returns
returns c =
    let model = c.args.model.now in
    let chain = c.args.chain in
    let place = c.args.place in
    let here : place < length (groups_at model chain) = omega (arith, c.requires.place, c.requires.next) in
    on_ok_weaker c.put.result (λ last.
    hop_shown model chain place c.args.walk.now _ _ c.args.text.now c.put_hop_head.new.text c.put_lag.new.text c.put.new.self
    c.in_ok-put_hop_head.ensures c.in_ok-put_lag.ensures last
    (timing_found model chain c.args.timings.now c.requires.timings place _ here)
    (timing_found model chain c.args.timings.now c.requires.timings c.args.next _ c.requires.next ∙ ap (timing_at_place model chain) c.requires.place))
    c.put.ensures.ok
