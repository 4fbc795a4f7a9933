use Rattle.std.proofs.Common.{◌≡◌, ℕ, ◌-◌, ap, ◌∙◌, arith, rules}
use mir.Syntax.{w128}
use mir.Val.{of_z, to_z}
use Rattle.std.proofs.lemmas.Int.{ints, to_z-of_z}
use Rattle.std.proofs.lemmas.Result.{on_ok_weaker}
use Rattle.cl_hop.specs.declared.group_timing.GroupTiming.{GroupTiming}
use Rattle.cl_why.specs.Hops.{timing_at_place}
use Rattle.cl_why.proofs.TimedGroups.{timing_found, walk_shown}
use Rattle.cl_why.proofs.walks.put_walk.Goals as goal

pub walk_from-from-requires-clause-missed : goal.walk_from-from-requires-clause-missed
walk_from-from-requires-clause-missed c = omega (arith, c.requires.walk.missed, c.group_count-last.ensures.count, c.group_count-last.ensures.some)

pub walk_from-from-requires-clause-taken : goal.walk_from-from-requires-clause-taken
walk_from-from-requires-clause-taken c = omega (arith, c.requires.walk.taken, c.group_count-last.ensures.count, c.group_count-last.ensures.some)

pub returns : goal.returns
returns c =
    let model = c.args.model.now in
    let chain = c.args.chain in
    let walk = c.args.walk.now in
    let kind = c.args.kind in
    let count = c.group_count-last.result in
    let from = c.walk_from-from.result in
    let to = c.walk_to-to.result in
    let held_from : to_z w128 (of_z w128 from) ≡ from = first_of (search (rules, to_z-of_z), omega (arith, ints, c.walk_from-from.type_inv)) in
    let held_to : to_z w128 (of_z w128 to) ≡ to = first_of (search (rules, to_z-of_z), omega (arith, ints, c.walk_to-to.type_inv)) in
    let first = timing_found model chain c.args.timings.now c.requires.timings 0 _ (omega (arith, c.group_count-last.ensures.count, c.group_count-last.ensures.some)) in
    let last_one = timing_found model chain c.args.timings.now c.requires.timings (count - 1) _
    (omega (arith, c.group_count-last.ensures.count, c.group_count-last.ensures.some)) ∙ ap (λ (n : ℕ). timing_at_place model chain (n - 1)) c.group_count-last.ensures.count in
    on_ok_weaker c.put_length.result (λ last.
    walk_shown model chain walk kind c.first_missed.result c.read.result c.write.result _ _
    c.args.text.now c.put_missed.new.text c.put_taken.new.text c.put_length.new.text c.in_ok-put_missed.ensures c.in_ok-put_taken.ensures last
    c.first_missed.ensures (c.read.ensures ∙ ap (λ (t : GroupTiming). t.read) first) (c.write.ensures ∙ ap (λ (t : GroupTiming). t.write) last_one)
    (held_from ∙ c.walk_from-from.ensures) (held_to ∙ c.walk_to-to.ensures)) c.put_length.ensures
