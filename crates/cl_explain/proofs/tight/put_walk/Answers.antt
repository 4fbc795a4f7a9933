use Rattle.std.proofs.Common.{ℤ, List, length, ap, arith}
use Rattle.cl_explain.proofs.{MarkedLabels.still_ok, WalksWithin.{its_walk, walk_within, walk_lines_are}}
use Rattle.cl_explain.proofs.tight.put_walk.Goals as goal

pub overflow_cast-place : goal.overflow_cast-place
overflow_cast-place c =
    let within = walk_within c.args.model.now c.requires.valid c.args.chain c.requires.chain c.args.reaction c.in_ok-walk.walk
    (its_walk c.args.model.now c.args.chain c.args.timings.now c.groups.result.now c.args.reaction c.in_ok-walk.walk c.groups.ensures.groups c.requires.timings c.in_ok-walk.ensures) in
    omega (arith, within.place, within.few)

pub put_arrivals-requires-clause-within : goal.put_arrivals-requires-clause-within
put_arrivals-requires-clause-within c =
    let within = walk_within c.args.model.now c.requires.valid c.args.chain c.requires.chain c.args.reaction c.in_ok-walk.walk
    (its_walk c.args.model.now c.args.chain c.args.timings.now c.groups.result.now c.args.reaction c.in_ok-walk.walk c.groups.ensures.groups c.requires.timings c.in_ok-walk.ensures) in
    omega (arith, within.missed, ap (λ (list : List ℤ). length list) c.as_slice.ensures)

pub put_arrivals-requires-clause-few : goal.put_arrivals-requires-clause-few
put_arrivals-requires-clause-few c =
    let within = walk_within c.args.model.now c.requires.valid c.args.chain c.requires.chain c.args.reaction c.in_ok-walk.walk
    (its_walk c.args.model.now c.args.chain c.args.timings.now c.groups.result.now c.args.reaction c.in_ok-walk.walk c.groups.ensures.groups c.requires.timings c.in_ok-walk.ensures) in
    omega (arith, within.missed, within.few, ap (λ (list : List ℤ). length list) c.as_slice.ensures)

pub put_arrivals-requires-2-clause-within : goal.put_arrivals-requires-2-clause-within
put_arrivals-requires-2-clause-within c =
    let within = walk_within c.args.model.now c.requires.valid c.args.chain c.requires.chain c.args.reaction c.in_ok-walk.walk
    (its_walk c.args.model.now c.args.chain c.args.timings.now c.groups.result.now c.args.reaction c.in_ok-walk.walk c.groups.ensures.groups c.requires.timings c.in_ok-walk.ensures) in
    omega (arith, within.taken, ap (λ (list : List ℤ). length list) c.as_slice-2.ensures)

pub put_arrivals-requires-2-clause-few : goal.put_arrivals-requires-2-clause-few
put_arrivals-requires-2-clause-few c =
    let within = walk_within c.args.model.now c.requires.valid c.args.chain c.requires.chain c.args.reaction c.in_ok-walk.walk
    (its_walk c.args.model.now c.args.chain c.args.timings.now c.groups.result.now c.args.reaction c.in_ok-walk.walk c.groups.ensures.groups c.requires.timings c.in_ok-walk.ensures) in
    omega (arith, within.taken, within.few, ap (λ (list : List ℤ). length list) c.as_slice-2.ensures)

pub returns : goal.returns
returns c =
    let model = c.args.model.now in
    let chain = c.args.chain in
    still_ok c.put_arrivals-2.result _ _
    (walk_lines_are model chain c.args.reaction c.in_ok-walk.walk
    (its_walk c.args.model.now c.args.chain c.args.timings.now c.groups.result.now c.args.reaction c.in_ok-walk.walk c.groups.ensures.groups c.requires.timings c.in_ok-walk.ensures) c.as_slice.result.now c.as_slice-2.result.now c.as_slice.ensures c.as_slice-2.ensures
    c.args.text.now c.put_arrivals.new.text c.put_arrivals-2.new.text c.in_ok-put_arrivals.ensures)
    c.put_arrivals-2.ensures
