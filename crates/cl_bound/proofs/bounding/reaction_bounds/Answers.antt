use Rattle.std.proofs.Common.{◌≡◌, ℕ, ◌+◌, ◌-◌, take, drop, replicate, refl, subst, ◌∙◌, arith}
use Rattle.std.proofs.lemmas.List.{length-set}
use Rattle.std.proofs.lemmas.Int.{ints}
use Rattle.cl_model.specs.Groups.{no_group}
use Rattle.cl_runs.specs.SystemOf.{system_of}
use Rattle.cl_hop.specs.Sums.{sums_of}
use Rattle.cl_bound.specs.Bounds.{settled_timings, bounds_of}
use Rattle.cl_bound.proofs.FrontBounds.{front_have, front_bound, front_more, more_numbers}
use Rattle.cl_bound.proofs.bounding.reaction_bounds.Goals as goal

pub bounds-requires-clause-bounds : goal.bounds-requires-clause-bounds
unfolding no_group
bounds-requires-clause-bounds g c =
    front_have c.args.model.now c.timing_of-first.ensures.valid c.args.groups.now c.requires.few c.requires.of_tasks
    (rw c.requires.answers at c.requires.not_late) 0 c.requires.some c.timing_of-first.result c.timing_of-first.ensures.timing
    c.new-sums.result c.new-sums.ensures

pub loop-place-init : goal.loop-place-init
unfolding no_group
loop-place-init g c =
    let system = system_of c.args.model.now in
    let groups = c.args.groups.now in
    let number : ℕ = c.reaction.result in
    let is = c.reaction.ensures ∙ front_bound c.args.model.now c.timing_of-first.ensures.valid groups c.requires.few c.requires.of_tasks
    (rw c.requires.answers at c.requires.not_late) 0 c.requires.some c.timing_of-first.result c.timing_of-first.ensures.timing
    c.new-sums.result c.new-sums.ensures c.bounds.result c.bounds.ensures in
    record {
      some = omega arith;
      room = refl;
      sums = c.new-sums.ensures;
      forward = rw c.new-sums.ensures (omega (arith, ints), omega (arith, ints));
      backward = rw c.new-sums.ensures (omega (arith, ints), omega (arith, ints));
      found = more_numbers (λ place. (bounds_of system (take (place + 1) groups)).reaction) (replicate 64 0) 0 number (omega arith)
          (λ i none. absurd (omega (arith, none))) is;
    }

pub bounds-requires-in-loop-place-clause-bounds : goal.bounds-requires-in-loop-place-clause-bounds
unfolding no_group
bounds-requires-in-loop-place-clause-bounds g c =
    let model = c.args.model.now in
    let valid = c.timing_of-first.ensures.valid in
    let timely = rw c.requires.answers at c.requires.not_late in
    front_have model valid c.args.groups.now c.requires.few c.requires.of_tasks timely
    c.loop-place.place c.loop-place-test.true c.timing_of-first.result c.timing_of-first.ensures.timing c.with-sums.result
    (front_more model valid c.args.groups.now c.requires.few c.requires.of_tasks timely c.timing_of-first.result
    c.loop-place.place c.loop-place.invariant.some c.loop-place-test.true c.loop-place.sums c.with-sums.result c.loop-place.invariant.sums
    c.timing_of.result c.timing_of.ensures.timing c.with-sums.ensures.sums)

pub loop-place-preserved : goal.loop-place-preserved
unfolding no_group
loop-place-preserved g c =
    let model = c.args.model.now in
    let system = system_of model in
    let groups = c.args.groups.now in
    let valid = c.timing_of-first.ensures.valid in
    let timely = rw c.requires.answers at c.requires.not_late in
    let place : ℕ = c.loop-place.place in
    let number : ℕ = c.reaction-in-loop-place.result in
    let same : place ≡ place + 1 - 1 = omega arith in
    let sums = front_more model valid groups c.requires.few c.requires.of_tasks timely c.timing_of-first.result
    place c.loop-place.invariant.some c.loop-place-test.true c.loop-place.sums c.with-sums.result c.loop-place.invariant.sums
    c.timing_of.result c.timing_of.ensures.timing c.with-sums.ensures.sums in
    record {
      some = omega arith;
      room = length-set c.loop-place.reactions place number ∙ c.loop-place.invariant.room;
      sums = subst (λ n. c.with-sums.result ≡ sums_of c.timing_of-first.result (take n (settled_timings system (drop 1 groups)))) same sums;
      forward = c.with-sums.ensures.forward_near place c.loop-place.invariant.forward;
      backward = c.with-sums.ensures.backward_near place c.loop-place.invariant.backward;
      found = more_numbers (λ n. (bounds_of system (take (n + 1) groups)).reaction) c.loop-place.reactions place number
          (omega (arith, c.loop-place.invariant.room, c.loop-place-test.true, c.requires.few)) c.loop-place.invariant.found
          (c.reaction-in-loop-place.ensures ∙ front_bound model valid groups c.requires.few c.requires.of_tasks timely place c.loop-place-test.true
          c.timing_of-first.result c.timing_of-first.ensures.timing c.with-sums.result sums c.bounds-in-loop-place.result c.bounds-in-loop-place.ensures);
    }
