use Rattle.std.proofs.Common.{◌≡◌, ◌-◌, slice_index, ap, ◌∙◌, arith, refl, replicate, subst}
use Rattle.cl_exact.specs.Inner.Beats.{beat_in, last_writer}
use Rattle.cl_exact.proofs.WalkFacts.{has_writer, walk_begins, IsWalked, walk_goes_on, walk_ends}
use Rattle.cl_exact.proofs.walk.backward_jobs.Goals as goal

pub loop-place-init : goal.loop-place-init
loop-place-init c = walk_begins c.args.beats.now c.args.last (replicate 64 0) refl c.requires.beats c.requires.late c.requires.early

pub read-read-requires : goal.read-read-requires
read-read-requires c = omega (arith, c.loop-place.invariant.on_walk.early)

pub last_writer-requires-clause-some : goal.last_writer-requires-clause-some
last_writer-requires-clause-some c = omega (
  arith,
  c.read-read.ensures,
  has_writer c.args.beats.now c.loop-place.place (slice_index c.loop-place.jobs c.loop-place.place) c.loop-place-test.true
      c.loop-place.invariant.within c.loop-place.invariant.on_walk,
)

pub loop-place-preserved : goal.loop-place-preserved
loop-place-preserved c = walk_goes_on c.args.beats.now c.requires.beats c.loop-place.place c.args.last c.loop-place.jobs c.last_writer.result
    c.loop-place-test.true (c.last_writer.ensures ∙ ap (last_writer (beat_in c.args.beats.now (c.loop-place.place - 1))) c.read-read.ensures) c.loop-place.invariant

pub returns : goal.returns
returns c =
    let done : c.loop-place.place ≡ 0 = omega (arith, c.loop-place-test.false) in
    walk_ends c.args.beats.now c.requires.beats c.args.last c.loop-place.jobs c.of.result
    (subst (λ place. IsWalked c.args.beats.now place c.args.last c.loop-place.jobs) done c.loop-place.invariant) c.of.ensures
