use Rattle.std.proofs.Common.{◌+◌, ℕ, List, ap, arith}
use Rattle.std.specs.Prelude.{slice_index}
use Rattle.cl_exact.specs.Inner.{Beats.{beat_in, read_at}, Found.last_beat}
use Rattle.cl_exact.proofs.{BeatFacts.reads_rise, ReactionAge.reads_before_last}
use Rattle.cl_exact.proofs.finding.age_witness.Goals as goal

pub read-from-requires : goal.read-from-requires
read-from-requires c =
    let job = ap (λ (jobs : List ℕ). slice_index jobs 0) c.as_slice.ensures.numbers in
    omega (
      arith,
      ap (read_at (beat_in c.args.beats.now 0)) job,
      reads_before_last c.args.beats.now c.requires.beats c.args.last c.backward_jobs-jobs.result c.backward_jobs-jobs.ensures,
      c.requires.early,
    )

pub overflow_sub-result : goal.overflow_sub-result
overflow_sub-result c =
    let job = ap (λ (jobs : List ℕ). slice_index jobs 0) c.as_slice.ensures.numbers in
    omega (
      arith,
      c.read-from.ensures,
      c.write-to.ensures,
      ap (read_at (beat_in c.args.beats.now 0)) job,
      reads_before_last c.args.beats.now c.requires.beats c.args.last c.backward_jobs-jobs.result c.backward_jobs-jobs.ensures,
      reads_rise (last_beat c.args.beats.now) c.args.last (c.args.last + 1) (omega arith),
    )
