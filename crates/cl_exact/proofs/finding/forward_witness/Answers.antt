use Rattle.std.proofs.Common.{◌-◌, ◌<◌, ℕ, List, length, ap, ◌∙◌, arith}
use Rattle.std.specs.Prelude.{slice_index}
use Rattle.cl_exact.specs.Inner.Beats.{beat_in, write_at}
use Rattle.cl_exact.proofs.ForwardJobs.{writes_soon, starts_before_end}
use Rattle.cl_exact.proofs.finding.forward_witness.Goals as goal

pub write-to-requires : goal.write-to-requires
write-to-requires c =
    let place = length c.args.beats.now - 1 in
    let within : place < length c.args.beats.now = omega (arith, c.requires.beats.some) in
    let job = ap (λ (jobs : List ℕ). slice_index jobs place) c.as_slice.ensures.numbers ∙ c.forward_jobs-jobs.ensures.each place within in
    omega (
      arith,
      ap (write_at (beat_in c.args.beats.now place)) job,
      writes_soon c.args.beats.now c.requires.beats c.args.first place within,
      c.requires.early,
      c.requires.beats.few,
    )

pub overflow_sub-result : goal.overflow_sub-result
overflow_sub-result c =
    let place = length c.args.beats.now - 1 in
    let within : place < length c.args.beats.now = omega (arith, c.requires.beats.some) in
    let job = ap (λ (jobs : List ℕ). slice_index jobs place) c.as_slice.ensures.numbers ∙ c.forward_jobs-jobs.ensures.each place within in
    omega (
      arith,
      c.write-to.ensures,
      c.read-from.ensures,
      ap (write_at (beat_in c.args.beats.now place)) job,
      starts_before_end c.args.beats.now c.requires.beats c.args.first,
    )
