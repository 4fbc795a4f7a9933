use Rattle.std.proofs.Common.{◌≡◌, ℕ, ◌-◌, ◌∙◌, List, ap, length, arith}
use Rattle.std.specs.Prelude.{slice_index}
use Rattle.cl_exact.specs.{declared.beat.Beat.Beat, Inner.{Beats.{AreBeats, beat_in, write_at, forward_job, forward_end}, Walks.IsForwardWalk}}
use Rattle.cl_exact.proofs.{BeatFacts.last_place, ForwardJobs.{writes_soon, starts_before_end}, Meetings.meet_and_fall}
use Rattle.cl_exact.proofs.meeting.chain_of.Goals as goal

-- the last job writes when the chain ends
end_seen : (beats : List Beat) → AreBeats beats → (first : ℕ) (walk jobs : List ℕ) → jobs ≡ walk → IsForwardWalk beats first walk
    → write_at (beat_in beats (length beats - 1)) (slice_index jobs (length beats - 1)) ≡ forward_end beats first
end_seen beats are first walk jobs same forward =
    ap (write_at (beat_in beats (length beats - 1))) (ap (λ (l : List ℕ). slice_index l (length beats - 1)) same ∙ forward.each (length beats - 1) (last_place beats are))

pub write-end-requires : goal.write-end-requires
write-end-requires c =
    let beats = c.args.beats.now in
    omega (
      arith,
      end_seen beats c.requires.beats c.args.first c.forward_jobs-numbers.result c.as_slice-jobs.result.now c.as_slice-jobs.ensures.numbers c.forward_jobs-numbers.ensures,
      writes_soon beats c.requires.beats c.args.first (length beats - 1) (last_place beats c.requires.beats),
      c.requires.early,
      c.requires.beats.few,
      c.requires.beats.some,
    )

pub overflow_sub-result : goal.overflow_sub-result
overflow_sub-result c =
    let beats = c.args.beats.now in
    omega (
      arith,
      end_seen beats c.requires.beats c.args.first c.forward_jobs-numbers.result c.as_slice-jobs.result.now c.as_slice-jobs.ensures.numbers c.forward_jobs-numbers.ensures,
      starts_before_end beats c.requires.beats c.args.first,
      c.write-end.ensures,
      c.read.ensures,
    )

pub returns-clause-falls : goal.returns-clause-falls
returns-clause-falls c =
    let beats = c.args.beats.now in
    let met : slice_index c.as_slice-jobs.result.now c.args.place ≡ forward_job beats c.args.first c.args.place =
    ap (λ (l : List ℕ). slice_index l c.args.place) c.as_slice-jobs.ensures.numbers ∙ c.forward_jobs-numbers.ensures.each c.args.place c.requires.place in
    meet_and_fall beats c.requires.beats c.args.place c.args.first c.last_leading.result c.requires.some c.requires.place
    (λ other le. omega (arith, met, c.last_leading.ensures.lead other le))
