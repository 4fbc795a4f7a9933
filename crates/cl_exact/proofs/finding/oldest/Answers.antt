use Rattle.std.proofs.Common.{◌≡◌, ◌+◌, ◌-◌, ◌*◌, ◌≤◌, ℕ, List, length, ap, sym, subst, ◌∙◌, arith}
use Rattle.std.specs.Prelude.{slice_index}
use Rattle.cl_exact.specs.{declared.beat.Beat.Beat, Inner.{Beats.{AreBeats, beat_in, read_at, forward_job}, Blocks.EARLY, Scans.IsFirstWith, Walks.{IsForwardWalk, IsBackwardWalk}, Found.{IsOldest, last_beat}}}
use Rattle.cl_exact.proofs.{BeatFacts.{reads_rise, job_small}, ForwardJobs.HOP, ReactionAge.complete_after, StartUps.{last_steady_late, last_steady_soon}, Oldest.{early_block, ends_late, oldest_is, oldest_early}}
use Rattle.cl_exact.proofs.finding.oldest.Goals as goal

-- the jobs of the walk, as a slice
seen : (beats : List Beat) (start : ℕ) (walk numbers : List ℕ) → numbers ≡ walk → IsBackwardWalk beats start walk → IsBackwardWalk beats start numbers
seen beats start walk numbers are back = subst (IsBackwardWalk beats start) (sym are) back

-- the last job of a forward chain, from the slice
last_seen : (beats : List Beat) → AreBeats beats → (first : ℕ) (jobs numbers : List ℕ) → numbers ≡ jobs → IsForwardWalk beats first jobs
    → slice_index numbers (length beats - 1) ≡ forward_job beats first (length beats - 1)
last_seen beats are first jobs numbers same forward =
    ap (λ (xs : List ℕ). slice_index xs (length beats - 1)) same ∙ forward.each (length beats - 1) (omega (arith, are.some))

-- the first forward chain with the age begins early
near : (beats : List Beat) (first count age next : ℕ) → read_at (beat_in beats 0) (first + count) + 64 * HOP ≤ EARLY
    → IsFirstWith beats first count age next → read_at (beat_in beats 0) next + 64 * HOP ≤ EARLY
near beats first count age next early is = omega (arith, early, reads_rise (beat_in beats 0) next (first + count) (omega (arith, is.within)))

pub backward_jobs-walk-requires-clause-late : goal.backward_jobs-walk-requires-clause-late
backward_jobs-walk-requires-clause-late c = last_steady_late c.args.beats.now c.requires.beats c.last_steady_job.result c.last_steady_job.ensures

pub backward_jobs-walk-requires-clause-early : goal.backward_jobs-walk-requires-clause-early
backward_jobs-walk-requires-clause-early c =
    omega (arith, last_steady_soon c.args.beats.now c.requires.beats c.last_steady_job.result c.last_steady_job.ensures)

pub overflow_add-as_slice : goal.overflow_add-as_slice
overflow_add-as_slice c =
    let back = seen c.args.beats.now c.last_steady_job.result c.backward_jobs-walk.result c.as_slice.result.now c.as_slice.ensures.numbers c.backward_jobs-walk.ensures in
    let early = early_block c.args.beats.now c.requires.beats c.last_steady_job.result c.as_slice.result.now c.args.count back c.last_steady_job.ensures c.requires.few in
    omega (
      arith,
      early,
      job_small (beat_in c.args.beats.now 0) (c.requires.beats.each 0 c.requires.beats.some).some_period (slice_index c.as_slice.result.now 0 + 1 + c.args.count),
    )

pub first_with-requires-clause-early : goal.first_with-requires-clause-early
first_with-requires-clause-early c =
    let back = seen c.args.beats.now c.last_steady_job.result c.backward_jobs-walk.result c.as_slice.result.now c.as_slice.ensures.numbers c.backward_jobs-walk.ensures in
    omega (arith, early_block c.args.beats.now c.requires.beats c.last_steady_job.result c.as_slice.result.now c.args.count back c.last_steady_job.ensures c.requires.few)

pub first_with-requires-clause-none_greater : goal.first_with-requires-clause-none_greater
first_with-requires-clause-none_greater c =
    let back = seen c.args.beats.now c.last_steady_job.result c.backward_jobs-walk.result c.as_slice.result.now c.as_slice.ensures.numbers c.backward_jobs-walk.ensures in
    λ job from. c.requires.greatest.above_all job
    (complete_after c.args.beats.now c.requires.beats c.last_steady_job.result c.as_slice.result.now back job (omega (arith, from)))

pub unreachable-requires : goal.unreachable-requires
unreachable-requires c =
    let back = seen c.args.beats.now c.last_steady_job.result c.backward_jobs-walk.result c.as_slice.result.now c.as_slice.ensures.numbers c.backward_jobs-walk.ensures in
    let first = slice_index c.as_slice.result.now 0 + 1 in
    c.requires.greatest.everywhere first
    (complete_after c.args.beats.now c.requires.beats c.last_steady_job.result c.as_slice.result.now back first (omega arith)) c.in_default.ensures

pub forward_jobs-requires-clause-early : goal.forward_jobs-requires-clause-early
forward_jobs-requires-clause-early c =
    let back = seen c.args.beats.now c.last_steady_job.result c.backward_jobs-walk.result c.as_slice.result.now c.as_slice.ensures.numbers c.backward_jobs-walk.ensures in
    let early = early_block c.args.beats.now c.requires.beats c.last_steady_job.result c.as_slice.result.now c.args.count back c.last_steady_job.ensures c.requires.few in
    omega (arith, near c.args.beats.now (slice_index c.as_slice.result.now 0 + 1) c.args.count c.args.age c.in-Some.next early c.in-Some.ensures)

pub overflow_sub-result-2 : goal.overflow_sub-result-2
overflow_sub-result-2 c =
    let back = seen c.args.beats.now c.last_steady_job.result c.backward_jobs-walk.result c.as_slice.result.now c.as_slice.ensures.numbers c.backward_jobs-walk.ensures in
    omega (
      arith,
      ends_late c.args.beats.now c.requires.beats c.args.count c.args.age c.requires.greatest c.last_steady_job.result c.as_slice.result.now
          c.last_steady_job.ensures back c.in-Some.next c.in-Some.ensures,
      last_seen c.args.beats.now c.requires.beats c.in-Some.next c.forward_jobs.result c.as_slice-2.result.now c.as_slice-2.ensures.numbers c.forward_jobs.ensures,
    )

pub returns-clause-oldest : goal.returns-clause-oldest
returns-clause-oldest c =
    let back = seen c.args.beats.now c.last_steady_job.result c.backward_jobs-walk.result c.as_slice.result.now c.as_slice.ensures.numbers c.backward_jobs-walk.ensures in
    let last = last_seen c.args.beats.now c.requires.beats c.in-Some.next c.forward_jobs.result c.as_slice-2.result.now c.as_slice-2.ensures.numbers c.forward_jobs.ensures in
    subst (λ job. IsOldest c.args.beats.now c.args.age (job - 1)) (sym last)
    (oldest_is c.args.beats.now c.requires.beats c.args.count c.args.age c.requires.greatest c.last_steady_job.result c.as_slice.result.now
    c.last_steady_job.ensures back c.in-Some.next c.in-Some.ensures)

pub returns-clause-early : goal.returns-clause-early
returns-clause-early c =
    let back = seen c.args.beats.now c.last_steady_job.result c.backward_jobs-walk.result c.as_slice.result.now c.as_slice.ensures.numbers c.backward_jobs-walk.ensures in
    let early = early_block c.args.beats.now c.requires.beats c.last_steady_job.result c.as_slice.result.now c.args.count back c.last_steady_job.ensures c.requires.few in
    let last = last_seen c.args.beats.now c.requires.beats c.in-Some.next c.forward_jobs.result c.as_slice-2.result.now c.as_slice-2.ensures.numbers c.forward_jobs.ensures in
    subst (λ job. read_at (last_beat c.args.beats.now) (job - 1) ≤ EARLY) (sym last)
    (oldest_early c.args.beats.now c.requires.beats c.args.count c.args.age c.requires.greatest c.last_steady_job.result c.as_slice.result.now
    c.last_steady_job.ensures back c.in-Some.next c.in-Some.ensures
    (near c.args.beats.now (slice_index c.as_slice.result.now 0 + 1) c.args.count c.args.age c.in-Some.next early c.in-Some.ensures))
