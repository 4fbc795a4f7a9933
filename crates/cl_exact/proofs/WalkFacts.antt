-- Job chains from one group to the next, and from which jobs on all tasks have begun.
use Rattle.std.proofs.Common.{◌≡◌, ℕ, suc, ◌+◌, ◌-◌, ◌<◌, ◌≤◌, List, length, take, max, set, sym, ap, subst, ◌∙◌, arith, inl, inr}
use Rattle.std.specs.Prelude.{slice_index}
use Rattle.std.proofs.lemmas.Bool.{cases_lt}
use Rattle.std.proofs.lemmas.List.{get_or-set_same, get_or-set_other, length-set, get_or-take, length-take-le}
use Rattle.std.proofs.lemmas.List.Sums.{sum_by_more, sum_by-take-le}
use Rattle.cl_exact.specs.{declared.beat.Beat.Beat, Inner.{Beats.{AreBeats, no_beat, beat_in, read_at, write_at, last_writer}, Blocks.EARLY, Walks.{IsLastWritingJob, IsBackwardWalk, start_of, start_up_of}}}
use Rattle.cl_exact.proofs.BeatFacts.{writer_before, writer_greatest, next_read}

-- the last writer at or before a read
pub last_writer_is : (writer reader : Beat) → 1 ≤ writer.period → (reading : ℕ) → writer.offset + writer.deadline ≤ read_at reader reading
    → IsLastWritingJob writer reader (last_writer writer (read_at reader reading)) reading
last_writer_is writer reader some reading late = record {
  before = writer_before writer (read_at reader reading) late;
  greatest = λ other before. writer_greatest writer some (read_at reader reading) other before;
}

-- where a walk back stands: the job of a group reads at or after the start-up of the groups before it, and early enough
pub record IsOnWalk (beats : List Beat) (place job : ℕ) : Type 0 where
  pub late : start_up_of (take place beats) ≤ read_at (beat_in beats place) job
  pub early : read_at (beat_in beats place) job ≤ EARLY

-- where a job reads at or after the start-up of the groups before it, the group before it has written
pub late_enough : (beats : List Beat) (place job : ℕ) → 1 ≤ place → place < length beats
    → start_up_of (take place beats) ≤ read_at (beat_in beats place) job
    → (beat_in beats (place - 1)).offset + (beat_in beats (place - 1)).deadline ≤ read_at (beat_in beats place) job
late_enough beats place job some within late =
    let same : place - 1 + 1 ≡ place = omega arith in
    omega (arith, late, sum_by_more start_of beats (place - 1) no_beat (omega arith), ap (λ n. start_up_of (take n beats)) same)

-- and its last writer reads at or after the start-up of the groups before that
pub late_back : (beats : List Beat) → AreBeats beats → (place job : ℕ) → 1 ≤ place → place < length beats
    → start_up_of (take place beats) ≤ read_at (beat_in beats place) job
    → start_up_of (take (place - 1) beats)
    ≤ read_at (beat_in beats (place - 1)) (last_writer (beat_in beats (place - 1)) (read_at (beat_in beats place) job))
late_back beats are place job some within late =
    let beat = beat_in beats (place - 1) in
    let is = are.each (place - 1) (omega arith) in
    let moment = read_at (beat_in beats place) job in
    let writer = last_writer beat moment in
    let same : place - 1 + 1 ≡ place = omega arith in
    let sum = sum_by_more start_of beats (place - 1) no_beat (omega arith) in
    let whole = ap (λ n. start_up_of (take n beats)) same in
    let after : moment < write_at beat (suc writer) = elim (cases_lt moment (write_at beat (suc writer))) [
      | inl less ↦ less
      | inr more ↦ absurd (omega (arith, writer_greatest beat is.some_period moment (suc writer) more))
    ] in
    omega (arith, late, sum, whole, after, next_read beat writer)

-- so the last writer stands on the walk too
pub has_writer : (beats : List Beat) (place job : ℕ) → 1 ≤ place → place < length beats → IsOnWalk beats place job
    → (beat_in beats (place - 1)).offset + (beat_in beats (place - 1)).deadline ≤ read_at (beat_in beats place) job
has_writer beats place job some within on = late_enough beats place job some within on.late

pub walk_back : (beats : List Beat) → AreBeats beats → (place job : ℕ) → 1 ≤ place → place < length beats → IsOnWalk beats place job
    → IsOnWalk beats (place - 1) (last_writer (beat_in beats (place - 1)) (read_at (beat_in beats place) job))
walk_back beats are place job some within on =
    let beat = beat_in beats (place - 1) in
    let before = writer_before beat (read_at (beat_in beats place) job) (has_writer beats place job some within on) in
    record {
      late = late_back beats are place job some within on.late;
      early = omega (arith, on.early, before);
    }

-- the links of a walk from a place on
abbrev pub AreLinkedFrom : List Beat → (place : ℕ) → List ℕ → Type 0
AreLinkedFrom beats from jobs = (place : ℕ) → from ≤ place → suc place < length beats
    → IsLastWritingJob (beat_in beats place) (beat_in beats (suc place)) (slice_index jobs place) (slice_index jobs (suc place))

-- one link more
pub linked_more : (beats : List Beat) (place : ℕ) (jobs : List ℕ) (writer : ℕ) → 1 ≤ place → place < length jobs
    → AreLinkedFrom beats place jobs → IsLastWritingJob (beat_in beats (place - 1)) (beat_in beats place) writer (slice_index jobs place)
    → AreLinkedFrom beats (place - 1) (set jobs (place - 1) writer)
linked_more beats place jobs writer some room so_far link k from within =
    elim (cases_lt k place) [
      | inl new ↦
          let here : place - 1 ≡ k = omega arith in
          let next : place ≡ suc k = omega arith in
          let written = get_or-set_same jobs (place - 1) writer 0 (omega arith) in
          let kept = get_or-set_other jobs (place - 1) place writer 0 (λ same. omega (arith, same)) in
          subst (λ i. IsLastWritingJob (beat_in beats i) (beat_in beats (suc k)) (slice_index (set jobs (place - 1) writer) i) (slice_index (set jobs (place - 1) writer) (suc k))) here
          (subst (λ i. IsLastWritingJob (beat_in beats (place - 1)) (beat_in beats i) (slice_index (set jobs (place - 1) writer) (place - 1)) (slice_index (set jobs (place - 1) writer) i)) next
          (subst (λ w. IsLastWritingJob (beat_in beats (place - 1)) (beat_in beats place) w (slice_index (set jobs (place - 1) writer) place)) (sym written)
          (subst (λ r. IsLastWritingJob (beat_in beats (place - 1)) (beat_in beats place) writer r) (sym kept) link)))
      | inr old ↦
          let one = get_or-set_other jobs (place - 1) k writer 0 (λ same. omega (arith, same)) in
          let other = get_or-set_other jobs (place - 1) (suc k) writer 0 (λ same. omega (arith, same)) in
          subst (λ w. IsLastWritingJob (beat_in beats k) (beat_in beats (suc k)) w (slice_index (set jobs (place - 1) writer) (suc k))) (sym one)
          (subst (λ r. IsLastWritingJob (beat_in beats k) (beat_in beats (suc k)) (slice_index jobs k) r) (sym other) (so_far k old within))
    ]

-- the latest of the second arrivals, with one more group
pub latest_more : (beats : List Beat) (i latest next : ℕ) → next ≡ max ((beat_in beats i).offset + (beat_in beats i).period) latest
    → ((place : ℕ) → place < i → (beat_in beats place).offset + (beat_in beats place).period ≤ latest)
    → (place : ℕ) → place < i + 1 → (beat_in beats place).offset + (beat_in beats place).period ≤ next
latest_more beats i latest next is above place within =
    elim (cases_lt place i) [
      | inl before ↦ omega (arith, above place before)
      | inr here ↦
          let same : i ≡ place = omega arith in
          subst (λ k. (beat_in beats k).offset + (beat_in beats k).period ≤ next) same (omega arith)
    ]

-- a walk begins at a job that reads at or after the start-up
pub first_on_walk : (beats : List Beat) (last job : ℕ) → job ≡ last → start_up_of beats ≤ read_at (beat_in beats (length beats - 1)) last
    → read_at (beat_in beats (length beats - 1)) last ≤ EARLY → IsOnWalk beats (length beats - 1) job
first_on_walk beats last job same late early =
    let read = ap (read_at (beat_in beats (length beats - 1))) same in
    record {
      late = omega (arith, read, late, sum_by-take-le start_of beats (length beats - 1));
      early = omega (arith, read, early);
    }

-- how far a walk back has come: down to the group of a place
pub record IsWalked (beats : List Beat) (place last : ℕ) (jobs : List ℕ) : Type 0 where
  pub within : place < length beats
  pub room : length jobs ≡ 64
  pub linked : AreLinkedFrom beats place jobs
  pub last_is : slice_index jobs (length beats - 1) ≡ last
  pub on_walk : IsOnWalk beats place (slice_index jobs place)

pub walk_begins : (beats : List Beat) (last : ℕ) (jobs : List ℕ) → length jobs ≡ 64 → AreBeats beats
    → start_up_of beats ≤ read_at (beat_in beats (length beats - 1)) last
    → read_at (beat_in beats (length beats - 1)) last ≤ EARLY
    → IsWalked beats (length beats - 1) last (set jobs (length beats - 1) last)
walk_begins beats last jobs room are late early =
    let set_last = get_or-set_same jobs (length beats - 1) last 0 (omega (arith, are.some, are.few)) in
    record {
      within = omega (arith, are.some);
      room = length-set jobs (length beats - 1) last ∙ room;
      linked = λ place from within. absurd (omega (arith, from, within));
      last_is = set_last;
      on_walk = first_on_walk beats last _ set_last late early;
    }

pub walk_goes_on : (beats : List Beat) → AreBeats beats → (place last : ℕ) (jobs : List ℕ) (writer : ℕ) → 1 ≤ place
    → writer ≡ last_writer (beat_in beats (place - 1)) (read_at (beat_in beats place) (slice_index jobs place))
    → IsWalked beats place last jobs → IsWalked beats (place - 1) last (set jobs (place - 1) writer)
walk_goes_on beats are place last jobs writer some is so_far =
    let job : ℕ = slice_index jobs place in
    let early : place - 1 < length beats = omega (arith, so_far.within) in
    let room : place < length jobs = omega (arith, so_far.within, so_far.room, are.few) in
    let link = last_writer_is (beat_in beats (place - 1)) (beat_in beats place) (are.each (place - 1) early).some_period job
    (has_writer beats place job some so_far.within so_far.on_walk) in
    let new_set = get_or-set_same jobs (place - 1) writer 0 (omega (arith, room)) in
    record {
      within = early;
      room = length-set jobs (place - 1) writer ∙ so_far.room;
      linked = linked_more beats place jobs writer some room so_far.linked
          (subst (λ w. IsLastWritingJob (beat_in beats (place - 1)) (beat_in beats place) w job) (sym is) link);
      last_is = get_or-set_other jobs (place - 1) (length beats - 1) writer 0 (λ same. omega (arith, same, so_far.within)) ∙ so_far.last_is;
      on_walk = subst (IsOnWalk beats (place - 1)) (sym (new_set ∙ is)) (walk_back beats are place job some so_far.within so_far.on_walk);
    }

-- a whole walk is a backward chain, but for what stands past its end
pub walk_ends : (beats : List Beat) → AreBeats beats → (last : ℕ) (jobs numbers : List ℕ) → IsWalked beats 0 last jobs → numbers ≡ take (length beats) jobs
    → IsBackwardWalk beats last numbers
walk_ends beats are last jobs numbers walked are_first =
    let at : (k : ℕ) → k < length beats → slice_index numbers k ≡ slice_index jobs k = λ k below.
    ap (λ xs. slice_index xs k) are_first ∙ get_or-take (length beats) jobs k 0 below in
    record {
      as_many = ap length are_first ∙ length-take-le (length beats) jobs (omega (arith, walked.room, are.few));
      linked = λ place within.
          subst (λ w. IsLastWritingJob (beat_in beats place) (beat_in beats (suc place)) w (slice_index numbers (suc place))) (sym (at place (omega (arith, within))))
          (subst (λ r. IsLastWritingJob (beat_in beats place) (beat_in beats (suc place)) (slice_index jobs place) r) (sym (at (suc place) within))
          (walked.linked place (omega arith) within));
      last_is = at (length beats - 1) (omega (arith, are.some)) ∙ walked.last_is;
    }
