-- From one latest release of a task in phase back to the one before it, a window that begins a tick earlier ends a tick
-- earlier.
use Rattle.std.proofs.Common.{◌≡◌, ℕ, zero, suc, ◌+◌, ◌≤◌, false, ℤ, pos, negsuc, ◌+ℤ◌, ◌-ℤ◌, ◌≤ℤ◌, ◌<ℤ◌, List, [], ◌∷◌, refl, sym, subst, arith}
use Rattle.std.specs.Prelude.{sum_by, All, Option, Some, None, unwrap_or, IfSome, MatchOption}
use Rattle.std.proofs.lemmas.Int.{ints}
use Rattle.std.proofs.lemmas.List.Elements.{All-head, All-tail, All-nil}
use Rattle.std.proofs.lemmas.List.Sums.{sum_by-cons}
use Rattle.std.proofs.Math.Nat.{mul-le-mul_right}
use Rattle.cl_stim.specs.Phase.{arrives_at}
use Rattle.cl_cycle.specs.Counts.{arrivals_from}
use Rattle.cl_resp.specs.{declared.phased.{InPhase.InPhase, PhasedQuestion.PhasedQuestion}, Asked.EndsBy, Inner.{Phased.{asked_of, time_in_phase}, Releases.IsLastReleaseBefore, Searching.{NoneReleased, IsAfter}}}
use Rattle.cl_cycle.proofs.CountedTicks.{later_has as later}

-- a task in phase has no latest release at a moment
abbrev has_no_release : (moment : ℤ) → InPhase → Type 0
has_no_release moment above = arrives_at above.phase (moment -ℤ pos above.jitter) ≡ false

module _ (start : ℤ) (width : ℕ) where
  -- the tick after the jitter before a start is that before the next start
  next_is : (jitter : ℕ) → ((start -ℤ pos jitter) +ℤ pos 1) ≡ ((start +ℤ pos 1) -ℤ pos jitter)
  next_is jitter = omega (arith, ints)

  -- then it takes no more of a window that begins there than of one a tick later
  no_more_time : (above : InPhase) → has_no_release start above → time_in_phase start width above ≤ time_in_phase (start +ℤ pos 1) width above
  no_more_time above none = mul-le-mul_right above.time
      (subst (λ from. arrivals_from above.phase (start -ℤ pos above.jitter) (width + above.jitter) ≤ arrivals_from above.phase from (width + above.jitter))
      (next_is above.jitter) (later above.phase (start -ℤ pos above.jitter) none (width + above.jitter)))

  -- nor do all tasks in phase
  no_more_times : (in_phase : List InPhase) → All (has_no_release start) in_phase
      → sum_by (time_in_phase start width) in_phase ≤ sum_by (time_in_phase (start +ℤ pos 1) width) in_phase
  no_more_times [] none = omega arith
  no_more_times (above ∷ rest) none = omega (
    arith,
    no_more_time above (All-head (has_no_release start) above rest none),
    no_more_times rest (All-tail (has_no_release start) above rest none),
    sum_by-cons (time_in_phase start width) above rest,
    sum_by-cons (time_in_phase (start +ℤ pos 1) width) above rest,
  )

module _ (question : PhasedQuestion) where
  -- so the window that begins a tick earlier ends a tick earlier
  pub ends_a_tick_earlier : (start latest : ℤ) → NoneReleased question start → EndsBy (asked_of question) (start +ℤ pos 1) (latest +ℤ pos 1)
      → EndsBy (asked_of question) start latest
  ends_a_tick_earlier start latest none ends =
      let less = no_more_times start ends.width question.in_phase none in
      record {
        width = ends.width;
        some = ends.some;
        by = omega (arith, ints, ends.by);
        enough = omega (arith, less, ends.enough);
      }

  -- what comes after the last release goes on to
  after_next : (last : Option ℤ) (moment : ℤ) → IsAfter last moment → IsAfter last (moment +ℤ pos 1)
  after_next None moment after = after
  after_next (Some one) moment after = omega (arith, ints, after)

  -- what goes back over a moment without a release holds from a moment back to the last release before it
  module _ (P : ℤ → Type 0) (last : Option ℤ) (start : ℤ) (none : (moment : ℤ) → IsAfter last moment → moment <ℤ start → NoneReleased question moment)
      (back : (moment : ℤ) → NoneReleased question moment → P (moment +ℤ pos 1) → P moment) (there : P start) where
    -- so many ticks back
    go_back : (ticks : ℕ) (moment : ℤ) → start ≡ (moment +ℤ pos ticks) → IsAfter last moment → P moment
    go_back zero moment far after = subst P (same moment far) there
      where
        same : (moment : ℤ) → start ≡ (moment +ℤ pos 0) → start ≡ moment
        same moment far = omega (arith, ints, far)
    go_back (suc ticks) moment far after =
        let before : moment <ℤ start = omega (arith, ints, far) in
        let next : start ≡ ((moment +ℤ pos 1) +ℤ pos ticks) = omega (arith, ints, far) in
        back moment (none moment after before) (go_back ticks (moment +ℤ pos 1) next (after_next last moment after))

    -- and to each moment between
    pub holds_back : (moment : ℤ) → IsAfter last moment → moment ≤ℤ start → P moment
    holds_back moment after before = by (start -ℤ moment) refl
      where
        by : (far : ℤ) → (start -ℤ moment) ≡ far → P moment
        by (pos ticks) is = go_back ticks moment (omega (arith, ints, is)) after
        by (negsuc lacking) is = absurd (omega (arith, ints, before, is))

-- what comes after the last release, or after another moment where there is none, comes after the last release
pub after_last : (last : Option ℤ) (other moment : ℤ) → unwrap_or last other <ℤ moment → IsAfter last moment
after_last None other moment after = tt
after_last (Some one) other moment after = after

-- what the last latest release before a start says: it comes before the start, and none comes between
pub last_before : (question : PhasedQuestion) (start : ℤ) (last : Option ℤ)
    → MatchOption last (question.in_phase ≡ []) (IsLastReleaseBefore question start) → IfSome last (λ one. one <ℤ start)
last_before question start None none = tt
last_before question start (Some one) is = omega (arith, ints, is.before)

pub none_after : (question : PhasedQuestion) (start : ℤ) (last : Option ℤ)
    → MatchOption last (question.in_phase ≡ []) (IsLastReleaseBefore question start)
    → (moment : ℤ) → IsAfter last moment → moment <ℤ start → NoneReleased question moment
none_after question start None none moment after before =
    subst (λ (above : List InPhase). All (has_no_release moment) above) (sym none) (All-nil (has_no_release moment))
none_after question start (Some one) is moment after before =
    is.none_between moment (omega (arith, ints, after)) (omega (arith, ints, before))
