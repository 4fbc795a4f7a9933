-- A task in phase takes the same of each window from a moment on that ends between the same two arrivals. Times are in
-- ticks, and moments may lie before 0.
use Rattle.std.proofs.Common.{◌≡◌, ℕ, zero, suc, ◌+◌, ◌-◌, ◌*◌, ◌<◌, ◌≤◌, ℤ, pos, ◌+ℤ◌, ◌-ℤ◌, ◌≤ℤ◌, Bool, true, false, List, length, get_or, refl, sym, ap, ◌∙◌, subst, arith}
use Rattle.std.proofs.lemmas.Int.{ints}
use Rattle.std.proofs.lemmas.List.{get_or_default}
use Rattle.cl_stim.specs.{declared.phase.Phase.Phase, Phase.{IsPhase, arrives_at, first_arrival}}
use Rattle.cl_stim.proofs.{ArrivalTests.arrives_from_test, PhaseSteps.first_before}
use Rattle.cl_cycle.specs.Counts.{arrivals_from}
use Rattle.cl_resp.specs.{declared.phased.InPhase.InPhase, Inner.Phased.time_in_phase}
use Rattle.cl_cycle.proofs.CountedTicks.{one_if, longer}

not_true : (b : Bool) → (b ≡ true → ⊥) → b ≡ false
not_true true no_way = absurd (no_way refl)
not_true false no_way = refl

module _ (phase : Phase) (is : IsPhase phase) where
  -- no job arrives before the first that isn't before a moment
  none_arrives : (moment between : ℤ) → moment ≤ℤ between → (between +ℤ pos 1) ≤ℤ first_arrival phase moment → arrives_at phase between ≡ false
  none_arrives moment between after before = not_true (arrives_at phase between)
      (λ passes. past between (first_arrival phase moment) before (first_before phase is moment between (arrives_from_test phase is between passes) after))
    where
      past : (between first : ℤ) → (between +ℤ pos 1) ≤ℤ first → first ≤ℤ between → ⊥
      past between first h k = omega (arith, ints, h, k)

  -- so a window that ends by then has no more
  no_more : (from : ℤ) (width more : ℕ) → (from +ℤ pos (width + more)) ≤ℤ first_arrival phase (from +ℤ pos width)
      → arrivals_from phase from (width + more) ≡ arrivals_from phase from width
  no_more from width zero by = let same : width + 0 ≡ width = omega arith in ap (arrivals_from phase from) same
  no_more from width (suc more) by =
      let next : width + suc more ≡ width + more + 1 = omega arith in
      let first = first_arrival phase (from +ℤ pos width) in
      omega (
        arith,
        ap (arrivals_from phase from) next,
        longer phase from (width + more),
        ap one_if (none_arrives (from +ℤ pos width) (from +ℤ pos (width + more)) (later from width more) (tick_before from width more first by)),
        no_more from width more (a_tick_less from width more first by),
      )
    where
      later : (from : ℤ) (width more : ℕ) → (from +ℤ pos width) ≤ℤ (from +ℤ pos (width + more))
      later from width more = omega (arith, ints)

      tick_before : (from : ℤ) (width more : ℕ) (first : ℤ) → (from +ℤ pos (width + suc more)) ≤ℤ first → ((from +ℤ pos (width + more)) +ℤ pos 1) ≤ℤ first
      tick_before from width more first h = omega (arith, ints, h)

      a_tick_less : (from : ℤ) (width more : ℕ) (first : ℤ) → (from +ℤ pos (width + suc more)) ≤ℤ first → (from +ℤ pos (width + more)) ≤ℤ first
      a_tick_less from width more first h = omega (arith, ints, h)

-- where a window ends, seen from the earliest arrival of a job that may be released in it
module _ (start : ℤ) (jitter width : ℕ) where
  ends : ((start -ℤ pos jitter) +ℤ pos (width + jitter)) ≡ (start +ℤ pos width)
  ends = omega (arith, ints)

  by_first : (more : ℕ) (first : ℤ) → (start +ℤ pos (width + more)) ≤ℤ first → ((start -ℤ pos jitter) +ℤ pos ((width + jitter) + more)) ≤ℤ first
  by_first more first h = omega (arith, ints, h)

-- a task in phase takes as long of each window from a moment on, up to the next arrival
pub as_long : (above : InPhase) → IsPhase above.phase → (start : ℤ) (width between : ℕ) → width ≤ between
    → (start +ℤ pos between) ≤ℤ first_arrival above.phase (start +ℤ pos width)
    → time_in_phase start between above ≡ time_in_phase start width above
as_long above is start width between low high =
    let from = start -ℤ pos above.jitter in
    let more = between - width in
    let rest : width + more ≡ between = omega (arith, low) in
    let wide : between + above.jitter ≡ (width + above.jitter) + more = omega (arith, rest) in
    let until : (from +ℤ pos ((width + above.jitter) + more)) ≤ℤ first_arrival above.phase (from +ℤ pos (width + above.jitter)) =
    subst (λ m. (from +ℤ pos ((width + above.jitter) + more)) ≤ℤ first_arrival above.phase m) (sym (ends start above.jitter width))
    (by_first start above.jitter width more (first_arrival above.phase (start +ℤ pos width))
    (subst (λ n. (start +ℤ pos n) ≤ℤ first_arrival above.phase (start +ℤ pos width)) (sym rest) high)) in
    ap (λ n. n * above.time) (ap (arrivals_from above.phase from) wide ∙ no_more above.phase is from (width + above.jitter) more until)

-- and so up to a width that ends there
pub by_widest : (start first : ℤ) (widest between : ℕ) → (start +ℤ pos widest) ≡ first → between ≤ widest → (start +ℤ pos between) ≤ℤ first
by_widest start first widest between at high = omega (arith, ints, at, high)

-- ---- the items of the list of the tasks in phase

-- what stands past its end
abbrev pub no_task : InPhase
no_task = record { phase = record { period = 0; offset = 0; count = 0; distance = 0 }; jitter = 0; time = 0 }

pub same_item : (items others : List InPhase) (place : ℕ) → items ≡ others → place < length others
    → get_or items place no_task ≡ get_or others place (get_or items place no_task)
same_item items others place same known = ap (λ l. get_or l place no_task) same ∙ get_or_default others place no_task (get_or items place no_task) known
