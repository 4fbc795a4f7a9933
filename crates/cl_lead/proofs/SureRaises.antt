-- How a distance from an arrival on is raised to what is needed by then: from each moment that
-- counts no more is needed than from the next, but where the job or one of those above arrives; and
-- what is needed never falls as the distance grows.
use Rattle.std.proofs.Common.{◌≡◌, ℕ, zero, suc, ◌+◌, ◌-◌, ◌*◌, ◌<◌, ◌≤◌, inl, inr, false, cond, nat_le, List, [], ◌∷◌, ℤ, pos, ◌+ℤ◌, ◌-ℤ◌, ◌≤ℤ◌, ap, arith, mul-le-mul_right}
use Rattle.std.specs.Prelude.{All, sum_by}
use Rattle.std.proofs.lemmas.Int.{ints}
use Rattle.std.proofs.lemmas.Bool.{cases_lt, cases_eq}
use Rattle.std.proofs.lemmas.Bool.Decides.{nat_tests}
use Rattle.std.proofs.lemmas.List.Elements.{All-head, All-tail}
use Rattle.std.proofs.lemmas.List.Sums.{sum_by-cons, sum_by-le-sum_by}
use Rattle.cl_stim.specs.{declared.phase.Phase.Phase, Phase.{arrives_at, last_arrival}}
use Rattle.cl_cycle.specs.Counts.{arrivals_from}
use Rattle.cl_cycle.proofs.CountedTicks.{one_if, none_in_none, earlier, wider_has}
use Rattle.cl_lead.specs.{declared.sure.{SureTask.SureTask, SureWork.SureWork}, Ahead.{ticks_taken, MayStartAt}, Inner.Sure.{sure_time, ahead_in, IsQuiet, IsFirstCounted, IsRaised}}

-- ---- one task

next_moment : (moment : ℕ) → (pos moment +ℤ pos 1) ≡ pos (suc moment)
next_moment moment = omega (arith, ints)

-- where none arrives at a moment, no more do from it than from the next
module _ (phase : Phase) (moment : ℕ) (none : arrives_at phase (pos moment) ≡ false) where
  step : (width : ℕ) → arrivals_from phase (pos moment) (width + 1) ≡ arrivals_from phase (pos (suc moment)) width
  step width = omega (
    arith,
    earlier phase (pos moment) width,
    ap one_if none,
    ap (λ m. arrivals_from phase m width) (next_moment moment),
  )

  quiet_arrivals : (width jitter : ℕ) → arrivals_from phase (pos moment) (suc (suc width) - jitter) ≤ arrivals_from phase (pos (suc moment)) (suc width - jitter)
  quiet_arrivals width jitter = elim (cases_lt (suc width) jitter) [
    | inl less ↦
        let nothing : suc (suc width) - jitter ≡ 0 = omega (arith, less) in
        omega (arith, ap (arrivals_from phase (pos moment)) nothing, none_in_none phase (pos moment))
    | inr more ↦
        let one : suc (suc width) - jitter ≡ suc width - jitter + 1 = omega (arith, more) in
        omega (arith, ap (arrivals_from phase (pos moment)) one, step (suc width - jitter))
  ]

  none_there : (jitter : ℕ) → arrivals_from phase (pos moment) (1 - jitter) ≡ 0
  none_there jitter = omega (
    arith,
    wider_has phase (pos moment) (1 - jitter) (0 + 1) (omega arith),
    step 0,
    none_in_none phase (pos (suc moment)),
  )

quiet_time : (above : SureTask) (moment width : ℕ) → arrives_at above.phase (pos moment) ≡ false
    → sure_time moment (suc width) above ≤ sure_time (suc moment) width above
quiet_time above moment width none = mul-le-mul_right above.time (quiet_arrivals above.phase moment none width above.jitter)

no_time : (above : SureTask) (moment : ℕ) → arrives_at above.phase (pos moment) ≡ false → sure_time moment 0 above ≤ 0
no_time above moment none = omega (arith, ap (λ n. n * above.time) (none_there above.phase moment none above.jitter))

wider_time : (above : SureTask) (from narrow wide : ℕ) → narrow ≤ wide → sure_time from narrow above ≤ sure_time from wide above
wider_time above from narrow wide h =
    mul-le-mul_right above.time (wider_has above.phase (pos from) (suc narrow - above.jitter) (suc wide - above.jitter) (omega (arith, h)))

-- ---- all of them

sums_rise : (f g : SureTask → ℕ) (xs : List SureTask) → All (λ x. f x ≤ g x) xs → sum_by f xs ≤ sum_by g xs
sums_rise f g [] each = omega arith
sums_rise f g (x ∷ xs) each = omega (
  arith,
  sum_by-cons f x xs,
  sum_by-cons g x xs,
  All-head (λ y. f y ≤ g y) x xs each,
  sums_rise f g xs (All-tail (λ y. f y ≤ g y) x xs each),
)

sum_of_none : (f : SureTask → ℕ) (xs : List SureTask) → All (λ x. f x ≤ 0) xs → sum_by f xs ≤ 0
sum_of_none f [] each = omega arith
sum_of_none f (x ∷ xs) each =
    omega (arith, sum_by-cons f x xs, All-head (λ y. f y ≤ 0) x xs each, sum_of_none f xs (All-tail (λ y. f y ≤ 0) x xs each))

own_quiet : (moment arrival before : ℕ) → (moment ≡ arrival → ⊥) → cond (nat_le moment arrival) before 0 ≤ cond (nat_le (suc moment) arrival) before 0
own_quiet moment arrival before other = elim (cases_eq moment arrival) [
  | inl same ↦ absurd (other same)
  | inr apart ↦ grind (arith, nat_tests, apart)
]

own_past : (moment arrival before : ℕ) → (moment ≡ arrival → ⊥) → arrival ≤ moment → cond (nat_le moment arrival) before 0 ≤ 0
own_past moment arrival before other late = elim (cases_eq moment arrival) [
  | inl same ↦ absurd (other same)
  | inr apart ↦ grind (arith, nat_tests, apart, late)
]

module _ (work : SureWork) (arrival : ℕ) where
  abbrev taken : (from width : ℕ) → ℕ
  taken from width = ticks_taken (ahead_in work) arrival from width

  quiet_taken : (moment width : ℕ) → IsQuiet work arrival moment → taken moment (suc width) ≤ taken (suc moment) width
  quiet_taken moment width quiet = omega (
    arith,
    sums_rise (sure_time moment (suc width)) (sure_time (suc moment) width) work.above.items
        (λ k d h. quiet_time _ moment width (quiet.none k d h)),
    own_quiet moment arrival work.before quiet.other,
  )

  quiet_end : (moment : ℕ) → IsQuiet work arrival moment → arrival ≤ moment → taken moment 0 ≤ 0
  quiet_end moment quiet late = omega (
    arith,
    sum_of_none (sure_time moment 0) work.above.items (λ k d h. no_time _ moment (quiet.none k d h)),
    own_past moment arrival work.before quiet.other late,
  )

  wider_taken : (from narrow wide : ℕ) → narrow ≤ wide → taken from narrow ≤ taken from wide
  wider_taken from narrow wide h = omega (
    arith,
    sum_by-le-sum_by (sure_time from narrow) (sure_time from wide) work.above.items (λ above. wider_time above from narrow wide h),
  )

  -- ---- raised

  -- from each moment on, but for those before another, no more is needed
  abbrev pub IsChecked : (lead first raised until : ℕ) → Type 0
  IsChecked lead first raised until = (from width : ℕ) → first ≤ from → until ≤ from → from + width ≡ arrival + lead
      → from + taken from width ≤ arrival + raised

  module _ (lead most first : ℕ) (is_first : IsFirstCounted work arrival first) where
    module _ (from : ℕ) (after : first ≤ from) (by : from ≤ arrival + lead) where
      -- it may not start sooner than what is needed allows
      pub none_sooner : (other : ℕ) → lead ≤ other → arrival + other < from + taken from (arrival + lead - from)
          → MayStartAt (ahead_in work) arrival (arrival + other) → ⊥
      none_sooner other more sooner may =
          let ends : from + (arrival + other - from) ≡ arrival + other = omega (arith, by, more) in
          omega (
            arith,
            sooner,
            more,
            by,
            wider_taken from (arrival + lead - from) (arrival + other - from) (omega (arith, more)),
            may from (arrival + other - from) counted ends,
          )
        where
          later : (z : ℤ) → (z +ℤ pos 1) ≤ℤ pos first → (z +ℤ pos 1) ≤ℤ pos from
          later z h = omega (arith, ints, h, after)

          counted : (last_arrival work.arrivals (pos arrival -ℤ pos 1) +ℤ pos 1) ≤ℤ pos from
          counted = later (last_arrival work.arrivals (pos arrival -ℤ pos 1)) is_first.after

      module _ (raised until last : ℕ) (start : until ≤ arrival + lead + 1) (no_less : lead ≤ raised) (checked : IsChecked lead first raised until)
          (quiet : (between : ℕ) → last < between → between < until → IsQuiet work arrival between) (last_by : last ≤ from) where
        module _ (higher : ℕ) (kept : raised ≤ higher) (needed : from + taken from (arrival + lead - from) ≤ arrival + higher) where
          -- from the quiet moments on no more is needed than from the next
          down : (passed one width : ℕ) → one + passed ≡ until → from < one → one + width ≡ arrival + lead → one + taken one width ≤ arrival + higher
          down zero one width at above ends = omega (arith, kept, checked one width (omega (arith, above, after)) (omega (arith, at)) ends)
          down (suc passed) one zero at above ends =
              let silent = quiet one (omega (arith, above, last_by)) (omega (arith, at)) in
              omega (arith, ends, kept, no_less, quiet_end one silent (omega (arith, ends)))
          down (suc passed) one (suc width) at above ends =
              let silent = quiet one (omega (arith, above, last_by)) (omega (arith, at)) in
              omega (
                arith,
                quiet_taken one width silent,
                down passed (suc one) width (omega (arith, at)) (omega (arith, above)) (omega (arith, ends)),
              )

          -- so it is checked from this one on
          pub checked_down : IsChecked lead first higher from
          checked_down one width one_after one_by ends = elim (cases_eq one from) [
            | inl same ↦
                let here : width ≡ arrival + lead - from = omega (arith, ends, same) in
                omega (arith, needed, same, ap (λ m. taken m width) same, ap (taken from) here)
            | inr other ↦ elim (cases_lt one until) [
              | inl below ↦ down (until - one) one width (omega (arith, below)) (omega (arith, other, one_by)) ends
              | inr past ↦ omega (arith, kept, checked one width one_after past ends)
            ]
          ]

    -- where more is needed than the most, none may start before that
    pub raised_to_most : (from : ℕ) → first ≤ from → from ≤ arrival + lead → lead < most → arrival + most < from + taken from (arrival + lead - from)
        → IsRaised (ahead_in work) arrival lead most most
    raised_to_most from after by less more = record {
      no_less = omega (arith, less);
      no_more = omega arith;
      none = λ other from_lead below may. none_sooner from after by other from_lead (omega (arith, more, below)) may;
      may = λ same. absurd (omega (arith, less, same));
    }

-- what is needed of the job itself
pub own_then : (from arrival before : ℕ) → from ≤ arrival → cond (nat_le from arrival) before 0 ≡ before
own_then from arrival before h = grind (arith, nat_tests, h)

pub own_else : (from arrival before : ℕ) → arrival < from → cond (nat_le from arrival) before 0 ≡ 0
own_else from arrival before h = grind (arith, nat_tests, h)
