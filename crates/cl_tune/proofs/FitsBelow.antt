-- Whether a task passes below others: it does where it did and less is asked of its core.
use Rattle.std.proofs.Common.{◌≡◌, ℕ, ◌+◌, ◌-◌, ◌*◌, ◌/◌, ◌%◌, ◌≤◌, inl, inr, min, max, Bool, true, false, cond, not, Option, Some, None, List, [], ◌∷◌, get_or, map, refl, sym, ap, ◌∙◌, arith}
use Rattle.std.specs.Prelude.{◌==◌, sum_by, is_some, fold}
use Rattle.std.specs.Int.{div_ceil}
use Rattle.std.specs.List.{list_all}
use Rattle.std.proofs.lemmas.Bool.{false≢true, cases_lt, cases_eq, and_parts, and_from}
use Rattle.std.proofs.lemmas.Grind.{div_ceil_times}
use Rattle.std.proofs.lemmas.Nat.{div-add-mod'}
use Rattle.std.proofs.lemmas.List.Folds.{fold-map}
use Rattle.std.proofs.lemmas.List.Sums.{get_or-le-sum_by, AllPass-from_list_all, list_all-from_AllPass}
use Rattle.std.proofs.Math.Nat.{mul-le-mul, mul-le-mul_right}
use Rattle.cl_model.specs.{declared.stimulus.StimulusKind.{StimulusKind, TheVariants.{Periodic, Sporadic, Burst}}, ValidTasks.spans_too_many}
use Rattle.cl_model.proofs.Greatest.{greatest_within}
use Rattle.cl_runs.specs.{Pattern.IsPattern, TaskTiming.{TimeRange, Timing, System, timing_at}, ExecutionTimes.greatest_execution}
use Rattle.cl_stim.specs.{AnyStimulus.kind_of, Releases.most_releases}
use Rattle.cl_stim.proofs.StimulusKinds.{kind_of-as_stimulus}
use Rattle.cl_resp.specs.{declared.question.{Above.Above, Question.Question}, Question.{hold_of, longest_hold, taken_by}, Response.{Response, demand, response_to, AsksNoMore}}
use Rattle.cl_resp.proofs.LessAsked.{answered_no_later}
use Rattle.cl_tune.specs.Inner.Filling.{without, question_below, spans_few, fits_below, AreDistinct}
use Rattle.cl_tune.proofs.Members.{has, HaveSame, all_at, has_filter, sum_without, sums_agree, has_place}

-- ---- at least one job

ceil_some : (n d : ℕ) → 1 ≤ n → 1 ≤ d → 1 ≤ div_ceil n d
ceil_some n d some divisor = elim (cases_lt (div_ceil n d) 1) [
  | inl none ↦
      let zero_is : div_ceil n d ≡ 0 = omega (arith, none) in
      absurd (omega (arith, (div_ceil_times n d divisor).0, ap (λ m. m * d) zero_is, some))
  | inr is ↦ is
]

burst_some : (width period count distance : ℕ) → 1 ≤ width → 1 ≤ count → 1 ≤ distance
    → 1 ≤ width / period * count + min count (div_ceil (width % period) distance)
burst_some width period count distance some jobs apart = elim (cases_eq (width / period) 0) [
  | inl none ↦
      let rest : 1 ≤ width % period = omega (arith, some, div-add-mod' width period, ap (λ n. n * period) none) in
      omega (arith, ceil_some (width % period) distance rest apart, jobs)
  | inr many ↦
      let once : 1 ≤ width / period = omega (arith, many) in
      let whole : 1 * 1 ≤ width / period * count = mul-le-mul once jobs in
      omega (arith, whole)
]

-- a window of a tick or more can hold a release
pub most_some : (kind : StimulusKind) → IsPattern kind → (width : ℕ) → 1 ≤ width → 1 ≤ most_releases kind width
unfolding most_releases
most_some (Periodic period offset jitter) well width some = ceil_some (width + jitter) period (omega (arith, some)) well
most_some (Sporadic least greatest) well width some = ceil_some width least some well.0
most_some (Burst period offset count distance) well width some = burst_some width period count distance some well.0 well.1

-- ---- what a task takes of a window

-- the most ticks that a task takes of a window
abbrev pub load : System → (width : ℕ) → (task : ℕ) → ℕ
load system width task = most_releases (timing_at system task).pattern width * greatest_execution (timing_at system task)

hold_within : (whole : Bool) (greatest : ℕ) → cond whole (greatest - 1) 0 ≤ greatest
hold_within true greatest = omega arith
hold_within false greatest = omega arith

-- no runnable holds its core for longer than a job takes
pub hold_fits : (task : Timing) → longest_hold task ≤ greatest_execution task
unfolding longest_hold greatest_execution
hold_fits task = greatest_within hold_of task.ranges (sum_by (λ (range : TimeRange). range.greatest) task.ranges)
    (λ p d lt. omega (
      arith,
      hold_within (get_or task.ranges p d).whole (get_or task.ranges p d).greatest,
      get_or-le-sum_by (λ (range : TimeRange). range.greatest) task.ranges p d lt,
    ))

-- nor for longer than the task takes of a window
pub hold_load : (system : System) (task : ℕ) → IsPattern (timing_at system task).pattern → (width : ℕ) → 1 ≤ width
    → longest_hold (timing_at system task) ≤ load system width task
hold_load system task well width some =
    let takes : 1 * greatest_execution (timing_at system task) ≤ load system width task =
    mul-le-mul_right (greatest_execution (timing_at system task)) (most_some (timing_at system task).pattern well width some) in
    omega (arith, takes, hold_fits (timing_at system task))

-- ---- the demand below others

loads_are : (system : System) (width : ℕ) (others : List ℕ)
    → sum_by (λ (above : Above). most_releases (kind_of above.stimulus) width * above.time) (map (λ other. taken_by (timing_at system other)) others)
    ≡ sum_by (load system width) others
loads_are system width others =
    fold-map (λ (a : ℕ) (above : Above). a + most_releases (kind_of above.stimulus) width * above.time) (λ other. taken_by (timing_at system other)) 0 others
    ∙ same 0 others
  where
    same : (a : ℕ) (others : List ℕ)
        → fold (λ (a : ℕ) other. a + most_releases (kind_of (taken_by (timing_at system other)).stimulus) width * greatest_execution (timing_at system other)) a others
        ≡ fold (λ (a : ℕ) other. a + load system width other) a others
    same a [] = refl
    same a (x ∷ xs) =
        ap (λ (k : StimulusKind). fold (λ (a : ℕ) other. a + most_releases (kind_of (taken_by (timing_at system other)).stimulus) width * greatest_execution (timing_at system other))
        (a + most_releases k width * greatest_execution (timing_at system x)) xs) (kind_of-as_stimulus (timing_at system x).pattern)
        ∙ same (a + load system width x) xs

pub demand_below : (system : System) (block : ℕ) (others : List ℕ) (task width : ℕ)
    → demand (question_below system block others task) width
    ≡ max block (longest_hold (timing_at system task)) + greatest_execution (timing_at system task) + sum_by (load system width) others
unfolding demand
demand_below system block others task width =
    ap (λ n. max block (longest_hold (timing_at system task)) + greatest_execution (timing_at system task) + n) (loads_are system width others)

-- ---- a question that asks less

-- a question that asks no more than another has a response where that has one
pub asks_less : (question other : Question) → AsksNoMore question other → is_some (response_to other) ≡ true → is_some (response_to question) ≡ true
asks_less question other less is = go (response_to other) refl is
  where
    go : (latest : Option Response) → response_to other ≡ latest → is_some latest ≡ true → is_some (response_to question) ≡ true
    go None none is = absurd (false≢true is)
    go (Some latest) answered is = ap is_some (answered_no_later question other less latest answered).answered

-- ---- a task fits below others

few_fewer : (test : ℕ → Bool) (xs ys : List ℕ) → ((x : ℕ) → has x ys ≡ true → has x xs ≡ true) → list_all test xs ≡ true → list_all test ys ≡ true
few_fewer test xs ys fewer all =
    list_all-from_AllPass test ys
    (has_place (λ x. test x ≡ true) ys
    (λ x is. all_at (λ x. test x ≡ true) xs x (AllPass-from_list_all test xs all) (fewer x is)))

-- it fits below fewer, too, where these ask no more
pub fits_fewer : (system : System) (block less : ℕ) (others fewer : List ℕ) (task : ℕ)
    → ((x : ℕ) → has x fewer ≡ true → has x others ≡ true)
    → ((width : ℕ) → 1 ≤ width → max less (longest_hold (timing_at system task)) + sum_by (load system width) fewer
    ≤ max block (longest_hold (timing_at system task)) + sum_by (load system width) others)
    → fits_below system block others task ≡ true → fits_below system less fewer task ≡ true
fits_fewer system block less others fewer task within asks fit =
    let parts = and_parts (spans_few system others task) (is_some (response_to (question_below system block others task))) fit in
    and_from (spans_few system fewer task) (is_some (response_to (question_below system less fewer task)))
    (few_fewer (λ other. not (spans_too_many (timing_at system task).deadline (timing_at system other).pattern)) others fewer within parts.0)
    (asks_less (question_below system less fewer task) (question_below system block others task) (record {
      deadline = refl;
      jitter = refl;
      needs = λ width some. omega (arith, demand_below system less fewer task width, demand_below system block others task width, asks width some);
    }) parts.1)

-- the order of the others doesn't matter
pub fits_same : (system : System) (block : ℕ) (others same : List ℕ) (task : ℕ) → AreDistinct others → AreDistinct same → HaveSame others same
    → fits_below system block others task ≡ true → fits_below system block same task ≡ true
fits_same system block others same task one other have = fits_fewer system block block others same task (λ x is. have x ∙ is)
    (λ width some. omega (arith, sums_agree (load system width) others same one other have))

-- of two that fit below, the lower one leaves: what it may hold is no more than what it took
pub fits_moved_up : (system : System) (block : ℕ) (others : List ℕ) (task lower : ℕ) → AreDistinct others → has lower others ≡ true
    → IsPattern (timing_at system lower).pattern
    → fits_below system block others task ≡ true → fits_below system (max block (longest_hold (timing_at system lower))) (without lower others) task ≡ true
fits_moved_up system block others task lower once there well =
    fits_fewer system block (max block (longest_hold (timing_at system lower))) others (without lower others) task
    (λ x is. (and_parts (has x others) (not (x == lower)) (sym (has_filter (λ y. not (y == lower)) x others) ∙ is)).0)
    (λ width some. omega (arith, sum_without lower (load system width) others once there, hold_load system lower well width some))
