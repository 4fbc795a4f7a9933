-- The spot of a runnable of a model, and that the least times of a valid model's task fit.
use Rattle.std.proofs.Common.{◌≡◌, ℕ, suc, ◌+◌, ◌-◌, ◌^◌, ◌<◌, ◌≤◌, List, length, get_or, take, drop, map, refl, sym, ap, ◌∙◌, arith}
use Rattle.std.specs.Prelude.{sum_by, All}
use Rattle.std.proofs.Math.Numerals.{add-one}
use Rattle.std.specs.List.{drop-map}
use Rattle.std.proofs.lemmas.List.{get_or-map, take-map, take_all, length-drop}
use Rattle.std.proofs.lemmas.List.Elements.{All-get_or, All-weaker}
use Rattle.std.proofs.lemmas.List.Folds.{fold-map}
use Rattle.std.proofs.lemmas.List.Sums.{sum_by-le, sum_by-take-le, sum_by-take-drop}
use Rattle.cl_model.specs.{declared.{limits.TheConstants.{MOST_TICKS, MOST_RUNNABLES}, model.SystemModel.SystemModel, task.RunnableDef.RunnableDef}, ByNumber.{no_task, task_at, deadline_of}, Ranges.{IsRunnableInRange, IsTaskInRange}, Validity.IsValid}
use Rattle.cl_runs.specs.{TaskTiming.{TimeRange, Timing, timing_at, no_range}, SystemOf.{range_of, system_of}}
use Rattle.cl_runs.proofs.ModelSystem.{timing_is}
use Rattle.cl_comm.specs.{declared.spot.Spot.Spot, Windows.{least_times, spot_at}}

-- the sum of the least times of runnables
abbrev pub least_sum : List RunnableDef → ℕ
least_sum runnables = sum_by (λ (runnable : RunnableDef). runnable.least) runnables

least_of_ranges : (runnables : List RunnableDef) → least_times (map range_of runnables) ≡ least_sum runnables
unfolding least_times
least_of_ranges runnables = fold-map (λ (a : ℕ) (range : TimeRange). a + range.least) range_of 0 runnables

-- what stands past a place of a list is all that is left of it
rest_is : (runnables : List RunnableDef) (n : ℕ) → take (length runnables - n) (drop n runnables) ≡ drop n runnables
rest_is runnables n = take_all (length runnables - n) (drop n runnables) (omega (arith, length-drop n runnables))

abbrev spot : (before own after deadline : ℕ) → Spot
spot before own after deadline = record { before = before; own = own; after = after; deadline = deadline }

same_spot : (b o a d before own after deadline : ℕ) → b ≡ before → o ≡ own → a ≡ after → d ≡ deadline → spot b o a d ≡ spot before own after deadline
same_spot b o a d before own after deadline e f g h = cc

spot_of_parts : (model : SystemModel) (i p : ℕ) (d : RunnableDef) → i < length model.tasks → p < length (task_at model i).runnables
    → spot (least_sum (take p (task_at model i).runnables)) (get_or (task_at model i).runnables p d).least
    (least_sum (drop (suc p) (task_at model i).runnables)) (deadline_of model i)
    ≡ spot_at (timing_at (system_of model) i) p
unfolding spot_at
spot_of_parts model i p d is place =
    let runnables : List RunnableDef = (task_at model i).runnables in
    same_spot _ _ _ _ _ _ _ _
    (sym (least_of_ranges (take p runnables)) ∙ ap least_times (sym (take-map range_of p runnables)))
    (ap (λ (range : TimeRange). range.least) (sym (get_or-map range_of runnables p d no_range place)))
    (sym (least_of_ranges (drop (suc p) runnables)) ∙ ap least_times (sym (drop-map range_of (suc p) runnables)))
    refl
    ∙ ap (λ (task : Timing). spot_at task p) (sym (timing_is model i is))

-- the spot of runnable p of task i of a model, from the sums over the runnables before it and after it
pub spot_is : (model : SystemModel) (i p : ℕ) (runnables : List RunnableDef) → runnables ≡ (task_at model i).runnables
    → (before after deadline : ℕ) (d : RunnableDef) → i < length model.tasks → p < length (task_at model i).runnables
    → before ≡ least_sum (take p runnables) → after ≡ least_sum (take (length runnables - (p + 1)) (drop (p + 1) runnables))
    → deadline ≡ deadline_of model i
    → record { before = before; own = (get_or runnables p d).least; after = after; deadline = deadline } ≡ spot_at (timing_at (system_of model) i) p
spot_is model i p runnables same before after deadline d is place b a e =
    same_spot _ _ _ _ _ _ _ _
    (b ∙ ap (λ (xs : List RunnableDef). least_sum (take p xs)) same)
    (ap (λ (xs : List RunnableDef). (get_or xs p d).least) same)
    (a ∙ ap least_sum (rest_is runnables (p + 1)) ∙ ap (λ (n : ℕ). least_sum (drop n runnables)) (add-one p)
    ∙ ap (λ (xs : List RunnableDef). least_sum (drop (suc p) xs)) same)
    e
    ∙ spot_of_parts model i p d is place

-- a part of a sum that fits fits
pub sum_before_fits : (runnables : List RunnableDef) (p : ℕ) → least_sum runnables < 2 ^ 64 → least_sum (take p runnables) < 2 ^ 64
sum_before_fits runnables p fits = omega (arith, sum_by-take-le (λ (runnable : RunnableDef). runnable.least) runnables p)

pub sum_after_fits : (runnables : List RunnableDef) (p : ℕ) → least_sum runnables < 2 ^ 64
    → least_sum (take (length runnables - (p + 1)) (drop (p + 1) runnables)) < 2 ^ 64
sum_after_fits runnables p fits = omega (
  arith,
  ap least_sum (rest_is runnables (p + 1)),
  sum_by-take-drop (λ (runnable : RunnableDef). runnable.least) runnables (p + 1),
)

runnables_short : (runnables : List RunnableDef) → All IsRunnableInRange runnables → length runnables ≤ MOST_RUNNABLES
    → least_sum runnables < 2 ^ 64
runnables_short runnables in_range few = omega (
  arith,
  few,
  sum_by-le (λ (runnable : RunnableDef). runnable.least) MOST_TICKS runnables
      (All-weaker IsRunnableInRange (λ (runnable : RunnableDef). runnable.least ≤ MOST_TICKS) (λ runnable h. h.least.1) runnables in_range),
)

-- the least times of a task of a valid model sum up to a number that fits
pub least_sum_fits : (model : SystemModel) → IsValid model → (i : ℕ) → i < length model.tasks → (runnables : List RunnableDef)
    → runnables ≡ (task_at model i).runnables → least_sum runnables < 2 ^ 64
least_sum_fits model valid i is runnables same =
    let task = All-get_or IsTaskInRange model.tasks i no_task is valid.in_range.tasks in
    omega (arith, runnables_short (task_at model i).runnables task.runnables task.count, ap least_sum same)
