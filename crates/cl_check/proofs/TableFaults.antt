-- The faults of a table, found from the first job on.
use Rattle.std.proofs.Common.{◌≡◌, ◌≢◌, ℕ, suc, ◌+◌, ◌-◌, ◌<◌, ◌≤◌, Bool, true, false, ◌&&◌, nat_le, List, [], ◌∷◌, ◌++◌, length, get_or, drop, map, refl, sym, ap, ◌∙◌, arith}
use Rattle.std.proofs.lemmas.Bool.{le-leb, lt-leb}
use Rattle.std.proofs.lemmas.List.{get_or-map, length-map}
use Rattle.std.proofs.Math.Seq.{drop-cons}
use Rattle.std.specs.List.{range_with_len, flat_map}
use Rattle.cl_model.specs.declared.{stimulus.StimulusKind.StimulusKind, task.RunnableDef.RunnableDef}
use Rattle.cl_runs.specs.{declared.job.Job.Job, SystemOf.range_of, TaskTiming.{TimeRange, no_range}}
use Rattle.cl_check.specs.{declared.run_fault.RunFault.RunFault, Legality.{are_in_range, faults_from}}

-- ---- the execution times of a job

not_both : (b : Bool) → false ≡ (b && false)
not_both true = refl
not_both false = refl

-- as many times as ranges are needed
pub lengths_differ : (ranges : List TimeRange) (times : List ℕ) → length ranges ≢ length times → false ≡ are_in_range ranges times
lengths_differ [] [] differ = absurd (differ refl)
lengths_differ [] (time ∷ times) differ = refl
lengths_differ (range ∷ ranges) [] differ = refl
lengths_differ (range ∷ ranges) (time ∷ times) differ =
    not_both (nat_le range.least time && nat_le time range.greatest)
    ∙ ap (λ b. (nat_le range.least time && nat_le time range.greatest) && b) (lengths_differ ranges times (λ same. differ (ap suc same)))

module _ (runnables : List RunnableDef) (times : List ℕ) (i : ℕ) (runnable : RunnableDef) (is : runnable ≡ get_or runnables i runnable)
    (there : i < length runnables) (timed : i < length times) where
  abbrev ranges : List TimeRange
  ranges = map range_of runnables

  abbrev time : ℕ
  time = get_or times i 0

  here : are_in_range (drop i ranges) (drop i times)
      ≡ ((nat_le runnable.least time && nat_le time runnable.greatest) && are_in_range (drop (suc i) ranges) (drop (suc i) times))
  here =
      let range : get_or ranges i no_range ≡ range_of runnable
      = get_or-map range_of runnables i runnable no_range there ∙ ap range_of (sym is) in
      let first_range : drop i ranges ≡ range_of runnable ∷ drop (suc i) ranges
      = drop-cons ranges i no_range (omega (arith, there, length-map runnables range_of)) ∙ ap (λ r. r ∷ drop (suc i) ranges) range in
      ap (λ rs. are_in_range rs (drop i times)) first_range
      ∙ ap (λ ts. are_in_range (range_of runnable ∷ drop (suc i) ranges) ts) (drop-cons times i 0 timed)

  pub fits_here : runnable.least ≤ time → time ≤ runnable.greatest
      → are_in_range (drop i ranges) (drop i times) ≡ are_in_range (drop (suc i) ranges) (drop (suc i) times)
  fits_here above below = here
      ∙ ap (λ b. (b && nat_le time runnable.greatest) && are_in_range (drop (suc i) ranges) (drop (suc i) times)) (le-leb runnable.least time above)
      ∙ ap (λ b. b && are_in_range (drop (suc i) ranges) (drop (suc i) times)) (le-leb time runnable.greatest below)

  pub too_short : time < runnable.least → false ≡ are_in_range (drop i ranges) (drop i times)
  too_short under = sym (here
      ∙ ap (λ b. (b && nat_le time runnable.greatest) && are_in_range (drop (suc i) ranges) (drop (suc i) times)) (lt-leb runnable.least time under))

  pub too_long : runnable.greatest < time → false ≡ are_in_range (drop i ranges) (drop i times)
  too_long over = sym (here
      ∙ ap (λ b. (nat_le runnable.least time && b) && are_in_range (drop (suc i) ranges) (drop (suc i) times)) (lt-leb time runnable.greatest over)
      ∙ ap (λ b. b && are_in_range (drop (suc i) ranges) (drop (suc i) times)) (sym (not_both (nat_le runnable.least time))))

-- ---- one list after another

pub none_of_first : (one other : List RunFault) → one ≡ [] → one ++ other ≡ other
none_of_first one other none = ap (λ faults. faults ++ other) none

-- ---- the jobs of a task

module _ (pattern : StimulusKind) (ranges : List TimeRange) (ticks task k low high : ℕ) (jobs : List Job) (job : Job)
    (is : job ≡ get_or jobs k job) (there : k < length jobs) where
  abbrev faults : List RunFault
  faults = faults_from pattern ranges ticks task k low high (drop k jobs)

-- ---- the tasks of a table

module _ (faults_of : ℕ → List RunFault) where
  pub one_task : (a n : ℕ) → a < n → flat_map faults_of (range_with_len a (n - a)) ≡ faults_of a ++ flat_map faults_of (range_with_len (a + 1) (n - (a + 1)))
  one_task a n h =
      let more : n - a ≡ suc (n - (a + 1)) = omega (arith, h) in
      ap (λ m. flat_map faults_of (range_with_len a m)) more

  pub fine_task : (a n : ℕ) → a < n → faults_of a ≡ []
      → flat_map faults_of (range_with_len a (n - a)) ≡ flat_map faults_of (range_with_len (a + 1) (n - (a + 1)))
  fine_task a n h none = one_task a n h ∙ none_of_first _ _ none
