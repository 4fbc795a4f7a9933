-- A valid model has a headroom answer, and but one: whether a percentage keeps is decided, and there are but 1,000.
use Rattle.std.proofs.Common.{◌≡◌, ℕ, zero, suc, ◌<◌, ◌≤◌, ◌⊎◌, inl, inr, Bool, true, false, Option, Some, None, List, [], ◌∷◌, length, map, refl, ap, subst, arith}
use Rattle.std.specs.Prelude.{All, IfSome, IsNone, ◌↔◌}
use Rattle.std.proofs.lemmas.Bool.{true≢false, false≢true, cases_lt, cases_eq, cases_order}
use Rattle.std.proofs.lemmas.List.{length-map}
use Rattle.std.proofs.lemmas.List.Elements.{All-nil, All-cons, All-head, All-tail}
use Rattle.cl_model.specs.{declared.{limits.TheConstants.{MOST_TICKS, MOST_PRIORITY, MOST_RUNNABLES, MOST_ACCESSES}, model.SystemModel.SystemModel, task.{RunnableDef.RunnableDef, TaskDef.TaskDef}}, Ranges.{IsTime, IsRunnableInRange, IsTaskInRange, IsInRange}, Validity.IsValid}
use Rattle.cl_bound.specs.{declared.answer.TaskAnswer.TaskAnswer, Answers.is_late}
use Rattle.cl_analyse.specs.{declared.findings.{Findings.Findings, Verdict.Verdict}, Verdicts.is_met}
use Rattle.cl_analyse.proofs.SomeFindings.{some_findings}
use Rattle.cl_scale.specs.{declared.percent.TheConstants.MOST_PERCENT, Scaled.{scaled_task, scaled}}
use Rattle.cl_scale.proofs.ScaledValid.{scaled_valid}
use Rattle.cl_tune.specs.Headroom.{Keeps, IsGreatestKept, IsHeadroom, SmallerKeep}
use Rattle.cl_tune.proofs.{KeptBelow.kept_below, KeptFindings.{IsKept, keeping, kept_of}}

-- ---- what is decided

-- a fact holds or doesn't
abbrev Decided : Type 0 → Type 0
Decided P = P ⊎ (P → ⊥)

as_well : {P Q : Type 0} → (P → Q) → (Q → P) → Decided P → Decided Q
as_well there back (inl holds) = inl (there holds)
as_well there back (inr fails) = inr (λ holds. fails (back holds))

both : {P Q : Type 0} → Decided P → Decided Q → Decided (P × Q)
both (inl one) (inl other) = inl (one, other)
both (inl one) (inr fails) = inr (λ holds. fails holds.1)
both (inr fails) other = inr (λ holds. fails holds.0)

at_most : (n most : ℕ) → Decided (n ≤ most)
at_most n most = elim (cases_lt most n) [
  | inl above ↦ inr (λ within. omega (arith, above, within))
  | inr within ↦ inl within
]

is_true : (b : Bool) → Decided (b ≡ true)
is_true true = inl refl
is_true false = inr (λ is. false≢true is)

is_false : (b : Bool) → Decided (b ≡ false)
is_false true = inr (λ is. true≢false is)
is_false false = inl refl

module _ {X : Type 0} (P : X → Type 0) (each : (x : X) → Decided (P x)) where
  all_of : (xs : List X) → Decided (All P xs)
  all_of [] = inl (All-nil P)
  all_of (x ∷ xs) = as_well (λ holds. All-cons P x xs holds.0 holds.1) (λ all. (All-head P x xs all, All-tail P x xs all)) (both (each x) (all_of xs))

-- ---- whether a scaled model is in range

is_time : (n : ℕ) → Decided (IsTime n)
is_time n = both (at_most 1 n) (at_most n MOST_TICKS)

is_time_if_some : (deadline : Option ℕ) → Decided (IfSome deadline IsTime)
is_time_if_some (Some n) = is_time n
is_time_if_some None = inl tt

runnable_in_range : (r : RunnableDef) → Decided (IsRunnableInRange r)
runnable_in_range r = as_well
    (λ is. record { least = is.0.0; greatest = is.0.1; reads = is.1.0; writes = is.1.1 })
    (λ is. ((is.least, is.greatest), (is.reads, is.writes)))
    (both (both (is_time r.least) (is_time r.greatest)) (both (at_most (length r.reads) MOST_ACCESSES) (at_most (length r.writes) MOST_ACCESSES)))

task_in_range : (t : TaskDef) → Decided (IsTaskInRange t)
task_in_range t = as_well
    (λ is. record { priority = is.0.0; deadline = is.0.1; count = is.1.0; runnables = is.1.1 })
    (λ is. ((is.priority, is.deadline), (is.count, is.runnables)))
    (both (both (at_most t.priority MOST_PRIORITY) (is_time_if_some t.deadline))
    (both (at_most (length t.runnables) MOST_RUNNABLES) (all_of IsRunnableInRange runnable_in_range t.runnables)))

module _ (model : SystemModel) (valid : IsValid model) where
  -- only the times of its tasks can be out of range
  still_in_range : (percent : ℕ) → All IsTaskInRange (map (scaled_task percent) model.tasks) → IsInRange (scaled model percent)
  unfolding scaled
  still_in_range percent tasks = record {
    counts = record {
      cores = valid.in_range.counts.cores;
      stimuli = valid.in_range.counts.stimuli;
      labels = valid.in_range.counts.labels;
      tasks = omega (arith, valid.in_range.counts.tasks, length-map model.tasks (scaled_task percent));
      chains = valid.in_range.counts.chains;
      requirements = valid.in_range.counts.requirements;
    };
    stimuli = valid.in_range.stimuli;
    tasks = tasks;
    chains = valid.in_range.chains;
    requirements = valid.in_range.requirements;
  }

  tasks_of_range : (percent : ℕ) → IsInRange (scaled model percent) → All IsTaskInRange (map (scaled_task percent) model.tasks)
  unfolding scaled
  tasks_of_range percent is = is.tasks

  scaled_in_range : (percent : ℕ) → Decided (IsInRange (scaled model percent))
  scaled_in_range percent = as_well (still_in_range percent) (tasks_of_range percent) (all_of IsTaskInRange task_in_range (map (scaled_task percent) model.tasks))

  -- ---- whether a percentage keeps

  findings_kept : (findings : Findings) → Decided (IsKept findings)
  findings_kept findings = both
      (all_of (λ (answer : TaskAnswer). is_late answer ≡ false) (λ answer. is_false (is_late answer)) findings.tasks)
      (all_of (λ (verdict : Verdict). is_met verdict ≡ true) (λ verdict. is_true (is_met verdict)) findings.verdicts)

  keeps : (percent : ℕ) → Decided (Keeps model percent)
  keeps percent = go (scaled_in_range percent)
    where
      go : Decided (IsInRange (scaled model percent)) → Decided (Keeps model percent)
      go (inr fails) = inr (λ kept. fails kept.in_range)
      go (inl in_range) =
          let (findings, found) = some_findings (scaled model percent) (scaled_valid model percent valid in_range) in
          as_well (keeping model percent findings found in_range) (kept_of model percent findings found) (findings_kept findings)

  -- ---- an answer

  -- where none above a percentage keeps, that or a smaller one is the greatest that does, or there is none
  greatest_up_to : (percent : ℕ) → percent ≤ MOST_PERCENT → ((other : ℕ) → percent < other → other ≤ MOST_PERCENT → Keeps model other → ⊥)
      → (answer : Option ℕ) × IsHeadroom model answer
  greatest_up_to zero few fails = (None, fails 1 (omega arith) (omega arith))
  greatest_up_to (suc percent) few fails = elim (keeps (suc percent)) [
    | inl kept ↦ (Some (suc percent), record { some = omega arith; few = few; kept = kept; greatest = fails })
    | inr none ↦ greatest_up_to percent (omega (arith, few)) (λ other above within kept.
        elim (cases_eq other (suc percent)) [
          | inl same ↦ none (subst (λ n. Keeps model n) same kept)
          | inr apart ↦ fails other (omega (arith, above, apart)) within kept
        ])
  ]

  pub some_headroom : (answer : Option ℕ) × IsHeadroom model answer
  some_headroom = greatest_up_to MOST_PERCENT (omega arith) (λ other above within kept. absurd (omega (arith, above, within)))

  -- ---- what follows from it

  pub smaller_keep : (answer : Option ℕ) → IsHeadroom model answer → SmallerKeep model answer
  smaller_keep None is = tt
  smaller_keep (Some percent) is = λ less within. kept_below model valid less percent within is.kept

  -- there is none exactly where 1 percent doesn't keep
  pub none_exactly : (answer : Option ℕ) → IsHeadroom model answer → IsNone answer ↔ (Keeps model 1 → ⊥)
  none_exactly None is = ((λ none. is), (λ fails. refl))
  none_exactly (Some percent) is = ((λ none. absurd (true≢false none)), (λ fails. absurd (fails (kept_below model valid 1 percent is.some is.kept))))

  -- ---- and but one

  -- where a percentage keeps, so does the least
  least_keeps : (percent : ℕ) → IsGreatestKept model percent → Keeps model 1
  least_keeps percent is = kept_below model valid 1 percent is.some is.kept

  same_percent : (one other : ℕ) → IsGreatestKept model one → IsGreatestKept model other → one ≡ other
  same_percent one other is is_too = elim (cases_order one other) [
    | inl same ↦ same
    | inr (inl below) ↦ absurd (is.greatest other below is_too.few is_too.kept)
    | inr (inr above) ↦ absurd (is_too.greatest one above is.few is.kept)
  ]

  pub one_headroom : (one other : Option ℕ) → IsHeadroom model one → IsHeadroom model other → one ≡ other
  one_headroom None None is is_too = refl
  one_headroom None (Some percent) is is_too = absurd (is (least_keeps percent is_too))
  one_headroom (Some percent) None is is_too = absurd (is_too (least_keeps percent is))
  one_headroom (Some percent) (Some other) is is_too = ap (λ (n : ℕ). Some n) (same_percent percent other is is_too)
