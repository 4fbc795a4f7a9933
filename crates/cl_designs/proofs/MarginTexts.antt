-- A valid model has a text of its margins, and but one; where it is verified, it stays in time within each.
use Rattle.std.proofs.Common.{◌≡◌, ◌⊎◌, ℕ, ◌<◌, ◌≤◌, inl, inr, true, not, ◌&&◌, None, List, length, map, refl, sym, ap, ◌∙◌, subst, arith}
use Rattle.std.specs.List.{list_all, range_with_len, AllPass}
use Rattle.std.proofs.lemmas.Bool.{cases_lt, and_parts}
use Rattle.std.proofs.lemmas.List.{ext_get_or, get_or_default}
use Rattle.std.proofs.lemmas.List.FromFn.{length-map-range_with_len, get_or-map-range_with_len}
use Rattle.std.proofs.lemmas.List.Sums.{AllPass-from_list_all, list_all-from_AllPass}
use Rattle.cl_model.specs.{declared.model.SystemModel.SystemModel, Validity.IsValid}
use Rattle.cl_bound.specs.{declared.answer.TaskAnswer.TaskAnswer, Answers.is_late}
use Rattle.cl_bound.specs.declared.answer.TaskAnswer.TheVariants as answer
use Rattle.cl_analyse.specs.declared.findings.Verdict.TheVariants as verdict
use Rattle.cl_analyse.specs.Verdicts.{is_met}
use Rattle.cl_tight.specs.{declared.findings.TightFindings.TightFindings, TightFindings.{tight_findings_of, is_verified}}
use Rattle.cl_tight.proofs.{TightLaws.verified_in_time, TightLengths.{tight_tasks_found, tight_verdicts_found}}
use Rattle.cl_margin.specs.{declared.{answer.{Margin.Margin, Margins.Margins}, whose.Whose.{Whose, TheVariants.{EveryTask, OneTask}}}, Grown.{percent_of, grown_task, grown_by, grown}, Margins.{KeepsMet, IsMargin, no_margin, margin_at, AreMargins}}
use Rattle.cl_margin.proofs.{GrownValid.grown_valid, OneMargin.{some_margin, only_one}}
use Rattle.cl_designs.specs.Margins.{margin_text, IsMarginTextOf, StaysInTime, IsSafeMarginText}

-- ---- there is one

one_margins : (model : SystemModel) (one other : Margins) → AreMargins model one → AreMargins model other → one ≡ other
one_margins model one other first second =
    let all = only_one model EveryTask one.all other.all first.all second.all in
    let tasks = ext_get_or no_margin one.tasks other.tasks (first.one_a_task ∙ sym second.one_a_task)
    (λ task within. let is_task : task < length model.tasks = omega (arith, within, first.one_a_task) in
    only_one model (OneTask task) (margin_at one.tasks task) (margin_at other.tasks task) (first.tasks task is_task) (second.tasks task is_task)) in
    ap (λ (margin : Margin). record { all = margin; tasks = one.tasks }) all ∙ ap (λ (margins : List Margin). record { all = other.all; tasks = margins }) tasks

pub one_margin_text : (model : SystemModel) (one other : List ℕ) → IsMarginTextOf model one → IsMarginTextOf model other → one ≡ other
one_margin_text model one other first second =
    first.printed ∙ ap (margin_text model (tight_findings_of model)) (one_margins model first.margins second.margins first.are second.are) ∙ sym second.printed

module _ (model : SystemModel) (valid : IsValid model) where
  abbrev count : ℕ
  count = length model.tasks

  -- the margin of a number that is a task's
  task_margin : (task : ℕ) → ((task < count) ⊎ (count ≤ task)) → Margin
  task_margin task (inl within) = (some_margin model valid (OneTask task) within).0
  task_margin task (inr past) = no_margin

  task_margin_is : (task : ℕ) (place : (task < count) ⊎ (count ≤ task)) → task < count → IsMargin model (OneTask task) (task_margin task place)
  unfolding task_margin
  task_margin_is task (inl within) is_task = (some_margin model valid (OneTask task) within).1
  task_margin_is task (inr past) is_task = absurd (omega (arith, past, is_task))

  abbrev each_margin : ℕ → Margin
  each_margin task = task_margin task (cases_lt task count)

  some_margins : (margins : Margins) × AreMargins model margins
  some_margins = (
    record { all = (some_margin model valid EveryTask tt).0; tasks = map each_margin (range_with_len 0 count) },
    record {
      all = (some_margin model valid EveryTask tt).1;
      one_a_task = length-map-range_with_len each_margin 0 count;
      tasks = λ task within. subst (IsMargin model (OneTask task)) (sym (get_or-map-range_with_len each_margin 0 count task task no_margin within (omega arith)))
          (task_margin_is task (cases_lt task count) within);
    },
  )

  pub some_margin_text : (text : List ℕ) × IsMarginTextOf model text
  some_margin_text =
      let (margins, are) = some_margins in
      (margin_text model (tight_findings_of model) margins, record { margins = margins; are = are; printed = refl })

-- ---- what is met stays so

-- where all is met in a model, all is in another that has as many tasks and requirements and keeps what is met
module _ (model other : SystemModel) (keeps : KeepsMet model other) (tasks : length other.tasks ≡ length model.tasks)
    (requirements : length other.requirements ≡ length model.requirements) where
  abbrev here : TightFindings
  here = tight_findings_of model

  abbrev there : TightFindings
  there = tight_findings_of other

  tasks_met : list_all (λ (found : TaskAnswer). not (is_late found)) here.tasks ≡ true → AllPass (λ (found : TaskAnswer). not (is_late found)) there.tasks
  tasks_met all k d within =
      let is_task : k < length model.tasks = omega (arith, within, tasks, tight_tasks_found other there refl) in
      let inside : k < length here.tasks = omega (arith, is_task, tight_tasks_found model here refl) in
      ap (λ (found : TaskAnswer). not (is_late found)) (get_or_default there.tasks k d answer.Late within)
      ∙ keeps.tasks k is_task (AllPass-from_list_all (λ (found : TaskAnswer). not (is_late found)) here.tasks all k answer.Late inside)

  requirements_met : list_all is_met here.verdicts ≡ true → AllPass is_met there.verdicts
  requirements_met all k d within =
      let is_requirement : k < length model.requirements = omega (arith, within, requirements, tight_verdicts_found other there refl) in
      let inside : k < length here.verdicts = omega (arith, is_requirement, tight_verdicts_found model here refl) in
      ap is_met (get_or_default there.verdicts k d (verdict.Unshown None) within)
      ∙ keeps.requirements k is_requirement (AllPass-from_list_all is_met here.verdicts all k (verdict.Unshown None) inside)

  stays_verified : is_verified here ≡ true → is_verified there ≡ true
  unfolding is_verified
  stays_verified verified =
      let both = and_parts (list_all (λ (found : TaskAnswer). not (is_late found)) here.tasks) (list_all is_met here.verdicts) verified in
      ap (λ b. b && list_all is_met there.verdicts) (list_all-from_AllPass (λ (found : TaskAnswer). not (is_late found)) there.tasks (tasks_met both.0))
      ∙ list_all-from_AllPass is_met there.verdicts (requirements_met both.1)

-- ---- what is promised

module _ (model : SystemModel) (whose : Whose) (percent : ℕ) where
  tasks_grown : length (grown model whose percent).tasks ≡ length model.tasks
  unfolding grown_by
  tasks_grown = length-map-range_with_len (grown_task model (percent_of whose percent)) 0 (length model.tasks)

  requirements_grown : length (grown model whose percent).requirements ≡ length model.requirements
  unfolding grown_by
  requirements_grown = refl

module _ (model : SystemModel) (valid : IsValid model) where
  stays_in_time : (whose : Whose) (margin : Margin) → IsMargin model whose margin → StaysInTime model whose margin
  stays_in_time whose margin is verified =
      verified_in_time (grown model whose margin.percent) (grown_valid model valid whose margin.percent is.best.kept.in_range)
      (stays_verified model (grown model whose margin.percent) is.best.kept (tasks_grown model whose margin.percent) (requirements_grown model whose margin.percent)
      verified)

  pub safe_margin_text : (text : List ℕ) → IsMarginTextOf model text → IsSafeMarginText model text
  safe_margin_text text is = record {
    margins = is;
    all = stays_in_time EveryTask is.margins.all is.are.all;
    each = λ task within. stays_in_time (OneTask task) (margin_at is.margins.tasks task) (is.are.tasks task within);
  }
