-- What is met at a percentage is met at a smaller one, and what growing times don't touch is met at each where it is met as
-- the model stands.
use Rattle.std.proofs.Common.{◌≡◌, ℕ, ◌<◌, ◌≤◌, Bool, true, false, not, length, get_or, sym, ap, ◌∙◌, subst}
use Rattle.std.specs.Prelude.{All}
use Rattle.std.proofs.lemmas.Bool.{false_from_ne_true, false≢true, true≢false}
use Rattle.std.proofs.lemmas.List.Folds.{list_any_at}
use Rattle.cl_model.specs.{declared.{group.Group.Group, model.SystemModel.SystemModel}, Groups.groups_at, Ranges.IsInRange, Validity.IsValid, ByNumber.requirement_at}
use Rattle.cl_model.proofs.GroupFacts.{groups_at_are}
use Rattle.cl_runs.specs.{Requirements.required_chain, SystemOf.system_of}
use Rattle.cl_hop.specs.Bounds.{Lengths}
use Rattle.cl_resp.specs.LesserTimes.{TakesNoMore}
use Rattle.cl_bound.specs.Answers.{answer_at, is_late}
use Rattle.cl_analyse.specs.{declared.findings.ChainAnswer.TheVariants.Bounds, ChainAnswers.chain_answer_at, Verdicts.limited_bound}
use Rattle.cl_tight.specs.{LongerTimes.IsNoLonger, TightFindings.{tight_chain_answers_of, tight_findings_of}}
use Rattle.cl_tight.proofs.LongerFindings.{met_bounds, bounds_meet, tasks_stay, requirements_stay}
use Rattle.cl_margin.specs.{declared.whose.Whose.Whose, Grown.{grown_by, grown}, Inner.Touched.{touches, touches_chain}, Margins.{is_met_task, is_met_requirement, KeepsMet, SmallerKeepMet}}
use Rattle.cl_margin.proofs.{GrownRange.range_stays, GrownSystem.{groups_grown, models_alike}, GrownTimes.{task_below, group_below}, GrownTouched.{task_apart, group_apart}, GrownValid.{grown_valid, grown_same}}

not_true : (b : Bool) → not b ≡ true → b ≡ false
not_true true is = absurd (false≢true is)
not_true false is = cc

-- ---- the requirements of a grown model are those of the model

module _ (model : SystemModel) (whose : Whose) (percent : ℕ) (i : ℕ) (h : i < length model.requirements) where
  pub grown_met_by : is_met_requirement (tight_findings_of (grown model whose percent)) i ≡ true
      → (bounds : Lengths) × (chain_answer_at (tight_chain_answers_of (grown model whose percent)) (required_chain model (requirement_at model i)) ≡ Bounds bounds)
      × (limited_bound (requirement_at model i).kind bounds ≤ (requirement_at model i).most)
  unfolding grown_by
  grown_met_by met = met_bounds (grown model whose percent) i met

  pub grown_met_where : (bounds : Lengths) → chain_answer_at (tight_chain_answers_of (grown model whose percent)) (required_chain model (requirement_at model i)) ≡ Bounds bounds
      → limited_bound (requirement_at model i).kind bounds ≤ (requirement_at model i).most
      → is_met_requirement (tight_findings_of (grown model whose percent)) i ≡ true
  unfolding grown_by
  grown_met_where bounds is le = bounds_meet (grown model whose percent) i h bounds is le

-- ---- at two percentages

module _ (model : SystemModel) (valid : IsValid model) (whose : Whose) (one other : ℕ) (in_range : IsInRange (grown model whose one))
    (in_range_too : IsInRange (grown model whose other)) where
  valid_one : IsValid (grown model whose one)
  valid_one = grown_valid model valid whose one in_range

  valid_other : IsValid (grown model whose other)
  valid_other = grown_valid model valid whose other in_range_too

  task_stays : (task : ℕ) → TakesNoMore (system_of (grown model whose one)) (system_of (grown model whose other)) task
      → is_met_task (tight_findings_of (grown model whose other)) task ≡ true → is_met_task (tight_findings_of (grown model whose one)) task ≡ true
  task_stays task takes met =
      ap not (tasks_stay (grown model whose one) (grown model whose other) valid_one valid_other (models_alike model whose one other) task takes
      (not_true (is_late (answer_at (tight_findings_of (grown model whose other)).tasks task)) met))

  -- the groups of a chain of it are those of the model, whose tasks take no longer
  requirement_stays : (i : ℕ) → i < length model.requirements
      → All (IsNoLonger (system_of (grown model whose one)) (system_of (grown model whose other))) (groups_at model (required_chain model (requirement_at model i)))
      → is_met_requirement (tight_findings_of (grown model whose other)) i ≡ true → is_met_requirement (tight_findings_of (grown model whose one)) i ≡ true
  unfolding grown_by
  requirement_stays i h no_longer met =
      requirements_stay (grown model whose one) (grown model whose other) valid_one valid_other (models_alike model whose one other) i
      (subst (All (IsNoLonger (system_of (grown model whose one)) (system_of (grown model whose other))))
      (sym (groups_grown model whose one (required_chain model (requirement_at model i)))) no_longer) met

-- ---- at a smaller percentage

module _ (model : SystemModel) (valid : IsValid model) (whose : Whose) (less more : ℕ) (le : less ≤ more) (in_range : IsInRange (grown model whose more)) where
  range_below : IsInRange (grown model whose less)
  range_below = range_stays model valid.in_range whose less more le in_range

  pub task_met_below : (task : ℕ) → task < length model.tasks
      → is_met_task (tight_findings_of (grown model whose more)) task ≡ true → is_met_task (tight_findings_of (grown model whose less)) task ≡ true
  task_met_below task h = task_stays model valid whose less more range_below in_range task (task_below model whose less more le task h)

  pub requirement_met_below : (i : ℕ) → i < length model.requirements
      → is_met_requirement (tight_findings_of (grown model whose more)) i ≡ true → is_met_requirement (tight_findings_of (grown model whose less)) i ≡ true
  requirement_met_below i h =
      let chain : ℕ = required_chain model (requirement_at model i) in
      requirement_stays model valid whose less more range_below in_range i h
      (λ place d lt. group_below model whose less more le (get_or (groups_at model chain) place d) (groups_at_are model valid chain place d lt).known)

-- so all that is met stays met there
pub kept_below : (model : SystemModel) → IsValid model → (whose : Whose) (percent : ℕ) → KeepsMet model (grown model whose percent) → SmallerKeepMet model whose percent
kept_below model valid whose percent kept less some le = record {
  in_range = range_stays model valid.in_range whose less percent le kept.in_range;
  tasks = λ task h met. task_met_below model valid whose less percent le kept.in_range task h (kept.tasks task h met);
  requirements = λ i h met. requirement_met_below model valid whose less percent le kept.in_range i h (kept.requirements i h met);
}

-- ---- what isn't touched

module _ (model : SystemModel) (valid : IsValid model) (whose : Whose) (percent : ℕ) (in_range : IsInRange (grown model whose percent)) where
  range_as_it_stands : IsInRange (grown model whose 100)
  range_as_it_stands = subst IsInRange (sym (grown_same model valid whose)) valid.in_range

  pub task_untouched : (task : ℕ) → task < length model.tasks → touches model whose task ≡ false
      → is_met_task (tight_findings_of model) task ≡ true → is_met_task (tight_findings_of (grown model whose percent)) task ≡ true
  task_untouched task h out met = task_stays model valid whose percent 100 in_range range_as_it_stands task (task_apart model whose percent 100 task h out)
      (subst (λ (m : SystemModel). is_met_task (tight_findings_of m) task ≡ true) (sym (grown_same model valid whose)) met)

  -- no group of a chain that isn't touched is of a task that is
  groups_out : (chain : ℕ) → touches_chain model whose chain ≡ false → All (λ (group : Group). touches model whose group.task ≡ false) (groups_at model chain)
  groups_out chain out place d lt = false_from_ne_true _
      (λ is. true≢false (sym (list_any_at (λ (group : Group). touches model whose group.task) (groups_at model chain) place d lt is) ∙ out))

  pub requirement_untouched : (i : ℕ) → i < length model.requirements → touches_chain model whose (required_chain model (requirement_at model i)) ≡ false
      → is_met_requirement (tight_findings_of model) i ≡ true → is_met_requirement (tight_findings_of (grown model whose percent)) i ≡ true
  requirement_untouched i h out met =
      let chain : ℕ = required_chain model (requirement_at model i) in
      requirement_stays model valid whose percent 100 in_range range_as_it_stands i h
      (λ place d lt. group_apart model whose percent 100 (get_or (groups_at model chain) place d) (groups_at_are model valid chain place d lt).known (groups_out chain out place d lt))
      (subst (λ (m : SystemModel). is_met_requirement (tight_findings_of m) i ≡ true) (sym (grown_same model valid whose)) met)
