-- Whether tight findings verify a model, as the tests of its answers and its verdicts tell it.
use Rattle.std.proofs.Common.{◌≡◌, ℕ, ◌<◌, ◌≤◌, Bool, true, false, not, ◌&&◌, List, length, get_or, take, sym, ap, ◌∙◌}
use Rattle.std.specs.List.{list_all}
use Rattle.std.proofs.lemmas.List.{take_all}
use Rattle.std.proofs.lemmas.List.Folds.{list_all_at}
use Rattle.cl_bound.specs.{declared.answer.TaskAnswer.TaskAnswer, Answers.is_late}
use Rattle.cl_analyse.specs.{declared.findings.Verdict.Verdict, Verdicts.is_met}
use Rattle.cl_tight.specs.{declared.findings.TightFindings.TightFindings, TightFindings.is_verified}

-- ---- the answers, one after the other

abbrev is_timely : TaskAnswer → Bool
is_timely answer = not (is_late answer)

pub late_found : (answers : List TaskAnswer) (task : ℕ) (answer : TaskAnswer) → task < length answers → answer ≡ get_or answers task answer
    → is_late answer ≡ true → false ≡ list_all is_timely answers
late_found answers task answer within at late = sym (list_all_at is_timely answers task answer within (ap is_timely (sym at) ∙ ap not late))

pub none_found : (answers : List TaskAnswer) (task : ℕ) → length answers ≤ task → list_all is_timely (take task answers) ≡ true → true ≡ list_all is_timely answers
none_found answers task all timely = sym timely ∙ ap (list_all is_timely) (take_all task answers all)

-- ---- both tests

module _ (findings : TightFindings) (answers : List TaskAnswer) (timely : Bool) (same : answers ≡ findings.tasks) (is : timely ≡ list_all is_timely answers) where
  tasks_test : timely ≡ list_all is_timely findings.tasks
  tasks_test = is ∙ ap (list_all is_timely) same

  pub verified_where : (verdicts : List Verdict) (met : Bool) → verdicts ≡ findings.verdicts → met ≡ list_all is_met verdicts → timely ≡ true → met ≡ is_verified findings
  unfolding is_verified
  verified_where verdicts met same_verdicts is_all passes =
      is_all ∙ ap (list_all is_met) same_verdicts ∙ sym (ap (λ (b : Bool). b && list_all is_met findings.verdicts) (sym tasks_test ∙ passes))

  pub not_verified : timely ≡ false → timely ≡ is_verified findings
  unfolding is_verified
  not_verified fails = fails ∙ sym (ap (λ (b : Bool). b && list_all is_met findings.verdicts) (sym tasks_test ∙ fails))
