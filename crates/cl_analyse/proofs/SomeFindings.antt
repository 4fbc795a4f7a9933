-- Each valid model has findings.
use Rattle.std.proofs.Common.{◌≡◌, ℕ, zero, suc, ◌+◌, ◌<◌, ◌≤◌, Bool, true, false, List, [], ◌∷◌, ◌++◌, length, get_or, refl, subst, arith}
use Rattle.cl_model.specs.{declared.model.SystemModel.SystemModel, ByNumber.no_chain, Validity.IsValid}
use Rattle.cl_runs.specs.SystemOf.{system_of}
use Rattle.cl_bound.specs.Answers.{answers_of}
use Rattle.cl_exact.specs.TimedPeriodic.{is_timed_periodic_chain}
use Rattle.cl_analyse.specs.{declared.findings.{ChainAnswer.ChainAnswer, ExactAnswer.{ExactAnswer, TheVariants.{NotTimed, ChainLate}}, Findings.Findings}, ChainAnswers.{chain_answer_of, chain_answers_of, IsTimelyAnswer, IsExactAnswer}, Findings.AreFindings, Verdicts.verdicts_of}
use Rattle.cl_analyse.specs.declared.findings.ChainAnswer.TheVariants as bounded
use Rattle.cl_analyse.proofs.{AnswerLists.{AreFirstExacts, no_exacts, more_exacts, all_exacts}, TimedChains.some_timed}

module _ (model : SystemModel) (valid : IsValid model) where
  some_timely : (chain : ℕ) → chain < length model.chains → (timed : Bool) → is_timed_periodic_chain model chain ≡ timed
      → (answer : ExactAnswer) × IsTimelyAnswer model chain timed answer
  some_timely chain within false is = (NotTimed, refl)
  some_timely chain within true is = some_timed model valid chain within is

  some_answer : (chain : ℕ) → chain < length model.chains → (bounds : ChainAnswer) → (answer : ExactAnswer) × IsExactAnswer model chain bounds answer
  some_answer chain within (bounded.Late task) = (ChainLate, refl)
  some_answer chain within (bounded.Bounds bounds) = some_timely chain within (is_timed_periodic_chain model chain) refl

  some_exacts : (n : ℕ) → n ≤ length model.chains → (exacts : List ExactAnswer) × AreFirstExacts model n exacts
  some_exacts zero within = ([], no_exacts model)
  some_exacts (suc n) within =
      let (exacts, are) = some_exacts n (omega (arith, within)) in
      let (answer, is) = some_answer n (omega (arith, within)) (chain_answer_of model (get_or model.chains n no_chain)) in
      let next : n + 1 ≡ suc n = omega arith in
      (exacts ++ answer ∷ [], subst (λ (m : ℕ). AreFirstExacts model m (exacts ++ answer ∷ [])) next (more_exacts model n exacts (exacts ++ answer ∷ []) answer are is refl))

  pub some_findings : (findings : Findings) × AreFindings model findings
  some_findings =
      let (exacts, are) = some_exacts (length model.chains) (omega arith) in (
        record {
          tasks = answers_of (system_of model);
          chains = chain_answers_of model;
          exacts = exacts;
          verdicts = verdicts_of model (chain_answers_of model) exacts;
        },
        record { tasks = refl; chains = refl; exacts = all_exacts model (length model.chains) exacts refl are; verdicts = refl },
      )
