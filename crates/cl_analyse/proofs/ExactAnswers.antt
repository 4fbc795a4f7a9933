-- The answers on exact lengths: what they say, and that there is but one of each chain.
use Rattle.std.proofs.Common.{◌≡◌, ◌⊎◌, ℕ, ◌<◌, Bool, true, false, inl, inr, List, length, get_or, sym, ap, ◌∙◌, subst, arith}
use Rattle.std.proofs.lemmas.List.{ext_get_or}
use Rattle.cl_model.specs.{declared.{model.SystemModel.SystemModel, group.Group.Group}, Groups.groups_at}
use Rattle.cl_runs.specs.{TaskTiming.{System, IsSound}, SystemOf.system_of}
use Rattle.cl_resp.proofs.BusyWindowTask.{settled_timely}
use Rattle.cl_bound.specs.{Answers.{answers_of, answer_at, response_in}, SettledChains.IsSettledChain}
use Rattle.cl_bound.proofs.SettledTasks.{settled_task}
use Rattle.cl_exact.specs.{TimedPeriodic.is_timed_periodic_chain, Hyperperiod.{IsWithinLimit, IsPastLimit}, ExactLengths.{Witnesses, AreExactLengths}, RunPromises.HaveResponses}
use Rattle.cl_exact.proofs.ExactOnce.{exact_unique, hyperperiod_once}
use Rattle.cl_analyse.specs.{declared.findings.{ChainAnswer.ChainAnswer, ExactAnswer.{ExactAnswer, TheVariants.{Exact, Past, NotTimed, ChainLate}}}, ChainAnswers.{exact_answer_at, IsTimelyAnswer, IsExactAnswer, AreExactAnswers}}
use Rattle.cl_analyse.specs.declared.findings.ChainAnswer.TheVariants as bounded

-- ---- a chain has one answer

module _ (system : System) (groups : List Group) where
  -- a hyperperiod isn't both within the limit and past it
  not_both : {X : Type 0} → IsWithinLimit system groups → IsPastLimit system groups → X
  not_both within past =
      let same : within.hyperperiod ≡ past.hyperperiod = hyperperiod_once system groups within.hyperperiod past.hyperperiod within.is_hyperperiod past.is_hyperperiod in
      absurd (omega (arith, same, within.within, past.past))

module _ (model : SystemModel) (chain : ℕ) where
  one_timely : (timed : Bool) (one other : ExactAnswer) → IsTimelyAnswer model chain timed one → IsTimelyAnswer model chain timed other → one ≡ other
  one_timely false one other first second = first ∙ sym second
  one_timely true (Exact one) (Exact other) first second = ap Exact (exact_unique (system_of model) (groups_at model chain) one other first.1 second.1)
  one_timely true (Exact one) (Past other) first second = not_both (system_of model) (groups_at model chain) first.0 second.0
  one_timely true (Exact one) NotTimed first second = absurd second
  one_timely true (Exact one) ChainLate first second = absurd second
  one_timely true (Past one) (Exact other) first second = not_both (system_of model) (groups_at model chain) second.0 first.0
  one_timely true (Past one) (Past other) first second = ap Past (first.1 ∙ sym second.1)
  one_timely true (Past one) NotTimed first second = absurd second
  one_timely true (Past one) ChainLate first second = absurd second
  one_timely true NotTimed other first second = absurd first
  one_timely true ChainLate other first second = absurd first

  one_answer : (bounds : ChainAnswer) (one other : ExactAnswer) → IsExactAnswer model chain bounds one → IsExactAnswer model chain bounds other → one ≡ other
  one_answer (bounded.Late task) one other first second = first ∙ sym second
  one_answer (bounded.Bounds bounds) one other first second = one_timely (is_timed_periodic_chain model chain) one other first second

pub one_exacts : (model : SystemModel) (one other : List ExactAnswer) → AreExactAnswers model one → AreExactAnswers model other → one ≡ other
one_exacts model one other first second =
    ext_get_or ChainLate one other (first.one_a_chain ∙ sym second.one_a_chain)
    (λ chain within. let is_chain : chain < length model.chains = omega (arith, within, first.one_a_chain) in
    one_answer model chain _ (exact_answer_at one chain) (exact_answer_at other chain) (first.each chain is_chain) (second.each chain is_chain))

-- ---- exact lengths that were found are those of the chain

module _ (model : SystemModel) (chain : ℕ) (lengths : Witnesses) where
  abbrev AreOwn : Witnesses → Type 0
  AreOwn own = AreExactLengths (system_of model) (groups_at model chain) own

  other_variants : {X : Type 0} → (NotTimed ≡ Exact lengths) ⊎ (ChainLate ≡ Exact lengths) → X
  other_variants (inl is) = absurd cc
  other_variants (inr is) = absurd cc

  own_lengths : (own : Witnesses) → Exact own ≡ Exact lengths → own ≡ lengths
  own_lengths own is = cc

  timely_lengths : (timed : Bool) (answer : ExactAnswer) → IsTimelyAnswer model chain timed answer → answer ≡ Exact lengths → AreOwn lengths
  timely_lengths false answer is exact = other_variants (inl (sym is ∙ exact))
  timely_lengths true (Exact own) is exact = subst AreOwn (own_lengths own exact) is.1
  timely_lengths true (Past limit) is exact = absurd cc
  timely_lengths true NotTimed is exact = absurd is
  timely_lengths true ChainLate is exact = absurd is

  answer_lengths : (bounds : ChainAnswer) (answer : ExactAnswer) → IsExactAnswer model chain bounds answer → answer ≡ Exact lengths → AreOwn lengths
  answer_lengths (bounded.Late task) answer is exact = other_variants (inr (sym is ∙ exact))
  answer_lengths (bounded.Bounds bounds) answer is exact = timely_lengths (is_timed_periodic_chain model chain) answer is exact

  pub found_lengths : (exacts : List ExactAnswer) → AreExactAnswers model exacts → chain < length model.chains → exact_answer_at exacts chain ≡ Exact lengths
      → AreExactLengths (system_of model) (groups_at model chain) lengths
  found_lengths exacts are within is = answer_lengths _ (exact_answer_at exacts chain) (are.each chain within) is

-- ---- the tasks of a chain

-- the tasks of a settled chain have responses
pub settled_have_responses : (system : System) → IsSound system → (groups : List Group) → IsSettledChain system groups → HaveResponses system groups
settled_have_responses system sound groups settled = λ i d within. record {
  response = response_in (answer_at (answers_of system) (get_or groups i d).task);
  timely = settled_timely system sound (get_or groups i d).task _
      (settled_task system (get_or groups i d).task (settled.groups_of i d within).is_task (settled.settled i d within));
}
