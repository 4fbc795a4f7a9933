-- Each chain whose tasks are all timed and periodic has an answer.
use Rattle.std.proofs.Common.{◌≡◌, ℕ, ◌<◌, true, inl, inr, length, refl}
use Rattle.cl_model.specs.{declared.model.SystemModel.SystemModel, Groups.groups_at, Validity.IsValid}
use Rattle.cl_runs.specs.SystemOf.{system_of}
use Rattle.cl_exact.specs.{TimedPeriodic.is_timed_periodic_chain, Hyperperiod.hyper_limit}
use Rattle.cl_exact.proofs.SomeExact.{exact_lengths_exist}
use Rattle.cl_analyse.specs.{declared.findings.ExactAnswer.{ExactAnswer, TheVariants.{Exact, Past}}, ChainAnswers.IsTimelyAnswer}

pub some_timed : (model : SystemModel) → IsValid model → (chain : ℕ) → chain < length model.chains → is_timed_periodic_chain model chain ≡ true
    → (answer : ExactAnswer) × IsTimelyAnswer model chain true answer
some_timed model valid chain within timed = elim (exact_lengths_exist model valid chain within timed) [
  | inl (exact, are, within_limit) ↦ (Exact exact, (within_limit, are))
  | inr past ↦ (Past (hyper_limit (system_of model) (groups_at model chain)), (past, refl))
]
