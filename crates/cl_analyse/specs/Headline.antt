-- What the findings of a model promise: the headline.
use Rattle.std.specs.Prelude.{◌≡◌, ℕ, ◌<◌, ◌≤◌, false, length}
use Rattle.cl_model.specs.{declared.model.SystemModel.SystemModel, ByNumber.{chain_at, requirement_at}, Groups.{steps_of, step_at, groups_at}}
use Rattle.cl_runs.specs.{TaskTiming.timing_at, SystemOf.system_of, Requirements.{IsKept, IsBroken}, Responses.AlwaysFinishesWithin}
use Rattle.cl_hop.specs.{Bounds.Lengths, Promises.AreSafe}
use Rattle.cl_resp.specs.{declared.question.Question.Question, Question.question_of, Response.{Response, HasNoFixpoint}}
use Rattle.cl_bound.specs.{declared.answer.TaskAnswer.TheVariants.Settled, Answers.answer_at}
use Rattle.cl_exact.specs.{TimedPeriodic.is_timed_periodic_chain, Hyperperiod.{hyper_limit, IsPastLimit}, ExactLengths.Witnesses, RunPromises.AreExactInRuns}
use Rattle.cl_analyse.specs.{declared.findings.{ChainAnswer.TheVariants.{Bounds, Late}, ExactAnswer.{ExactAnswer, TheVariants.{Exact, Past, NotTimed, ChainLate}}, Verdict.TheVariants.{Met, Broken}, Findings.Findings}, ChainAnswers.{chain_answer_at, exact_answer_at}, Verdicts.verdict_at}

-- the question of a task of a model
abbrev pub question_at : SystemModel → (task : ℕ) → Question
question_at model task = question_of (system_of model) (timing_at (system_of model) task)

-- the task of a step of a chain, by their numbers
abbrev pub task_of_step : SystemModel → (chain step : ℕ) → ℕ
task_of_step model chain step = (step_at (steps_of model (chain_at model chain)) step).task

-- the task is the first along the steps of the chain that has no fixpoint within its deadline
pub record IsFirstWithoutFixpoint (model : SystemModel) (chain task : ℕ) : Type 0 where
  pub step : ℕ
  pub within : step < length (steps_of model (chain_at model chain))
  pub is_task : task_of_step model chain step ≡ task
  pub none : HasNoFixpoint (question_at model task)
  pub first : (earlier : ℕ) → earlier < step → HasNoFixpoint (question_at model (task_of_step model chain earlier)) → ⊥

-- ---- exact lengths

-- Why the answer on the exact lengths of a chain is what it is: they are exact in all legal runs; or their hyperperiod
-- exceeds the limit that is named; or some task of the chain isn't both timed and periodic; or some task is late.
abbrev pub IsExactBecause : SystemModel → (chain : ℕ) → ExactAnswer → Type 0
IsExactBecause model chain (Exact lengths) = AreExactInRuns (system_of model) (groups_at model chain) lengths
IsExactBecause model chain (Past limit) =
    IsPastLimit (system_of model) (groups_at model chain)
    × (limit ≡ hyper_limit (system_of model) (groups_at model chain))
IsExactBecause model chain NotTimed = is_timed_periodic_chain model chain ≡ false
IsExactBecause model chain ChainLate = (task : ℕ) × IsFirstWithoutFixpoint model chain task

-- each exact length is at most the bound of its kind
pub record AreWithinBounds (lengths : Witnesses) (bounds : Lengths) : Type 0 where
  pub reaction : lengths.reaction.length ≤ bounds.reaction
  pub age : lengths.age.length ≤ bounds.age
  pub reduced : lengths.reduced.length ≤ bounds.reduced

-- ---- the findings

-- The findings are safe. In every legal run of any length each job of a settled task finishes within its response, and
-- each bound is at least the length of every complete chain of its kind. A bound is missing only where a task has no
-- fixpoint within its deadline. Exact lengths are exact, and missing only for one of three reasons. What is found met
-- is kept, and what is found broken is broken in some legal run.
pub record AreSafeFindings (model : SystemModel) (findings : Findings) : Type 0 where
  pub responses : (task : ℕ) (response : Response) → task < length model.tasks
      → answer_at findings.tasks task ≡ Settled response → AlwaysFinishesWithin (system_of model) task response.response
  pub bounds : (chain : ℕ) (bounds : Lengths) → chain < length model.chains
      → chain_answer_at findings.chains chain ≡ Bounds bounds → AreSafe (system_of model) (groups_at model chain) bounds
  pub missing : (chain task : ℕ) → chain < length model.chains
      → chain_answer_at findings.chains chain ≡ Late task → IsFirstWithoutFixpoint model chain task
  pub exact : (chain : ℕ) → chain < length model.chains
      → IsExactBecause model chain (exact_answer_at findings.exacts chain)
  pub met : (i value : ℕ) → i < length model.requirements
      → verdict_at findings.verdicts i ≡ Met value → IsKept model (requirement_at model i)
  pub broken : (i value : ℕ) → i < length model.requirements
      → verdict_at findings.verdicts i ≡ Broken value → IsBroken model (requirement_at model i)
