-- What is kept of the findings of a model where another follows it.
use Rattle.std.specs.Prelude.{◌≡◌, ◌≢◌, ℕ, Option, Some, None}
use Rattle.cl_model.specs.{declared.model.SystemModel.SystemModel, ByNumber.chain_at}
use Rattle.cl_runs.specs.{SystemOf.system_of, TaskTiming.timing_at}
use Rattle.cl_bound.specs.{declared.answer.TaskAnswer.TaskAnswer, Answers.answer_to}
use Rattle.cl_analyse.specs.ChainAnswers.{chain_answer_of, IsExactAnswer}
use Rattle.cl_incr.specs.{declared.chains.ChainFindings.ChainFindings, Questions.{ChainQuestion, chain_question}, Changed.{IsChangedTask, IsChangedChain}}

-- an answer that is kept is that for the task of the new model; none is where its question is changed
abbrev pub IsKeptTask : (old new : SystemModel) → (task : ℕ) → Option TaskAnswer → Type 0
IsKeptTask old new task (Some answer) = answer ≡ answer_to (system_of new) (timing_at (system_of new) task)
IsKeptTask old new task None = IsChangedTask old new task

-- both chains have one and the same question, so that none of their tasks is late
pub record AreBothAsked (old new : Option ChainQuestion) : Type 0 where
  pub question : ChainQuestion
  pub old_asks : old ≡ Some question
  pub new_asks : new ≡ Some question

-- the bounds and the exact lengths are those of a chain
pub record AreFoundOf (model : SystemModel) (chain : ℕ) (found : ChainFindings) : Type 0 where
  pub bounds : found.bounds ≡ chain_answer_of model (chain_at model chain)
  pub exact : IsExactAnswer model chain (chain_answer_of model (chain_at model chain)) found.exact

-- what is kept of a chain is found of the chain of the new model; nothing is where its question is changed, or where
-- one of its tasks is late
abbrev pub IsKeptChain : (old new : SystemModel) → (chain : ℕ) → Option ChainFindings → Type 0
IsKeptChain old new chain (Some found) = AreFoundOf new chain found
IsKeptChain old new chain None = chain_question new chain ≢ None → IsChangedChain old new chain
