-- Which questions change from one model to another. A task or a chain keeps its name where its number changes.
use Rattle.std.specs.Prelude.{◌≡◌, ◌≢◌, ℕ, ◌+◌, ◌*◌, ◌<◌, ◌≤◌, List, length, All, Some}
use Rattle.std.specs.List.Sorted.{IsStrictlyIncreasing}
use Rattle.cl_model.specs.{declared.model.SystemModel.SystemModel, ByNumber.{task_at, chain_at, task_named, chain_named}}
use Rattle.cl_analyse.specs.Headline.{question_at}
use Rattle.cl_incr.specs.Questions.{chain_question}

-- a task of the new model has a changed question: the old model has no task of that name, or one with another question
pub record IsChangedTask (old new : SystemModel) (task : ℕ) : Type 0 where
  pub is_task : task < length new.tasks
  pub changed : (before : ℕ) → task_named old (task_at new task).name ≡ Some before
      → question_at old before ≢ question_at new task

-- so has a chain of the new model
pub record IsChangedChain (old new : SystemModel) (chain : ℕ) : Type 0 where
  pub is_chain : chain < length new.chains
  pub changed : (before : ℕ) → chain_named old (chain_at new chain).name ≡ Some before
      → chain_question old before ≢ chain_question new chain

-- The steps that were counted ask for changed questions alone: one at most for each of some different tasks, and two at
-- most for each of some different chains, all with changed questions.
pub record AsksForChanges (old new : SystemModel) (steps_before steps_after : ℕ) : Type 0 where
  pub tasks : List ℕ
  pub chains : List ℕ
  pub different_tasks : IsStrictlyIncreasing tasks
  pub different_chains : IsStrictlyIncreasing chains
  pub changed_tasks : All (IsChangedTask old new) tasks
  pub changed_chains : All (IsChangedChain old new) chains
  pub few : steps_after ≤ steps_before + (length tasks + 2 * length chains)
