-- Names in a model that stand for its parts: which are known, and what they link.
use Rattle.std.specs.Prelude.{◌≡◌, ℕ, ◌+◌, ◌<◌, List, [], length, slice_index_or, All, Contains, Some}
use Rattle.cl_model.specs.{declared.{model.SystemModel.SystemModel, task.{RunnableDef.RunnableDef, TaskDef.TaskDef}, chain.ChainDef.ChainDef}, ByNumber.runnable_at, Groups.step_named, Named.{index_of, core_names, stimulus_names, label_names, runnable_names, all_runnables}}
use Rattle.cl_model.specs.NameSets.{AreDistinctNames}

-- ---- look-ups

-- what is found in a list of names has the name, and each entry is found by its name
pub record AreFound (names : List (List ℕ)) : Type 0 where
  pub named : (name : List ℕ) (k : ℕ) → index_of name names ≡ Some k → slice_index_or names k [] ≡ name
  pub own : (k : ℕ) → k < length names → index_of (slice_index_or names k []) names ≡ Some k

-- ---- what is known

-- the core and the stimulus of a task
pub record HasKnownParts (model : SystemModel) (task : TaskDef) : Type 0 where
  pub core : Contains (core_names model) task.core
  pub stimulus : Contains (stimulus_names model) task.stimulus

-- the labels that a runnable reads and writes, each once in its list
pub record HasKnownLabels (model : SystemModel) (runnable : RunnableDef) : Type 0 where
  pub reads : All (Contains (label_names model)) runnable.reads
  pub writes : All (Contains (label_names model)) runnable.writes
  pub reads_apart : AreDistinctNames runnable.reads
  pub writes_apart : AreDistinctNames runnable.writes

-- ---- chains

-- one runnable writes a label and the other reads it
pub record HandsOver (writer reader : RunnableDef) (label : List ℕ) : Type 0 where
  pub written : Contains writer.writes label
  pub read : Contains reader.reads label

-- the runnable of step k of a chain
abbrev pub runnable_of_step : SystemModel → ChainDef → ℕ → RunnableDef
runnable_of_step model chain k = runnable_at model (step_named model (slice_index_or chain.runnables k []))

-- the steps of a chain are one or more known runnables, and each hands the label of the hop to the next
pub record IsLinked (model : SystemModel) (chain : ChainDef) : Type 0 where
  pub some : 0 < length chain.runnables
  pub labels : length chain.labels + 1 ≡ length chain.runnables
  pub known : All (Contains (runnable_names (all_runnables model.tasks))) chain.runnables
  pub handed : (hop : ℕ) → hop < length chain.labels
      → HandsOver (runnable_of_step model chain hop) (runnable_of_step model chain (hop + 1)) (slice_index_or chain.labels hop [])
