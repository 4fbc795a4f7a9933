-- The labels that some runnables read and write, as marks.
use Rattle.std.specs.Prelude.{◌≡◌, ℕ, ◌||◌, List}
use Rattle.std.specs.List.{list_any}
use Rattle.cl_model.specs.{declared.task.RunnableDef.RunnableDef, Named.has_name}
use Rattle.cl_explain.specs.declared.labels.Marks.{Marks}

-- the marks hold the names that these runnables read and write
pub record AreMarksOf (runnables : List RunnableDef) (marks : Marks) : Type 0 where
  pub reads : (name : List ℕ) → has_name name marks.reads ≡ list_any (λ (runnable : RunnableDef). has_name name runnable.reads) runnables
  pub writes : (name : List ℕ) → has_name name marks.writes ≡ list_any (λ (runnable : RunnableDef). has_name name runnable.writes) runnables

-- the marks with those of one more runnable
pub record MarksMore (before after : Marks) (runnable : RunnableDef) : Type 0 where
  pub reads : (name : List ℕ) → has_name name after.reads ≡ (has_name name before.reads || has_name name runnable.reads)
  pub writes : (name : List ℕ) → has_name name after.writes ≡ (has_name name before.writes || has_name name runnable.writes)
