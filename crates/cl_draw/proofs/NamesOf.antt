-- What is so of each word of the grammar of names, and of the empty word, is so of each name that a picture says.
use Rattle.std.proofs.Common.{◌≡◌, ℕ, inl, inr, List, [], length, get_or, refl, sym, ap, subst, ◌∙◌}
use Rattle.std.specs.Prelude.{All, slice_index_or}
use Rattle.std.proofs.lemmas.Bool.{cases_lt}
use Rattle.std.proofs.lemmas.List.{get_or_past}
use Rattle.std.proofs.lemmas.List.Elements.{All-nil}
use Rattle.cl_model.specs.{declared.{model.{SystemModel.SystemModel, CoreDef.CoreDef}, chain.ChainDef.ChainDef, task.{RunnableDef.RunnableDef, TaskDef.TaskDef}}, AreNamed.{IsRunnableNamed, IsTaskNamed, IsChainNamed, AreNamed}, ByNumber.{no_task, no_chain, no_core, no_runnable, task_at}}
use Rattle.cl_model.specs.{ByNumber.{chain_at, core_at}, Name.IsName}

module _ (P : List ℕ → Type 0) (empty : P []) (has : (name : List ℕ) → IsName name → P name) where
  -- the name of an item of a list, or of none
  listed : {X : Type 0} (name_of : X → List ℕ) (Named : X → Type 0) (xs : List X) (none : X) → ((x : X) → Named x → IsName (name_of x)) → All Named xs
      → name_of none ≡ [] → (k : ℕ) → P (name_of (get_or xs k none))
  listed name_of Named xs none is_name each unnamed k = elim (cases_lt k (length xs)) [
    | inl within ↦ has (name_of (get_or xs k none)) (is_name (get_or xs k none) (each k none within))
    | inr past ↦ subst P (sym (ap name_of (get_or_past xs k none past) ∙ unnamed)) empty
  ]

  module _ (model : SystemModel) (named : AreNamed model) where
    pub of_core : (core : ℕ) → P (core_at model core).name
    unfolding no_core
    of_core core = listed (λ (c : CoreDef). c.name) (λ (c : CoreDef). IsName c.name) model.cores no_core (λ c is. is) named.cores refl core

    pub of_task : (task : ℕ) → P (task_at model task).name
    unfolding no_task
    of_task task = listed (λ (t : TaskDef). t.name) IsTaskNamed model.tasks no_task (λ t is. is.name) named.tasks refl task

    pub of_chain : (chain : ℕ) → P (chain_at model chain).name
    unfolding no_chain
    of_chain chain = listed (λ (c : ChainDef). c.name) IsChainNamed model.chains no_chain (λ c is. is.name) named.chains refl chain

    runnables_named : (task : ℕ) → All IsRunnableNamed (task_at model task).runnables
    unfolding no_task
    runnables_named task = elim (cases_lt task (length model.tasks)) [
      | inl within ↦ (named.tasks task no_task within).runnables
      | inr past ↦ subst (λ (t : TaskDef). All IsRunnableNamed t.runnables) (sym (get_or_past model.tasks task no_task past)) (All-nil IsRunnableNamed)
    ]

    pub of_runnable : (task place : ℕ) → P (slice_index_or (task_at model task).runnables place no_runnable).name
    unfolding no_runnable
    of_runnable task place =
        listed (λ (r : RunnableDef). r.name) IsRunnableNamed (task_at model task).runnables no_runnable (λ r is. is.name) (runnables_named task) refl place
