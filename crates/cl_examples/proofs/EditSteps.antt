-- How many questions small edits change, and so how many steps they count at most.
use Rattle.std.proofs.Common.{◌≡◌, refl, sym, ap, subst, ℕ, zero, suc, ◌+◌, ◌*◌, ◌<◌, ◌≤◌, List, [], ◌∷◌, ◌++◌, length, get_or, arith}
use Rattle.std.specs.Prelude.{All, Result, Ok, Err, Some}
use Rattle.std.specs.List.Sorted.{IsStrictlyIncreasing}
use Rattle.cl_model.specs.{declared.{model.SystemModel.SystemModel, refusal.Refusal.Refusal}, ByNumber.{task_at, task_named}, Refusals.answer, Validity.refusals_of}
use Rattle.cl_edit.specs.{declared.edit.Edit.Edit, Changing.change_of, Edited.{edited, edit_checks, with_edit}}
use Rattle.cl_runs.specs.{SystemOf.system_of, ExecutionTimes.greatest_execution}
use Rattle.cl_resp.specs.Question.{question_of, block_of, longest_hold}
use Rattle.cl_analyse.specs.Headline.{question_at}
use Rattle.cl_incr.specs.Changed.{IsChangedTask, IsChangedChain, AsksForChanges}
use Rattle.cl_examples.specs.EditedModels.{two_cores_model, two_chains_model, longer_b, later_b, no_chain_ab, b_above_a}

-- ---- the edited model

-- what is answered, where it is a model
model_or : SystemModel → Result SystemModel Refusal → SystemModel
model_or other (Ok model) = model
model_or other (Err refusal) = other

answered : (refusals : List Refusal) (meaning model : SystemModel) → answer refusals meaning ≡ Ok model → meaning ≡ model
unfolding model_or
answered [] meaning model is = ap (model_or meaning) is
answered (refusal ∷ refusals) meaning model is = absurd cc

-- an edit that isn't refused makes the change
changes : (model changed : SystemModel) (edit : Edit) → edited model edit ≡ Ok changed → with_edit model edit ≡ changed
unfolding edited
changes model changed edit is = answered (edit_checks model edit ++ refusals_of (with_edit model edit)) (with_edit model edit) changed is

-- ---- counting

-- a list that rises from a number on is beyond it by each place
beyond : (low : ℕ) (numbers : List ℕ) → IsStrictlyIncreasing numbers → All (λ number. low ≤ number) numbers
    → (k : ℕ) → k < length numbers → k + low ≤ get_or numbers k 0
beyond low numbers rising from zero within = omega (arith, from 0 0 within)
beyond low numbers rising from (suc k) within =
    let steps : get_or numbers k 0 < get_or numbers (k + 1) 0 = rising k (omega (arith, within)) in
    let next : get_or numbers (k + 1) 0 ≡ get_or numbers (suc k) 0 = ap (λ place. get_or numbers place 0) (omega arith) in
    omega (arith, steps, next, beyond low numbers rising from k (omega (arith, within)))

-- so it has few members, where all are below another number
few : (low high : ℕ) (numbers : List ℕ) → IsStrictlyIncreasing numbers → All (λ number. low ≤ number) numbers
    → All (λ number. number < high) numbers → low ≤ high → length numbers + low ≤ high
few low high [] rising from below order = omega (arith, order)
few low high (first ∷ numbers) rising from below order =
    omega (arith, beyond low (first ∷ numbers) rising from (length numbers) (omega arith), below (length numbers) 0 (omega arith))

-- the steps where only the tasks from one number on, and the chains from one number on, are changed
steps : (old new : SystemModel) (task chain : ℕ) → ((t : ℕ) → IsChangedTask old new t → task ≤ t)
    → ((c : ℕ) → IsChangedChain old new c → chain ≤ c)
    → task ≤ length new.tasks → chain ≤ length new.chains
    → (before after : ℕ) → AsksForChanges old new before after
    → after + task + 2 * chain ≤ before + length new.tasks + 2 * length new.chains
steps old new task chain tasks_from chains_from some_task some_chain before after asks =
    let of_tasks = few task (length new.tasks) asks.tasks asks.different_tasks
    (λ k d within. tasks_from (get_or asks.tasks k d) (asks.changed_tasks k d within))
    (λ k d within. (asks.changed_tasks k d within).is_task) some_task in
    let of_chains = few chain (length new.chains) asks.chains asks.different_chains
    (λ k d within. chains_from (get_or asks.chains k d) (asks.changed_chains k d within))
    (λ k d within. (asks.changed_chains k d within).is_chain) some_chain in
    omega (arith, of_tasks, of_chains, asks.few)

-- ---- the tasks A and B on two cores

abbrev longer : SystemModel
longer = with_edit two_cores_model longer_b

abbrev later : SystemModel
later = with_edit two_cores_model later_b

abbrev dropped : SystemModel
dropped = with_edit two_cores_model no_chain_ab

abbrev swapped : SystemModel
swapped = with_edit two_chains_model b_above_a

-- the names and the numbers of both tasks stay, and so does the question of A
a_longer : (task_named two_cores_model (task_at longer 0).name ≡ Some 0) × (question_at two_cores_model 0 ≡ question_at longer 0)
    × (length longer.tasks ≡ 2) × (length longer.chains ≡ 1)
unfolding with_edit change_of two_cores_model longer_b system_of question_of block_of longest_hold greatest_execution
a_longer = (refl, refl, refl, refl)

-- with another offset, the question of B stays too
both_later : (task_named two_cores_model (task_at later 0).name ≡ Some 0) × (question_at two_cores_model 0 ≡ question_at later 0)
    × (task_named two_cores_model (task_at later 1).name ≡ Some 1) × (question_at two_cores_model 1 ≡ question_at later 1)
    × (length later.tasks ≡ 2) × (length later.chains ≡ 1)
unfolding with_edit change_of two_cores_model later_b system_of question_of block_of longest_hold greatest_execution
both_later = (refl, refl, refl, refl, refl, refl)

-- without the chain both stay
both_dropped : (task_named two_cores_model (task_at dropped 0).name ≡ Some 0) × (question_at two_cores_model 0 ≡ question_at dropped 0)
    × (task_named two_cores_model (task_at dropped 1).name ≡ Some 1) × (question_at two_cores_model 1 ≡ question_at dropped 1)
    × (length dropped.tasks ≡ 2) × (length dropped.chains ≡ 0)
unfolding with_edit change_of two_cores_model no_chain_ab system_of question_of block_of longest_hold greatest_execution
both_dropped = (refl, refl, refl, refl, refl, refl)

-- a swap keeps how many tasks and chains there are
numbers_swapped : (length swapped.tasks ≡ 2) × (length swapped.chains ≡ 2)
unfolding with_edit change_of two_chains_model b_above_a
numbers_swapped = (refl, refl)

-- a changed task isn't A
not_a : (new : SystemModel) → task_named two_cores_model (task_at new 0).name ≡ Some 0
    → question_at two_cores_model 0 ≡ question_at new 0
    → (t : ℕ) → IsChangedTask two_cores_model new t → 1 ≤ t
not_a new named same zero changed = absurd (changed.changed 0 named same)
not_a new named same (suc t) changed = omega arith

-- nor B
not_b : (new : SystemModel) → task_named two_cores_model (task_at new 0).name ≡ Some 0
    → question_at two_cores_model 0 ≡ question_at new 0
    → task_named two_cores_model (task_at new 1).name ≡ Some 1
    → question_at two_cores_model 1 ≡ question_at new 1
    → (t : ℕ) → IsChangedTask two_cores_model new t → 2 ≤ t
not_b new named_a same_a named_b same_b zero changed = absurd (changed.changed 0 named_a same_a)
not_b new named_a same_a named_b same_b (suc zero) changed = absurd (changed.changed 1 named_b same_b)
not_b new named_a same_a named_b same_b (suc (suc t)) changed = omega arith

-- ---- the steps of each edit

module _ (changed : SystemModel) (before after : ℕ) where
  -- what is asked of the edited model is asked of the model with the change
  asked : (model : SystemModel) (edit : Edit) → edited model edit ≡ Ok changed → AsksForChanges model changed before after
      → AsksForChanges model (with_edit model edit) before after
  asked model edit is = subst (λ new. AsksForChanges model new before after) (sym (changes model changed edit is))

  pub longer_steps : edited two_cores_model longer_b ≡ Ok changed → AsksForChanges two_cores_model changed before after → after ≤ before + 3
  longer_steps is asks =
      let (named, same, tasks, chains) = a_longer in
      omega (
        arith,
        tasks,
        chains,
        steps two_cores_model longer 1 0 (not_a longer named same) (λ c _. omega arith)
            (omega (arith, tasks)) (omega arith) before after (asked two_cores_model longer_b is asks),
      )

  pub later_steps : edited two_cores_model later_b ≡ Ok changed → AsksForChanges two_cores_model changed before after → after ≤ before + 2
  later_steps is asks =
      let (named_a, same_a, named_b, same_b, tasks, chains) = both_later in
      omega (
        arith,
        tasks,
        chains,
        steps two_cores_model later 2 0 (not_b later named_a same_a named_b same_b) (λ c _. omega arith)
            (omega (arith, tasks)) (omega arith) before after (asked two_cores_model later_b is asks),
      )

  pub dropped_steps : edited two_cores_model no_chain_ab ≡ Ok changed → AsksForChanges two_cores_model changed before after → after ≤ before
  dropped_steps is asks =
      let (named_a, same_a, named_b, same_b, tasks, chains) = both_dropped in
      omega (
        arith,
        tasks,
        chains,
        steps two_cores_model dropped 2 0 (not_b dropped named_a same_a named_b same_b) (λ c _. omega arith)
            (omega (arith, tasks)) (omega arith) before after (asked two_cores_model no_chain_ab is asks),
      )

  pub swapped_steps : edited two_chains_model b_above_a ≡ Ok changed → AsksForChanges two_chains_model changed before after → after ≤ before + 6
  swapped_steps is asks =
      let (tasks, chains) = numbers_swapped in
      omega (
        arith,
        tasks,
        chains,
        steps two_chains_model swapped 0 0 (λ t _. omega arith) (λ c _. omega arith)
            (omega arith) (omega arith) before after (asked two_chains_model b_above_a is asks),
      )
