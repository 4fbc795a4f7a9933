-- The first runnable that blocks a task for so long, task by task.
use Rattle.std.proofs.Common.{◌≡◌, ℕ, zero, suc, ◌+◌, ◌-◌, ◌<◌, Bool, true, false, cond, List, [], ◌∷◌, ◌++◌, length, get_or, refl, sym, ap, ◌∙◌, arith}
use Rattle.std.specs.Prelude.{Option, Some, None}
use Rattle.std.specs.Option.{option_or}
use Rattle.std.specs.List.{find, flat_map, position, range_with_len}
use Rattle.std.proofs.lemmas.Grind.{flat_map-append}
use Rattle.std.proofs.lemmas.List.{append-nil, get_or_default}
use Rattle.std.proofs.lemmas.List.Folds.{find-append}
use Rattle.cl_text.proofs.MoreLines.{range_more}
use Rattle.cl_model.specs.{declared.{model.SystemModel.SystemModel, task.RunnableDef.RunnableDef}, ByNumber.{task_at, no_runnable}}
use Rattle.cl_runs.specs.{TaskTiming.timing_at, SystemOf.system_of}
use Rattle.cl_resp.specs.declared.question.Block.{Block}
use Rattle.cl_explain.specs.Parts.{may_block_by, blocks_so_long, runnables_of_blocker, blocker_name, blocker_of}
use Rattle.cl_explain.proofs.FoundInLists.{first_at, found_first, none_at, none_found}

-- the first one of the tasks below a number
abbrev pub blocker_below : (blocking : Block) → SystemModel → (task block other : ℕ) → Option RunnableDef
blocker_below blocking model task block other = find (blocks_so_long block) (flat_map (runnables_of_blocker blocking model task) (range_with_len 0 other))

module _ (blocking : Block) (model : SystemModel) (task block : ℕ) where
  abbrev blocks : RunnableDef → Bool
  blocks = blocks_so_long block

  abbrev of_task : ℕ → List RunnableDef
  of_task = runnables_of_blocker blocking model task

  below_more : (other : ℕ) → blocker_below blocking model task block (suc other) ≡ option_or (blocker_below blocking model task block other) (find blocks (of_task other))
  below_more other =
      let last : 0 + other ≡ other = omega arith in
      ap (λ numbers. find blocks (flat_map of_task numbers)) (range_more 0 other ∙ ap (λ n. range_with_len 0 other ++ n ∷ []) last)
      ∙ ap (find blocks) (flat_map-append of_task (range_with_len 0 other) (other ∷ []) ∙ ap (λ (rs : List RunnableDef). flat_map of_task (range_with_len 0 other) ++ rs) (append-nil (of_task other)))
      ∙ find-append blocks (flat_map of_task (range_with_len 0 other)) (of_task other)

  -- none of one more task either
  none_more : (other next : ℕ) → next ≡ other + 1 → blocker_below blocking model task block other ≡ None → find blocks (of_task other) ≡ None → blocker_below blocking model task block next ≡ None
  none_more other next is before here =
      let one : next ≡ suc other = omega (arith, is) in
      ap (blocker_below blocking model task block) one ∙ below_more other
      ∙ ap (λ o. option_or o (find blocks (of_task other))) before ∙ here

  -- one that is found stays so
  stays : (other more : ℕ) (runnable : RunnableDef) → blocker_below blocking model task block other ≡ Some runnable → blocker_below blocking model task block (more + other) ≡ Some runnable
  stays other zero runnable found = let none : zero + other ≡ other = omega arith in ap (blocker_below blocking model task block) none ∙ found
  stays other (suc more) runnable found =
      let rest = stays other more runnable found in
      let one : suc more + other ≡ suc (more + other) = omega arith in
      ap (blocker_below blocking model task block) one ∙ below_more (more + other)
      ∙ ap (λ o. option_or o (find blocks (of_task (more + other)))) rest

  none_there : (other : ℕ) → may_block_by blocking (timing_at (system_of model) task) (timing_at (system_of model) other) ≡ false → find blocks (of_task other) ≡ None
  none_there other blocks_not = ap (λ b. find blocks (cond b (task_at model other).runnables [])) blocks_not

  none_of : (b : Bool) (runnables : List RunnableDef) → find blocks runnables ≡ None → find blocks (cond b runnables []) ≡ None
  none_of true runnables none = none
  none_of false runnables none = refl

  none_here : (other : ℕ) → find blocks (task_at model other).runnables ≡ None → find blocks (of_task other) ≡ None
  none_here other none = none_of (may_block_by blocking (timing_at (system_of model) task) (timing_at (system_of model) other)) (task_at model other).runnables none

  -- the name of the first one
  first_named : (other place : ℕ) → other < length model.tasks → blocker_below blocking model task block other ≡ None
      → may_block_by blocking (timing_at (system_of model) task) (timing_at (system_of model) other) ≡ true
      → position blocks (task_at model other).runnables ≡ Some place
      → blocker_of blocking model task block ≡ (get_or (task_at model other).runnables place no_runnable).name
  unfolding blocker_of
  first_named other place within before may at =
      let runnables = (task_at model other).runnables in
      let here : find blocks (of_task other) ≡ Some (get_or runnables place no_runnable) =
      ap (λ b. find blocks (cond b runnables [])) may ∙ found_first blocks no_runnable runnables place (first_at blocks runnables place no_runnable at) in
      let found : blocker_below blocking model task block (suc other) ≡ Some (get_or runnables place no_runnable) =
      below_more other ∙ ap (λ o. option_or o (find blocks (of_task other))) before ∙ here in
      let all : (length model.tasks - suc other) + suc other ≡ length model.tasks = omega (arith, within) in
      ap blocker_name (ap (blocker_below blocking model task block) (sym all) ∙ stays (suc other) (length model.tasks - suc other) (get_or runnables place no_runnable) found)

  -- in words of the code: this runnable is the one
  pub is_named : (other place : ℕ) → other < length model.tasks → blocker_below blocking model task block other ≡ None
      → may_block_by blocking (timing_at (system_of model) task) (timing_at (system_of model) other) ≡ true
      → position blocks (task_at model other).runnables ≡ Some place
      → (runnable : RunnableDef) → runnable ≡ get_or (task_at model other).runnables place runnable
      → runnable.name ≡ blocker_of blocking model task block
  is_named other place within before may at runnable is =
      let runnables = (task_at model other).runnables in
      let known = (first_at blocks runnables place no_runnable at).within in
      ap (λ (r : RunnableDef). r.name) (is ∙ get_or_default runnables place runnable no_runnable known) ∙ sym (first_named other place within before may at)

  -- no one is
  pub none_named : blocker_below blocking model task block (length model.tasks) ≡ None → blocker_of blocking model task block ≡ []
  unfolding blocker_of
  none_named none = ap blocker_name none

  pub none_of_task : (other next : ℕ) → next ≡ other + 1 → blocker_below blocking model task block other ≡ None
      → position blocks (task_at model other).runnables ≡ None → blocker_below blocking model task block next ≡ None
  none_of_task other next is before none =
      none_more other next is before (none_here other (none_found blocks (task_at model other).runnables (none_at blocks (task_at model other).runnables none)))

  pub none_apart : (other next : ℕ) → next ≡ other + 1 → blocker_below blocking model task block other ≡ None
      → may_block_by blocking (timing_at (system_of model) task) (timing_at (system_of model) other) ≡ false → blocker_below blocking model task block next ≡ None
  none_apart other next is before apart = none_more other next is before (none_there other apart)
