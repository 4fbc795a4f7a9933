-- The checks of a new task in the model that it makes are those beside the tasks that are there.
use Rattle.std.proofs.Common.{◌≡◌, ℕ, suc, ◌+◌, ◌<◌, ◌≤◌, Bool, true, false, ◌&&◌, ◌||◌, List, [], ◌∷◌, ◌++◌, length, ◌^◌, get_or, take, drop, drop-cons, refl, sym, ap, ◌∙◌, subst, append_assoc, arith, nat_lt}
use Rattle.std.specs.Prelude.{Option, Some, None, is_some, unwrap_or, sum_by, slice_get}
use Rattle.std.specs.List.{list_any}
use Rattle.std.proofs.lemmas.Bool.{false≢true, le-ltb}
use Rattle.std.proofs.lemmas.List.{length-append, take_at, take_all, drop_all}
use Rattle.std.proofs.lemmas.List.Concat.{length-flat_map}
use Rattle.std.proofs.lemmas.List.Sums.{sum_by_push}
use Rattle.std.proofs.lemmas.List.Folds.{list_any-append}
use Rattle.std.proofs.lemmas.Option.{slice_get_within, get_or_from_slice_get}
use Rattle.cl_model.specs.{declared.{limits.TheConstants.MOST_RUNNABLES_OF_MODEL, model.SystemModel.SystemModel, place.Place.Place, refusal.{Code.TheVariants.{M41, M42}, Refusal.Refusal}, stimulus.StimulusKind.StimulusKind, task.TaskDef.TaskDef}, ByNumber.{no_stimulus, no_task}}
use Rattle.cl_model.specs.{ByNumber.stimulus_of, Named.{same_name, is_some_and, core_names, label_names, kind_named, all_runnables, labels_written}, Place.entry_of, Refusals.{when, in_order, each}, Timing.deadline_under, ValidTasks.{task_key, body_checks, task_check, spans_too_many}}
use Rattle.cl_model.specs.{ValidTasks.{is_outpaced_by, deadline_check}, Validity.IsValid, Changes.with_new_task}
use Rattle.cl_model.specs.declared.place.Part.TheVariants as part
use Rattle.cl_model.specs.declared.place.Key.TheVariants as key
use Rattle.cl_model.proofs.{NamesKnown.stimulus_known, ValidTasks.few_runnables}
use Rattle.cl_edit.specs.{FewListChecks.{new_task_name_check, new_runnables_check, below_new_check, new_task_checks}, Inner.NewTasks.{added_naming_checks, added_checks, all_checks, outpaced_by, is_task_below}}
use Rattle.cl_edit.proofs.{TaskAdded.{checks_among, checks_are, or_none}, TaskLists.list_any-filter}

-- ---- M29 to M41

pub count_sum : (tasks : List TaskDef) → length (all_runnables tasks) ≡ sum_by (λ (other : TaskDef). length other.runnables) tasks
count_sum tasks = length-flat_map (λ (task : TaskDef). task.runnables) tasks

counted : (tasks : List TaskDef) (task : TaskDef) → length (all_runnables (tasks ++ task ∷ [])) ≡ sum_by (λ (other : TaskDef). length other.runnables) tasks + length task.runnables
counted tasks task = count_sum (tasks ++ task ∷ []) ∙ sum_by_push (λ (other : TaskDef). length other.runnables) tasks task

module _ (model : SystemModel) (task : TaskDef) where
  pub added_is : added_checks model (kind_named model task.stimulus) (length model.tasks) task ≡ task_check (with_new_task model task) (length model.tasks) task
  added_is =
      let n : ℕ = length model.tasks in
      let tasks : List TaskDef = model.tasks ++ task ∷ [] in
      let all = take_all (n + 1) tasks (omega (arith, length-append model.tasks (task ∷ []))) in
      sym (checks_are (with_new_task model task) n task
      ∙ ap (λ (earlier : List TaskDef). checks_among model earlier (take (n + 1) tasks) n task) (take_at model.tasks (task ∷ []) n refl)
      ∙ ap (λ (upto : List TaskDef). checks_among model model.tasks upto n task) all
      ∙ ap (λ (count : ℕ). in_order (added_naming_checks (core_names model) model.tasks (kind_named model task.stimulus) n task
      ∷ body_checks (label_names model) (labels_written (all_runnables model.tasks)) (entry_of part.Task n) task
      ∷ when (nat_lt MOST_RUNNABLES_OF_MODEL count) M41 (entry_of part.Task n) ∷ [])) (counted model.tasks task))

  -- ---- M42

  -- a task isn't above itself
  own_none : (b : Bool) → (same_name task.core task.core && (nat_lt task.priority task.priority && b)) ≡ false
  own_none b =
      let never : nat_lt task.priority task.priority ≡ false = le-ltb task.priority task.priority (omega arith) in
      ap (λ c. same_name task.core task.core && (c && b)) never ∙ and_false (same_name task.core task.core)
    where
      and_false : (a : Bool) → (a && false) ≡ false
      and_false true = refl
      and_false false = refl

  pub deadline_is : deadline_check (with_new_task model task) (length model.tasks) task ≡ when (list_any (is_task_below model task) model.tasks) M42 (task_key (length model.tasks) key.Deadline)
  deadline_is =
      let outpaced : TaskDef → Bool = is_outpaced_by model task in
      let on_core : TaskDef → Bool = λ other. same_name task.core other.core in
      ap (λ b. when b M42 (task_key (length model.tasks) key.Deadline))
      (list_any-filter outpaced on_core (model.tasks ++ task ∷ []) ∙ list_any-append (is_task_below model task) model.tasks (task ∷ [])
      ∙ ap (λ b. list_any (is_task_below model task) model.tasks || (b || false)) (own_none _) ∙ or_none (list_any (is_task_below model task) model.tasks))

and_both : (a b c : Bool) → ((a && b) && c) ≡ (a && (b && c))
and_both true b c = refl
and_both false b c = refl

-- where these are what is known of both stimuli
pub outpaced_is : (model : SystemModel) (task other : TaskDef) (kind other_kind : Option StimulusKind) → kind ≡ kind_named model task.stimulus → other_kind ≡ kind_named model other.stimulus
    → outpaced_by task kind other other_kind ≡ is_task_below model task other
outpaced_is model task other kind other_kind is other_is =
    let spans : Option StimulusKind → Option StimulusKind → Bool = λ one two. is_some_and one (λ k. is_some_and two (spans_too_many (deadline_under k task))) in
    and_both (same_name task.core other.core) (nat_lt task.priority other.priority) (spans kind other_kind)
    ∙ ap (λ o. same_name task.core other.core && (nat_lt task.priority other.priority && spans o other_kind)) is
    ∙ ap (λ o. same_name task.core other.core && (nat_lt task.priority other.priority && spans (kind_named model task.stimulus) o)) other_is

-- the kind of a task's stimulus is known
some_is : (o : Option StimulusKind) → is_some o ≡ true → Some (unwrap_or o no_stimulus) ≡ o
some_is None h = absurd (false≢true h)
some_is (Some kind) h = refl

pub kind_is : (model : SystemModel) → IsValid model → (i : ℕ) (task : TaskDef) (kind : StimulusKind) → slice_get model.tasks i ≡ Some task → kind ≡ stimulus_of model i → Some kind ≡ kind_named model task.stimulus
kind_is model valid i task kind at is =
    let within = slice_get_within model.tasks i task at in
    let here = get_or_from_slice_get model.tasks i task no_task at in
    ap Some is ∙ some_is (kind_named model (get_or model.tasks i no_task).stimulus) (stimulus_known model valid i no_task within)
    ∙ ap (λ (t : TaskDef). kind_named model t.stimulus) here

-- some element passes where the next does or one behind it
pub any_next : {X : Type 0} (p : X → Bool) (xs : List X) (i : ℕ) (x : X) → i < length xs → x ≡ get_or xs i x → list_any p (drop i xs) ≡ (p x || list_any p (drop (i + 1) xs))
any_next p xs i x within is =
    let more : suc i ≡ i + 1 = omega arith in
    ap (list_any p) (drop-cons xs i x within) ∙ ap (λ y. p y || list_any p (drop (suc i) xs)) (sym is) ∙ ap (λ k. p x || list_any p (drop k xs)) more

-- where the list ends, none does
pub any_end : {X : Type 0} (p : X → Bool) (xs : List X) (i : ℕ) → length xs ≤ i → list_any p (drop i xs) ≡ false
any_end p xs i past = ap (list_any p) (drop_all i xs past)

-- few runnables
pub few_counted : (model : SystemModel) → IsValid model → sum_by (λ (other : TaskDef). length other.runnables) model.tasks < 2 ^ 32
few_counted model valid = let few = few_runnables model valid in omega (arith, sym (count_sum model.tasks), few)

-- what is asked of a new task of number i
pub deadline_asked : (model : SystemModel) (task : TaskDef) (i : ℕ) (late : Bool) (place : Place) (tasks : List TaskDef) → i ≡ length model.tasks → tasks ≡ model.tasks
    → late ≡ list_any (is_task_below model task) tasks → place ≡ task_key i key.Deadline → when late M42 place ≡ deadline_check (with_new_task model task) i task
deadline_asked model task i late place tasks i_is same asked here =
    subst (λ (k : ℕ). when late M42 place ≡ deadline_check (with_new_task model task) k task) (sym i_is)
    (ap (λ b. when b M42 place) (asked ∙ ap (list_any (is_task_below model task)) same)
    ∙ ap (when (list_any (is_task_below model task) model.tasks) M42) (here ∙ ap (λ (k : ℕ). task_key k key.Deadline) i_is)
    ∙ sym (deadline_is model task))

-- ---- the whole task

in_three : (a b c d e : List Refusal) → (a ++ b) ++ (c ++ ((d ++ e) ++ [])) ≡ a ++ (b ++ (c ++ (d ++ (e ++ []))))
in_three a b c d e = simp append_assoc

pub all_is : (model : SystemModel) (others : List TaskDef) (kind : Option StimulusKind) (task : TaskDef) → others ≡ model.tasks → kind ≡ kind_named model task.stimulus
    → all_checks model others kind task ≡ new_task_checks model task
all_is model others kind task same is =
    ap (λ (os : List TaskDef). all_checks model os kind task) same ∙ ap (λ k. all_checks model model.tasks k task) is
    ∙ in_three (new_task_name_check model task) (new_runnables_check model task)
    (added_checks model (kind_named model task.stimulus) (length model.tasks) task) (each (below_new_check model task) model.tasks) (deadline_check (with_new_task model task) (length model.tasks) task)
    ∙ ap (λ l. new_task_name_check model task ++ (new_runnables_check model task
    ++ (l ++ (each (below_new_check model task) model.tasks ++ (deadline_check (with_new_task model task) (length model.tasks) task ++ []))))) (added_is model task)
