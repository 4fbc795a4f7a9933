-- What the runnables of one more task, and one more runnable, read and write.
use Rattle.std.proofs.Common.{◌≡◌, ℕ, ◌+◌, ◌<◌, false, List, [], ◌∷◌, ◌++◌, length, get_or, take, refl, sym, ap, ◌∙◌, append_assoc}
use Rattle.std.specs.List.{flat_map}
use Rattle.std.proofs.lemmas.List.{take_more, append-nil, map_more, map-append}
use Rattle.std.proofs.Math.ListN.{length-map}
use Rattle.std.specs.Prelude.{nat_lt}
use Rattle.cl_model.specs.{declared.{model.SystemModel.SystemModel, limits.TheConstants.MOST_RUNNABLES_OF_MODEL, place.Place.Place, refusal.Code.TheVariants.{M39, M40, M41}, task.{TaskDef.TaskDef, RunnableDef.RunnableDef}}, Named.{same_name, has_name, labels_written, all_runnables}}
use Rattle.cl_model.specs.{Place.{entry_of, at_sub, at_spot}, Refusals.{each, when}, ValidNames.repeat_check, ValidTasks.{writer_check, twice_check, runnable_checks, body_check, count_check}, NameSets.AreNew}
use Rattle.cl_model.specs.declared.place.Part.TheVariants as part
use Rattle.std.proofs.lemmas.List.Folds.{list_any-append}
use Rattle.std.proofs.lemmas.Grind.{flat_map-append}
use Rattle.cl_model.proofs.Refused.{when_none, each_none}
use Rattle.cl_valid.specs.{declared.{runnables.LabelUse.LabelUse, shares.Share.Share}, Inner.Tables.{use_of, uses_of, shares_by_core, kept_of}}

-- labels that stand nowhere before are new
pub new_labels : (place other : Place) (written labels : List (List ℕ)) → each (writer_check place written) labels ≡ [] → twice_check other labels ≡ [] → AreNew written labels
new_labels place other written labels unwritten once k lt =
    let label : List ℕ = get_or labels k [] in
    let outside : has_name label written ≡ false = when_none _ M40 (at_spot k place) (each_none (writer_check place written) labels k [] unwritten lt) in
    let before : has_name label (take k labels) ≡ false = when_none _ M39 (at_spot k other) (each_none (repeat_check M39 (λ n. at_spot n other) [] labels) labels k [] once lt) in
    list_any-append (same_name label) written (take k labels) ∙ rw (outside, before) refl

-- the parts of one more item
pub flat_more : {X Y : Type 0} (f : X → List Y) (xs : List X) (i : ℕ) (x : X) → i < length xs → x ≡ get_or xs i x → flat_map f (take (i + 1) xs) ≡ flat_map f (take i xs) ++ f x
flat_more f xs i x lt is =
    ap (flat_map f) (take_more xs i x lt) ∙ flat_map-append f (take i xs) (get_or xs i x ∷ [])
    ∙ ap (λ l. flat_map f (take i xs) ++ l) (append-nil (f (get_or xs i x))) ∙ ap (λ y. flat_map f (take i xs) ++ f y) (sym is)

-- what is kept of the runnables of one more task
pub uses_of_more : (tasks : List TaskDef) (i : ℕ) (task : TaskDef) (old new : List LabelUse) → i < length tasks → task ≡ get_or tasks i task → old ≡ uses_of (all_runnables (take i tasks)) → new ≡ old ++ uses_of task.runnables → new ≡ uses_of (all_runnables (take (i + 1) tasks))
uses_of_more tasks i task old new lt is kept added =
    added ∙ ap (λ o. o ++ uses_of task.runnables) kept ∙ sym (ap uses_of (flat_more (λ t. t.runnables) tasks i task lt is) ∙ map-append use_of (all_runnables (take i tasks)) task.runnables)

pub labels_of_more : (tasks : List TaskDef) (i : ℕ) (task : TaskDef) (old new : List (List ℕ)) → i < length tasks → task ≡ get_or tasks i task
    → old ≡ labels_written (all_runnables (take i tasks)) → new ≡ old ++ labels_written task.runnables
    → new ≡ labels_written (all_runnables (take (i + 1) tasks))
labels_of_more tasks i task old new lt is kept added =
    added ∙ ap (λ o. o ++ labels_written task.runnables) kept ∙ sym (ap labels_written (flat_more (λ t. t.runnables) tasks i task lt is) ∙ flat_map-append (λ r. r.writes) (all_runnables (take i tasks)) task.runnables)

-- what is checked of runnable p of a task
pub step_is : (known before written : List (List ℕ)) (place here : Place) (task : TaskDef) (runnables : List RunnableDef) (p : ℕ) (runnable : RunnableDef) → runnables ≡ task.runnables → written ≡ before ++ labels_written (take p runnables) → here ≡ at_sub p place
    → runnable_checks known written here runnable ≡ body_check known before place task p runnable
step_is known before written place here task runnables p runnable same so_far is = rw (so_far, is, same) refl

-- the labels of one more runnable
pub written_more : (before old new : List (List ℕ)) (runnables : List RunnableDef) (p : ℕ) (runnable : RunnableDef) (labels : List (List ℕ))
    → old ≡ before ++ labels_written (take p runnables) → p < length runnables → runnable ≡ get_or runnables p runnable → labels ≡ runnable.writes
    → new ≡ old ++ labels
    → new ≡ before ++ labels_written (take (p + 1) runnables)
written_more before old new runnables p runnable labels so_far lt is writes added =
    added ∙ ap (λ o. o ++ labels) so_far ∙ ap (λ l. (before ++ labels_written (take p runnables)) ++ l) writes
    ∙ append_assoc before (labels_written (take p runnables)) runnable.writes ∙ ap (λ l. before ++ l) (sym (flat_more (λ r. r.writes) runnables p runnable lt is))

-- the accesses of one more runnable
pub uses_more : (before old new : List LabelUse) (runnables : List RunnableDef) (p : ℕ) (runnable : RunnableDef) (label_use : LabelUse)
    → old ≡ before ++ uses_of (take p runnables) → p < length runnables → runnable ≡ get_or runnables p runnable → label_use ≡ use_of runnable
    → new ≡ old ++ label_use ∷ []
    → new ≡ before ++ uses_of (take (p + 1) runnables)
uses_more before old new runnables p runnable label_use so_far lt is same added =
    added ∙ ap (λ o. o ++ label_use ∷ []) so_far ∙ ap (λ a. (before ++ uses_of (take p runnables)) ++ a ∷ []) (same ∙ ap use_of is)
    ∙ append_assoc before (uses_of (take p runnables)) (use_of (get_or runnables p runnable) ∷ []) ∙ ap (λ l. before ++ l) (sym (map_more use_of runnables p runnable lt))

-- what is counted of the runnables up to task i
pub count_is : (model : SystemModel) (i : ℕ) (task : TaskDef) (n : ℕ) (old new : List LabelUse) (place : Place) → i < length model.tasks
    → task ≡ get_or model.tasks i task → old ≡ uses_of (all_runnables (take i model.tasks)) → new ≡ old ++ uses_of task.runnables → n ≡ length new
    → place ≡ entry_of part.Task i
    → when (nat_lt MOST_RUNNABLES_OF_MODEL n) M41 place ≡ count_check model i
count_is model i task n old new place lt is kept added counted here =
    let all : new ≡ uses_of (all_runnables (take (i + 1) model.tasks)) = uses_of_more model.tasks i task old new lt is kept added in
    let number : n ≡ length (all_runnables (take (i + 1) model.tasks)) = counted ∙ ap length all ∙ length-map (all_runnables (take (i + 1) model.tasks)) use_of in
    ap (λ k. when (nat_lt MOST_RUNNABLES_OF_MODEL k) M41 place) number ∙ ap (when (nat_lt MOST_RUNNABLES_OF_MODEL (length (all_runnables (take (i + 1) model.tasks)))) M41) here

-- what is kept of tasks
pub kept_is : (model : SystemModel) (tasks : List TaskDef) (shares : List (List Share)) (written : List (List ℕ)) (each : List LabelUse) → shares ≡ shares_by_core model tasks → written ≡ labels_written (all_runnables tasks) → each ≡ uses_of (all_runnables tasks)
    → record { shares = shares; uses = record { written = written; each = each } } ≡ kept_of model tasks
kept_is model tasks shares written each a b c = rw (a, b, c) refl
