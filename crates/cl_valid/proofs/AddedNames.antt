-- Names that a loop adds behind others, each of which is refused where it is there already.
use Rattle.std.proofs.Common.{◌≡◌, ℕ, ◌+◌, ◌<◌, ◌≤◌, ◌^◌, false, List, [], ◌∷◌, ◌++◌, length, get_or, take, drop, map, refl, sym, ap, ◌∙◌, append_assoc, arith}
use Rattle.std.specs.Prelude.{All}
use Rattle.std.proofs.lemmas.List.{take_more, take_all, append-nil, get_or_default}
use Rattle.std.proofs.Math.ListN.{length-map, get_or-map}
use Rattle.cl_model.specs.{declared.{model_fault.ModelFault.ModelFault, place.Place.Place, refusal.Code.Code, task.TaskDef.TaskDef}, Answers.IsFaultOf, Named.has_name, NameSets.{names_with, AreNew}, Ranges.IsTaskInRange, Refusals.{when, each_from}, ValidNames.{repeat_check, repeats}}
use Rattle.cl_model.proofs.FirstRefusals.{all_checked, next_passes, next_refused}

-- the first n names are behind those before, and what is refused of all is what is refused of the rest
pub record AreAdded (code : Code) (place : ℕ → Place) (before all : List (List ℕ)) (n : ℕ) (added : List (List ℕ)) : Type 0 where
  pub so_far : added ≡ before ++ take n all
  pub rest : repeats code place before all ≡ each_from n (repeat_check code place before all) (drop n all)

-- the name of an entry, among the names of all
pub name_at : {X : Type 0} (f : X → List ℕ) (entries : List X) (i : ℕ) (x : X) (name : List ℕ) → name ≡ f x → x ≡ get_or entries i x → name ≡ get_or (map f entries) i name
name_at f entries i x name called is = called ∙ ap f is ∙ sym (get_or-map f entries i x) ∙ ap (λ d. get_or (map f entries) i d) (sym called)

pub name_below : {X : Type 0} (f : X → List ℕ) (entries : List X) (i : ℕ) → i < length entries → i < length (map f entries)
name_below f entries i within = omega (arith, within, length-map entries f)

pub name_past : {X : Type 0} (f : X → List ℕ) (entries : List X) (i : ℕ) → length entries ≤ i → length (map f entries) ≤ i
name_past f entries i past = omega (arith, past, length-map entries f)

module _ (code : Code) (place : ℕ → Place) (before all : List (List ℕ)) where
  pub none_added : (added : List (List ℕ)) → added ≡ before → AreAdded code place before all 0 added
  none_added added same = record { so_far = same ∙ sym (append-nil before); rest = refl }

  module _ (n : ℕ) (added : List (List ℕ)) (are : AreAdded code place before all n added) where
    -- all are added
    pub all_pass : length all ≤ n → repeats code place before all ≡ []
    all_pass past = all_checked (repeat_check code place before all) all n are.rest past

    pub all_added : length all ≤ n → added ≡ before ++ all
    all_added past = are.so_far ∙ ap (λ l. before ++ l) (take_all n all past)

    -- the next name
    module _ (name : List ℕ) (here : Place) (within : n < length all) (is : name ≡ get_or all n name) (at : here ≡ place n) where
      checked : when (has_name name added) code here ≡ repeat_check code place before all n name
      checked = rw (are.so_far, at) refl

      pub one_added : (new : List (List ℕ)) → when (has_name name added) code here ≡ [] → new ≡ added ++ name ∷ [] → AreAdded code place before all (n + 1) new
      one_added new none grown = record {
        so_far =
            grown ∙ ap (λ o. o ++ name ∷ []) are.so_far ∙ append_assoc before (take n all) (name ∷ [])
            ∙ ap (λ l. before ++ l) (ap (λ y. take n all ++ y ∷ []) is ∙ sym (take_more all n name within));
        rest = next_passes (repeat_check code place before all) all n name within is are.rest (sym checked ∙ none);
      }

      pub one_refused : (e : ModelFault) → IsFaultOf (when (has_name name added) code here) e → IsFaultOf (repeats code place before all) e
      one_refused e h = next_refused (repeat_check code place before all) all n name within is e are.rest (rw checked at h)

-- a task has few runnables
pub runnables_fit : (tasks : List TaskDef) → All IsTaskInRange tasks → (i : ℕ) (task : TaskDef) → i < length tasks → task ≡ get_or tasks i task → length task.runnables < 2 ^ 32
runnables_fit tasks ranges i task within is =
    let few = (ranges i task within).count in
    let same : length task.runnables ≡ length (get_or tasks i task).runnables = ap (λ t. length t.runnables) is in
    omega (arith, few, same)

-- one more label that is new
pub new_more : (before labels : List (List ℕ)) (k : ℕ) (label : List ℕ) (old new : List (List ℕ)) → AreNew before labels → old ≡ before ++ take k labels → k < length labels → label ≡ get_or labels k label → new ≡ names_with label old → new ≡ before ++ take (k + 1) labels
new_more before labels k label old new fresh so_far within is after =
    let e : label ≡ get_or labels k [] = is ∙ get_or_default labels k label [] within in
    let absent : has_name label old ≡ false = ap (λ l. has_name l old) e ∙ ap (has_name (get_or labels k [])) so_far ∙ fresh k within in
    after ∙ rw absent refl ∙ ap (λ o. o ++ label ∷ []) so_far ∙ append_assoc before (take k labels) (label ∷ [])
    ∙ ap (λ l. before ++ l) (ap (λ y. take k labels ++ y ∷ []) is ∙ sym (take_more labels k label within))
