-- Which change of a model an edit is, and what is answered of it.
use Rattle.std.proofs.Common.{◌≡◌, ℕ, zero, suc, ◌<◌, ◌≤◌, ◌∙◌, Bool, true, false, cond, get_or, List, [], ◌∷◌, ◌++◌, length, map, refl, sym, ap, subst, arith}
use Rattle.std.specs.Prelude.{Result, Option, Some, None, unwrap_or, All}
use Rattle.std.specs.List.{flat_map}
use Rattle.std.proofs.lemmas.List.{length-map}
use Rattle.std.proofs.lemmas.List.Elements.{All-nil, All-cons, All-map}
use Rattle.cl_model.specs.declared.{chain.{ChainDef.ChainDef, RequirementDef.RequirementDef}, changes.TaskPriority.TaskPriority, limits.TheConstants.{MOST_PRIORITY, MOST_REQUIRED}, model.SystemModel.SystemModel, model_fault.ModelFault.ModelFault, refusal.Code.TheVariants.E2}
use Rattle.cl_model.specs.{declared.{refusal.Refusal.Refusal, stimulus.{StimulusDef.StimulusDef, StimulusKind.StimulusKind}, task.TaskDef.TaskDef}, Answers.{Answers, IsFaultOf}, ByNumber.{stimulus_number, task_at, no_task, no_requirement, requirement_named}, Changes.no_stimulus_def}
use Rattle.cl_model.specs.{Changes.stimulus_at, Groups.{step_named, IsStepOf}, Named.{has_name, index_of, task_names, chain_names, requirement_names, stimulus_names, kind_named}, Place.top, Ranges.{IsTaskInRange, IsInRange}, Refusals.first, Validity.{IsValid, refusals_of}}
use Rattle.cl_model.proofs.{FirstRefusals.{fault_of_back, none_of_both}, NamePlaces.{place_within, found_below, entry_found}, Refused.unless_none, StepFacts.step_stands_in}
use Rattle.cl_edit.specs.declared.{change.Change.Change, edit.{NamedPriority.NamedPriority, Edit.{Edit, TheVariants.{Range, Whole, Period, Offset, Jitter, Distances, Burst, Deadline, Swap, Priorities, Move, Kind, AddTask, DropTask, AddChain, DropChain, Requirement, DropRequirement}}}}
use Rattle.cl_edit.specs.{declared.edit.Edit.TheVariants.{Report, Tighten, Verify}, Changing.{with_change, IsPriorityOf, IsChangeOf, MayBeMade, task_number, chain_number, kind_change, by_number, exchanged, requirement_change, change_of}, Edited.{found, kind_found, all_names, edit_checks}}
use Rattle.cl_edit.specs.{Edited.with_edit, Inner.Kinds.{sets, with_numbers}, Ranges.IsEditInRange}
use Rattle.cl_edit.specs.declared.change.Change.TheVariants as changes
use Rattle.cl_edit.proofs.{EditedValid.{first_none, valid_unless}, FoundFacts.{missing_unknown, kind_passes, kind_missing, none_is_first, number_from}}

-- ---- what is found

-- a task that is found
found_within : (model : SystemModel) (name : List ℕ) → found name (task_names model) ≡ [] → task_number model name < length model.tasks
found_within model name none =
    omega (arith, place_within name (task_names model) (unless_none (has_name name (task_names model)) E2 top none), length-map model.tasks (λ (t : TaskDef). t.name))

-- a chain
found_chain_within : (model : SystemModel) (name : List ℕ) → found name (chain_names model) ≡ [] → chain_number model name < length model.chains
found_chain_within model name none =
    omega (arith, place_within name (chain_names model) (unless_none (has_name name (chain_names model)) E2 top none), length-map model.chains (λ (c : ChainDef). c.name))

-- a runnable
found_step_within : (model : SystemModel) (name : List ℕ) → found name (all_names model) ≡ [] → IsStepOf model (step_named model name)
found_step_within model name none = step_stands_in model name (unless_none (has_name name (all_names model)) E2 top none)

-- a stimulus
kind_within : (model : SystemModel) (name : List ℕ) (sets : StimulusKind → Bool) → kind_found (kind_named model name) sets ≡ [] → stimulus_number model name < length model.stimuli
kind_within model name sets none = by (index_of name (stimulus_names model)) refl
  where
    by : (o : Option ℕ) → index_of name (stimulus_names model) ≡ o → stimulus_number model name < length model.stimuli
    by None is = absurd (none_is_first (record { code = E2; place = top }) (sym (ap first none) ∙ kind_missing model name sets is))
    by (Some s) is =
        omega (arith, number_from (index_of name (stimulus_names model)) s is, found_below name (stimulus_names model) s is, length-map model.stimuli (λ (x : StimulusDef). x.name))

-- a requirement
found_requirement_within : (model : SystemModel) (name : List ℕ) → found name (requirement_names model) ≡ [] → unwrap_or (requirement_named model name) 0 < length model.requirements
found_requirement_within model name none =
    omega (arith, place_within name (requirement_names model) (unless_none (has_name name (requirement_names model)) E2 top none), length-map model.requirements (λ (x : RequirementDef). x.name))

-- a requirement that is set is there, and one that is added is new
requirement_known : (model : SystemModel) (requirement : RequirementDef) (place : Option ℕ) → requirement_named model requirement.name ≡ place → requirement.most ≤ MOST_REQUIRED
    → IsChangeOf model (requirement_change place requirement)
requirement_known model requirement (Some r) is few = (
  omega (arith, found_below requirement.name (requirement_names model) r is, length-map model.requirements (λ (x : RequirementDef). x.name)),
  sym (entry_found (λ (x : RequirementDef). x.name) model.requirements requirement.name r no_requirement is),
  few,
)
requirement_known model requirement None is few = (missing_unknown requirement.name (requirement_names model) is, few)

-- priorities that are exchanged
exchange_known : (model : SystemModel) → All IsTaskInRange model.tasks → (i j : ℕ) → i < length model.tasks → j < length model.tasks → All (IsPriorityOf model) (exchanged model i j)
exchange_known model tasks i j hi hj =
    let mine : TaskPriority = record { task = i; priority = (task_at model j).priority } in
    let its : TaskPriority = record { task = j; priority = (task_at model i).priority } in
    All-cons (IsPriorityOf model) mine (its ∷ []) (record { task = hi; priority = (tasks j no_task hj).priority })
    (All-cons (IsPriorityOf model) its [] (record { task = hj; priority = (tasks i no_task hi).priority }) (All-nil (IsPriorityOf model)))

-- where nothing is refused of all, nothing is of each
none_of_all : {X : Type 0} (check : X → List Refusal) (xs : List X) → flat_map check xs ≡ [] → All (λ x. check x ≡ []) xs
none_of_all {X = X} check [] none = All-nil (λ (y : X). check y ≡ [])
none_of_all {X = X} check (x ∷ xs) none =
    let parts = first_none (check x) (flat_map check xs) none in All-cons (λ (y : X). check y ≡ []) x xs parts.0 (none_of_all check xs parts.1)

priorities_known : (model : SystemModel) (priorities : List NamedPriority) → All (λ (p : NamedPriority). p.priority ≤ MOST_PRIORITY) priorities
    → flat_map (λ (p : NamedPriority). found p.task (task_names model)) priorities ≡ [] → All (IsPriorityOf model) (map (by_number model) priorities)
priorities_known model priorities few none =
    let there = none_of_all (λ (p : NamedPriority). found p.task (task_names model)) priorities none in
    All-map (IsPriorityOf model) (by_number model) priorities (λ k d lt. record { task = found_within model (get_or priorities k d).task (there k d lt); priority = few k d lt })

-- where the first checks pass, what the edit names is there
change_is_of_model : (model : SystemModel) → IsInRange model → (edit : Edit) → IsEditInRange edit → edit_checks model edit ≡ [] → IsChangeOf model (change_of model edit)
unfolding edit_checks change_of
change_is_of_model model known (Range runnable least greatest) range none = found_step_within model runnable none
change_is_of_model model known (Whole runnable whole) range none = found_step_within model runnable none
change_is_of_model model known (Period stimulus period) range none = kind_within model stimulus _ none
change_is_of_model model known (Offset stimulus offset) range none = kind_within model stimulus _ none
change_is_of_model model known (Jitter stimulus jitter) range none = kind_within model stimulus _ none
change_is_of_model model known (Distances stimulus least greatest) range none = kind_within model stimulus _ none
change_is_of_model model known (Burst stimulus period count distance) range none = kind_within model stimulus _ none
change_is_of_model model known (Deadline task deadline) range none = found_within model task none
change_is_of_model model known (Swap one other) range none =
    let parts = first_none (found one (task_names model)) (found other (task_names model)) none in
    exchange_known model known.tasks (task_number model one) (task_number model other) (found_within model one parts.0) (found_within model other parts.1)
change_is_of_model model known (Priorities priorities) range none = priorities_known model priorities range.each none
change_is_of_model model known (Move task core priority) range none = found_within model task none
change_is_of_model model known (Kind task access) range none = found_within model task none
change_is_of_model model known (AddTask task) range none = range
change_is_of_model model known (DropTask task) range none = found_within model task none
change_is_of_model model known (AddChain chain) range none = range
change_is_of_model model known (DropChain chain) range none = found_chain_within model chain none
change_is_of_model model known (Requirement requirement) range none = requirement_known model requirement (requirement_named model requirement.name) refl range
change_is_of_model model known (DropRequirement requirement) range none = found_requirement_within model requirement none
change_is_of_model model known Report range none = tt
change_is_of_model model known Tighten range none = tt
change_is_of_model model known Verify range none = tt

-- ---- edits

module _ (model : SystemModel) (valid : IsValid model) (edit : Edit) (change : Change) (range : IsEditInRange edit) (none : edit_checks model edit ≡ []) (is : change ≡ change_of model edit) where
  -- the change that it is is one of the model
  pub known_change : IsChangeOf model change
  known_change = subst (IsChangeOf model) (sym is) (change_is_of_model model valid.in_range edit range none)

  -- the changed model is the edited one
  pub changed_is : refusals_of (with_change model change) ≡ refusals_of (with_edit model edit)
  unfolding with_edit
  changed_is = ap (λ (c : Change). refusals_of (with_change model c)) is

  -- where the checks of the changed model pass too, the change may be made
  pub may_be_made : refusals_of (with_change model change) ≡ [] → MayBeMade model change
  unfolding with_edit
  may_be_made passes =
      let meant : IsValid (with_change model (change_of model edit)) =
      valid_unless model edit valid range (none_of_both (edit_checks model edit) (refusals_of (with_edit model edit)) none (sym changed_is ∙ passes)) in
      record { of_model = known_change; valid = subst (λ (c : Change). IsValid (with_change model c)) (sym is) meant }

  -- what is refused of the changed model is what the edit is refused by
  pub refused_behind : (fault : ModelFault) → IsFaultOf (refusals_of (with_change model change)) fault → IsFaultOf (edit_checks model edit ++ refusals_of (with_edit model edit)) fault
  refused_behind fault refused =
      fault_of_back (edit_checks model edit) (refusals_of (with_edit model edit)) fault none (subst (λ (refusals : List Refusal). IsFaultOf refusals fault) changed_is refused)

-- ---- edits, by what is answered of what they look up

module _ (model : SystemModel) (edit : Edit) (result : Result Change ModelFault) where
  -- the numbers of the edit are set of the stimulus of this name
  abbrev pub SetsNumbers : List ℕ → Type 0
  SetsNumbers name = Answers result (kind_found (kind_named model name) (sets edit)) (kind_change model name (with_numbers edit))

  -- the edit is its change
  abbrev pub IsItsChange : Type 0
  IsItsChange = Answers result (edit_checks model edit) (change_of model edit)

pub period_answers : (model : SystemModel) (edit : Edit) (result : Result Change ModelFault) (name : List ℕ) (period : ℕ) → edit ≡ Period name period
    → SetsNumbers model edit result name → IsItsChange model edit result
unfolding edit_checks change_of
period_answers model edit result name period is h = subst (λ (x : Edit). SetsNumbers model x result name → IsItsChange model x result) (sym is) (λ own. own) h

pub offset_answers : (model : SystemModel) (edit : Edit) (result : Result Change ModelFault) (name : List ℕ) (offset : ℕ) → edit ≡ Offset name offset
    → SetsNumbers model edit result name → IsItsChange model edit result
unfolding edit_checks change_of
offset_answers model edit result name offset is h = subst (λ (x : Edit). SetsNumbers model x result name → IsItsChange model x result) (sym is) (λ own. own) h

pub jitter_answers : (model : SystemModel) (edit : Edit) (result : Result Change ModelFault) (name : List ℕ) (jitter : ℕ) → edit ≡ Jitter name jitter
    → SetsNumbers model edit result name → IsItsChange model edit result
unfolding edit_checks change_of
jitter_answers model edit result name jitter is h = subst (λ (x : Edit). SetsNumbers model x result name → IsItsChange model x result) (sym is) (λ own. own) h

pub distances_answers : (model : SystemModel) (edit : Edit) (result : Result Change ModelFault) (name : List ℕ) (least greatest : ℕ) → edit ≡ Distances name least greatest
    → SetsNumbers model edit result name → IsItsChange model edit result
unfolding edit_checks change_of
distances_answers model edit result name least greatest is h = subst (λ (x : Edit). SetsNumbers model x result name → IsItsChange model x result) (sym is) (λ own. own) h

pub burst_answers : (model : SystemModel) (edit : Edit) (result : Result Change ModelFault) (name : List ℕ) (period count distance : ℕ) → edit ≡ Burst name period count distance
    → SetsNumbers model edit result name → IsItsChange model edit result
unfolding edit_checks change_of
burst_answers model edit result name period count distance is h = subst (λ (x : Edit). SetsNumbers model x result name → IsItsChange model x result) (sym is) (λ own. own) h

-- an edit of another kind
pub edit_answers : (model : SystemModel) (edit other : Edit) (result : Result Change ModelFault) → edit ≡ other → IsItsChange model other result → IsItsChange model edit result
edit_answers model edit other result is h = subst (λ (x : Edit). IsItsChange model x result) (sym is) h

-- ---- the kind of a stimulus

some_if : (b : Bool) (x y : StimulusKind) → Some x ≡ cond b (Some y) None → (b ≡ true) × (x ≡ y)
some_if true x y e = (refl, ap (λ o. unwrap_or o x) e)
some_if false x y e = absurd cc

any_default : (xs : List StimulusDef) (i : ℕ) (d e : StimulusDef) → i < length xs → get_or xs i d ≡ get_or xs i e
any_default [] i d e lt = absurd (omega arith)
any_default (x ∷ xs) zero d e lt = refl
any_default (x ∷ xs) (suc i) d e lt = any_default xs i d e (omega arith)

module _ (model : SystemModel) (name : List ℕ) (edit : Edit) (stimuli : List StimulusDef) (s : ℕ) (d : StimulusDef) (all : stimuli ≡ model.stimuli)
    (named : index_of name (stimulus_names model) ≡ Some s) where
  within : s < length model.stimuli
  within = omega (arith, found_below name (stimulus_names model) s named, length-map model.stimuli (λ (x : StimulusDef). x.name))

  here : get_or stimuli s d ≡ stimulus_at model s
  here = ap (λ l. get_or l s d) all ∙ any_default model.stimuli s d no_stimulus_def within

  -- the edit sets the stimulus
  pub stimulus_set : (kind : StimulusKind) → Some kind ≡ cond (sets edit (get_or stimuli s d).kind) (Some (with_numbers edit (get_or stimuli s d).kind)) None
      → (kind_found (kind_named model name) (sets edit) ≡ []) × (changes.Stimulus s kind ≡ kind_change model name (with_numbers edit))
  stimulus_set kind chosen =
      let parts = some_if (sets edit (get_or stimuli s d).kind) kind (with_numbers edit (get_or stimuli s d).kind) chosen in
      let numbered : stimulus_number model name ≡ s = number_from (index_of name (stimulus_names model)) s named in
      let same : kind ≡ with_numbers edit (stimulus_at model s).kind = parts.1 ∙ ap (λ (x : StimulusDef). with_numbers edit x.kind) here in (
        kind_passes model name s (sets edit) named (ap (λ (x : StimulusDef). sets edit x.kind) (sym here) ∙ parts.0),
        ap (changes.Stimulus s) same ∙ ap (λ (n : ℕ). changes.Stimulus n (with_numbers edit (stimulus_at model n).kind)) (sym numbered),
      )
