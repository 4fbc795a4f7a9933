-- What the tasks are after a change of when they run.
use Rattle.std.proofs.Common.{◌≡◌, ℕ, ◌<◌, Bool, true, false, cond, List, length, map, get_or, set, refl, sym, ap, ◌∙◌, arith}
use Rattle.std.specs.Prelude.{Option, Some, None, is_some, unwrap_or, slice_get, ◌==◌}
use Rattle.std.specs.Option.{option_map, option_and_then}
use Rattle.std.specs.Cmp.Lexicographic.{bytes_decides}
use Rattle.std.proofs.lemmas.Bool.{eqb-true, eqb-false, eq-eqb, false≢true}
use Rattle.std.proofs.lemmas.List.{length-set, length-map, get_or-set_same, get_or-set_other}
use Rattle.std.proofs.lemmas.Option.{slice_get-get_or}
use Rattle.cl_model.specs.{declared.{model.SystemModel.SystemModel, stimulus.{StimulusDef.StimulusDef, StimulusKind.StimulusKind}}, ByNumber.{no_stimulus, no_task, task_at, stimulus_of}, Changes.{no_stimulus_def, stimulus_at, with_kind}, Named.{index_of, stimulus_names, kind_named}}
use Rattle.cl_model.specs.Validity.{IsValid}
use Rattle.cl_model.proofs.{NamePlaces.{found_below, own_entry, entry_found}, NamesApart.stimuli_apart, NamesKnown.stimulus_known, ListFacts.same_tests}
use Rattle.cl_edit.specs.Inner.Paces.{is_on}
use Rattle.cl_edit.proofs.TaskSetters.{map_set_same}

-- ---- one item of a list

pub set_at : {X : Type 0} (xs : List X) (i k : ℕ) (x d : X) → i < length xs → get_or (set xs i x) k d ≡ cond (k == i) x (get_or xs k d)
set_at xs i k x d lt =
    elim (k == i) as (λ b. (k == i) ≡ b → get_or (set xs i x) k d ≡ cond b x (get_or xs k d)) [
      | true ↦ λ e. ap (λ n. get_or (set xs i x) n d) (eqb-true k i e) ∙ get_or-set_same xs i x d lt
      | false ↦ λ e. get_or-set_other xs i k x d (eqb-false k i e)
    ] refl

-- ---- a kind

-- the kind that a stimulus of a number has
kind_at : (stimuli : List StimulusDef) (n : ℕ) → n < length stimuli → option_map (λ (s : StimulusDef). s.kind) (slice_get stimuli n) ≡ Some (get_or stimuli n no_stimulus_def).kind
kind_at stimuli n lt = ap (option_map (λ (s : StimulusDef). s.kind)) (slice_get-get_or stimuli n no_stimulus_def lt)

-- what is found has a number
number_found : (name : List ℕ) (o : Option ℕ) (stimuli : List StimulusDef) → is_some (option_map (λ (s : StimulusDef). s.kind) (option_and_then (slice_get stimuli) o)) ≡ true → o ≡ Some (unwrap_or o 0)
number_found name None stimuli is = absurd (false≢true is)
number_found name (Some n) stimuli is = refl

module _ (model : SystemModel) (valid : IsValid model) (k : ℕ) (known : k < length model.tasks) where
  name : List ℕ
  name = (task_at model k).stimulus

  -- the number of its stimulus
  number : ℕ
  number = unwrap_or (index_of name (stimulus_names model)) 0

  number_is : index_of name (stimulus_names model) ≡ Some number
  unfolding name number
  number_is = number_found name (index_of name (stimulus_names model)) model.stimuli (stimulus_known model valid k no_task known)

  number_within : number < length model.stimuli
  number_within = omega (arith, found_below name (stimulus_names model) number number_is, length-map model.stimuli (λ (s : StimulusDef). s.name))

  own_kind : kind_named model (task_at model k).stimulus ≡ Some (get_or model.stimuli number no_stimulus_def).kind
  unfolding name
  own_kind = ap (λ o. option_map (λ (s : StimulusDef). s.kind) (option_and_then (slice_get model.stimuli) o)) number_is ∙ kind_at model.stimuli number number_within

  pub kind_known : kind_named model (task_at model k).stimulus ≡ Some (stimulus_of model k)
  kind_known = own_kind ∙ ap (λ o. Some (unwrap_or o no_stimulus)) (sym own_kind)

  module _ (s : ℕ) (kind : StimulusKind) (within : s < length model.stimuli) where
    on_own : (number == s) ≡ is_on model s k
    unfolding name
    on_own =
        same_tests (number == s) (is_on model s k)
        (λ e. (bytes_decides name (stimulus_at model s).name).1
        (sym (entry_found (λ (x : StimulusDef). x.name) model.stimuli name number no_stimulus_def number_is) ∙ ap (λ n. (get_or model.stimuli n no_stimulus_def).name) (eqb-true number s e)))
        (λ e. eq-eqb number s (some_number (sym number_is ∙ ap (λ x. index_of x (stimulus_names model)) ((bytes_decides name (stimulus_at model s).name).0 e)
        ∙ own_entry (λ (x : StimulusDef). x.name) model.stimuli (stimuli_apart model valid) s no_stimulus_def within)))
      where
        some_number : {a b : ℕ} → Some a ≡ Some b → a ≡ b
        some_number e = ap (λ o. unwrap_or o 0) e

    -- the stimulus of a task where one has another kind
    pub kind_after_change : kind_named (with_kind model s (λ _. kind)) (task_at model k).stimulus ≡ Some (cond (is_on model s k) kind (stimulus_of model k))
    unfolding name
    kind_after_change =
        let changed : StimulusDef = record (stimulus_at model s) { kind = kind } in
        let stimuli : List StimulusDef = set model.stimuli s changed in
        let names : map (λ (x : StimulusDef). x.name) stimuli ≡ stimulus_names model = map_set_same (λ (x : StimulusDef). x.name) model.stimuli s changed no_stimulus_def refl in
        ap (λ ns. option_map (λ (x : StimulusDef). x.kind) (option_and_then (slice_get stimuli) (index_of name ns))) names
        ∙ ap (λ o. option_map (λ (x : StimulusDef). x.kind) (option_and_then (slice_get stimuli) o)) number_is
        ∙ kind_at stimuli number (omega (arith, number_within, length-set model.stimuli s changed))
        ∙ ap (λ (x : StimulusDef). Some x.kind) (set_at model.stimuli s number changed no_stimulus_def within)
        ∙ ap (λ b. Some (cond b changed (get_or model.stimuli number no_stimulus_def)).kind) on_own
        ∙ by (is_on model s k) ∙ ap (λ o. Some (cond (is_on model s k) kind (unwrap_or o no_stimulus))) (sym own_kind)
      where
        by : (b : Bool) → Some (cond b (record (stimulus_at model s) { kind = kind }) (get_or model.stimuli number no_stimulus_def)).kind ≡ Some (cond b kind (get_or model.stimuli number no_stimulus_def).kind)
        by true = refl
        by false = refl
