-- Names that are looked up, and what follows where they are there or not.
use Rattle.std.proofs.Common.{◌≡◌, ℕ, Bool, true, false, List, [], refl, sym, ◌∙◌, ap, subst}
use Rattle.std.specs.Prelude.{Option, Some, None, unwrap_or, slice_get}
use Rattle.std.specs.Option.{option_map, option_and_then}
use Rattle.cl_model.specs.{declared.{refusal.{Code.TheVariants.{E2, E3}, Refusal.Refusal}, model.SystemModel.SystemModel, model_fault.ModelFault.{ModelFault, TheVariants.Refused}, stimulus.StimulusKind.StimulusKind}, Answers.IsFaultOf, Changes.stimulus_at, Named.{has_name, index_of}}
use Rattle.cl_model.specs.{Named.{stimulus_names, kind_named}, Place.top, Refusals.{first, unless}}
use Rattle.cl_model.proofs.{NamePlaces.{known_place, found_stands, stands_known}, NamesKnown.kind_there}
use Rattle.cl_edit.specs.Edited.{found, kind_found}

not_true : (b : Bool) → (b ≡ true → ⊥) → b ≡ false
not_true true h = absurd (h refl)
not_true false h = refl

-- a name that has no place isn't known
pub missing_unknown : (name : List ℕ) (names : List (List ℕ)) → index_of name names ≡ None → has_name name names ≡ false
missing_unknown name names e = not_true (has_name name names) (λ known. let f : index_of name names ≡ Some (unwrap_or (index_of name names) 0) = known_place name names known in cc)

pub found_known : (name : List ℕ) (names : List (List ℕ)) (k : ℕ) → index_of name names ≡ Some k → has_name name names ≡ true
found_known name names k e = stands_known name names (found_stands name names k e)

-- a name that has a place passes
pub found_passes : (name : List ℕ) (names : List (List ℕ)) (k : ℕ) → index_of name names ≡ Some k → found name names ≡ []
found_passes name names k e = ap (λ b. unless b E2 top) (found_known name names k e)

-- one that has none is refused by E2
found_fails : (name : List ℕ) (names : List (List ℕ)) → index_of name names ≡ None → first (found name names) ≡ Some (record { code = E2; place = top })
found_fails name names e = ap (λ b. first (unless b E2 top)) (missing_unknown name names e)

-- what is refused first isn't nothing
pub none_is_first : (refusal : Refusal) → None ≡ Some refusal → ⊥
none_is_first refusal is = cc

-- what a place was found to be
pub number_from : (o : Option ℕ) (k : ℕ) → o ≡ Some k → unwrap_or o 0 ≡ k
number_from o k e = ap (λ x. unwrap_or x 0) e

-- what is answered of a name that is looked up: its number, or E2
pub number_answers : (name : List ℕ) (names : List (List ℕ)) (k : ℕ) → Some k ≡ index_of name names → (found name names ≡ []) × (k ≡ unwrap_or (index_of name names) 0)
number_answers name names k is = (found_passes name names k (sym is), sym (number_from (index_of name names) k (sym is)))

pub missing_answers : (name : List ℕ) (names : List (List ℕ)) (fault : ModelFault) → None ≡ index_of name names → fault ≡ Refused (record { code = E2; place = top }) → IsFaultOf (found name names) fault
missing_answers name names fault is is_fault = subst (IsFaultOf (found name names)) (sym is_fault) (found_fails name names (sym is))

-- ---- kinds of stimuli

pub kind_passes : (model : SystemModel) (name : List ℕ) (s : ℕ) (sets : StimulusKind → Bool) → index_of name (stimulus_names model) ≡ Some s
    → sets (stimulus_at model s).kind ≡ true → kind_found (kind_named model name) sets ≡ []
kind_passes model name s sets e good = ap (λ o. kind_found o sets) (kind_there model name s e) ∙ ap (λ b. unless b E3 top) good

pub kind_missing : (model : SystemModel) (name : List ℕ) (sets : StimulusKind → Bool) → index_of name (stimulus_names model) ≡ None
    → first (kind_found (kind_named model name) sets) ≡ Some (record { code = E2; place = top })
kind_missing model name sets e = ap (λ o. first (kind_found (option_map (λ stimulus. stimulus.kind) (option_and_then (slice_get model.stimuli) o)) sets)) e
