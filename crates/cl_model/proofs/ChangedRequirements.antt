-- What stands beside a valid model with another requirement, one more, or one fewer: the names of the requirements alone.
use Rattle.std.proofs.Common.{◌≡◌, ℕ, List, [], ◌∷◌, ◌++◌, refl, sym, subst, ap, ◌∙◌}
use Rattle.std.specs.Prelude.{remove}
use Rattle.indexmap.proofs.SetLemmas.{map-remove}
use Rattle.std.proofs.lemmas.List.{map-append}
use Rattle.std.proofs.Math.Seq.{map-set_same}
use Rattle.cl_model.specs.{declared.{chain.RequirementDef.RequirementDef, look_ups.{LookUps.LookUps, SectionNames.SectionNames}, model.SystemModel.SystemModel, valid_model.ValidModel.TheInside.Inside}, ByNumber.{no_requirement, requirement_at}, Changes.with_requirement}
use Rattle.cl_model.specs.{Changes.{with_new_requirement, without_requirement}, Groups.groups_of, Inner.LookUps.{AreLookUpsOf, HasItsLookUps}, Named.requirement_names, NameSets.{names_with, AreDistinctNames}, Validity.IsValid}
use Rattle.cl_model.proofs.{ChangedChains.last_is_added, KeptLookUps.stands_beside, NamesApart.requirements_apart}

abbrev name_of : RequirementDef → List ℕ
name_of requirement = requirement.name

-- another requirement of the same name
pub requirement_stands : (old : Inside) → HasItsLookUps old → (r : ℕ) (requirement : RequirementDef) → requirement.name ≡ (requirement_at old.model r).name
    → IsValid (with_requirement old.model r requirement) → HasItsLookUps (record { model = with_requirement old.model r requirement; look_ups = old.look_ups })
requirement_stands old has r requirement same valid =
    stands_beside old has (with_requirement old.model r requirement) (record {
      cores = refl;
      chains = refl;
      requirements = map-set_same name_of old.model.requirements r requirement no_requirement same;
      stimuli = refl;
      name = refl;
      core = refl;
      stimulus = refl;
      runnables = refl;
    }) valid refl

-- the tables of a model with other requirements
module _ (model : SystemModel) (requirements : List RequirementDef) (kept : LookUps) (are : AreLookUpsOf model kept) (names : List (List ℕ)) where
  abbrev changed : SystemModel
  changed = record model { requirements = requirements }

  abbrev named : SectionNames
  named = record kept.names { requirements = names }

  beside_requirements : names ≡ requirement_names changed → AreLookUpsOf changed (record kept { names = named })
  unfolding groups_of
  beside_requirements names_are =
      record {
        names = record {
          cores = are.names.cores;
          stimuli = are.names.stimuli;
          tasks = are.names.tasks;
          chains = are.names.chains;
          requirements = names_are;
        };
        tasks = record { cores = are.tasks.cores; stimuli = are.tasks.stimuli; times = are.tasks.times; on_cores = are.tasks.on_cores };
        steps = are.steps;
        groups = are.groups;
      }

-- one more requirement
pub requirement_added : (old : Inside) → HasItsLookUps old → (requirement : RequirementDef) → IsValid (with_new_requirement old.model requirement)
    → (names : List (List ℕ)) → names ≡ names_with requirement.name old.look_ups.names.requirements
    → HasItsLookUps (record { model = with_new_requirement old.model requirement; look_ups = record old.look_ups { names = record old.look_ups.names { requirements = names } } })
requirement_added old has requirement valid names are =
    let model = old.model in
    let new = with_new_requirement model requirement in
    let joined : requirement_names new ≡ requirement_names model ++ requirement.name ∷ [] = map-append name_of model.requirements (requirement ∷ []) in
    record {
      valid = valid;
      look_ups =
          beside_requirements model new.requirements old.look_ups has.look_ups names
          (are ∙ ap (names_with requirement.name) has.look_ups.names.requirements
          ∙ last_is_added (requirement_names model) requirement.name (subst AreDistinctNames joined (requirements_apart new valid)) ∙ sym joined);
    }

-- one fewer
pub requirement_dropped : (old : Inside) → HasItsLookUps old → (r : ℕ) → IsValid (without_requirement old.model r)
    → (names : List (List ℕ)) → names ≡ remove old.look_ups.names.requirements r
    → HasItsLookUps (record { model = without_requirement old.model r; look_ups = record old.look_ups { names = record old.look_ups.names { requirements = names } } })
requirement_dropped old has r valid names are =
    let model = old.model in
    record {
      valid = valid;
      look_ups =
          beside_requirements model (without_requirement model r).requirements old.look_ups has.look_ups names
          (are ∙ ap (λ names. remove names r) has.look_ups.names.requirements ∙ sym (map-remove name_of model.requirements r));
    }
