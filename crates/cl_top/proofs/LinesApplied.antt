-- Edits that are read one at a time and applied: what those that are left come to.
use Rattle.std.proofs.Common.{◌≡◌, ℕ, List, ◌∷◌, Some, None, Result, Ok, Err, refl, sym, subst}
use Rattle.std.specs.Prelude.{All}
use Rattle.std.proofs.lemmas.List.Elements.{All-head, All-tail}
use Rattle.cl_model.specs.declared.{model.SystemModel.SystemModel, refusal.Refusal.Refusal}
use Rattle.cl_edit.specs.{declared.{edit.Edit.Edit, edit_lines.ListedEdit.ListedEdit}, Edited.edited, Listed.GivesNext, Ranges.IsEditInRange, Reading.edits_of}
use Rattle.cl_engine.specs.declared.outcome.Outcome.{Outcome}
use Rattle.cl_top.specs.Inner.Applying.{OrRefused, ApplyTo}

module _ (whole : SystemModel → Outcome → Type 0) (refused_in : (made : SystemModel) → (number : ℕ) → Edit → Refusal → Outcome) where
  -- the edits that are left are in range, and what they come to is what all come to
  pub record AreLeftToApply (first : SystemModel) (all : List ListedEdit) (model : SystemModel) (left : List ListedEdit) : Type 0 where
    pub in_range : All IsEditInRange (edits_of left)
    pub come : (found : Outcome) → ApplyTo whole refused_in model left found → ApplyTo whole refused_in first all found

  pub all_left : (model : SystemModel) (all : List ListedEdit) → All IsEditInRange (edits_of all) → AreLeftToApply model all model all
  all_left model all in_range = record { in_range = in_range; come = λ found is. is }

  module _ (first : SystemModel) (all : List ListedEdit) (model : SystemModel) (left : List ListedEdit) (more : AreLeftToApply first all model left) where
    module _ (one : ListedEdit) (others : List ListedEdit) (next : GivesNext (Some one) left others) where
      all_in_range : All IsEditInRange (edits_of (one ∷ others))
      all_in_range = subst (λ (it : List ListedEdit). All IsEditInRange (edits_of it)) next more.in_range

      pub next_in_range : IsEditInRange one.edit
      next_in_range = All-head IsEditInRange one.edit (edits_of others) all_in_range

      -- by what the next edit makes of the model
      by_next : (made : Result SystemModel Refusal) → edited model one.edit ≡ made → (found : Outcome)
          → OrRefused refused_in model one made (λ changed. ApplyTo whole refused_in changed others found) found → ApplyTo whole refused_in first all found
      by_next made is found come = more.come found (subst (λ (it : List ListedEdit). ApplyTo whole refused_in model it found) (sym next)
          (subst (λ m. OrRefused refused_in model one m (λ changed. ApplyTo whole refused_in changed others found) found) (sym is) come))

      pub next_applied : (changed : SystemModel) → edited model one.edit ≡ Ok changed → AreLeftToApply first all changed others
      next_applied changed is = record {
        in_range = All-tail IsEditInRange one.edit (edits_of others) all_in_range;
        come = λ found come. by_next (Ok changed) is found come;
      }

      pub next_refused : (refusal : Refusal) → edited model one.edit ≡ Err refusal → ApplyTo whole refused_in first all (refused_in model one.line one.edit refusal)
      next_refused refusal is = by_next (Err refusal) is (refused_in model one.line one.edit refusal) refl

    pub none_left : (after : List ListedEdit) → GivesNext None left after → (found : Outcome) → whole model found → ApplyTo whole refused_in first all found
    none_left after next found is = more.come found (subst (λ (it : List ListedEdit). ApplyTo whole refused_in model it found) (sym next) is)
