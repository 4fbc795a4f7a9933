-- What the edits of a list have written of a model as it is edited so far: what is safe, and what commands write.
use Rattle.std.proofs.Common.{◌≡◌, ℕ, zero, suc, ◌<◌, List, [], ◌∷◌, take, get_or, Result, Ok, Err, refl, ap, subst, arith}
use Rattle.std.specs.Prelude.{All}
use Rattle.cl_model.specs.{declared.{model.SystemModel.SystemModel, refusal.Refusal.Refusal}, Validity.IsValid}
use Rattle.cl_edit.specs.{declared.edit.Edit.{Edit, TheVariants.Report}, Edited.{edited, after_from, after}, Ranges.IsEditInRange}
use Rattle.cl_edit.proofs.EditedValid.{edited_valid}
use Rattle.cl_top.specs.{Commands.Edit.{AreAccepted, IsSafePiece}, Reported.IsPieceOfCommand}
use Rattle.cl_top.proofs.{Accepted.model_or, Written.{safely_written, written_as_by}}

-- ---- the model after edits

-- no edit makes a model of what is refused
refused_stays : (refusal : Refusal) (edits : List Edit) → after_from (Err refusal) edits ≡ Err refusal
refused_stays refusal [] = refl
refused_stays refusal (edit ∷ edits) = refused_stays refusal edits

-- it is valid, where the edits are in range and the first model is valid
valid_from : (edits : List Edit) (place : ℕ) (model found : SystemModel) → IsValid model → All IsEditInRange edits
    → after_from (Ok model) (take place edits) ≡ Ok found → IsValid found
valid_from [] zero model found valid all is = subst IsValid (ap (model_or model) is) valid
valid_from [] (suc place) model found valid all is = subst IsValid (ap (model_or model) is) valid
valid_from (edit ∷ edits) zero model found valid all is = subst IsValid (ap (model_or model) is) valid
valid_from (edit ∷ edits) (suc place) model found valid all is = by_edit
    (λ next next_valid follows. valid_from edits place next found next_valid (λ k d fits. all (suc k) d (omega (arith, fits))) follows)
    (edited model edit) refl is
  where
    by_edit : ((next : SystemModel) → IsValid next → after_from (Ok next) (take place edits) ≡ Ok found → IsValid found)
        → (made : Result SystemModel Refusal) → edited model edit ≡ made → after_from made (take place edits) ≡ Ok found → IsValid found
    by_edit later (Err refusal) made is = let stays : after_from (Err refusal) (take place edits) ≡ Err refusal = refused_stays refusal (take place edits) in absurd cc
    by_edit later (Ok next) made is = later next (edited_valid model edit next valid (all 0 edit (omega arith)) made) is

pub valid_after : (edits : List Edit) (place : ℕ) (model found : SystemModel) → IsValid model → All IsEditInRange edits
    → after model (take place edits) ≡ Ok found → IsValid found
unfolding after
valid_after edits place model found valid all is = valid_from edits place model found valid all is

-- ---- the laws

module _ (model made : SystemModel) (edits : List Edit) (count : ℕ) (pieces : List (List ℕ)) (valid : IsValid model) (all : All IsEditInRange edits)
    (are : AreAccepted model edits count pieces made) (place : ℕ) (below : place < count) where
  -- the model that is found there is valid
  found_valid : IsValid (are.written place below).found
  found_valid = valid_after edits place model (are.written place below).found valid all (are.written place below).so_far

  pub safe_pieces : IsSafePiece model edits place (get_or pieces place [])
  safe_pieces =
      let written = are.written place below in
      record {
        found = written.found;
        so_far = written.so_far;
        safe = safely_written written.found found_valid (get_or edits place Report) (get_or pieces place []) written.writes;
      }

  pub pieces_of_commands : IsPieceOfCommand model edits place (get_or pieces place [])
  pieces_of_commands =
      let written = are.written place below in
      record {
        changed = written.found;
        so_far = written.so_far;
        written = written_as_by written.found found_valid (get_or edits place Report) (get_or pieces place []) written.writes;
      }
