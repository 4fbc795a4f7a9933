-- Edits that are read one at a time and made: what those so far have come to, and what is left.
use Rattle.std.proofs.Common.{◌≡◌, ℕ, suc, ◌<◌, List, [], ◌∷◌, length, drop, Some, None, Err, refl, ap, ◌∙◌, subst, arith}
use Rattle.std.specs.Prelude.{All}
use Rattle.cl_model.specs.declared.{model.SystemModel.SystemModel, refusal.Refusal.Refusal}
use Rattle.cl_edit.specs.{declared.{edit.Edit.TheVariants.Report, edit_lines.ListedEdit.ListedEdit}, Edited.edited, Listed.GivesNext, Ranges.IsEditInRange, Reading.edits_of}
use Rattle.cl_engine.specs.declared.status.TheConstants.{DONE}
use Rattle.cl_top.specs.{Commands.Edit.{edits_refused, behind, AreEditedTo}, Inner.Edits.{IsMade, HasAsked}, Steps.AskForChanges}
use Rattle.cl_top.proofs.EditSteps as steps_of
use Rattle.cl_top.proofs.EditSteps.{AreEditedSoFar, none_so_far, begins_here}

-- the edits above this place are made, and come to this, and the others are left
pub record AreMadeSoFar (all : List ListedEdit) (first : SystemModel) (before : ℕ) (model : SystemModel) (text : List ℕ) (steps : ℕ) (left : List ListedEdit) : Type 0 where
  pub place : ℕ
  pub left_is : drop place all ≡ left
  pub so_far : AreEditedSoFar all first before place model text steps

pub none_made : (all : List ListedEdit) (model : SystemModel) (text : List ℕ) (steps : ℕ) → text ≡ [] → AreMadeSoFar all model steps model text steps all
none_made all model text steps empty = record { place = 0; left_is = refl; so_far = none_so_far all model text steps empty }

-- fewer are left behind the next one
pub next_fewer : (one : ListedEdit) (left others : List ListedEdit) → GivesNext (Some one) left others → length others < length left
next_fewer one left others next =
    let is : left ≡ one ∷ others = next in
    omega (arith, ap length is)

module _ (all : List ListedEdit) (first : SystemModel) (before : ℕ) (model : SystemModel) (text : List ℕ) (steps : ℕ) (left : List ListedEdit)
    (made : AreMadeSoFar all first before model text steps left) where
  module _ (one : ListedEdit) (others : List ListedEdit) (next : GivesNext (Some one) left others) where
    here : drop made.place all ≡ one ∷ others
    here = made.left_is ∙ next

    -- the next edit is in range, where all are
    pub next_in_range : All IsEditInRange (edits_of all) → IsEditInRange one.edit
    next_in_range in_range =
        let begins = steps_of.begins all first before made.place model text steps made.so_far one others here in
        subst IsEditInRange begins.here (in_range made.place Report begins.within)

    -- it is made
    pub next_made : (new : SystemModel) (after : List ℕ) (steps_after : ℕ) → IsMade model one.edit new text after
        → HasAsked one.edit model (edited model one.edit) steps steps_after → AreMadeSoFar all first before new after steps_after others
    next_made new after steps_after is_made asked = record {
      place = suc made.place;
      left_is = (begins_here all made.place one others one here).rest;
      so_far = steps_of.one_more all first before made.place model text steps made.so_far one others here new after steps_after is_made asked;
    }

    -- it is refused
    pub next_refused : (refusal : Refusal) → edited model one.edit ≡ Err refusal → AreEditedTo first all (behind text (edits_refused one.line refusal))
    next_refused refusal is = steps_of.one_refused all first before made.place model text steps made.so_far one others here refusal is

    pub next_asked : (end : ℕ) → HasAsked one.edit model (edited model one.edit) steps end → AskForChanges (edits_of all) first before end
    next_asked end asked = steps_of.asked_here all first before made.place model text steps made.so_far one others here end asked

  -- no edit is left
  pub none_left : (after : List ListedEdit) → GivesNext None left after → AreEditedTo first all (record { status = DONE; text = text })
  none_left after next = steps_of.all_made all first before made.place model text steps made.so_far (made.left_is ∙ next)

  -- whatever is left, nothing more is asked
  pub no_more_asked : AskForChanges (edits_of all) first before steps
  no_more_asked = steps_of.no_more_asked all first before made.place model text steps made.so_far
