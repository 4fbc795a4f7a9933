-- The text of a list of edits has an outcome, and but one where no edit asks what is decided.
use Rattle.std.proofs.Common.{◌≡◌, ◌⊎◌, ℕ, zero, suc, ◌+◌, ◌<◌, inl, inr, Bool, true, false, List, [], ◌∷◌, ◌++◌, length, take, get_or, Result, Ok, Err, refl, sym, ap, ◌∙◌, subst, arith}
use Rattle.std.specs.Prelude.{All}
use Rattle.std.specs.List.{concat, list_any}
use Rattle.std.proofs.Math.ListN.{length-map}
use Rattle.std.proofs.lemmas.Bool.{cases_lt}
use Rattle.std.proofs.lemmas.List.Folds.{list_any_at}
use Rattle.cl_model.specs.{declared.{model.SystemModel.SystemModel, refusal.{Code.TheVariants.E1, Refusal.Refusal}}, AreNamed.AreNamed, Place.top, Validity.IsValid}
use Rattle.cl_edit.specs.{declared.{edit.Edit.{Edit, TheVariants.Report}, edit_lines.ListedEdit.ListedEdit}, Edited.{edited, after}, Ranges.IsEditInRange, Reading.{edits_of, AreEditsOf, IsBadEditLine}}
use Rattle.cl_edit.proofs.{EditedValid.edited_valid, OneAnswer.{edits_unique, bad_lines_unique, never_both}, SomeAnswer.some_answer}
use Rattle.cl_engine.specs.declared.{outcome.Outcome.Outcome, status.TheConstants.DONE}
use Rattle.cl_top.specs.{OfEdits.{edit_at, line_at}, Commands.Edit.{edits_refused, behind, IsWrittenBy, AreAccepted, EndsDone, EndsRefused, AreEditedTo, IsOfEdits, is_verify, EditTheSame}}
use Rattle.cl_top.proofs.{Accepted.{none_accepted, one_more_accepted, never_accepted, made_once, pieces_once}, EditPieces.valid_after, Written.{some_written, one_written}}

edit_count : (listed : List ListedEdit) → length (edits_of listed) ≡ length listed
edit_count listed = length-map listed (λ (it : ListedEdit). it.edit)

-- ---- what edits come to

-- edits that are in range, of a valid model, are accepted one by one, up to the first that is refused
module _ (model : SystemModel) (valid : IsValid model) (listed : List ListedEdit) (all : All IsEditInRange (edits_of listed)) where
  abbrev SomeEnd : Type 0
  SomeEnd = (found : Outcome) × AreEditedTo model listed found

  next_edit : (left count : ℕ) (pieces : List (List ℕ)) (made : SystemModel) → IsValid made → AreAccepted model (edits_of listed) count pieces made
      → count + left ≡ length listed → SomeEnd
  next_edit zero count pieces made is_valid are left_is = (
    record { status = DONE; text = concat pieces },
    record { count = count; pieces = pieces; made = made; are = are; ends = inl (record { all = omega (arith, left_is); printed = refl }) },
  )
  next_edit (suc left) count pieces made is_valid are left_is = by_edit
      (λ more changed changed_valid kept. next_edit left (suc count) more changed changed_valid kept (omega (arith, left_is)))
      (edited made (edit_at listed count)) refl
    where
      within : count < length listed
      within = omega (arith, left_is)

      within_edits : count < length (edits_of listed)
      within_edits = omega (arith, within, edit_count listed)

      by_edit : ((more : List (List ℕ)) (changed : SystemModel) → IsValid changed → AreAccepted model (edits_of listed) (suc count) more changed → SomeEnd)
          → (answer : Result SystemModel Refusal) → edited made (edit_at listed count) ≡ answer → SomeEnd
      by_edit next (Err refusal) is = (
        behind (concat pieces) (edits_refused (line_at listed count) refusal),
        record {
          count = count;
          pieces = pieces;
          made = made;
          are = are;
          ends = inr (record { one_more = within; refusal = refusal; refused = is; printed = refl });
        },
      )
      by_edit next (Ok changed) is =
          let written = some_written made is_valid (edit_at listed count) in
          next (pieces ++ written.0 ∷ []) changed (edited_valid made (edit_at listed count) changed is_valid (all count Report within_edits) is)
          (one_more_accepted model (edits_of listed) count pieces made within_edits are changed is written.0 written.1)

  pub some_edited : SomeEnd
  some_edited = next_edit (length listed) 0 [] model valid (none_accepted model (edits_of listed)) (omega arith)

-- a refusal that is answered is one
abbrev refusal_or : Refusal → Result SystemModel Refusal → Refusal
refusal_or other (Ok model) = other
refusal_or other (Err refusal) = refusal

one_refusal : (answer : Result SystemModel Refusal) (one other : Refusal) → answer ≡ Err one → answer ≡ Err other → one ≡ other
one_refusal answer one other is also = ap (refusal_or one) (sym is ∙ also)

-- no edit asks what is decided, where none of them does
none_asks : (edits : List Edit) → list_any is_verify edits ≡ false → (place : ℕ) → place < length edits → is_verify (get_or edits place Report) ≡ false
none_asks edits none place within = by_test (is_verify (get_or edits place Report)) refl
  where
    by_test : (test : Bool) → is_verify (get_or edits place Report) ≡ test → is_verify (get_or edits place Report) ≡ false
    by_test true is = let some : list_any is_verify edits ≡ true = list_any_at is_verify edits place Report within is in absurd cc
    by_test false is = is

-- what edits come to is one
module _ (model : SystemModel) (valid : IsValid model) (listed : List ListedEdit) (all : All IsEditInRange (edits_of listed)) (none : list_any is_verify (edits_of listed) ≡ false) where
  -- of two numbers of accepted edits, none is less
  not_less : (one other : Outcome) (first : AreEditedTo model listed one) (second : AreEditedTo model listed other) → first.count < second.count → ⊥
  not_less one other first second less = elim first.ends [
    | inl done ↦ omega (arith, done.all, less, second.are.within, edit_count listed)
    | inr refused ↦ never_accepted model (edits_of listed) first.count first.pieces first.made first.are refused.refusal refused.refused
        (omega (arith, refused.one_more, edit_count listed)) second.count less second.pieces second.made second.are
  ]

  counts_same : (one other : Outcome) (first : AreEditedTo model listed one) (second : AreEditedTo model listed other) → first.count ≡ second.count
  counts_same one other first second = elim (cases_lt first.count second.count) [
    | inl less ↦ absurd (not_less one other first second less)
    | inr most ↦ elim (cases_lt second.count first.count) [
      | inl less ↦ absurd (not_less other one second first less)
      | inr least ↦ omega (arith, most, least)
    ]
  ]

  -- of one number of accepted edits there is one end
  module _ (count : ℕ) (text : List ℕ) (made : SystemModel) (one other : Outcome) where
    end_once : EndsDone listed count text one ⊎ EndsRefused made listed count text one → EndsDone listed count text other ⊎ EndsRefused made listed count text other → one ≡ other
    end_once (inl done) (inl also) = done.printed ∙ sym also.printed
    end_once (inl done) (inr refused) = absurd (omega (arith, done.all, refused.one_more))
    end_once (inr refused) (inl done) = absurd (omega (arith, done.all, refused.one_more))
    end_once (inr refused) (inr also) =
        let same : refused.refusal ≡ also.refusal = one_refusal (edited made (edit_at listed count)) refused.refusal also.refusal refused.refused also.refused in
        refused.printed ∙ ap (λ refusal. behind text (edits_refused (line_at listed count) refusal)) same ∙ sym also.printed

  once_accepted : (one other : Outcome) (first : AreEditedTo model listed one) (count : ℕ) (pieces : List (List ℕ)) (made : SystemModel)
      → first.count ≡ count → AreAccepted model (edits_of listed) count pieces made
      → EndsDone listed count (concat pieces) other ⊎ EndsRefused made listed count (concat pieces) other → one ≡ other
  once_accepted one other first count pieces made same also ends =
      let are = subst (λ k. AreAccepted model (edits_of listed) k first.pieces first.made) same first.are in
      let own = subst (λ k. EndsDone listed k (concat first.pieces) one ⊎ EndsRefused first.made listed k (concat first.pieces) one) same first.ends in
      let moved = subst (λ m. EndsDone listed count (concat first.pieces) one ⊎ EndsRefused m listed count (concat first.pieces) one)
      (made_once model (edits_of listed) count first.pieces pieces first.made made are also each_written) own in
      end_once count (concat pieces) made one other
      (subst (λ (ps : List (List ℕ)). EndsDone listed count (concat ps) one ⊎ EndsRefused made listed count (concat ps) one)
      (pieces_once model (edits_of listed) count first.pieces pieces first.made made are also each_written) moved) ends
    where
      -- each edit writes but one text
      each_written : (place : ℕ) → place < count → (found : SystemModel) → after model (take place (edits_of listed)) ≡ Ok found → (text text_too : List ℕ)
          → IsWrittenBy found (edit_at listed place) text → IsWrittenBy found (edit_at listed place) text_too → text ≡ text_too
      each_written place below found so_far =
          one_written found (valid_after (edits_of listed) place model found valid all so_far) (edit_at listed place)
          (none_asks (edits_of listed) none place (omega (arith, below, also.within)))

  pub once_edited : (one other : Outcome) → AreEditedTo model listed one → AreEditedTo model listed other → one ≡ other
  once_edited one other first second =
      once_accepted one other first second.count second.pieces second.made (counts_same one other first second) second.are second.ends

-- ---- what a text comes to

pub listed_in_range : (text : List ℕ) (listed : List ListedEdit) → AreEditsOf text listed → All IsEditInRange (edits_of listed)
listed_in_range text listed are = λ k d within. (are.may.lines k d within).in_range

pub some_edits : (model : SystemModel) → IsValid model → AreNamed model → (text : List ℕ) → (found : Outcome) × IsOfEdits model text found
some_edits model valid named text = by_answer (some_answer text)
  where
    by_answer : ((listed : List ListedEdit) × AreEditsOf text listed) ⊎ ((number : ℕ) × IsBadEditLine text number) → (found : Outcome) × IsOfEdits model text found
    by_answer (inl some) =
        let come = some_edited model valid some.0 (listed_in_range text some.0 some.1) in
        (come.0, inl (record { listed = some.0; are = some.1; edited_to = come.1 }))
    by_answer (inr bad) = (edits_refused bad.0 (record { code = E1; place = top }), inr (record { number = bad.0; bad = bad.1; printed = refl }))

pub edited_alike : (model : SystemModel) → IsValid model → AreNamed model → (text : List ℕ) (one other : Outcome) → IsOfEdits model text one → IsOfEdits model text other → EditTheSame one other
edited_alike model valid named text one other (inl first) (inl second) = by_test (list_any is_verify (edits_of second.listed)) refl
  where
    of_second : AreEditedTo model second.listed one
    of_second = subst (λ listed. AreEditedTo model listed one) (edits_unique text first.listed second.listed first.are second.are) first.edited_to

    by_test : (test : Bool) → list_any is_verify (edits_of second.listed) ≡ test → EditTheSame one other
    by_test true is = inr (record { model = model; listed = second.listed; asks = is; first = of_second; second = second.edited_to })
    by_test false is = inl (once_edited model valid second.listed (listed_in_range text second.listed second.are) is one other of_second second.edited_to)
edited_alike model valid named text one other (inl first) (inr second) = absurd (never_both text first.listed second.number first.are second.bad)
edited_alike model valid named text one other (inr first) (inl second) = absurd (never_both text second.listed first.number second.are first.bad)
edited_alike model valid named text one other (inr first) (inr second) =
    inl (first.printed ∙ ap (λ number. edits_refused number (record { code = E1; place = top })) (bad_lines_unique text first.number second.number first.bad second.bad) ∙ sym second.printed)
