-- Edits that are accepted, one after the other.
use Rattle.std.proofs.Common.{◌≡◌, ℕ, suc, ◌<◌, ◌≤◌, inl, inr, List, [], ◌∷◌, ◌++◌, length, take, get_or, Result, Ok, Err, refl, sym, ap, ◌∙◌, subst, arith, length-append}
use Rattle.std.proofs.Math.ListN.{get_or-append}
use Rattle.std.proofs.Math.Seq.{take-suc, get_or-append_seam}
use Rattle.std.proofs.lemmas.Bool.{cases_lt}
use Rattle.std.proofs.lemmas.List.{ext_get_or}
use Rattle.cl_model.specs.declared.{model.SystemModel.SystemModel, refusal.Refusal.Refusal}
use Rattle.cl_edit.specs.{declared.edit.Edit.{Edit, TheVariants.Report}, Edited.{edited, then_edited, after_from, after}}
use Rattle.cl_top.specs.Commands.Edit.{IsWrittenBy, HasWrittenPiece, AreAccepted}

-- ---- the model after edits

after_append : (answer : Result SystemModel Refusal) (xs ys : List Edit) → after_from answer (xs ++ ys) ≡ after_from (after_from answer xs) ys
after_append answer [] ys = refl
after_append answer (x ∷ xs) ys = after_append (then_edited answer x) xs ys

after_more : (model : SystemModel) (edits : List Edit) (count : ℕ) (made : SystemModel) → count < length edits → after model (take count edits) ≡ Ok made
    → after model (take (suc count) edits) ≡ edited made (get_or edits count Report)
unfolding after
after_more model edits count made within so_far =
    ap (after_from (Ok model)) (take-suc edits count Report within)
    ∙ after_append (Ok model) (take count edits) (get_or edits count Report ∷ [])
    ∙ ap (λ answer. after_from answer (get_or edits count Report ∷ [])) so_far

take_none : (edits : List Edit) → take 0 edits ≡ []
take_none [] = refl
take_none (edit ∷ edits) = refl

after_none : (model : SystemModel) (edits : List Edit) → after model (take 0 edits) ≡ Ok model
unfolding after
after_none model edits = ap (after_from (Ok model)) (take_none edits)

-- the model that is answered, or this one
abbrev pub model_or : SystemModel → Result SystemModel Refusal → SystemModel
model_or other (Ok model) = model
model_or other (Err refusal) = other

pub one_model : (answer : Result SystemModel Refusal) (one other : SystemModel) → answer ≡ Ok one → answer ≡ Ok other → one ≡ other
one_model answer one other is also = ap (model_or one) (sym is ∙ also)

-- ---- what is accepted

pub none_accepted : (model : SystemModel) (edits : List Edit) → AreAccepted model edits 0 [] model
none_accepted model edits = record {
  within = omega arith;
  accepted = after_none model edits;
  one_each = refl;
  written = λ place below. absurd (omega (arith, below));
}

module _ (model : SystemModel) (edits : List Edit) (count : ℕ) (pieces : List (List ℕ)) (made : SystemModel) where
  -- one more is accepted
  pub one_more_accepted : count < length edits → AreAccepted model edits count pieces made → (changed : SystemModel) → edited made (get_or edits count Report) ≡ Ok changed
      → (piece : List ℕ) → IsWrittenBy made (get_or edits count Report) piece → AreAccepted model edits (suc count) (pieces ++ piece ∷ []) changed
  one_more_accepted within are changed is piece writes = record {
    within = omega (arith, within);
    accepted = after_more model edits count made within are.accepted ∙ is;
    one_each = omega (arith, length-append pieces (piece ∷ []), are.one_each);
    written = λ place below. elim (cases_lt place count) [
      | inl less ↦ subst (λ (p : List ℕ). HasWrittenPiece model edits place p) (sym (get_or-append pieces (piece ∷ []) [] place (omega (arith, less, are.one_each)))) (are.written place less)
      | inr most ↦ last place (omega (arith, below, most))
    ];
  }
    where
      last_piece : get_or (pieces ++ piece ∷ []) count [] ≡ piece
      last_piece = ap (λ k. get_or (pieces ++ piece ∷ []) k []) (sym are.one_each) ∙ get_or-append_seam pieces piece [] []

      here : HasWrittenPiece model edits count (get_or (pieces ++ piece ∷ []) count [])
      here = subst (λ (p : List ℕ). HasWrittenPiece model edits count p) (sym last_piece) (record { found = made; so_far = are.accepted; writes = writes })

      last : (place : ℕ) → place ≡ count → HasWrittenPiece model edits place (get_or (pieces ++ piece ∷ []) place [])
      last place same = subst (λ k. HasWrittenPiece model edits k (get_or (pieces ++ piece ∷ []) k [])) (sym same) here

  module _ (are : AreAccepted model edits count pieces made) where
    -- where the next is refused, no more are accepted
    pub never_accepted : (refusal : Refusal) → edited made (get_or edits count Report) ≡ Err refusal → count < length edits
        → (more : ℕ) → count < more → (others : List (List ℕ)) (later : SystemModel) → AreAccepted model edits more others later → ⊥
    never_accepted refusal refused within more less others later also = ends_differ (found_after (suc count) (omega (arith, less)))
      where
        found_after : (place : ℕ) → place ≤ more → (found : SystemModel) × (after model (take place edits) ≡ Ok found)
        found_after place below = elim (cases_lt place more) [
          | inl fewer ↦ let written = also.written place fewer in (written.found, written.so_far)
          | inr most ↦ let same : more ≡ place = omega (arith, below, most) in (later, subst (λ k. after model (take k edits) ≡ Ok later) same also.accepted)
        ]

        ends_differ : (found : SystemModel) × (after model (take (suc count) edits) ≡ Ok found) → ⊥
        ends_differ (found, is) =
            let end : Err refusal ≡ Ok found = sym (after_more model edits count made within are.accepted ∙ refused) ∙ is in
            absurd cc

-- what is accepted of some edits is one model, and one list of pieces where each edit writes but one
module _ (model : SystemModel) (edits : List Edit) (count : ℕ) (pieces others : List (List ℕ)) (made remade : SystemModel)
    (are : AreAccepted model edits count pieces made) (also : AreAccepted model edits count others remade)
    (one_written : (place : ℕ) → place < count → (found : SystemModel) → after model (take place edits) ≡ Ok found → (one other : List ℕ)
    → IsWrittenBy found (get_or edits place Report) one → IsWrittenBy found (get_or edits place Report) other → one ≡ other) where
  pub made_once : made ≡ remade
  made_once = one_model (after model (take count edits)) made remade are.accepted also.accepted

  piece_once : (place : ℕ) → place < count → get_or pieces place [] ≡ get_or others place []
  piece_once place below =
      let first = are.written place below in
      let second = also.written place below in
      let same = one_model (after model (take place edits)) second.found first.found second.so_far first.so_far in
      one_written place below first.found first.so_far (get_or pieces place []) (get_or others place []) first.writes
      (subst (λ found. IsWrittenBy found (get_or edits place Report) (get_or others place [])) same second.writes)

  pub pieces_once : pieces ≡ others
  pieces_once = ext_get_or [] pieces others (are.one_each ∙ sym also.one_each) (λ place below. piece_once place (omega (arith, below, are.one_each)))
