-- Edits that are applied one after the other have an outcome, and two of them say the same where what comes of the model after all does.
use Rattle.std.proofs.Common.{◌≡◌, ◌⊎◌, ℕ, zero, suc, ◌<◌, inl, inr, List, [], ◌∷◌, length, take, Result, Ok, Err, refl, sym, ap, ◌∙◌, subst, arith}
use Rattle.std.specs.Prelude.{All}
use Rattle.std.proofs.lemmas.List.Elements.{All-head, All-tail}
use Rattle.cl_model.specs.{declared.{model.SystemModel.SystemModel, refusal.Refusal.Refusal}, AreNamed.AreNamed, Validity.IsValid}
use Rattle.cl_edit.specs.{declared.{edit.Edit.Edit, edit_lines.ListedEdit.ListedEdit, version.Version.Version}, Edited.{edited, after_from, after}, Reading.{IsLineEdit, edits_of, AreEditsOf, IsBadEditLine}}
use Rattle.cl_edit.proofs.{EditedValid.edited_valid, NamedEdits.edited_named, OneAnswer.{edits_unique, bad_lines_unique, never_both}, SomeAnswer.some_answer}
use Rattle.cl_engine.specs.declared.outcome.Outcome.{Outcome}
use Rattle.cl_top.specs.{OfEdits.{edit_at, line_at, AreAllApplied, IsOneRefused, IsOfList}, Inner.Applying.{OrRefused, ApplyTo}}

-- ---- the model after edits

after_refused : (refusal : Refusal) (edits : List Edit) → after_from (Err refusal) edits ≡ Err refusal
after_refused refusal [] = refl
after_refused refusal (edit ∷ edits) = after_refused refusal edits

-- what is made after one edit
after_one : (model changed : SystemModel) (edit : Edit) (edits : List Edit) → edited model edit ≡ Ok changed → after_from (Ok model) (edit ∷ edits) ≡ after_from (Ok changed) edits
after_one model changed edit edits is = ap (λ answer. after_from answer edits) is

no_model : (refusal : Refusal) (made : SystemModel) → Err refusal ≡ Ok made → ⊥
no_model refusal made is = absurd cc

-- the model that is answered, or this one
abbrev model_or : SystemModel → Result SystemModel Refusal → SystemModel
model_or other (Ok model) = model
model_or other (Err refusal) = other

abbrev refusal_or : Refusal → Result SystemModel Refusal → Refusal
refusal_or other (Ok model) = other
refusal_or other (Err refusal) = refusal

-- ---- one after the other, and all at once

module _ (all : SystemModel → Outcome → Type 0) (refused_in : (made : SystemModel) → (number : ℕ) → Edit → Refusal → Outcome) where
  abbrev AreApplied : SystemModel → List ListedEdit → Outcome → Type 0
  AreApplied model listed found = AreAllApplied all model (edits_of listed) found ⊎ IsOneRefused refused_in model listed found

  -- what these edits come to, one after the other
  abbrev Apply : SystemModel → List ListedEdit → Outcome → Type 0
  Apply model listed found = ApplyTo all refused_in model listed found

  -- an edit of this model is refused, or the others follow
  abbrev Next : SystemModel → ListedEdit → List ListedEdit → Outcome → Result SystemModel Refusal → Type 0
  Next model one others found answer = OrRefused refused_in model one answer (λ changed. Apply changed others found) found

  -- one edit more, which is made
  one_applied : (model changed : SystemModel) (one : ListedEdit) (others : List ListedEdit) (found : Outcome) → edited model one.edit ≡ Ok changed
      → AreApplied changed others found → AreApplied model (one ∷ others) found
  unfolding after
  one_applied model changed one others found is (inl all) =
      inl (record { made = all.made; applied = after_one model changed one.edit (edits_of others) is ∙ all.applied; outcome = all.outcome })
  one_applied model changed one others found is (inr refused) = inr (record {
    count = suc refused.count;
    one_more = omega (arith, refused.one_more);
    made = refused.made;
    applied = after_one model changed one.edit (take refused.count (edits_of others)) is ∙ refused.applied;
    refusal = refused.refusal;
    refused = refused.refused;
    printed = refused.printed;
  })

  pub from_each : (model : SystemModel) (listed : List ListedEdit) (found : Outcome) → Apply model listed found → AreApplied model listed found
  unfolding after
  from_each model [] found is = inl (record { made = model; applied = refl; outcome = is })
  from_each model (one ∷ others) found is = by_edit (λ changed. from_each changed others found) (edited model one.edit) refl is
    where
      by_edit : ((changed : SystemModel) → Apply changed others found → AreApplied changed others found)
          → (answer : Result SystemModel Refusal) → edited model one.edit ≡ answer → Next model one others found answer → AreApplied model (one ∷ others) found
      by_edit rest (Ok changed) same is = one_applied model changed one others found same (rest changed is)
      by_edit rest (Err refusal) same is = inr (record {
        count = 0;
        one_more = omega arith;
        made = model;
        applied = refl;
        refusal = refusal;
        refused = same;
        printed = is;
      })

  -- the edit at the place of a refusal is the one that isn't made, or it stands below it
  to_refused : (model : SystemModel) (one : ListedEdit) (others : List ListedEdit) (found : Outcome) → (answer : Result SystemModel Refusal) → edited model one.edit ≡ answer
      → ((changed : SystemModel) → AreApplied changed others found → Apply changed others found)
      → (count : ℕ) → count < length (one ∷ others) → (made : SystemModel) → after_from (Ok model) (take count (edits_of (one ∷ others))) ≡ Ok made
      → (refusal : Refusal) → edited made (edit_at (one ∷ others) count) ≡ Err refusal
      → found ≡ refused_in made (line_at (one ∷ others) count) (edit_at (one ∷ others) count) refusal
      → Next model one others found answer
  unfolding after
  to_refused model one others found (Ok changed) same rest zero within made applied refusal refused printed =
      let is : made ≡ model = sym (ap (model_or model) applied) in
      absurd (no_model refusal changed (sym refused ∙ ap (λ m. edited m one.edit) is ∙ same))
  to_refused model one others found (Ok changed) same rest (suc count) within made applied refusal refused printed = rest changed (inr (record {
    count = count;
    one_more = omega (arith, within);
    made = made;
    applied = sym (after_one model changed one.edit (take count (edits_of others)) same) ∙ applied;
    refusal = refusal;
    refused = refused;
    printed = printed;
  }))
  to_refused model one others found (Err other) same rest zero within made applied refusal refused printed =
      let is : made ≡ model = sym (ap (model_or model) applied) in
      let equal : refusal ≡ other = ap (refusal_or refusal) (sym refused ∙ ap (λ m. edited m one.edit) is ∙ same) in
      printed ∙ ap (λ m. refused_in m one.line one.edit refusal) is ∙ ap (refused_in model one.line one.edit) equal
  to_refused model one others found (Err other) same rest (suc count) within made applied refusal refused printed =
      let edits : List Edit = take count (edits_of others) in
      absurd (no_model other made (sym (ap (λ answer. after_from answer edits) same ∙ after_refused other edits) ∙ applied))

  to_each : (model : SystemModel) (listed : List ListedEdit) (found : Outcome) → AreApplied model listed found → Apply model listed found
  unfolding after
  to_each model [] found (inl whole) = subst (λ made. all made found) (sym (ap (model_or model) whole.applied)) whole.outcome
  to_each model [] found (inr refused) = absurd (omega (arith, refused.one_more))
  to_each model (one ∷ others) found (inl whole) = by_edit (λ changed h. to_each changed others found (inl h)) (edited model one.edit) refl
    where
      by_edit : ((changed : SystemModel) → AreAllApplied all changed (edits_of others) found → Apply changed others found)
          → (answer : Result SystemModel Refusal) → edited model one.edit ≡ answer → Next model one others found answer
      by_edit rest (Ok changed) same =
          rest changed (record { made = whole.made; applied = sym (after_one model changed one.edit (edits_of others) same) ∙ whole.applied; outcome = whole.outcome })
      by_edit rest (Err refusal) same =
          absurd (no_model refusal whole.made (sym (ap (λ answer. after_from answer (edits_of others)) same ∙ after_refused refusal (edits_of others)) ∙ whole.applied))
  to_each model (one ∷ others) found (inr refused) =
      to_refused model one others found (edited model one.edit) refl (λ changed h. to_each changed others found h)
      refused.count refused.one_more refused.made refused.applied refused.refusal refused.refused refused.printed

  -- ---- there is an outcome

  module _ (some : (made : SystemModel) → IsValid made → AreNamed made → (found : Outcome) × all made found) (version : Version) where
    some_each : (model : SystemModel) → IsValid model → AreNamed model → (listed : List ListedEdit) → All (IsLineEdit version) (edits_of listed)
        → (found : Outcome) × Apply model listed found
    some_each model valid named [] lines = some model valid named
    some_each model valid named (one ∷ others) lines =
        by_edit (λ changed is_valid is_named. some_each changed is_valid is_named others (All-tail (IsLineEdit version) one.edit (edits_of others) lines)) (edited model one.edit) refl
      where
        line : IsLineEdit version one.edit
        line = All-head (IsLineEdit version) one.edit (edits_of others) lines

        by_edit : ((changed : SystemModel) → IsValid changed → AreNamed changed → (found : Outcome) × Apply changed others found)
            → (answer : Result SystemModel Refusal) → edited model one.edit ≡ answer
            → (found : Outcome) × Next model one others found answer
        by_edit rest (Ok changed) same = rest changed (edited_valid model one.edit changed valid line.in_range same) (edited_named model one.edit changed named line.named same)
        by_edit rest (Err refusal) same = (refused_in model one.line one.edit refusal, refl)

  module _ (bad_line : (number : ℕ) → Outcome) where
    pub some_applied : ((made : SystemModel) → IsValid made → AreNamed made → (found : Outcome) × all made found)
        → (model : SystemModel) → IsValid model → AreNamed model → (text : List ℕ) → (found : Outcome) × IsOfList all refused_in bad_line model text found
    some_applied some model valid named text = by_answer (some_answer text)
      where
        by_answer : ((listed : List ListedEdit) × AreEditsOf text listed) ⊎ ((number : ℕ) × IsBadEditLine text number) → (found : Outcome) × IsOfList all refused_in bad_line model text found
        by_answer (inl are) =
            let come = some_each some are.1.version model valid named are.0 are.1.may.lines in
            (come.0, inl (record { listed = are.0; are = are.1; applied_to = from_each model are.0 come.0 come.1 }))
        by_answer (inr bad) = (bad_line bad.0, inr (record { number = bad.0; bad = bad.1; printed = refl }))

    -- ---- two outcomes say the same

    module _ (same : (one other : Outcome) → Type 0) (all_same : (made : SystemModel) (one other : Outcome) → all made one → all made other → same one other)
        (equally : (one other : Outcome) → one ≡ other → same one other) where
      same_each : (model : SystemModel) (listed : List ListedEdit) (one other : Outcome) → Apply model listed one → Apply model listed other → same one other
      same_each model [] one other h k = all_same model one other h k
      same_each model (first ∷ others) one other h k = by_edit (λ changed. same_each changed others one other) (edited model first.edit) h k
        where
          by_edit : ((changed : SystemModel) → Apply changed others one → Apply changed others other → same one other)
              → (answer : Result SystemModel Refusal) → Next model first others one answer → Next model first others other answer → same one other
          by_edit rest (Ok changed) h k = rest changed h k
          by_edit rest (Err refusal) h k = equally one other (h ∙ sym k)

      pub applied_alike : (model : SystemModel) → IsValid model → AreNamed model → (text : List ℕ) (one other : Outcome)
          → IsOfList all refused_in bad_line model text one → IsOfList all refused_in bad_line model text other → same one other
      applied_alike model valid named text one other (inl first) (inl second) =
          same_each model second.listed one other
          (to_each model second.listed one (subst (λ listed. AreApplied model listed one) (edits_unique text first.listed second.listed first.are second.are) first.applied_to))
          (to_each model second.listed other second.applied_to)
      applied_alike model valid named text one other (inl first) (inr second) = absurd (never_both text first.listed second.number first.are second.bad)
      applied_alike model valid named text one other (inr first) (inl second) = absurd (never_both text second.listed first.number second.are first.bad)
      applied_alike model valid named text one other (inr first) (inr second) =
          equally one other (first.printed ∙ ap bad_line (bad_lines_unique text first.number second.number first.bad second.bad) ∙ sym second.printed)
