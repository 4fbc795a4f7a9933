-- `edit`: what is found of a model as it is edited.
use Rattle.std.proofs.Common.{◌≡◌, ℕ, inl, inr, List, refl, sym, ◌∙◌, ap, arith}
use Rattle.std.specs.List.{concat}
use Rattle.cl_model.specs.{declared.{model.SystemModel.SystemModel, refusal.Code.TheVariants.E1}, Place.top, Validity.IsValid}
use Rattle.cl_edit.specs.Reading.{edits_of}
use Rattle.cl_engine.specs.declared.files.Files.TheVariants as files
use Rattle.cl_engine.specs.{declared.{files.TheConstants.FILE_LIMIT, outcome.Outcome.Outcome, status.TheConstants.{DONE, EDITS_REFUSED}}, Content.of_both, Language.IsOfContent}
use Rattle.cl_top.specs.{OfEdits.line_at, Commands.Edit.{edits_refused, refused_with, behind, IsOfEdits, AreSafeTexts, StopsSafely, EditTheSame, editing}, Meaning.promises_of_both, Steps.AreFewOfEdits}
use Rattle.cl_top.proofs.{EditSteps.few_of_none, EditPieces.safe_pieces, EditsAlike.{listed_in_range, some_edits, edited_alike}, Meanings.{IsMeantWell, same_parts, both_well}}

status_of : (found other : Outcome) → found ≡ other → found.status ≡ other.status
status_of found other is = ap (λ (o : Outcome). o.status) is

-- an outcome is its text with its status
stopped : (found : Outcome) → found.status ≡ EDITS_REFUSED → refused_with found.text ≡ found
stopped found seven = same_parts (refused_with found.text) found (sym seven) refl

pub seven_content : (found : Outcome) → found.status ≡ 7 → IsOfContent found.status
seven_content found seven = inr (inl (omega (arith, seven), omega (arith, seven)))

-- what edits write, and a refusal behind it, is of content
edits_content : (model : SystemModel) (text : List ℕ) (found : Outcome) → IsOfEdits model text found → IsOfContent found.status
edits_content model text found (inl has) = elim has.edited_to.ends [
  | inl done ↦ inl (ap (λ (o : Outcome). o.status) done.printed)
  | inr refused ↦ seven_content found (ap (λ (o : Outcome). o.status) refused.printed)
]
edits_content model text found (inr bad) = seven_content found (ap (λ (o : Outcome). o.status) bad.printed)

-- what is written is safe where no edit is refused
safe_texts : (model : SystemModel) → IsValid model → (text : List ℕ) (found : Outcome) → IsOfEdits model text found → found.status ≡ DONE → AreSafeTexts model text found.text
safe_texts model valid text found (inl has) done = elim has.edited_to.ends [
  | inl all ↦ record {
    listed = has.listed;
    are = has.are;
    count = has.edited_to.count;
    pieces = has.edited_to.pieces;
    made = has.edited_to.made;
    accepted = has.edited_to.are;
    printed = ap (λ (o : Outcome). o.text) all.printed;
    safe = safe_pieces model has.edited_to.made (edits_of has.listed) has.edited_to.count has.edited_to.pieces valid
        (listed_in_range text has.listed has.are) has.edited_to.are;
  }
  | inr refused ↦ absurd (omega (
    arith,
    done,
    status_of found (behind (concat has.edited_to.pieces) (edits_refused (line_at has.listed has.edited_to.count) refused.refusal)) refused.printed,
  ))
]
safe_texts model valid text found (inr bad) done =
    absurd (omega (arith, done, status_of found (edits_refused bad.number (record { code = E1; place = top })) bad.printed))

-- where the status says so, what is written before the refused line is safe
pub stops_safely : (model : SystemModel) → IsValid model → (text : List ℕ) (found : Outcome) → IsOfEdits model text found → found.status ≡ EDITS_REFUSED → StopsSafely model text found.text
stops_safely model valid text found (inl has) seven = elim has.edited_to.ends [
  | inl all ↦ absurd (omega (arith, seven, status_of found (record { status = DONE; text = concat has.edited_to.pieces }) all.printed))
  | inr refused ↦ inl (record {
    listed = has.listed;
    are = has.are;
    count = has.edited_to.count;
    pieces = has.edited_to.pieces;
    made = has.edited_to.made;
    accepted = has.edited_to.are;
    stops = record { one_more = refused.one_more; refusal = refused.refusal; refused = refused.refused; printed = stopped found seven ∙ refused.printed };
    safe = safe_pieces model has.edited_to.made (edits_of has.listed) has.edited_to.count has.edited_to.pieces valid
        (listed_in_range text has.listed has.are) has.edited_to.are;
  })
]
stops_safely model valid text found (inr bad) seven = inr (record { number = bad.number; bad = bad.bad; printed = stopped found seven ∙ bad.printed })

pub editing_well : IsMeantWell (files.ModelAnd FILE_LIMIT) editing (Unit {0})
editing_well = both_well (of_both AreFewOfEdits (λ before after. ⊥)) (promises_of_both AreSafeTexts) EditTheSame (Unit {0}) (λ one other is. inl is) FILE_LIMIT IsOfEdits
    some_edits edited_alike edits_content few_of_none safe_texts
