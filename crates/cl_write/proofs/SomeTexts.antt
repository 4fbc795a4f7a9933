-- Each model in range whose names are names has a text that is read as it.
use Rattle.std.proofs.Common.{◌≡◌, ℕ, false, List, Some, ◌∙◌}
use Rattle.std.proofs.lemmas.Str.{IsUtf8-from_ascii}
use Rattle.toml.proofs.ReadBack.{parse_document-printed}
use Rattle.cl_model.specs.{declared.model.SystemModel.SystemModel, AreNamed.AreNamed, Ranges.IsInRange, Reading.document_of}
use Rattle.cl_model.proofs.DocumentTexts.{document_of-text}
use Rattle.cl_write.specs.{Texts.IsTextOf, Inner.Printed.model_text, Writing.document}
use Rattle.cl_write.proofs.{Depth.document_is_shallow, PlainData.{document_ascii, members_dates, members_sorted}, PlainModel.document_is_plain, PrintedModel.is_document_text, ReadBack.{reads_as_model, reads_as_version}}

-- a text of the document is a text of the model
pub text_of_document : (text : List ℕ) (model : SystemModel) → IsInRange model → AreNamed model → document_of text ≡ Some (document model) → IsTextOf model text
text_of_document text model in_range named is = record { reads = reads_as_model text model in_range named is; version = reads_as_version text model is }

-- what is printed of a model is read as its document
pub printed_document : (model : SystemModel) → IsInRange model → AreNamed model → document_of (model_text model) ≡ Some (document model)
printed_document model in_range named =
    let plain = document_is_plain model in_range named in
    let is = is_document_text model in_range named in
    let parsed = parse_document-printed false (document model) (model_text model) is (document_is_shallow model) (members_dates (document model) plain) (members_sorted (document model) plain) in
    document_of-text (model_text model) (IsUtf8-from_ascii (model_text model) (document_ascii (document model) plain (model_text model) is)) ∙ parsed

pub some_text : (model : SystemModel) → IsInRange model → AreNamed model → (text : List ℕ) × IsTextOf model text
some_text model in_range named = (model_text model, text_of_document (model_text model) model in_range named (printed_document model in_range named))
