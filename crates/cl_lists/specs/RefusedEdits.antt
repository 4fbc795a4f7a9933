-- What is said of an edit that is refused: the line that it stands in, and what to mend.
use Rattle.std.specs.Prelude.{ℕ, List, [], ◌∷◌, ◌++◌, Option, Some, None}
use Rattle.cl_model.specs.declared.{model.SystemModel.SystemModel, refusal.{Code.Code, Refusal.Refusal}}
use Rattle.cl_model.specs.declared.refusal.Code.TheVariants as code
use Rattle.cl_edit.specs.{declared.{edit.Edit.Edit, version.Version.TheVariants.Two}, Edited.{edit_checks, with_edit}}
use Rattle.cl_advice.specs.OfEdits.{edit_advice_text}
use Rattle.cl_lists.specs.{BadLines.line_found, OtherKinds.other_kind_text, Unknown.unknown_text}

-- a model, unless one of these checks refuses it
abbrev pub model_unless : (checks : List Refusal) → SystemModel → Option SystemModel
model_unless [] model = Some model
model_unless (refusal ∷ checks) model = None

-- the model that an edit makes, where the first checks of the edit pass
abbrev pub model_made : SystemModel → Edit → Option SystemModel
model_made model edit = model_unless (edit_checks model edit) (with_edit model edit)

-- what to mend, by the code of the refusal
abbrev pub mend_by_code : SystemModel → Edit → Refusal → Code → List ℕ
mend_by_code model edit refusal code.E2 = unknown_text model edit
mend_by_code model edit refusal code.E3 = other_kind_text edit
mend_by_code model edit refusal _ = edit_advice_text (model_made model edit) refusal

-- what is said of an edit of a model, in the line of this number, for this refusal: a line that could be read ends with a carriage
-- return in version 2 alone
unfoldable pub refused_edit_text : (list : List ℕ) → (number : ℕ) → SystemModel → Edit → Refusal → List ℕ
refused_edit_text list number model edit refusal = line_found Two list number ++ mend_by_code model edit refusal refusal.code
