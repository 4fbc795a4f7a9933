-- Something is said of each refusal.
use Rattle.std.proofs.Common.{ℕ, List, [], ◌++◌, take, Option, Some, None, refl}
use Rattle.toml.specs.Data.{Members}
use Rattle.cl_model.specs.{declared.{model.SystemModel.SystemModel, refusal.Refusal.Refusal}, Reading.document_of}
use Rattle.cl_place.proofs.SomePlace.{front_of, front_is_place, row_of, column_of, is_behind}
use Rattle.cl_advice.specs.{Unread.unread_text, Advice.{advice_text, at_line, AddsPlace, AddsOf, AddsAdvice}}

-- the front of some bytes, behind a text
module _ (bytes before : List ℕ) where
  abbrev row : ℕ
  row = row_of (take (front_of bytes) bytes)

  abbrev column : ℕ
  column = column_of (take (front_of bytes) bytes)

  abbrev between : List ℕ
  between = before ++ at_line row column

  placed : AddsPlace bytes (front_of bytes) before between
  placed = record { row = row; column = column; within = (front_is_place bytes).within; position = is_behind (take (front_of bytes) bytes); added = refl }

  some_of : (document : Option Members) (model : Option SystemModel) (refusal : Refusal) → (after : List ℕ) × AddsOf bytes document model refusal before after
  some_of None model refusal =
      (between ++ unread_text bytes [], record { place = front_of bytes; message = []; between = between; placed = placed; added = refl })
  some_of (Some ms) model refusal =
      (between ++ advice_text ms model refusal, record { place = front_of bytes; between = between; apt = front_is_place bytes; placed = placed; added = refl })

pub some_advice : (bytes : List ℕ) (model : Option SystemModel) (refusal : Refusal) (before : List ℕ) → (after : List ℕ) × AddsAdvice bytes model refusal before after
some_advice bytes model refusal before = some_of bytes before (document_of bytes) model refusal
