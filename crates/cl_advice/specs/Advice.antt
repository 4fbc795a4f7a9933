-- The lines after that of a refusal: what an engineer needs to mend a refused model file.
use Rattle.std.specs.Prelude.{◌≡◌, ℕ, ◌≤◌, List, length, take, ◌++◌, Option, Some, None, codes, decimal}
use Rattle.toml.specs.Data.{Members}
use Rattle.cl_text.specs.Line.{line}
use Rattle.cl_model.specs.{declared.{model.SystemModel.SystemModel, refusal.Refusal.Refusal}, Reading.document_of}
use Rattle.cl_advice.specs.{Entry.{entry_line, runnable_line}, Found.{key_line, found_line}, Wanted.wanted_line, Measured.measured_line, Known.known_line, With.with_lines, Mend.mend_line, Unread.unread_text}
use Rattle.cl_place.specs.{Places.IsPlaceIn, Positions.IsBehind}

-- what is said of the refusal of a document; of the model that it means, where it has one
unfoldable pub advice_text : Members → Option SystemModel → Refusal → List ℕ
advice_text ms model refusal =
    entry_line ms refusal.place
    ++ runnable_line ms refusal.place
    ++ key_line ms refusal
    ++ found_line ms model refusal
    ++ wanted_line ms refusal
    ++ measured_line model refusal
    ++ known_line model refusal
    ++ with_lines model refusal
    ++ mend_line ms model refusal

-- the line of a row and a column
unfoldable pub at_line : (row column : ℕ) → List ℕ
at_line row column = line (codes "at " ++ decimal row ++ codes " " ++ decimal column)

-- a text with the line of a place in these bytes behind it
pub record AddsPlace (bytes : List ℕ) (place : ℕ) (before after : List ℕ) : Type 0 where
  pub row : ℕ
  pub column : ℕ
  pub within : place ≤ length bytes
  pub position : IsBehind (take place bytes) row column
  pub added : after ≡ before ++ at_line row column

-- A text with what is said of bytes that are no document behind it. The place and the message are those of the parser,
-- and have no definition.
pub record AddsUnread (bytes before after : List ℕ) : Type 0 where
  pub place : ℕ
  pub message : List ℕ
  pub between : List ℕ
  pub placed : AddsPlace bytes place before between
  pub added : after ≡ between ++ unread_text bytes message

-- A text with what is said of a refusal of a document behind it. Something begins at the place; which place it is has no
-- definition.
pub record AddsAdvised (bytes : List ℕ) (ms : Members) (model : Option SystemModel) (refusal : Refusal) (before after : List ℕ) : Type 0 where
  pub place : ℕ
  pub between : List ℕ
  pub apt : IsPlaceIn bytes place
  pub placed : AddsPlace bytes place before between
  pub added : after ≡ between ++ advice_text ms model refusal

abbrev pub AddsOf : (bytes : List ℕ) → Option Members → Option SystemModel → Refusal → (before after : List ℕ) → Type 0
AddsOf bytes None model refusal before after = AddsUnread bytes before after
AddsOf bytes (Some ms) model refusal before after = AddsAdvised bytes ms model refusal before after

-- a text with what is said of a refusal of these bytes behind it
abbrev pub AddsAdvice : (bytes : List ℕ) → Option SystemModel → Refusal → (before after : List ℕ) → Type 0
AddsAdvice bytes model refusal before after = AddsOf bytes (document_of bytes) model refusal before after
