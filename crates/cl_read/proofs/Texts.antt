-- The document of bytes that are no text.
use Rattle.std.proofs.Common.{◌≡◌, ℕ, Bool, true, false, cond, List, Option, None, refl}
use Rattle.std.proofs.lemmas.Str.{IsUtf8-from_is_utf8}
use Rattle.std.specs.Str.{IsUtf8, is_utf8}
use Rattle.toml.specs.{Data.Members, Parse.parse_document}
use Rattle.cl_model.specs.Reading.{document_of}

chosen : (t : Bool) (found : Option Members) → (t ≡ true → ⊥) → cond t found None ≡ None
chosen true found denied = absurd (denied refl)
chosen false found denied = refl

pub document_of-other : (bytes : List ℕ) → (IsUtf8 bytes → ⊥) → document_of bytes ≡ None
unfolding document_of
document_of-other bytes denied = chosen (is_utf8 bytes) (parse_document bytes) (λ yes. denied (IsUtf8-from_is_utf8 bytes yes))
