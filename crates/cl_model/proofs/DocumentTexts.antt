-- The document of a text.
use Rattle.std.proofs.Common.{◌≡◌, ℕ, List, refl}
use Rattle.std.proofs.lemmas.Str.{is_utf8-from_IsUtf8}
use Rattle.std.specs.Str.{IsUtf8}
use Rattle.toml.specs.Parse.{parse_document}
use Rattle.cl_model.specs.Reading.{document_of}

pub document_of-text : (bytes : List ℕ) → IsUtf8 bytes → document_of bytes ≡ parse_document bytes
unfolding document_of
document_of-text bytes text = rw (is_utf8-from_IsUtf8 bytes text) refl
