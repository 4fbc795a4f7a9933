-- A name is of the bytes of names, and so ASCII text.
use Rattle.std.proofs.Common.{◌≡◌, ℕ, zero, suc, ◌<◌, true, List, [], ◌∷◌, arith}
use Rattle.std.proofs.lemmas.Bool.Decides.{nat_tests}
use Rattle.std.proofs.lemmas.Grind.{common_steps}
use Rattle.std.proofs.lemmas.Str.{IsUtf8-from_ascii}
use Rattle.std.specs.List.{list_all}
use Rattle.std.specs.Str.{IsUtf8, IsAscii}
use Rattle.cl_model.specs.Name.{is_name_byte, is_name, IsName}
use Rattle.cl_model.proofs.ListFacts.{both_pass}

-- each byte of a name is one of those that names have
pub name_bytes : (name : List ℕ) → IsName name → list_all is_name_byte name ≡ true
name_bytes name is = grind (arith, nat_tests, is)

name_byte_ascii : (b : ℕ) → is_name_byte b ≡ true → b < 128
name_byte_ascii b h = grind (arith, common_steps)

name_bytes_ascii : (word : List ℕ) → list_all is_name_byte word ≡ true → IsAscii word
name_bytes_ascii [] h i = omega arith
name_bytes_ascii (b ∷ word) h zero = name_byte_ascii b ((both_pass (is_name_byte b) (list_all is_name_byte word) h).0)
name_bytes_ascii (b ∷ word) h (suc i) = name_bytes_ascii word (both_pass (is_name_byte b) (list_all is_name_byte word) h).1 i

-- a name is text
pub name_is_text : (word : List ℕ) → is_name word ≡ true → IsUtf8 word
name_is_text word h = IsUtf8-from_ascii word (name_bytes_ascii word (both_pass _ (list_all is_name_byte word) h).1)
