-- Words at the beginning of a text: names and printed numbers.
use Rattle.std.proofs.Common.{◌≡◌, ◌≢◌, ℕ, ◌<◌, true, false, Option, Some, None, List, [], ◌∷◌, ◌++◌, length, get_or, refl, sym, ap, ◌∙◌, arith}
use Rattle.std.specs.Prelude.{decimal, MatchOption, IfSome, IfNone}
use Rattle.std.specs.List.{AllPass}
use Rattle.std.proofs.lemmas.Bool.Decides.{nat_tests}
use Rattle.std.proofs.lemmas.List.{append_cancel_left}
use Rattle.std.proofs.lemmas.List.Sums.{AllPass-from_list_all}
use Rattle.cl_model.specs.Name.{IsName, is_name_byte}
use Rattle.cl_model.proofs.Names.{name_bytes}
use Rattle.cl_text.specs.Line.{first_word, is_graphic}
use Rattle.cl_text.proofs.LineLemmas.{first_word-ended}
use Rattle.cl_trace.specs.Trace.{number_text}

-- both sides of a match
pub some_of : {X : Type 0} (r : Option X) (P : Type 0) (Q : X → Type 0) → MatchOption r P Q → IfSome r Q
some_of None P Q h = tt
some_of (Some x) P Q h = h

pub none_of : {X : Type 0} (r : Option X) (P : Type 0) (Q : X → Type 0) → MatchOption r P Q → IfNone r P
none_of None P Q h = h
none_of (Some x) P Q h = tt

-- a byte of a name is a byte of a word
name_byte_graphic : (byte : ℕ) → is_name_byte byte ≡ true → is_graphic byte ≡ true
name_byte_graphic byte is = grind (arith, nat_tests)

name_some : (name : List ℕ) → IsName name → 0 < length name
name_some name is = grind (arith, nat_tests, is)

pub graphic_name : (name : List ℕ) → IsName name → AllPass is_graphic name
graphic_name name is k d lt = name_byte_graphic (get_or name k d) (AllPass-from_list_all is_name_byte name (name_bytes name is) k d lt)

pub name_is_some : (name : List ℕ) → IsName name → name ≢ []
name_is_some name is none = omega (arith, name_some name is, ap length none)

-- what stands behind the blank of a number
pub behind_blank : (text behind rest : List ℕ) (n byte : ℕ) → text ≡ 32 ∷ behind → text ≡ number_text n ++ byte ∷ rest → behind ≡ decimal n ++ byte ∷ rest
behind_blank text behind rest n byte is fits = cc (sym is ∙ fits)

pub name_word : (text name rest : List ℕ) (byte : ℕ) → IsName name → is_graphic byte ≡ false → text ≡ name ++ byte ∷ rest → first_word text ≡ name
name_word text name rest byte named other is = ap first_word is ∙ first_word-ended name rest byte (graphic_name name named) other

-- what follows a word is told by the word
pub rest_is : (text word other behind rest : List ℕ) → text ≡ word ++ behind → word ≡ other → text ≡ other ++ rest → behind ≡ rest
rest_is text word other behind rest parts same fits =
    append_cancel_left word behind rest (sym parts ∙ fits ∙ ap (λ w. w ++ rest) (sym same))

-- a text without a byte
pub no_bytes : (text : List ℕ) → length text ≡ 0 → text ≡ []
no_bytes [] none = refl
no_bytes (byte ∷ text) none = absurd (omega arith)
