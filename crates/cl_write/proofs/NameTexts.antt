-- What is written for a name and for a key is ASCII.
use Rattle.std.proofs.Common.{◌≡◌, ℕ, zero, suc, ◌<◌, Bool, true, false, ◌==◌, List, [], ◌∷◌, ◌++◌, refl, sym, ap, subst, arith}
use Rattle.std.specs.List.{list_all, list_any}
use Rattle.std.specs.Str.{IsAscii}
use Rattle.std.proofs.lemmas.Grind.{common_steps}
use Rattle.std.proofs.lemmas.Str.{IsAscii-append}
use Rattle.toml_parser.specs.Lexical.{line_feed, quote, backslash}
use Rattle.toml_writer.specs.Text.{is_control, needs_escape, quotes_after, escaped, encoding_of, string_text}
use Rattle.cl_model.specs.Name.{is_name_byte, IsName}
use Rattle.cl_model.proofs.ListFacts.{both_pass}

-- ---- bytes of names

ascii_byte : (c : ℕ) → is_name_byte c ≡ true → c < 128
ascii_byte c h = grind (arith, common_steps)

no_control : (c : ℕ) → is_name_byte c ≡ true → is_control c ≡ false
no_control c h = grind (arith, common_steps)

no_feed : (c : ℕ) → is_name_byte c ≡ true → (c == line_feed) ≡ false
no_feed c h = grind (arith, common_steps)

no_quote : (c : ℕ) → is_name_byte c ≡ true → (c == quote) ≡ false
no_quote c h = grind (arith, common_steps)

no_backslash : (c : ℕ) → is_name_byte c ≡ true → (c == backslash) ≡ false
no_backslash c h = grind (arith, common_steps)

no_escape : (c : ℕ) → is_name_byte c ≡ true → needs_escape false 0 c ≡ false
unfolding needs_escape
no_escape c h = grind (arith, common_steps)

-- ---- names

none_of : (test : ℕ → Bool) → ((c : ℕ) → is_name_byte c ≡ true → test c ≡ false) → (s : List ℕ) → list_all is_name_byte s ≡ true → list_any test s ≡ false
none_of test denied [] h = refl
none_of test denied (c ∷ s) h =
    let (first, rest) = both_pass (is_name_byte c) (list_all is_name_byte s) h in
    rw (denied c first) (none_of test denied s rest)

unescaped : (s : List ℕ) → list_all is_name_byte s ≡ true → escaped false 0 s ≡ s
unfolding escaped quotes_after
unescaped [] h = refl
unescaped (c ∷ s) h =
    let (first, rest) = both_pass (is_name_byte c) (list_all is_name_byte s) h in
    rw (no_escape c first, no_quote c first) (ap (λ t. c ∷ t) (unescaped s rest))

-- a name stands between quotes
name_text : (s : List ℕ) → list_all is_name_byte s ≡ true → string_text s ≡ quote ∷ s ++ quote ∷ []
unfolding string_text encoding_of
name_text s h =
    rw (none_of is_control no_control s h, none_of (λ c. c == backslash) no_backslash s h, none_of (λ c. c == quote) no_quote s h, none_of (λ c. c == line_feed) no_feed s h)
    (ap (λ t. quote ∷ t ++ quote ∷ []) (unescaped s h))

ascii_bytes : (s : List ℕ) → list_all is_name_byte s ≡ true → IsAscii s
ascii_bytes [] h i = omega arith
ascii_bytes (c ∷ s) h zero = ascii_byte c (both_pass (is_name_byte c) (list_all is_name_byte s) h).0
ascii_bytes (c ∷ s) h (suc i) = ascii_bytes s (both_pass (is_name_byte c) (list_all is_name_byte s) h).1 i

quoted : IsAscii (quote ∷ [])
quoted zero = omega arith
quoted (suc i) = omega arith

pub name_is_ascii : (s : List ℕ) → IsName s → IsAscii (string_text s)
name_is_ascii s named =
    let (fits, bytes) = both_pass _ (list_all is_name_byte s) named in
    subst IsAscii (sym (name_text s bytes)) (IsAscii-append (quote ∷ []) (s ++ quote ∷ []) quoted (IsAscii-append s (quote ∷ []) (ascii_bytes s bytes) quoted))

-- what is written for a name
pub quoted_name : (s : List ℕ) → IsName s → string_text s ≡ quote ∷ s ++ quote ∷ []
quoted_name s named = name_text s (both_pass _ (list_all is_name_byte s) named).1
