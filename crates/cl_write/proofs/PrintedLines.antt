-- What is printed of entries is the text of their lines.
use Rattle.std.proofs.Common.{◌≡◌, ℕ, ◌≤◌, Bool, true, false, cond, ◌==◌, List, [], ◌∷◌, ◌++◌, map, flat_map, Option, Some, None, codes, decimal, refl, sym, ap, subst, ◌∙◌, arith}
use Rattle.std.specs.Prelude.{IfSome}
use Rattle.std.specs.List.{AllByRecursion, concat}
use Rattle.std.proofs.lemmas.List.{append_assoc, append-nil}
use Rattle.toml_parser.specs.Lexical.{line_feed, quote}
use Rattle.toml_parser.specs.Strings as toml
use Rattle.toml_writer.specs.Text as written
use Rattle.toml.specs.{Data.{Data, string, boolean, array, table, Items, no_items, item, Members, member}, Tables.{key_value, Expression}, Text.{IsValueText, IsItemsText, breaks_lines, is_section, are_tables, pairs, sections, section, elements, gap, header_open, header_close, IsLinesText}}
use Rattle.toml.specs.View.{items_of}
use Rattle.cl_model.specs.{declared.{limits.TheConstants.MOST_REQUIRED, place.Key.Key}, Name.IsName, Place.key_text}
use Rattle.cl_model.specs.declared.place.Key.TheVariants as key
use Rattle.cl_write.specs.{Entries.{Entry, members_with, number, number_data_if, unless_zero, when_true, names_data, tables}, Inner.Lines.{word_line, number_line, number_line_if, line_unless_zero, true_line, line_when_true, next_word, more_words, words_line, words_line_if}}
use Rattle.cl_write.proofs.{NameTexts.quoted_name, Sorted.{at_front, spread, place_all, all_fit, in_order}}

-- ---- lines

-- the text of lines, behind another line
abbrev pub AreLines : List Expression → List ℕ → Type 0
AreLines lines text = IsLinesText false true lines text

pub joined : (es fs : List Expression) (t u : List ℕ) → AreLines es t → AreLines fs u → AreLines (es ++ fs) (t ++ u)
joined [] fs t u is others = subst (λ (t : List ℕ). AreLines fs (t ++ u)) (sym is) others
joined (e ∷ es) fs t u (this, rest, is, first, more) others =
    (this, rest ++ u, ap (λ t. t ++ u) is ∙ append_assoc this rest u, first, joined es fs rest u more others)

-- the keys of models are bare
bare : (k : Key) → written.key_text (key_text k) ≡ key_text k
unfolding written.key_text
bare key.Format = refl
bare key.Version = refl
bare key.Core = refl
bare key.Stimulus = refl
bare key.Label = refl
bare key.Task = refl
bare key.Chain = refl
bare key.Requirement = refl
bare key.Name = refl
bare key.Kind = refl
bare key.Period = refl
bare key.Offset = refl
bare key.Jitter = refl
bare key.Count = refl
bare key.Distance = refl
bare key.Least = refl
bare key.Greatest = refl
bare key.Whole = refl
bare key.Priority = refl
bare key.Access = refl
bare key.Deadline = refl
bare key.Runnable = refl
bare key.Reads = refl
bare key.Writes = refl
bare key.Runnables = refl
bare key.Labels = refl
bare key.Most = refl

-- the line of a key and the text of its value
abbrev line : Key → List ℕ → List ℕ
line key value = key_text key ++ (codes " = " ++ (value ++ line_feed ∷ []))

one_line : (key : Key) (d : Data) (value : List ℕ) → IsValueText false d value → AreLines ((([], key_text key), key_value d) ∷ []) (line key value)
one_line key d value is =
    (line key value, [], sym (append-nil (line key value)), (value, ap (λ (k : List ℕ). k ++ (codes " = " ++ (value ++ line_feed ∷ []))) (sym (bare key)), is), refl)

-- ---- entries

-- the line of a member that doesn't stand under headers
abbrev pub pair_of : Key → Data → List Expression
pair_of key d = cond (is_section d) [] ((([], key_text key), key_value d) ∷ [])

-- what is printed of an entry of the table at a path: its line, and the lines under its headers
abbrev pub IsPrinted : List (List ℕ) → Entry → List ℕ × List ℕ → Type 0
IsPrinted path (key, None) texts = (texts.0 ≡ []) × (texts.1 ≡ [])
IsPrinted path (key, Some d) texts = AreLines (pair_of key d) texts.0 × AreLines (section (path, key_text key) d) texts.1

abbrev pub ArePrinted : List (List ℕ) → List Entry → List (List ℕ × List ℕ) → Type 0
ArePrinted path [] [] = Unit {0}
ArePrinted path (e ∷ es) (t ∷ ts) = IsPrinted path e t × ArePrinted path es ts
ArePrinted path [] (t ∷ ts) = ⊥
ArePrinted path (e ∷ es) [] = ⊥

-- the lines of a table, and those under the headers of its members
abbrev pub own : List (List ℕ × List ℕ) → List ℕ
own texts = concat (map (λ (t : List ℕ × List ℕ). t.0) texts)

abbrev pub below : List (List ℕ × List ℕ) → List ℕ
below texts = concat (map (λ (t : List ℕ × List ℕ). t.1) texts)

pairs_more : (key : Key) (d : Data) (ms : Members) (t u : List ℕ) → AreLines (pair_of key d) t → AreLines (pairs ms) u → AreLines (pairs (member (key_text key) d ms)) (t ++ u)
pairs_more key d ms t u one others = by_test (is_section d) (joined (pair_of key d) (pairs ms) t u one others)
  where
    by_test : (b : Bool) → AreLines (cond b [] ((([], key_text key), key_value d) ∷ []) ++ pairs ms) (t ++ u)
        → AreLines (cond b (pairs ms) ((([], key_text key), key_value d) ∷ pairs ms)) (t ++ u)
    by_test true are = are
    by_test false are = are

own_lines : (path : List (List ℕ)) (es : List Entry) (ts : List (List ℕ × List ℕ)) → ArePrinted path es ts → AreLines (pairs (spread es)) (own ts)
own_lines path [] [] are = refl
own_lines path [] (t ∷ ts) are = absurd are
own_lines path (e ∷ es) [] are = absurd are
own_lines path ((key, None) ∷ es) (t ∷ ts) are = subst (λ (line : List ℕ). AreLines (pairs (spread es)) (line ++ own ts)) (sym are.0.0) (own_lines path es ts are.1)
own_lines path ((key, Some d) ∷ es) (t ∷ ts) are = pairs_more key d (spread es) t.0 (own ts) are.0.0 (own_lines path es ts are.1)

below_lines : (path : List (List ℕ)) (es : List Entry) (ts : List (List ℕ × List ℕ)) → ArePrinted path es ts → AreLines (sections path (spread es)) (below ts)
below_lines path [] [] are = refl
below_lines path [] (t ∷ ts) are = absurd are
below_lines path (e ∷ es) [] are = absurd are
below_lines path ((key, None) ∷ es) (t ∷ ts) are = subst (λ (lines : List ℕ). AreLines (sections path (spread es)) (lines ++ below ts)) (sym are.0.1) (below_lines path es ts are.1)
below_lines path ((key, Some d) ∷ es) (t ∷ ts) are =
    joined (section (path, key_text key) d) (sections path (spread es)) t.1 (below ts) are.0.1 (below_lines path es ts are.1)

-- what is printed of a table: its own lines, and then those under headers
pub table_lines : (path : List (List ℕ)) (entries : List Entry) (ts : List (List ℕ × List ℕ)) → all_fit entries [] ≡ true → ArePrinted path (place_all entries []) ts
    → AreLines (pairs (members_with entries) ++ sections path (members_with entries)) (own ts ++ below ts)
table_lines path entries ts fit are =
    let in_place = in_order entries [] fit in
    let sorted = place_all entries [] in
    subst (λ (ms : Members). AreLines (pairs ms ++ sections path ms) (own ts ++ below ts)) (sym in_place)
    (joined (pairs (spread sorted)) (sections path (spread sorted)) (own ts) (below ts) (own_lines path sorted ts are) (below_lines path sorted ts are))

-- where no member stands under headers
pub flat_table_lines : (path : List (List ℕ)) (entries : List Entry) (ts : List (List ℕ × List ℕ)) → below ts ≡ [] → all_fit entries [] ≡ true → ArePrinted path (place_all entries []) ts
    → AreLines (pairs (members_with entries) ++ sections path (members_with entries)) (own ts)
flat_table_lines path entries ts none fit are =
    subst (λ (text : List ℕ). AreLines (pairs (members_with entries) ++ sections path (members_with entries)) text)
    (ap (λ (text : List ℕ). own ts ++ text) none ∙ append-nil (own ts)) (table_lines path entries ts fit are)

-- ---- values

word_text : (key : Key) (word : List ℕ) → line key (quote ∷ word ++ quote ∷ []) ≡ word_line key word
unfolding word_line
word_text key word = ap (λ (text : List ℕ). key_text key ++ (codes " = \"" ++ text)) (append_assoc word (quote ∷ []) (line_feed ∷ []))

module _ (path : List (List ℕ)) (key : Key) where
  pub word_printed : (word : List ℕ) → IsName word → IsPrinted path (key, Some (string word)) (word_line key word, [])
  word_printed word named =
      (subst (AreLines (pair_of key (string word))) (word_text key word) (one_line key (string word) (quote ∷ word ++ quote ∷ []) (sym (quoted_name word named))), refl)

  pub number_printed : (n : ℕ) → n ≤ MOST_REQUIRED → IsPrinted path (key, Some (number n)) (number_line key n, [])
  unfolding number_line
  number_printed n small = (one_line key (number n) (decimal n) (refl, omega (arith, small)), refl)

  pub number_if_printed : (n : Option ℕ) → IfSome n (λ n. n ≤ MOST_REQUIRED) → IsPrinted path (key, number_data_if n) (number_line_if key n, [])
  number_if_printed None small = (refl, refl)
  number_if_printed (Some n) small = number_printed n small

  pub unless_zero_printed : (n : ℕ) → n ≤ MOST_REQUIRED → IsPrinted path (key, unless_zero n) (line_unless_zero key n, [])
  unless_zero_printed n small = by_test (n == 0)
    where
      by_test : (is_zero : Bool) → IsPrinted path (key, cond is_zero None (Some (number n))) (cond is_zero [] (number_line key n), [])
      by_test true = (refl, refl)
      by_test false = number_printed n small

  pub when_true_printed : (b : Bool) → IsPrinted path (key, when_true b) (line_when_true key b, [])
  unfolding true_line
  when_true_printed true = (one_line key (boolean true) (codes "true") refl, refl)
  when_true_printed false = (refl, refl)

-- ---- arrays of names

-- names behind a first one, with the end of the array
abbrev others : List (List ℕ) → List ℕ
others words = flat_map (λ word. codes ", " ++ (quote ∷ word ++ quote ∷ [])) words ++ codes "]"

items_printed : (words : List (List ℕ)) → AllByRecursion IsName words → IsItemsText false false false (items_of (map string words)) (others words)
items_printed [] named = refl
items_printed (word ∷ words) named = (
  quote ∷ word ++ quote ∷ [],
  others words,
  ap (λ (text : List ℕ). codes ", " ++ (quote ∷ text))
      (append_assoc (word ++ quote ∷ []) (flat_map (λ word. codes ", " ++ (quote ∷ word ++ quote ∷ [])) words) (codes "]")),
  sym (quoted_name word named.0),
  items_printed words named.1,
)

no_breaks : (ds : Items) → breaks_lines false ds ≡ false
no_breaks no_items = refl
no_breaks (item d no_items) = refl
no_breaks (item d (item e ds)) = refl

-- from the quote before each comma on
from_quotes : (words : List (List ℕ)) → quote ∷ (others words ++ line_feed ∷ []) ≡ more_words words ++ codes "\"]\n"
unfolding next_word
from_quotes [] = refl
from_quotes (word ∷ words) =
    let rest : List ℕ = flat_map (λ word. codes ", " ++ (quote ∷ word ++ quote ∷ [])) words in
    ap (λ (text : List ℕ). codes "\", \"" ++ (text ++ line_feed ∷ []))
    (append_assoc (word ++ quote ∷ []) rest (codes "]") ∙ append_assoc word (quote ∷ []) (rest ++ codes "]"))
    ∙ ap (λ (text : List ℕ). codes "\", \"" ++ text) (append_assoc word (quote ∷ others words) (line_feed ∷ []) ∙ ap (λ (text : List ℕ). word ++ text) (from_quotes words))
    ∙ sym (append_assoc (codes "\", \"" ++ word) (more_words words) (codes "\"]\n"))

words_text : (key : Key) (word : List ℕ) (words : List (List ℕ)) → line key (codes "[" ++ ((quote ∷ word ++ quote ∷ []) ++ others words)) ≡ words_line key word words
unfolding words_line
words_text key word words =
    ap (λ (text : List ℕ). key_text key ++ (codes " = [\"" ++ text))
    (ap (λ (text : List ℕ). text ++ line_feed ∷ []) (append_assoc word (quote ∷ []) (others words))
    ∙ append_assoc word (quote ∷ others words) (line_feed ∷ [])
    ∙ ap (λ (text : List ℕ). word ++ text) (from_quotes words))

pub names_printed : (path : List (List ℕ)) (key : Key) (words : List (List ℕ)) → AllByRecursion IsName words → IsPrinted path (key, names_data words) (words_line_if key words, [])
names_printed path key [] named = (refl, refl)
names_printed path key (word ∷ words) named =
    let ds : Items = items_of (map string (word ∷ words)) in
    let rest : List ℕ = (quote ∷ word ++ quote ∷ []) ++ others words in
    let items : IsItemsText false false true ds rest = (quote ∷ word ++ quote ∷ [], others words, refl, sym (quoted_name word named.0), items_printed words named.1) in
    let value : IsValueText false (array ds) (codes "[" ++ rest) = (rest, refl, subst (λ (breaks : Bool). IsItemsText false breaks true ds rest) (sym (no_breaks ds)) items) in
    (subst (AreLines (pair_of key (array ds))) (words_text key word words) (one_line key (array ds) (codes "[" ++ rest) value), refl)

-- ---- tables under headers

module _ {X : Type 0} (entries : X → List Entry) (body : X → List ℕ) where
  all_tables : (xs : List X) → are_tables (items_of (map (λ x. table (members_with (entries x))) xs)) ≡ true
  all_tables [] = refl
  all_tables (x ∷ xs) = all_tables xs

  -- the lines of an entry stand below its header
  abbrev pub IsBody : List (List ℕ) → X → Type 0
  IsBody path x = AreLines (pairs (members_with (entries x)) ++ sections path (members_with (entries x))) (body x)

  elements_printed : (place : toml.Key) (header : List ℕ) → header ≡ gap true ++ (header_open true ++ (written.dotted_text place ++ header_close true))
      → (xs : List X) → AllByRecursion (IsBody (place.0 ++ place.1 ∷ [])) xs
      → AreLines (elements place (items_of (map (λ x. table (members_with (entries x))) xs))) (flat_map (λ x. header ++ body x) xs)
  elements_printed place header is [] all = refl
  elements_printed place header is (x ∷ xs) all =
      let rest : List ℕ = flat_map (λ x. header ++ body x) xs in
      (header, body x ++ rest, append_assoc header (body x) rest, is, joined _ _ (body x) rest all.0 (elements_printed place header is xs all.1))

  pub tables_printed : (path : List (List ℕ)) (key : Key) (header : List ℕ) → header ≡ gap true ++ (header_open true ++ (written.dotted_text (path, key_text key) ++ header_close true))
      → (xs : List X) → AllByRecursion (IsBody (path ++ key_text key ∷ [])) xs
      → IsPrinted path (key, tables entries xs) ([], flat_map (λ x. header ++ body x) xs)
  tables_printed path key header is [] all = (refl, refl)
  tables_printed path key header is (x ∷ xs) all =
      let ds : Items = items_of (map (λ x. table (members_with (entries x))) (x ∷ xs)) in
      let line : Expression = (([], key_text key), key_value (array ds)) in
      let lines : AreLines (elements (path, key_text key) ds) (flat_map (λ x. header ++ body x) (x ∷ xs)) = elements_printed (path, key_text key) header is (x ∷ xs) all in (
        subst (λ (t : Bool). AreLines (cond t [] (line ∷ [])) []) (sym (all_tables (x ∷ xs))) refl,
        subst (λ (t : Bool). AreLines (cond t (elements (path, key_text key) ds) []) (flat_map (λ x. header ++ body x) (x ∷ xs))) (sym (all_tables (x ∷ xs))) lines,
      )

  -- nothing of a section stands among the pairs
  pub no_pair : (key : Key) (xs : List X) (ms : Members) → pairs (at_front key (tables entries xs) ms) ≡ pairs ms
  no_pair key [] ms = refl
  no_pair key (x ∷ xs) ms =
      let line : Expression = (([], key_text key), key_value (array (items_of (map (λ x. table (members_with (entries x))) (x ∷ xs))))) in
      ap (λ (t : Bool). cond t (pairs ms) (line ∷ pairs ms)) (all_tables (x ∷ xs))
