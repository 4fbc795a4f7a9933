-- Plain data: names, numbers of a model, booleans, and arrays and tables of these. A text that writes it is ASCII.
use Rattle.std.proofs.Common.{◌≡◌, ℕ, ℤ, pos, negsuc, zero, suc, ◌≤◌, ◌<◌, Bool, true, false, cond, List, [], ◌∷◌, ◌++◌, refl, sym, subst, ◌∙◌, arith}
use Rattle.std.specs.Prelude.{codes}
use Rattle.std.specs.Fmt.{signed_decimal}
use Rattle.std.specs.List.{AllByRecursion}
use Rattle.std.specs.Str.{IsAscii}
use Rattle.std.proofs.lemmas.List.{append_assoc}
use Rattle.std.proofs.lemmas.Fmt.{IsAscii-decimal}
use Rattle.std.proofs.lemmas.Str.{IsAscii-append}
use Rattle.std.proofs.lemmas.Str.Ascii.{IsAscii-nil}
use Rattle.toml_parser.specs.{Lexical.{line_feed, dot}, Strings.Key}
use Rattle.toml_writer.specs.Text.{string_text, key_text, path_text, dotted_text}
use Rattle.toml.specs.{Data.{Data, string, integer, float, boolean, datetime, array, table, Items, no_items, item, Members, no_members, member, is_before, has_valid_dates, items_have_valid_dates, members_have_valid_dates, is_sorted, items_are_sorted, members_are_sorted}, Tables.Definition}
use Rattle.toml.specs.{Tables.{key_value, std_table, array_table, Expression}, Text.{IsValueText, IsItemsText, IsMembersText, breaks_lines, before_item, after_item, array_end, before_member, table_end, is_section, are_tables, needs_header, pairs, header_of, sections, section, elements}}
use Rattle.toml.specs.Text.{expressions, gap, header_open, header_close, IsLineText, IsLinesText, IsDocumentText}
use Rattle.toml.proofs.Lines.{path_text-last}
use Rattle.cl_model.specs.{declared.limits.TheConstants.MOST_REQUIRED, Name.IsName}
use Rattle.cl_model.proofs.ListFacts.{both_true}
use Rattle.cl_write.proofs.NameTexts.{name_is_ascii}

-- a number of a model
abbrev pub IsPlainNumber : ℤ → Type 0
IsPlainNumber (pos n) = n ≤ MOST_REQUIRED
IsPlainNumber (negsuc n) = ⊥

abbrev mutual
  pub IsPlain : Data → Type 0
  IsPlain (string s) = IsName s
  IsPlain (integer z) = IsPlainNumber z
  IsPlain (float x) = ⊥
  IsPlain (boolean b) = Unit {0}
  IsPlain (datetime dt) = ⊥
  IsPlain (array ds) = ArePlainItems ds
  IsPlain (table ms) = ArePlain ms

  pub ArePlainItems : Items → Type 0
  ArePlainItems no_items = Unit {0}
  ArePlainItems (item d ds) = IsPlain d × ArePlainItems ds

  pub ArePlain : Members → Type 0
  ArePlain no_members = Unit {0}
  ArePlain (member k d ms) = IsAscii (key_text k) × (is_before k ms ≡ true) × IsPlain d × ArePlain ms

-- ---- it has no dates, and its keys ascend

mutual
  dates : (d : Data) → IsPlain d → has_valid_dates d ≡ true
  dates (string s) plain = refl
  dates (integer z) plain = refl
  dates (float x) plain = refl
  dates (boolean b) plain = refl
  dates (datetime dt) plain = absurd plain
  dates (array ds) plain = items_dates ds plain
  dates (table ms) plain = members_dates ms plain

  items_dates : (ds : Items) → ArePlainItems ds → items_have_valid_dates ds ≡ true
  items_dates no_items plain = refl
  items_dates (item d ds) plain = both_true _ _ (dates d plain.0) (items_dates ds plain.1)

  pub members_dates : (ms : Members) → ArePlain ms → members_have_valid_dates ms ≡ true
  members_dates no_members plain = refl
  members_dates (member k d ms) plain = both_true _ _ (dates d plain.2) (members_dates ms plain.3)

mutual
  sorted : (d : Data) → IsPlain d → is_sorted d ≡ true
  sorted (string s) plain = refl
  sorted (integer z) plain = refl
  sorted (float x) plain = refl
  sorted (boolean b) plain = refl
  sorted (datetime dt) plain = refl
  sorted (array ds) plain = items_sorted ds plain
  sorted (table ms) plain = members_sorted ms plain

  items_sorted : (ds : Items) → ArePlainItems ds → items_are_sorted ds ≡ true
  items_sorted no_items plain = refl
  items_sorted (item d ds) plain = both_true _ _ (sorted d plain.0) (items_sorted ds plain.1)

  pub members_sorted : (ms : Members) → ArePlain ms → members_are_sorted ms ≡ true
  members_sorted no_members plain = refl
  members_sorted (member k d ms) plain = both_true _ _ (both_true _ _ plain.1 (sorted d plain.2)) (members_sorted ms plain.3)

-- ---- values

-- a text of which each byte passes
pub by_bytes : (bs : List ℕ) → AllByRecursion (λ b. b < 128) bs → IsAscii bs
by_bytes [] all i = omega arith
by_bytes (b ∷ bs) all zero = all.0
by_bytes (b ∷ bs) all (suc i) = by_bytes bs all.1 i

join : (a b : List ℕ) → IsAscii a → IsAscii b → IsAscii (a ++ b)
join = IsAscii-append

-- a text that is this one
same : (text other : List ℕ) → text ≡ other → IsAscii other → IsAscii text
same text other is ascii = subst IsAscii (sym is) ascii

start : (lines is_first : Bool) → IsAscii (before_item lines is_first)
start true is_first = by_bytes (codes "\n    ") (omega arith, (omega arith, (omega arith, (omega arith, (omega arith, tt)))))
start false true = IsAscii-nil
start false false = by_bytes (codes ", ") (omega arith, (omega arith, tt))

stop : (lines : Bool) → IsAscii (after_item lines)
stop true = by_bytes (codes ",") (omega arith, tt)
stop false = IsAscii-nil

end_of_items : (lines : Bool) → IsAscii (array_end lines)
end_of_items true = by_bytes (codes "\n]") (omega arith, (omega arith, tt))
end_of_items false = by_bytes (codes "]") (omega arith, tt)

start_member : (is_first : Bool) → IsAscii (before_member is_first)
start_member true = by_bytes (codes " ") (omega arith, tt)
start_member false = by_bytes (codes ", ") (omega arith, (omega arith, tt))

end_of_members : (is_first : Bool) → IsAscii (table_end is_first)
end_of_members true = by_bytes (codes "}") (omega arith, tt)
end_of_members false = by_bytes (codes " }") (omega arith, (omega arith, tt))

equals : IsAscii (codes " = ")
equals = by_bytes (codes " = ") (omega arith, (omega arith, (omega arith, tt)))

number_ascii : (z : ℤ) → IsPlainNumber z → IsAscii (signed_decimal z)
number_ascii (pos n) plain = IsAscii-decimal n (omega (arith, plain))
number_ascii (negsuc n) plain = absurd plain

boolean_ascii : (b : Bool) → IsAscii (cond b (codes "true") (codes "false"))
boolean_ascii true = by_bytes (codes "true") (omega arith, (omega arith, (omega arith, (omega arith, tt))))
boolean_ascii false = by_bytes (codes "false") (omega arith, (omega arith, (omega arith, (omega arith, (omega arith, tt)))))

mutual
  value_ascii : (d : Data) → IsPlain d → (text : List ℕ) → IsValueText false d text → IsAscii text
  value_ascii (string s) plain text is = same text (string_text s) is (name_is_ascii s plain)
  value_ascii (integer z) plain text is = same text (signed_decimal z) is.0 (number_ascii z plain)
  value_ascii (float x) plain text is = absurd plain
  value_ascii (boolean b) plain text is = same text (cond b (codes "true") (codes "false")) is (boolean_ascii b)
  value_ascii (datetime dt) plain text is = absurd plain
  value_ascii (array ds) plain text (rest, is, items) =
      same text (codes "[" ++ rest) is (join (codes "[") rest (by_bytes (codes "[") (omega arith, tt)) (items_ascii (breaks_lines false ds) true ds plain rest items))
  value_ascii (table ms) plain text (rest, is, members) =
      same text (codes "{" ++ rest) is (join (codes "{") rest (by_bytes (codes "{") (omega arith, tt)) (members_ascii true ms plain rest members))

  items_ascii : (lines is_first : Bool) (ds : Items) → ArePlainItems ds → (text : List ℕ) → IsItemsText false lines is_first ds text → IsAscii text
  items_ascii lines is_first no_items plain text is = same text (array_end lines) is (end_of_items lines)
  items_ascii lines is_first (item d ds) plain text (this, rest, is, value, items) =
      let ascii = value_ascii d plain.0 this value in
      let others = items_ascii lines false ds plain.1 rest items in
      same text (before_item lines is_first ++ (this ++ (after_item lines ++ rest))) is (join _ _ (start lines is_first) (join _ _ ascii (join _ _ (stop lines) others)))

  members_ascii : (is_first : Bool) (ms : Members) → ArePlain ms → (text : List ℕ) → IsMembersText false is_first ms text → IsAscii text
  members_ascii is_first no_members plain text is = same text (table_end is_first) is (end_of_members is_first)
  members_ascii is_first (member k d ms) plain text (this, rest, is, value, members, sorted) =
      let ascii = value_ascii d plain.2 this value in
      let others = members_ascii false ms plain.3 rest members in
      same text (before_member is_first ++ (key_text k ++ (codes " = " ++ (this ++ rest)))) is
      (join _ _ (start_member is_first) (join _ _ plain.0 (join (codes " = ") _ equals (join _ _ ascii others))))

-- ---- lines

-- a line of a plain value, or a header
abbrev pub IsPlainDefinition : Definition → Type 0
IsPlainDefinition (key_value d) = IsPlain d
IsPlainDefinition std_table = Unit {0}
IsPlainDefinition array_table = Unit {0}

abbrev pub IsPlainLine : Expression → Type 0
IsPlainLine e = IsAscii (dotted_text e.0) × IsPlainDefinition e.1

feed : IsAscii (line_feed ∷ [])
feed = by_bytes (line_feed ∷ []) (omega arith, tt)

before_header : (started : Bool) → IsAscii (gap started)
before_header true = feed
before_header false = IsAscii-nil

opened : (is_array : Bool) → IsAscii (header_open is_array)
opened true = by_bytes (codes "[[") (omega arith, (omega arith, tt))
opened false = by_bytes (codes "[") (omega arith, tt)

closed : (is_array : Bool) → IsAscii (header_close is_array)
closed true = by_bytes (codes "]]\n") (omega arith, (omega arith, (omega arith, tt)))
closed false = by_bytes (codes "]\n") (omega arith, (omega arith, tt))

header_ascii : (started is_array : Bool) (key : Key) → IsAscii (dotted_text key) → IsAscii (gap started ++ (header_open is_array ++ (dotted_text key ++ header_close is_array)))
header_ascii started is_array key ascii = join _ _ (before_header started) (join _ _ (opened is_array) (join _ _ ascii (closed is_array)))

line_ascii : (started : Bool) (key : Key) (def : Definition) → IsAscii (dotted_text key) → IsPlainDefinition def → (text : List ℕ) → IsLineText false started key def text → IsAscii text
line_ascii started key (key_value d) ascii plain text (this, is, value) =
    same text (dotted_text key ++ (codes " = " ++ (this ++ line_feed ∷ []))) is (join _ _ ascii (join (codes " = ") _ equals (join _ _ (value_ascii d plain this value) feed)))
line_ascii started key std_table ascii plain text is = same text _ is (header_ascii started false key ascii)
line_ascii started key array_table ascii plain text is = same text _ is (header_ascii started true key ascii)

lines_ascii : (started : Bool) (es : List Expression) → AllByRecursion IsPlainLine es → (text : List ℕ) → IsLinesText false started es text → IsAscii text
lines_ascii started [] all text is = same text [] is IsAscii-nil
lines_ascii started (e ∷ es) all text (this, rest, is, first, more) =
    same text (this ++ rest) is (join this rest (line_ascii started e.0 e.1 all.0.0 all.0.1 this first) (lines_ascii true es all.1 rest more))

-- ---- the lines of plain members

all_joined : (es fs : List Expression) → AllByRecursion IsPlainLine es → AllByRecursion IsPlainLine fs → AllByRecursion IsPlainLine (es ++ fs)
all_joined [] fs one other = other
all_joined (e ∷ es) fs one other = (one.0, all_joined es fs one.1 other)

all_if : (t : Bool) (es fs : List Expression) → AllByRecursion IsPlainLine es → AllByRecursion IsPlainLine fs → AllByRecursion IsPlainLine (cond t es fs)
all_if true es fs one other = one
all_if false es fs one other = other

pairs_plain : (ms : Members) → ArePlain ms → AllByRecursion IsPlainLine (pairs ms)
pairs_plain no_members plain = tt
pairs_plain (member k d ms) plain =
    let rest = pairs_plain ms plain.3 in
    all_if (is_section d) (pairs ms) ((([], k), key_value d) ∷ pairs ms) rest ((plain.0, plain.2), rest)

header_plain : (key : Key) (ms : Members) → IsAscii (dotted_text key) → AllByRecursion IsPlainLine (header_of key ms)
header_plain key ms ascii = all_if (needs_header ms) ((key, std_table) ∷ []) [] ((ascii, tt), tt) tt

longer : (key : Key) → IsAscii (dotted_text key) → IsAscii (path_text (key.0 ++ key.1 ∷ []))
longer key ascii =
    let whole = join (dotted_text key) (dot ∷ []) ascii (by_bytes (dot ∷ []) (omega arith, tt)) in
    subst IsAscii (append_assoc (path_text key.0) (key_text key.1) (dot ∷ []) ∙ sym (path_text-last key.0 key.1)) whole

mutual
  sections_plain : (path : List (List ℕ)) (ms : Members) → IsAscii (path_text path) → ArePlain ms → AllByRecursion IsPlainLine (sections path ms)
  sections_plain path no_members ascii plain = tt
  sections_plain path (member k d ms) ascii plain =
      all_joined (section (path, k) d) (sections path ms) (section_plain (path, k) d (join _ _ ascii plain.0) plain.2) (sections_plain path ms ascii plain.3)

  section_plain : (key : Key) (d : Data) → IsAscii (dotted_text key) → IsPlain d → AllByRecursion IsPlainLine (section key d)
  section_plain key (table ms) ascii plain =
      all_joined (header_of key ms) _ (header_plain key ms ascii) (all_joined (pairs ms) _ (pairs_plain ms plain) (sections_plain (key.0 ++ key.1 ∷ []) ms (longer key ascii) plain))
  section_plain key (array ds) ascii plain = all_if (are_tables ds) (elements key ds) [] (elements_plain key ds ascii plain) tt
  section_plain key (string s) ascii plain = tt
  section_plain key (integer z) ascii plain = tt
  section_plain key (float x) ascii plain = tt
  section_plain key (boolean b) ascii plain = tt
  section_plain key (datetime dt) ascii plain = tt

  elements_plain : (key : Key) (ds : Items) → IsAscii (dotted_text key) → ArePlainItems ds → AllByRecursion IsPlainLine (elements key ds)
  elements_plain key no_items ascii plain = tt
  elements_plain key (item (table ms) ds) ascii plain = (
    (ascii, tt),
    all_joined (pairs ms ++ sections (key.0 ++ key.1 ∷ []) ms) (elements key ds)
        (all_joined (pairs ms) _ (pairs_plain ms plain.0) (sections_plain (key.0 ++ key.1 ∷ []) ms (longer key ascii) plain.0)) (elements_plain key ds ascii plain.1),
  )
  elements_plain key (item (array es) ds) ascii plain = elements_plain key ds ascii plain.1
  elements_plain key (item (string s) ds) ascii plain = elements_plain key ds ascii plain.1
  elements_plain key (item (integer z) ds) ascii plain = elements_plain key ds ascii plain.1
  elements_plain key (item (float x) ds) ascii plain = elements_plain key ds ascii plain.1
  elements_plain key (item (boolean b) ds) ascii plain = elements_plain key ds ascii plain.1
  elements_plain key (item (datetime dt) ds) ascii plain = elements_plain key ds ascii plain.1

-- a text of plain members is ASCII
pub document_ascii : (ms : Members) → ArePlain ms → (text : List ℕ) → IsDocumentText false ms text → IsAscii text
document_ascii ms plain text is =
    lines_ascii false (expressions ms) (all_joined (pairs ms) (sections [] ms) (pairs_plain ms plain) (sections_plain [] ms IsAscii-nil plain)) text is
