-- What the lines that are left say, where the first of them is taken.
use Rattle.std.proofs.Common.{◌≡◌, ◌≢◌, ℕ, ◌+◌, ◌^◌, ◌<◌, ◌≤◌, Bool, true, false, cond, Option, Some, None, List, [], ◌∷◌, length, length-append, drop, refl, sym, ap, ◌∙◌, subst, arith}
use Rattle.std.specs.Prelude.{codes, filter, ◌==◌, is_some, not}
use Rattle.std.specs.List.{join_with_byte}
use denote.Bor.{Bor}
use Rattle.cl_edit.specs.{declared.{cursor.Cursor.Cursor, edit.Edit.Edit, edit_lines.ListedEdit.ListedEdit, version.Version.{Version, TheVariants.{One, Two}}}, Said.{Said, lines, is_blank, has_bytes, words_of, plain, says, unended, ended_from, spoken_from, said_from, IsTitle, IsTitled}}
use Rattle.cl_edit.specs.Inner.{Left.{lines_left, said_in, HasNumbers, titled_version, AreBehindTitle, IsTaken, IsNoneTaken, SaysThis, ReadsFirst, SaysNone}, LineReads.{fields_in, words_in, edit_in}, Parts.parts}
use Rattle.cl_edit.proofs.{FirstLists.{said_at, ended_more, joined_lines}, LineMeanings.{edit_back, edit_said}, Titles.{some_line, last_left, titled_by}}

-- ---- no line is left

none_from : (version : Version) (n : ℕ) → said_from version n [] ≡ []
unfolding said_from
none_from One n = refl
none_from Two n = refl

pub none_left : (version : Version) (before after : Cursor) → IsNoneTaken before after → ReadsFirst version None (said_in version before) (said_in version after)
none_left version before after taken =
    let none : said_in version before ≡ [] = ap (said_from version before.number) taken.lines ∙ none_from version before.number in
    (none, ap (said_in version) taken.same ∙ none)

-- ---- a line is taken

module _ (number : ℕ) (line : List ℕ) (before after : Cursor) (taken : IsTaken number line before after) where
  -- one with an end
  pub taken_ended : (rest : Bor (List ℕ)) → after.left ≡ Some rest → said_in One before ≡ said_at number line ∷ said_in One after
  unfolding said_from
  taken_ended rest is =
      let some : lines_left after.left ≢ [] = subst (λ left. lines_left left ≢ []) (sym is) (some_line rest.now) in
      ap (ended_from before.number) taken.lines ∙ ended_more before.number line (lines_left after.left) some
      ∙ ap (λ n. said_at n line ∷ ended_from (before.number + 1) (lines_left after.left)) (sym taken.number_is)
      ∙ ap (λ n. said_at number line ∷ ended_from n (lines_left after.left)) (sym taken.next)

  -- the last one
  pub taken_last : after.left ≡ None → (said_in One before ≡ unended number line) × (said_in One after ≡ [])
  unfolding said_from
  taken_last is =
      let none : lines_left after.left ≡ [] = ap lines_left is in (
        ap (ended_from before.number) (taken.lines ∙ ap (λ ls. line ∷ ls) none) ∙ ap (λ n. unended n line) (sym taken.number_is),
        ap (ended_from after.number) none,
      )

  -- one that says something, or nothing
  pub taken_spoken : (form : List ℕ) → form ≡ plain line → says form ≡ true → said_in Two before ≡ said_at number form ∷ said_in Two after
  unfolding said_from
  taken_spoken form is spoken =
      let others = spoken_from (before.number + 1) (lines_left after.left) in
      ap (spoken_from before.number) taken.lines
      ∙ ap (λ b. cond b (said_at before.number (plain line) ∷ others) others) (ap says (sym is) ∙ spoken)
      ∙ ap (λ text. said_at before.number text ∷ others) (sym is)
      ∙ ap (λ n. said_at n form ∷ others) (sym taken.number_is)
      ∙ ap (λ n. said_at number form ∷ spoken_from n (lines_left after.left)) (sym taken.next)

  pub taken_unspoken : (form : List ℕ) → form ≡ plain line → says form ≡ false → said_in Two before ≡ said_in Two after
  unfolding said_from
  taken_unspoken form is unspoken =
      let others = spoken_from (before.number + 1) (lines_left after.left) in
      ap (spoken_from before.number) taken.lines
      ∙ ap (λ b. cond b (said_at before.number (plain line) ∷ others) others) (ap says (sym is) ∙ unspoken)
      ∙ ap (λ n. spoken_from n (lines_left after.left)) (sym taken.next)

-- ---- what it says

pub reads_first : (version : Version) (before behind : List Said) (said : Said) (listed : ListedEdit) → before ≡ said ∷ behind → SaysThis version said listed
    → ReadsFirst version (Some listed) before behind
reads_first version before behind said listed is says_it = (is ∙ ap (λ s. s ∷ behind) says_it.0, says_it.1)

pub says_none : (version : Version) (before behind : List Said) (line : ℕ) (text : List ℕ) (number : ℕ) → before ≡ said_at line text ∷ behind
    → edit_in version text ≡ None → number ≡ line
    → SaysNone version before number
says_none version before behind line text number is unread same = record {
  first = said_at line text;
  behind = behind;
  are = is;
  none = λ edit good equal. let read : edit_in version text ≡ Some edit = ap (edit_in version) equal ∙ edit_back version edit good in cc;
  counted = same;
}

nothing_read : edit_in One [] ≡ None
unfolding edit_in words_in fields_in parts
nothing_read = refl

-- a last line that isn't empty says none
pub last_says_none : (before : List Said) (line : ℕ) (bytes : List ℕ) (number : ℕ) → before ≡ unended line bytes → bytes ≢ [] → number ≡ line → SaysNone One before number
last_says_none before line [] number is some same = absurd (some refl)
last_says_none before line (byte ∷ bytes) number is some same = says_none One before [] line [] number is nothing_read same

pub last_says_nothing : (before after : List Said) (line : ℕ) (bytes : List ℕ) → before ≡ unended line bytes → bytes ≡ [] → after ≡ [] → ReadsFirst One None before after
last_says_nothing before after line bytes is none behind = (is ∙ ap (unended line) none, behind)

-- ---- a title is long enough for all numbers

-- the plain form of one byte is short
words_short : (b : Bool) (byte : ℕ) → join_with_byte 0x20 (filter has_bytes (cond b ([] ∷ [] ∷ []) ((byte ∷ []) ∷ []))) ≡ codes "chainlat edits 2" → ⊥
words_short true byte is = cc
words_short false byte is = cc

return_short : (b : Bool) (byte : ℕ) → join_with_byte 0x20 (words_of (cond b [] (byte ∷ []))) ≡ codes "chainlat edits 2" → ⊥
return_short true byte is = cc
return_short false byte is = words_short (is_blank byte) byte is

mark_short : (b : Bool) (byte : ℕ) → plain (cond b (drop 3 (byte ∷ [])) (byte ∷ [])) ≡ codes "chainlat edits 2" → ⊥
unfolding plain
mark_short true byte is = cc
mark_short false byte is = return_short (byte == 0x0D) byte is

title_long : (version : Version) (title : List ℕ) (others : List (List ℕ)) → IsTitle version title others → 2 ≤ length title
unfolding plain
title_long One title others is = omega (arith, ap length is.0)
title_long Two [] others is = absurd (cc)
title_long Two (byte ∷ []) others is = absurd (mark_short _ byte is)
title_long Two (byte ∷ next ∷ title) others is = omega arith

-- there are no more lines than bytes and one
joined_long : (s : ℕ) (others : List (List ℕ)) (first : List ℕ) → length first + length others ≤ length (join_with_byte s (first ∷ others))
joined_long s [] first = omega arith
joined_long s (next ∷ others) first = omega (arith, joined_long s others next, length-append first (s ∷ join_with_byte s (next ∷ others)))

numbers_fit : (text : List ℕ) (left : Cursor) → IsTitled left.version text (lines_left left.left) → left.number ≡ 2 → length text < 2 ^ 64 → HasNumbers left
numbers_fit text left titled second short =
    let whole : join_with_byte 0x0A (titled.title ∷ lines_left left.left) ≡ text = ap (join_with_byte 0x0A) (sym titled.parts) ∙ joined_lines text in
    omega (arith, title_long left.version titled.title (lines_left left.left) titled.is, joined_long 0x0A (lines_left left.left) titled.title, ap length whole, short, second)

-- ---- what is read of a title and of a line

pub behind_title : (text title : List ℕ) (left : Option (Bor (List ℕ))) (last : Bool) (version : Version) → lines text ≡ title ∷ lines_left left → is_some left ≡ not last
    → Some version ≡ titled_version title last → length text < 2 ^ 64 → AreBehindTitle text (record { version = version; left = left; number = 2 })
behind_title text title left last version are same is short =
    let titled = titled_by text title (lines_left left) last (last_left left last same) are version (sym is) in
    record { titled = titled; second = refl; numbered = numbers_fit text (record { version = version; left = left; number = 2 }) titled refl short }

pub says_this : (version : Version) (line : ℕ) (text : List ℕ) (edit : Edit) → edit_in version text ≡ Some edit
    → SaysThis version (said_at line text) (record { line = line; edit = edit })
says_this version line text edit read = let says_it = edit_said version text edit read in (ap (said_at line) says_it.1, says_it.0)

pub nothing : (bytes : List ℕ) → length bytes ≡ 0 → bytes ≡ []
nothing [] is = refl
nothing (byte ∷ bytes) is = absurd (omega arith)
