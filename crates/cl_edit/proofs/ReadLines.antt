-- The lines of a list that are read one after another, and not kept.
use Rattle.std.proofs.Common.{◌≡◌, ℕ, ◌+◌, Bool, true, false, cond, Option, Some, None, List, [], ◌∷◌, ◌++◌, length, length-append, refl, sym, ap, ◌∙◌, subst, arith}
use Rattle.std.specs.Prelude.{All, map, Ok, Err, nat_le, ◌&&◌, ◌||◌}
use Rattle.std.proofs.lemmas.List.{append-nil, length-map}
use Rattle.std.proofs.lemmas.List.Elements.{All-nil, All-head, All-tail}
use Rattle.std.proofs.lemmas.Bool.Decides.{nat_tests}
use Rattle.cl_text.specs.declared.fault.LinesFault.{LinesFault, TheVariants.BadLine}
use Rattle.cl_edit.specs.{declared.{cursor.Cursor.Cursor, edit.Edit.Edit, edit_lines.{Counted.Counted, ListedEdit.ListedEdit}, limits.TheConstants.{MOST_EDITS, MOST_REPORTS}, version.Version.Version}, Listed.GivesNext, Reading.{IsLineEdit, writes_text, edits_of, said_of, AreEditsOf}}
use Rattle.cl_edit.specs.{Reading.IsBadEditLine, Said.{Said, said_from}, Inner.{Counts.{is_full, with_one, counted_with}, Left.{lines_left, said_left, edits_said, edits_left, HasNumbers, AreLeft, AreBehindTitle, ReadsFirst, SaysNone}}}
use Rattle.cl_edit.proofs.{Listings.{written_in, written_more, HasRoom, edits_more, edits_again, read_first}, Titles.one_title, SomeAnswer.{AreSoFar, all_so_far, none_said, no_room, one_so_far}}

-- ---- counts

no_room_by : (full written most : Bool) → (full || (written && most)) ≡ false → (full ≡ false) × (written ≡ true → most ≡ false)
no_room_by true written most is = absurd (cc)
no_room_by false true true is = absurd (cc)
no_room_by false true false is = (refl, λ yes. refl)
no_room_by false false most is = (refl, λ yes. absurd (cc))

room_by : (full written most : Bool) → (full || (written && most)) ≡ true → full ≡ false → (written ≡ true → most ≡ false) → ⊥
room_by true written most is low few = cc
room_by false true most is low few = let none : most ≡ false = few refl in cc
room_by false false most is low few = cc

not_full : (counted : Counted) (edit : Edit) → is_full counted edit ≡ false → HasRoom counted.edits counted.written edit
not_full counted edit is =
    let tests = no_room_by (nat_le MOST_EDITS counted.edits) (writes_text edit) (nat_le MOST_REPORTS counted.written) is in
    record { few = grind (arith, nat_tests, tests.0); few_written = λ yes. let few = tests.1 yes in grind (arith, nat_tests, few) }

full : (counted : Counted) (edit : Edit) → is_full counted edit ≡ true → ¬ HasRoom counted.edits counted.written edit
full counted edit is room = room_by (nat_le MOST_EDITS counted.edits) (writes_text edit) (nat_le MOST_REPORTS counted.written) is
    (grind (arith, nat_tests, room.few)) (λ yes. let few = room.few_written yes in grind (arith, nat_tests, few))

of_count : (b : Bool) (line : ℕ) (more counted : Counted) → Ok counted ≡ cond b (Err (BadLine line)) (Ok more) → (b ≡ false) × (counted ≡ more)
of_count true line more counted is = absurd (cc)
of_count false line more counted is = (refl, cc)

of_fault : (b : Bool) (line : ℕ) (more : Counted) (fault : LinesFault) → Err fault ≡ cond b (Err (BadLine line)) (Ok more) → (b ≡ true) × (fault ≡ BadLine line)
of_fault true line more fault is = (refl, cc)
of_fault false line more fault is = absurd (cc)

room_of : (counted more : Counted) (listed : ListedEdit) → Ok more ≡ counted_with counted listed
    → HasRoom counted.edits counted.written listed.edit × (more ≡ with_one counted listed.edit)
room_of counted more listed is =
    let passed = of_count (is_full counted listed.edit) listed.line (with_one counted listed.edit) more is in
    (not_full counted listed.edit passed.0, passed.1)

no_room_of : (counted : Counted) (listed : ListedEdit) (fault : LinesFault) → Err fault ≡ counted_with counted listed
    → ¬ HasRoom counted.edits counted.written listed.edit × (fault ≡ BadLine listed.line)
no_room_of counted listed fault is =
    let failed = of_fault (is_full counted listed.edit) listed.line (with_one counted listed.edit) fault is in
    (full counted listed.edit failed.0, failed.1)

-- ---- the lines so far

-- the lines behind the title say so many edits, so many of them with something written, and what is left
pub record AreRead (text : List ℕ) (left lines : Cursor) (counted : Counted) : Type 0 where
  pub behind : AreBehindTitle text left
  pub listed : List ListedEdit
  pub far : AreSoFar text left.version listed (said_left lines)
  pub version : lines.version ≡ left.version
  pub edits : counted.edits ≡ length (edits_of listed)
  pub written : counted.written ≡ written_in (edits_of listed)

module _ (text : List ℕ) (left lines : Cursor) (counted : Counted) (read : AreRead text left lines counted) where
  room_here : (edit : Edit) → HasRoom counted.edits counted.written edit → HasRoom (length (edits_of read.listed)) (written_in (edits_of read.listed)) edit
  room_here edit room = subst (λ n. HasRoom (length (edits_of read.listed)) n edit) read.written (subst (λ n. HasRoom n counted.written edit) read.edits room)

  room_there : (edit : Edit) → HasRoom (length (edits_of read.listed)) (written_in (edits_of read.listed)) edit → HasRoom counted.edits counted.written edit
  room_there edit room =
      subst (λ n. HasRoom n counted.written edit) (sym read.edits) (subst (λ n. HasRoom (length (edits_of read.listed)) n edit) (sym read.written) room)

  -- a line that says none
  pub stuck_read : (number : ℕ) → SaysNone lines.version (said_left lines) number → IsBadEditLine text number
  stuck_read number none =
      subst (IsBadEditLine text) (sym none.counted) (none_said text left.version read.listed none.first none.behind (subst (AreSoFar text left.version read.listed) none.are read.far)
      (λ edit line. none.none edit (subst (λ v. IsLineEdit v edit) (sym read.version) line)))

  module _ (after : Cursor) (next : Option ListedEdit) (one : ListedEdit) (is : next ≡ Some one) (reads : ReadsFirst lines.version next (said_left lines) (said_left after)) where
    first : ReadsFirst lines.version (Some one) (said_left lines) (said_left after)
    first = subst (λ it. ReadsFirst lines.version it (said_left lines) (said_left after)) is reads

    far : AreSoFar text left.version read.listed (said_of one ∷ said_left after)
    far = subst (AreSoFar text left.version read.listed) first.0 read.far

    line_is : IsLineEdit left.version one.edit
    line_is = subst (λ v. IsLineEdit v one.edit) read.version first.1

    -- one more line
    pub one_read : (more : Counted) → after.version ≡ lines.version → Ok more ≡ counted_with counted one → AreRead text left after more
    one_read more same count =
        let room = room_of counted more one count in
        record {
          behind = read.behind;
          listed = read.listed ++ one ∷ [];
          far = one_so_far text left.version read.listed one (said_left after) far line_is (room_here one.edit room.0);
          version = same ∙ read.version;
          edits = ap (λ (c : Counted). c.edits) room.1
              ∙ omega (arith, read.edits, ap length (edits_more read.listed (one ∷ [])), length-append (edits_of read.listed) (one.edit ∷ []));
          written =
              ap (λ (c : Counted). c.written) room.1 ∙ ap (λ n. n + cond (writes_text one.edit) 1 0) read.written
              ∙ sym (written_more (edits_of read.listed) one.edit)
              ∙ ap written_in (sym (edits_more read.listed (one ∷ [])));
        }

    -- or one too many
    pub full_read : (fault : LinesFault) (number : ℕ) → Err fault ≡ counted_with counted one → fault ≡ BadLine number → IsBadEditLine text number
    full_read fault number count named =
        let none = no_room_of counted one fault count in
        let same : one.line ≡ number = cc in
        subst (IsBadEditLine text) same (no_room text left.version read.listed one (said_left after) far line_is (λ room. none.0 (room_there one.edit room)))

  -- all lines
  all_said : said_left lines ≡ [] → said_left left ≡ map said_of read.listed
  all_said none =
      let others : read.far.others ≡ lines_left left.left = (one_title text left.version left.version read.far.others (lines_left left.left) read.far.titled read.behind.titled).1 in
      ap (λ n. said_from left.version n (lines_left left.left)) read.behind.second ∙ ap (said_from left.version 2) (sym others) ∙ read.far.said
      ∙ ap (λ said. map said_of read.listed ++ said) none ∙ append-nil (map said_of read.listed)

  all_edits : said_left lines ≡ [] → edits_left left ≡ read.listed
  unfolding edits_left
  all_edits none = ap (edits_said left.version) (all_said none) ∙ edits_again left.version read.listed read.far.may.lines

  pub all_read : said_left lines ≡ [] → AreEditsOf text (edits_left left)
  all_read none = subst (AreEditsOf text) (sym (all_edits none)) (all_so_far text left.version read.listed (subst (AreSoFar text left.version read.listed) none read.far))

  pub all_left : said_left lines ≡ [] → AreLeft left
  all_left none = record {
    said = all_said none ∙ ap (map said_of) (sym (all_edits none));
    lines = subst (λ (listed : List ListedEdit). All (IsLineEdit left.version) (edits_of listed)) (sym (all_edits none)) read.far.may.lines;
    few = omega (arith, ap length (all_edits none), read.far.may.few, length-map read.listed (λ (one : ListedEdit). one.edit));
    numbered = read.behind.numbered;
  }

-- ---- the next line

module _ (before after : Cursor) (left : AreLeft before) (numbered : HasNumbers after) (same : after.version ≡ before.version) where
  abbrev version : Version
  version = before.version

  -- what is left behind the first edit
  behind_one : (one : ListedEdit) → ReadsFirst version (Some one) (said_left before) (said_left after) → edits_left before ≡ one ∷ edits_left after
  unfolding edits_left
  behind_one one first =
      ap (edits_said version) first.0 ∙ read_first version one (edits_said version (said_left after)) first.1
      ∙ ap (λ v. one ∷ edits_said v (said_left after)) (sym same)

  behind_none : ReadsFirst version None (said_left before) (said_left after) → (edits_left before ≡ []) × (edits_left after ≡ [])
  unfolding edits_left
  behind_none first = (ap (edits_said version) first.0, ap (edits_said after.version) first.1)

  pub left_by : (next : Option ListedEdit) → ReadsFirst version next (said_left before) (said_left after) → AreLeft after
  left_by None first =
      let none = behind_none first in
      record {
        said = first.1 ∙ ap (map said_of) (sym none.1);
        lines = subst (λ (listed : List ListedEdit). All (IsLineEdit after.version) (edits_of listed)) (sym none.1) (All-nil (IsLineEdit after.version));
        few = omega (arith, ap length none.1);
        numbered = numbered;
      }
  left_by (Some one) first =
      let is = behind_one one first in
      let whole : said_of one ∷ said_left after ≡ said_of one ∷ map said_of (edits_left after) = sym first.0 ∙ left.said ∙ ap (map said_of) is in
      let lines : All (IsLineEdit version) (one.edit ∷ edits_of (edits_left after)) = subst (λ (listed : List ListedEdit). All (IsLineEdit version) (edits_of listed)) is left.lines in
      record {
        said = cc;
        lines = subst (λ v. All (IsLineEdit v) (edits_of (edits_left after))) (sym same) (All-tail (IsLineEdit version) one.edit (edits_of (edits_left after)) lines);
        few = omega (arith, ap length is, left.few);
        numbered = numbered;
      }

  pub gives_next : (next : Option ListedEdit) → ReadsFirst version next (said_left before) (said_left after) → GivesNext next (edits_left before) (edits_left after)
  gives_next None first = (behind_none first).0
  gives_next (Some one) first = behind_one one first

-- each line that is left says an edit
pub none_stuck : (before : Cursor) (number : ℕ) → AreLeft before → SaysNone before.version (said_left before) number → ⊥
none_stuck before number left none = by_edits (edits_left before) left.said left.lines
  where
    by_edits : (listed : List ListedEdit) → said_left before ≡ map said_of listed → All (IsLineEdit before.version) (edits_of listed) → ⊥
    by_edits [] said lines = let are = none.are in absurd (cc)
    by_edits (one ∷ listed) said lines =
        let are = none.are in
        let is : none.first ≡ said_of one = cc in
        none.none one.edit (All-head (IsLineEdit before.version) one.edit (edits_of listed) lines) (ap (λ (s : Said). s.text) is)

-- where no edit is read, no line is left
pub none_next : (version : Version) (next : Option ListedEdit) (before after : List Said) → next ≡ None → ReadsFirst version next before after → before ≡ []
none_next version None before after is first = first.0
none_next version (Some one) before after is first = absurd (cc)
