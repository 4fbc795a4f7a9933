-- Each text lists edits, or has a first bad line: what its lines say is read one after another.
use Rattle.std.proofs.Common.{◌≡◌, ℕ, ◌⊎◌, inl, inr, Option, Some, None, List, [], ◌∷◌, ◌++◌, length, append_assoc, refl, sym, ap, ◌∙◌, subst}
use Rattle.std.specs.Prelude.{map}
use Rattle.std.proofs.lemmas.List.{append-nil}
use Rattle.cl_edit.specs.{declared.{edit.Edit.Edit, edit_lines.ListedEdit.ListedEdit, version.Version.Version}, Lines.edit_text, Reading.{IsLineEdit, MayBeListed, edits_of, said_of, AreEditsOf, IsBadEditLine}, Said.{Said, said_from, IsTitled}, Inner.LineReads.edit_in}
use Rattle.cl_edit.proofs.{LineMeanings.{edit_said, edit_back}, Listings.{written_in, HasRoom, room_or_none, listed_none, listed_more, line_of_last, room_of_last, edits_more, said_more}, Titles.title_of}

abbrev HasAnswer : (text : List ℕ) → Type 0
HasAnswer text = ((listed : List ListedEdit) × AreEditsOf text listed) ⊎ ((number : ℕ) × IsBadEditLine text number)

-- ---- the edits so far, and what is left

pub record AreSoFar (text : List ℕ) (version : Version) (listed : List ListedEdit) (left : List Said) : Type 0 where
  pub others : List (List ℕ)
  pub titled : IsTitled version text others
  pub said : said_from version 2 others ≡ map said_of listed ++ left
  pub may : MayBeListed version (edits_of listed)

pub none_so_far : (text : List ℕ) (version : Version) (others : List (List ℕ)) → IsTitled version text others → AreSoFar text version [] (said_from version 2 others)
none_so_far text version others titled = record { others = others; titled = titled; said = refl; may = listed_none version }

module _ (text : List ℕ) (version : Version) (listed : List ListedEdit) where
  -- all of them
  pub all_so_far : AreSoFar text version listed [] → AreEditsOf text listed
  all_so_far far = record { version = version; others = far.others; titled = far.titled; said = far.said ∙ append-nil (map said_of listed); may = far.may }

  -- a line that says no edit
  pub none_said : (bad : Said) (behind : List Said) → AreSoFar text version listed (bad ∷ behind)
      → ((edit : Edit) → IsLineEdit version edit → bad.text ≡ edit_text edit → ⊥)
      → IsBadEditLine text bad.line
  none_said bad behind far none = inr (record {
    version = version;
    others = far.others;
    titled = far.titled;
    listed = listed;
    bad = bad;
    behind = behind;
    said = far.said;
    may = far.may;
    none = λ edit same may. none edit (line_of_last version (edits_of listed) edit may) same;
    counted = refl;
  })

  -- one that says one too many
  pub no_room : (one : ListedEdit) (behind : List Said) → AreSoFar text version listed (said_of one ∷ behind) → IsLineEdit version one.edit
      → ¬ HasRoom (length (edits_of listed)) (written_in (edits_of listed)) one.edit → IsBadEditLine text one.line
  no_room one behind far line full = inr (record {
    version = version;
    others = far.others;
    titled = far.titled;
    listed = listed;
    bad = said_of one;
    behind = behind;
    said = far.said;
    may = far.may;
    none = λ edit same may.
        let here : edit_in version (edit_text one.edit) ≡ Some one.edit = edit_back version one.edit line in
        let there : edit_in version (edit_text one.edit) ≡ Some edit = ap (edit_in version) same ∙ edit_back version edit (line_of_last version (edits_of listed) edit may) in
        let is : edit ≡ one.edit = cc in
        full (subst (HasRoom (length (edits_of listed)) (written_in (edits_of listed))) is (room_of_last version (edits_of listed) edit may));
    counted = refl;
  })

  -- or one more
  pub one_so_far : (one : ListedEdit) (behind : List Said) → AreSoFar text version listed (said_of one ∷ behind) → IsLineEdit version one.edit
      → HasRoom (length (edits_of listed)) (written_in (edits_of listed)) one.edit → AreSoFar text version (listed ++ one ∷ []) behind
  one_so_far one behind far line room = record {
    others = far.others;
    titled = far.titled;
    said = far.said ∙ sym (append_assoc (map said_of listed) (said_of one ∷ []) behind) ∙ ap (λ said. said ++ behind) (sym (said_more listed (one ∷ [])));
    may = subst (MayBeListed version) (sym (edits_more listed (one ∷ []))) (listed_more version (edits_of listed) one.edit far.may line room);
  }

-- ---- the answer

module _ (text : List ℕ) (version : Version) where
  abbrev Goes : List Said → Type 0
  Goes left = (listed : List ListedEdit) → AreSoFar text version listed left → HasAnswer text

  with_room : (one : ListedEdit) (behind : List Said) → Goes behind → (listed : List ListedEdit) → AreSoFar text version listed (said_of one ∷ behind)
      → IsLineEdit version one.edit
      → HasRoom (length (edits_of listed)) (written_in (edits_of listed)) one.edit ⊎ ¬ HasRoom (length (edits_of listed)) (written_in (edits_of listed)) one.edit → HasAnswer text
  with_room one behind goes listed far line (inl room) = goes (listed ++ one ∷ []) (one_so_far text version listed one behind far line room)
  with_room one behind goes listed far line (inr full) = inr (one.line, no_room text version listed one behind far line full)

  by_edit : (said : Said) (behind : List Said) → Goes behind → (o : Option Edit) → edit_in version said.text ≡ o → Goes (said ∷ behind)
  by_edit said behind goes None unread listed far = inr (
    said.line,
    none_said text version listed said behind far (λ edit line same.
        let read : edit_in version said.text ≡ Some edit = ap (edit_in version) same ∙ edit_back version edit line in
        absurd (cc)),
  )
  by_edit said behind goes (Some edit) read listed far =
      let says = edit_said version said.text edit read in
      let one : ListedEdit = record { line = said.line; edit = edit } in
      let same : said ≡ said_of one = ap (λ text. number_text said.line text) says.1 in
      with_room one behind goes listed (subst (λ s. AreSoFar text version listed (s ∷ behind)) same far) says.0
      (room_or_none (length (edits_of listed)) (written_in (edits_of listed)) edit)
    where
      number_text : ℕ → List ℕ → Said
      number_text line text = record { line = line; text = text }

  goes_on : (left : List Said) → Goes left
  goes_on [] listed far = inl (listed, all_so_far text version listed far)
  goes_on (said ∷ behind) listed far = by_edit said behind (goes_on behind) (edit_in version said.text) refl listed far

pub some_answer : (text : List ℕ) → HasAnswer text
some_answer text = elim (title_of text) [
  | inl titled ↦ goes_on text titled.version (said_from titled.version 2 titled.others) [] (none_so_far text titled.version titled.others titled.titled)
  | inr none ↦ inr (1, inl none)
]
