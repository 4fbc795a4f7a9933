-- Lists of version 1 by their bytes, and with the title of version 2.
use Rattle.std.proofs.Common.{◌≡◌, ◌≢◌, ℕ, ◌+◌, true, not, List, [], ◌∷◌, ◌++◌, append_assoc, refl, sym, ap, ◌∙◌, subst}
use Rattle.std.specs.Prelude.{All, map, codes}
use Rattle.std.specs.List.{flat_map, join_with_byte}
use Rattle.std.proofs.lemmas.List.Elements.{All-head, All-tail}
use Rattle.memchr.specs.Find.{is_byte}
use Rattle.cl_text.specs.Line.{line}
use Rattle.cl_edit.specs.{declared.{edit.Edit.Edit, edit_lines.ListedEdit.ListedEdit, version.Version.TheVariants.{One, Two}}, FirstLists.{AreNumberedFrom, IsFirstList}, Lines.edit_text, Reading.{IsLineEdit, MayBeListed, edits_of, said_of, AreEditsOf}, Said.{Said, lines, plain, says}}
use Rattle.cl_edit.specs.{Said.{unended, ended_from, spoken_from, said_from, IsTitled}, Inner.Parts.parts}
use Rattle.cl_edit.proofs.{LineMeanings.of_later, PartFacts.{Lacks, part_before, joined_parts}, NamesFacts.lacks_of, PlainLines.{edit_lacks, plain_edit, says_edit}, Titles.{some_line, one_title}}

-- ---- lines of edits

abbrev text_of : ListedEdit → List ℕ
text_of one = line (edit_text one.edit)

abbrev AreLines : List ListedEdit → Type 0
AreLines listed = All (IsLineEdit One) (edits_of listed)

abbrev pub said_at : ℕ → List ℕ → Said
said_at n text = record { line = n; text = text }

-- no edit says nothing
no_text : (edit : Edit) → [] ≡ edit_text edit → ⊥
no_text edit is = let yes = ap says is ∙ says_edit edit in absurd (cc)

-- a line that has no end says no edit
not_ended : (n : ℕ) (last : List ℕ) (one : ListedEdit) (listed : List ListedEdit) → unended n last ≡ said_of one ∷ map said_of listed → ⊥
not_ended n [] one listed is = cc
not_ended n (byte ∷ bytes) one listed is = let same : said_at n [] ≡ said_of one = cc in no_text one.edit (ap (λ (s : Said). s.text) same)

none_listed : (n : ℕ) (last : List ℕ) → unended n last ≡ [] → last ≡ []
none_listed n [] is = refl
none_listed n (byte ∷ bytes) is = absurd (cc)

abbrev IsWritten : List (List ℕ) → (n : ℕ) → List ListedEdit → Type 0
IsWritten others n listed = (join_with_byte 0x0A others ≡ flat_map text_of listed) × AreNumberedFrom n listed

-- lines that say edits are their lines
written_by : (others : List (List ℕ)) (n : ℕ) (listed : List ListedEdit) → others ≢ [] → ended_from n others ≡ map said_of listed → IsWritten others n listed
written_by [] n listed some said = absurd (some refl)
written_by (last ∷ []) n [] some said = (none_listed n last said, tt)
written_by (last ∷ []) n (one ∷ listed) some said = absurd (not_ended n last one listed said)
written_by (first ∷ next ∷ others) n [] some said = absurd (cc)
written_by (first ∷ next ∷ others) n (one ∷ listed) some said =
    let same : said_at n first ≡ said_of one = cc in
    let behind : ended_from (n + 1) (next ∷ others) ≡ map said_of listed = cc in
    let text : first ≡ edit_text one.edit = ap (λ (s : Said). s.text) same in
    let number : n ≡ one.line = ap (λ (s : Said). s.line) same in
    let more = written_by (next ∷ others) (n + 1) listed (λ none. cc) behind in (
      ap (λ t. t ++ 0x0A ∷ join_with_byte 0x0A (next ∷ others)) text ∙ ap (λ t. edit_text one.edit ++ 0x0A ∷ t) more.0
          ∙ sym (append_assoc (edit_text one.edit) (0x0A ∷ []) (flat_map text_of listed)),
      (sym number, more.1),
    )

-- and back
pub ended_more : (n : ℕ) (first : List ℕ) (others : List (List ℕ)) → others ≢ [] → ended_from n (first ∷ others) ≡ said_at n first ∷ ended_from (n + 1) others
ended_more n first [] some = absurd (some refl)
ended_more n first (next ∷ others) some = refl

first_line : (text rest : List ℕ) → Lacks 0x0A text → lines (line text ++ rest) ≡ text ∷ lines rest
unfolding parts
first_line text rest free = ap lines (append_assoc text (0x0A ∷ []) rest) ∙ part_before 0x0A text rest free

ended_by : (listed : List ListedEdit) (n : ℕ) → AreLines listed → AreNumberedFrom n listed → ended_from n (lines (flat_map text_of listed)) ≡ map said_of listed
ended_by [] n good numbered = refl
ended_by (one ∷ listed) n good numbered =
    let free = edit_lacks 0x0A one.edit refl refl (of_later One one.edit (All-head (IsLineEdit One) one.edit (edits_of listed) good)) in
    ap (ended_from n) (first_line (edit_text one.edit) (flat_map text_of listed) free)
    ∙ ended_more n (edit_text one.edit) (lines (flat_map text_of listed)) (some_line (flat_map text_of listed))
    ∙ ap (λ m. said_at m (edit_text one.edit) ∷ ended_from (n + 1) (lines (flat_map text_of listed))) (sym numbered.0)
    ∙ ap (λ said. said_of one ∷ said) (ended_by listed (n + 1) (All-tail (IsLineEdit One) one.edit (edits_of listed) good) numbered.1)

-- ---- lists of version 1

one_lacks : Lacks 0x0A (codes "chainlat edits 1")
one_lacks = lacks_of 0x0A (λ byte. not (is_byte 0x0A byte)) (codes "chainlat edits 1") refl refl

title_of_one : (rest : List ℕ) → IsTitled One (line (codes "chainlat edits 1") ++ rest) (lines rest)
title_of_one rest = record { title = codes "chainlat edits 1"; parts = first_line (codes "chainlat edits 1") rest one_lacks; is = (refl, some_line rest) }

said_one : (n : ℕ) (others : List (List ℕ)) (listed : List ListedEdit) → ended_from n others ≡ map said_of listed → said_from One n others ≡ map said_of listed
unfolding said_from
said_one n others listed is = is

pub listed_of : (text : List ℕ) (listed : List ListedEdit) → IsFirstList text listed → (are : AreEditsOf text listed) × (are.version ≡ One)
listed_of text listed first = (
  record {
    version = One;
    others = lines (flat_map text_of listed);
    titled = subst (λ t. IsTitled One t (lines (flat_map text_of listed))) (sym first.written) (title_of_one (flat_map text_of listed));
    said = said_one 2 (lines (flat_map text_of listed)) listed (ended_by listed 2 first.may.lines first.numbered);
    may = first.may;
  },
  refl,
)

-- what a list of version 1 says, by its lines
said_ended : (n : ℕ) (others : List (List ℕ)) (listed : List ListedEdit) → said_from One n others ≡ map said_of listed → ended_from n others ≡ map said_of listed
unfolding said_from
said_ended n others listed is = is

joined_after : (title : List ℕ) (others : List (List ℕ)) → others ≢ [] → join_with_byte 0x0A (title ∷ others) ≡ line title ++ join_with_byte 0x0A others
joined_after title [] some = absurd (some refl)
joined_after title (next ∷ others) some = sym (append_assoc title (0x0A ∷ []) (join_with_byte 0x0A (next ∷ others)))

pub joined_lines : (text : List ℕ) → join_with_byte 0x0A (lines text) ≡ text
unfolding parts
joined_lines text = joined_parts 0x0A text

lines_by_one : (text : List ℕ) (listed : List ListedEdit) (others : List (List ℕ)) → IsTitled One text others → said_from One 2 others ≡ map said_of listed
    → MayBeListed One (edits_of listed)
    → IsFirstList text listed
lines_by_one text listed others titled said may =
    let written = written_by others 2 listed titled.is.1 (said_ended 2 others listed said) in
    record {
      written = sym (joined_lines text) ∙ ap (join_with_byte 0x0A) titled.parts ∙ joined_after titled.title others titled.is.1
          ∙ ap (λ t. line t ++ join_with_byte 0x0A others) titled.is.0 ∙ ap (λ t. line (codes "chainlat edits 1") ++ t) written.0;
      numbered = written.1;
      may = may;
    }

pub lines_of : (text : List ℕ) (listed : List ListedEdit) → (are : AreEditsOf text listed) → are.version ≡ One → IsFirstList text listed
lines_of text listed are one =
    lines_by_one text listed are.others (subst (λ v. IsTitled v text are.others) one are.titled) (subst (λ v. said_from v 2 are.others ≡ map said_of listed) one are.said)
    (subst (λ v. MayBeListed v (edits_of listed)) one are.may)

-- ---- with the title of version 2

two_lacks : Lacks 0x0A (codes "chainlat edits 2")
two_lacks = lacks_of 0x0A (λ byte. not (is_byte 0x0A byte)) (codes "chainlat edits 2") refl refl

title_of_two : (rest : List ℕ) → IsTitled Two (line (codes "chainlat edits 2") ++ rest) (lines rest)
unfolding plain
title_of_two rest = record { title = codes "chainlat edits 2"; parts = first_line (codes "chainlat edits 2") rest two_lacks; is = refl }

spoken_more : (n : ℕ) (first : List ℕ) (others : List (List ℕ)) → plain first ≡ first → says first ≡ true
    → spoken_from n (first ∷ others) ≡ said_at n first ∷ spoken_from (n + 1) others
spoken_more n first others own says_it = rw (own, says_it) refl

nothing_said : (n : ℕ) → spoken_from n ([] ∷ []) ≡ []
unfolding plain
nothing_said n = refl

-- lines that say edits in version 1 say the same in version 2
spoken_by : (others : List (List ℕ)) (n : ℕ) (listed : List ListedEdit) → AreLines listed → ended_from n others ≡ map said_of listed
    → spoken_from n others ≡ map said_of listed
spoken_by [] n listed good said = said
spoken_by (last ∷ []) n [] good said = ap (λ l. spoken_from n (l ∷ [])) (none_listed n last said) ∙ nothing_said n
spoken_by (last ∷ []) n (one ∷ listed) good said = absurd (not_ended n last one listed said)
spoken_by (first ∷ next ∷ others) n [] good said = absurd (cc)
spoken_by (first ∷ next ∷ others) n (one ∷ listed) good said =
    let same : said_at n first ≡ said_of one = cc in
    let behind : ended_from (n + 1) (next ∷ others) ≡ map said_of listed = cc in
    let text : first ≡ edit_text one.edit = ap (λ (s : Said). s.text) same in
    let line = of_later One one.edit (All-head (IsLineEdit One) one.edit (edits_of listed) good) in
    let more = spoken_by (next ∷ others) (n + 1) listed (All-tail (IsLineEdit One) one.edit (edits_of listed) good) behind in
    spoken_more n first (next ∷ others) (ap plain text ∙ plain_edit one.edit line ∙ sym text) (ap says text ∙ says_edit one.edit)
    ∙ ap (λ s. s ∷ spoken_from (n + 1) (next ∷ others)) same ∙ ap (λ said. said_of one ∷ said) more

later_listed : (edits : List Edit) → MayBeListed One edits → MayBeListed Two edits
later_listed edits may = record { lines = λ k d within. of_later One _ (may.lines k d within); few = may.few; few_written = may.few_written }

said_two : (n : ℕ) (others : List (List ℕ)) (listed : List ListedEdit) → spoken_from n others ≡ map said_of listed → said_from Two n others ≡ map said_of listed
unfolding said_from
said_two n others listed is = is

pub same_list : (rest : List ℕ) (listed : List ListedEdit) → AreEditsOf (line (codes "chainlat edits 1") ++ rest) listed
    → AreEditsOf (line (codes "chainlat edits 2") ++ rest) listed
same_list rest listed are =
    let same = one_title (line (codes "chainlat edits 1") ++ rest) are.version One are.others (lines rest) are.titled (title_of_one rest) in
    let may : MayBeListed One (edits_of listed) = subst (λ v. MayBeListed v (edits_of listed)) same.0 are.may in
    let said : said_from One 2 (lines rest) ≡ map said_of listed
    = subst (λ v. said_from v 2 (lines rest) ≡ map said_of listed) same.0 (ap (said_from are.version 2) (sym same.1) ∙ are.said) in
    record {
      version = Two;
      others = lines rest;
      titled = title_of_two rest;
      said = said_two 2 (lines rest) listed (spoken_by (lines rest) 2 listed may.lines (said_ended 2 (lines rest) listed said));
      may = later_listed (edits_of listed) may;
    }
