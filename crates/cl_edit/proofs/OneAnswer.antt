-- A text lists one list of edits at most, or has one first bad line.
use Rattle.std.proofs.Common.{◌≡◌, ℕ, ◌⊎◌, inl, inr, List, [], ◌∷◌, ◌++◌, refl, sym, ap, ◌∙◌, subst}
use Rattle.std.specs.Prelude.{All, map, Result, Ok, Err}
use Rattle.std.specs.Result.{IsErr, IsErrAnd}
use Rattle.std.proofs.lemmas.List.{append-nil}
use Rattle.std.proofs.lemmas.List.Elements.{All-head, All-tail}
use Rattle.cl_text.specs.{declared.fault.LinesFault.{LinesFault, TheVariants.{BadLine, NoMemory}}, LinesFault.ReadsThis}
use Rattle.cl_edit.specs.{declared.{edit_lines.ListedEdit.ListedEdit, version.Version.Version}, Reading.{IsLineEdit, MayBeListed, edits_of, said_of, AreEditsOf, LacksEdit, IsBadEditLine}, Said.{Said, said_from, IsTitled}}
use Rattle.cl_edit.proofs.{Listings.{edits_more, one_edit, first_listed}, Titles.one_title}

-- ---- two lists of edits that lines begin with

-- the second list goes on after the first one
record Longer (one other : List ListedEdit) (left rest : List Said) : Type 0 where
  next : ListedEdit
  more : List ListedEdit
  whole : other ≡ one ++ next ∷ more
  stands : left ≡ said_of next ∷ (map said_of more ++ rest)

-- they are equal, or one of them goes on
abbrev Compares : (one other : List ListedEdit) → (left rest : List Said) → Type 0
Compares one other left rest = ((one ≡ other) × (left ≡ rest)) ⊎ (Longer one other left rest ⊎ Longer other one rest left)

one_more : (first second : ListedEdit) (one other : List ListedEdit) (left rest : List Said) → first ≡ second → Compares one other left rest
    → Compares (first ∷ one) (second ∷ other) left rest
one_more first second one other left rest same (inl both) = inl (cc (same, both.0), both.1)
one_more first second one other left rest same (inr (inl longer)) =
    inr (inl (record { next = longer.next; more = longer.more; whole = cc (same, longer.whole); stands = longer.stands }))
one_more first second one other left rest same (inr (inr longer)) =
    inr (inr (record { next = longer.next; more = longer.more; whole = cc (same, longer.whole); stands = longer.stands }))

module _ (version : Version) where
  abbrev AreLines : List ListedEdit → Type 0
  AreLines listed = All (IsLineEdit version) (edits_of listed)

  compare : (one other : List ListedEdit) (left rest : List Said) → AreLines one → AreLines other → map said_of one ++ left ≡ map said_of other ++ rest
      → Compares one other left rest
  compare [] [] left rest good good_too is = inl (refl, is)
  compare [] (second ∷ other) left rest good good_too is = inr (inl (record { next = second; more = other; whole = refl; stands = is }))
  compare (first ∷ one) [] left rest good good_too is = inr (inr (record { next = first; more = one; whole = refl; stands = sym is }))
  compare (first ∷ one) (second ∷ other) left rest good good_too is =
      let firsts : said_of first ≡ said_of second = cc in
      let behind : map said_of one ++ left ≡ map said_of other ++ rest = cc in
      let same = one_edit version first second (All-head (IsLineEdit version) first.edit (edits_of one) good)
      (All-head (IsLineEdit version) second.edit (edits_of other) good_too) firsts in
      one_more first second one other left rest same
      (compare one other left rest (All-tail (IsLineEdit version) first.edit (edits_of one) good) (All-tail (IsLineEdit version) second.edit (edits_of other) good_too) behind)

-- ---- lines behind one title

-- of one version, and read as that many edits and what is left
record AreReadAs (version : Version) (text : List ℕ) (listed : List ListedEdit) (left : List Said) : Type 0 where
  others : List (List ℕ)
  titled : IsTitled version text others
  said : said_from version 2 others ≡ map said_of listed ++ left
  may : MayBeListed version (edits_of listed)

of_edits : (text : List ℕ) (listed : List ListedEdit) → (are : AreEditsOf text listed) → AreReadAs are.version text listed []
of_edits text listed are = record { others = are.others; titled = are.titled; said = are.said ∙ sym (append-nil (map said_of listed)); may = are.may }

of_bad : (text : List ℕ) (number : ℕ) → (bad : LacksEdit text number) → AreReadAs bad.version text bad.listed (bad.bad ∷ bad.behind)
of_bad text number bad = record { others = bad.others; titled = bad.titled; said = bad.said; may = bad.may }

same_version : (text : List ℕ) (one other : Version) (listed more : List ListedEdit) (left rest : List Said) → AreReadAs one text listed left
    → AreReadAs other text more rest → one ≡ other
same_version text one other listed more left rest first second = (one_title text one other first.others second.others first.titled second.titled).0

compare_read : (text : List ℕ) (version : Version) (listed more : List ListedEdit) (left rest : List Said) → AreReadAs version text listed left
    → AreReadAs version text more rest
    → Compares listed more left rest
compare_read text version listed more left rest first second =
    let same = one_title text version version first.others second.others first.titled second.titled in
    compare version listed more left rest first.may.lines second.may.lines (sym first.said ∙ ap (said_from version 2) same.1 ∙ second.said)

compare_texts : (text : List ℕ) (one other : Version) (listed more : List ListedEdit) (left rest : List Said) → AreReadAs one text listed left
    → AreReadAs other text more rest
    → Compares listed more left rest
compare_texts text one other listed more left rest first second =
    compare_read text one listed more left rest first
    (subst (λ version. AreReadAs version text more rest) (sym (same_version text one other listed more left rest first second)) second)

-- nothing is left behind the last line
no_longer : (one other : List ListedEdit) (rest : List Said) → Longer one other [] rest → ⊥
no_longer one other rest longer = let stands = longer.stands in absurd (cc)

-- no list that may be listed goes on where a line is bad
not_bad : (text : List ℕ) (number : ℕ) → (bad : LacksEdit text number) → (other : Version) (more : List ListedEdit) (rest : List Said) → AreReadAs other text more rest
    → Longer bad.listed more (bad.bad ∷ bad.behind) rest → ⊥
not_bad text number bad other more rest second longer =
    let stands = longer.stands in
    let is : bad.bad ≡ said_of longer.next = cc in
    let version = same_version text bad.version other bad.listed more (bad.bad ∷ bad.behind) rest (of_bad text number bad) second in
    let edits : edits_of more ≡ edits_of bad.listed ++ longer.next.edit ∷ edits_of longer.more = ap edits_of longer.whole ∙ edits_more bad.listed (longer.next ∷ longer.more) in
    let may : MayBeListed bad.version (edits_of bad.listed ++ longer.next.edit ∷ edits_of longer.more)
    = subst (MayBeListed bad.version) edits (subst (λ v. MayBeListed v (edits_of more)) (sym version) second.may) in
    bad.none longer.next.edit (ap (λ (s : Said). s.text) is) (first_listed bad.version (edits_of bad.listed) longer.next.edit (edits_of longer.more) may)

pub edits_unique : (text : List ℕ) (one other : List ListedEdit) → AreEditsOf text one → AreEditsOf text other → one ≡ other
edits_unique text one other are are_too = elim (compare_texts text are.version are_too.version one other [] [] (of_edits text one are) (of_edits text other are_too)) [
  | inl both ↦ both.0
  | inr longer ↦ elim longer [
    | inl here ↦ absurd (no_longer one other [] here)
    | inr there ↦ absurd (no_longer other one [] there)
  ]
]

bad_or_listed : (text : List ℕ) (listed : List ListedEdit) (number : ℕ) → AreEditsOf text listed → LacksEdit text number → ⊥
bad_or_listed text listed number are bad =
    elim (compare_texts text are.version bad.version listed bad.listed [] (bad.bad ∷ bad.behind) (of_edits text listed are) (of_bad text number bad)) [
      | inl both ↦ let none = both.1 in absurd (cc)
      | inr longer ↦ elim longer [
        | inl here ↦ absurd (no_longer listed bad.listed (bad.bad ∷ bad.behind) here)
        | inr there ↦ absurd (not_bad text number bad are.version listed [] (of_edits text listed are) there)
      ]
    ]

pub never_both : (text : List ℕ) (listed : List ListedEdit) (number : ℕ) → AreEditsOf text listed → IsBadEditLine text number → ⊥
never_both text listed number are (inl lacks) = lacks.none are.version are.others are.titled
never_both text listed number are (inr bad) = bad_or_listed text listed number are bad

bad_once : (text : List ℕ) (one other : ℕ) → LacksEdit text one → LacksEdit text other → one ≡ other
bad_once text one other first second =
    elim (compare_texts text first.version second.version first.listed second.listed (first.bad ∷ first.behind) (second.bad ∷ second.behind)
    (of_bad text one first) (of_bad text other second)) [
      | inl both ↦ let rest = both.1 in let same : first.bad ≡ second.bad = cc in first.counted ∙ ap (λ (s : Said). s.line) same ∙ sym second.counted
      | inr longer ↦ elim longer [
        | inl here ↦ absurd (not_bad text one first second.version second.listed (second.bad ∷ second.behind) (of_bad text other second) here)
        | inr there ↦ absurd (not_bad text other second first.version first.listed (first.bad ∷ first.behind) (of_bad text one first) there)
      ]
    ]

pub bad_lines_unique : (text : List ℕ) (one other : ℕ) → IsBadEditLine text one → IsBadEditLine text other → one ≡ other
bad_lines_unique text one other (inl lacks) (inl lacks_too) = lacks.counted ∙ sym lacks_too.counted
bad_lines_unique text one other (inl lacks) (inr bad) = absurd (lacks.none bad.version bad.others bad.titled)
bad_lines_unique text one other (inr bad) (inl lacks) = absurd (lacks.none bad.version bad.others bad.titled)
bad_lines_unique text one other (inr bad) (inr bad_too) = bad_once text one other bad bad_too

-- ---- the answer to a text that lists edits

pub only_fault : (text : List ℕ) (result : Result (List ListedEdit) LinesFault) (fault : LinesFault) → IsErr result × IsErrAnd result (λ e. e ≡ fault)
    → ((line : ℕ) → fault ≡ BadLine line → IsBadEditLine text line) → (listed : List ListedEdit) → AreEditsOf text listed → ReadsThis result listed
only_fault text (Ok read) fault kept bad listed are = absurd (cc)
only_fault text (Err NoMemory) fault kept bad listed are = refl
only_fault text (Err (BadLine line)) fault kept bad listed are = absurd (never_both text listed line are (bad line (sym kept.1)))
