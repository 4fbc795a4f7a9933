-- The titles of lists: a text has one at most, and the lines behind it are those of one version.
use Rattle.std.proofs.Common.{◌≡◌, ◌≢◌, ℕ, ◌⊎◌, inl, inr, Bool, true, false, not, cond, Option, Some, None, List, [], ◌∷◌, refl, sym, ap, ◌∙◌, subst}
use Rattle.std.specs.Prelude.{codes, ◌&&◌, is_some}
use Rattle.std.specs.Str.{bytes_eq}
use Rattle.std.proofs.lemmas.Slice.Eq.{bytes_eq-Decides}
use denote.Bor.{Bor}
use Rattle.cl_model.proofs.ListFacts.{both_pass}
use Rattle.cl_edit.specs.{declared.version.Version.{Version, TheVariants.{One, Two}}, Said.{lines, plain, without_mark, IsTitled}, Reading.LacksTitle, Inner.{Left.{lines_left, titled_version}, Parts.parts}}
use Rattle.cl_edit.proofs.{FieldFacts.{both_true, choose, chosen, some_same, of_word}, PartFacts.some_part}

-- ---- one title

-- the title of version 1 isn't one of version 2
title_apart : plain (without_mark (codes "chainlat edits 1")) ≡ codes "chainlat edits 2" → ⊥
unfolding plain
title_apart is = let no : false ≡ true = ap (λ title. bytes_eq title (codes "chainlat edits 2")) is in absurd (cc)

abbrev IsSameTitle : Version → Version → (others more : List (List ℕ)) → Type 0
IsSameTitle version other others more = (version ≡ other) × (others ≡ more)

pub one_title : (text : List ℕ) (version other : Version) (others more : List (List ℕ)) → IsTitled version text others → IsTitled other text more
    → IsSameTitle version other others more
one_title text One One others more titled again = let one = titled.parts in let two = again.parts in (refl, cc)
one_title text Two Two others more titled again = let one = titled.parts in let two = again.parts in (refl, cc)
one_title text One Two others more titled again =
    let one = titled.parts in
    let two = again.parts in
    let first = titled.is.0 in
    let same : again.title ≡ codes "chainlat edits 1" = cc in
    absurd (title_apart (ap (λ title. plain (without_mark title)) (sym same) ∙ again.is))
one_title text Two One others more titled again =
    let one = titled.parts in
    let two = again.parts in
    let first = again.is.0 in
    let same : titled.title ≡ codes "chainlat edits 1" = cc in
    absurd (title_apart (ap (λ title. plain (without_mark title)) (sym same) ∙ titled.is))

-- ---- the version that is read

-- a text has a line
pub some_line : (text : List ℕ) → lines text ≢ []
unfolding parts
some_line text none = some_part 0x0A text none

-- the title is the last line exactly where no other lines follow
pub record IsLast (is_last : Bool) (others : List (List ℕ)) : Type 0 where
  pub some : not is_last ≡ true → others ≢ []
  pub none : others ≢ [] → not is_last ≡ true

-- what is left of a text has a line, where something is
pub last_left : (left : Option (Bor (List ℕ))) (is_last : Bool) → is_some left ≡ not is_last → IsLast is_last (lines_left left)
last_left None is_last is = record { some = λ yes. absurd (cc); none = λ some. absurd (some refl) }
last_left (Some left) is_last is = record { some = λ yes. some_line left.now; none = λ some. sym is }

none_chosen : (a b : Bool) → cond a (Some One) (cond b (Some Two) None) ≡ None → (a ≡ false) × (b ≡ false)
none_chosen true b is = absurd (cc)
none_chosen false true is = absurd (cc)
none_chosen false false is = (refl, refl)

same_word : (word other : List ℕ) → word ≡ other → bytes_eq word other ≡ true
same_word word other is = (bytes_eq-Decides word other).1 is

module _ (text title : List ℕ) (others : List (List ℕ)) (is_last : Bool) (last : IsLast is_last others) (are : lines text ≡ title ∷ others) where
  abbrev is_one : Bool
  is_one = bytes_eq title (codes "chainlat edits 1") && not is_last

  abbrev is_two : Bool
  is_two = bytes_eq (plain (without_mark title)) (codes "chainlat edits 2")

  pub titled_by : (version : Version) → titled_version title is_last ≡ Some version → IsTitled version text others
  titled_by version is =
      choose is_one (Some One) (cond is_two (Some Two) None) (Some version) (IsTitled version text others) is
      (λ here same.
      let both = both_pass (bytes_eq title (codes "chainlat edits 1")) (not is_last) here in
      subst (λ v. IsTitled v text others) (some_same One version same)
      (record { title = title; parts = are; is = (of_word title (codes "chainlat edits 1") both.0, last.some both.1) }))
      (λ other.
      let two = chosen is_two Two version other in
      subst (λ v. IsTitled v text others) two.1
      (record { title = title; parts = are; is = of_word (plain (without_mark title)) (codes "chainlat edits 2") two.0 }))

  no_title : titled_version title is_last ≡ None → (version : Version) (more : List (List ℕ)) → IsTitled version text more → ⊥
  no_title is One more titled =
      let behind = titled.parts in
      let same : title ≡ titled.title = cc in
      let rest : others ≡ more = cc in
      let none = none_chosen is_one is_two is in
      let word : bytes_eq title (codes "chainlat edits 1") ≡ true = same_word title (codes "chainlat edits 1") (same ∙ titled.is.0) in
      let some : not is_last ≡ true = last.none (λ empty. titled.is.1 (sym rest ∙ empty)) in
      let yes : is_one ≡ true = both_true (bytes_eq title (codes "chainlat edits 1")) (not is_last) word some in
      absurd (cc (none.0))
  no_title is Two more titled =
      let behind = titled.parts in
      let same : title ≡ titled.title = cc in
      let none = none_chosen is_one is_two is in
      let yes : is_two ≡ true = same_word (plain (without_mark title)) (codes "chainlat edits 2") (ap (λ line. plain (without_mark line)) same ∙ titled.is) in
      absurd (cc (none.1))

  pub no_title_by : titled_version title is_last ≡ None → LacksTitle text 1
  no_title_by is = record { none = no_title is; counted = refl }

-- ---- each text has a title or lacks one

pub record TitleOf (text : List ℕ) : Type 0 where
  pub version : Version
  pub others : List (List ℕ)
  pub titled : IsTitled version text others

abbrev is_empty : List (List ℕ) → Bool
is_empty [] = true
is_empty (line ∷ lines) = false

last_where : (others : List (List ℕ)) → IsLast (is_empty others) others
last_where [] = record { some = λ no. absurd (cc); none = λ some. absurd (some refl) }
last_where (line ∷ others) = record { some = λ yes none. cc; none = λ some. refl }

by_version : (text title : List ℕ) (others : List (List ℕ)) → lines text ≡ title ∷ others → (o : Option Version) → titled_version title (is_empty others) ≡ o
    → TitleOf text ⊎ LacksTitle text 1
by_version text title others are None is = inr (no_title_by text title others (is_empty others) (last_where others) are is)
by_version text title others are (Some version) is =
    inl (record { version = version; others = others; titled = titled_by text title others (is_empty others) (last_where others) are version is })

by_lines : (text : List ℕ) (all : List (List ℕ)) → lines text ≡ all → TitleOf text ⊎ LacksTitle text 1
by_lines text [] are = absurd (some_line text are)
by_lines text (title ∷ others) are = by_version text title others are (titled_version title (is_empty others)) refl

pub title_of : (text : List ℕ) → TitleOf text ⊎ LacksTitle text 1
title_of text = by_lines text (lines text) refl
