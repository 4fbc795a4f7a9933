-- Keywords of lines, and what the words of a line are read as.
use Rattle.std.proofs.Common.{◌≡◌, ◌≢◌, ℕ, false, Some, None, List, [], ◌∷◌, refl, ap, ◌∙◌}
use Rattle.std.specs.Prelude.{Err, codes}
use Rattle.std.specs.Str.{bytes_eq}
use Rattle.cl_edit.specs.{declared.{edit.Edit.Edit, fault.Unread.{Unread, TheVariants.{Bad, NoMemory}}, version.Version.Version}, Inner.{Parts.{parts, then_read, if_done, ReadsPart, ReadsUpTo}, LineReads.{fields_in, later_fields_in, fields_of, words_in, edit_in}}}

-- a word that is no keyword
pub other_keyword : (word : List ℕ) (words : List (List ℕ))
    → bytes_eq word (codes "range") ≡ false
    → bytes_eq word (codes "whole") ≡ false
    → bytes_eq word (codes "period") ≡ false
    → bytes_eq word (codes "offset") ≡ false
    → bytes_eq word (codes "jitter") ≡ false
    → bytes_eq word (codes "distances") ≡ false
    → bytes_eq word (codes "burst") ≡ false
    → bytes_eq word (codes "deadline") ≡ false
    → bytes_eq word (codes "swap") ≡ false
    → bytes_eq word (codes "move") ≡ false
    → bytes_eq word (codes "access") ≡ false
    → bytes_eq word (codes "task") ≡ false
    → bytes_eq word (codes "drop-task") ≡ false
    → bytes_eq word (codes "chain") ≡ false
    → bytes_eq word (codes "drop-chain") ≡ false
    → bytes_eq word (codes "report") ≡ false
    → fields_in word words ≡ None
unfolding fields_in
other_keyword word words n1 n2 n3 n4 n5 n6 n7 n8 n9 n10 n11 n12 n13 n14 n15 n16 = rw (n1, n2, n3, n4, n5, n6, n7, n8, n9, n10, n11, n12, n13, n14, n15, n16) refl

pub other_later_keyword : (word : List ℕ) (words : List (List ℕ))
    → bytes_eq word (codes "priorities") ≡ false
    → bytes_eq word (codes "requirement") ≡ false
    → bytes_eq word (codes "drop-requirement") ≡ false
    → bytes_eq word (codes "tighten") ≡ false
    → bytes_eq word (codes "verify") ≡ false
    → later_fields_in word words ≡ fields_in word words
unfolding later_fields_in
other_later_keyword word words n1 n2 n3 n4 n5 = rw (n1, n2, n3, n4, n5) refl

-- the edit of a line of that keyword and those words
pub line_read : (version : Version) (line keyword : List ℕ) (words : List (List ℕ)) → parts 0x20 line ≡ keyword ∷ words
    → edit_in version line ≡ then_read (fields_of version keyword words) if_done
unfolding edit_in words_in
line_read version line keyword words are = ap (words_in version) are

pub no_word_read : (version : Version) (line : List ℕ) → parts 0x20 line ≡ [] → edit_in version line ≡ None
unfolding edit_in words_in
no_word_read version line none = ap (words_in version) none

-- where words are left there is none
pub words_left : (version : Version) (line keyword : List ℕ) (words left : List (List ℕ)) (edit : Edit) → parts 0x20 line ≡ keyword ∷ words
    → fields_of version keyword words ≡ Some (edit, left) → left ≢ [] → edit_in version line ≡ None
words_left version line keyword words left edit are read some =
    line_read version line keyword words are ∙ ap (λ o. then_read o if_done) read ∙ none_if left some
  where
    none_if : (left : List (List ℕ)) → left ≢ [] → if_done edit left ≡ None
    none_if [] some = absurd (some refl)
    none_if (word ∷ left) some = refl

pub no_word_left : (version : Version) (line keyword : List ℕ) (words left : List (List ℕ)) (edit : Edit) → parts 0x20 line ≡ keyword ∷ words
    → fields_of version keyword words ≡ Some (edit, left) → left ≡ [] → edit_in version line ≡ Some edit
no_word_left version line keyword words left edit are read none = line_read version line keyword words are ∙ ap (λ o. then_read o if_done) read ∙ ap (if_done edit) none

pub unread_line : (version : Version) (line keyword : List ℕ) (words left : List (List ℕ)) (fault : Unread) → parts 0x20 line ≡ keyword ∷ words
    → ReadsUpTo {X = Edit} (Err fault) left (fields_of version keyword words) → ReadsPart {X = Edit} (Err fault) (edit_in version line)
unread_line version line keyword words left Bad are bad = line_read version line keyword words are ∙ ap (λ o. then_read o if_done) bad
unread_line version line keyword words left NoMemory are bad = tt
