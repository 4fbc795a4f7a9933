-- The plain form of lines: how words are put behind one another, and that the line of an edit is its own plain form.
use Rattle.std.proofs.Common.{◌≡◌, ◌≢◌, ℕ, suc, ◌==◌, true, false, not, cond, Option, Some, None, List, [], ◌∷◌, ◌++◌, length, length-append, get_or, append_assoc, refl, sym, ap, ◌∙◌, subst, arith}
use denote.Bor.{Bor}
use Rattle.std.specs.Prelude.{All, filter, map, unwrap_or, MatchOption}
use Rattle.std.specs.List.{list_all, slice_split, join_with_byte}
use Rattle.std.proofs.lemmas.Bool.{false_from_ne_true, eqb-true}
use Rattle.std.proofs.lemmas.Bool.Decides.{nat_tests}
use Rattle.std.proofs.lemmas.List.{append-nil, map-append}
use Rattle.std.proofs.lemmas.List.Elements.{All-nil, All-cons, All-head, All-tail, All-append, filter-append}
use Rattle.std.proofs.lemmas.List.Splits.{slice_split_none, slice_split_at}
use Rattle.std.proofs.lemmas.List.Sums.{AllPass-from_list_all}
use Rattle.std.proofs.Math.Seq.{get_or-append_seam}
use Rattle.memchr.specs.Find.{is_byte}
use Rattle.cl_text.specs.Line.{is_graphic}
use Rattle.cl_edit.specs.{declared.{edit.Edit.Edit, version.Version.TheVariants.Two}, Lines.{edit_words, edit_text}, Reading.IsLineEdit, Said.{without_return, is_blank, has_bytes, words_of, plain, says}, Inner.Words.with_word}
use Rattle.cl_edit.proofs.{PartFacts.Lacks, NamesFacts.{lacks_of, words_parts, some_joined}, LineMeanings.{AreSpoken, edit_are_words, edit_is_spoken}}

-- ---- a carriage return at the end

pub return_taken : (front : List ℕ) → without_return (front ++ 0x0D ∷ []) ≡ front
return_taken [] = refl
return_taken (byte ∷ []) = refl
return_taken (byte ∷ next ∷ front) = ap (λ bytes. byte ∷ bytes) (return_taken (next ∷ front))

pub no_return : (line : List ℕ) → ((front : List ℕ) → line ≢ front ++ 0x0D ∷ []) → without_return line ≡ line
no_return [] none = refl
no_return (byte ∷ []) none =
    let other : (byte == 0x0D) ≡ false = false_from_ne_true (byte == 0x0D) (λ same. none [] (ap (λ b. b ∷ []) (eqb-true byte 0x0D same))) in
    ap (λ b. cond b [] (byte ∷ [])) other
no_return (byte ∷ next ∷ bytes) none = ap (λ more. byte ∷ more) (no_return (next ∷ bytes) (λ front is. none (byte ∷ front) (ap (λ more. byte ∷ more) is)))

without_any_return : (line : List ℕ) → Lacks 0x0D line → without_return line ≡ line
without_any_return line free = no_return line (λ front is.
    let seam : get_or (front ++ 0x0D ∷ []) (length front) 0 ≡ 0x0D = get_or-append_seam front 0x0D [] 0 in
    let lacks : Lacks 0x0D (front ++ 0x0D ∷ []) = subst (Lacks 0x0D) is free in
    let here : is_byte 0x0D 0x0D ≡ false = ap (is_byte 0x0D) (sym seam) ∙ lacks (length front) 0 (omega (arith, length-append front (0x0D ∷ []))) in
    absurd (cc))

pub by_suffix : (line : Bor (List ℕ)) (end : List ℕ) (rest : Option (Bor (List ℕ))) → end ≡ 0x0D ∷ []
    → MatchOption rest ((front : List ℕ) → line.now ≢ front ++ end) (λ x. line.now ≡ x.now ++ end) → (unwrap_or rest line).now ≡ without_return line.now
by_suffix line end None is none = sym (no_return line.now (λ front same. none front (same ∙ ap (λ e. front ++ e) (sym is))))
by_suffix line end (Some x) is whole = sym (ap without_return (whole ∙ ap (λ e. x.now ++ e) is) ∙ return_taken x.now)

-- ---- one word behind others

join_more : (s : ℕ) (first : List ℕ) (words : List (List ℕ)) (word : List ℕ)
    → join_with_byte s ((first ∷ words) ++ word ∷ []) ≡ join_with_byte s (first ∷ words) ++ s ∷ word
join_more s first [] word = refl
join_more s first (next ∷ words) word =
    ap (λ text. first ++ s ∷ text) (join_more s next words word) ∙ sym (append_assoc first (s ∷ join_with_byte s (next ∷ words)) (s ∷ word))

with_some : (text : List ℕ) (byte : ℕ) (bytes : List ℕ) → has_bytes text ≡ true → with_word text (byte ∷ bytes) ≡ text ++ 0x20 ∷ byte ∷ bytes
with_some [] byte bytes some = absurd (cc)
with_some (first ∷ text) byte bytes some = refl

with_joined : (words : List (List ℕ)) (word : List ℕ) → list_all has_bytes words ≡ true
    → with_word (join_with_byte 0x20 words) word ≡ join_with_byte 0x20 (words ++ filter has_bytes (word ∷ []))
with_joined words [] some = ap (join_with_byte 0x20) (sym (append-nil words))
with_joined [] (byte ∷ bytes) some = refl
with_joined (first ∷ words) (byte ∷ bytes) some =
    with_some (join_with_byte 0x20 (first ∷ words)) byte bytes (some_joined 0x20 first words some) ∙ sym (join_more 0x20 first words (byte ∷ bytes))

filtered : (words : List (List ℕ)) → list_all has_bytes (filter has_bytes words) ≡ true
filtered [] = refl
filtered ([] ∷ words) = filtered words
filtered ((byte ∷ bytes) ∷ words) = filtered words

-- those of some words that have bytes, and of one more
pub one_word_more : (words : List (List ℕ)) (word text : List ℕ) → text ≡ join_with_byte 0x20 (filter has_bytes words)
    → with_word text word ≡ join_with_byte 0x20 (filter has_bytes (words ++ word ∷ []))
one_word_more words word text is =
    ap (λ t. with_word t word) is ∙ with_joined (filter has_bytes words) word (filtered words)
    ∙ ap (join_with_byte 0x20) (sym (filter-append has_bytes words (word ∷ [])))

-- the same of words that are borrowed
pub plain_more : (words : List (Bor (List ℕ))) (word : Bor (List ℕ)) (text : List ℕ)
    → text ≡ join_with_byte 0x20 (filter has_bytes (map (λ (w : Bor (List ℕ)). w.now) words))
    → with_word text word.now ≡ join_with_byte 0x20 (filter has_bytes (map (λ (w : Bor (List ℕ)). w.now) (words ++ word ∷ [])))
plain_more words word text is =
    one_word_more (map (λ (w : Bor (List ℕ)). w.now) words) word.now text is
    ∙ ap (λ ws. join_with_byte 0x20 (filter has_bytes ws)) (sym (map-append (λ (w : Bor (List ℕ)). w.now) words (word ∷ [])))

-- ---- the line of an edit

pub lacks_joined : (c s : ℕ) (words : List (List ℕ)) → is_byte c s ≡ false → All (Lacks c) words → Lacks c (join_with_byte s words)
lacks_joined c s [] other lack = All-nil (λ byte. is_byte c byte ≡ false)
lacks_joined c s (word ∷ []) other lack = All-head (Lacks c) word [] lack
lacks_joined c s (word ∷ next ∷ words) other lack =
    All-append (λ byte. is_byte c byte ≡ false) word (s ∷ join_with_byte s (next ∷ words)) (All-head (Lacks c) word (next ∷ words) lack)
    (All-cons (λ byte. is_byte c byte ≡ false) s (join_with_byte s (next ∷ words)) other (lacks_joined c s (next ∷ words) other (All-tail (Lacks c) word (next ∷ words) lack)))

-- it lacks each byte that isn't graphic, but for blanks
pub edit_lacks : (c : ℕ) (edit : Edit) → is_graphic c ≡ false → is_byte c 0x20 ≡ false → IsLineEdit Two edit → Lacks c (edit_text edit)
unfolding edit_text
edit_lacks c edit fails other good =
    let graphic = (words_parts (edit_words edit) (edit_are_words edit good)).1 in
    lacks_joined c 0x20 (edit_words edit) other (λ k d within. lacks_of c is_graphic _ fails (AllPass-from_list_all (list_all is_graphic) (edit_words edit) graphic k d within))

graphic_byte : (byte : ℕ) → is_graphic byte ≡ true → is_blank byte ≡ false
graphic_byte byte graphic = grind (arith, nat_tests, graphic)

abbrev IsUnbroken : List ℕ → Type 0
IsUnbroken word = All (λ byte. is_blank byte ≡ false) word

unbroken : (word : List ℕ) → list_all is_graphic word ≡ true → IsUnbroken word
unbroken word graphic = λ k d within. graphic_byte (get_or word k d) (AllPass-from_list_all is_graphic word graphic k d within)

blank_parts : (word : List ℕ) (words : List (List ℕ)) → All IsUnbroken (word ∷ words) → slice_split is_blank (join_with_byte 0x20 (word ∷ words)) ≡ word ∷ words
blank_parts word [] free = slice_split_none is_blank word (free 0 word (omega arith))
blank_parts word (next ∷ words) free =
    slice_split_at is_blank word 0x20 (join_with_byte 0x20 (next ∷ words)) (free 0 word (omega arith)) refl
    ∙ ap (λ more. word ∷ more) (blank_parts next words (λ k d within. free (suc k) d (omega arith)))

all_kept : (words : List (List ℕ)) → list_all has_bytes words ≡ true → filter has_bytes words ≡ words
all_kept [] some = refl
all_kept ([] ∷ words) some = absurd (cc)
all_kept ((byte ∷ bytes) ∷ words) some = ap (λ more. (byte ∷ bytes) ∷ more) (all_kept words some)

words_again : (words : List (List ℕ)) → AreSpoken words → list_all has_bytes words ≡ true → list_all (list_all is_graphic) words ≡ true
    → words_of (join_with_byte 0x20 words) ≡ words
words_again [] spoken some graphic = let are = spoken.are in absurd (cc)
words_again (word ∷ words) spoken some graphic =
    ap (filter has_bytes) (blank_parts word words (λ k d within. unbroken _ (AllPass-from_list_all (list_all is_graphic) (word ∷ words) graphic k d within)))
    ∙ all_kept (word ∷ words) some

-- it is its own plain form
pub plain_edit : (edit : Edit) → IsLineEdit Two edit → plain (edit_text edit) ≡ edit_text edit
unfolding plain edit_text
plain_edit edit good =
    let parts = words_parts (edit_words edit) (edit_are_words edit good) in
    ap (λ line. join_with_byte 0x20 (words_of line)) (without_any_return (join_with_byte 0x20 (edit_words edit)) (edit_lacks 0x0D edit refl refl good))
    ∙ ap (join_with_byte 0x20) (words_again (edit_words edit) (edit_is_spoken edit) parts.0 parts.1)

-- and says something
says_joined : (byte : ℕ) (bytes : List ℕ) (others : List (List ℕ)) → (byte == 0x23) ≡ false → says (join_with_byte 0x20 ((byte ∷ bytes) ∷ others)) ≡ true
says_joined byte bytes [] other = ap not other
says_joined byte bytes (next ∷ others) other = ap not other

pub says_edit : (edit : Edit) → says (edit_text edit) ≡ true
unfolding edit_text
says_edit edit =
    let spoken = edit_is_spoken edit in
    ap (λ words. says (join_with_byte 0x20 words)) spoken.are ∙ says_joined spoken.byte spoken.bytes spoken.others spoken.no_comment
