-- The parts of a text between separators: where they end, and how they are joined again.
use Rattle.std.proofs.Common.{◌≡◌, ◌≢◌, ℕ, suc, ◌+◌, ◌-◌, Bool, true, false, Option, Some, None, List, [], ◌∷◌, ◌++◌, length, take, drop, refl, sym, ap, ◌∙◌, arith, length-drop, not, eq-eqb}
use Rattle.std.specs.Prelude.{All, cond}
use Rattle.std.specs.List.{slice_split, onto_first, join_with_byte, position_or_len}
use Rattle.std.proofs.lemmas.Bool.{false_from_ne_true}
use Rattle.std.proofs.lemmas.List.{get_or_default, take_all}
use Rattle.std.proofs.lemmas.List.Sums.{position_or_len_is}
use Rattle.std.proofs.lemmas.List.Splits.{slice_split_none, slice_split_at, slice_split_first, join_with_byte-slice_split}
use Rattle.memchr.specs.Find.{IsFirstByte, is_byte}
use Rattle.std.specs.Option.{is_some}
use Rattle.std.specs.Bool.{IsTrue}
use denote.Bor.{Bor}
use Rattle.cl_edit.specs.Inner.Parts.{parts, parts_left}

-- no byte of a word is the separator
abbrev pub Lacks : (separator : ℕ) → List ℕ → Type 0
Lacks separator word = All (λ byte. is_byte separator byte ≡ false) word

-- the first part ends at the first separator
pub part_found : (s : ℕ) (text : List ℕ) (end : ℕ) → IsFirstByte (is_byte s) text (Some end)
    → parts s text ≡ take end text ∷ parts s (take (length text - (end + 1)) (drop (end + 1) text))
unfolding parts
part_found s text end found =
    let here : position_or_len (is_byte s) text ≡ end =
    position_or_len_is (is_byte s) text end 0 (omega arith)
    (λ k below. false_from_ne_true _ (found.0.before k (omega arith) below))
    (λ _. found.1) in
    let all : take (length text - (end + 1)) (drop (end + 1) text) ≡ drop (end + 1) text = take_all (length text - (end + 1)) (drop (end + 1) text) (omega (arith, length-drop (end + 1) text)) in
    slice_split_first (is_byte s) text 0 (omega (arith, here, found.0.high))
    ∙ ap (λ n. take n text ∷ slice_split (is_byte s) (drop (n + 1) text)) here
    ∙ ap (λ rest. take end text ∷ slice_split (is_byte s) rest) (sym all)

-- and where there is none, there is one part
pub part_alone : (s : ℕ) (text : List ℕ) → IsFirstByte (is_byte s) text None → parts s text ≡ text ∷ []
unfolding parts
part_alone s text nowhere = slice_split_none (is_byte s) text (λ k d within.
    rw (← get_or_default text k 0 d within) (false_from_ne_true _ (nowhere k (omega arith) within)))

-- there is a part
pub some_part : (s : ℕ) (text : List ℕ) → parts s text ≢ []
unfolding parts
some_part s [] none = cc
some_part s (byte ∷ text) none = split_some (is_byte s byte) byte (slice_split (is_byte s) text) none
  where
    split_some : (b : Bool) (byte : ℕ) (more : List (List ℕ)) → cond b ([] ∷ more) (onto_first byte more) ≢ []
    split_some true byte more none = cc
    split_some false byte [] none = cc
    split_some false byte (part ∷ more) none = cc

-- the parts, joined, are the text
pub joined_parts : (s : ℕ) (text : List ℕ) → join_with_byte s (parts s text) ≡ text
unfolding parts
joined_parts s text = join_with_byte-slice_split s text

-- a part that a separator follows
pub part_before : (s : ℕ) (part rest : List ℕ) → Lacks s part → parts s (part ++ s ∷ rest) ≡ part ∷ parts s rest
unfolding parts
part_before s part rest lack = slice_split_at (is_byte s) part s rest lack (eq-eqb s s refl)

-- and words, joined, have these words as parts
pub parts_joined : (s : ℕ) (word : List ℕ) (words : List (List ℕ)) → All (Lacks s) (word ∷ words) → parts s (join_with_byte s (word ∷ words)) ≡ word ∷ words
unfolding parts
parts_joined s word [] lack = slice_split_none (is_byte s) word (lack 0 word (omega arith))
parts_joined s word (next ∷ words) lack =
    part_before s word (join_with_byte s (next ∷ words)) (lack 0 word (omega arith))
    ∙ ap (λ more. word ∷ more) (parts_joined s next words (λ k d within. lack (suc k) d (omega arith)))

-- no part is left where nothing of the text is
pub done_where : (s : ℕ) (left : Option (Bor (List ℕ))) (now : List (List ℕ)) (b : Bool) → parts_left s left ≡ now → is_some left ≡ not b
    → (IsTrue b → now ≡ []) × (now ≡ [] → IsTrue b)
done_where s None now true view is = (λ _. sym view, λ _. refl)
done_where s None now false view is = absurd (cc)
done_where s (Some left) now true view is = absurd (cc)
done_where s (Some left) now false view is = (λ yes. absurd (cc), λ none. absurd (some_part s left.now (view ∙ none)))
