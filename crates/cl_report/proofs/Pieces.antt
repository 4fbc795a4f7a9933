-- A line that is put piece by piece: what the text holds on the way, and what of the line stands where memory ran out.
use Rattle.std.proofs.Common.{◌≡◌, ℕ, List, [], ◌∷◌, ◌++◌, sym, ap, ◌∙◌}
use Rattle.std.proofs.lemmas.List.{append-nil, append_assoc}
use Rattle.cl_text.specs.Beginnings.{PutsPart}
use Rattle.cl_text.proofs.Beginnings.{puts_first, puts_second}

-- words with these pieces behind them, one after the other
abbrev pub joined : (words : List ℕ) → (pieces : List (List ℕ)) → List ℕ
joined words [] = words
joined words (piece ∷ pieces) = joined (words ++ piece) pieces

module _ (old : List ℕ) where
  -- one more piece stands behind the words so far
  pub holds_more : (before after words piece : List ℕ) → before ≡ old ++ words → after ≡ before ++ piece → after ≡ old ++ (words ++ piece)
  holds_more before after words piece was put = put ∙ ap (λ text. text ++ piece) was ∙ append_assoc old words piece

  module _ (new : List ℕ) where
    -- a part of the first words is one of all
    pub part_of_all : (words : List ℕ) (pieces : List (List ℕ)) → PutsPart old new words → PutsPart old new (joined words pieces)
    part_of_all words [] part = part
    part_of_all words (piece ∷ pieces) part = part_of_all (words ++ piece) pieces (puts_first old new words piece part)

    -- nothing stands behind the words so far
    pub stops_behind : (before words : List ℕ) (pieces : List (List ℕ)) → before ≡ old ++ words → new ≡ before → PutsPart old new (joined words pieces)
    stops_behind before words pieces was same =
        part_of_all words pieces (record { put = words; rest = []; words_are = sym (append-nil words); text_is = same ∙ was })

    -- a part of the next piece does
    pub stops_within : (before words piece : List ℕ) (pieces : List (List ℕ)) → before ≡ old ++ words → PutsPart before new piece
        → PutsPart old new (joined (words ++ piece) pieces)
    stops_within before words piece pieces was part = part_of_all (words ++ piece) pieces (puts_second old before new words piece was part)
