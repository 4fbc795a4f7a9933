-- What a text holds where there was no memory for all the words that were to stand after it.
use Rattle.std.specs.Prelude.{◌≡◌, ℕ, List, ◌++◌}

-- the new text is the old one with a beginning of the words after it: none of them, some, or all
pub record PutsPart (old new words : List ℕ) : Type 0 where
  pub put : List ℕ
  pub rest : List ℕ
  pub words_are : words ≡ put ++ rest
  pub text_is : new ≡ old ++ put
