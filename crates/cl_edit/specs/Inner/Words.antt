-- How the words of a line are put together.
use Rattle.std.specs.Prelude.{ℕ, List, [], ◌∷◌, ◌++◌}

-- a text with a word behind it, a blank between them: a word without bytes is none
abbrev pub with_word : List ℕ → List ℕ → List ℕ
with_word text [] = text
with_word [] word = word
with_word text word = text ++ 0x20 ∷ word
