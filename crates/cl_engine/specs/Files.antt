-- The files that a command names behind its verb.
use Rattle.std.specs.Prelude.{ℕ, List, [], ◌∷◌, slice_index_or}
use Rattle.cl_engine.specs.declared.files.{Files.Files, TheConstants.FILE_LIMIT}
use Rattle.cl_engine.specs.declared.files.Files.TheVariants as files

-- a file of a command: the place of its word, which is its number in every line about it, and the most bytes that it
-- may have
pub record File : Type 0 where
  pub place : ℕ
  pub limit : ℕ

-- a model file, which is the first
abbrev pub model_file : File
model_file = record { place = 1; limit = FILE_LIMIT }

-- the file behind it
abbrev pub second_file : (limit : ℕ) → File
second_file limit = record { place = 2; limit = limit }

-- the files, in the order in which they are fetched
abbrev pub files_named : Files → List File
files_named files.Nothing = []
files_named files.Content = model_file ∷ []
files_named files.Model = model_file ∷ []
files_named (files.ModelAnd limit) = model_file ∷ second_file limit ∷ []
files_named (files.ContentAnd limit) = model_file ∷ second_file limit ∷ []

-- the files by each length past which one is too long: a second file beside a model that may be refused is so past its
-- own limit, and may be so for the command itself past that of a model file
abbrev pub files_limited : Files → List File
files_limited (files.ContentAnd limit) = model_file ∷ second_file limit ∷ second_file FILE_LIMIT ∷ []
files_limited named = files_named named

-- how many there are
abbrev pub file_count : Files → ℕ
file_count files.Nothing = 0
file_count files.Content = 1
file_count files.Model = 1
file_count (files.ModelAnd limit) = 2
file_count (files.ContentAnd limit) = 2

-- the word at a place
abbrev pub word : List (List ℕ) → (place : ℕ) → List ℕ
word words place = slice_index_or words place []
