-- The text of the best cuts of a model: a title, and a line for each chain. Times are in ticks.
use Rattle.std.specs.Prelude.{◌≡◌, ℕ, List, ◌++◌, length, codes, decimal}
use Rattle.std.specs.List.{flat_map, range_with_len}
use Rattle.cl_text.specs.Line.{line}
use Rattle.cl_model.specs.{declared.model.SystemModel.SystemModel, ByNumber.{task_at, chain_at}}
use Rattle.cl_cut.specs.{declared.answer.CutAnswer.{CutAnswer, TheVariants.{Cut, Late}}, CutAnswers.{cut_answer_at, AreCutAnswers}}

-- the number of the first group of a piece, behind a blank
abbrev pub piece_words : (first : ℕ) → List ℕ
piece_words first = codes " " ++ decimal first

-- those of all pieces
abbrev pub pieces_words : (pieces : List ℕ) → List ℕ
pieces_words pieces = flat_map piece_words pieces

-- what a line says of a best cut: its cost and its pieces
unfoldable pub cut_bound_words : (bound : ℕ) → (pieces : List ℕ) → List ℕ
cut_bound_words bound pieces = codes " bound " ++ decimal bound ++ codes " pieces" ++ pieces_words pieces

-- what a line says of a chain: its best cut, or the first of its tasks that is late
abbrev pub cut_words : SystemModel → CutAnswer → List ℕ
cut_words model (Cut bound pieces) = cut_bound_words bound pieces
cut_words model (Late task) = codes " late " ++ (task_at model task).name

-- the line of a chain
unfoldable pub cut_line : SystemModel → List CutAnswer → (chain : ℕ) → List ℕ
cut_line model answers chain = line (codes "cut " ++ (chain_at model chain).name ++ cut_words model (cut_answer_at answers chain))

-- the text of these answers
unfoldable pub cut_text : SystemModel → List CutAnswer → List ℕ
cut_text model answers = line (codes "chainlat cut 1") ++ flat_map (cut_line model answers) (range_with_len 0 (length model.chains))

-- the text is that of the model's best cuts
pub record IsCutTextOf (model : SystemModel) (text : List ℕ) : Type 0 where
  pub answers : List CutAnswer
  pub are : AreCutAnswers model answers
  pub printed : text ≡ cut_text model answers
