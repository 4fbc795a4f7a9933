-- What is said of an edit of a stimulus that is of another kind.
use Rattle.std.specs.Prelude.{ℕ, List, [], ◌++◌, codes}
use Rattle.cl_text.specs.Line.{line}
use Rattle.cl_edit.specs.declared.edit.Edit.{Edit, TheVariants.{Period, Offset, Jitter, Distances, Burst}}

-- which kind is wanted, and of which stimulus
unfoldable pub kind_lines : (kind stimulus : List ℕ) → List ℕ
kind_lines kind stimulus = line (codes "wanted " ++ kind) ++ line (codes "with stimulus " ++ stimulus)

-- of an edit that asks for a kind; nothing of another
abbrev pub other_kind_text : Edit → List ℕ
other_kind_text (Period stimulus period) = kind_lines (codes "a periodic stimulus") stimulus
other_kind_text (Offset stimulus offset) = kind_lines (codes "a periodic stimulus or a burst") stimulus
other_kind_text (Jitter stimulus jitter) = kind_lines (codes "a periodic stimulus") stimulus
other_kind_text (Distances stimulus least greatest) = kind_lines (codes "a sporadic stimulus") stimulus
other_kind_text (Burst stimulus period count distance) = kind_lines (codes "a burst") stimulus
other_kind_text edit = []
