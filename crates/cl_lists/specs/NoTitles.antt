-- What is said of a text that is neither a list of edits nor a trace.
use Rattle.std.specs.Prelude.{ℕ, List, codes}
use Rattle.cl_text.specs.Line.{line}

-- the first lines that there are
unfoldable pub no_title_text : List ℕ
no_title_text = line (codes "wanted chainlat edits 1, chainlat edits 2 or chainlat trace 1")
