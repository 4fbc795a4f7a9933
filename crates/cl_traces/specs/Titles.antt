-- Which texts are meant as traces.
use Rattle.std.specs.Prelude.{ℕ, Bool, ◌||◌, List, [], ◌∷◌, ◌++◌, codes}
use Rattle.std.specs.Str.{bytes_eq}
use Rattle.cl_traces.specs.TraceLines.{trace_line}

-- the first line says that the text is a trace, a carriage return at its end taken off
abbrev pub is_titled_trace : (text : List ℕ) → Bool
is_titled_trace text = bytes_eq (trace_line text 1) (codes "chainlat trace 1") || bytes_eq (trace_line text 1) (codes "chainlat trace 1" ++ 0x0D ∷ [])
