use Rattle.std.proofs.Common.{◌≡◌, ℕ, List, [], ◌∷◌, ◌++◌, ap, ◌∙◌}
use Rattle.std.proofs.lemmas.List.{append_assoc}
use Rattle.std.specs.Prelude.{codes}
use Rattle.cl_text.specs.Line.{line}
use Rattle.cl_advice.specs.Shown.{quoted}
use Rattle.cl_traces.specs.{TraceLines.trace_line, BadTraceLines.{wanted_in_trace, bad_trace_text}}
use Rattle.cl_traces.proofs.bad_line.put_bad_trace_line.Goals as goal

two_lines : (a w b t0 t1 t2 t3 t4 : List ℕ) → t1 ≡ t0 ++ a → t2 ≡ t1 ++ w → t3 ≡ t2 ++ b → t4 ≡ t3 ++ 0x0A ∷ [] → t4 ≡ t0 ++ (a ++ line (w ++ b))
two_lines a w b t0 t1 t2 t3 t4 h1 h2 h3 h4 = rw (h4, h3, h2, h1) (simp append_assoc)

pub returns : goal.returns
unfolding bad_trace_text
returns c =
    let trace = c.args.trace.now in
    let number = c.args.number in
    two_lines (line (codes "found " ++ quoted (trace_line trace number))) (codes "wanted ") (wanted_in_trace c.args.model.now trace number)
    c.args.text.now c.put_found.new.text c.put.new.self c.put_wanted.new.text c.put-2.new.self
    (c.in_ok-put_found.ensures ∙ ap (λ (found : List ℕ). c.args.text.now ++ line (codes "found " ++ quoted found)) c.trace_line.ensures)
    c.in_ok-put.ensures.ok
    c.in_ok-put_wanted.ensures
    c.in_ok-put-2.ensures.ok
