use Rattle.std.proofs.Common.{List, ℕ, ◌++◌, ap, ◌∙◌}
use Rattle.std.specs.Prelude.{codes}
use Rattle.cl_advice.proofs.Pieces.{two_pieces}
use Rattle.cl_lists.specs.BadLines.{written_words}
use Rattle.cl_lists.proofs.bad_line.put_written.Goals as goal

pub returns : goal.returns
returns c =
    two_pieces (codes "wanted at most 64 lines ") (written_words c.args.version) c.args.text.now c.put.new.self c.put-2.new.self
    c.in_ok-put.ensures.ok (c.in_ok-put-2.ensures.ok ∙ ap (λ (words : List ℕ). c.put.new.self ++ words) c.written_words.ensures)
