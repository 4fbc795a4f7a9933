use Rattle.std.proofs.Common.{List, ℕ, ◌++◌, length, ap, ◌∙◌}
use Rattle.std.specs.Prelude.{codes, decimal}
use Rattle.cl_traces.proofs.MorePieces.{five_pieces}
use Rattle.cl_traces.proofs.bad_line.put_job_shape.Goals as goal

pub returns : goal.returns
returns c =
    five_pieces (codes "job ") c.args.task.now.name (codes " ARRIVAL RELEASE and ") (decimal (length c.args.task.now.runnables)) (codes " times")
    c.args.text.now c.put.new.self c.put-2.new.self c.put-3.new.self c.put_number.new.self c.put-4.new.self c.in_ok-put.ensures.ok
    (c.in_ok-put-2.ensures.ok ∙ ap (λ (name : List ℕ). c.put.new.self ++ name) c.as_slice.ensures.bytes) c.in_ok-put-3.ensures.ok
    (c.in_ok-put_number.ensures.ok ∙ ap (λ (n : ℕ). c.put-3.new.self ++ decimal n) c.len.ensures) c.in_ok-put-4.ensures.ok
