use Rattle.std.proofs.Common.{ℕ, List, ◌++◌, ap, ◌∙◌}
use Rattle.std.proofs.lemmas.Result.{on_ok_weaker}
use Rattle.cl_verify.proofs.DecisionLines.{decided_line}
use Rattle.cl_verify.proofs.lines.put_requirement.Goals as goal

pub returns : goal.returns
returns c = on_ok_weaker c.put-6.result (λ last.
    decided_line c.args.model.now c.args.requirement.now c.args.decision c.args.text.now
    c.put.new.self c.put_name.new.text c.put-2.new.self c.put_name-2.new.text c.put-3.new.self c.put-4.new.self c.put-5.new.self
    c.put_words.new.text c.put-6.new.self
    c.in_ok-put.ensures.ok c.in_ok-put_name.ensures.ok c.in_ok-put-2.ensures.ok c.in_ok-put_name-2.ensures.ok c.in_ok-put-3.ensures.ok
    (c.in_ok-put-4.ensures.ok ∙ ap (λ (word : List ℕ). c.put-3.new.self ++ word) c.kind_word.ensures) c.in_ok-put-5.ensures.ok
    c.in_ok-put_words.ensures last) c.put-6.ensures.ok
