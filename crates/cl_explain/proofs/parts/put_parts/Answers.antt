use Rattle.cl_explain.proofs.{MarkedLabels.still_ok, PartsOfTasks.parts_are}
use Rattle.cl_explain.proofs.parts.put_parts.Goals as goal

pub returns : goal.returns
returns c =
    let model = c.args.model.now in
    let task = c.args.task in
    let question = c.args.question.now in
    let answer = c.args.answer.now in
    still_ok c.put_over.result _ _
    (parts_are model task question c.window_counted-width.result answer c.requires.question c.window_counted-width.ensures.window
    c.args.text.now c.put_jitter.new.text c.put_block.new.text c.put_own.new.text c.put_all_above.new.text c.put_over.new.text
    c.in_ok-put_jitter.ensures c.in_ok-put_block.ensures c.in_ok-put_own.ensures c.in_ok-put_all_above.ensures)
    c.put_over.ensures
