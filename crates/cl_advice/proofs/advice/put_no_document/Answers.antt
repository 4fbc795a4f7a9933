use Rattle.cl_advice.proofs.advice.put_no_document.Goals as goal

pub returns : goal.returns
returns c = record {
  place = c.args.start;
  message = c.args.message.now;
  between = c.put_position.new.text;
  placed = c.in_ok-put_position.ensures;
  added = c.in_ok-put_unread.ensures;
}
