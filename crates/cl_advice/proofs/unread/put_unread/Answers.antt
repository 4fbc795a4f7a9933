use Rattle.std.proofs.Common.{List, ℕ, ◌++◌, Option, ap, ◌∙◌}
use Rattle.cl_model.specs.declared.place.Part.{Part}
use Rattle.cl_advice.specs.Unread.{doubled_in, mend_lines, message_line, unread_text}
use Rattle.cl_advice.proofs.Pieces.{two_pieces}
use Rattle.cl_advice.proofs.unread.put_unread.Goals as goal

pub returns : goal.returns
unfolding unread_text
returns c =
    let bytes = c.args.bytes.now in
    let message = c.args.message.now in
    two_pieces (mend_lines bytes (doubled_in bytes message)) (message_line message)
    c.args.text.now c.put_mend.new.text c.put_message.new.text
    (c.in_ok-put_mend.ensures ∙ ap (λ (section : Option Part). c.args.text.now ++ mend_lines bytes section) c.doubled_in.ensures)
    (c.in_ok-put_message.ensures ∙ ap (λ (m : List ℕ). c.put_mend.new.text ++ message_line m) c.as_bytes.ensures.value)
