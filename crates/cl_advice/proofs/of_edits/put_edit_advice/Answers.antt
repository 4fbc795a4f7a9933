use Rattle.std.proofs.Common.{ℕ, List, ◌++◌, Option, ap, ◌∙◌}
use Rattle.std.specs.Prelude.{option_map}
use Rattle.std.specs.Option.{option_copied}
use Rattle.cl_model.specs.{declared.model.SystemModel.SystemModel, Place.key_text}
use Rattle.cl_advice.specs.{Found.shown_key_line, Known.known_line, Measured.{said_if, measured_line}, Mend.mended_line, OfEdits.{named_lines, full_line, edit_mend, edit_advice_text}, With.with_lines}
use Rattle.cl_advice.proofs.Pieces.{seven_pieces}
use Rattle.cl_advice.proofs.of_edits.put_edit_advice.Goals as goal

pub returns : goal.returns
unfolding edit_advice_text
returns c =
    let model = option_copied c.args.model in
    let r = c.args.refusal in
    seven_pieces (said_if (λ (it : SystemModel). named_lines it r.place) model) (shown_key_line (option_map key_text r.place.key))
    (full_line r.place.part r.code) (measured_line model r) (known_line model r) (with_lines model r) (mended_line (edit_mend model r.place r.code))
    c.args.text.now c.put_names.new.text c.put_key_word.new.text c.put_full.new.text
    c.put_measured.new.text c.put_known_line.new.text c.put_with_lines.new.text c.put_mend.new.text
    c.in_ok-put_names.ensures
    (c.in_ok-put_key_word.ensures ∙ ap (λ (word : Option (List ℕ)). c.put_names.new.text ++ shown_key_line word) c.word_of.ensures)
    c.in_ok-put_full.ensures
    c.in_ok-put_measured.ensures c.in_ok-put_known_line.ensures c.in_ok-put_with_lines.ensures c.in_ok-put_mend.ensures
