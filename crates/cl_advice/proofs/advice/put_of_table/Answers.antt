use Rattle.std.specs.Option.{option_copied}
use Rattle.toml.specs.View.{table_view}
use Rattle.cl_advice.specs.{Advice.advice_text, Entry.{entry_line, runnable_line}, Found.{key_line, found_line}, Wanted.wanted_line, Measured.measured_line, Known.known_line, With.with_lines, Mend.mend_line}
use Rattle.cl_advice.proofs.Pieces.{nine_pieces}
use Rattle.cl_advice.proofs.advice.put_of_table.Goals as goal

pub returns : goal.returns
unfolding advice_text
returns c =
    let ms = table_view c.args.table.now in
    let model = option_copied c.args.model in
    let r = c.args.refusal in
    nine_pieces (entry_line ms r.place) (runnable_line ms r.place) (key_line ms r) (found_line ms model r) (wanted_line ms r)
    (measured_line model r) (known_line model r) (with_lines model r) (mend_line ms model r)
    c.args.text.now c.put_entry.new.text c.put_runnable.new.text c.put_key.new.text c.put_found.new.text c.put_wanted.new.text
    c.put_measured.new.text c.put_known_line.new.text c.put_with_lines.new.text c.put_mend.new.text
    c.in_ok-put_entry.ensures c.in_ok-put_runnable.ensures c.in_ok-put_key.ensures c.in_ok-put_found.ensures c.in_ok-put_wanted.ensures
    c.in_ok-put_measured.ensures c.in_ok-put_known_line.ensures c.in_ok-put_with_lines.ensures c.in_ok-put_mend.ensures
