-- What is said of bytes that are no document is printable ASCII, and so is the line of a place.
use Rattle.std.proofs.Common.{ℕ, ◌==◌, List, ◌++◌, Option, Some, None, refl}
use Rattle.std.proofs.lemmas.List.Sums.{AllPass-from_list_all}
use Rattle.std.specs.Fmt.{decimal}
use Rattle.std.specs.List.{AllPass}
use Rattle.std.specs.Prelude.{codes}
use Rattle.cl_text.specs.Line.{line}
use Rattle.cl_model.specs.{declared.place.Part.Part, Place.part_text}
use Rattle.cl_advice.specs.{Shown.{is_printed, shown}, Unread.{first_sign, has_returns_alone, instead_mend, doubled_in, message_line, doubled_lines, mend_lines, unread_text}, Advice.at_line}
use Rattle.cl_advice.proofs.CleanWords.{Printed, printed_both, printed_chosen, printed_line, printed_shown, printed_decimal, printed_part}

printed_at : (row column : ℕ) → Printed (at_line row column)
unfolding at_line
printed_at row column =
    let first = printed_both (codes "at ") (decimal row) refl (printed_decimal row) in
    let next = printed_both (codes "at " ++ decimal row) (codes " ") first refl in
    printed_line (codes "at " ++ decimal row ++ codes " " ++ decimal column) (printed_both (codes "at " ++ decimal row ++ codes " ") (decimal column) next (printed_decimal column))

pub clean_at : (row column : ℕ) → AllPass is_printed (at_line row column)
clean_at row column = AllPass-from_list_all is_printed (at_line row column) (printed_at row column)

printed_message : (message : List ℕ) → Printed (message_line message)
printed_message message = printed_line (codes "message " ++ shown message) (printed_both (codes "message ") (shown message) refl (printed_shown message))

printed_instead : (bytes : List ℕ) → Printed (instead_mend bytes)
printed_instead bytes =
    printed_chosen (first_sign bytes == 0x3C) _ _ refl (printed_chosen (first_sign bytes == 0x7B) _ _ refl
    (printed_chosen (has_returns_alone bytes) _ _ refl refl))

printed_doubled : (section : Part) → Printed (doubled_lines section)
unfolding doubled_lines
printed_doubled section =
    let word = part_text section in
    let printed = printed_part section in
    let key = printed_line (codes "key " ++ word) (printed_both (codes "key ") word refl printed) in
    let each = printed_both (codes "mend each ") word refl printed in
    let begins = printed_both (codes "mend each " ++ word) (codes " begins with [[") each refl in
    let named = printed_both (codes "mend each " ++ word ++ codes " begins with [[") word begins printed in
    let whole = printed_both (codes "mend each " ++ word ++ codes " begins with [[" ++ word) (codes "]]") named refl in
    printed_both (line (codes "key " ++ word)) (line (codes "mend each " ++ word ++ codes " begins with [[" ++ word ++ codes "]]")) key
    (printed_line (codes "mend each " ++ word ++ codes " begins with [[" ++ word ++ codes "]]") whole)

printed_mends : (bytes : List ℕ) (section : Option Part) → Printed (mend_lines bytes section)
printed_mends bytes None = printed_line (codes "mend " ++ instead_mend bytes) (printed_both (codes "mend ") (instead_mend bytes) refl (printed_instead bytes))
printed_mends bytes (Some section) = printed_doubled section

printed_unread : (bytes message : List ℕ) → Printed (unread_text bytes message)
unfolding unread_text
printed_unread bytes message =
    let doubled = doubled_in bytes message in
    printed_both (mend_lines bytes doubled) (message_line message) (printed_mends bytes doubled) (printed_message message)

pub clean_unread : (bytes message : List ℕ) → AllPass is_printed (unread_text bytes message)
clean_unread bytes message = AllPass-from_list_all is_printed (unread_text bytes message) (printed_unread bytes message)
