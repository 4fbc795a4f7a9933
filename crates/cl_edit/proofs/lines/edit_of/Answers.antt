use Rattle.std.proofs.Common.{◌≡◌, ◌≢◌, [], ◌∷◌, sym, ◌∙◌, arith}
use Rattle.std.proofs.lemmas.Bool.Decides.{nat_tests}
use Rattle.cl_edit.specs.Inner.{Parts.parts, LineReads.edit_in}
use Rattle.cl_edit.proofs.{KeywordFacts.{no_word_read, words_left, no_word_left, unread_line}, Unreads.kept_unread}
use Rattle.cl_edit.proofs.lines.edit_of.Goals as goal

pub returns-in_default : goal.returns-in_default
returns-in_default c = no_word_read c.args.version c.args.line.now (sym c.of-words.ensures ∙ c.in_default.ensures.none)

pub returns-in_err-edit : goal.returns-in_err-edit
returns-in_err-edit c =
    let are : parts 0x20 c.args.line.now ≡ c.in-Some.keyword.now ∷ c.next.new.self = sym c.of-words.ensures ∙ c.in-Some.ensures.some in
    let unread = unread_line c.args.version c.args.line.now c.in-Some.keyword.now c.next.new.self c.fields_of.new.words c.in_err-edit.field-0.0 are c.in_err-edit.ensures in
    kept_unread c.from_residual.result c.in_err-edit.field-0.0 (edit_in c.args.version c.args.line.now) c.from_residual.ensures unread

pub returns-then-is_done : goal.returns-then-is_done
returns-then-is_done c =
    let are : parts 0x20 c.args.line.now ≡ c.in-Some.keyword.now ∷ c.next.new.self = sym c.of-words.ensures ∙ c.in-Some.ensures.some in
    no_word_left c.args.version c.args.line.now c.in-Some.keyword.now c.next.new.self c.fields_of.new.words c.in_ok-edit.edit are c.in_ok-edit.ensures (c.is_done.ensures.0 (grind (arith, nat_tests)))

pub returns-else-is_done : goal.returns-else-is_done
returns-else-is_done c =
    let are : parts 0x20 c.args.line.now ≡ c.in-Some.keyword.now ∷ c.next.new.self = sym c.of-words.ensures ∙ c.in-Some.ensures.some in
    let some : c.fields_of.new.words ≢ [] = λ none. let done = c.is_done.ensures.1 none in absurd (grind (arith, nat_tests, done)) in
    words_left c.args.version c.args.line.now c.in-Some.keyword.now c.next.new.self c.fields_of.new.words c.in_ok-edit.edit are c.in_ok-edit.ensures some
