use Rattle.cl_text.proofs.FoundInTexts.{line_in_text, word_in_text, last_word_in_text, piece_of_text}
use Rattle.cl_text.proofs.line.found_in_a_text.Goals as goal

pub returns-clause-lines : goal.returns-clause-lines
returns-clause-lines c = line_in_text

pub returns-clause-words : goal.returns-clause-words
returns-clause-words c = word_in_text

pub returns-clause-last : goal.returns-clause-last
returns-clause-last c = last_word_in_text

pub returns-clause-piece : goal.returns-clause-piece
returns-clause-piece c = piece_of_text
