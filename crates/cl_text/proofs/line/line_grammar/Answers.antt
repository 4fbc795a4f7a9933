use Rattle.cl_text.proofs.LineLemmas.{line_end-ended, line_end-unended, unbroken_word}
use Rattle.cl_text.proofs.line.line_grammar.Goals as goal

pub returns-clause-ended : goal.returns-clause-ended
returns-clause-ended c = line_end-ended

pub returns-clause-unended : goal.returns-clause-unended
returns-clause-unended c = line_end-unended

pub returns-clause-words : goal.returns-clause-words
returns-clause-words c = unbroken_word
