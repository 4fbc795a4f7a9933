use Rattle.cl_text.proofs.LineLemmas.{first_word-ended, first_word-last, graphic_decimal}
use Rattle.cl_text.proofs.line.word_grammar.Goals as goal

pub returns-clause-ended : goal.returns-clause-ended
returns-clause-ended c = first_word-ended

pub returns-clause-last : goal.returns-clause-last
returns-clause-last c = first_word-last

pub returns-clause-decimals : goal.returns-clause-decimals
returns-clause-decimals c = graphic_decimal
