use Rattle.cl_text.proofs.DecimalLemmas.{grammar_of_decimal, decimal_of_grammar}
use Rattle.cl_text.proofs.decimal.decimal_grammar.Goals as goal

pub returns-clause-printed : goal.returns-clause-printed
returns-clause-printed c = grammar_of_decimal

pub returns-clause-only : goal.returns-clause-only
returns-clause-only c = decimal_of_grammar
