use Rattle.std.proofs.lemmas.Fmt.{decimal_injective}
use Rattle.cl_text.proofs.FoundInTexts.{number_in_text}
use Rattle.cl_text.proofs.decimal.printed_numbers_are_apart.Goals as goal

pub returns-clause-numbers : goal.returns-clause-numbers
returns-clause-numbers c = decimal_injective

pub returns-clause-words : goal.returns-clause-words
returns-clause-words c = number_in_text
