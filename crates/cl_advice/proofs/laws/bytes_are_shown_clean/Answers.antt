use Rattle.cl_advice.specs.declared.shown.TheConstants.{MOST_SHOWN}
use Rattle.cl_advice.proofs.CleanBytes.{text_printable, shown_short, shown_whole, string_printable, string_short, string_whole}
use Rattle.cl_advice.proofs.laws.bytes_are_shown_clean.Goals as goal

pub returns-clause-printable : goal.returns-clause-printable
returns-clause-printable c = text_printable

pub returns-clause-short : goal.returns-clause-short
returns-clause-short c = λ bytes. shown_short bytes MOST_SHOWN

pub returns-clause-whole : goal.returns-clause-whole
returns-clause-whole c = λ bytes. shown_whole bytes MOST_SHOWN

pub returns-clause-quoted_printable : goal.returns-clause-quoted_printable
returns-clause-quoted_printable c = string_printable

pub returns-clause-quoted_short : goal.returns-clause-quoted_short
returns-clause-quoted_short c = string_short

pub returns-clause-quoted_whole : goal.returns-clause-quoted_whole
returns-clause-quoted_whole c = string_whole
