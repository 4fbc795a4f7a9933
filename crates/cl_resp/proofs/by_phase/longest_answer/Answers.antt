use Rattle.std.proofs.Common.{sym, ◌∙◌}
use Rattle.cl_resp.proofs.SearchBegins.{search_begins, none_beside}
use Rattle.cl_resp.proofs.by_phase.longest_answer.Goals as goal

pub returns-in_default : goal.returns-in_default
returns-in_default c = sym (none_beside c.args.question.now c.requires.in_range (sym c.requires.least ∙ c.in_default.is))

pub answer_each_moment-requires-clause-search : goal.answer_each_moment-requires-clause-search
answer_each_moment-requires-clause-search c =
    search_begins c.args.question.now c.requires.in_range c.in-Some.least (sym c.requires.least ∙ c.in-Some.is)
    c.args.widest c.requires.widest c.requires.short c.args.most c.requires.most

pub answer_all-requires-clause-search : goal.answer_all-requires-clause-search
answer_all-requires-clause-search c =
    search_begins c.args.question.now c.requires.in_range c.in-Some.least (sym c.requires.least ∙ c.in-Some.is)
    c.args.widest c.requires.widest c.requires.short c.args.most c.requires.most
