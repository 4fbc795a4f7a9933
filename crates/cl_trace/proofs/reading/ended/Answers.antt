use Rattle.std.proofs.Common.{◌≡◌, ◌∷◌, length, refl, ap, sym, ◌∙◌, arith}
use Rattle.std.proofs.lemmas.Bool.Decides.{nat_tests}
use Rattle.cl_trace.specs.Trace.{item_text}
use Rattle.cl_trace.proofs.{BadCases.cases_of, BadLines.{no_below, too_long}, OneTrace.{run_once, never_bad}, PieceFacts.no_bytes, Readings.read_trace_of}
use Rattle.cl_trace.proofs.reading.ended.Goals as goal

pub returns-in-Some-clause-run : goal.returns-in-Some-clause-run
unfolding item_text
returns-in-Some-clause-run c =
    let none : length c.in-Some.nothing.now ≡ 0 = grind (arith, nat_tests) in
    read_trace_of c.args.model.now c.args.text.now c.args.run c.args.left.now c.requires.body
    (c.in-Some.ensures.some ∙ ap (λ t. 101 ∷ 110 ∷ 100 ∷ 10 ∷ t) (no_bytes c.in-Some.nothing.now none))

pub returns-in-Some-2-clause-bad_line : goal.returns-in-Some-2-clause-bad_line
unfolding item_text
returns-in-Some-2-clause-bad_line c = λ line is.
    let same : c.line_at.result ≡ line = cc in
    cases_of c.args.model.now c.args.text.now line (too_long c.args.model.now c.requires.valid c.requires.named c.args.text.now c.args.run c.args.left.now c.requires.body line c.in-Some.nothing.now
    c.in-Some.ensures.some (λ none. let zero : length c.in-Some.nothing.now ≡ 0 = ap length none in grind (arith, nat_tests)) (sym same ∙ c.line_at.ensures))

pub returns-in-None-clause-bad_line : goal.returns-in-None-clause-bad_line
unfolding item_text
returns-in-None-clause-bad_line c = λ line is.
    let same : c.line_at-in-None.result ≡ line = cc in
    cases_of c.args.model.now c.args.text.now line (no_below c.args.model.now c.requires.valid c.requires.named c.args.text.now c.args.run c.args.left.now c.requires.body line
    c.in-None.ensures.none (sym same ∙ c.line_at-in-None.ensures))

pub returns-in-Some-clause-only : goal.returns-in-Some-clause-only
returns-in-Some-clause-only c = λ run trace.
    run_once c.args.model.now c.requires.valid c.requires.named c.args.text.now c.args.run run (returns-in-Some-clause-run c) trace

pub returns-in-Some-2-clause-only : goal.returns-in-Some-2-clause-only
returns-in-Some-2-clause-only c = λ run trace.
    absurd (never_bad c.args.model.now c.requires.valid c.requires.named c.args.text.now run c.line_at.result trace (returns-in-Some-2-clause-bad_line c _ refl))

pub returns-in-None-clause-only : goal.returns-in-None-clause-only
returns-in-None-clause-only c = λ run trace.
    absurd (never_bad c.args.model.now c.requires.valid c.requires.named c.args.text.now run c.line_at-in-None.result trace (returns-in-None-clause-bad_line c _ refl))
