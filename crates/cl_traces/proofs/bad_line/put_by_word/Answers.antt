use Rattle.std.proofs.Common.{◌≡◌, ℕ, ◌-◌, Bool, true, false, List, ◌++◌, Option, refl, sym, ap, ◌∙◌, subst}
use Rattle.std.specs.Prelude.{if◌then◌else◌, codes, OnOk}
use Rattle.std.specs.Str.{bytes_eq}
use Rattle.cl_traces.specs.{declared.run_line.RunLine.RunLine, BadTraceLines.{ticks_of_trace, run_line_at, wanted_job, wanted_run}, TraceLines.{trace_line, line_word}}
use Rattle.cl_traces.proofs.bad_line.put_by_word.Goals as goal

first_of : (p : Bool) (x y : List ℕ) → p ≡ true → (if p then x else y) ≡ x
first_of true x y h = refl
first_of false x y h = absurd (cc)

second_of : (p : Bool) (x y : List ℕ) → p ≡ false → (if p then x else y) ≡ y
second_of true x y h = absurd (cc)
second_of false x y h = refl

-- what is known of the first word of a line is known of the word that was taken from it
of_word : (line at word : List ℕ) (name : List ℕ) (answer : Bool) → line ≡ at → word ≡ line_word line 0 → answer ≡ bytes_eq word name → bytes_eq (line_word at 0) name ≡ answer
of_word line at word name answer is taken same = sym (same ∙ ap (λ (w : List ℕ). bytes_eq w name) (taken ∙ ap (λ (l : List ℕ). line_word l 0) is))

pub returns-then-is : goal.returns-then-is
returns-then-is c =
    let model = c.args.model.now in
    let trace = c.args.trace.now in
    let number = c.args.number in
    let here = trace_line trace number in
    let above = trace_line trace (number - 1) in
    let is_job : bytes_eq (line_word here 0) (codes "job") ≡ true =
    of_word c.trace_line-line.result.now here c.line_word-word.result.now (codes "job") c.is.result c.trace_line-line.ensures c.line_word-word.ensures c.is.ensures ∙ c.if-is.true in
    let words : wanted_job model c.trace_line.result.now c.trace_line-line.result.now ≡ wanted_job model above here =
    ap (λ (a : List ℕ). wanted_job model a c.trace_line-line.result.now) (c.trace_line.ensures ∙ ap (λ (n : ℕ). trace_line trace n) c.saturating_sub-above.ensures)
    ∙ ap (λ (l : List ℕ). wanted_job model above l) c.trace_line-line.ensures in
    let chosen = first_of (bytes_eq (line_word here 0) (codes "job")) (wanted_job model above here)
    (if bytes_eq (line_word here 0) (codes "run") then wanted_run model (ticks_of_trace trace) (run_line_at model trace (number - 1)) (run_line_at model trace number) else codes "job, run or end") is_job in
    subst (λ (said : List ℕ). OnOk c.put_wanted_job.result (c.put_wanted_job.new.text ≡ c.args.text.now ++ said)) (words ∙ sym chosen) c.put_wanted_job.ensures

pub returns-then-is-2 : goal.returns-then-is-2
returns-then-is-2 c =
    let model = c.args.model.now in
    let trace = c.args.trace.now in
    let number = c.args.number in
    let here = trace_line trace number in
    let above = trace_line trace (number - 1) in
    let no_job : bytes_eq (line_word here 0) (codes "job") ≡ false =
    of_word c.trace_line-line.result.now here c.line_word-word.result.now (codes "job") c.is.result c.trace_line-line.ensures c.line_word-word.ensures c.is.ensures ∙ c.if-is.false in
    let is_run : bytes_eq (line_word here 0) (codes "run") ≡ true =
    of_word c.trace_line-line.result.now here c.line_word-word.result.now (codes "run") c.is-else-is.result c.trace_line-line.ensures c.line_word-word.ensures c.is-else-is.ensures ∙ c.if-is-2.true in
    let run = wanted_run model (ticks_of_trace trace) (run_line_at model trace (number - 1)) (run_line_at model trace number) in
    let words : wanted_run model c.ticks_of.result c.run_line_at.result c.run_line_at-then-is-2.result ≡ run =
    ap (λ (ticks : ℕ). wanted_run model ticks c.run_line_at.result c.run_line_at-then-is-2.result) c.ticks_of.ensures
    ∙ ap (λ (a : Option RunLine). wanted_run model (ticks_of_trace trace) a c.run_line_at-then-is-2.result)
    (c.run_line_at.ensures.line ∙ ap (λ (n : ℕ). run_line_at model trace n) c.saturating_sub-above.ensures)
    ∙ ap (λ (r : Option RunLine). wanted_run model (ticks_of_trace trace) (run_line_at model trace (number - 1)) r) c.run_line_at-then-is-2.ensures.line in
    let of_run = first_of (bytes_eq (line_word here 0) (codes "run")) run (codes "job, run or end") is_run in
    let chosen = second_of (bytes_eq (line_word here 0) (codes "job")) (wanted_job model above here)
    (if bytes_eq (line_word here 0) (codes "run") then run else codes "job, run or end") no_job in
    subst (λ (said : List ℕ). OnOk c.put_wanted_run.result (c.put_wanted_run.new.text ≡ c.args.text.now ++ said)) (words ∙ sym (chosen ∙ of_run)) c.put_wanted_run.ensures

pub returns-else-is-2 : goal.returns-else-is-2
returns-else-is-2 c =
    let model = c.args.model.now in
    let trace = c.args.trace.now in
    let number = c.args.number in
    let here = trace_line trace number in
    let above = trace_line trace (number - 1) in
    let no_job : bytes_eq (line_word here 0) (codes "job") ≡ false =
    of_word c.trace_line-line.result.now here c.line_word-word.result.now (codes "job") c.is.result c.trace_line-line.ensures c.line_word-word.ensures c.is.ensures ∙ c.if-is.false in
    let no_run : bytes_eq (line_word here 0) (codes "run") ≡ false =
    of_word c.trace_line-line.result.now here c.line_word-word.result.now (codes "run") c.is-else-is.result c.trace_line-line.ensures c.line_word-word.ensures c.is-else-is.ensures ∙ c.if-is-2.false in
    let run = wanted_run model (ticks_of_trace trace) (run_line_at model trace (number - 1)) (run_line_at model trace number) in
    let of_run = second_of (bytes_eq (line_word here 0) (codes "run")) run (codes "job, run or end") no_run in
    let chosen = second_of (bytes_eq (line_word here 0) (codes "job")) (wanted_job model above here)
    (if bytes_eq (line_word here 0) (codes "run") then run else codes "job, run or end") no_job in
    subst (λ (said : List ℕ). OnOk c.put.result (c.put.new.self ≡ c.args.text.now ++ said)) (sym (chosen ∙ of_run)) c.put.ensures.ok
