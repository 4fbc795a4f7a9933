use Rattle.std.proofs.Common.{List, ℕ, ◌++◌, ap, ◌∙◌}
use Rattle.std.specs.Prelude.{codes}
use Rattle.std.proofs.lemmas.Result.{on_ok_weaker}
use Rattle.cl_advice.specs.Hop.{lacking_words}
use Rattle.cl_advice.proofs.Pieces.{between_nine}
use Rattle.cl_advice.proofs.hop.put_lacking.Goals as goal

pub returns : goal.returns
unfolding lacking_words
returns c =
    on_ok_weaker c.put-9.result (λ last.
    between_nine (codes "mend ") (codes "let ") c.args.lacking.now c.args.verb.now c.args.label.now (codes ", or name a label that ")
    c.args.writer.now (codes " writes and ") c.args.reader.now (codes " reads") (codes "\n")
    c.args.text.now c.put.new.self c.put-2.new.self c.put-3.new.self c.put-4.new.self c.put-5.new.self c.put-6.new.self c.put-7.new.self
    c.put-8.new.self c.put-9.new.self
    c.in_ok-put.ensures.ok
    (c.in_ok-put-2.ensures.ok ∙ ap (λ (l : List ℕ). c.put.new.self ++ l) c.as_slice.ensures.bytes)
    c.in_ok-put-3.ensures.ok
    (c.in_ok-put-4.ensures.ok ∙ ap (λ (l : List ℕ). c.put-3.new.self ++ l) c.as_slice-2.ensures.bytes)
    c.in_ok-put-5.ensures.ok
    (c.in_ok-put-6.ensures.ok ∙ ap (λ (l : List ℕ). c.put-5.new.self ++ l) c.as_slice-3.ensures.bytes)
    c.in_ok-put-7.ensures.ok
    (c.in_ok-put-8.ensures.ok ∙ ap (λ (l : List ℕ). c.put-7.new.self ++ l) c.as_slice-4.ensures.bytes)
    last) c.put-9.ensures.ok
