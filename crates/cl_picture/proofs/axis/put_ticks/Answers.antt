use Rattle.std.proofs.Common.{◌≡◌, ◌++◌, ◌<◌, [], ◌∷◌, ap, subst, ◌∙◌, arith, map}
use Rattle.std.specs.List.{range_with_len}
use Rattle.cl_text.specs.Beginnings.{PutsPart}
use Rattle.cl_text.proofs.Beginnings.{on_error}
use Rattle.cl_picture.specs.{Pieces.print, Axis.{tick_at, tick_count, tick_line}}
use Rattle.cl_picture.proofs.{Beginnings.numbered_line, Printing.{no_elements, numbered_lines}}
use Rattle.cl_picture.proofs.axis.put_ticks.Goals as goal

pub loop-k-init : goal.loop-k-init
loop-k-init c = no_elements _

pub loop-k-preserved : goal.loop-k-preserved
loop-k-preserved c = numbered_lines (λ k. tick_line c.args.window (tick_at c.args.window k)) _ _ _ c.loop-k.k c.loop-k.invariant
    (c.in_ok-put_tick.ensures.ok ∙ ap (λ t. c.loop-k.text ++ print (tick_line c.args.window t ∷ [])) c.tick_at.ensures)

pub returns-in_err-put_tick-clause-err : goal.returns-in_err-put_tick-clause-err
returns-in_err-put_tick-clause-err c =
    let within : c.loop-k.k < tick_count c.args.window = omega (arith, c.requires.axis.count, c.loop-k-test.true, c.loop-k.auto.k-end) in
    on_error c.from_residual.result _
    (numbered_line (λ k. tick_line c.args.window (tick_at c.args.window k)) _ _ _ c.loop-k.k (tick_count c.args.window) within c.loop-k.invariant
    (subst (λ t. PutsPart c.loop-k.text c.put_tick.new.text (print (tick_line c.args.window t ∷ []))) c.tick_at.ensures c.in_err-put_tick.ensures.err))

pub returns-clause-ok : goal.returns-clause-ok
returns-clause-ok c =
    let all : c.loop-k.k ≡ tick_count c.args.window = omega (arith, c.requires.axis.count, c.loop-k-test.false, c.loop-k.auto.k-end) in
    c.loop-k.invariant ∙ ap (λ n. c.args.text.now ++ print (map (λ k. tick_line c.args.window (tick_at c.args.window k)) (range_with_len 0 n))) all
