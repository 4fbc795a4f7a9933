use Rattle.std.proofs.Common.{◌≡◌, ◌<◌, [], ◌∷◌, ◌++◌, ap, subst, ◌∙◌, arith, codes, List}
use Rattle.std.specs.List.{flat_map, range_with_len}
use Rattle.std.proofs.lemmas.Result.{IfOk-weaker, on_err_weaker}
use Rattle.cl_text.specs.Beginnings.{PutsPart}
use Rattle.cl_text.proofs.Beginnings.{on_error}
use Rattle.cl_picture.specs.{Pieces.{Piece, Fixed, pieces_text}, Axis.{tick_at, tick_count, tick_pieces}}
use Rattle.cl_picture.proofs.{Beginnings.{first_pieces, second_pieces, first_of_line, second_of_line, numbered_part}, Printing.{no_pieces, more_pieces, line_behind, numbered_pieces}}
use Rattle.cl_picture.proofs.axis.put_lines.Goals as goal

pub loop-k-init : goal.loop-k-init
loop-k-init c = no_pieces _

pub loop-k-preserved : goal.loop-k-preserved
loop-k-preserved c = numbered_pieces (λ k. tick_pieces c.args.window c.args.bottom (tick_at c.args.window k)) _ _ _ c.loop-k.k c.loop-k.invariant
    (c.in_ok-put_tick_line.ensures.ok ∙ ap (λ t. c.loop-k.text ++ pieces_text (tick_pieces c.args.window c.args.bottom t)) c.tick_at.ensures)

pub returns-in_err-put_pieces-clause-err : goal.returns-in_err-put_pieces-clause-err
returns-in_err-put_pieces-clause-err c =
    let opening : List Piece = Fixed (codes "<path class=\"g\" d=\"") ∷ [] in
    let ticks : List Piece = flat_map (λ k. tick_pieces c.args.window c.args.bottom (tick_at c.args.window k)) (range_with_len 0 (tick_count c.args.window)) in
    on_error c.from_residual.result _
    (first_of_line _ _ (opening ++ ticks) (Fixed (codes "\"/>") ∷ []) (first_pieces _ _ opening ticks c.in_err-put_pieces.ensures.err))

pub returns-in_err-put_tick_line-clause-err : goal.returns-in_err-put_tick_line-clause-err
returns-in_err-put_tick_line-clause-err c =
    let opening : List Piece = Fixed (codes "<path class=\"g\" d=\"") ∷ [] in
    let ticks : List Piece = flat_map (λ k. tick_pieces c.args.window c.args.bottom (tick_at c.args.window k)) (range_with_len 0 (tick_count c.args.window)) in
    let within : c.loop-k.k < tick_count c.args.window = omega (arith, c.requires.axis.count, c.loop-k-test.true, c.loop-k.auto.k-end) in
    let own = subst (λ t. PutsPart c.loop-k.text c.put_tick_line.new.text (pieces_text (tick_pieces c.args.window c.args.bottom t))) c.tick_at.ensures
    c.in_err-put_tick_line.ensures.err in
    on_error c.from_residual-in_err-put_tick_line.result _
    (first_of_line _ _ (opening ++ ticks) (Fixed (codes "\"/>") ∷ [])
    (second_pieces _ _ _ opening ticks c.in_ok-put_pieces.ensures.ok
    (numbered_part (λ k. tick_pieces c.args.window c.args.bottom (tick_at c.args.window k)) _ _ _ c.loop-k.k (tick_count c.args.window) within
    c.loop-k.invariant own)))

pub returns-clause-ok : goal.returns-clause-ok
returns-clause-ok c =
    let all : c.loop-k.k ≡ tick_count c.args.window = omega (arith, c.requires.axis.count, c.loop-k-test.false, c.loop-k.auto.k-end) in
    let lines = c.loop-k.invariant ∙ ap (λ n. c.put_pieces.new.text ++ pieces_text (flat_map (λ k. tick_pieces c.args.window c.args.bottom (tick_at c.args.window k)) (range_with_len 0 n))) all in
    IfOk-weaker c.put_line.result _ _ (λ _ is. line_behind _ _ _ _ _ (more_pieces _ _ _ _ _ c.in_ok-put_pieces.ensures.ok lines) is) c.put_line.ensures.ok

pub returns-clause-err : goal.returns-clause-err
returns-clause-err c =
    let all : c.loop-k.k ≡ tick_count c.args.window = omega (arith, c.requires.axis.count, c.loop-k-test.false, c.loop-k.auto.k-end) in
    let lines = c.loop-k.invariant ∙ ap (λ n. c.put_pieces.new.text ++ pieces_text (flat_map (λ k. tick_pieces c.args.window c.args.bottom (tick_at c.args.window k)) (range_with_len 0 n))) all in
    on_err_weaker c.put_line.result (λ part. second_of_line _ _ _ _ _ (more_pieces _ _ _ _ _ c.in_ok-put_pieces.ensures.ok lines) part) c.put_line.ensures.err
