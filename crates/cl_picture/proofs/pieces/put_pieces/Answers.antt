use Rattle.std.proofs.Common.{rules, refl}
use Rattle.std.proofs.lemmas.Grind.{common_steps}
use Rattle.cl_text.proofs.Beginnings.{on_error}
use Rattle.cl_picture.specs.Pieces.{piece_of, pieces_text}
use Rattle.cl_picture.proofs.Beginnings.{listed_piece}
use Rattle.cl_picture.proofs.pieces.put_pieces.Goals as goal

pub loop-piece-init : goal.loop-piece-init
unfolding pieces_text
loop-piece-init c = search rules

pub loop-piece-preserved : goal.loop-piece-preserved
unfolding pieces_text
loop-piece-preserved c = grind (rules, common_steps)

pub returns-in_err-put_piece-clause-err : goal.returns-in_err-put_piece-clause-err
returns-in_err-put_piece-clause-err c =
    on_error c.from_residual.result _
    (listed_piece piece_of c.args.pieces.now _ _ _ _ _ c.loop-piece.piece-index c.loop-piece-test.true refl c.loop-piece.invariant
    c.in_err-put_piece.ensures.err)
