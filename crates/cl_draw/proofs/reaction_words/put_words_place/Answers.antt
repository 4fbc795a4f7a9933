use Rattle.std.proofs.Common.{◌≡◌, ◌+◌, Bool, true, false, nat_le, ◌++◌, sym, subst, arith, if◌then◌else◌}
use Rattle.std.specs.Prelude.{OnOk}
use Rattle.std.proofs.lemmas.Bool.{le-leb, lt-leb}
use Rattle.cl_picture.specs.{Window.x_of, Pieces.pieces_text}
use Rattle.cl_draw.specs.ChainLines.{words_left, words_right}
use Rattle.cl_draw.proofs.reaction_words.put_words_place.Goals as goal

pub returns-then-from-to-le14000 : goal.returns-then-from-to-le14000
returns-then-from-to-le14000 c =
    let small : nat_le (x_of c.args.look.window c.args.reaction.now.from + x_of c.args.look.window c.args.reaction.now.to) 14000 ≡ true
    = le-leb _ _ (omega (arith, c.if-from-to-le14000.true, c.x-from.ensures.x, c.x-to.ensures.x)) in
    subst (λ (b : Bool). OnOk c.put_pieces.result (c.put_pieces.new.text ≡ c.args.text.now ++ pieces_text (if b then words_left c.args.look c.args.reaction.now else words_right c.args.look c.args.reaction.now)))
    (sym small) (rw (← c.x-from.ensures.x) c.put_pieces.ensures.ok)

pub returns-else-from-to-le14000 : goal.returns-else-from-to-le14000
returns-else-from-to-le14000 c =
    let great : nat_le (x_of c.args.look.window c.args.reaction.now.from + x_of c.args.look.window c.args.reaction.now.to) 14000 ≡ false
    = lt-leb _ _ (omega (arith, c.if-from-to-le14000.false, c.x-from.ensures.x, c.x-to.ensures.x)) in
    subst (λ (b : Bool). OnOk c.put_pieces-else-from-to-le14000.result (c.put_pieces-else-from-to-le14000.new.text ≡ c.args.text.now
    ++ pieces_text (if b then words_left c.args.look c.args.reaction.now else words_right c.args.look c.args.reaction.now)))
    (sym great) (rw (← c.x-to.ensures.x, ← c.saturating_sub.ensures) c.put_pieces-else-from-to-le14000.ensures.ok)
