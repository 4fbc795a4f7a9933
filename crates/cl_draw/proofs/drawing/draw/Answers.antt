use Rattle.cl_draw.proofs.{PictureFacts.is_picture, PictureLength.few_of_drawing}
use Rattle.cl_draw.proofs.drawing.draw.Goals as goal

pub room_of-room-requires-clause-few : goal.room_of-room-requires-clause-few
room_of-room-requires-clause-few c = few_of_drawing c.args.model.now c.args.run.now c.requires.legal c.args.from c.args.to c.requires.ordered c.requires.within
    _ c.in_ok-drawing.ensures.window c.in_ok-drawing.ensures.drawing _ c.as_slice.ensures

pub returns : goal.returns
returns c = is_picture c.args.model.now c.args.run.now c.args.from c.args.to _ _ _ c.in_ok-drawing.ensures.window c.in_ok-drawing.ensures.drawing c.in_ok-text.ensures
    c.in_ok-put_picture.ensures
