use Rattle.cl_draw.specs.Picture.{window_between}
use Rattle.cl_draw.proofs.PlainPicture.{picture_plain}
use Rattle.cl_draw.proofs.laws.texts.values_are_plain.Goals as goal

pub returns : goal.returns
returns c = λ model named run from to text is. picture_plain model named run (window_between from to) is.rows is.reactions
