use Rattle.cl_draw.proofs.PictureLength.{length_within}
use Rattle.cl_draw.proofs.laws.texts.pictures_are_short.Goals as goal

pub returns : goal.returns
returns c = λ model valid named run legal few from to ordered within text is. length_within model valid named run legal few from to ordered within text is
