use Rattle.cl_draw.proofs.OnePicture.{one_picture}
use Rattle.cl_draw.proofs.laws.pictures.pictures_are_unique.Goals as goal

pub returns : goal.returns
returns c = one_picture
