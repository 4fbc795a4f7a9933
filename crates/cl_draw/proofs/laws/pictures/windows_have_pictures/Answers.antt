use Rattle.cl_draw.proofs.SomePicture.{some_picture}
use Rattle.cl_draw.proofs.laws.pictures.windows_have_pictures.Goals as goal

pub returns : goal.returns
returns c = λ model valid run legal from to ordered within. some_picture model valid run legal from to
