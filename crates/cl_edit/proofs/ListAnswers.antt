-- What is answered of one check, by what was computed.
use Rattle.std.proofs.Common.{◌≡◌, Bool, subst}
use Rattle.std.specs.Prelude.{Result}
use Rattle.cl_model.specs.{declared.{model_fault.ModelFault.ModelFault, place.Place.Place, refusal.Code.Code}, Answers.Answers, Refusals.{when, unless}}

pub answers_when : (result : Result (Unit {0}) ModelFault) (computed asked : Bool) (code : Code) (made place : Place) → computed ≡ asked → made ≡ place
    → Answers result (when computed code made) tt → Answers result (when asked code place) tt
answers_when result computed asked code made place is at h =
    subst (λ p. Answers result (when asked code p) tt) at (subst (λ b. Answers result (when b code made) tt) is h)

pub answers_unless : (result : Result (Unit {0}) ModelFault) (computed asked : Bool) (code : Code) (made place : Place) → computed ≡ asked → made ≡ place
    → Answers result (unless computed code made) tt → Answers result (unless asked code place) tt
answers_unless result computed asked code made place is at h =
    subst (λ p. Answers result (unless asked code p) tt) at (subst (λ b. Answers result (unless b code made) tt) is h)
