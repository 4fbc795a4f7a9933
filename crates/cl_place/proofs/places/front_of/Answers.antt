use Rattle.std.proofs.Common.{ℕ, List, inl, subst}
use Rattle.cl_place.specs.Places.{IsPlaceIn}
use Rattle.cl_place.proofs.places.front_of.Goals as goal

pub returns : goal.returns
returns c =
    subst (λ (document : List ℕ). IsPlaceIn document c.mark_length.result) c.as_bytes.ensures.value
    (record { within = c.mark_length.ensures.within; begins = inl c.mark_length.ensures.front })
