use Rattle.std.proofs.Common.{◌≡◌, ℕ, ◌+◌, ◌-◌, List, inl, inr, refl, ap, ◌∙◌, arith}
use Rattle.std.proofs.lemmas.Bool.{eqb-true}
use Rattle.std.specs.Prelude.{slice_index}
use Rattle.memchr.specs.Find.{is_byte}
use Rattle.cl_place.proofs.position.last_row.Goals as goal

at_last : (bytes : List ℕ) (at : ℕ) → slice_index bytes at ≡ 0x0A → slice_index bytes (at + 1 - 1) ≡ 0x0A
at_last bytes at is =
    let same : at + 1 - 1 ≡ at = omega arith in
    ap (slice_index bytes) same ∙ is

pub returns-in-Some : goal.returns-in-Some
returns-in-Some c = record {
  within = omega (arith, c.in-Some.ensures.0.high);
  behind = inr (at_last c.args.bytes.now c.in-Some.at (eqb-true (slice_index c.args.bytes.now c.in-Some.at) 0x0A c.in-Some.ensures.1));
  last = λ k low high is. c.in-Some.ensures.0.after k low high (ap (is_byte 0x0A) is);
}

pub returns-in-None : goal.returns-in-None
returns-in-None c = record { within = omega arith; behind = inl refl; last = λ k low high is. c.in-None.ensures k low high (ap (is_byte 0x0A) is) }
