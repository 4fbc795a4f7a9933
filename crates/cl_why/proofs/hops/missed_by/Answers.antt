use Rattle.std.proofs.Common.{ℤ, List, get_or, pos, SFits, w64, ap, rules, arith}
use Rattle.std.proofs.lemmas.Int.{ints}
use Rattle.cl_why.proofs.hops.missed_by.Goals as goal

pub returns : goal.returns
returns c =
    let taken = get_or c.as_slice.result.now c.args.place (pos 0) in
    let missed = get_or c.as_slice-2.result.now c.args.next (pos 0) in
    let fits_taken : SFits w64 taken = search rules in
    let fits_missed : SFits w64 missed = search rules in
    omega (
      arith,
      ints,
      c.from-taken.ensures,
      c.from-missed.ensures,
      fits_taken,
      fits_missed,
      c.requires.lag.0,
      c.requires.lag.1,
      ap (λ (list : List ℤ). get_or list c.args.place (pos 0)) c.as_slice.ensures,
      ap (λ (list : List ℤ). get_or list c.args.next (pos 0)) c.as_slice-2.ensures,
    )
