use Rattle.std.proofs.Common.{◌≡◌, ◌+◌, ℤ, take, w64, to_z, of_z, sym, subst, arith}
use Rattle.std.specs.Prelude.{MatchOption}
use Rattle.std.proofs.lemmas.Int.{ints}
use Rattle.cl_resp.specs.Inner.Releases.{IsLaterOf}
use Rattle.cl_resp.proofs.PhasedReleases.{IsLastAmong, last_more}
use Rattle.cl_resp.proofs.phased.PhasedQuestion.last_release_before.Goals as goal

pub loop-above-preserved : goal.loop-above-preserved
loop-above-preserved c =
    let list = c.as_slice-above-items.result.now in
    let i = c.loop-above.above-index in
    let last = c.loop-above.last in
    let start = to_z w64 (of_z w64 c.args.start) in
    let release = c.last_release.result in
    let second = to_z w64 (of_z w64 release) in
    let moment = to_z w64 (of_z w64 c.later_of.result) in
    let same_release : second ≡ release = omega (arith, ints, c.last_release.type_inv) in
    let same_moment : c.later_of.result ≡ moment = omega (arith, ints, c.later_of.type_inv) in
    let is_later = subst (λ (r : ℤ). MatchOption last (moment ≡ r) (λ found. IsLaterOf found r moment)) same_release
    (subst (λ (m : ℤ). MatchOption last (m ≡ second) (λ found. IsLaterOf found second m)) same_moment c.later_of.ensures) in
    subst (λ xs. IsLastAmong (take (i + 1) xs) start moment) c.as_slice-above-items.ensures
    (last_more list i _ c.loop-above-test.true start release c.last_release.ensures last moment
    (subst (λ xs. MatchOption last (i ≡ 0) (IsLastAmong (take i xs) start)) (sym c.as_slice-above-items.ensures) c.loop-above.invariant) is_later)
