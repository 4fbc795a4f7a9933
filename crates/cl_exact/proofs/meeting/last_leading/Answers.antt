use Rattle.std.proofs.Common.{◌≡◌, ℕ, suc, ◌-◌, ◌∙◌, sym, ap, subst, arith}
use Rattle.cl_exact.specs.Inner.Beats.{beat_in, read_at, last_writer}
use Rattle.cl_exact.proofs.Meetings.{IsLedBack, back_begins, back_has_writer, back_goes_on}
use Rattle.cl_exact.proofs.meeting.last_leading.Goals as goal

pub loop-at-init : goal.loop-at-init
loop-at-init c = back_begins c.args.beats.now c.requires.beats c.args.first c.args.place c.args.job c.requires.place c.requires.job c.requires.early

pub last_writer-last-requires-clause-some : goal.last_writer-last-requires-clause-some
last_writer-last-requires-clause-some c =
    let beats = c.args.beats.now in
    let before : ℕ = c.loop-at.at - 1 in
    let next : c.loop-at.at ≡ suc before = omega (arith, c.loop-at-test.true) in
    let led = subst (λ at. IsLedBack beats c.args.first c.args.place c.args.job at c.loop-at.last) next c.loop-at.invariant in
    omega (
      arith,
      c.read-read.ensures,
      ap (λ at. read_at (beat_in beats at) c.loop-at.last) next,
      back_has_writer beats c.requires.beats c.args.first c.args.place c.args.job c.requires.place before c.loop-at.last led.within led,
    )

pub loop-at-preserved : goal.loop-at-preserved
loop-at-preserved c =
    let beats = c.args.beats.now in
    let before : ℕ = c.loop-at.at - 1 in
    let next : c.loop-at.at ≡ suc before = omega (arith, c.loop-at-test.true) in
    let led = subst (λ at. IsLedBack beats c.args.first c.args.place c.args.job at c.loop-at.last) next c.loop-at.invariant in
    let read : c.read-read.result ≡ read_at (beat_in beats (suc before)) c.loop-at.last = c.read-read.ensures ∙ ap (λ at. read_at (beat_in beats at) c.loop-at.last) next in
    subst (λ last. IsLedBack beats c.args.first c.args.place c.args.job before last)
    (sym (c.last_writer-last.ensures ∙ ap (last_writer (beat_in beats before)) read))
    (back_goes_on beats c.requires.beats c.args.first c.args.place c.args.job c.requires.place before c.loop-at.last led.within led)
