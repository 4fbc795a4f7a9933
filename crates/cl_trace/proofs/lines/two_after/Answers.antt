use Rattle.std.proofs.Common.{◌≡◌, ◌∷◌}
use Rattle.cl_trace.proofs.LineFacts.{before_more}
use Rattle.cl_trace.proofs.lines.two_after.Goals as goal

pub returns-in_err-second-clause-only : goal.returns-in_err-second-clause-only
returns-in_err-second-clause-only c = λ m n more rest first second fits.
    let one = before_more (λ k tail. (c.in_ok-first.first ≡ k) × (c.in_ok-first.text.now ≡ tail)) c.args.most c.args.text.now c.in_ok-first.ensures.only m (n ∷ more) rest first fits in
    absurd (before_more (λ k tail. ⊥) c.args.most c.in_ok-first.text.now c.in_err-second.ensures.only n more rest second one.1)

pub returns-clause-only : goal.returns-clause-only
returns-clause-only c = λ m n more rest first second fits.
    let one = before_more (λ k tail. (c.in_ok-first.first ≡ k) × (c.in_ok-first.text.now ≡ tail)) c.args.most c.args.text.now c.in_ok-first.ensures.only m (n ∷ more) rest first fits in
    let two = before_more (λ k tail. (c.in_ok-second.second ≡ k) × (c.in_ok-second.rest.now ≡ tail)) c.args.most c.in_ok-first.text.now c.in_ok-second.ensures.only n more rest second one.1 in
    (one.0, two.0, two.1)
