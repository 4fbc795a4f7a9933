use Rattle.std.proofs.Common.{◌≡◌, ℕ, ◌<◌, length}
use Rattle.cl_margin.specs.Inner.Allowing.{any_allowed, allowed_at}
use Rattle.cl_margin.proofs.AllowedBounds.{AreAllowedBy}
use Rattle.cl_margin.proofs.allowed.allowed_of.Given as goal

-- any bounds are allowed of the chains so far
abbrev pub invariant-loop : goal.invariant-loop
invariant-loop l = record {
  as_many : length l.allowed ≡ l.counter;
  any : (chain : ℕ) → chain < length l.allowed → allowed_at l.allowed chain ≡ any_allowed;
}

-- those that the requirements so far allow
abbrev pub invariant-loop-i : goal.invariant-loop-i
invariant-loop-i l = AreAllowedBy l.model l.verdicts l.i l.allowed
