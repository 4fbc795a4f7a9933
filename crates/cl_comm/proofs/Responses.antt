-- The window of a runnable by the response of its task: only its end depends on that, and never falls as that grows.
use Rattle.std.proofs.Common.{◌≡◌, ℕ, ◌≤◌, refl, arith}
use Rattle.cl_model.specs.declared.task.AccessKind.{AccessKind, TheVariants.{Explicit, Implicit, Timed}}
use Rattle.cl_comm.specs.{declared.spot.Spot.Spot, Windows.window_of}

pub reads_stay : (access : AccessKind) (spot : Spot) (response other : ℕ)
    → (window_of access spot response).rlo ≡ (window_of access spot other).rlo
reads_stay Explicit spot response other = refl
reads_stay Implicit spot response other = refl
reads_stay Timed spot response other = refl

pub writes_stay : (access : AccessKind) (spot : Spot) (response other : ℕ)
    → (window_of access spot response).wlo ≡ (window_of access spot other).wlo
writes_stay Explicit spot response other = refl
writes_stay Implicit spot response other = refl
writes_stay Timed spot response other = refl

pub ends_rise : (access : AccessKind) (spot : Spot) (less more : ℕ) → less ≤ more
    → (window_of access spot less).whi ≤ (window_of access spot more).whi
ends_rise Explicit spot less more le = omega (arith, le)
ends_rise Implicit spot less more le = le
ends_rise Timed spot less more le = omega arith
