-- What the requirements that are met allow of the bounds of chains. Times are in ticks.
use Rattle.std.specs.Prelude.{◌≡◌, ℕ, ◌<◌, ◌≤◌, ◌&&◌, Bool, true, false, nat_le, min, List, length, slice_index_or}
use Rattle.cl_model.specs.{declared.{chain.{LengthKind.TheVariants.{Reaction, Age, Reduced}, RequirementKind.{RequirementKind, TheVariants.{Length, Delay}}}, model.SystemModel.SystemModel}, ByNumber.requirement_at}
use Rattle.cl_runs.specs.Requirements.{required_chain}
use Rattle.cl_hop.specs.Bounds.{Lengths}
use Rattle.cl_analyse.specs.{declared.findings.{ChainAnswer.{ChainAnswer, TheVariants.{Bounds, Late}}, Verdict.Verdict}, Verdicts.{limited_bound, verdict_at, is_met}}
use Rattle.cl_margin.specs.declared.allowed.Allowed.{Allowed}

-- any bounds are allowed
unfoldable pub any_allowed : Allowed
any_allowed = record {
  reaction = 18446744073709551615;
  age = 18446744073709551615;
  reduced = 18446744073709551615;
  delay = 18446744073709551615;
}

-- the greatest bounds that fit
abbrev pub most_bounds : Lengths
most_bounds = record {
  reaction = 18446744073709551615;
  age = 18446744073709551615;
  reduced = 18446744073709551615;
  delay = 18446744073709551615;
}

-- a bound is at most so much, too
abbrev pub with_most : RequirementKind → (most : ℕ) → Allowed → Allowed
with_most (Length Reaction) most allowed = record allowed { reaction = min allowed.reaction most }
with_most (Length Age) most allowed = record allowed { age = min allowed.age most }
with_most (Length Reduced) most allowed = record allowed { reduced = min allowed.reduced most }
with_most Delay most allowed = record allowed { delay = min allowed.delay most }

-- these bounds are allowed
abbrev pub allows : Allowed → Lengths → Bool
allows allowed bounds = nat_le bounds.reaction allowed.reaction && nat_le bounds.age allowed.age
    && nat_le bounds.reduced allowed.reduced && nat_le bounds.delay allowed.delay

-- so is this answer for a chain
abbrev pub allows_answer : Allowed → ChainAnswer → Bool
allows_answer allowed (Bounds bounds) = allows allowed bounds
allows_answer allowed (Late task) = false

-- what is allowed of the chain of a number
abbrev pub allowed_at : List Allowed → (chain : ℕ) → Allowed
allowed_at allowed chain = slice_index_or allowed chain any_allowed

-- each requirement on a chain that these verdicts say is met stays met by such bounds
abbrev pub KeepsRequired : SystemModel → List Verdict → (chain : ℕ) → Lengths → Type 0
KeepsRequired model verdicts chain bounds = (i : ℕ) → i < length model.requirements
    → required_chain model (requirement_at model i) ≡ chain → is_met (verdict_at verdicts i) ≡ true
    → limited_bound (requirement_at model i).kind bounds ≤ (requirement_at model i).most

-- what is allowed of each chain is what its requirements allow that are met
pub record AreAllowed (model : SystemModel) (verdicts : List Verdict) (allowed : List Allowed) : Type 0 where
  pub one_a_chain : length allowed ≡ length model.chains
  pub keeps : (chain : ℕ) (bounds : Lengths) → chain < length model.chains
      → allows (allowed_at allowed chain) bounds ≡ true → KeepsRequired model verdicts chain bounds
  pub allows : (chain : ℕ) (bounds : Lengths) → chain < length model.chains → allows any_allowed bounds ≡ true
      → KeepsRequired model verdicts chain bounds → allows (allowed_at allowed chain) bounds ≡ true
