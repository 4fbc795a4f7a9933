-- What is allowed of the bounds of chains by the first requirements that are met, one requirement after another.
use Rattle.std.proofs.Common.{◌≡◌, ℕ, ◌+◌, ◌<◌, ◌≤◌, inl, inr, Bool, true, false, ◌&&◌, nat_le, List, length, set, sym, ap, ◌∙◌, subst, arith}
use Rattle.std.proofs.lemmas.Bool.{true≢false, cases_lt, cases_eq, leb-true, le-leb}
use Rattle.std.proofs.lemmas.List.{length-set, get_or-set_same, get_or-set_other}
use Rattle.cl_model.specs.{declared.{chain.{LengthKind.TheVariants.{Reaction, Age, Reduced}, RequirementDef.RequirementDef, RequirementKind.{RequirementKind, TheVariants.{Length, Delay}}}, model.SystemModel.SystemModel}, ByNumber.requirement_at}
use Rattle.cl_model.proofs.ListFacts.{both_pass, both_true}
use Rattle.cl_runs.specs.Requirements.{required_chain}
use Rattle.cl_hop.specs.Bounds.{Lengths}
use Rattle.cl_analyse.specs.{declared.findings.Verdict.Verdict, Verdicts.{limited_bound, verdict_at, is_met}}
use Rattle.cl_margin.specs.{declared.allowed.Allowed.Allowed, Inner.Allowing.{any_allowed, with_most, allows, allowed_at, AreAllowed}}

-- ---- bounds that are allowed

pub record AreWithin (allowed : Allowed) (bounds : Lengths) : Type 0 where
  pub reaction : bounds.reaction ≤ allowed.reaction
  pub age : bounds.age ≤ allowed.age
  pub reduced : bounds.reduced ≤ allowed.reduced
  pub delay : bounds.delay ≤ allowed.delay

module _ (allowed : Allowed) (bounds : Lengths) where
  abbrev first : Bool
  first = nat_le bounds.reaction allowed.reaction

  abbrev second : Bool
  second = nat_le bounds.age allowed.age

  abbrev third : Bool
  third = nat_le bounds.reduced allowed.reduced

  abbrev fourth : Bool
  fourth = nat_le bounds.delay allowed.delay

  within_from : allows allowed bounds ≡ true → AreWithin allowed bounds
  within_from passes =
      let all = both_pass (first && second && third) fourth passes in
      let three = both_pass (first && second) third all.0 in
      let two = both_pass first second three.0 in
      record { reaction = leb-true _ _ two.0; age = leb-true _ _ two.1; reduced = leb-true _ _ three.1; delay = leb-true _ _ all.1 }

  from_within : AreWithin allowed bounds → allows allowed bounds ≡ true
  from_within are =
      both_true (first && second && third) fourth
      (both_true (first && second) third (both_true first second (le-leb _ _ are.reaction) (le-leb _ _ are.age)) (le-leb _ _ are.reduced))
      (le-leb _ _ are.delay)

-- where a bound is at most so much, too
most_within : (kind : RequirementKind) (most : ℕ) (allowed : Allowed) (bounds : Lengths) → AreWithin (with_most kind most allowed) bounds
    → AreWithin allowed bounds × (limited_bound kind bounds ≤ most)
most_within (Length Reaction) most allowed bounds are =
    (record { reaction = omega (arith, are.reaction); age = are.age; reduced = are.reduced; delay = are.delay }, omega (arith, are.reaction))
most_within (Length Age) most allowed bounds are =
    (record { reaction = are.reaction; age = omega (arith, are.age); reduced = are.reduced; delay = are.delay }, omega (arith, are.age))
most_within (Length Reduced) most allowed bounds are =
    (record { reaction = are.reaction; age = are.age; reduced = omega (arith, are.reduced); delay = are.delay }, omega (arith, are.reduced))
most_within Delay most allowed bounds are =
    (record { reaction = are.reaction; age = are.age; reduced = are.reduced; delay = omega (arith, are.delay) }, omega (arith, are.delay))

within_most : (kind : RequirementKind) (most : ℕ) (allowed : Allowed) (bounds : Lengths) → AreWithin allowed bounds → limited_bound kind bounds ≤ most
    → AreWithin (with_most kind most allowed) bounds
within_most (Length Reaction) most allowed bounds are few = record { reaction = omega (arith, are.reaction, few); age = are.age; reduced = are.reduced; delay = are.delay }
within_most (Length Age) most allowed bounds are few = record { reaction = are.reaction; age = omega (arith, are.age, few); reduced = are.reduced; delay = are.delay }
within_most (Length Reduced) most allowed bounds are few = record { reaction = are.reaction; age = are.age; reduced = omega (arith, are.reduced, few); delay = are.delay }
within_most Delay most allowed bounds are few = record { reaction = are.reaction; age = are.age; reduced = are.reduced; delay = omega (arith, are.delay, few) }

-- ---- by the first requirements

module _ (model : SystemModel) (verdicts : List Verdict) where
  -- each of the first requirements on a chain stays met that is met
  abbrev pub KeepsFirst : (count chain : ℕ) → Lengths → Type 0
  KeepsFirst count chain bounds = (i : ℕ) → i < count → required_chain model (requirement_at model i) ≡ chain
      → is_met (verdict_at verdicts i) ≡ true → limited_bound (requirement_at model i).kind bounds ≤ (requirement_at model i).most

  -- what is allowed of each chain is what those allow
  pub record AreAllowedBy (count : ℕ) (allowed : List Allowed) : Type 0 where
    pub one_a_chain : length allowed ≡ length model.chains
    pub keeps : (chain : ℕ) (bounds : Lengths) → chain < length model.chains → allows (allowed_at allowed chain) bounds ≡ true → KeepsFirst count chain bounds
    pub allows : (chain : ℕ) (bounds : Lengths) → chain < length model.chains → allows any_allowed bounds ≡ true
        → KeepsFirst count chain bounds → allows (allowed_at allowed chain) bounds ≡ true

  module _ (count : ℕ) (allowed : List Allowed) (by : AreAllowedBy count allowed) where
    abbrev next : RequirementDef
    next = requirement_at model count

    -- a requirement that isn't met asks nothing
    pub unmet_more : is_met (verdict_at verdicts count) ≡ false → AreAllowedBy (count + 1) allowed
    unmet_more unmet = record {
      one_a_chain = by.one_a_chain;
      keeps = λ chain bounds h passes i lt on is. elim (cases_lt i count) [
        | inl before ↦ by.keeps chain bounds h passes i before on is
        | inr at ↦ absurd (true≢false (sym is ∙ ap (λ j. is_met (verdict_at verdicts j)) (it i lt at) ∙ unmet))
      ];
      allows = λ chain bounds h passes keeps. by.allows chain bounds h passes (λ i before. keeps i (omega (arith, before)));
    }
      where
        it : (i : ℕ) → i < count + 1 → count ≤ i → i ≡ count
        it i lt at = omega (arith, lt, at)

    -- one that is met asks for its most
    abbrev on_chain : ℕ
    on_chain = required_chain model next

    abbrev less : List Allowed
    less = set allowed on_chain (with_most next.kind next.most (allowed_at allowed on_chain))

    less_there : (chain : ℕ) → chain ≡ on_chain → chain < length model.chains
        → allowed_at less chain ≡ with_most next.kind next.most (allowed_at allowed chain)
    less_there chain same h =
        ap (allowed_at less) same
        ∙ get_or-set_same allowed on_chain (with_most next.kind next.most (allowed_at allowed on_chain)) any_allowed (omega (arith, h, same, by.one_a_chain))
        ∙ ap (λ j. with_most next.kind next.most (allowed_at allowed j)) (sym same)

    less_beside : (chain : ℕ) → (chain ≡ on_chain → ⊥) → allowed_at less chain ≡ allowed_at allowed chain
    less_beside chain apart = get_or-set_other allowed on_chain chain (with_most next.kind next.most (allowed_at allowed on_chain)) any_allowed apart

    -- what is left by it is within what was allowed before, and within its most
    narrower : (chain : ℕ) (bounds : Lengths) → chain < length model.chains → allows (allowed_at less chain) bounds ≡ true
        → (allows (allowed_at allowed chain) bounds ≡ true) × (chain ≡ on_chain → limited_bound next.kind bounds ≤ next.most)
    narrower chain bounds h passes = elim (cases_eq chain on_chain) [
      | inl same ↦
          let parts = most_within next.kind next.most (allowed_at allowed chain) bounds
          (within_from (with_most next.kind next.most (allowed_at allowed chain)) bounds
          (ap (λ (a : Allowed). allows a bounds) (sym (less_there chain same h)) ∙ passes)) in
          (from_within (allowed_at allowed chain) bounds parts.0, λ _. parts.1)
      | inr apart ↦
          (ap (λ (a : Allowed). allows a bounds) (sym (less_beside chain apart)) ∙ passes, λ same. absurd (apart same))
    ]

    wide_enough : (chain : ℕ) (bounds : Lengths) → chain < length model.chains → allows (allowed_at allowed chain) bounds ≡ true
        → (chain ≡ on_chain → limited_bound next.kind bounds ≤ next.most) → allows (allowed_at less chain) bounds ≡ true
    wide_enough chain bounds h passes few = elim (cases_eq chain on_chain) [
      | inl same ↦
          ap (λ (a : Allowed). allows a bounds) (less_there chain same h)
          ∙ from_within (with_most next.kind next.most (allowed_at allowed chain)) bounds
          (within_most next.kind next.most (allowed_at allowed chain) bounds (within_from (allowed_at allowed chain) bounds passes) (few same))
      | inr apart ↦ ap (λ (a : Allowed). allows a bounds) (less_beside chain apart) ∙ passes
    ]

    pub met_more : is_met (verdict_at verdicts count) ≡ true → AreAllowedBy (count + 1) less
    met_more met = record {
      one_a_chain = length-set allowed on_chain (with_most next.kind next.most (allowed_at allowed on_chain)) ∙ by.one_a_chain;
      keeps = λ chain bounds h passes i lt on is.
          let parts = narrower chain bounds h passes in
          elim (cases_lt i count) [
            | inl before ↦ by.keeps chain bounds h parts.0 i before on is
            | inr at ↦
                let it : i ≡ count = omega (arith, lt, at) in
                subst (λ j. required_chain model (requirement_at model j) ≡ chain → limited_bound (requirement_at model j).kind bounds ≤ (requirement_at model j).most)
                (sym it) (λ own. parts.1 (sym own)) on
          ];
      allows = λ chain bounds h passes keeps.
          wide_enough chain bounds h (by.allows chain bounds h passes (λ i before. keeps i (omega (arith, before))))
          (λ same. keeps count (omega arith) (sym same) met);
    }

  pub all_allowed : (count : ℕ) (allowed : List Allowed) → length model.requirements ≤ count → count ≤ length model.requirements
      → AreAllowedBy count allowed → AreAllowed model verdicts allowed
  all_allowed count allowed all few by = record {
    one_a_chain = by.one_a_chain;
    keeps = λ chain bounds h passes i lt. by.keeps chain bounds h passes i (omega (arith, lt, all));
    allows = λ chain bounds h passes keeps. by.allows chain bounds h passes (λ i lt. keeps i (omega (arith, lt, few)));
  }
