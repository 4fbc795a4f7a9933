-- The lengths of chains that are known: none at first, and later those that runs have shown.
use Rattle.std.proofs.Common.{◌≡◌, ℕ, ◌<◌, inl, inr, List, length, get_or, sym, ap, ◌∙◌, subst}
use Rattle.std.specs.Prelude.{All}
use Rattle.std.proofs.Math.ListN.{set}
use Rattle.std.proofs.lemmas.Bool.{cases_lt, cases_eq}
use Rattle.std.proofs.lemmas.Grind.{get_or-set_at}
use Rattle.std.proofs.lemmas.List.{get_or_default, get_or_past, get_or-set_other}
use Rattle.cl_model.specs.declared.{chain.{LengthKind.TheVariants.{Reaction, Age, Reduced}, RequirementKind.TheVariants.{Length, Delay}}, model.SystemModel.SystemModel}
use Rattle.cl_verify.specs.{declared.known_lengths.{LengthsOfChain.LengthsOfChain, KnownLengths.KnownLengths}, KnownLengths.{nothing_known, IsKnownOf, AreKnownLengths}}

-- of a chain of which nothing is known, all is so
pub nothing_is_so : (model : SystemModel) (chain : ℕ) → IsKnownOf model chain nothing_known
nothing_is_so model chain (Length Reaction) ticks is = absurd cc
nothing_is_so model chain (Length Age) ticks is = absurd cc
nothing_is_so model chain (Length Reduced) ticks is = absurd cc
nothing_is_so model chain Delay ticks is = absurd cc

-- a chain that was found in the list
pub known_there : (model : SystemModel) (known : KnownLengths) → AreKnownLengths model known → (chain : ℕ) (slice : List LengthsOfChain) (d : LengthsOfChain)
    → slice ≡ known.of_chains → chain < length known.of_chains → IsKnownOf model chain (get_or slice chain d)
known_there model known are chain slice d same within =
    let found = ap (λ (list : List LengthsOfChain). get_or list chain d) same ∙ get_or_default known.of_chains chain d nothing_known within in
    subst (IsKnownOf model chain) (sym found) (are chain)

-- nothing is known of chains of which nothing was asked
pub none_is_known : (model : SystemModel) (chains : List LengthsOfChain) → All (λ (known : LengthsOfChain). known ≡ nothing_known) chains → (chain : ℕ)
    → IsKnownOf model chain (get_or chains chain nothing_known)
none_is_known model chains none chain =
    elim (cases_lt chain (length chains)) [
      | inl within ↦ subst (IsKnownOf model chain) (sym (none chain nothing_known within)) (nothing_is_so model chain)
      | inr past ↦ subst (IsKnownOf model chain) (sym (get_or_past chains chain nothing_known past)) (nothing_is_so model chain)
    ]

-- one more chain is known
pub known_more : (model : SystemModel) (known : KnownLengths) → AreKnownLengths model known → (chain : ℕ) (own : LengthsOfChain) → chain < length known.of_chains
    → IsKnownOf model chain own → (other : ℕ) → IsKnownOf model other (get_or (set known.of_chains chain own) other nothing_known)
known_more model known are chain own within is other =
    elim (cases_eq other chain) [
      | inl same ↦ subst (IsKnownOf model other) (sym (get_or-set_at known.of_chains chain other own nothing_known same within))
          (subst (λ (n : ℕ). IsKnownOf model n own) (sym same) is)
      | inr not_same ↦ subst (IsKnownOf model other) (sym (get_or-set_other known.of_chains chain other own nothing_known not_same)) (are other)
    ]
