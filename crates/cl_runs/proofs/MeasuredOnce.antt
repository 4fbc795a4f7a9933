-- What is measured over unique moments is unique.
use Rattle.std.proofs.Common.{◌≡◌, ◌≢◌, ℕ, zero, suc, ◌<◌, ◌≤◌, ◌⊎◌, inl, inr, Option, Some, None, List, [], ◌∷◌, length, get_or, remove, refl, sym, ap, arith, Contains, IsPermutation}
use Rattle.std.proofs.lemmas.List.Sorted.{IsPermutation-remove, Contains-permutation, length_permutation}
use Rattle.cl_model.specs.declared.group.Group.{Group}
use Rattle.cl_runs.specs.{Chains.{Moments, JobChain, chain_length, first_job, last_job, IsForwardChain, IsAgeChain, IsReducedChain}, MomentOrder.AreUnique, Measured.{IsMeasuredBy, IsCountOf, Measured, IsMeasured}}
use Rattle.cl_runs.proofs.ChainsUnique.{forward_once, age_once, reduced_once}

-- ---- the longest

module _ (IsChain : JobChain → Type 0) (job_of : JobChain → ℕ)
    (once : (one other : JobChain) → IsChain one → IsChain other → job_of one ≡ job_of other → one ≡ other) where
  pub longest_once : (a b : Option JobChain) → IsMeasuredBy IsChain job_of a → IsMeasuredBy IsChain job_of b → a ≡ b
  longest_once None None one other = refl
  longest_once None (Some chain) one other = absurd (one chain other.is_chain)
  longest_once (Some chain) None one other = absurd (other chain one.is_chain)
  longest_once (Some chain) (Some again) one other =
      let same : chain_length chain ≡ chain_length again
      = omega (arith, one.longest again other.is_chain, other.longest chain one.is_chain) in
      ap Some (once chain again one.is_chain other.is_chain
      (omega (arith, one.least again other.is_chain (sym same), other.least chain one.is_chain same)))

-- ---- the number

module _ {X : Type 0} where
  contains_cases : (y : X) (ys : List X) (x : X) → Contains (y ∷ ys) x → (y ≡ x) ⊎ Contains ys x
  contains_cases y ys x (zero, within, is) = inl is
  contains_cases y ys x (suc k, within, is) = inr (k, omega arith, is)

  -- a list without repetitions of elements of another is no longer
  fewer : (xs ys : List X) → ((i j : ℕ) (d : X) → i < j → j < length xs → get_or xs i d ≢ get_or xs j d)
      → ((i : ℕ) (d : X) → i < length xs → Contains ys (get_or xs i d)) → length xs ≤ length ys
  fewer [] ys once each = omega arith
  fewer (x ∷ xs) ys once each =
      let here = each 0 x (omega arith) in
      let out = IsPermutation-remove ys here.0 x here.1 (sym here.2) in
      let later = fewer xs (remove ys here.0) (λ i j d below within. once (suc i) (suc j) d (omega arith) (omega arith))
      (λ i d h. elsewhere here.0 out i d h) in
      omega (arith, later, length_permutation _ _ out)
    where
      elsewhere : (k : ℕ) → IsPermutation ys (x ∷ remove ys k) → (i : ℕ) (d : X) → i < length xs → Contains (remove ys k) (get_or xs i d)
      elsewhere k out i d h = elim (contains_cases x (remove ys k) (get_or xs i d) (Contains-permutation ys _ _ out (each (suc i) d (omega (arith, h))))) [
        | inl same ↦ absurd (once 0 (suc i) d (omega arith) (omega (arith, h)) same)
        | inr found ↦ found
      ]

count_once : (IsChain : JobChain → Type 0) (m n : ℕ) → IsCountOf IsChain m → IsCountOf IsChain n → m ≡ n
count_once IsChain m n one other = omega (
  arith,
  one.counted,
  other.counted,
  fewer one.chains other.chains one.once (λ i d h. other.complete _ (one.sound i d h)),
  fewer other.chains one.chains other.once (λ i d h. one.complete _ (other.sound i d h)),
)

measured_same : (one other : Measured) → one.reaction ≡ other.reaction → one.age ≡ other.age → one.reduced ≡ other.reduced
    → one.forward ≡ other.forward → one.backward ≡ other.backward → one ≡ other
measured_same one other reaction age reduced forward backward =
    λ i. record { reaction = reaction i; age = age i; reduced = reduced i; forward = forward i; backward = backward i }

-- what is measured is unique
pub measured_once : (moments : Moments) (groups : List Group) → AreUnique moments groups → (one other : Measured)
    → IsMeasured moments groups one → IsMeasured moments groups other → one ≡ other
measured_once moments groups unique one other first second = measured_same one other
    (longest_once (IsForwardChain moments groups) first_job (forward_once moments groups unique) one.reaction other.reaction first.is_reaction second.is_reaction)
    (longest_once (IsAgeChain moments groups) last_job (age_once moments groups unique) one.age other.age first.is_age second.is_age)
    (longest_once (IsReducedChain moments groups) last_job (reduced_once moments groups unique) one.reduced other.reduced first.is_reduced second.is_reduced)
    (count_once (IsForwardChain moments groups) one.forward other.forward first.forward_count second.forward_count)
    (count_once (IsAgeChain moments groups) one.backward other.backward first.backward_count second.backward_count)
