-- Rows of starts and ends: how they are made, and what the longest of them is among chains.
use Rattle.std.proofs.Common.{◌≡◌, ℕ, zero, suc, ◌-◌, ◌<◌, ◌≤◌, inl, inr, Option, Some, None, List, [], ◌∷◌, ◌++◌, length, length-append, get_or, refl, sym, ap, ◌∙◌, subst, arith}
use Rattle.std.specs.Prelude.{slice_index}
use Rattle.std.proofs.lemmas.Bool.{cases_lt}
use Rattle.std.proofs.lemmas.List.{get_or_append_left, get_or_push}
use Rattle.cl_runs.specs.{Chains.{JobChain, chain_length, first_job}, Measured.{IsMeasuredBy, IsCountOf}}
use Rattle.cl_chain.specs.{declared.rows.Rows.Rows, GreatestDelays.IsGreatestDelayBy, JobChains.IsChainOf, Inner.{GroupTables.moment_at, Rows.{AreRowsBelow, IsLongestRow, IsGreatestRow, IsOfRows, AreRowsOf}}}
use Rattle.cl_chain.proofs.MomentLists.{same_some, has_place}

-- ---- one row more

-- ---- rows and chains

module _ (IsChain : JobChain → Type 0) (job_of : JobChain → ℕ) (starts ends : List (Option ℕ)) (of : IsOfRows IsChain job_of starts ends)
    (jobs froms tos : List ℕ) (rows : AreRowsBelow (length ends) starts ends jobs froms tos) where
  -- the row of a chain
  row_of : (chain : JobChain) → IsChain chain → (i : ℕ) × (i < length jobs) × (slice_index jobs i ≡ job_of chain)
  row_of chain is = rows.complete (job_of chain) chain.from chain.to (has_place ends (job_of chain) chain.to (of.end chain is)) (of.start chain is) (of.end chain is)

  -- the chain of a row
  chain_in : (i : ℕ) → i < length jobs → (chain : JobChain) × IsChain chain × (job_of chain ≡ slice_index jobs i)
  chain_in i h = of.chain (slice_index jobs i) _ _ (rows.starts_then i h) (rows.ends_then i h)

  from_of : (chain : JobChain) → IsChain chain → (i : ℕ) → i < length jobs → slice_index jobs i ≡ job_of chain → chain.from ≡ slice_index froms i
  from_of chain is i h same = same_some (moment_at starts (job_of chain)) _ _ (of.start chain is) (ap (moment_at starts) (sym same) ∙ rows.starts_then i h)

  to_of : (chain : JobChain) → IsChain chain → (i : ℕ) → i < length jobs → slice_index jobs i ≡ job_of chain → chain.to ≡ slice_index tos i
  to_of chain is i h same = same_some (moment_at ends (job_of chain)) _ _ (of.end chain is) (ap (moment_at ends) (sym same) ∙ rows.ends_then i h)

  -- where each chain begins before it ends, so does each row
  pub rows_in_order : ((chain : JobChain) → IsChain chain → chain.from ≤ chain.to) → (i : ℕ) → i < length tos → slice_index froms i ≤ slice_index tos i
  rows_in_order ordered i h =
      let within : i < length jobs = omega (arith, h, rows.as_many_ends) in
      let (chain, is, same) = chain_in i within in
      omega (arith, ordered chain is, from_of chain is i within (sym same), to_of chain is i within (sym same))

  -- ---- the number of chains

  record HasChains (n : ℕ) : Type 0 where
    chains : List JobChain
    counted : length chains ≡ n
    are : (i : ℕ) (d : JobChain) → i < n → IsChain (get_or chains i d) × (job_of (get_or chains i d) ≡ slice_index jobs i)

  has_chains : (n : ℕ) → n ≤ length jobs → HasChains n
  has_chains zero h = record { chains = []; counted = refl; are = λ i d below. absurd (omega (arith, below)) }
  has_chains (suc n) h =
      let so_far = has_chains n (omega (arith, h)) in
      let (chain, is, same) = chain_in n (omega (arith, h)) in
      record {
        chains = so_far.chains ++ chain ∷ [];
        counted = omega (arith, length-append so_far.chains (chain ∷ []), so_far.counted);
        are = λ i d below. elim (cases_lt i n) [
          | inl before ↦ subst (λ (c : JobChain). IsChain c × (job_of c ≡ slice_index jobs i))
              (sym (get_or_append_left so_far.chains (chain ∷ []) d i (omega (arith, before, so_far.counted)))) (so_far.are i d before)
          | inr not ↦
              let here : n ≡ i = omega (arith, below, not) in
              subst (λ (c : JobChain). IsChain c × (job_of c ≡ slice_index jobs i))
              (sym (get_or_push so_far.chains chain d i (so_far.counted ∙ here))) (is, same ∙ ap (slice_index jobs) here)
        ];
      }

  pub rows_counted : IsCountOf IsChain (length jobs)
  rows_counted =
      let all = has_chains (length jobs) (omega arith) in
      record {
        chains = all.chains;
        sound = λ i d h. (all.are i d (omega (arith, h, all.counted))).0;
        complete = λ chain is.
            let (i, h, same) = row_of chain is in
            let there = all.are i chain h in
            (i, omega (arith, h, all.counted), of.once _ chain there.0 is (there.1 ∙ same));
        once = λ i j d less h equal.
            let one = all.are i d (omega (arith, less, h, all.counted)) in
            let other = all.are j d (omega (arith, h, all.counted)) in
            omega (arith, rows.rise i j less (omega (arith, h, all.counted)), one.1, other.1, ap job_of equal);
        counted = all.counted;
      }

  -- ---- the longest

  pub nothing_measured : length jobs ≡ 0 → (chain : JobChain) → IsChain chain → ⊥
  nothing_measured none chain is = omega (arith, none, (row_of chain is).1)

  module _ (place : ℕ) (within : place < length jobs)
      (longest : (i : ℕ) → i < length jobs → slice_index tos i - slice_index froms i ≤ slice_index tos place - slice_index froms place)
      (first : (i : ℕ) → i < place → slice_index tos i - slice_index froms i < slice_index tos place - slice_index froms place) where
    length_of : (chain : JobChain) → IsChain chain → (i : ℕ) → i < length jobs → slice_index jobs i ≡ job_of chain
        → chain_length chain ≡ slice_index tos i - slice_index froms i
    length_of chain is i h same = omega (arith, from_of chain is i h same, to_of chain is i h same)

    jobs_ordered : (i : ℕ) → place ≤ i → i < length jobs → slice_index jobs place ≤ slice_index jobs i
    jobs_ordered i after h = elim (cases_lt place i) [
      | inl later ↦ omega (arith, rows.rise place i later h)
      | inr not ↦ let same : place ≡ i = omega (arith, after, not) in omega (arith, ap (slice_index jobs) same)
    ]

    pub longest_measured : (found : Option JobChain) → IsChainOf IsChain job_of (slice_index jobs place) found → IsMeasuredBy IsChain job_of found
    longest_measured None none = let (chain, is, same) = chain_in place within in absurd (none chain is same)
    longest_measured (Some chain) is = record {
      is_chain = is.0;
      longest = λ other is_other.
          let (i, h, same) = row_of other is_other in
          omega (arith, longest i h, length_of other is_other i h same, length_of chain is.0 place within (sym is.1));
      least = λ other is_other equal.
          let (i, h, same) = row_of other is_other in
          elim (cases_lt i place) [
            | inl before ↦ absurd (omega (arith, equal, first i before, length_of other is_other i h same, length_of chain is.0 place within (sym is.1)))
            | inr not ↦ omega (arith, jobs_ordered i not h, same, is.1)
          ];
    }

-- ---- rows of chains

module _ (IsChain : JobChain → Type 0) (job_of : JobChain → ℕ) (rows : Rows) (are : AreRowsOf IsChain job_of rows) where
  pub chains_counted : IsCountOf IsChain (length rows.jobs)
  chains_counted = rows_counted IsChain job_of are.starts are.ends are.chains rows.jobs rows.starts rows.ends are.are_rows

  pub no_rows : length rows.jobs ≡ 0 → (chain : JobChain) → IsChain chain → ⊥
  no_rows = nothing_measured IsChain job_of are.starts are.ends are.chains rows.jobs rows.starts rows.ends are.are_rows

  pub longest_row : (place : ℕ) → IsLongestRow rows place → (job : ℕ) → job ≡ slice_index rows.jobs place
      → (found : Option JobChain) → IsChainOf IsChain job_of job found → IsMeasuredBy IsChain job_of found
  longest_row place is job same found chain = longest_measured IsChain job_of are.starts are.ends are.chains rows.jobs rows.starts rows.ends are.are_rows
      place is.within is.longest is.first found (subst (λ j. IsChainOf IsChain job_of j found) same chain)

  pub rows_ordered : ((chain : JobChain) → IsChain chain → chain.from ≤ chain.to) → (i : ℕ) → i < length rows.ends → slice_index rows.starts i ≤ slice_index rows.ends i
  rows_ordered = rows_in_order IsChain job_of are.starts are.ends are.chains rows.jobs rows.starts rows.ends are.are_rows

-- ---- the greatest, where rows may end before they start

module _ (IsChain : JobChain → Type 0) (rows : Rows) (are : AreRowsOf IsChain first_job rows) (place : ℕ) (is : IsGreatestRow rows place) where
  starts_at : (chain : JobChain) → IsChain chain → (i : ℕ) → i < length rows.jobs → slice_index rows.jobs i ≡ first_job chain → chain.from ≡ slice_index rows.starts i
  starts_at = from_of IsChain first_job are.starts are.ends are.chains rows.jobs rows.starts rows.ends are.are_rows

  ends_at : (chain : JobChain) → IsChain chain → (i : ℕ) → i < length rows.jobs → slice_index rows.jobs i ≡ first_job chain → chain.to ≡ slice_index rows.ends i
  ends_at = to_of IsChain first_job are.starts are.ends are.chains rows.jobs rows.starts rows.ends are.are_rows

  no_earlier : (i : ℕ) → i < length rows.jobs → place ≤ i → slice_index rows.jobs place ≤ slice_index rows.jobs i
  no_earlier i h after = elim (cases_lt place i) [
    | inl later ↦ omega (arith, are.are_rows.rise place i later h)
    | inr not ↦ let same : place ≡ i = omega (arith, after, not) in omega (arith, ap (slice_index rows.jobs) same)
  ]

  greatest_found : (found : Option JobChain) → IsChainOf IsChain first_job (slice_index rows.jobs place) found → IsGreatestDelayBy IsChain found
  greatest_found None none =
      let (chain, is_chain, same) = chain_in IsChain first_job are.starts are.ends are.chains rows.jobs rows.starts rows.ends are.are_rows place is.within in
      absurd (none chain is_chain same)
  greatest_found (Some chain) found =
      let from = starts_at chain found.0 place is.within (sym found.1) in
      let to = ends_at chain found.0 place is.within (sym found.1) in
      record {
        is_chain = found.0;
        greatest = λ other is_other.
            let (i, h, same) = row_of IsChain first_job are.starts are.ends are.chains rows.jobs rows.starts rows.ends are.are_rows other is_other in
            omega (arith, from, to, is.longest i h, starts_at other is_other i h same, ends_at other is_other i h same);
        least = λ other is_other equal.
            let (i, h, same) = row_of IsChain first_job are.starts are.ends are.chains rows.jobs rows.starts rows.ends are.are_rows other is_other in
            elim (cases_lt i place) [
              | inl before ↦ absurd (omega (arith, from, to, equal, is.first i before, starts_at other is_other i h same, ends_at other is_other i h same))
              | inr not ↦ omega (arith, no_earlier i h not, same, found.1)
            ];
      }

  pub greatest_row : (job : ℕ) → job ≡ slice_index rows.jobs place → (found : Option JobChain) → IsChainOf IsChain first_job job found
      → IsGreatestDelayBy IsChain found
  greatest_row job same found chain = greatest_found found (subst (λ j. IsChainOf IsChain first_job j found) same chain)
