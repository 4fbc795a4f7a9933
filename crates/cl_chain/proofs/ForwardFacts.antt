-- Jobs that are linked forward, over the moments of groups.
use Rattle.std.proofs.Common.{◌≡◌, ℕ, zero, suc, ◌+◌, ◌-◌, ◌<◌, ◌≤◌, inl, inr, List, [], ◌∷◌, ◌++◌, length, length-append, refl, sym, ◌∙◌, subst, arith}
use Rattle.std.specs.Prelude.{slice_index}
use Rattle.std.proofs.lemmas.Bool.{cases_lt}
use Rattle.std.proofs.lemmas.List.{get_or_append_left, get_or_push}
use Rattle.cl_chain.specs.{declared.group_moments.GroupMoments.GroupMoments, Inner.{GroupTables.{reads_in, writes_in}, Hops.{IsFirstReader, IsWrite, IsForwardHop}, ChainsOver.{AreForwardJobs, IsTail}}}
use Rattle.cl_chain.proofs.HopFacts.{write_once, forward_hop_once}

-- ---- one job more

pub job_before : (jobs : List ℕ) (job i : ℕ) → i < length jobs → slice_index (jobs ++ job ∷ []) i ≡ slice_index jobs i
job_before jobs job i h = get_or_append_left jobs (job ∷ []) 0 i h

pub job_pushed : (jobs : List ℕ) (job i : ℕ) → length jobs ≡ i → slice_index (jobs ++ job ∷ []) i ≡ job
job_pushed jobs job i h = get_or_push jobs job 0 i h

module _ (tables : List GroupMoments) where
  pub first_forward : (first write : ℕ) → IsWrite (writes_in tables 0) first write → AreForwardJobs tables 1 (first ∷ []) write
  first_forward first write is = record { some = omega arith; one_a_group = refl; linked = λ i h. absurd (omega (arith, h)); last = at_first }
    where
      at_first : (i : ℕ) → suc i ≡ 1 → IsWrite (writes_in tables i) (slice_index (first ∷ []) i) write
      at_first zero h = is
      at_first (suc i) h = absurd (omega (arith, h))

  pub forward_pushed : (n : ℕ) (jobs : List ℕ) (write : ℕ) → AreForwardJobs tables n jobs write → (reader to : ℕ)
      → IsFirstReader (reads_in tables n) write reader → IsWrite (writes_in tables n) reader to
      → AreForwardJobs tables (n + 1) (jobs ++ reader ∷ []) to
  forward_pushed n jobs write so_far reader to is_reader is_write = record {
    some = omega arith;
    one_a_group = omega (arith, length-append jobs (reader ∷ []), so_far.one_a_group);
    linked = link;
    last = λ i is.
        let here : n ≡ i = omega (arith, is) in
        subst (λ k. IsWrite (writes_in tables i) k to) (sym (job_pushed jobs reader i (so_far.one_a_group ∙ here)))
        (subst (λ k. IsWrite (writes_in tables k) reader to) here is_write);
  }
    where
      old_link : (i : ℕ) → suc i < n → IsForwardHop (writes_in tables i) (reads_in tables (suc i)) (slice_index (jobs ++ reader ∷ []) i) (slice_index (jobs ++ reader ∷ []) (suc i))
      old_link i h =
          subst (λ k. IsForwardHop (writes_in tables i) (reads_in tables (suc i)) (slice_index (jobs ++ reader ∷ []) i) k)
          (sym (job_before jobs reader (suc i) (omega (arith, h, so_far.one_a_group))))
          (subst (λ k. IsForwardHop (writes_in tables i) (reads_in tables (suc i)) k (slice_index jobs (suc i)))
          (sym (job_before jobs reader i (omega (arith, h, so_far.one_a_group)))) (so_far.linked i h))

      new_link : (i : ℕ) → n ≡ suc i → IsForwardHop (writes_in tables i) (reads_in tables (suc i)) (slice_index (jobs ++ reader ∷ []) i) (slice_index (jobs ++ reader ∷ []) (suc i))
      new_link i here =
          subst (λ k. IsForwardHop (writes_in tables i) (reads_in tables (suc i)) (slice_index (jobs ++ reader ∷ []) i) k)
          (sym (job_pushed jobs reader (suc i) (so_far.one_a_group ∙ here)))
          (subst (λ k. IsForwardHop (writes_in tables i) (reads_in tables (suc i)) k reader)
          (sym (job_before jobs reader i (omega (arith, here, so_far.one_a_group))))
          (record {
            write = write;
            is_write = so_far.last i (sym here);
            is_reader = subst (λ k. IsFirstReader (reads_in tables k) write reader) here is_reader;
          }))

      link : (i : ℕ) → suc i < n + 1 → IsForwardHop (writes_in tables i) (reads_in tables (suc i)) (slice_index (jobs ++ reader ∷ []) i) (slice_index (jobs ++ reader ∷ []) (suc i))
      link i h = elim (cases_lt (suc i) n) [ inl before ↦ old_link i before | inr not ↦ new_link i (omega (arith, h, not)) ]

  -- ---- no other jobs

  module _ (others : List ℕ) (count to : ℕ) (second : AreForwardJobs tables count others to) where
    pub forward_written : (i : ℕ) → i < count → (t : ℕ) × IsWrite (writes_in tables i) (slice_index others i) t
    forward_written i h = elim (cases_lt (suc i) count) [
      | inl before ↦ let link = second.linked i before in (link.write, link.is_write)
      | inr not ↦ (to, second.last i (omega (arith, h, not)))
    ]

    module _ (n : ℕ) (jobs : List ℕ) (write : ℕ) (first : AreForwardJobs tables n jobs write) (within : n ≤ count) (same : slice_index others 0 ≡ slice_index jobs 0) where
      pub forward_same : (i : ℕ) → i < n → slice_index others i ≡ slice_index jobs i
      forward_same zero h = same
      forward_same (suc i) h = forward_hop_once (writes_in tables i) (reads_in tables (suc i)) (slice_index jobs i) _ _
          (subst (λ m. IsForwardHop (writes_in tables i) (reads_in tables (suc i)) m (slice_index others (suc i))) (forward_same i (omega (arith, h)))
          (second.linked i (omega (arith, h, within)))) (first.linked i h)

      -- where no job goes on, there are none that go further
      pub forward_ends : n < count
          → ((reader t : ℕ) → IsFirstReader (reads_in tables n) write reader → IsWrite (writes_in tables n) reader t → ⊥) → ⊥
      forward_ends further none = at_last (n - 1) (omega (arith, first.some))
        where
          at_last : (i : ℕ) → suc i ≡ n → ⊥
          at_last i is =
              let link = second.linked i (omega (arith, is, further)) in
              let written = forward_written n further in
              let mine : IsWrite (writes_in tables i) (slice_index others i) write
              = subst (λ k. IsWrite (writes_in tables i) k write) (sym (forward_same i (omega (arith, is)))) (first.last i is) in
              let when : link.write ≡ write = write_once (writes_in tables i) (slice_index others i) link.write write link.is_write mine in
              let reads_it : IsFirstReader (reads_in tables (suc i)) write (slice_index others (suc i))
              = subst (λ w. IsFirstReader (reads_in tables (suc i)) w (slice_index others (suc i))) when link.is_reader in
              none (slice_index others n) written.0
              (subst (λ k. IsFirstReader (reads_in tables k) write (slice_index others k)) is reads_it) written.1

-- ---- tails are ends of linked jobs

-- the jobs behind the first are linked over the groups behind the first
forward_behind : (group next : GroupMoments) (groups : List GroupMoments) (n m k : ℕ) (jobs : List ℕ) (to : ℕ)
    → AreForwardJobs (group ∷ next ∷ groups) (suc (suc n)) (m ∷ k ∷ jobs) to → AreForwardJobs (next ∷ groups) (suc n) (k ∷ jobs) to
forward_behind group next groups n m k jobs to are = record {
  some = omega arith;
  one_a_group = omega (arith, are.one_a_group);
  linked = λ i h. are.linked (suc i) (omega (arith, h));
  last = λ i is. are.last (suc i) (omega (arith, is));
}

forward_before : (group next : GroupMoments) (groups : List GroupMoments) (n m k : ℕ) (jobs : List ℕ) (to : ℕ)
    → IsForwardHop group.writes next.reads m k → AreForwardJobs (next ∷ groups) (suc n) (k ∷ jobs) to
    → AreForwardJobs (group ∷ next ∷ groups) (suc (suc n)) (m ∷ k ∷ jobs) to
forward_before group next groups n m k jobs to hop are = record { some = omega arith; one_a_group = omega (arith, are.one_a_group); linked = link; last = end }
  where
    link : (i : ℕ) → suc i < suc (suc n)
        → IsForwardHop (writes_in (group ∷ next ∷ groups) i) (reads_in (group ∷ next ∷ groups) (suc i)) (slice_index (m ∷ k ∷ jobs) i) (slice_index (m ∷ k ∷ jobs) (suc i))
    link zero h = hop
    link (suc i) h = are.linked i (omega (arith, h))

    end : (i : ℕ) → suc i ≡ suc (suc n) → IsWrite (writes_in (group ∷ next ∷ groups) i) (slice_index (m ∷ k ∷ jobs) i) to
    end zero is = absurd (omega (arith, is))
    end (suc i) is = are.last i (omega (arith, is))

pub tail_jobs : (tables : List GroupMoments) (job to : ℕ) → IsTail tables job to → (jobs : List ℕ) × AreForwardJobs tables (length tables) (job ∷ jobs) to
tail_jobs [] job to tail = absurd tail
tail_jobs (group ∷ []) job to tail = ([], first_forward (group ∷ []) job to tail)
tail_jobs (group ∷ next ∷ groups) job to tail =
    let rest = tail_jobs (next ∷ groups) tail.0 to tail.2 in
    (tail.0 ∷ rest.0, forward_before group next groups (length groups) job tail.0 rest.0 to tail.1 rest.1)

pub jobs_tail : (tables : List GroupMoments) (jobs : List ℕ) (to : ℕ) → AreForwardJobs tables (length tables) jobs to → IsTail tables (slice_index jobs 0) to
jobs_tail [] jobs to are = absurd (omega (arith, are.some))
jobs_tail (group ∷ []) jobs to are = are.last 0 refl
jobs_tail (group ∷ next ∷ groups) [] to are = absurd (omega (arith, are.one_a_group))
jobs_tail (group ∷ next ∷ groups) (m ∷ []) to are = absurd (omega (arith, are.one_a_group))
jobs_tail (group ∷ next ∷ groups) (m ∷ k ∷ jobs) to are =
    (k, are.linked 0 (omega arith), jobs_tail (next ∷ groups) (k ∷ jobs) to (forward_behind group next groups (length groups) m k jobs to are))
