-- Job chains link by link, and that it can be decided whether there is one of a first job, or of a last one.
use Rattle.std.proofs.Common.{◌≡◌, ℕ, zero, suc, ◌-◌, ◌<◌, ◌≤◌, ◌⊎◌, inl, inr, List, [], ◌∷◌, length, refl, sym, ap, ◌∙◌, subst, arith}
use Rattle.std.specs.Prelude.{slice_index}
use Rattle.std.proofs.lemmas.Bool.{cases_eq}
use Rattle.cl_model.specs.{declared.group.Group.Group, Groups.group_at}
use Rattle.cl_runs.specs.Chains.{Moments, HasWritten, IsEarliestReader, IsLatestWriter}
use Rattle.cl_runs.proofs.FirstBelow.{IsFirst, both_or_not, first_or_none}
use Rattle.cl_chain.proofs.DecidedMoments.{Decided, lt_or_not}

-- the last number below a bound of which something holds
record IsLast (P : ℕ → Type 0) (n m : ℕ) : Type 0 where
  within : m < n
  holds : P m
  greatest : (k : ℕ) → k < n → P k → k ≤ m

last_or_none : (P : ℕ → Type 0) → ((m : ℕ) → Decided (P m)) → (n : ℕ) → ((m : ℕ) × IsLast P n m) ⊎ ((m : ℕ) → m < n → P m → ⊥)
last_or_none P decide zero = inr (λ m lt. absurd (omega arith))
last_or_none P decide (suc n) = by_last (decide n) (last_or_none P decide n)
  where
    by_last : Decided (P n) → ((m : ℕ) × IsLast P n m) ⊎ ((m : ℕ) → m < n → P m → ⊥) → ((m : ℕ) × IsLast P (suc n) m) ⊎ ((m : ℕ) → m < suc n → P m → ⊥)
    by_last (inl holds) before = inl (n, record { within = omega arith; holds = holds; greatest = λ k lt there. omega arith })
    by_last (inr not) (inl found) = inl (
      found.0,
      record {
        within = omega (arith, found.1.within);
        holds = found.1.holds;
        greatest = λ k lt there. elim (cases_eq k n) [
          | inl last ↦ absurd (not (subst P last there))
          | inr less ↦ found.1.greatest k (omega (arith, lt, less)) there
        ];
      },
    )
    by_last (inr not) (inr none) = inr (λ m lt there. elim (cases_eq m n) [
      | inl last ↦ not (subst P last there)
      | inr less ↦ none m (omega (arith, lt, less)) there
    ])

-- moments that can be decided, each job once, of jobs below a bound
pub record AreDecided (moments : Moments) (bound : ℕ) : Type 0 where
  pub read : (group : Group) (job : ℕ) → Decided ((t : ℕ) × moments.reads group job t)
  pub write : (group : Group) (job : ℕ) → Decided ((t : ℕ) × moments.writes group job t)
  pub reads_few : (group : Group) (job t : ℕ) → moments.reads group job t → job < bound
  pub writes_few : (group : Group) (job t : ℕ) → moments.writes group job t → job < bound
  pub reads_once : (group : Group) (job s t : ℕ) → moments.reads group job s → moments.reads group job t → s ≡ t
  pub writes_once : (group : Group) (job s t : ℕ) → moments.writes group job s → moments.writes group job t → s ≡ t

module _ (moments : Moments) (bound : ℕ) (are : AreDecided moments bound) where
  -- ---- one link

  abbrev ReadsFrom : Group → (write job : ℕ) → Type 0
  ReadsFrom h w k = (r : ℕ) × moments.reads h k r × (w ≤ r)

  reads_from : (h : Group) (w k : ℕ) → Decided (ReadsFrom h w k)
  reads_from h w k = by_read (are.read h k)
    where
      by_after : (r : ℕ) → moments.reads h k r → Decided (w < suc r) → Decided (ReadsFrom h w k)
      by_after r reads (inl after) = inl (r, reads, omega arith)
      by_after r reads (inr not) = inr (λ other. not (omega (arith, other.2, are.reads_once h k other.0 r other.1 reads)))

      by_read : Decided ((t : ℕ) × moments.reads h k t) → Decided (ReadsFrom h w k)
      by_read (inl found) = by_after found.0 found.1 (lt_or_not w (suc found.0))
      by_read (inr none) = inr (λ other. none (other.0, other.1))

  pub earliest : (g h : Group) (m : ℕ) → Decided ((k : ℕ) × IsEarliestReader moments g h m k)
  earliest g h m = by_write (are.write g m)
    where
      by_first : (w : ℕ) → moments.writes g m w → ((k : ℕ) × IsFirst (ReadsFrom h w) bound k) ⊎ ((k : ℕ) → k < bound → ReadsFrom h w k → ⊥)
          → Decided ((k : ℕ) × IsEarliestReader moments g h m k)
      by_first w writes (inl found) = inl (
        found.0,
        record {
          write = w;
          read = found.1.holds.0;
          writes = writes;
          reads = found.1.holds.1;
          after = found.1.holds.2;
          least = λ other r reads after. found.1.least other (are.reads_few h other r reads) (r, reads, after);
        },
      )
      by_first w writes (inr none) = inr (λ other. none other.0 (are.reads_few h other.0 other.1.read other.1.reads)
          (other.1.read, other.1.reads, omega (arith, other.1.after, are.writes_once g m other.1.write w other.1.writes writes)))

      by_write : Decided ((t : ℕ) × moments.writes g m t) → Decided ((k : ℕ) × IsEarliestReader moments g h m k)
      by_write (inl found) = by_first found.0 found.1 (first_or_none (ReadsFrom h found.0) (reads_from h found.0) bound)
      by_write (inr none) = inr (λ other. none (other.1.write, other.1.writes))

  abbrev WritesBefore : Group → (read job : ℕ) → Type 0
  WritesBefore g r m = (w : ℕ) × moments.writes g m w × (w ≤ r)

  writes_before : (g : Group) (r m : ℕ) → Decided (WritesBefore g r m)
  writes_before g r m = by_write (are.write g m)
    where
      by_before : (w : ℕ) → moments.writes g m w → Decided (w < suc r) → Decided (WritesBefore g r m)
      by_before w writes (inl before) = inl (w, writes, omega arith)
      by_before w writes (inr not) = inr (λ other. not (omega (arith, other.2, are.writes_once g m other.0 w other.1 writes)))

      by_write : Decided ((t : ℕ) × moments.writes g m t) → Decided (WritesBefore g r m)
      by_write (inl found) = by_before found.0 found.1 (lt_or_not found.0 (suc r))
      by_write (inr none) = inr (λ other. none (other.0, other.1))

  latest : (g h : Group) (k : ℕ) → Decided ((m : ℕ) × IsLatestWriter moments g h m k)
  latest g h k = by_read (are.read h k)
    where
      by_last : (r : ℕ) → moments.reads h k r → ((m : ℕ) × IsLast (WritesBefore g r) bound m) ⊎ ((m : ℕ) → m < bound → WritesBefore g r m → ⊥)
          → Decided ((m : ℕ) × IsLatestWriter moments g h m k)
      by_last r reads (inl found) = inl (
        found.0,
        record {
          write = found.1.holds.0;
          read = r;
          writes = found.1.holds.1;
          reads = reads;
          before = found.1.holds.2;
          greatest = λ other w writes before. found.1.greatest other (are.writes_few g other w writes) (w, writes, before);
        },
      )
      by_last r reads (inr none) = inr (λ other. none other.0 (are.writes_few g other.0 other.1.write other.1.writes)
          (other.1.write, other.1.writes, omega (arith, other.1.before, are.reads_once h k other.1.read r other.1.reads reads)))

      by_read : Decided ((t : ℕ) × moments.reads h k t) → Decided ((m : ℕ) × IsLatestWriter moments g h m k)
      by_read (inl found) = by_last found.0 found.1 (last_or_none (WritesBefore g found.0) (writes_before g found.0) bound)
      by_read (inr none) = inr (λ other. none (other.1.read, other.1.reads))

  latest_once : (g h : Group) (one other k : ℕ) → IsLatestWriter moments g h one k → IsLatestWriter moments g h other k → one ≡ other
  latest_once g h one other k first second =
      let read : first.read ≡ second.read = are.reads_once h k first.read second.read first.reads second.reads in
      omega (
        arith,
        first.greatest other second.write second.writes (omega (arith, second.before, read)),
        second.greatest one first.write first.writes (omega (arith, first.before, read)),
      )

  -- ---- forwards

  pub record IsForward (groups : List Group) (jobs : List ℕ) : Type 0 where
    pub one_a_group : length jobs ≡ length groups
    pub not_first : (i : ℕ) → i < length groups → 1 ≤ slice_index jobs i
    pub written : (i : ℕ) → i < length groups → HasWritten moments (group_at groups i) (slice_index jobs i)
    pub linked : (i : ℕ) → suc i < length groups
        → IsEarliestReader moments (group_at groups i) (group_at groups (suc i)) (slice_index jobs i) (slice_index jobs (suc i))

  abbrev pub HasForward : List Group → (first : ℕ) → Type 0
  HasForward groups first = (jobs : List ℕ) × IsForward groups jobs × (slice_index jobs 0 ≡ first)

  pub has_written : (g : Group) (m : ℕ) → Decided (HasWritten moments g m)
  has_written g m = by_write (are.write g m)
    where
      by_write : Decided ((t : ℕ) × moments.writes g m t) → Decided (HasWritten moments g m)
      by_write (inl found) = inl (record { write = found.0; writes = found.1 })
      by_write (inr none) = inr (λ has. none (has.write, has.writes))

  stands_or_not : (g : Group) (m : ℕ) → Decided ((0 < m) × HasWritten moments g m)
  stands_or_not g m = both_or_not (lt_or_not 0 m) (has_written g m)

  one_forward : (g : Group) (m : ℕ) → 0 < m → HasWritten moments g m → IsForward (g ∷ []) (m ∷ [])
  one_forward g m some writes = record {
    one_a_group = refl;
    not_first = λ i lt. at_zero i lt (λ k. 1 ≤ slice_index (m ∷ []) k) some;
    written = λ i lt. at_zero i lt (λ k. HasWritten moments (group_at (g ∷ []) k) (slice_index (m ∷ []) k)) writes;
    linked = λ i lt. absurd (omega (arith, lt));
  }
    where
      at_zero : (i : ℕ) → i < 1 → (P : ℕ → Type 0) → P 0 → P i
      at_zero zero lt P holds = holds
      at_zero (suc i) lt P holds = absurd (omega (arith, lt))

  more_forward : (g h : Group) (gs : List Group) (m : ℕ) (jobs : List ℕ) → 0 < m → HasWritten moments g m
      → IsEarliestReader moments g h m (slice_index jobs 0) → IsForward (h ∷ gs) jobs → IsForward (g ∷ h ∷ gs) (m ∷ jobs)
  more_forward g h gs m jobs some writes link further = record {
    one_a_group = omega (arith, further.one_a_group);
    not_first = not_first;
    written = written;
    linked = linked;
  }
    where
      not_first : (i : ℕ) → i < length (g ∷ h ∷ gs) → 1 ≤ slice_index (m ∷ jobs) i
      not_first zero lt = some
      not_first (suc i) lt = further.not_first i (omega (arith, lt))

      written : (i : ℕ) → i < length (g ∷ h ∷ gs) → HasWritten moments (group_at (g ∷ h ∷ gs) i) (slice_index (m ∷ jobs) i)
      written zero lt = writes
      written (suc i) lt = further.written i (omega (arith, lt))

      linked : (i : ℕ) → suc i < length (g ∷ h ∷ gs)
          → IsEarliestReader moments (group_at (g ∷ h ∷ gs) i) (group_at (g ∷ h ∷ gs) (suc i)) (slice_index (m ∷ jobs) i) (slice_index (m ∷ jobs) (suc i))
      linked zero lt = link
      linked (suc i) lt = further.linked i (omega (arith, lt))

  -- the rest of a chain is a chain of the rest
  rest_forward : (g h : Group) (gs : List Group) (jobs : List ℕ) → IsForward (g ∷ h ∷ gs) jobs
      → (k : ℕ) × IsEarliestReader moments g h (slice_index jobs 0) k × HasForward (h ∷ gs) k
  rest_forward g h gs [] chain = absurd (omega (arith, chain.one_a_group))
  rest_forward g h gs (m ∷ jobs) chain = (
    slice_index jobs 0,
    chain.linked 0 (omega arith),
    (
      jobs,
      record {
        one_a_group = omega (arith, chain.one_a_group);
        not_first = λ i lt. chain.not_first (suc i) (omega (arith, lt));
        written = λ i lt. chain.written (suc i) (omega (arith, lt));
        linked = λ i lt. chain.linked (suc i) (omega (arith, lt));
      },
      refl,
    ),
  )

  pub earliest_once : (g h : Group) (m one other : ℕ) → IsEarliestReader moments g h m one → IsEarliestReader moments g h m other → one ≡ other
  earliest_once g h m one other first second =
      let write : first.write ≡ second.write = are.writes_once g m first.write second.write first.writes second.writes in
      omega (
        arith,
        first.least other second.read second.reads (omega (arith, second.after, write)),
        second.least one first.read first.reads (omega (arith, first.after, write)),
      )

  one_not : (g : Group) (first : ℕ) → ((0 < first) × HasWritten moments g first → ⊥) → HasForward (g ∷ []) first → ⊥
  one_not g first not has = not (
    omega (arith, has.1.not_first 0 (omega arith), has.2),
    subst (HasWritten moments g) has.2 (has.1.written 0 (omega arith)),
  )

  pub forward_or_not : (groups : List Group) (first : ℕ) → 0 < length groups → Decided (HasForward groups first)
  forward_or_not [] first some = absurd (omega (arith, some))
  forward_or_not (g ∷ []) first some = by_job (stands_or_not g first)
    where
      by_job : Decided ((0 < first) × HasWritten moments g first) → Decided (HasForward (g ∷ []) first)
      by_job (inl stands) = inl (first ∷ [], one_forward g first stands.0 stands.1, refl)
      by_job (inr not) = inr (one_not g first not)
  forward_or_not (g ∷ h ∷ gs) first some = by_job (stands_or_not g first) (earliest g h first) (λ k. forward_or_not (h ∷ gs) k (omega arith))
    where
      no_rest : ((k : ℕ) → IsEarliestReader moments g h first k → HasForward (h ∷ gs) k → ⊥) → HasForward (g ∷ h ∷ gs) first → ⊥
      no_rest none has =
          let rest = rest_forward g h gs has.0 has.1 in
          none rest.0 (subst (λ m. IsEarliestReader moments g h m rest.0) has.2 rest.1) rest.2

      by_rest : (0 < first) × HasWritten moments g first → (k : ℕ) → IsEarliestReader moments g h first k → Decided (HasForward (h ∷ gs) k)
          → Decided (HasForward (g ∷ h ∷ gs) first)
      by_rest stands k link (inl rest) = inl (
        first ∷ rest.0,
        more_forward g h gs first rest.0 stands.0 stands.1 (subst (λ n. IsEarliestReader moments g h first n) (sym rest.2) link) rest.1,
        refl,
      )
      by_rest stands k link (inr not) = inr (no_rest (λ other other_link rest. not (subst (HasForward (h ∷ gs)) (earliest_once g h first other k other_link link) rest)))

      by_job : Decided ((0 < first) × HasWritten moments g first) → Decided ((k : ℕ) × IsEarliestReader moments g h first k)
          → ((k : ℕ) → Decided (HasForward (h ∷ gs) k)) → Decided (HasForward (g ∷ h ∷ gs) first)
      by_job (inr not) link rest = inr (λ has. not (
        omega (arith, has.1.not_first 0 (omega arith), has.2),
        subst (HasWritten moments g) has.2 (has.1.written 0 (omega arith)),
      ))
      by_job (inl stands) (inr none) rest = inr (no_rest (λ k link further. none (k, link)))
      by_job (inl stands) (inl link) rest = by_rest stands link.0 link.1 (rest link.0)

  -- ---- backwards

  pub record IsBackward (groups : List Group) (jobs : List ℕ) : Type 0 where
    pub one_a_group : length jobs ≡ length groups
    pub linked : (i : ℕ) → suc i < length groups
        → IsLatestWriter moments (group_at groups i) (group_at groups (suc i)) (slice_index jobs i) (slice_index jobs (suc i))

  abbrev pub HasBackward : List Group → (last : ℕ) → Type 0
  HasBackward groups last = (jobs : List ℕ) × IsBackward groups jobs × (slice_index jobs (length jobs - 1) ≡ last)

  one_backward : (g : Group) (m : ℕ) → IsBackward (g ∷ []) (m ∷ [])
  one_backward g m = record { one_a_group = refl; linked = λ i lt. absurd (omega (arith, lt)) }

  more_backward : (g h : Group) (gs : List Group) (m : ℕ) (jobs : List ℕ) → IsLatestWriter moments g h m (slice_index jobs 0) → IsBackward (h ∷ gs) jobs
      → IsBackward (g ∷ h ∷ gs) (m ∷ jobs)
  more_backward g h gs m jobs link further = record { one_a_group = omega (arith, further.one_a_group); linked = linked }
    where
      linked : (i : ℕ) → suc i < length (g ∷ h ∷ gs)
          → IsLatestWriter moments (group_at (g ∷ h ∷ gs) i) (group_at (g ∷ h ∷ gs) (suc i)) (slice_index (m ∷ jobs) i) (slice_index (m ∷ jobs) (suc i))
      linked zero lt = link
      linked (suc i) lt = further.linked i (omega (arith, lt))

  last_shift : (m : ℕ) (jobs : List ℕ) (gs : List Group) (h : Group) → length jobs ≡ length (h ∷ gs)
      → slice_index (m ∷ jobs) (length (m ∷ jobs) - 1) ≡ slice_index jobs (length jobs - 1)
  last_shift m [] gs h size = absurd (omega (arith, size))
  last_shift m (j ∷ jobs) gs h size = ap (slice_index (m ∷ j ∷ jobs)) (index jobs) ∙ ap (slice_index (j ∷ jobs)) (other_index jobs)
    where
      index : (js : List ℕ) → suc (suc (length js)) - 1 ≡ suc (length js)
      index js = omega arith

      other_index : (js : List ℕ) → length js ≡ suc (length js) - 1
      other_index js = omega arith

  rest_backward : (g h : Group) (gs : List Group) (m : ℕ) (jobs : List ℕ) → IsBackward (g ∷ h ∷ gs) (m ∷ jobs)
      → IsLatestWriter moments g h m (slice_index jobs 0) × IsBackward (h ∷ gs) jobs
  rest_backward g h gs m jobs chain = (
    chain.linked 0 (omega arith),
    record {
      one_a_group = omega (arith, chain.one_a_group);
      linked = λ i lt. chain.linked (suc i) (omega (arith, lt));
    },
  )

  -- the last job tells the others
  pub backward_once : (groups : List Group) (one other : List ℕ) → 0 < length groups → IsBackward groups one → IsBackward groups other
      → slice_index one (length one - 1) ≡ slice_index other (length other - 1) → one ≡ other
  backward_once [] one other some first second same = absurd (omega (arith, some))
  backward_once (g ∷ []) one other some first second same = only one other first.one_a_group second.one_a_group same
    where
      only : (xs ys : List ℕ) → length xs ≡ 1 → length ys ≡ 1 → slice_index xs (length xs - 1) ≡ slice_index ys (length ys - 1) → xs ≡ ys
      only [] ys size other_size is = absurd (omega (arith, size))
      only (x ∷ []) [] size other_size is = absurd (omega (arith, other_size))
      only (x ∷ []) (y ∷ []) size other_size is = ap (λ n. n ∷ []) is
      only (x ∷ []) (y ∷ z ∷ ys) size other_size is = absurd (omega (arith, other_size))
      only (x ∷ z ∷ xs) ys size other_size is = absurd (omega (arith, size))
  backward_once (g ∷ h ∷ gs) [] other some first second same = absurd (omega (arith, first.one_a_group))
  backward_once (g ∷ h ∷ gs) (m ∷ one) [] some first second same = absurd (omega (arith, second.one_a_group))
  backward_once (g ∷ h ∷ gs) (m ∷ one) (n ∷ other) some first second same =
      let front = rest_backward g h gs m one first in
      let back = rest_backward g h gs n other second in
      let rest : one ≡ other = backward_once (h ∷ gs) one other (omega arith) front.1 back.1
      (sym (last_shift m one gs h front.1.one_a_group) ∙ same ∙ last_shift n other gs h back.1.one_a_group) in
      let head : m ≡ n = latest_once g h m n (slice_index other 0) (subst (λ xs. IsLatestWriter moments g h m (slice_index xs 0)) rest front.0) back.0 in
      ap (λ k. k ∷ one) head ∙ ap (λ xs. n ∷ xs) rest

  pub backward_or_not : (groups : List Group) (last : ℕ) → 0 < length groups → Decided (HasBackward groups last)
  backward_or_not [] last some = absurd (omega (arith, some))
  backward_or_not (g ∷ []) last some = inl (last ∷ [], one_backward g last, refl)
  backward_or_not (g ∷ h ∷ gs) last some = by_rest (backward_or_not (h ∷ gs) last (omega arith)) (λ k. latest g h k)
    where
      rest_of : (jobs : List ℕ) → IsBackward (g ∷ h ∷ gs) jobs → slice_index jobs (length jobs - 1) ≡ last
          → (m : ℕ) × (rest : List ℕ) × IsLatestWriter moments g h m (slice_index rest 0) × IsBackward (h ∷ gs) rest × (slice_index rest (length rest - 1) ≡ last)
      rest_of [] chain is = absurd (omega (arith, chain.one_a_group))
      rest_of (m ∷ jobs) chain is =
          let parts = rest_backward g h gs m jobs chain in
          (m, jobs, parts.0, parts.1, sym (last_shift m jobs gs h parts.1.one_a_group) ∙ is)

      by_link : (rest : HasBackward (h ∷ gs) last) → Decided ((m : ℕ) × IsLatestWriter moments g h m (slice_index rest.0 0)) → Decided (HasBackward (g ∷ h ∷ gs) last)
      by_link rest (inl link) = inl (
        link.0 ∷ rest.0,
        more_backward g h gs link.0 rest.0 link.1 rest.1,
        last_shift link.0 rest.0 gs h rest.1.one_a_group ∙ rest.2,
      )
      by_link rest (inr none) = inr (λ has.
          let parts = rest_of has.0 has.1 has.2 in
          let same : parts.1 ≡ rest.0 = backward_once (h ∷ gs) parts.1 rest.0 (omega arith) parts.3 rest.1 (parts.4 ∙ sym rest.2) in
          none (parts.0, subst (λ xs. IsLatestWriter moments g h parts.0 (slice_index xs 0)) same parts.2))

      by_rest : Decided (HasBackward (h ∷ gs) last) → ((k : ℕ) → Decided ((m : ℕ) × IsLatestWriter moments g h m k)) → Decided (HasBackward (g ∷ h ∷ gs) last)
      by_rest (inl rest) link = by_link rest (link (slice_index rest.0 0))
      by_rest (inr none) link = inr (λ has. let parts = rest_of has.0 has.1 has.2 in none (parts.1, parts.3, parts.4))
