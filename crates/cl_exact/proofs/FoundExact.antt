-- What is found of the beats of a chain are its exact lengths.
use Rattle.std.proofs.Common.{◌≡◌, ℕ, suc, ◌+◌, ◌-◌, ◌<◌, ◌≤◌, List, [], ◌∷◌, length, refl, sym, ap, subst, ◌∙◌, arith, inl, inr}
use Rattle.std.specs.Prelude.{slice_index, sum_by, slice_index_or}
use Rattle.std.proofs.lemmas.Bool.{cases_lt}
use Rattle.std.proofs.lemmas.List.{get_or_default}
use Rattle.std.proofs.lemmas.List.Sums.{sum_by-cons}
use Rattle.cl_model.specs.{declared.group.Group.Group, Groups.{no_group, group_at}, Timing.least_distance}
use Rattle.cl_runs.specs.{Pattern.first_least, TaskTiming.{System, timing_at}, Chains.{JobChain, chain_length, last_group, first_job, last_job, IsForwardChain, IsAgeChain, IsReducedChain}, RunChains.ideal_moments}
use Rattle.cl_exact.specs.{declared.{beat.Beat.Beat, scan.Greatest.Greatest, witness.Witness.Witness}, ExactLengths.{second_arrival, HaveAllBegun, start_up, IsSteadyForward, IsSteadyAge, IsSteadyReduced, chain_of, IsExact}, Inner.Beats.{AreBeatsOf, no_beat, beat_in, read_at, write_at}}
use Rattle.cl_exact.specs.Inner.{Beats.{first_reader, forward_start, forward_end, reaction_of}, Scans.IsGreatestOf, Walks.{start_of, start_up_of, IsLatestSecond}, Found.{last_beat, IsGreatestReaction, age_of, IsOldest, IsForwardWitness, IsAgeWitness, IsSameUpTo}}
use Rattle.cl_exact.proofs.{BeatFacts.{reads_rise, reader_least}, StartUps.{steady_late, begun_complete}, Oldest.age_within, FixedMoments.{reads_at, reads_is, last_reads, last_reads_is, forward_complete, forward_length, forward_made, age_made, age_back, age_length, reduced_made}}
use Rattle.cl_exact.proofs.FixedMoments.{reduced_back, reduced_length}

-- sums over two lists whose items give the same
same_sums : {X Y : Type 0} (f : X → ℕ) (g : Y → ℕ) (xs : List X) (ys : List Y) (d : X) (e : Y) → length xs ≡ length ys
    → ((i : ℕ) → i < length xs → f (slice_index_or xs i d) ≡ g (slice_index_or ys i e)) → sum_by f xs ≡ sum_by g ys
same_sums f g [] [] d e as_many same = refl
same_sums f g [] (y ∷ ys) d e as_many same = absurd (omega (arith, as_many))
same_sums f g (x ∷ xs) [] d e as_many same = absurd (omega (arith, as_many))
same_sums f g (x ∷ xs) (y ∷ ys) d e as_many same =
    let rest = same_sums f g xs ys d e (omega (arith, as_many)) (λ i below. same (suc i) (omega (arith, below))) in
    omega (arith, rest, sum_by-cons f x xs, sum_by-cons g y ys, same 0 (omega arith))

module _ (system : System) (groups : List Group) (beats : List Beat) (of : AreBeatsOf system groups beats) where
  second_is : (place : ℕ) → place < length groups
      → second_arrival system (group_at groups place) ≡ (beat_in beats place).offset + (beat_in beats place).period
  second_is place within = ap (λ kind. first_least kind + least_distance kind) (of.each place within).periodic

  -- all tasks have begun at a moment exactly where job 1 of each group has arrived
  pub begun : (latest moment : ℕ) → IsLatestSecond beats latest → latest ≤ moment → HaveAllBegun system groups moment
  begun latest moment is le place d within =
      subst (λ (group : Group). second_arrival system group ≤ moment) (get_or_default groups place no_group d within)
      (omega (arith, second_is place within, is.above_all place (omega (arith, within, of.as_many)), le))

  pub begun_back : (latest moment : ℕ) → IsLatestSecond beats latest → HaveAllBegun system groups moment → latest ≤ moment
  begun_back latest moment is all = is.least moment (λ place within.
      let there : place < length groups = omega (arith, within, of.as_many) in
      omega (arith, second_is place there, all place no_group there))

  -- the start-up is that of the beats
  pub start_up_is : start_up system groups ≡ start_up_of beats
  start_up_is = same_sums (λ (group : Group). second_arrival system group + (timing_at system group.task).deadline) start_of groups beats no_group no_beat
      (sym of.as_many) (λ place within. omega (arith, second_is place within, (of.each place within).deadline))

  pub some_group : 0 < length groups
  some_group = omega (arith, of.as_many, of.are_beats.some)

  -- ---- the reaction

  module _ (latest first : ℕ) (is_latest : IsLatestSecond beats latest) (first_is : first ≡ first_reader (beat_in beats 0) latest) where
    -- the first job of a chain that counts isn't before the first steady one
    pub steady_first : (chain : JobChain) → IsSteadyForward system groups chain → first ≤ first_job chain
    steady_first chain steady =
        let read = reads_is system groups beats of 0 (first_job chain) steady.read some_group steady.reads in
        omega (
          arith,
          first_is,
          reader_least (beat_in beats 0) (of.are_beats.each 0 of.are_beats.some).some_period latest (first_job chain)
              (omega (arith, read, begun_back latest steady.read is_latest steady.steady)),
        )

    pub reaction_exact : (count : ℕ) (greatest : Greatest) (witness : Witness) → 0 < count → IsGreatestOf beats first count greatest
        → IsGreatestReaction beats count greatest.reaction → IsForwardWitness beats greatest.job witness
        → IsExact (IsSteadyForward system groups) first_job witness
    reaction_exact count greatest witness some scanned all is =
        let late : latest ≤ read_at (beat_in beats 0) greatest.job = omega (
          arith,
          steady_late beats of.are_beats first latest first_is,
          reads_rise (beat_in beats 0) first greatest.job scanned.not_before,
        ) in
        let complete = begun_complete beats of.are_beats greatest.job latest is_latest late in
        let whole : chain_of witness ≡ record { from = forward_start beats greatest.job; to = forward_end beats greatest.job; jobs = witness.jobs }
        = λ i. record { from = is.from i; to = is.to i; jobs = witness.jobs } in
        let made : IsForwardChain (ideal_moments system) groups (chain_of witness) =
        subst (IsForwardChain (ideal_moments system) groups) (sym whole) (forward_made system groups beats of greatest.job witness.jobs is.jobs complete) in
        let job : first_job (chain_of witness) ≡ greatest.job = is.jobs.each 0 of.are_beats.some in
        let length_is : chain_length (chain_of witness) ≡ greatest.reaction =
        forward_length system groups beats of (chain_of witness) made ∙ ap (reaction_of beats) job ∙ scanned.attained some in
        record {
          longest = record {
            is_chain = record {
              is_chain = made;
              read = read_at (beat_in beats 0) (first_job (chain_of witness));
              reads = reads_at system groups beats of 0 (first_job (chain_of witness)) some_group;
              steady = begun latest (read_at (beat_in beats 0) (first_job (chain_of witness))) is_latest (omega (arith, late, ap (read_at (beat_in beats 0)) job));
            };
            longest = λ other steady. omega (
              arith,
              length_is,
              forward_length system groups beats of other steady.is_chain,
              all.above_all (first_job other) (forward_complete system groups beats of other steady.is_chain),
            );
            least = λ other steady same. elim (cases_lt (first_job other) greatest.job) [
              | inl earlier ↦ absurd (omega (
                arith,
                scanned.first_of (first_job other) (steady_first other steady) earlier,
                forward_length system groups beats of other steady.is_chain,
                same,
                length_is,
              ))
              | inr later ↦ omega (arith, job, later)
            ];
          };
          length = is.length;
        }

  -- ---- the age and the reduced age

  module _ (count age last : ℕ) (all : IsGreatestReaction beats count age) (oldest : IsOldest beats age last) (witness : Witness)
      (is : IsAgeWitness beats last witness) where
    last_is : slice_index witness.jobs (length witness.jobs - 1) ≡ last
    last_is = ap (slice_index witness.jobs) (omega (arith, is.jobs.as_many)) ∙ is.jobs.last_is

    is_steady : start_up system groups ≤ read_at (last_beat beats) (slice_index witness.jobs (length witness.jobs - 1))
    is_steady = omega (arith, start_up_is, oldest.late, ap (read_at (last_beat beats)) last_is)

    -- the last job of a chain that counts reads at or after the start-up of the beats
    steady_last : (job read : ℕ) → (ideal_moments system).reads (last_group groups) job read → start_up system groups ≤ read
        → start_up_of beats ≤ read_at (last_beat beats) job
    steady_last job read reads steady = omega (arith, last_reads_is system groups beats of job read reads, start_up_is, steady)

    has : age_of beats last witness.jobs ≡ age
    has = oldest.has witness.jobs is.jobs

    pub age_exact : IsExact (IsSteadyAge system groups) last_job witness
    age_exact =
        let whole : chain_of witness ≡ record { from = read_at (beat_in beats 0) (slice_index witness.jobs 0); to = write_at (last_beat beats) (last + 1); jobs = witness.jobs }
        = λ i. record { from = is.from i; to = is.to i; jobs = witness.jobs } in
        let made : IsAgeChain (ideal_moments system) groups (chain_of witness) =
        subst (IsAgeChain (ideal_moments system) groups) (sym whole) (age_made system groups beats of last witness.jobs is.jobs) in
        let length_is : chain_length (chain_of witness) ≡ age =
        age_length system groups beats of (chain_of witness) made ∙ ap (λ job. age_of beats job witness.jobs) last_is ∙ has in
        record {
          longest = record {
            is_chain = record {
              is_chain = made;
              read = read_at (last_beat beats) (last_job (chain_of witness));
              reads = last_reads system groups beats of (last_job (chain_of witness));
              steady = is_steady;
            };
            longest = λ other steady. omega (
              arith,
              length_is,
              age_length system groups beats of other steady.is_chain,
              age_within beats of.are_beats count age all (last_job other) other.jobs (age_back system groups beats of other steady.is_chain),
            );
            least = λ other steady same. omega (
              arith,
              last_is,
              oldest.first_of (last_job other) other.jobs (steady_last (last_job other) steady.read steady.reads steady.steady)
                  (age_back system groups beats of other steady.is_chain)
                  (sym (age_length system groups beats of other steady.is_chain) ∙ same ∙ length_is),
            );
          };
          length = is.length;
        }

    pub reduced_exact : (reduced : Witness) → IsSameUpTo witness (last_beat beats).period reduced
        → IsExact (IsSteadyReduced system groups) last_job reduced
    reduced_exact reduced same_up_to =
        let period : ℕ = (last_beat beats).period in
        let next : write_at (last_beat beats) (last + 1) ≡ write_at (last_beat beats) last + period = omega arith in
        let to : reduced.to ≡ write_at (last_beat beats) last = omega (arith, same_up_to.to, is.to, next) in
        let whole : chain_of reduced ≡ record { from = read_at (beat_in beats 0) (slice_index witness.jobs 0); to = write_at (last_beat beats) last; jobs = witness.jobs }
        = λ i. record { from = (same_up_to.from ∙ is.from) i; to = to i; jobs = same_up_to.jobs i } in
        let made : IsReducedChain (ideal_moments system) groups (chain_of reduced) =
        subst (IsReducedChain (ideal_moments system) groups) (sym whole) (reduced_made system groups beats of last witness.jobs is.jobs) in
        let job : last_job (chain_of reduced) ≡ last = ap last_job whole ∙ last_is in
        let length_is : chain_length (chain_of reduced) + period ≡ age =
        reduced_length system groups beats of (chain_of reduced) made ∙ ap (λ n. age_of beats n reduced.jobs) job
        ∙ ap (age_of beats last) same_up_to.jobs ∙ has in
        record {
          longest = record {
            is_chain = record {
              is_chain = made;
              read = read_at (last_beat beats) (last_job (chain_of reduced));
              reads = last_reads system groups beats of (last_job (chain_of reduced));
              steady = omega (arith, start_up_is, oldest.late, ap (read_at (last_beat beats)) job);
            };
            longest = λ other steady. omega (
              arith,
              length_is,
              reduced_length system groups beats of other steady.is_chain,
              age_within beats of.are_beats count age all (last_job other) other.jobs (reduced_back system groups beats of other steady.is_chain),
            );
            least = λ other steady same. omega (
              arith,
              job,
              oldest.first_of (last_job other) other.jobs (steady_last (last_job other) steady.read steady.reads steady.steady)
                  (reduced_back system groups beats of other steady.is_chain)
                  (sym (reduced_length system groups beats of other steady.is_chain) ∙ ap (λ n. n + period) same ∙ length_is),
            );
          };
          length = omega (arith, same_up_to.length, same_up_to.to, same_up_to.from, is.length);
        }
