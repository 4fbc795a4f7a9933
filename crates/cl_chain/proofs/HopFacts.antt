-- Earliest readers and latest writers over lists of moments.
use Rattle.std.proofs.Common.{◌≡◌, ℕ, ◌+◌, ◌<◌, ◌≤◌, inl, inr, Option, Some, None, cond, List, length, sym, ap, ◌∙◌, subst, arith}
use Rattle.std.specs.Prelude.{is_some}
use Rattle.std.proofs.lemmas.Bool.{cases_lt}
use Rattle.cl_check.specs.JobMoments.{IsMomentOf}
use Rattle.cl_chain.specs.{declared.hops.Writers.Writers, Inner.{GroupTables.{moment_at, NeverFall}, Hops.{IsFirstReader, IsLastWriter, IsWrite, IsForwardHop, IsBackwardHop, IsLastBelow, ArePassed}}}
use Rattle.cl_chain.proofs.MomentLists.{same_some, has_place}

-- ---- readers

-- the first job found from a place on, where none below reads at or after the write
pub first_reader : (reads : List (Option ℕ)) (write job read : ℕ) → moment_at reads job ≡ Some read → write ≤ read
    → ((k r : ℕ) → k < job → moment_at reads k ≡ Some r → r < write) → IsFirstReader reads write job
first_reader reads write job read has after before = record {
  read = read;
  reads_then = has;
  after = after;
  least = λ other r reads_at late. elim (cases_lt other job) [
    | inl earlier ↦ absurd (omega (arith, late, before other r earlier reads_at))
    | inr not ↦ not
  ];
}

pub reader_once : (reads : List (Option ℕ)) (write j k : ℕ) → IsFirstReader reads write j → IsFirstReader reads write k → j ≡ k
reader_once reads write j k one other =
    omega (arith, one.least k other.read other.reads_then other.after, other.least j one.read one.reads_then one.after)

pub write_once : (writes : List (Option ℕ)) (job s t : ℕ) → IsWrite writes job s → IsWrite writes job t → s ≡ t
write_once writes job s t one other = same_some (moment_at writes job) s t one.writes_then other.writes_then

pub forward_hop_once : (writes reads : List (Option ℕ)) (job j k : ℕ) → IsForwardHop writes reads job j → IsForwardHop writes reads job k → j ≡ k
forward_hop_once writes reads job j k one other =
    reader_once reads other.write j k
    (subst (λ w. IsFirstReader reads w j) (write_once writes job one.write other.write one.is_write other.is_write) one.is_reader) other.is_reader

-- ---- writers

pub writer_once : (writes : List (Option ℕ)) (read j k : ℕ) → IsLastWriter writes read j → IsLastWriter writes read k → j ≡ k
writer_once writes read j k one other =
    omega (arith, one.greatest k other.write other.writes_then other.before, other.greatest j one.write one.writes_then one.before)

pub backward_hop_once : (writes reads : List (Option ℕ)) (job j k : ℕ) → IsBackwardHop writes reads j job → IsBackwardHop writes reads k job → j ≡ k
backward_hop_once writes reads job j k one other =
    writer_once writes other.read j k
    (subst (λ r. IsLastWriter writes r j) (same_some (moment_at reads job) one.read other.read one.reads_then other.reads_then) one.is_writer) other.is_writer

module _ (writes : List (Option ℕ)) (writers : Writers) (read : ℕ) (passed : ArePassed writes writers read) where
  -- one more job, which writes by the read or not at all
  last_of : (write : Option ℕ) → moment_at writes writers.passed ≡ write
      → IsMomentOf (IsLastBelow writes (writers.passed + 1)) (cond (is_some write) (Some writers.passed) writers.last)
  last_of (Some w) has = record {
    below = omega arith;
    written = (w, has);
    last = λ other v below at. omega (arith, below);
  }
  last_of None has = unwritten writers.last passed.last
    where
      not_here : (other w : ℕ) → other < writers.passed + 1 → moment_at writes other ≡ Some w → other < writers.passed
      not_here other w below at = elim (cases_lt other writers.passed) [
        | inl before ↦ before
        | inr not ↦
            let same : writers.passed ≡ other = omega arith in
            let none : moment_at writes other ≡ None = ap (moment_at writes) (sym same) ∙ has in
            absurd (cc (at, none))
      ]

      unwritten : (found : Option ℕ) → IsMomentOf (IsLastBelow writes writers.passed) found → IsMomentOf (IsLastBelow writes (writers.passed + 1)) found
      unwritten None none = λ job last. none job (record {
        below = not_here job last.written.0 last.below last.written.1;
        written = last.written;
        last = λ other w below at. last.last other w (omega (arith, below)) at;
      })
      unwritten (Some job) last = record {
        below = omega (arith, last.below);
        written = last.written;
        last = λ other w below at. last.last other w (not_here other w below at) at;
      }

  pub one_passed : (write : Option ℕ) → moment_at writes writers.passed ≡ write → ((w : ℕ) → write ≡ Some w → w ≤ read)
      → ArePassed writes (record { passed = writers.passed + 1; last = cond (is_some write) (Some writers.passed) writers.last }) read
  one_passed write has by = record {
    last = last_of write has;
    early = λ job w below at. elim (cases_lt job writers.passed) [
      | inl before ↦ passed.early job w before at
      | inr not ↦ let same : job ≡ writers.passed = omega arith in by w (sym has ∙ ap (moment_at writes) (sym same) ∙ at)
    ];
  }

  -- where no further job writes by the read, the last that is passed is the latest writer
  pub writer_found : ((job w : ℕ) → writers.passed ≤ job → moment_at writes job ≡ Some w → read < w)
      → IsMomentOf (IsLastWriter writes read) writers.last
  writer_found later = found writers.last passed.last
    where
      below : (job w : ℕ) → moment_at writes job ≡ Some w → w ≤ read → job < writers.passed
      below job w at by = elim (cases_lt job writers.passed) [
        | inl before ↦ before
        | inr not ↦ absurd (omega (arith, by, later job w not at))
      ]

      found : (last : Option ℕ) → IsMomentOf (IsLastBelow writes writers.passed) last → IsMomentOf (IsLastWriter writes read) last
      found None none = λ job writer. none job (record {
        below = below job writer.write writer.writes_then writer.before;
        written = (writer.write, writer.writes_then);
        last = λ other w under at. writer.greatest other w at (passed.early other w under at);
      })
      found (Some job) last = record {
        write = last.written.0;
        writes_then = last.written.1;
        before = passed.early job last.written.0 last.below last.written.1;
        greatest = λ other w at by. last.last other w (below other w at by) at;
      }

  -- none does from the first that writes after it on, nor past the end
  pub later_writes : NeverFall writes → (w : ℕ) → moment_at writes writers.passed ≡ Some w → read < w
      → (job v : ℕ) → writers.passed ≤ job → moment_at writes job ≡ Some v → read < v
  later_writes order w has after job v h at = elim (cases_lt writers.passed job) [
    | inl later ↦ omega (arith, after, order.in_order writers.passed job w v later has at)
    | inr not ↦
        let same : job ≡ writers.passed = omega arith in
        omega (arith, after, same_some (moment_at writes writers.passed) w v has (ap (moment_at writes) (sym same) ∙ at))
  ]

  pub no_writes : length writes ≤ writers.passed → (job v : ℕ) → writers.passed ≤ job → moment_at writes job ≡ Some v → read < v
  no_writes end job v h at = absurd (omega (arith, end, h, has_place writes job v at))

-- the latest writer for the read of a job
pub hop_found : (writes reads : List (Option ℕ)) (job read : ℕ) → moment_at reads job ≡ Some read → (found : Option ℕ) → IsMomentOf (IsLastWriter writes read) found
    → IsMomentOf (λ writer. IsBackwardHop writes reads writer job) found
hop_found writes reads job read has None none = λ writer hop.
    none writer (subst (λ r. IsLastWriter writes r writer) (same_some (moment_at reads job) hop.read read hop.reads_then has) hop.is_writer)
hop_found writes reads job read has (Some writer) is = record { read = read; reads_then = has; is_writer = is }
