-- Groups whose jobs have read and written by moments that are known beforehand: each write has an earliest reader, and
-- each read that is late enough a latest writer.
use Rattle.std.proofs.Common.{◌≡◌, ℕ, suc, ◌<◌, ◌≤◌, inl, inr, List, [], ◌∷◌, length, subst, arith}
use Rattle.std.proofs.lemmas.Bool.{cases_lt}
use Rattle.cl_model.specs.{declared.group.Group.Group, Groups.group_at}
use Rattle.cl_runs.specs.{Chains.{Moments, IsEarliestReader, IsLatestWriter}, MomentOrder.AreInOrder}
use Rattle.cl_phase.proofs.FirstPast.{passes_at}

-- a job of a group reads, no earlier than its number says, and then writes, by some moment
pub record HasJobBy (moments : Moments) (group : Group) (job by : ℕ) : Type 0 where
  pub read : ℕ
  pub write : ℕ
  pub reads : moments.reads group job read
  pub writes : moments.writes group job write
  pub not_early : job ≤ read
  pub reads_first : read < write
  pub in_time : write ≤ by

pub later_by : (moments : Moments) (group : Group) (job by later : ℕ) → HasJobBy moments group job by → by ≤ later → HasJobBy moments group job later
later_by moments group job by later one le = record {
  read = one.read;
  write = one.write;
  reads = one.reads;
  writes = one.writes;
  not_early = one.not_early;
  reads_first = one.reads_first;
  in_time = omega (arith, one.in_time, le);
}

-- so does each job up to a number
abbrev pub HasJobsBy : Moments → Group → (last by : ℕ) → Type 0
HasJobsBy moments group last by = (job : ℕ) → job ≤ last → HasJobBy moments group job by

-- `latest` says by when the jobs of a group up to a number have written, if the moments last until then
abbrev pub KeepsUp : Moments → (ticks : ℕ) → (latest : Group → ℕ → ℕ) → Group → Type 0
KeepsUp moments ticks latest group = (last : ℕ) → latest group last ≤ ticks → HasJobsBy moments group last (latest group last)

abbrev pub AllKeepUp : Moments → (ticks : ℕ) → (latest : Group → ℕ → ℕ) → List Group → Type 0
AllKeepUp moments ticks latest groups = (i : ℕ) → i < length groups → KeepsUp moments ticks latest (group_at groups i)

-- a job of a group has written, and this job of another is its earliest reader
pub record HasReader (moments : Moments) (writer reader : Group) (writing write by : ℕ) : Type 0 where
  pub job : ℕ
  pub link : IsEarliestReader moments writer reader writing job
  pub is_job : HasJobBy moments reader job by
  pub not_first : 1 ≤ job
  pub not_before : write ≤ is_job.read

-- a job of a group reads, and this job of another is its latest writer
pub record HasWriter (moments : Moments) (writer reader : Group) (reading read by : ℕ) : Type 0 where
  pub job : ℕ
  pub link : IsLatestWriter moments writer reader job reading
  pub is_job : HasJobBy moments writer job by
  pub not_after : is_job.write ≤ read
  pub greatest : (other write : ℕ) → moments.writes writer other write → write ≤ read → other ≤ job

module _ (moments : Moments) (order : (groups : List Group) → AreInOrder moments groups) where
  -- the reads of jobs in order are in order, and so are their writes
  reads_in_order : (group : Group) (k l s t : ℕ) → k ≤ l → moments.reads group k s → moments.reads group l t → s ≤ t
  reads_in_order group k l s t le one other = elim (cases_lt k l) [
    | inl less ↦ omega (arith, (order (group ∷ [])).reads_rise 0 k l s t (omega arith) less one other)
    | inr equal ↦
        let same : k ≡ l = omega (arith, le, equal) in
        omega (arith, (order (group ∷ [])).unique.reads 0 l s t (omega arith) (subst (λ job. moments.reads group job s) same one) other)
  ]

  writes_in_order : (group : Group) (k l s t : ℕ) → k ≤ l → moments.writes group k s → moments.writes group l t → s ≤ t
  writes_in_order group k l s t le one other = elim (cases_lt k l) [
    | inl less ↦ omega (arith, (order (group ∷ [])).writes_rise 0 k l s t (omega arith) less one other)
    | inr equal ↦
        let same : k ≡ l = omega (arith, le, equal) in
        omega (arith, (order (group ∷ [])).unique.writes 0 l s t (omega arith) (subst (λ job. moments.writes group job s) same one) other)
  ]

  module _ (writer reader : Group) where
    -- what is written after the read of the reader's first job has an earliest reader, which is a later job
    pub has_reader : (writing write by : ℕ) → moments.writes writer writing write
        → (first : HasJobBy moments reader 0 write) → HasJobsBy moments reader write by
        → HasReader moments writer reader writing write by
    has_reader writing write by writes first jobs =
        let last = jobs write (omega arith) in
        let found = passes_at (moments.reads reader) write
        (λ read reads. omega (arith, first.reads_first, first.in_time, reads_in_order reader 0 0 read first.read (omega arith) reads first.reads))
        write
        (λ job h. let one = jobs job h in (one.read, one.reads)) last.read last.reads last.not_early in
        let one = jobs (suc found.number) found.within in
        let late : write ≤ one.read = omega (
          arith,
          found.is_after,
          reads_in_order reader (suc found.number) (suc found.number) found.after one.read (omega arith) found.at_after one.reads,
        ) in
        record {
          job = suc found.number;
          link = record {
            write = write;
            read = one.read;
            writes = writes;
            reads = one.reads;
            after = late;
            least = λ other read reads not_before. elim (cases_lt found.number other) [
              | inl later ↦ omega (arith, later)
              | inr no_later ↦ absurd (omega (
                arith,
                not_before,
                found.is_before,
                reads_in_order reader other found.number read found.before no_later reads found.at_before,
              ))
            ];
          };
          is_job = one;
          not_first = omega arith;
          not_before = late;
        }

    -- what is read once the writer's first job has written has a latest writer
    pub has_writer : (reading read by : ℕ) → moments.reads reader reading read
        → (first : HasJobBy moments writer 0 read) → HasJobsBy moments writer read by
        → HasWriter moments writer reader reading read by
    has_writer reading read by reads first jobs =
        let last = jobs read (omega arith) in
        let found = passes_at (moments.writes writer) (suc read)
        (λ write writes. omega (arith, first.in_time, writes_in_order writer 0 0 write first.write (omega arith) writes first.writes)) read
        (λ job h. let one = jobs job h in (one.write, one.writes)) last.write last.writes (omega (arith, last.not_early, last.reads_first)) in
        let one = jobs found.number (omega (arith, found.within)) in
        let early : one.write ≤ read = omega (
          arith,
          found.is_before,
          writes_in_order writer found.number found.number one.write found.before (omega arith) one.writes found.at_before,
        ) in
        let greatest : (other write : ℕ) → moments.writes writer other write → write ≤ read → other ≤ found.number
        = λ other write writes not_after. elim (cases_lt found.number other) [
          | inl later ↦ absurd (omega (
            arith,
            not_after,
            found.is_after,
            writes_in_order writer (suc found.number) other found.after write (omega (arith, later)) found.at_after writes,
          ))
          | inr no_later ↦ no_later
        ] in
        record {
          job = found.number;
          link = record {
            write = one.write;
            read = read;
            writes = one.writes;
            reads = reads;
            before = early;
            greatest = greatest;
          };
          is_job = one;
          not_after = early;
          greatest = greatest;
        }
