-- The laws of a way to access labels, over its kind.
use Rattle.std.proofs.Common.{◌≡◌, ℕ, ◌+◌, ◌<◌, ◌≤◌, ◌≢◌, true, length, sym, ap, ◌∙◌, arith}
use Rattle.std.proofs.lemmas.Bool.{false≢true}
use Rattle.cl_model.specs.declared.task.AccessKind.{AccessKind, TheVariants.Timed}
use Rattle.cl_runs.specs.{TaskTiming.{System, timing_at, IsSound}, Table.job_at, Run.{Run, jobs_of}, Legal.IsLegal, Moments.{Starts, JobFinishes}}
use Rattle.cl_runs.proofs.MomentFacts as moments
use Rattle.cl_comm.specs.{Windows.{spot_at, window_of}, AccessMoments.{ReadsAs, WritesAs, runs_on_reads}}
use Rattle.cl_comm.specs.Inner.AccessTimes as times

-- the tasks of a kind that runs on reads aren't timed
not_timed : (kind access : AccessKind) → access ≡ kind → runs_on_reads kind ≡ true → access ≢ Timed
not_timed kind access is runs timed = false≢true (sym (ap runs_on_reads (sym is ∙ timed)) ∙ runs)

module _ (kind : AccessKind) (system : System) (sound : IsSound system) (run : Run) (legal : IsLegal system run) where
  pub reads_come_late : (i k p response t : ℕ) → ReadsAs kind system run i k p t
      → (job_at (jobs_of run i) k).arrival + (window_of kind (spot_at (timing_at system i) p) response).rlo ≤ t
  reads_come_late i k p response t reads = omega (
    arith,
    times.reads_come_late system sound run legal i k p response t reads.reads,
    ap (λ (a : AccessKind). (window_of a (spot_at (timing_at system i) p) response).rlo) reads.is_kind,
  )

  pub writes_come_late : (i k p response t : ℕ) → WritesAs kind system run i k p t
      → (job_at (jobs_of run i) k).arrival + (window_of kind (spot_at (timing_at system i) p) response).wlo ≤ t
  writes_come_late i k p response t writes = omega (
    arith,
    times.writes_come_late system sound run legal i k p response t writes.writes,
    ap (λ (a : AccessKind). (window_of a (spot_at (timing_at system i) p) response).wlo) writes.is_kind,
  )

  pub writes_come_in_time : (i k p response f t : ℕ) → JobFinishes system run i k f
      → f ≤ (job_at (jobs_of run i) k).arrival + response → WritesAs kind system run i k p t
      → t ≤ (job_at (jobs_of run i) k).arrival + (window_of kind (spot_at (timing_at system i) p) response).whi
  writes_come_in_time i k p response f t job h writes = omega (
    arith,
    times.writes_come_in_time system sound run legal i k p response f t job h writes.writes,
    ap (λ (a : AccessKind). (window_of a (spot_at (timing_at system i) p) response).whi) writes.is_kind,
  )

  pub finished_jobs_read : (i k p f : ℕ) → (timing_at system i).access ≡ kind → JobFinishes system run i k f
      → p < length (timing_at system i).ranges → (t : ℕ) × (t < f) × ReadsAs kind system run i k p t
  finished_jobs_read i k p f is job place =
      let (t, before, reads) = times.finished_jobs_read system sound run legal i k p f job place in
      (t, before, record { is_kind = is; reads = reads })

  pub finished_jobs_write : (i k p response f : ℕ) → (timing_at system i).access ≡ kind → JobFinishes system run i k f
      → f ≤ (job_at (jobs_of run i) k).arrival + response → response ≤ (timing_at system i).deadline
      → p < length (timing_at system i).ranges
      → (job_at (jobs_of run i) k).arrival + (window_of kind (spot_at (timing_at system i) p) response).whi ≤ run.table.ticks
      → (t : ℕ) × WritesAs kind system run i k p t
  finished_jobs_write i k p response f is job h within place end =
      let (t, writes) = times.finished_jobs_write system sound run legal i k p response f job h within place
      (omega (arith, end, ap (λ (a : AccessKind). (window_of a (spot_at (timing_at system i) p) response).whi) is)) in
      (t, record { is_kind = is; writes = writes })

  pub reads_rise : (i k p l q s t : ℕ) → k < l → ReadsAs kind system run i k p s → ReadsAs kind system run i l q t → s < t
  reads_rise i k p l q s t h one other = moments.reads_rise system sound run legal i k p l q s t h one.reads other.reads

  pub writes_rise : (i k p l q s t : ℕ) → k < l → WritesAs kind system run i k p s → WritesAs kind system run i l q t → s < t
  writes_rise i k p l q s t h one other = moments.writes_rise system sound run legal i k p l q s t h one.writes other.writes

  pub readers_run : runs_on_reads kind ≡ true → (i k p t : ℕ) → ReadsAs kind system run i k p t → (q : ℕ) × Starts system run i k q t
  readers_run runs i k p t reads =
      times.readers_run system sound run legal i (not_timed kind _ reads.is_kind runs) k p t reads.reads

  pub readers_write_by_their_finish : runs_on_reads kind ≡ true → (i k p f : ℕ) → (timing_at system i).access ≡ kind
      → JobFinishes system run i k f → p < length (timing_at system i).ranges
      → (t : ℕ) × (t ≤ f) × WritesAs kind system run i k p t
  readers_write_by_their_finish runs i k p f is job place =
      let (t, by, writes) = times.readers_write_by_their_finish system sound run legal i (not_timed kind _ is runs) k p f job place in
      (t, by, record { is_kind = is; writes = writes })
