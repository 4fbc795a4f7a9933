-- A legal run that goes on from a legal run of a sound system has its moments and chains.
use Rattle.std.proofs.Common.{ℕ, ◌≤◌}
use Rattle.cl_runs.specs.{TaskTiming.{System, IsSound}, Run.Run, Legal.IsLegal, GoesOn.GoesOn, Continuation.{IsContinuation, HasContinuation}}
use Rattle.cl_runs.proofs.{Extension.extension, Agreement.{starts_kept, finishes_kept, reads_kept, writes_kept, start_returns, finish_returns, read_returns, write_returns}, ChainsKept.{run_forward_kept, run_age_kept, run_reduced_kept}}

module _ (system : System) (sound : IsSound system) (shorter : Run) (legal : IsLegal system shorter) where
  pub continuation : (longer : Run) → IsLegal system longer → GoesOn shorter longer → IsContinuation system shorter longer
  continuation longer legal_longer goes_on = record {
    legal = legal;
    legal_longer = legal_longer;
    goes_on = goes_on;
    starts = λ i k p t h. (starts_kept system shorter longer goes_on i k p t, λ there. start_returns system sound shorter longer legal legal_longer goes_on i k p t there h);
    finishes = λ i k p t h. (finishes_kept system shorter longer goes_on i k p t, λ there. finish_returns system sound shorter longer legal legal_longer goes_on i k p t there h);
    reads = λ i k p t h. (reads_kept system shorter longer goes_on i k p t, λ there. read_returns system sound shorter longer legal legal_longer goes_on i k p t there h);
    writes = λ i k p t h. (writes_kept system shorter longer goes_on i k p t, λ there. write_returns system sound shorter longer legal legal_longer goes_on i k p t there h);
    forward = run_forward_kept system sound shorter longer legal legal_longer goes_on;
    age = run_age_kept system sound shorter longer legal legal_longer goes_on;
    reduced = run_reduced_kept system sound shorter longer legal legal_longer goes_on;
  }

  -- and there is one of every greater length
  pub has_continuation : (ticks : ℕ) → shorter.table.ticks ≤ ticks → HasContinuation system shorter ticks
  has_continuation ticks h =
      let (longer, end, legal_longer, goes_on) = extension system sound shorter legal ticks h in
      record { longer = longer; end = end; continues = continuation longer legal_longer goes_on }
