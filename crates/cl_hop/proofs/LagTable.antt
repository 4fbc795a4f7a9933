-- The lines of the table of lags: what holds of each of them holds of the lag, and how a hop changes with its
-- distance.
use Rattle.std.proofs.Common.{◌≡◌, ℕ, ℤ, pos, true, false, cond, arith}
use Rattle.std.specs.Prelude.{◌+ℤ◌, ◌-ℤ◌, ◌==◌}
use Rattle.std.proofs.lemmas.Bool.{cond_both, eqb-true}
use Rattle.std.proofs.lemmas.Int.{ints}
use Rattle.cl_hop.specs.{declared.group_timing.GroupTiming.GroupTiming, Hops.{saves, hop, lag}}

pub lag_lines : (P : ℤ → Type 0) (writer reader : GroupTiming)
    → (writer.task ≡ reader.task → P (pos 1))
    → (saves writer reader ≡ true → P (pos writer.jitter -ℤ pos reader.read))
    → (saves writer reader ≡ false → P (pos writer.write -ℤ pos reader.read))
    → P (lag writer reader)
lag_lines P writer reader one_task saved every_other =
    let saving : ℤ = pos writer.jitter -ℤ pos reader.read in
    let other : ℤ = pos writer.write -ℤ pos reader.read in
    cond_both (writer.task == reader.task) (pos 1) (cond (saves writer reader) saving other) P
    (λ same. one_task (eqb-true writer.task reader.task same))
    (λ _. cond_both (saves writer reader) saving other P saved every_other)

shifted : (lag : ℤ) (distance other : ℕ)
    → ((pos distance -ℤ pos 1) +ℤ lag) +ℤ pos other ≡ ((pos other -ℤ pos 1) +ℤ lag) +ℤ pos distance
shifted lag distance other = omega (arith, ints)

-- over another distance a hop is as much longer as that is
pub hop_shifts : (distance other : ℕ) (writer reader : GroupTiming) → hop distance writer reader +ℤ pos other ≡ hop other writer reader +ℤ pos distance
hop_shifts distance other writer reader = shifted (lag writer reader) distance other
