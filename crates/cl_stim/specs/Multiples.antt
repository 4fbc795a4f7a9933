-- Common multiples: after how many ticks periods come round together.
use Rattle.std.specs.Prelude.{ℕ, ◌*◌, ◌%◌, ◌==◌, ◌&&◌, find, unwrap_or, List, [], ◌∷◌}
use Rattle.std.specs.List.{range_with_len}
use Rattle.cl_stim.specs.declared.phase.Phase.{Phase}

-- the least common multiple of two numbers: the first from 1 up that both divide, 0 where there is
-- none
unfoldable pub common_multiple : (m n : ℕ) → ℕ
common_multiple m n = unwrap_or (find (λ ticks. (ticks % m == 0) && (ticks % n == 0)) (range_with_len 1 (m * n))) 0

-- the hyperperiod of phases: the least common multiple of their periods
unfoldable pub hyperperiod_of : List Phase → ℕ
hyperperiod_of [] = 1
hyperperiod_of (phase ∷ phases) = common_multiple phase.period (hyperperiod_of phases)
