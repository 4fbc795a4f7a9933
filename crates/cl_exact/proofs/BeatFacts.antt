-- When the jobs of a group read and write: the first reader and the last writer are what their names say.
use Rattle.std.proofs.Common.{◌≡◌, ℕ, suc, ◌+◌, ◌-◌, ◌*◌, ◌/◌, ◌%◌, ◌<◌, ◌≤◌, List, length, ap, inl, inr, arith}
use Rattle.std.proofs.lemmas.Bool.{cases_lt}
use Rattle.std.proofs.Math.Nat.{mul-le-mul_right}
use Rattle.cl_exact.specs.{declared.beat.Beat.Beat, Inner.Beats.{AreBeats, beat_in, read_at, write_at, first_reader, last_writer}}

-- a number over a divisor, rounded up
ceil_enough : (n d : ℕ) → 1 ≤ d → n ≤ (n + (d - 1)) / d * d
ceil_enough n d some =
    let division : d * ((n + (d - 1)) / d) + (n + (d - 1)) % d ≡ n + (d - 1) = omega arith in
    let rest : (n + (d - 1)) % d < d = omega arith in
    omega arith

ceil_least : (n d k : ℕ) → 1 ≤ d → n ≤ k * d → (n + (d - 1)) / d ≤ k
ceil_least n d k some enough =
    let division : d * ((n + (d - 1)) / d) + (n + (d - 1)) % d ≡ n + (d - 1) = omega arith in
    elim (cases_lt k ((n + (d - 1)) / d)) [
      | inl less ↦
          let more : suc k * d ≤ (n + (d - 1)) / d * d = mul-le-mul_right d less in
          absurd (omega arith)
      | inr done ↦ done
    ]

floor_before : (n d : ℕ) → n / d * d ≤ n
floor_before n d =
    let division : d * (n / d) + n % d ≡ n = omega arith in
    omega arith

floor_greatest : (n d k : ℕ) → 1 ≤ d → k * d ≤ n → k ≤ n / d
floor_greatest n d k some before =
    let division : d * (n / d) + n % d ≡ n = omega arith in
    let rest : n % d < d = omega arith in
    elim (cases_lt (n / d) k) [
      | inl less ↦
          let more : suc (n / d) * d ≤ k * d = mul-le-mul_right d less in
          absurd (omega arith)
      | inr done ↦ done
    ]

-- reads and writes rise with the job
pub reads_rise : (beat : Beat) (j k : ℕ) → j ≤ k → read_at beat j ≤ read_at beat k
reads_rise beat j k le = let more : j * beat.period ≤ k * beat.period = mul-le-mul_right beat.period le in omega arith

pub reads_rise_back : (beat : Beat) (j k : ℕ) → read_at beat j < read_at beat k → j < k
reads_rise_back beat j k less =
    elim (cases_lt j k) [
      | inl done ↦ done
      | inr le ↦ absurd (omega (arith, reads_rise beat k j le))
    ]

-- job after job, by a period
pub next_read : (beat : Beat) (job : ℕ) → read_at beat (suc job) ≡ read_at beat job + beat.period
next_read beat job = omega arith

-- the first reader reads at or after the moment, and no earlier job does
pub reader_after : (beat : Beat) → 1 ≤ beat.period → (t : ℕ) → t ≤ read_at beat (first_reader beat t)
unfolding first_reader
reader_after beat some t = omega (arith, ceil_enough (t - beat.offset) beat.period some)

pub reader_least : (beat : Beat) → 1 ≤ beat.period → (t k : ℕ) → t ≤ read_at beat k → first_reader beat t ≤ k
unfolding first_reader
reader_least beat some t k after = ceil_least (t - beat.offset) beat.period k some (omega arith)

-- so it is the one job that is both
pub reader_is : (beat : Beat) → 1 ≤ beat.period → (t k : ℕ) → t ≤ read_at beat k → ((other : ℕ) → t ≤ read_at beat other → k ≤ other)
    → k ≡ first_reader beat t
reader_is beat some t k after least = omega (arith, reader_least beat some t k after, least (first_reader beat t) (reader_after beat some t))

-- a later moment has no earlier first reader
pub reader_rises : (beat : Beat) → 1 ≤ beat.period → (s t : ℕ) → s ≤ t → first_reader beat s ≤ first_reader beat t
reader_rises beat some s t le = reader_least beat some s (first_reader beat t) (omega (arith, le, reader_after beat some t))

-- it reads within a period, but for the offset
pub reader_soon : (beat : Beat) → 1 ≤ beat.period → (t : ℕ) → read_at beat (first_reader beat t) ≤ t + beat.offset + beat.period
reader_soon beat some t =
    elim (cases_lt t (read_at beat (first_reader beat t))) [
      | inl later ↦
          let k = first_reader beat t in
          elim (cases_lt 0 k) [
            | inl up ↦
                let before : k - 1 < k = omega arith in
                let one : read_at beat (suc (k - 1)) ≡ read_at beat (k - 1) + beat.period = next_read beat (k - 1) in
                let same : suc (k - 1) ≡ k = omega arith in
                elim (cases_lt (read_at beat (k - 1)) t) [
                  | inl less ↦ omega (arith, ap (read_at beat) same)
                  | inr more ↦ absurd (omega (arith, reader_least beat some t (k - 1) more))
                ]
            | inr zero ↦ let none : k ≡ 0 = omega arith in omega (arith, ap (read_at beat) none)
          ]
      | inr done ↦ omega arith
    ]

-- the last writer writes at or before the moment, and no later job does
pub writer_before : (beat : Beat) (t : ℕ) → beat.offset + beat.deadline ≤ t → write_at beat (last_writer beat t) ≤ t
unfolding last_writer
writer_before beat t some = omega (arith, floor_before (t - (beat.offset + beat.deadline)) beat.period)

pub writer_greatest : (beat : Beat) → 1 ≤ beat.period → (t k : ℕ) → write_at beat k ≤ t → k ≤ last_writer beat t
unfolding last_writer
writer_greatest beat some t k before = floor_greatest (t - (beat.offset + beat.deadline)) beat.period k some (omega arith)

-- a job's number is at most its read
pub job_small : (beat : Beat) → 1 ≤ beat.period → (job : ℕ) → job ≤ read_at beat job
job_small beat some job = let more : 1 * job ≤ beat.period * job = mul-le-mul_right job some in omega arith

-- ---- the beats of a chain

-- a chain has a last group
pub last_place : (beats : List Beat) → AreBeats beats → length beats - 1 < length beats
last_place beats are = omega (arith, are.some)

-- and each of its periods is a tick or more
pub some_period : (beats : List Beat) → AreBeats beats → (place : ℕ) → place < length beats → 1 ≤ (beat_in beats place).period
some_period beats are place within = (are.each place within).some_period
