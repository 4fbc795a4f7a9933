-- The numbered words of a seed, and what a word draws.
-- source: O'Neill's PCG XSL RR 128/64 as the crate `rand_pcg` seeds it; what a word draws is said here
use Rattle.std.specs.Prelude.{ℕ, ◌+◌, ◌-◌, ◌%◌}
use Rattle.rand_core.specs.Pcg32Seed.{pcg32_seed}
use Rattle.rand_pcg.specs.{Lcg.{Lcg, advance}, Pcg.{multiplier_128, pcg64, pcg64_of_seed}}

-- the generator of a seed, once so many words are taken
unfoldable pub generator_after : (seed taken : ℕ) → Lcg
generator_after seed taken = advance 128 multiplier_128 taken (pcg64_of_seed (pcg32_seed 32 seed))

-- word n of a seed, counted from 0
unfoldable pub word_of : (seed n : ℕ) → ℕ
word_of seed n = (pcg64 (generator_after seed n)).0

-- what a word draws from `least` to `greatest`
unfoldable pub draw : (least greatest word : ℕ) → ℕ
draw least greatest word = least + word % (greatest - least + 1)

-- a seed, and how many of its words are taken
pub record Taken : Type 0 where
  pub seed : ℕ
  pub words : ℕ
