-- The words of a seed one after another, and the range of what a word draws.
use Rattle.std.proofs.Common.{◌≡◌, ℕ, zero, suc, ◌+◌, ◌≤◌, refl, sym, ap, ◌∙◌, arith, add-one}
use Rattle.rand_core.specs.Pcg32Seed.{pcg32_seed}
use Rattle.rand_pcg.specs.{Lcg.{Lcg, next, next_state, state_after, advance}, Pcg.{multiplier_128, pcg64_of_seed}}
use Rattle.cl_gen.specs.Words.{generator_after, draw}

-- one step after n steps is n + 1 steps
next_after : (w m p n s : ℕ) → next_state w m p (state_after w m p n s) ≡ state_after w m p (suc n) s
unfolding state_after
next_after w m p zero s = refl
next_after w m p (suc n) s = next_after w m p n (next_state w m p s)

next_advance : (w m n : ℕ) (g : Lcg) → next w m (advance w m n g) ≡ advance w m (n + 1) g
next_advance w m n g =
    ap (λ (s : ℕ). record g { state = s }) (next_after w m g.increment n g.state ∙ ap (λ k. state_after w m g.increment k g.state) (sym (add-one n)))

-- the generator steps with each word
pub next_generator : (seed n : ℕ) → next 128 multiplier_128 (generator_after seed n) ≡ generator_after seed (n + 1)
unfolding generator_after
next_generator seed n = next_advance 128 multiplier_128 n (pcg64_of_seed (pcg32_seed 32 seed))

no_steps : (w m : ℕ) (g : Lcg) → g ≡ advance w m 0 g
unfolding state_after
no_steps w m g = refl

pub first_generator : (seed : ℕ) → pcg64_of_seed (pcg32_seed 32 seed) ≡ generator_after seed 0
unfolding generator_after
first_generator seed = no_steps 128 multiplier_128 (pcg64_of_seed (pcg32_seed 32 seed))

-- what is drawn lies in the range
pub draw_least : (least greatest word : ℕ) → least ≤ draw least greatest word
unfolding draw
draw_least least greatest word = omega arith

pub draw_greatest : (least greatest word : ℕ) → least ≤ greatest → draw least greatest word ≤ greatest
unfolding draw
draw_greatest least greatest word ordered = omega arith
