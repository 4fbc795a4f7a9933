use Rattle.std.proofs.Common.{ℕ, ◌+◌, ◌-◌, ◌%◌, ap, ◌∙◌}
use Rattle.rand_pcg.specs.{Lcg.{Lcg, next}, Pcg.{multiplier_128, pcg64}}
use Rattle.cl_gen.specs.Words.{Taken, word_of, draw}
use Rattle.cl_gen.proofs.Words.{next_generator}
use Rattle.cl_gen.proofs.draws.Draws.draw.Goals as goal

pub invariant_of-self : goal.invariant_of-self
invariant_of-self c =
    ap (λ (p : ℕ × Lcg). p.1) c.next_word-word.ensures ∙ ap (λ (g : Lcg). next 128 multiplier_128 g) c.self.invariant
    ∙ next_generator c.self.inside.seed c.self.inside.taken

pub returns-clause-drawn : goal.returns-clause-drawn
unfolding draw word_of
returns-clause-drawn c =
    ap (λ (w : ℕ). c.args.least + w % (c.args.greatest - c.args.least + 1))
    (ap (λ (p : ℕ × Lcg). p.0) c.next_word-word.ensures
    ∙ ap (λ (g : Lcg). (pcg64 g).0) c.self.invariant
    ∙ ap (λ (t : Taken). word_of t.seed t.words) c.self.view_is)
