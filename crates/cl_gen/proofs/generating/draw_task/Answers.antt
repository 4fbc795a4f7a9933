use Rattle.std.proofs.Common.{◌≡◌, ◌+◌, ◌-◌, ◌*◌, ◌/◌, ◌%◌, None, [], ◌∷◌, sym, ap, ◌∙◌}
use Rattle.std.specs.Prelude.{slice_index, codes}
use Rattle.cl_gen.specs.{Words.{Taken, word_of, draw}, Generated.{numbered, periods, access_of, drawn_stimulus, generated_runnable, generated_task}}
use Rattle.cl_gen.proofs.generating.draw_task.Goals as goal

pub draw_runnables-requires-clause-own : goal.draw_runnables-requires-clause-own
unfolding drawn_stimulus
draw_runnables-requires-clause-own c =
    let seed : c.draw.new.self.seed ≡ c.args.draws.now.seed
    = ap (λ (t : Taken). t.seed) c.draw.ensures.taken ∙ ap (λ (t : Taken). t.seed) c.draw-stimulus.ensures.taken in
    ap (λ e. slice_index periods e)
    (c.draw-stimulus.ensures.drawn
    ∙ ap (λ n. draw 0 8 (word_of c.args.draws.now.seed n)) c.requires.next
    ∙ ap (λ s. draw 0 8 (word_of s (6 * c.args.number))) (sym seed))

pub returns-clause-task : goal.returns-clause-task
unfolding generated_task drawn_stimulus
returns-clause-task c =
    let word = word_of c.args.draws.now.seed in
    let i = c.args.number in
    let seed : c.draw.new.self.seed ≡ c.args.draws.now.seed
    = ap (λ (t : Taken). t.seed) c.draw.ensures.taken ∙ ap (λ (t : Taken). t.seed) c.draw-stimulus.ensures.taken in
    let e : c.draw-stimulus.result ≡ draw 0 8 (word (6 * i))
    = c.draw-stimulus.ensures.drawn ∙ ap (λ n. draw 0 8 (word n)) c.requires.next in
    let access : c.access_of-access.result ≡ access_of (draw 0 2 (word (6 * i + 1)))
    = c.access_of-access.ensures
    ∙ ap access_of
    (c.draw.ensures.drawn
    ∙ ap (λ (t : Taken). draw 0 2 (word_of t.seed t.words)) c.draw-stimulus.ensures.taken
    ∙ ap (λ n. draw 0 2 (word (n + 1))) c.requires.next) in
    let stimulus : c.numbered-3.result ≡ numbered (codes "p") (draw 0 8 (word (6 * i)))
    = c.numbered-3.ensures ∙ ap (λ n. numbered (codes "p") n) e in
    let runnables : c.in_ok-draw_runnables.field-0 ≡ generated_runnable word (2 * i) ∷ generated_runnable word (2 * i + 1) ∷ []
    = c.in_ok-draw_runnables.ensures.runnables
    ∙ ap (λ s. generated_runnable (word_of s) (2 * i) ∷ generated_runnable (word_of s) (2 * i + 1) ∷ []) seed in
    let name : c.numbered.result ≡ numbered (codes "t") i = c.numbered.ensures in
    let core : c.numbered-2.result ≡ numbered (codes "c") (i / 16) = c.numbered-2.ensures in
    λ k. record {
      name = name k;
      core = core k;
      stimulus = stimulus k;
      priority = (8 - e k) * 16 + (15 - i % 16);
      access = access k;
      deadline = None;
      runnables = runnables k;
    }
