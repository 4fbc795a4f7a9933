use Rattle.std.proofs.Common.{◌≡◌, suc, ◌+◌, [], ◌∷◌, length, map, sym, ap, ◌∙◌, arith, length-append}
use Rattle.std.proofs.lemmas.List.{length-map}
use Rattle.cl_runs.specs.{Pattern.IsPattern, SystemOf.range_of}
use Rattle.cl_runs.proofs.ModelSystem.{well_formed}
use Rattle.cl_gen.specs.{Words.{Taken, word_of}, Drawn.{arrival_words, release_words, gap_after, job_word}, Inner.Arriving.job_arriving}
use Rattle.cl_gen.proofs.DrawnSoFar.{gap_few, taken_few, none_yet, one_more, jobs_few, jobs_within, all_drawn, word_after_all, next_word_is, first_word_is, few_at_release, gap_some}
use Rattle.cl_gen.proofs.drawing.draw_jobs.Goals as goal

pub loop-arrival-init : goal.loop-arrival-init
loop-arrival-init c = record {
  drawn = none_yet _ _ _ _ _ _ _ c.new-jobs.ensures c.first_arrival-arrival.ensures.drawn;
  taken = c.first_arrival-arrival.ensures.taken
      ∙ ap (λ n. record c.args.draws.now { words = n })
      (first_word_is _ c.args.pattern (map range_of c.args.runnables.now) (length c.new-jobs.result) _ (ap length c.new-jobs.ensures));
}

pub draw_job-requires-clause-few : goal.draw_job-requires-clause-few
draw_job-requires-clause-few c =
    let well : IsPattern c.args.pattern = well_formed c.args.pattern c.requires.kind c.requires.kind_ordered in
    let words = ap (λ (t : Taken). t.words) c.loop-arrival.invariant.taken in
    omega (
      arith,
      jobs_few _ _ _ _ _ well _ _ c.loop-arrival.invariant.drawn,
      c.loop-arrival-test.true,
      taken_few _ _ _ _ _ (length c.args.runnables.now) (sym (length-map c.args.runnables.now range_of)) c.requires.count words
          (omega (arith, jobs_few _ _ _ _ _ well _ _ c.loop-arrival.invariant.drawn, c.loop-arrival-test.true)),
    )

pub gap_after-requires-clause-few : goal.gap_after-requires-clause-few
gap_after-requires-clause-few c =
    let well : IsPattern c.args.pattern = well_formed c.args.pattern c.requires.kind c.requires.kind_ordered in
    let words = ap (λ (t : Taken). t.words) c.loop-arrival.invariant.taken in
    omega (
      arith,
      ap (λ (t : Taken). t.words) c.in_ok-draw_job.ensures.taken,
      few_at_release c.args.pattern,
      taken_few _ _ _ _ _ (length c.args.runnables.now) (sym (length-map c.args.runnables.now range_of)) c.requires.count words
          (omega (arith, jobs_few _ _ _ _ _ well _ _ c.loop-arrival.invariant.drawn, c.loop-arrival-test.true)),
    )

pub overflow_add-arrival : goal.overflow_add-arrival
overflow_add-arrival c =
    let well : IsPattern c.args.pattern = well_formed c.args.pattern c.requires.kind c.requires.kind_ordered in
    omega (
      arith,
      c.loop-arrival-test.true,
      c.gap_after.ensures.drawn,
      gap_few c.args.pattern c.len-job.result (word_of c.draw_job.new.draws.seed c.draw_job.new.draws.words) c.requires.kind well,
    )

pub loop-arrival-smaller : goal.loop-arrival-smaller
loop-arrival-smaller c =
    let well : IsPattern c.args.pattern = well_formed c.args.pattern c.requires.kind c.requires.kind_ordered in
    omega (
      arith,
      c.loop-arrival-test.true,
      c.gap_after.ensures.drawn,
      gap_some c.args.pattern c.len-job.result (word_of c.draw_job.new.draws.seed c.draw_job.new.draws.words) well,
    )

pub loop-arrival-preserved : goal.loop-arrival-preserved
loop-arrival-preserved c =
    let jobs = c.loop-arrival.jobs in
    let pattern = c.args.pattern in
    let ranges = map range_of c.args.runnables.now in
    let count = length c.args.runnables.now in
    let from = c.args.draws.now.words in
    let taken : c.draw_job.new.draws ≡ record c.args.draws.now { words = job_word from pattern ranges (suc (length jobs)) }
    = c.in_ok-draw_job.ensures.taken
    ∙ ap (λ (t : Taken). record t { words = t.words + release_words pattern + count }) c.loop-arrival.invariant.taken
    ∙ ap (λ n. record c.args.draws.now { words = n })
    (next_word_is from pattern ranges (length jobs) count (sym (length-map c.args.runnables.now range_of))) in
    let long : length c.push.new.self ≡ suc (length jobs)
    = omega (arith, ap length c.in_ok-push.ensures.ok, length-append jobs (c.in_ok-draw_job.field-0 ∷ [])) in
    record {
      drawn = one_more _ _ _ _ _ jobs c.push.new.self c.in_ok-draw_job.field-0 _ _ c.loop-arrival.invariant.drawn c.loop-arrival-test.true
          (c.in_ok-draw_job.ensures.drawn
          ∙ ap (λ (t : Taken). job_arriving (word_of t.seed) t.words pattern ranges c.loop-arrival.arrival) c.loop-arrival.invariant.taken)
          (c.gap_after.ensures.drawn
          ∙ ap (λ n. gap_after pattern n (word_of c.draw_job.new.draws.seed c.draw_job.new.draws.words)) c.len-job.ensures
          ∙ ap (λ (t : Taken). gap_after pattern (length jobs) (word_of t.seed t.words)) taken)
          c.in_ok-push.ensures.ok;
      taken = c.gap_after.ensures.taken
          ∙ ap (λ (t : Taken). record t { words = t.words + arrival_words pattern }) taken
          ∙ ap (λ n. record c.args.draws.now { words = job_word from pattern ranges n + arrival_words pattern }) (sym long);
    }

pub returns-clause-drawn : goal.returns-clause-drawn
returns-clause-drawn c = all_drawn _ _ _ _ _ (well_formed c.args.pattern c.requires.kind c.requires.kind_ordered) _ _ c.loop-arrival.invariant.drawn c.loop-arrival-test.false

pub returns-clause-taken : goal.returns-clause-taken
returns-clause-taken c =
    c.loop-arrival.invariant.taken
    ∙ ap (λ n. record c.args.draws.now { words = n })
    (word_after_all _ _ _ _ _ (well_formed c.args.pattern c.requires.kind c.requires.kind_ordered) _ _ c.loop-arrival.invariant.drawn c.loop-arrival-test.false)

pub returns-clause-few : goal.returns-clause-few
returns-clause-few c =
    let well : IsPattern c.args.pattern = well_formed c.args.pattern c.requires.kind c.requires.kind_ordered in
    let words = ap (λ (t : Taken). t.words) c.loop-arrival.invariant.taken in
    omega (
      arith,
      taken_few _ _ _ _ _ (length c.args.runnables.now) (sym (length-map c.args.runnables.now range_of)) c.requires.count words
          (omega (arith, jobs_within _ _ _ _ _ well _ _ c.loop-arrival.invariant.drawn, c.requires.ticks)),
    )
