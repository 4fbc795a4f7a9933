use Rattle.std.proofs.Common.{arith, ◌/◌}
use Rattle.cl_exact.specs.Inner.Beats.{beat_in}
use Rattle.cl_exact.proofs.{WholeScan.{some_count, first_some, scan_early, count_few, is_greatest, job_some, job_early, period_in_age, period_in_end, same_lengths}, PeriodFacts.last_period, FoundExact.{reaction_exact, age_exact, reduced_exact}}
use Rattle.cl_exact.proofs.finding.exact_lengths.Goals as goal

pub greatest_reaction-greatest-requires-clause-some :
    goal.greatest_reaction-greatest-requires-clause-some
greatest_reaction-greatest-requires-clause-some c =
    let steady = c.first_steady_job.ensures in
    first_some c.args.beats.now c.requires.beats c.args.hyperperiod c.requires.hyperperiod c.requires.few c.first_steady_job.result steady.0 steady.1 steady.2

pub greatest_reaction-greatest-requires-clause-early :
    goal.greatest_reaction-greatest-requires-clause-early
greatest_reaction-greatest-requires-clause-early c =
    let steady = c.first_steady_job.ensures in
    scan_early c.args.beats.now c.requires.beats c.args.hyperperiod c.requires.hyperperiod c.requires.few c.first_steady_job.result steady.0 steady.1 steady.2

pub oldest-requires-clause-few : goal.oldest-requires-clause-few
oldest-requires-clause-few c =
    let steady = c.first_steady_job.ensures in
    count_few c.args.beats.now c.requires.beats c.args.hyperperiod c.requires.hyperperiod c.requires.few c.first_steady_job.result steady.0 steady.1 steady.2

pub oldest-requires-clause-greatest : goal.oldest-requires-clause-greatest
oldest-requires-clause-greatest c =
    let steady = c.first_steady_job.ensures in
    is_greatest c.args.beats.now c.requires.beats c.args.hyperperiod c.requires.hyperperiod c.requires.few c.first_steady_job.result steady.0 steady.1 steady.2
    c.greatest_reaction-greatest.result c.greatest_reaction-greatest.ensures

pub forward_witness-requires-clause-some : goal.forward_witness-requires-clause-some
forward_witness-requires-clause-some c =
    let steady = c.first_steady_job.ensures in
    job_some c.args.beats.now c.requires.beats c.args.hyperperiod c.requires.hyperperiod c.requires.few c.first_steady_job.result steady.0 steady.1 steady.2
    c.greatest_reaction-greatest.result c.greatest_reaction-greatest.ensures

pub forward_witness-requires-clause-early : goal.forward_witness-requires-clause-early
forward_witness-requires-clause-early c =
    let steady = c.first_steady_job.ensures in
    job_early c.args.beats.now c.requires.beats c.args.hyperperiod c.requires.hyperperiod c.requires.few c.first_steady_job.result steady.0 steady.1 steady.2
    c.greatest_reaction-greatest.result c.greatest_reaction-greatest.ensures

pub reduced_witness-requires-clause-length : goal.reduced_witness-requires-clause-length
reduced_witness-requires-clause-length c =
    period_in_age c.args.beats.now c.requires.beats c.oldest.result c.age_witness-age.result c.age_witness-age.ensures

pub reduced_witness-requires-clause-to : goal.reduced_witness-requires-clause-to
reduced_witness-requires-clause-to c = period_in_end c.args.beats.now c.oldest.result c.age_witness-age.result c.age_witness-age.ensures

pub returns-clause-exact : goal.returns-clause-exact
returns-clause-exact c = λ system groups of.
    let steady = c.first_steady_job.ensures in
    let count = c.args.hyperperiod / (beat_in c.args.beats.now 0).period in
    let some = some_count c.args.beats.now c.requires.beats c.args.hyperperiod c.requires.hyperperiod c.requires.few c.first_steady_job.result steady.0 steady.1 steady.2 in
    let all = is_greatest c.args.beats.now c.requires.beats c.args.hyperperiod c.requires.hyperperiod c.requires.few c.first_steady_job.result steady.0 steady.1 steady.2
    c.greatest_reaction-greatest.result c.greatest_reaction-greatest.ensures in
    record {
      reaction = reaction_exact system groups c.args.beats.now of steady.0 c.first_steady_job.result steady.1 steady.2 count c.greatest_reaction-greatest.result
          c.forward_witness.result some c.greatest_reaction-greatest.ensures all c.forward_witness.ensures;
      age = age_exact system groups c.args.beats.now of count c.greatest_reaction-greatest.result.reaction c.oldest.result all c.oldest.ensures.oldest
          c.age_witness-age.result c.age_witness-age.ensures;
      reduced = reduced_exact system groups c.args.beats.now of count c.greatest_reaction-greatest.result.reaction c.oldest.result all c.oldest.ensures.oldest
          c.age_witness-age.result c.age_witness-age.ensures c.reduced_witness.result c.reduced_witness.ensures;
    }

pub returns-clause-tied : goal.returns-clause-tied
returns-clause-tied c = λ system groups of.
    let steady = c.first_steady_job.ensures in
    let some = some_count c.args.beats.now c.requires.beats c.args.hyperperiod c.requires.hyperperiod c.requires.few c.first_steady_job.result steady.0 steady.1 steady.2 in
    record {
      equal = same_lengths c.args.beats.now c.greatest_reaction-greatest.result.job c.oldest.result c.greatest_reaction-greatest.result.reaction
          c.forward_witness.result c.age_witness-age.result c.forward_witness.ensures c.age_witness-age.ensures
          (c.greatest_reaction-greatest.ensures.attained some)
          (c.oldest.ensures.oldest.has c.age_witness-age.result.jobs c.age_witness-age.ensures.jobs);
      shorter = omega (
        arith,
        last_period system groups c.args.beats.now of,
        c.reduced_witness.ensures.length,
        period_in_age c.args.beats.now c.requires.beats c.oldest.result c.age_witness-age.result c.age_witness-age.ensures,
      );
      same_jobs = c.reduced_witness.ensures.jobs;
    }
