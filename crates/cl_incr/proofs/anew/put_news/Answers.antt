use Rattle.std.proofs.Common.{List, sym, ap, ◌∙◌, subst}
use Rattle.cl_analyse.specs.{declared.findings.ExactAnswer.ExactAnswer, ChainAnswers.AreExactAnswers}
use Rattle.cl_incr.specs.{declared.put.FoundExact.FoundExact, Inner.News.put_all}
use Rattle.cl_incr.proofs.PutExacts.{all_put}
use Rattle.cl_incr.proofs.anew.put_news.Goals as goal

pub returns : goal.returns
returns c =
    let is = c.requires.1 in
    let noted : List FoundExact = c.args.news.chains.noted.items in
    record {
      tasks = is.tasks;
      chains = is.chains;
      exacts =
          subst (AreExactAnswers c.args.model.now)
          (sym (c.put_exacts.ensures
          ∙ ap (λ (l : List FoundExact). put_all l c.put_moved.new.exacts) c.as_slice.ensures.value
          ∙ ap (λ (l : List ExactAnswer). put_all noted l) c.put_moved.ensures))
          (all_put c.requires.0 c.args.model.now c.args.findings.now.exacts noted _ is.noted is.moved);
      verdicts = c.judge_anew.ensures;
    }
