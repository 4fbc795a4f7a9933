-- Where the search begins: at the least window of the tasks that aren't in phase, which ask no more than all do.
use Rattle.std.proofs.Common.{◌≡◌, ℕ, ◌≤◌, Option, Some, None, true, ap, arith}
use Rattle.std.specs.Prelude.{IfSome}
use Rattle.std.specs.Option.{option_map}
use Rattle.cl_model.specs.declared.limits.TheConstants.{MOST_TICKS}
use Rattle.cl_resp.specs.{declared.phased.PhasedQuestion.PhasedQuestion, Asked.{suffices, least_response}, Response.busy_window, Inner.{Phased.{asked_of, IsPhasedInRange, ServesAnywhere}, Searching.IsSearchOf}}
use Rattle.cl_resp.proofs.{SettledTasks.answer_of, SearchesOfCores.{none_below_settled, none_below_late}, Windows.window_is_least, SearchedStarts.none_is_least, SearchedArrivals.late_beside}

module _ (question : PhasedQuestion) (range : IsPhasedInRange question) where
  -- what a search knows at first
  pub search_begins : (least : ℕ) → busy_window question.beside ≡ Some least
      → (widest : Option ℕ) → IfSome widest (ServesAnywhere (asked_of question)) → IfSome widest (λ width. width ≤ MOST_TICKS)
      → (most : Option ℕ) → IfSome most (λ response. suffices (asked_of question) response ≡ true)
      → IsSearchOf question (record { least = least; widest = widest; most = most })
  search_begins least found widest serves short most answers =
      let jitter = question.beside.jitter in
      let answered = ap (option_map (answer_of jitter)) found in
      record {
        some = (window_is_least question.beside least found).some;
        none = λ start lesser some below.
            let less = none_below_settled question.beside range.beside.some_time (answer_of jitter least) answered lesser below in
            omega (arith, less);
        serves = serves;
        short = short;
        answers = answers;
      }

  -- where the others alone have no window in time, there is no response
  pub none_beside : busy_window question.beside ≡ None → least_response (asked_of question) ≡ None
  none_beside late = none_is_least (asked_of question)
      (late_beside (asked_of question) range.arrivals.is_phase range.comes_round range.some (λ start width some within.
      let less = none_below_late question.beside range.beside.some_time (ap (option_map (answer_of question.beside.jitter)) late) width (omega (arith, within)) in
      omega (arith, less)))
