-- What the words come to, why, and what is left, by what was opened.
use Rattle.std.proofs.Common.{◌≡◌, ℕ, inr, List, Option, Some, None, sym, subst}
use Rattle.cl_engine.specs.{declared.{files.Files.Files, given.Given.Given, opening.Opened.Opened, outcome.Outcome.Outcome}, Calls.{ShelfCall, SinkCall}, Content.{content_of, Means, Fits}, Fetched.{Unasked, EachFile, FileGave, TellsFiles, WaitsForModel}, Files.{File, files_named}}
use Rattle.cl_engine.specs.{Files.files_limited, Inner.{Leaving.{LeavesRest, Cause, IsCaused}, Opened.{AreOpenedAs, HaveOpened, LeavesOthers}}, SoundCall.IsSoundCall, Language.{Language, files_asked, files_of, limited_asked}, Outcome.{words_refused, MayEnd, Opens}, Run.{ComesAs, ComesTo}}
use Rattle.cl_engine.specs.Steps.{AreFewSteps}
use Rattle.cl_engine.specs.declared.opening.Opened.TheVariants as opened
use Rattle.cl_engine.proofs.{Comings.{stops_cause, ended_cause}, Endings.{Carried, counted_rose, words_refused_by, no_command_ends, read_fault_ends, long_file_ends, model_refused_ends, write_fault_cuts, no_memory_ends, other_status_ends, unfailed_ends}, Openings.{gives_open, gives_fit}}
use Rattle.cl_engine.proofs.{Openings.stops_open, Tellings.{gives_mean, told_ends, told_keeps}}

module _ {C : Type 0} (language : Language C) (words : List (List ℕ)) (shelf : ShelfCall) where
  -- ---- words that are no command

  module _ (none : language.spelled words ≡ None) where
    pub refused_comes : (found : Outcome) → found ≡ words_refused → ComesTo language words shelf found
    refused_comes found is = subst (λ (c : Option C). ComesAs language c words shelf found) (sym none)
        (record { gave = λ _. Unasked; files = tt; waits = λ _. tt; follows = is })

  -- ---- nothing is touched

  -- ---- a command

  module _ (asked : C) (spelled : language.spelled words ≡ Some asked) (named : Files) (is_named : named ≡ language.files asked) where
    each_named : (P : File → Type 0) → EachFile (files_of language words) P → EachFile (files_named named) P
    each_named P each = subst (λ (n : Files). EachFile (files_named n) P) (sym is_named) (subst (λ (c : Option C). EachFile (files_asked language c) P) spelled each)

    module _ (opens : Opened) (has : HaveOpened named words shelf opens) where
      comes_of : (found : Outcome) → Opens named has.gave (language.comes_to asked) found → ComesTo language words shelf found
      comes_of found follows = subst (λ (c : Option C). ComesAs language c words shelf found) (sym spelled) (record {
        gave = has.gave;
        files = subst (λ (n : Files). EachFile (files_named n) (FileGave words shelf has.gave)) is_named has.may;
        waits = subst (λ (n : Files). WaitsForModel (files_named n) words shelf has.gave) is_named has.waits;
        follows = subst (λ (n : Files). Opens n has.gave (language.comes_to asked) found) is_named follows;
      })

      cause_of : (found : Outcome) → Cause (files_named named) (files_limited named) words shelf found → IsCaused language words shelf found
      cause_of found cause = inr (subst (λ (c : Option C). Cause (files_asked language c) (limited_asked language c) words shelf found) (sym spelled)
          (subst (λ (n : Files). Cause (files_named n) (files_limited n) words shelf found) is_named cause))

      -- what the files hold
      module _ (given : Given) (is : opens ≡ opened.Held given) where
        pub given_comes : (found : Outcome) → language.comes_to asked (content_of given) found → ComesTo language words shelf found
        given_comes found comes = comes_of found (gives_open found named has.gave (language.comes_to asked) (content_of given) (subst (AreOpenedAs named has.gave) is has.are) comes)

        pub given_fits : Fits (language.files asked) (content_of given)
        given_fits = subst (λ (n : Files). Fits n (content_of given)) is_named (gives_fit named has.gave (content_of given) (subst (AreOpenedAs named has.gave) is has.are))

        pub given_caused : (found : Outcome) → MayEnd (content_of given) (language.files asked) found → IsCaused language words shelf found
        given_caused found may = cause_of found (ended_cause words shelf has.gave found (content_of given) named (subst (AreOpenedAs named has.gave) is has.are) has.may has.waits
            (subst (λ (n : Files). MayEnd (content_of given) n found) (sym is_named) may))

        -- the steps of what they hold, where the shelf tells them
        pub given_steps : (steps steps_after : ℕ) → language.takes asked (content_of given) steps steps_after → (contents : ℕ → List ℕ)
            → TellsFiles (files_of language words) words shelf.held contents → AreFewSteps language (language.spelled words) contents steps steps_after
        given_steps steps steps_after takes contents tells = subst (λ (c : Option C). AreFewSteps language c contents steps steps_after) (sym spelled) (inr (record {
          content = content_of given;
          means = subst (λ (n : Files). Means n contents (content_of given)) is_named
              (gives_mean words shelf contents has.gave named (content_of given) has.may (each_named _ tells) (subst (AreOpenedAs named has.gave) is has.are));
          takes = takes;
        }))

      -- the outcome in the place of what comes next
      module _ (found : Outcome) (is : opens ≡ opened.Stopped found) where
        pub stopped_comes : ComesTo language words shelf found
        stopped_comes = comes_of found (stops_open found named has.gave (language.comes_to asked) (subst (AreOpenedAs named has.gave) is has.are))

        pub stopped_caused : IsCaused language words shelf found
        stopped_caused = cause_of found (stops_cause words shelf has.gave found named has.may has.waits (subst (AreOpenedAs named has.gave) is has.are))

    -- what is left
    module _ (leaves : LeavesOthers (files_named named) words shelf) (steps steps_after : ℕ) where
      pub rest_left : ((contents : ℕ → List ℕ) → TellsFiles (files_of language words) words shelf.held contents → AreFewSteps language (language.spelled words) contents steps steps_after)
          → LeavesRest language words shelf steps steps_after
      rest_left few = record {
        same = leaves.same;
        other_faults = λ name beside. (leaves.others name (each_named _ beside)).faults;
        other_longest = λ name beside. (leaves.others name (each_named _ beside)).longest;
        few_steps = few;
      }

  -- ---- what the call keeps

  module _ {S K : Type 0} (before after : S) (sink : SinkCall K) (steps steps_after status : ℕ) (leaves : LeavesRest language words shelf steps steps_after)
      (unasked : language.spelled words ≡ None → after ≡ before) where
    pub kept : (found : Outcome) → ComesTo language words shelf found → IsCaused language words shelf found → Carried sink found status
        → IsSoundCall language words shelf before after sink steps steps_after status
    kept found comes caused carried = record {
      ends = inr (record { found = found; comes_to = comes; carried = carried });
      held = leaves.same;
      other_faults = leaves.other_faults;
      other_longest = leaves.other_longest;
      unasked = unasked;
      few_steps = leaves.few_steps;
      words_refused = words_refused_by language words shelf found sink status caused carried;
      no_command = no_command_ends language words shelf found sink status caused comes carried;
      read_fault = read_fault_ends language words shelf found sink status caused carried;
      long_file = long_file_ends language words shelf found sink status caused carried;
      model_refused = model_refused_ends language words shelf found sink status caused carried;
      write_fault = λ is. counted_rose _ _ (write_fault_cuts language words shelf found sink status caused carried is).once;
      failed_once = λ is. (write_fault_cuts language words shelf found sink status caused carried is).once;
      failed_last = λ is. (write_fault_cuts language words shelf found sink status caused carried is).last;
      unfailed = unfailed_ends language words shelf found sink status caused carried;
      out_of_memory = no_memory_ends language words shelf found sink status caused carried;
      other_status = other_status_ends language words shelf found sink status caused carried;
      told_files = λ contents tells. inr (told_ends words shelf contents language sink found status comes carried tells);
      told = λ none unfailed contents tells. inr (told_keeps words shelf contents language sink found status comes carried tells none unfailed);
    }
