-- What words ask for that are a command: few enough, and a word for each file.
use Rattle.std.proofs.Common.{◌≡◌, ℕ, zero, suc, ◌+◌, ◌<◌, ◌≤◌, leb, List, [], ◌∷◌, drop, Option, Some, None, refl, sym, ap, ◌∙◌, length, arith}
use Rattle.std.specs.Prelude.{◌&&◌, ◌==◌, decimal, unwrap_or}
use Rattle.std.specs.List.{slice_get}
use Rattle.std.specs.Option.{option_map}
use Rattle.std.specs.Str.{bytes_eq}
use Rattle.std.proofs.lemmas.Bool.{cond_both, leb-true, eqb-true}
use Rattle.cl_text.specs.Decimal.{number_of}
use Rattle.cl_model.specs.{declared.limits.TheConstants.MOST_TASKS, Name.is_name}
use Rattle.cl_model.proofs.ListFacts.{both_pass}
use Rattle.cl_engine.specs.{declared.words.Bounds.Bounds, Files.file_count, Words.{number_within, both_numbers, two_numbers}}
use Rattle.cl_top.specs.{declared.{command.Command.Command, subject.What.What}, Subject.what_of, Command.{files_read, whole, with_two_numbers, named_by, subject_of, with_subject, with_topic, by_verb, command_of}}
use Rattle.cl_top.specs.declared.command.Command.TheVariants as command
use Rattle.cl_help.specs.{declared.topic.Topic.Topic, Topic.topic_of}

-- few tasks, and some
abbrev pub IsFew : (tasks : ℕ) → Type 0
IsFew tasks = (1 ≤ tasks) × (tasks ≤ MOST_TASKS)

-- the words are a command that asks for few, with a word for each of its files
abbrev pub IsGood : (Few : Command → Type 0) (words : List (List ℕ)) → Option Command → Type 0
IsGood Few words None = Unit {0}
IsGood Few words (Some asked) = Few asked × (file_count (files_read asked) < length words)

pub whole_good : (Few : Command → Type 0) (asked : Command) → Few asked → (words : List (List ℕ)) → IsGood Few words (whole asked words)
whole_good Few asked few words =
    cond_both (length words == file_count (files_read asked) + 1) (Some asked) None (IsGood Few words) (λ is. (few, omega (arith, eqb-true _ _ is))) (λ other. tt)

-- a number within bounds is within them
module _ (bounds : Bounds) (word : List ℕ) (P : Option ℕ → Type 0) (each : (n : ℕ) → bounds.least ≤ n → n ≤ bounds.most → P (Some n)) (none : P None) where
  number_good : P (number_within bounds word)
  number_good =
      let number = number_of word in
      let same = bytes_eq word (decimal number) in
      cond_both (same && leb number bounds.most && leb bounds.least number) (Some number) None P
      (λ passes.
      let low = both_pass (same && leb number bounds.most) (leb bounds.least number) passes in
      let high = both_pass same (leb number bounds.most) low.0 in
      each number (leb-true _ _ low.1) (leb-true _ _ high.1)) (λ fails. none)

drop_none : (words : List (List ℕ)) → drop 0 words ≡ words
drop_none [] = refl
drop_none (word ∷ words) = refl

-- words of which some are left are as many as those before and those left
long_enough : (place : ℕ) (words : List (List ℕ)) (a : List ℕ) (left : List (List ℕ)) → drop place words ≡ a ∷ left → length words ≡ place + length (a ∷ left)
long_enough zero words a left is = omega (arith, ap length (sym (drop_none words) ∙ is))
long_enough (suc place) [] a left is = absurd cc
long_enough (suc place) (word ∷ words) a left is = omega (arith, long_enough place words a left is)

module _ (Few : Command → Type 0) (asked : ℕ → ℕ → Command) (one other : Bounds) (place : ℕ)
    (each : (n m : ℕ) → n ≤ one.most → other.least ≤ m → m ≤ other.most → Few (asked n m) × (file_count (files_read (asked n m)) < place + 2)) where
  pair_good : (words : List (List ℕ)) → place + 2 ≤ length words → (first second : List ℕ)
      → IsGood Few words (option_map (λ numbers. asked numbers.0 numbers.1) (both_numbers (number_within one first) (number_within other second)))
  pair_good words long first second =
      number_good one first (λ n. IsGood Few words (option_map (λ numbers. asked numbers.0 numbers.1) (both_numbers n (number_within other second))))
      (λ n low high. number_good other second (λ m. IsGood Few words (option_map (λ numbers. asked numbers.0 numbers.1) (both_numbers (Some n) m)))
      (λ m above within. let good = each n m high above within in (good.0, omega (arith, good.1, long))) tt)
      (none_good (number_within other second))
    where
      none_good : (m : Option ℕ) → IsGood Few words (option_map (λ numbers. asked numbers.0 numbers.1) (both_numbers None m))
      none_good None = tt
      none_good (Some m) = tt

  of_left : (words left : List (List ℕ)) → drop place words ≡ left → IsGood Few words (option_map (λ numbers. asked numbers.0 numbers.1) (two_numbers one other left))
  of_left words [] is = tt
  of_left words (a ∷ []) is = tt
  of_left words (a ∷ b ∷ []) is = pair_good words (omega (arith, long_enough place words a (b ∷ []) is)) a b
  of_left words (a ∷ b ∷ c ∷ left) is = tt

  pub numbered_good : (words : List (List ℕ)) → IsGood Few words (with_two_numbers asked place one other words)
  numbered_good words = of_left words (drop place words) refl

-- what is asked of and its name, behind a verb and a file
module _ (Few : Command → Type 0) (asked : What → List ℕ → Command)
    (each : (what : What) (name : List ℕ) → Few (asked what name) × (file_count (files_read (asked what name)) < 4)) (words : List (List ℕ)) where
  -- the command on a subject, where there is one, is good
  abbrev IsGoodOf : Option (What × List ℕ) → Type 0
  IsGoodOf found = IsGood Few words (option_map (λ subject. asked subject.0 subject.1) found)

  named_good : 4 ≤ length words → (what : Option What) (name : List ℕ) → IsGoodOf (named_by what name)
  named_good long None name = cond_both (is_name name) None None IsGoodOf (λ _. tt) (λ _. tt)
  named_good long (Some what) name =
      cond_both (is_name name) (Some (what, name)) None IsGoodOf (λ _. ((each what name).0, omega (arith, (each what name).1, long))) (λ _. tt)

  subject_left : (left : List (List ℕ)) → drop 2 words ≡ left → IsGoodOf (subject_of left)
  subject_left [] is = tt
  subject_left (a ∷ []) is = tt
  subject_left (a ∷ b ∷ []) is = named_good (omega (arith, long_enough 2 words a (b ∷ []) is)) (what_of a) b
  subject_left (a ∷ b ∷ c ∷ left) is = tt

  pub subject_good : IsGood Few words (with_subject asked words)
  subject_good = subject_left (drop 2 words) refl

-- `help` alone, and of a command
module _ (Few : Command → Type 0) (all : Few command.Help) (each : (topic : Topic) → Few (command.HelpOn topic)) where
  one_good : (words : List (List ℕ)) → 1 ≤ length words → (topic : Option Topic) → IsGood Few words (option_map (λ topic. command.HelpOn topic) topic)
  one_good words long None = tt
  one_good words long (Some topic) = (each topic, omega (arith, long))

  pub topic_good : (verb : List ℕ) (rest : List (List ℕ)) → IsGood Few (verb ∷ rest) (with_topic (verb ∷ rest))
  topic_good verb [] = (all, omega arith)
  topic_good verb (word ∷ []) = one_good (verb ∷ word ∷ []) (omega arith) (topic_of word)
  topic_good verb (word ∷ other ∷ rest) = tt

some_same : (one other : List ℕ) → Some one ≡ Some other → one ≡ other
some_same one other is = ap (λ (it : Option (List ℕ)). unwrap_or it one) is

-- two words, of which the second is the verb of a command
pub topic_read : (words : List (List ℕ)) (verb : List ℕ) → length words ≡ 2 → slice_get words 1 ≡ Some verb
    → with_topic words ≡ option_map (λ topic. command.HelpOn topic) (topic_of verb)
topic_read [] verb two is = absurd (omega (arith, two))
topic_read (help ∷ []) verb two is = absurd (omega (arith, two))
topic_read (help ∷ word ∷ []) verb two is = ap (λ (v : List ℕ). option_map (λ topic. command.HelpOn topic) (topic_of v)) (some_same word verb is)
topic_read (help ∷ word ∷ other ∷ rest) verb two is = absurd (omega (arith, two))

-- words that begin with a verb, and none
pub command_read : (words : List (List ℕ)) (verb : List ℕ) → slice_get words 0 ≡ Some verb → command_of words ≡ by_verb verb words
unfolding command_of
command_read [] verb is = absurd (cc)
command_read (first ∷ rest) verb is = ap (λ (v : List ℕ). by_verb v (first ∷ rest)) (some_same first verb is)

pub none_read : (words : List (List ℕ)) → slice_get words 0 ≡ None → command_of words ≡ None
unfolding command_of
none_read [] is = refl
none_read (first ∷ rest) is = absurd (cc)
