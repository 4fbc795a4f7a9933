-- When each status comes.
use Rattle.std.proofs.Common.{◌≡◌, ◌≢◌, ◌⊎◌, ℕ, inl, inr, List, Option, Some, None, ap, subst, arith}
use Rattle.cl_io.specs.Counts.{Rose, counted}
use Rattle.cl_engine.specs.{declared.{outcome.Outcome.Outcome, status.TheConstants.{WORDS_REFUSED, READ_FAULT, LONG_FILE, MODEL_REFUSED, WRITE_FAULT, NO_MEMORY, ARGUMENT_NOT_TEXT}}, Calls.{ShelfCall, SinkCall}, Fetched.{FileRose, FileTooLong, NoneAfter}, Files.File, Inner.Leaving.Cause}
use Rattle.cl_engine.specs.{Inner.Leaving.{OfFault, OfLength, OfRefusal, OfContent, IsCaused}, Language.{Language, files_of, limited_of, IsOfContent}, Outcome.{words_refused, read_fault, long_file}, Run.{ComesAs, ComesTo, IsWhole, IsCutShort, WritesOfFile}}

-- how an outcome was carried out
abbrev pub Carried : {K : Type 0} (sink : SinkCall K) (found : Outcome) (status : ℕ) → Type 0
Carried sink found status = IsWhole sink found status ⊎ IsCutShort sink found status

-- a count that rose by one, where it could, rose
pub counted_rose : (before after : ℕ) → after ≡ counted before → Rose before after
counted_rose before after is = λ small. omega (arith, is, small)

status_is : (found other : Outcome) → found ≡ other → found.status ≡ other.status
status_is found other is = ap (λ (o : Outcome). o.status) is

of_content : {X : Type 0} (status : ℕ) → IsOfContent status → (status ≡ 2) ⊎ ((status ≡ 3) ⊎ ((status ≡ 4) ⊎ (status ≡ 5))) → X
of_content status content is = absurd (omega (arith, content, is))

moved : {K : Type 0} (sink : SinkCall K) (found : Outcome) (status : ℕ) (other : Outcome) → found ≡ other → IsWhole sink found status → IsWhole sink other status
moved sink found status other is whole = subst (λ (o : Outcome). IsWhole sink o status) is whole

module _ (files limited : List File) (words : List (List ℕ)) (shelf : ShelfCall) (found : Outcome) where
  -- a cause is none of the words
  not_words : Cause files limited words shelf found → found.status ≡ 2 → ⊥
  not_words (OfFault fault) status = omega (arith, status, status_is found (read_fault fault.0.place) fault.2.2)
  not_words (OfLength length) status = omega (arith, status, status_is found (long_file length.0.place) length.2.2)
  not_words (OfRefusal none is) status = omega (arith, status, is)
  not_words (OfContent content) status = of_content found.status content (inl status)

  -- nor of a call that failed, nor of a program without words
  not_failed : Cause files limited words shelf found → (found.status ≡ WRITE_FAULT) ⊎ ((found.status ≡ NO_MEMORY) ⊎ (found.status ≡ ARGUMENT_NOT_TEXT)) → ⊥
  not_failed (OfFault fault) failed = omega (arith, failed, status_is found (read_fault fault.0.place) fault.2.2)
  not_failed (OfLength length) failed = omega (arith, failed, status_is found (long_file length.0.place) length.2.2)
  not_failed (OfRefusal none is) failed = omega (arith, failed, is)
  not_failed (OfContent content) failed = omega (arith, content, failed)

  refusal_leaves : Cause files limited words shelf found → found.status ≡ 5 → NoneAfter files words shelf 1
  refusal_leaves (OfFault fault) refused = absurd (omega (arith, refused, status_is found (read_fault fault.0.place) fault.2.2))
  refusal_leaves (OfLength length) refused = absurd (omega (arith, refused, status_is found (long_file length.0.place) length.2.2))
  refusal_leaves (OfRefusal none is) refused = none
  refusal_leaves (OfContent content) refused = of_content found.status content (inr (inr (inr refused)))

  module _ {K : Type 0} (sink : SinkCall K) (status : ℕ) where
    fault_writes : Cause files limited words shelf found → found.status ≡ 3 → IsWhole sink found status → WritesOfFile files words shelf (FileRose words shelf) read_fault sink status
    fault_writes (OfFault cause) fault whole = (cause.0, cause.1, (cause.2.0, cause.2.1, moved sink found status (read_fault cause.0.place) cause.2.2 whole))
    fault_writes (OfLength cause) fault whole = absurd (omega (arith, fault, status_is found (long_file cause.0.place) cause.2.2))
    fault_writes (OfRefusal none is) fault whole = absurd (omega (arith, fault, is))
    fault_writes (OfContent content) fault whole = of_content found.status content (inr (inl fault))

    length_writes : Cause files limited words shelf found → found.status ≡ 4 → IsWhole sink found status → WritesOfFile limited words shelf (FileTooLong words shelf) long_file sink status
    length_writes (OfFault cause) long whole = absurd (omega (arith, long, status_is found (read_fault cause.0.place) cause.2.2))
    length_writes (OfLength cause) long whole = (cause.0, cause.1, (cause.2.0, cause.2.1, moved sink found status (long_file cause.0.place) cause.2.2 whole))
    length_writes (OfRefusal none is) long whole = absurd (omega (arith, long, is))
    length_writes (OfContent content) long whole = of_content found.status content (inr (inr (inl long)))

-- ---- the statuses of a call that ended with this outcome

module _ {C : Type 0} (language : Language C) (words : List (List ℕ)) (shelf : ShelfCall) (found : Outcome) where
  words_status : (language.spelled words ≡ None) × (found ≡ words_refused) → found.status ≡ 2
  words_status (none, is) = status_is found words_refused is

  -- no outcome has the status of a call that failed, or that of a program without words
  other_outcome : IsCaused language words shelf found → (found.status ≡ WRITE_FAULT) ⊎ ((found.status ≡ NO_MEMORY) ⊎ (found.status ≡ ARGUMENT_NOT_TEXT)) → ⊥
  other_outcome (inl refused) failed = omega (arith, failed, words_status refused)
  other_outcome (inr cause) failed = not_failed (files_of language words) (limited_of language words) words shelf found cause failed

  of_none : (command : Option C) → ComesAs language command words shelf found → command ≡ None → found.status ≡ 2
  of_none None comes none = status_is found words_refused comes.follows
  of_none (Some asked) comes none = absurd cc

  refused_words : IsCaused language words shelf found → found.status ≡ 2 → language.spelled words ≡ None
  refused_words (inl refused) is = refused.0
  refused_words (inr cause) is = absurd (not_words (files_of language words) (limited_of language words) words shelf found cause is)

  module _ {K : Type 0} (sink : SinkCall K) (status : ℕ) (caused : IsCaused language words shelf found) where
    pub words_refused_by : Carried sink found status → status ≡ WORDS_REFUSED → language.spelled words ≡ None
    words_refused_by (inl whole) is = refused_words caused (omega (arith, whole.own_status, is))
    words_refused_by (inr cut) is = absurd (omega (arith, cut.fault_status, is))

    pub no_command_ends : ComesTo language words shelf found → Carried sink found status → language.spelled words ≡ None
        → (status ≡ WORDS_REFUSED) ⊎ ((status ≡ WRITE_FAULT) ⊎ (status ≡ NO_MEMORY))
    no_command_ends comes (inl whole) none = inl (omega (arith, whole.own_status, of_none (language.spelled words) comes none))
    no_command_ends comes (inr cut) none = inr (inl cut.fault_status)

    faulted : IsCaused language words shelf found → found.status ≡ 3 → IsWhole sink found status → WritesOfFile (files_of language words) words shelf (FileRose words shelf) read_fault sink status
    faulted (inl refused) is whole = absurd (omega (arith, is, words_status refused))
    faulted (inr cause) is whole = fault_writes (files_of language words) (limited_of language words) words shelf found sink status cause is whole

    pub read_fault_ends : Carried sink found status → status ≡ READ_FAULT → WritesOfFile (files_of language words) words shelf (FileRose words shelf) read_fault sink status
    read_fault_ends (inl whole) is = faulted caused (omega (arith, whole.own_status, is)) whole
    read_fault_ends (inr cut) is = absurd (omega (arith, cut.fault_status, is))

    overlong : IsCaused language words shelf found → found.status ≡ 4 → IsWhole sink found status → WritesOfFile (limited_of language words) words shelf (FileTooLong words shelf) long_file sink status
    overlong (inl refused) is whole = absurd (omega (arith, is, words_status refused))
    overlong (inr cause) is whole = length_writes (files_of language words) (limited_of language words) words shelf found sink status cause is whole

    pub long_file_ends : Carried sink found status → status ≡ LONG_FILE → WritesOfFile (limited_of language words) words shelf (FileTooLong words shelf) long_file sink status
    long_file_ends (inl whole) is = overlong caused (omega (arith, whole.own_status, is)) whole
    long_file_ends (inr cut) is = absurd (omega (arith, cut.fault_status, is))

    refused_model : IsCaused language words shelf found → found.status ≡ 5 → NoneAfter (files_of language words) words shelf 1
    refused_model (inl refused) is = absurd (omega (arith, is, words_status refused))
    refused_model (inr cause) is = refusal_leaves (files_of language words) (limited_of language words) words shelf found cause is

    pub model_refused_ends : Carried sink found status → status ≡ MODEL_REFUSED → NoneAfter (files_of language words) words shelf 1
    model_refused_ends (inl whole) is = refused_model caused (omega (arith, whole.own_status, is))
    model_refused_ends (inr cut) is = absurd (omega (arith, cut.fault_status, is))

    pub write_fault_cuts : Carried sink found status → status ≡ WRITE_FAULT → IsCutShort sink found status
    write_fault_cuts (inl whole) is = absurd (other_outcome caused (inl (omega (arith, whole.own_status, is))))
    write_fault_cuts (inr cut) is = cut

    pub no_memory_ends : Carried sink found status → status ≡ NO_MEMORY → sink.after ≡ sink.before
    no_memory_ends (inl whole) is = absurd (other_outcome caused (inr (inl (omega (arith, whole.own_status, is)))))
    no_memory_ends (inr cut) is = absurd (omega (arith, cut.fault_status, is))

    pub other_status_ends : Carried sink found status → status ≢ ARGUMENT_NOT_TEXT
    other_status_ends (inl whole) is = other_outcome caused (inr (inr (omega (arith, whole.own_status, is))))
    other_status_ends (inr cut) is = absurd (omega (arith, cut.fault_status, is))

    pub unfailed_ends : Carried sink found status → status ≢ WRITE_FAULT → sink.faults sink.after ≡ sink.faults sink.before
    unfailed_ends (inl whole) other = whole.unfailed
    unfailed_ends (inr cut) other = absurd (other cut.fault_status)
