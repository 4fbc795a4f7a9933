-- The first bad line of a text: where no line that may stand next does, and the text isn't whole.
use Rattle.std.proofs.Common.{◌≡◌, ◌≢◌, ℕ, zero, suc, ◌⊎◌, inl, inr, List, [], ◌∷◌, ◌++◌, length, refl, ap, subst, arith}
use Rattle.std.specs.Prelude.{Contains}
use Rattle.std.specs.List.{All}
use Rattle.std.proofs.lemmas.List.Elements.{All-nil, All-cons}
use Rattle.cl_model.specs.declared.model.SystemModel.{SystemModel}
use Rattle.cl_text.specs.Standing.{NoneStands}
use Rattle.cl_trace.specs.{Trace.{Item, Title, Ticks, JobOf, Runs, End, item_text, text_of}, Rules.{IsOpen, IsAboveJob, IsAboveRun, MayStand, AreGoodAfter, EndsEarly, EndsLate, HasOtherLine, IsBadTraceLine}}
use Rattle.cl_trace.proofs.JobLines.{item_longer}

-- lines are good up to one of that number, no line that may stand there does, and where nothing is left the text isn't
-- whole
pub record IsStuckAt (model : SystemModel) (text : List ℕ) (number : ℕ) : Type 0 where
  pub items : List Item
  pub rest : List ℕ
  pub good : AreGoodAfter model [] items
  pub parts : text ≡ text_of model items ++ rest
  pub bad : NoneStands (item_text model) (MayStand model items) rest
  pub unended : rest ≡ [] → All IsOpen items
  pub counted : number ≡ suc (length items)

-- ---- whether the last line is among some lines

ended_more : (item : Item) (items : List Item) → Contains items End → Contains (item ∷ items) End
ended_more item items (k, within, is) = (suc k, omega arith, is)

first_ended : (items : List Item) → Contains (End ∷ items) End
first_ended items = (0, omega arith, refl)

open_or_ended : (items : List Item) → All IsOpen items ⊎ Contains items End
open_or_ended [] = inl (All-nil IsOpen)
open_or_ended (item ∷ items) = by_first item (open_or_ended items)
  where
    open_more : (item : Item) → IsOpen item → All IsOpen items ⊎ Contains items End → All IsOpen (item ∷ items) ⊎ Contains (item ∷ items) End
    open_more item first (inl all) = inl (All-cons IsOpen item items first all)
    open_more item first (inr ended) = inr (ended_more item items ended)

    by_first : (item : Item) → All IsOpen items ⊎ Contains items End → All IsOpen (item ∷ items) ⊎ Contains (item ∷ items) End
    by_first Title more = open_more Title tt more
    by_first (Ticks n) more = open_more (Ticks n) tt more
    by_first (JobOf task job) more = open_more (JobOf task job) tt more
    by_first (Runs task from to) more = open_more (Runs task from to) tt more
    by_first End more = inr (first_ended items)

-- no line may stand below the last one
of_last : (P : Item → Type 0) (items : List Item) → Contains items End → All P items → P End
of_last P items (k, within, is) all = subst P is (all k End within)

none_ended : Contains [] End → ⊥
none_ended (k, within, is) = absurd (omega arith)

title_open : Contains (Title ∷ []) End → ⊥
title_open (zero, within, is) = cc
title_open (suc k, within, is) = absurd (omega arith)

none_below : (model : SystemModel) (items : List Item) → Contains items End → (item : Item) → MayStand model items item → ⊥
none_below model items ended Title stands = none_ended (subst (λ xs. Contains xs End) stands ended)
none_below model items ended (Ticks n) stands = title_open (subst (λ xs. Contains xs End) stands.0 ended)
none_below model items ended (JobOf task job) stands = of_last (IsAboveJob task) items ended stands.in_order
none_below model items ended (Runs task from to) stands = of_last (IsAboveRun model task from) items ended stands.in_order
none_below model items ended End stands = of_last IsOpen items ended stands.unended

-- ---- each case of a bad line is such a place

module _ (model : SystemModel) (text : List ℕ) (number : ℕ) where
  of_early : EndsEarly model text number → IsStuckAt model text number
  of_early ends = record {
    items = ends.items;
    rest = [];
    good = ends.good.good;
    parts = ends.good.parts;
    bad = λ item after stands is. absurd (omega (arith, item_longer model item [] after is));
    unended = λ none. ends.unended;
    counted = ends.good.counted;
  }

  of_late : EndsLate model text number → IsStuckAt model text number
  of_late ends = record {
    items = ends.items;
    rest = ends.rest;
    good = ends.good.good;
    parts = ends.good.parts;
    bad = λ item after stands is. none_below model ends.items ends.ended item stands;
    unended = λ none. absurd (ends.some_left none);
    counted = ends.good.counted;
  }

  of_other : HasOtherLine model text number → IsStuckAt model text number
  of_other has = record {
    items = has.items;
    rest = has.rest;
    good = has.good.good;
    parts = has.good.parts;
    bad = has.other;
    unended = λ none. has.unended;
    counted = has.good.counted;
  }

  pub stuck_of : IsBadTraceLine model text number → IsStuckAt model text number
  stuck_of (inl early) = of_early early
  stuck_of (inr (inl late)) = of_late late
  stuck_of (inr (inr other)) = of_other other

  -- ---- and such a place is one of the cases

  by_ended : (stuck : IsStuckAt model text number) → stuck.rest ≢ [] → All IsOpen stuck.items ⊎ Contains stuck.items End → IsBadTraceLine model text number
  by_ended stuck some (inl unended) = inr (inr (record {
    items = stuck.items;
    rest = stuck.rest;
    good = record { good = stuck.good; parts = stuck.parts; counted = stuck.counted };
    unended = unended;
    some_left = some;
    other = stuck.bad;
  }))
  by_ended stuck some (inr ended) = inr (inl (record {
    items = stuck.items;
    rest = stuck.rest;
    good = record { good = stuck.good; parts = stuck.parts; counted = stuck.counted };
    ended = ended;
    some_left = some;
  }))

  by_rest : (stuck : IsStuckAt model text number) (rest : List ℕ) → stuck.rest ≡ rest → IsBadTraceLine model text number
  by_rest stuck [] none = inl (record {
    items = stuck.items;
    good = record { good = stuck.good; parts = subst (λ r. text ≡ text_of model stuck.items ++ r) none stuck.parts; counted = stuck.counted };
    unended = stuck.unended none;
  })
  by_rest stuck (byte ∷ bytes) some = by_ended stuck (λ none. absurd (omega (arith, ap length some, ap length none))) (open_or_ended stuck.items)

  pub cases_of : IsStuckAt model text number → IsBadTraceLine model text number
  cases_of stuck = by_rest stuck stuck.rest refl
