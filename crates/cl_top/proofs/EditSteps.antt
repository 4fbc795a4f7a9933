-- Edits that are made one by one: what they have come to so far, and what they have asked for.
use Rattle.std.proofs.Common.{◌≡◌, ℕ, zero, suc, ◌+◌, ◌<◌, ◌≤◌, inl, inr, List, [], ◌∷◌, ◌++◌, length, map, drop, get_or, Result, Ok, Err, refl, sym, ap, ◌∙◌, subst, arith}
use Rattle.std.specs.List.{concat}
use Rattle.std.proofs.Math.ListN.{length-map}
use Rattle.std.proofs.lemmas.List.{append-nil, drop-map}
use Rattle.std.proofs.lemmas.List.Folds.{concat-append}
use Rattle.cl_model.specs.declared.{model.SystemModel.SystemModel, refusal.Refusal.Refusal}
use Rattle.cl_edit.specs.{declared.{edit.Edit.{Edit, TheVariants.Report}, edit_lines.ListedEdit.ListedEdit}, Edited.edited, Reading.{edits_of, AreEditsOf}}
use Rattle.cl_incr.specs.Changed.{AsksForChanges}
use Rattle.cl_engine.specs.declared.status.TheConstants.{DONE}
use Rattle.cl_top.specs.{OfEdits.line_at, Commands.Edit.{edits_refused, behind, IsWrittenBy, AreAccepted, AreEditedTo}, Inner.Edits.{IsMade, HasAsked, HaveAsked}, Steps.{written_steps, AsksFor, AsksThen, AskForChanges, AreFewOfEdits}}
use Rattle.cl_top.proofs.Accepted.{model_or, none_accepted, one_more_accepted}

-- ---- lists

-- what stands behind a place begins with the item at the place
pub record BeginsHere {X : Type 0} (items : List X) (place : ℕ) (item : X) (others : List X) (default : X) : Type 0 where
  pub within : place < length items
  pub here : get_or items place default ≡ item
  pub rest : drop (suc place) items ≡ others

pub begins_here : {X : Type 0} (items : List X) (place : ℕ) (item : X) (others : List X) (default : X) → drop place items ≡ item ∷ others
    → BeginsHere items place item others default
begins_here [] zero item others default is = absurd (omega (arith, ap length is))
begins_here [] (suc place) item others default is = absurd (omega (arith, ap length is))
begins_here (first ∷ items) zero item others default is = record { within = omega arith; here = ap (λ l. get_or l 0 default) is; rest = ap (drop 1) is }
begins_here (first ∷ items) (suc place) item others default is =
    let begins = begins_here items place item others default is in
    record { within = omega (arith, begins.within); here = begins.here; rest = begins.rest }

none_behind : {X : Type 0} (items : List X) (place : ℕ) → drop place items ≡ [] → length items ≤ place
none_behind [] place is = omega arith
none_behind (first ∷ items) zero is = absurd (omega (arith, ap length is))
none_behind (first ∷ items) (suc place) is = omega (arith, none_behind items place is)

-- ---- what one edit asks for

-- no step asks for nothing
none_changed : (old new : SystemModel) (steps : ℕ) → AsksForChanges old new steps steps
none_changed old new steps = record {
  tasks = [];
  chains = [];
  different_tasks = λ k within. absurd (omega (arith, within));
  different_chains = λ k within. absurd (omega (arith, within));
  changed_tasks = λ k d within. absurd (omega arith);
  changed_chains = λ k d within. absurd (omega arith);
  few = omega arith;
}

none_asked : (edit : Edit) (old new : SystemModel) (steps : ℕ) → AsksFor edit old new steps steps
none_asked edit old new steps = record { changed = steps; changes = none_changed old new steps; writes = omega arith }

pub nothing_asked : (edits : List Edit) (model : SystemModel) (steps : ℕ) → AskForChanges edits model steps steps
nothing_asked [] model steps = omega arith
nothing_asked (edit ∷ edits) model steps = by_edit (λ new. nothing_asked edits new steps) (edited model edit)
  where
    by_edit : ((new : SystemModel) → AskForChanges edits new steps steps) → (made : Result SystemModel Refusal)
        → AsksThen edit model made (λ new between. AskForChanges edits new between steps) steps steps
    by_edit rest (Err refusal) = omega arith
    by_edit rest (Ok new) = (steps, none_asked edit model new steps, rest new)

-- where an edit was made, it asked for what it changes and then for what it writes
pub made_asked : (edit : Edit) (old new : SystemModel) (made : Result SystemModel Refusal) (before between after : ℕ) → made ≡ Ok new
    → ((changed : SystemModel) → made ≡ Ok changed → AsksForChanges old changed before between) → after ≤ between + written_steps edit new
    → HasAsked edit old made before after
made_asked edit old new (Ok changed) before between after is asks few =
    let same : new ≡ changed = sym (ap (model_or new) is) in
    record { changed = between; changes = asks changed refl; writes = subst (λ m. after ≤ between + written_steps edit m) same few }
made_asked edit old new (Err refusal) before between after is asks few = absurd cc

-- where none was made, at most for what it changes
pub unmade_asked : (edit : Edit) (old : SystemModel) (made : Result SystemModel Refusal) (before after : ℕ)
    → ((changed : SystemModel) → made ≡ Ok changed → AsksForChanges old changed before after) → ((refusal : Refusal) → made ≡ Err refusal → after ≡ before)
    → HasAsked edit old made before after
unmade_asked edit old (Ok new) before after asks none = record { changed = after; changes = asks new refl; writes = omega arith }
unmade_asked edit old (Err refusal) before after asks none = omega (arith, none refusal refl)

-- ---- the edits so far

pub record AreEditedSoFar (listed : List ListedEdit) (first : SystemModel) (before : ℕ) (place : ℕ) (model : SystemModel) (text : List ℕ) (steps : ℕ) : Type 0 where
  pub pieces : List (List ℕ)
  pub are : AreAccepted first (edits_of listed) place pieces model
  pub joined : text ≡ concat pieces
  pub asked : (after : ℕ) → AskForChanges (drop place (edits_of listed)) model steps after → AskForChanges (edits_of listed) first before after

pub none_so_far : (listed : List ListedEdit) (model : SystemModel) (text : List ℕ) (steps : ℕ) → text ≡ [] → AreEditedSoFar listed model steps 0 model text steps
none_so_far listed model text steps empty = record { pieces = []; are = none_accepted model (edits_of listed); joined = empty; asked = λ after is. is }

module _ (listed : List ListedEdit) (first : SystemModel) (before : ℕ) (place : ℕ) (model : SystemModel) (text : List ℕ) (steps : ℕ)
    (so_far : AreEditedSoFar listed first before place model text steps) where
  module _ (one : ListedEdit) (others : List ListedEdit) (left : drop place listed ≡ one ∷ others) where
    -- the edits from the place on begin with this one
    pub edits_left : drop place (edits_of listed) ≡ one.edit ∷ edits_of others
    edits_left = drop-map (λ (it : ListedEdit). it.edit) place listed ∙ ap edits_of left

    pub begins : BeginsHere (edits_of listed) place one.edit (edits_of others) Report
    begins = begins_here (edits_of listed) place one.edit (edits_of others) Report edits_left

    -- and their lines with its line
    line_is : line_at listed place ≡ one.line
    line_is = (begins_here (map (λ (it : ListedEdit). it.line) listed) place one.line (map (λ (it : ListedEdit). it.line) others) 0
        (drop-map (λ (it : ListedEdit). it.line) place listed ∙ ap (map (λ (it : ListedEdit). it.line)) left)).here

    -- it is made
    pub one_more : (new : SystemModel) (after : List ℕ) (steps_after : ℕ) → IsMade model one.edit new text after → HasAsked one.edit model (edited model one.edit) steps steps_after
        → AreEditedSoFar listed first before (suc place) new after steps_after
    one_more new after steps_after made asked = record {
      pieces = so_far.pieces ++ made.written ∷ [];
      are = one_more_accepted first (edits_of listed) place so_far.pieces model begins.within so_far.are new (ap (edited model) begins.here ∙ made.made) made.written
          (subst (λ (e : Edit). IsWrittenBy model e made.written) (sym begins.here) made.writes);
      joined = made.put ∙ ap (λ t. t ++ made.written) so_far.joined ∙ ap (λ t. concat so_far.pieces ++ t) (sym (append-nil made.written))
          ∙ sym (concat-append so_far.pieces (made.written ∷ []));
      asked = λ end later.
          let is = subst (λ (es : List Edit). AskForChanges es new steps_after end) begins.rest later in
          so_far.asked end (subst (λ (es : List Edit). AskForChanges es model steps end) (sym edits_left)
          (subst (λ m. AsksThen one.edit model m (λ changed between. AskForChanges (edits_of others) changed between end) steps end) (sym made.made)
          (steps_after, subst (λ m. HasAsked one.edit model m steps steps_after) made.made asked, is)));
    }

    -- it is refused
    pub one_refused : (refusal : Refusal) → edited model one.edit ≡ Err refusal → AreEditedTo first listed (behind text (edits_refused one.line refusal))
    one_refused refusal is = record {
      count = place;
      pieces = so_far.pieces;
      made = model;
      are = so_far.are;
      ends = inr (record {
        one_more = omega (arith, begins.within, length-map listed (λ (it : ListedEdit). it.edit));
        refusal = refusal;
        refused = ap (edited model) begins.here ∙ is;
        printed = ap (λ t. behind t (edits_refused one.line refusal)) so_far.joined
            ∙ ap (λ n. behind (concat so_far.pieces) (edits_refused n refusal)) (sym line_is);
      });
    }

    -- what was asked, where the edits end with this one
    last_asked : (made : Result SystemModel Refusal) (end : ℕ) → HasAsked one.edit model made steps end
        → AsksThen one.edit model made (λ new between. AskForChanges (edits_of others) new between end) steps end
    last_asked (Err refusal) end asked = asked
    last_asked (Ok new) end asked = (end, asked, nothing_asked (edits_of others) new end)

    pub asked_here : (end : ℕ) → HasAsked one.edit model (edited model one.edit) steps end → AskForChanges (edits_of listed) first before end
    asked_here end asked = so_far.asked end (subst (λ (es : List Edit). AskForChanges es model steps end) (sym edits_left) (last_asked (edited model one.edit) end asked))

  -- all edits were made
  pub all_made : drop place listed ≡ [] → AreEditedTo first listed (record { status = DONE; text = text })
  all_made none = record {
    count = place;
    pieces = so_far.pieces;
    made = model;
    are = so_far.are;
    ends = inl (record {
      all = omega (arith, none_behind listed place none, so_far.are.within, length-map listed (λ (it : ListedEdit). it.edit));
      printed = ap (λ (t : List ℕ). record { status = DONE; text = t }) so_far.joined;
    });
  }

  -- whatever is left, nothing more is asked
  pub no_more_asked : AskForChanges (edits_of listed) first before steps
  no_more_asked = so_far.asked steps (nothing_asked (drop place (edits_of listed)) model steps)

-- ---- the whole

pub few_of_text : (model : SystemModel) (text : List ℕ) (listed : List ListedEdit) (before after : ℕ) → AreEditsOf text listed → HaveAsked (edits_of listed) model before after
    → AreFewOfEdits model text before after
few_of_text model text listed before after are asked = record {
  started = asked.started;
  start = asked.start;
  rest = inr (record { listed = listed; are = are; ask = asked.ask });
}

pub few_of_none : (model : SystemModel) (text : List ℕ) (steps : ℕ) → AreFewOfEdits model text steps steps
few_of_none model text steps = record { started = steps; start = omega arith; rest = inl (omega arith) }
