-- Heads: from where the backward chains to the jobs of a group last.
use Rattle.std.proofs.Common.{◌≡◌, ℕ, suc, ◌<◌, Option, Some, List, length, sym, ap, ◌∙◌, subst}
use Rattle.cl_chain.specs.{declared.group_moments.GroupMoments.GroupMoments, Inner.{GroupTables.{moment_at, AreMomentsAt, reads_in, writes_in}, Hops.{IsLastWriter, GoesOnFrom}, ChainsOver.IsHead}}
use Rattle.cl_chain.proofs.{MomentLists.{same_some, has_place}, HopFacts.backward_hop_once}

module _ (writes reads : List (Option ℕ)) where
  -- ---- the walk

  -- ---- one job

  module _ (heads : List (Option ℕ)) where
    pub goes_from_once : (job s t : ℕ) → GoesOnFrom writes reads heads job s → GoesOnFrom writes reads heads job t → s ≡ t
    goes_from_once job s t one other =
        same_some (moment_at heads other.writer) s t
        (subst (λ k. moment_at heads k ≡ Some s) (backward_hop_once writes reads job one.writer other.writer one.hop other.hop) one.head) other.head

    pub goes_from_within : (job t : ℕ) → GoesOnFrom writes reads heads job t → job < length reads
    goes_from_within job t goes = has_place reads job goes.hop.read goes.hop.reads_then

    module _ (job read : ℕ) (has : moment_at reads job ≡ Some read) where
      pub head_unwritten : ((writer : ℕ) → IsLastWriter writes read writer → ⊥) → (from : ℕ) → GoesOnFrom writes reads heads job from → ⊥
      head_unwritten none from goes =
          let same : goes.hop.read ≡ read = same_some (moment_at reads job) goes.hop.read read goes.hop.reads_then has in
          none goes.writer (subst (λ r. IsLastWriter writes r goes.writer) same goes.hop.is_writer)

-- ---- groups

module _ (tables : List GroupMoments) where
  pub head_found : (i place : ℕ) → suc i ≡ place → (ws rs hs heads : List (Option ℕ)) → ws ≡ writes_in tables i → rs ≡ reads_in tables place
      → hs ≡ heads → AreMomentsAt (IsHead tables i) heads → (moments : List (Option ℕ)) → AreMomentsAt (GoesOnFrom ws rs hs) moments
      → AreMomentsAt (IsHead tables place) moments
  head_found i place next ws rs hs heads writes reads same are moments found =
      subst (λ n. AreMomentsAt (IsHead tables n) moments) next (goes_on
      (subst (λ (xs : List (Option ℕ)). AreMomentsAt (GoesOnFrom xs (reads_in tables (suc i)) heads) moments) writes
      (subst (λ (xs : List (Option ℕ)). AreMomentsAt (GoesOnFrom ws xs heads) moments) (reads ∙ ap (reads_in tables) (sym next))
      (subst (λ (xs : List (Option ℕ)). AreMomentsAt (GoesOnFrom ws rs xs) moments) same found))))
    where
      goes_on : AreMomentsAt (GoesOnFrom (writes_in tables i) (reads_in tables (suc i)) heads) moments → AreMomentsAt (IsHead tables (suc i)) moments
      goes_on goes = record {
        sound = λ job from at. let one = goes.sound job from at in (one.writer, one.hop, are.sound one.writer from one.head);
        complete = λ job from head. goes.complete job from (record { writer = head.0; hop = head.1; head = are.complete head.0 from head.2 });
      }
