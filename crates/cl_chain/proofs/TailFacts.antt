-- Tails: where the forward chains from the jobs of a group end.
use Rattle.std.proofs.Common.{◌≡◌, ℕ, suc, ◌<◌, Option, Some, List, [], ◌∷◌, length, get_or, drop, sym, ap, ◌∙◌, subst, arith}
use Rattle.std.proofs.Math.Seq.{drop-cons}
use Rattle.std.proofs.lemmas.List.{drop_all, get_or_default}
use Rattle.cl_chain.specs.{declared.group_moments.GroupMoments.GroupMoments, Inner.{GroupTables.{moment_at, AreMomentsAt, no_table, reads_in, writes_in}, Hops.{IsWrite, GoesOnTo}, ChainsOver.IsTail}}
use Rattle.cl_chain.proofs.{MomentLists.{same_some, has_place}, HopFacts.forward_hop_once}

module _ (writes reads tails : List (Option ℕ)) where
  pub goes_to_once : (job s t : ℕ) → GoesOnTo writes reads tails job s → GoesOnTo writes reads tails job t → s ≡ t
  goes_to_once job s t one other =
      same_some (moment_at tails other.reader) s t
      (subst (λ k. moment_at tails k ≡ Some s) (forward_hop_once writes reads job one.reader other.reader one.hop other.hop) one.tail) other.tail

  pub goes_to_within : (job t : ℕ) → GoesOnTo writes reads tails job t → job < length writes
  goes_to_within job t goes = has_place writes job goes.hop.write goes.hop.is_write.writes_then
  -- ---- one job

-- ---- the walk

-- ---- groups

module _ (tables : List GroupMoments) where
  here : (i : ℕ) → i < length tables → drop i tables ≡ get_or tables i no_table ∷ drop (suc i) tables
  here i h = drop-cons tables i no_table h

  pub last_tail : (i : ℕ) → suc i ≡ length tables → (moments : List (Option ℕ))
      → AreMomentsAt (IsWrite (writes_in tables i)) moments → AreMomentsAt (IsTail (drop i tables)) moments
  last_tail i last moments are =
      let end : drop i tables ≡ get_or tables i no_table ∷ [] = here i (omega arith) ∙ ap (λ (xs : List GroupMoments). get_or tables i no_table ∷ xs) (drop_all (suc i) tables (omega arith)) in
      subst (λ (xs : List GroupMoments). AreMomentsAt (IsTail xs) moments) (sym end) are

  goes_on : (i : ℕ) (group next : GroupMoments) (rest : List GroupMoments) (tails : List (Option ℕ)) → AreMomentsAt (IsTail (next ∷ rest)) tails
      → (moments : List (Option ℕ)) → AreMomentsAt (GoesOnTo group.writes next.reads tails) moments → AreMomentsAt (IsTail (group ∷ next ∷ rest)) moments
  goes_on i group next rest tails are moments found = record {
    sound = λ job to at. let goes = found.sound job to at in (goes.reader, goes.hop, are.sound goes.reader to goes.tail);
    complete = λ job to tail. found.complete job to (record { reader = tail.0; hop = tail.1; tail = are.complete tail.0 to tail.2 });
  }

  pub tail_before : (i : ℕ) → suc i < length tables → (tails : List (Option ℕ)) → AreMomentsAt (IsTail (drop (suc i) tables)) tails
      → (moments : List (Option ℕ)) → AreMomentsAt (GoesOnTo (writes_in tables i) (reads_in tables (suc i)) tails) moments
      → AreMomentsAt (IsTail (drop i tables)) moments
  tail_before i h tails are moments found =
      let both : drop i tables ≡ get_or tables i no_table ∷ get_or tables (suc i) no_table ∷ drop (suc (suc i)) tables
      = here i (omega arith) ∙ ap (λ (xs : List GroupMoments). get_or tables i no_table ∷ xs) (here (suc i) h) in
      subst (λ (xs : List GroupMoments). AreMomentsAt (IsTail xs) moments) (sym both)
      (goes_on i (get_or tables i no_table) (get_or tables (suc i) no_table) (drop (suc (suc i)) tables) tails
      (subst (λ (xs : List GroupMoments). AreMomentsAt (IsTail xs) tails) (here (suc i) h) are) moments found)

  -- ---- as the code looks groups up

  pub group_looked_up : (i : ℕ) → i < length tables → (group : GroupMoments) → group ≡ get_or tables i group → group ≡ get_or tables i no_table
  group_looked_up i h group at = at ∙ get_or_default tables i group no_table h

  pub writes_looked_up : (i : ℕ) → i < length tables → (group : GroupMoments) (ws : List (Option ℕ)) → ws ≡ (get_or tables i group).writes → ws ≡ writes_in tables i
  writes_looked_up i h group ws same = same ∙ ap (λ (g : GroupMoments). g.writes) (get_or_default tables i group no_table h)

  pub reads_looked_up : (i : ℕ) → i < length tables → (group : GroupMoments) (rs : List (Option ℕ)) → rs ≡ (get_or tables i group).reads → rs ≡ reads_in tables i
  reads_looked_up i h group rs same = same ∙ ap (λ (g : GroupMoments). g.reads) (get_or_default tables i group no_table h)

  pub last_tail_found : (i : ℕ) → suc i ≡ length tables → (ws moments : List (Option ℕ)) → ws ≡ writes_in tables i
      → AreMomentsAt (IsWrite ws) moments → AreMomentsAt (IsTail (drop i tables)) moments
  last_tail_found i last ws moments same are = last_tail i last moments (subst (λ (xs : List (Option ℕ)). AreMomentsAt (IsWrite xs) moments) same are)

  pub tail_found : (i place : ℕ) → suc i ≡ place → place < length tables → (ws rs ts tails : List (Option ℕ)) → ws ≡ writes_in tables i → rs ≡ reads_in tables place
      → ts ≡ tails → AreMomentsAt (IsTail (drop place tables)) tails → (moments : List (Option ℕ)) → AreMomentsAt (GoesOnTo ws rs ts) moments
      → AreMomentsAt (IsTail (drop i tables)) moments
  tail_found i place next h ws rs ts tails writes reads same are moments found =
      tail_before i (omega arith) tails (subst (λ n. AreMomentsAt (IsTail (drop n tables)) tails) (sym next) are) moments
      (subst (λ (xs : List (Option ℕ)). AreMomentsAt (GoesOnTo xs (reads_in tables (suc i)) tails) moments) writes
      (subst (λ (xs : List (Option ℕ)). AreMomentsAt (GoesOnTo ws xs tails) moments) (reads ∙ ap (reads_in tables) (sym next))
      (subst (λ (xs : List (Option ℕ)). AreMomentsAt (GoesOnTo ws rs xs) moments) same found)))
