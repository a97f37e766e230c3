-- What is acknowledged is on each image, and stays there.
use Rattle.std.specs.Prelude.{Option, None, IfSome}
use Rattle.std.specs.Option.{option_to_list}
use Rattle.std.proofs.Common.{◌≡◌, ◌<◌, ◌⊎◌, inl, inr, ⊎_elim, ℕ, ◌≤◌, List, []}
use Rattle.std.proofs.Common.{◌∷◌, ◌++◌, length, take, refl, sym, ◌∙◌, ap, subst, arith}
use Rattle.std.proofs.lemmas.List.{length-append, take_all, take_at, take-append-le}
use Rattle.std.proofs.lemmas.Bool.{cases_lt}
use Rattle.cell_base.specs.declared.shifts.Entry.{Entry}
use Rattle.cell_base.specs.declared.shifts.Grant.{Grant}
use Rattle.outside_io.specs.Disk.{LeavesOnly}
use Rattle.outside_io.specs.Moments.{started, widened}
use Rattle.outside_io.specs.Telling.{where_told, told}
use Rattle.journal_format.specs.Journals.{StandsFor, IsBeforeOrAfter}
use Rattle.durable_cell.specs.Acknowledged.{HasFirst, LeftOnly, HasSince, HasStill, MovesSafely}
use Rattle.durable_cell.specs.DurableState.{DurableState}
use Rattle.durable_cell.specs.Kept.{KeepsDisk, StandsNow, StandsThen, grants_since}
use Rattle.durable_cell.proofs.Moving.{Appends, disk_stays, stands_for_added, told_before, since_is, with_grant}

-- a prefix with at least so many elements, where the list has so many, is one of a longer list
takes_more : (added : List Grant) (grant : Grant) (n count : ℕ) → count ≤ n → count ≤ length added
    → (k : ℕ) × (count ≤ k) × (take k (added ++ grant ∷ []) ≡ take n added)
takes_more added grant n count enough few = by_order (cases_lt n (length added))
  where
    by_order : (n < length added) ⊎ (length added ≤ n) → (k : ℕ) × (count ≤ k) × (take k (added ++ grant ∷ []) ≡ take n added)
    by_order (inl lt) = (n, enough, take-append-le n added (grant ∷ []) (omega (arith, lt)))
    by_order (inr le) = (length added, few, take_at added (grant ∷ []) (length added) refl ∙ sym (take_all n added le))

module _ {D : Type 0} (reads_as : D → Option (List ℕ)) (may_leave : D → List ℕ → Type 0) (moment : D → ℕ)
    (left_since : D → ℕ → List ℕ → Type 0) (faults : D → ℕ) where
  -- what stands now has all that was added
  stands_has : (durable : DurableState D) (file : List ℕ) → StandsNow durable file → HasFirst durable (length durable.added) file
  stands_has durable file (inl stands) = (
    length durable.added,
    omega arith,
    subst (λ (gs : List Grant). StandsFor file durable.text (durable.opening ++ gs))
        (sym (take_at durable.added (option_to_list durable.unsure) (length durable.added) refl)) stands,
  )
  stands_has durable file (inr stands) = (
    length (grants_since durable),
    omega (arith, length-append durable.added (option_to_list durable.unsure)),
    subst (λ (gs : List Grant). StandsFor file durable.text (durable.opening ++ gs))
        (sym (take_all (length (grants_since durable)) (grants_since durable) (omega arith))) stands,
  )

  -- from now on each image has all that was added
  pub has_now : (durable : DurableState D) → ((disk : D) (c : List ℕ) → left_since disk (moment disk) c → may_leave disk c)
      → KeepsDisk reads_as may_leave moment left_since faults durable
      → HasSince reads_as moment left_since durable (moment durable.disk) (length durable.added)
  has_now durable only_now keeps = record {
    added = omega arith;
    left = where_told (reads_as durable.disk)
        (λ _. LeftOnly moment left_since durable.disk (moment durable.disk) (HasFirst durable (length durable.added))) (λ now is_now.
        let stands = told _ _ now is_now keeps.stands in
        record {
          reached = omega arith;
          each = λ c left. stands_has durable c (stands.1 c (only_now durable.disk c left));
        });
  }

  -- where nothing is written each image of the call is one of now
  moments_stay : (old new : DurableState D) → ((disk : D) (c : List ℕ) → left_since disk (moment disk) c → may_leave disk c)
      → KeepsDisk reads_as may_leave moment left_since faults old
      → IfSome (reads_as old.disk) (λ _. LeavesOnly moment left_since old.disk old.disk (StandsThen old new))
  moments_stay old new only_now keeps =
      where_told (reads_as old.disk) (λ _. LeavesOnly moment left_since old.disk old.disk (StandsThen old new)) (λ now is_now.
      let stands = told _ _ now is_now keeps.stands in
      started moment left_since old.disk (StandsThen old new) (λ c left. inl (stands.1 c (only_now old.disk c left))))

  -- and what was on each image is there still
  still_same : (durable : DurableState D) (history : List Entry) (added : List Grant) (unsure : Option Grant)
      → added ≡ durable.added → unsure ≡ durable.unsure
      → HasStill reads_as moment left_since durable (record durable { history = history; added = added; unsure = unsure })
  still_same durable history added unsure added_is unsure_is then count has =
      subst (λ (p : List Grant × Option Grant). HasSince reads_as moment left_since
      (record durable { history = history; added = p.0; unsure = p.1 }) then count)
      (λ i. (sym added_is i, sym unsure_is i)) (record { added = has.added; left = has.left })

  -- each image of the writing of a grant stands for what stood, or for what stands once it is written
  moments_then : (durable new : DurableState D) (grant : Grant) → durable.unsure ≡ None
      → KeepsDisk reads_as may_leave moment left_since faults durable
      → Appends reads_as may_leave moment left_since faults durable.disk new.disk durable.text grant
      → ((file : List ℕ) → StandsFor file durable.text (durable.opening ++ (durable.added ++ grant ∷ [])) → StandsNow new file)
      → IfSome (reads_as durable.disk) (λ _. LeavesOnly moment left_since durable.disk new.disk (StandsThen durable new))
  moments_then durable new grant none keeps appends stands =
      where_told (reads_as durable.disk) (λ _. LeavesOnly moment left_since durable.disk new.disk (StandsThen durable new)) (λ old is_old.
      let stood = stands_for_added reads_as may_leave moment left_since faults durable old none (told _ _ old is_old keeps.stands).0 in
      widened moment left_since durable.disk new.disk _ (StandsThen durable new)
      (appends.any_moment old (durable.opening ++ durable.added) is_old stood)
      (λ c. ⊎_elim (λ before. inl (inl before))
      (λ after. inr (stands c (with_grant durable.text durable.opening durable.added grant c after)))))

  -- what was on each image is there still when a grant is written after it
  still_more : (durable new : DurableState D) (grant : Grant) → durable.unsure ≡ None
      → KeepsDisk reads_as may_leave moment left_since faults durable
      → Appends reads_as may_leave moment left_since faults durable.disk new.disk durable.text grant
      → new.text ≡ durable.text → new.opening ≡ durable.opening → length durable.added ≤ length new.added
      → grants_since new ≡ durable.added ++ grant ∷ [] → HasStill reads_as moment left_since durable new
  still_more durable new grant none keeps appends text_is opening_is no_fewer longer then count has = record {
    added = omega (arith, has.added, no_fewer);
    left = where_told (reads_as new.disk) (λ _. LeftOnly moment left_since new.disk then (HasFirst new count)) (λ now is_now.
        let old = told_before reads_as may_leave moment left_since faults durable new.disk grant now none keeps appends is_now in
        let since = told _ _ old.0 old.1 has.left in
        let leaves = appends.any_moment old.0 (durable.opening ++ durable.added) old.1 old.2 in
        record {
          reached = omega (arith, since.reached, leaves.later);
          each = λ c left. ⊎_elim (λ was. had c (since.each c was)) (has_it c) (leaves.before then c since.reached left);
        });
  }
    where
      First : List ℕ → List Grant → List Grant → List ℕ → Type 0
      First text opening since c = (k : ℕ) × (count ≤ k) × StandsFor c text (opening ++ take k since)

      first : (c : List ℕ) → First durable.text durable.opening (durable.added ++ grant ∷ []) c → HasFirst new count c
      first c = subst (λ (s : List ℕ × List Grant × List Grant). First s.0 s.1 s.2 c)
          (λ i. (sym text_is i, sym opening_is i, sym longer i))

      had : (c : List ℕ) → HasFirst durable count c → HasFirst new count c
      had c has_first =
          let k = takes_more durable.added grant has_first.0 count has_first.1 has.added in
          first c (
            k.0,
            k.1,
            subst (λ (gs : List Grant). StandsFor c durable.text (durable.opening ++ gs))
                (ap (λ (gs : List Grant). take has_first.0 gs) (since_is durable none) ∙ sym k.2) has_first.2,
          )

      has_it : (c : List ℕ) → IsBeforeOrAfter durable.text (durable.opening ++ durable.added) grant c → HasFirst new count c
      has_it c (inl before) = first c (
        length durable.added,
        has.added,
        subst (λ (gs : List Grant). StandsFor c durable.text (durable.opening ++ gs))
            (sym (take_at durable.added (grant ∷ []) (length durable.added) refl)) before,
      )
      has_it c (inr after) =
          let all = durable.added ++ grant ∷ [] in
          first c (
            length all,
            omega (arith, has.added, length-append durable.added (grant ∷ [])),
            subst (λ (gs : List Grant). StandsFor c durable.text (durable.opening ++ gs)) (sym (take_all (length all) all (omega arith)))
                (with_grant durable.text durable.opening durable.added grant c after),
          )

  -- where nothing is written the disk moves safely
  pub unwritten : (durable : DurableState D) (history : List Entry) (added : List Grant) (unsure : Option Grant)
      → ((disk : D) (c : List ℕ) → left_since disk (moment disk) c → may_leave disk c) → added ≡ durable.added → unsure ≡ durable.unsure
      → KeepsDisk reads_as may_leave moment left_since faults durable
      → MovesSafely reads_as may_leave moment left_since durable (record durable { history = history; added = added; unsure = unsure })
  unwritten durable history added unsure only_now added_is unsure_is keeps =
      let new : DurableState D = record durable { history = history; added = added; unsure = unsure } in
      let keeps_new = disk_stays reads_as may_leave moment left_since faults durable history added unsure added_is unsure_is keeps in
      record {
        any_moment = moments_stay durable new only_now keeps;
        stands = keeps_new.stands;
        acknowledged = has_now new only_now keeps_new;
        still = still_same durable history added unsure added_is unsure_is;
      }

  -- and so it does where a grant is written
  pub written : (durable new : DurableState D) (grant : Grant)
      → ((disk : D) (c : List ℕ) → left_since disk (moment disk) c → may_leave disk c) → durable.unsure ≡ None
      → KeepsDisk reads_as may_leave moment left_since faults durable → KeepsDisk reads_as may_leave moment left_since faults new
      → Appends reads_as may_leave moment left_since faults durable.disk new.disk durable.text grant
      → new.text ≡ durable.text → new.opening ≡ durable.opening → length durable.added ≤ length new.added
      → grants_since new ≡ durable.added ++ grant ∷ [] → MovesSafely reads_as may_leave moment left_since durable new
  written durable new grant only_now none keeps keeps_new appends text_is opening_is no_fewer longer = record {
    any_moment = moments_then durable new grant none keeps appends (λ file stands. inr (subst (λ (s : List ℕ × List Grant × List Grant).
        StandsFor file s.0 (s.1 ++ s.2)) (λ i. (sym text_is i, sym opening_is i, sym longer i)) stands));
    stands = keeps_new.stands;
    acknowledged = has_now new only_now keeps_new;
    still = still_more durable new grant none keeps appends text_is opening_is no_fewer longer;
  }
