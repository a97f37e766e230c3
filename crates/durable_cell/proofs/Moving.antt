-- A disk on which one grant more was written, or whose writing failed.
use Rattle.std.specs.Prelude.{Option, Some, None, IfSome, MatchOption}
use Rattle.std.specs.Option.{option_to_list}
use Rattle.std.proofs.Common.{◌≡◌, ◌<◌, ◌⊎◌, inl, inr, ℕ, ◌≤◌, List, [], ◌∷◌, ◌++◌}
use Rattle.std.proofs.Common.{length, take, refl, sym, ◌∙◌, ap, subst, arith, append_assoc}
use Rattle.std.proofs.lemmas.List.{append-nil, take_all, take_at, take-append-le}
use Rattle.std.proofs.lemmas.Bool.{cases_lt}
use Rattle.cell_base.specs.declared.shifts.Entry.{Entry}
use Rattle.cell_base.specs.declared.shifts.Grant.{Grant}
use Rattle.outside_io.specs.Causes.{Rose}
use Rattle.outside_io.specs.Disk.{Turns, LeavesOnly}
use Rattle.outside_io.specs.Moments.{widened, followed}
use Rattle.outside_io.specs.Telling.{where_told, told, turned_back}
use Rattle.move_journal.specs.Disks.{Shows}
use Rattle.journal_format.specs.Journals.{StandsFor, IsBeforeOrAfter, StandsForPrefix}
use Rattle.durable_cell.specs.DurableState.{DurableState}
use Rattle.durable_cell.specs.Kept.{KeepsDisk, StandsNow, grants_since}

-- one run of calls after another: a disk that told goes on telling
pub turns_on : (a b c : Option (List ℕ)) → Turns a b (λ _ _. Unit {0}) → Turns b c (λ _ _. Unit {0}) → Turns a c (λ _ _. Unit {0})
turns_on None None None first second = tt
turns_on None None (Some z) first second = absurd second
turns_on None (Some y) c first second = absurd first
turns_on (Some x) None c first second = absurd first
turns_on (Some x) (Some y) None first second = absurd second
turns_on (Some x) (Some y) (Some z) first second = tt

-- a prefix of a list is one of a longer list
takes_short : (added : List Grant) (grant : Grant) (n : ℕ) → (k : ℕ) × (take k (added ++ grant ∷ []) ≡ take n added)
takes_short added grant n = by_order (cases_lt n (length added))
  where
    by_order : (n < length added) ⊎ (length added ≤ n) → (k : ℕ) × (take k (added ++ grant ∷ []) ≡ take n added)
    by_order (inl lt) = (n, take-append-le n added (grant ∷ []) (omega (arith, lt)))
    by_order (inr le) = (length added, take_at added (grant ∷ []) (length added) refl ∙ sym (take_all n added le))

first_of_more : (text : List ℕ) (opening added : List Grant) (grant : Grant) (file : List ℕ) → StandsForPrefix text opening added file
    → StandsForPrefix text opening (added ++ grant ∷ []) file
first_of_more text opening added grant file stands =
    let k = takes_short added grant stands.0 in
    (k.0, subst (λ (gs : List Grant). StandsFor file text (opening ++ gs)) (sym k.1) stands.1)

either_first : (text : List ℕ) (opening added : List Grant) (grant : Grant) (file : List ℕ)
    → IsBeforeOrAfter text (opening ++ added) grant file → StandsForPrefix text opening (added ++ grant ∷ []) file
either_first text opening added grant file (inl before) = (
  length added,
  subst (λ (gs : List Grant). StandsFor file text (opening ++ gs)) (sym (take_at added (grant ∷ [])
      (length added) refl)) before,
)
either_first text opening added grant file (inr after) =
    let all = added ++ grant ∷ [] in (
      length all,
      subst (λ (gs : List Grant). StandsFor file text gs)
          (append_assoc opening added (grant ∷ []) ∙ ap (λ (gs : List Grant). opening ++ gs) (sym (take_all (length all) all
          (omega arith)))) after,
    )

-- one grant more after those of the opening and those added
pub with_grant : (text : List ℕ) (opening added : List Grant) (grant : Grant) (file : List ℕ)
    → StandsFor file text ((opening ++ added) ++ grant ∷ []) → StandsFor file text (opening ++ (added ++ grant ∷ []))
with_grant text opening added grant file stands = subst (λ (gs : List Grant). StandsFor file text gs)
    (append_assoc opening added (grant ∷ [])) stands

-- the grants since the opening are those that were added, while no writing has failed
pub since_is : {D : Type 0} (durable : DurableState D) → durable.unsure ≡ None → grants_since durable ≡ durable.added
since_is durable none = ap (λ (u : Option Grant). durable.added ++ option_to_list u) none ∙ append-nil durable.added

module _ {D : Type 0} (reads_as : D → Option (List ℕ)) (may_leave : D → List ℕ → Type 0) (moment : D → ℕ)
    (left_since : D → ℕ → List ℕ → Type 0) (faults : D → ℕ) where
  -- what stands while no writing has failed
  pub stands_for_added : (durable : DurableState D) (file : List ℕ) → durable.unsure ≡ None → StandsNow durable file
      → StandsFor file durable.text (durable.opening ++ durable.added)
  stands_for_added durable file none (inl stands) = stands
  stands_for_added durable file none (inr stands) = subst (λ (gs : List Grant). StandsFor file durable.text (durable.opening ++ gs))
      (ap (λ (u : Option Grant). durable.added ++ option_to_list u) none ∙ append-nil durable.added) stands

  moments_more : (first disk new : D) (text : List ℕ) (opening added since longer : List Grant) (grant : Grant) → since ≡ added
      → longer ≡ added ++ grant ∷ []
      → LeavesOnly moment left_since first disk (StandsForPrefix text opening since)
      → LeavesOnly moment left_since disk new (IsBeforeOrAfter text (opening ++ added) grant)
      → LeavesOnly moment left_since first new (StandsForPrefix text opening longer)
  moments_more first disk new text opening added since longer grant is_since is_longer before after =
      let P : List ℕ → Type 0 = StandsForPrefix text opening (added ++ grant ∷ []) in
      let wider : (file : List ℕ) → StandsForPrefix text opening since file → P file =
      λ file stands. first_of_more text opening added grant file
      (subst (λ (gs : List Grant). StandsForPrefix text opening gs file) is_since stands) in
      subst (λ (gs : List Grant). LeavesOnly moment left_since first new (StandsForPrefix text opening gs))
      (sym is_longer)
      (followed moment left_since first disk new P (widened moment left_since first disk _ P before wider)
      (widened moment left_since disk new _ P after (either_first text opening added grant)))

  -- a refused request leaves the disk
  pub disk_stays : (durable : DurableState D) (history : List Entry) (added : List Grant) (unsure : Option Grant)
      → added ≡ durable.added → unsure ≡ durable.unsure → KeepsDisk reads_as may_leave moment left_since faults durable
      → KeepsDisk reads_as may_leave moment left_since faults (record durable { history = history; added = added; unsure = unsure })
  disk_stays durable history added unsure added_is unsure_is keeps =
      subst (λ (p : List Grant × Option Grant). KeepsDisk reads_as may_leave moment left_since faults
      (record durable { history = history; added = p.0; unsure = p.1 }))
      (λ i. (sym added_is i, sym unsure_is i))
      (record { tells = keeps.tells; count = keeps.count; stands = keeps.stands; read = keeps.read; any_moment = keeps.any_moment })

  -- the clauses of an append
  pub record Appends (old new : D) (text : List ℕ) (grant : Grant) : Type 0 where
    pub tells : Turns (reads_as old) (reads_as new) (λ _ _. Unit {0})
    pub kept : (file : List ℕ) (grants : List Grant) → reads_as old ≡ Some file → StandsFor file text grants
        → Shows reads_as may_leave new (IsBeforeOrAfter text grants grant)
    pub any_moment : (file : List ℕ) (grants : List Grant) → reads_as old ≡ Some file → StandsFor file text grants
        → LeavesOnly moment left_since old new (IsBeforeOrAfter text grants grant)

  -- where no writing has failed, what the disk told before an append stands for what was added
  pub told_before : (durable : DurableState D) (new : D) (grant : Grant) (now : List ℕ) → durable.unsure ≡ None
      → KeepsDisk reads_as may_leave moment left_since faults durable → Appends durable.disk new durable.text grant
      → reads_as new ≡ Some now
      → (old : List ℕ) × (reads_as durable.disk ≡ Some old) × StandsFor old durable.text (durable.opening ++ durable.added)
  told_before durable new grant now none keeps appends is_now =
      let old = turned_back _ _ _ now is_now appends.tells in
      (old.0, old.1, stands_for_added durable old.0 none (told _ _ old.0 old.1 keeps.stands).0)

  -- the moments since the disk was found go on over it
  appended_moments : (durable : DurableState D) (new : D) (longer : List Grant) (grant : Grant) → durable.unsure ≡ None
      → longer ≡ durable.added ++ grant ∷ [] → KeepsDisk reads_as may_leave moment left_since faults durable
      → Appends durable.disk new durable.text grant
      → IfSome (reads_as new) (λ _. LeavesOnly moment left_since durable.found new (StandsForPrefix durable.text durable.opening longer))
  appended_moments durable new longer grant none is_longer keeps appends =
      where_told (reads_as new) (λ _. LeavesOnly moment left_since durable.found new
      (StandsForPrefix durable.text durable.opening longer)) (λ now is_now.
      let old = told_before durable new grant now none keeps appends is_now in
      moments_more durable.found durable.disk new durable.text durable.opening durable.added (grants_since durable) longer grant
      (since_is durable none) is_longer
      (told _ _ old.0 old.1 keeps.any_moment) (appends.any_moment old.0 (durable.opening ++ durable.added) old.1 old.2))

  -- a grant more on the disk
  pub disk_has_more : (durable : DurableState D) (new : D) (history : List Entry) (grant : Grant) → durable.unsure ≡ None
      → KeepsDisk reads_as may_leave moment left_since faults durable → Appends durable.disk new durable.text grant
      → faults new ≡ faults durable.disk
      → ((file : List ℕ) (grants : List Grant) → reads_as durable.disk ≡ Some file → StandsFor file durable.text grants
      → Shows reads_as may_leave new (λ after. StandsFor after durable.text (grants ++ grant ∷ [])))
      → KeepsDisk reads_as may_leave moment left_since faults
      (record durable { disk = new; history = history; added = durable.added ++ grant ∷ []; unsure = None })
  disk_has_more durable new history grant none keeps appends fed stored = record {
    tells = turns_on (reads_as durable.entry) (reads_as durable.disk) (reads_as new) keeps.tells appends.tells;
    count = fed ∙ subst (λ (u : Option Grant). MatchOption u (faults durable.disk
        ≡ faults durable.entry) (λ _. Rose (faults durable.entry) (faults durable.disk)))
        none keeps.count;
    stands = where_told (reads_as new) (λ file. Stands file × ((c : List ℕ) → may_leave new c → Stands c)) (λ now is_now.
        let old = told_before durable new grant now none keeps appends is_now in
        let both = told _ _ now is_now (stored old.0 (durable.opening ++ durable.added) old.1 old.2) in
        (longer now both.0, λ c left. longer c (both.1 c left)));
    read = keeps.read;
    any_moment = appended_moments durable new _ grant none (append-nil (durable.added ++ grant ∷ [])) keeps appends;
  }
    where
      Stands : List ℕ → Type 0
      Stands file = StandsNow (record durable { disk = new; history = history; added = durable.added ++ grant ∷ []; unsure = None }) file

      longer : (file : List ℕ) → StandsFor file durable.text ((durable.opening ++ durable.added) ++ grant ∷ []) → Stands file
      longer file stands = inl (with_grant durable.text durable.opening durable.added grant file stands)

  -- a grant of which nobody knows whether it is on the disk
  pub disk_is_unsure : (durable : DurableState D) (new : D) (history : List Entry) (grant : Grant) → durable.unsure ≡ None
      → KeepsDisk reads_as may_leave moment left_since faults durable → Appends durable.disk new durable.text grant
      → Rose (faults durable.disk) (faults new)
      → KeepsDisk reads_as may_leave moment left_since faults
      (record durable { disk = new; history = history; added = durable.added ++ []; unsure = Some grant })
  disk_is_unsure durable new history grant none keeps appends rose = record {
    tells = turns_on (reads_as durable.entry) (reads_as durable.disk) (reads_as new) keeps.tells appends.tells;
    count = subst (λ (n : ℕ). Rose n (faults new))
        (subst (λ (u : Option Grant). MatchOption u (faults durable.disk ≡ faults durable.entry)
        (λ _. Rose (faults durable.entry) (faults durable.disk)))
        none keeps.count) rose;
    stands = where_told (reads_as new) (λ file. Stands file × ((c : List ℕ) → may_leave new c → Stands c)) (λ now is_now.
        let old = told_before durable new grant now none keeps appends is_now in
        let both = told _ _ now is_now (appends.kept old.0 (durable.opening ++ durable.added) old.1 old.2) in
        (either now both.0, λ c left. either c (both.1 c left)));
    read = keeps.read;
    any_moment = appended_moments durable new _ grant none
        (ap (λ (gs : List Grant). gs ++ grant ∷ []) (append-nil durable.added)) keeps appends;
  }
    where
      Stands : List ℕ → Type 0
      Stands file = StandsNow (record durable { disk = new; history = history; added = durable.added ++ []; unsure = Some grant }) file

      either : (file : List ℕ) → IsBeforeOrAfter durable.text (durable.opening ++ durable.added) grant file → Stands file
      either file (inl before) = inl (subst (λ (gs : List Grant). StandsFor file durable.text (durable.opening ++ gs))
          (sym (append-nil durable.added)) before)
      either file (inr after) = inr (subst (λ (gs : List Grant). StandsFor file durable.text (durable.opening ++ (gs ++ grant ∷ [])))
          (sym (append-nil durable.added)) (with_grant durable.text durable.opening durable.added grant file after))
