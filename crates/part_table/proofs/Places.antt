-- The places of jobs in a log, as entries come and change.
use Rattle.std.proofs.Common.{◌≡◌, ◌≢◌, ℕ, zero, suc, ◌⊎◌, Bool, true, false, cond, List, [], ◌∷◌, ◌++◌, length}
use Rattle.std.proofs.Common.{Option, Some, slice_get, filter, set, take, subst, refl, sym, ap, arith, ◌∙◌, ⊎_elim, inl, inr, nat_eq}
use Rattle.std.proofs.lemmas.Bool.{eqb-true, eq-eqb, ne_eqb}
use Rattle.std.proofs.lemmas.Option.{none-some, same_Some}
use Rattle.part_table.specs.declared.standing.Standing.{Standing}
use Rattle.part_table.specs.declared.standing.Entry.{Entry}
use Rattle.part_table.specs.Logs.{entry_job, IsAbsent, IsKnown}

module _ {X : Type 0} where
  -- what stands in a list with one more at its end
  pub get_in_push : (xs : List X) (y x : X) (k : ℕ) → slice_get (xs ++ y ∷ []) k ≡ Some x
      → (slice_get xs k ≡ Some x) ⊎ ((k ≡ length xs) × (y ≡ x))
  get_in_push [] y x zero e = inr (refl, same_Some y x e)
  get_in_push [] y x (suc k) e = absurd (none-some x e)
  get_in_push (z ∷ xs) y x zero e = inl e
  get_in_push (z ∷ xs) y x (suc k) e =
      ⊎_elim (λ there. inl there) (λ last. inr (omega (arith, last.0), last.1)) (get_in_push xs y x k e)

  -- what stands in a list after a write
  pub get_in_set : (xs : List X) (i k : ℕ) (y x : X) → slice_get (set xs i y) k ≡ Some x
      → ((k ≡ i) × (y ≡ x)) ⊎ (k ≢ i × (slice_get xs k ≡ Some x))
  get_in_set [] i k y x e = absurd (none-some x e)
  get_in_set (z ∷ xs) zero zero y x e = inl (refl, same_Some y x e)
  get_in_set (z ∷ xs) zero (suc k) y x e = inr (λ same. absurd (omega (arith, same)), e)
  get_in_set (z ∷ xs) (suc i) zero y x e = inr (λ same. absurd (omega (arith, same)), e)
  get_in_set (z ∷ xs) (suc i) (suc k) y x e =
      ⊎_elim (λ here. inl (omega (arith, here.0), here.1)) (λ other. inr (λ same. other.0 (omega (arith, same)), other.1))
      (get_in_set xs i k y x e)

  -- what stands in the first elements, and among those that pass a test
  pub get_in_take : (xs : List X) (i k : ℕ) (x : X) → slice_get (take i xs) k ≡ Some x → slice_get xs k ≡ Some x
  get_in_take [] zero k x e = absurd (none-some x e)
  get_in_take [] (suc i) k x e = absurd (none-some x e)
  get_in_take (z ∷ xs) zero k x e = absurd (none-some x e)
  get_in_take (z ∷ xs) (suc i) zero x e = e
  get_in_take (z ∷ xs) (suc i) (suc k) x e = get_in_take xs i k x e

  pub get_in_filter : (test : X → Bool) (xs : List X) (k : ℕ) (x : X) → slice_get (filter test xs) k ≡ Some x
      → (j : ℕ) × (slice_get xs j ≡ Some x)
  get_in_filter test [] k x e = absurd (none-some x e)
  get_in_filter test (z ∷ xs) k x e = at (test z) k e (λ n h. get_in_filter test xs n x h)
    where
      at : (b : Bool) (k : ℕ) → slice_get (cond b (z ∷ filter test xs) (filter test xs)) k ≡ Some x
          → ((n : ℕ) → slice_get (filter test xs) n ≡ Some x → (j : ℕ) × (slice_get xs j ≡ Some x))
          → (j : ℕ) × (slice_get (z ∷ xs) j ≡ Some x)
      at true zero h later = (zero, h)
      at true (suc k) h later = let there = later k h in (suc there.0, there.1)
      at false k h later = let there = later k h in (suc there.0, there.1)

-- what is known of jobs, with one entry more
pub known_pushed : (entries : List Entry) (known next : ℕ → Option ℕ) (value : ℕ → Entry → ℕ) → IsKnown entries known value
    → (item : Standing) (slot : ℕ) → IsAbsent entries item.part.job
    → ((q : ℕ) → next q
    ≡ cond (nat_eq item.part.job.0 q) (Some (value (length entries) (record { item = item; stays = true; slot = slot }))) (known q))
    → IsKnown (entries ++ (record { item = item; stays = true; slot = slot }) ∷ []) next value
known_pushed entries known next value are item slot absent noted k entry e stays =
    ⊎_elim earlier at_end (get_in_push entries (record { item = item; stays = true; slot = slot }) entry k e)
  where
    last : Option ℕ
    last = Some (value (length entries) (record { item = item; stays = true; slot = slot }))

    earlier : slice_get entries k ≡ Some entry → next (entry_job entry) ≡ Some (value k entry)
    earlier there =
        noted (entry_job entry)
        ∙ ap (λ b. cond b (Some (value (length entries) (record { item = item; stays = true; slot = slot }))) (known (entry_job entry)))
        (ne_eqb item.part.job.0 (entry_job entry) (λ same. absent k entry there stays (sym same)))
        ∙ are k entry there stays

    at_end : (k ≡ length entries) × ((let y : Entry = record { item = item; stays = true; slot = slot } in y) ≡ entry)
        → next (entry_job entry) ≡ Some (value k entry)
    at_end h =
        subst (λ (x : Entry). next (entry_job x) ≡ Some (value k x)) h.1
        (noted item.part.job.0
        ∙ ap (λ b. cond b (Some (value (length entries) (record { item = item; stays = true; slot = slot }))) (known item.part.job.0))
        (eq-eqb item.part.job.0 item.part.job.0 refl)
        ∙ ap (λ n. Some (value n (record { item = item; stays = true; slot = slot }))) (sym h.0))

-- the same with an entry that changes, with its job, and does not stay again
pub known_changed : (entries : List Entry) (known : ℕ → Option ℕ) (value : ℕ → Entry → ℕ) → IsKnown entries known value → (i : ℕ)
    (old next : Entry) → slice_get entries i ≡ Some old → entry_job next ≡ entry_job old → (next.stays ≡ true → old.stays ≡ true)
    → value i next ≡ value i old → IsKnown (set entries i next) known value
known_changed entries known value are i old next there job stays same k entry e here =
    ⊎_elim changed (λ other. are k entry other.1 here) (get_in_set entries i k next entry e)
  where
    changed : (k ≡ i) × (next ≡ entry) → known (entry_job entry) ≡ Some (value k entry)
    changed h =
        let old_stays : old.stays ≡ true = stays (ap (λ (x : Entry). x.stays) h.1 ∙ here) in
        ap known (sym (ap entry_job h.1) ∙ job) ∙ are i old there old_stays
        ∙ ap Some (sym same ∙ ap (λ n. value n next) (sym h.0) ∙ ap (value k) h.1)

-- what is known of a job already is known again
pub known_again : (job value : ℕ) (known next : ℕ → Option ℕ) → known job ≡ Some value → ((q : ℕ) → next q ≡ known q)
    → (q : ℕ) → next q ≡ cond (nat_eq job q) (Some value) (known q)
known_again job value known next is same q = same q ∙ at (nat_eq job q) refl
  where
    at : (b : Bool) → nat_eq job q ≡ b → known q ≡ cond b (Some value) (known q)
    at true e = ap known (sym (eqb-true job q e)) ∙ is
    at false e = refl
