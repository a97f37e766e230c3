-- The part of a job, found at its place.
use Rattle.std.proofs.Common.{◌≡◌, ℕ, ◌==◌, ◌<◌, Bool, true, false, ◌&&◌, List, length, map, Option, Some, None}
use Rattle.std.proofs.Common.{find, slice_get, get_or, set, ⊎_elim, subst, ap, refl, sym, arith, ◌∙◌}
use Rattle.std.specs.Option.{option_map, MatchOption}
use Rattle.std.proofs.lemmas.Bool.{eqb-true, eq-eqb, and_parts}
use Rattle.std.proofs.lemmas.Option.{same_Some, slice_get_cases}
use Rattle.cell_base.specs.declared.requests.JobId.{JobId}
use Rattle.cell_base.specs.Outcomes.{part_of}
use Rattle.part_table.specs.declared.standing.Standing.{Standing}
use Rattle.part_table.specs.declared.standing.Entry.{Entry}
use Rattle.part_table.specs.Chains.{IsFirst}
use Rattle.part_table.specs.Standings.{parts_of, is_job, finished}
use Rattle.part_table.specs.Logs.{done_entry, staying, entry_job, IsAbsent, IsPlaceOf, IsPlaceOfFirst, IsKnown}
use Rattle.part_table.proofs.Standings.{part_of-find}
use Rattle.part_table.proofs.Staying.{passes, first_staying, none_staying, staying_finished}
use Rattle.part_table.proofs.Staying.{found_by_key, passes_by_key, none_by_key}

-- an entry that stays and is of the job passes the test, and no other
passes_not : (job : JobId) (entry : Entry) → (entry.stays ≡ true → entry_job entry ≡ job.0 → ⊥) → passes (is_job job) entry ≡ false
passes_not job entry fails = at entry.stays (is_job job entry.item) refl refl
  where
    at : (a b : Bool) → entry.stays ≡ a → is_job job entry.item ≡ b → (a && b) ≡ false
    at true true stays is = absurd (fails stays (eqb-true (entry_job entry) job.0 is))
    at true false stays is = refl
    at false b stays is = refl

passes_so : (job : JobId) (entry : Entry) → entry.stays ≡ true → entry_job entry ≡ job.0 → passes (is_job job) entry ≡ true
passes_so job entry stays is = rw (stays, eq-eqb (entry_job entry) job.0 is) refl

pub part_at : (entries : List Entry) (job : JobId) (at : ℕ) (entry : Entry) → IsPlaceOf entries job at → slice_get entries at ≡ Some entry
    → Some entry.item.part ≡ part_of (parts_of (staying entries)) job
part_at entries job at entry place here =
    let same = same_Some entry place.0 (sym here ∙ place.1) in
    let found = first_staying (is_job job) entries at place.0 place.1 (passes_so job place.0 place.2 place.3)
    (λ k other less e. passes_not job other (λ stays is. absurd (omega (arith, less, place.4 k other e stays is)))) in
    ap (λ (x : Entry). Some x.item.part) same
    ∙ sym (ap (option_map (λ (item : Standing). item.part)) found)
    ∙ sym (part_of-find (staying entries) job)

pub part_absent : (entries : List Entry) (job : JobId) → IsAbsent entries job → None ≡ part_of (parts_of (staying entries)) job
part_absent entries job absent =
    sym (ap (option_map (λ (item : Standing). item.part))
    (none_staying (is_job job) entries (λ k other e. passes_not job other (absent k other e))))
    ∙ sym (part_of-find (staying entries) job)

-- an entry stands at each place
pub entry_at : (entries : List Entry) (k : ℕ) → k < length entries → (entry : Entry) × (slice_get entries k ≡ Some entry)
entry_at entries k inside =
    ⊎_elim (λ there. (there.0, there.2)) (λ past. absurd (omega (arith, past.0, inside))) (slice_get_cases entries k).1

-- where a part of the job stands, what is known of the job is its place
module _ (entries : List Entry) (places : ℕ → Option ℕ) (are : IsKnown entries places (λ k entry. k)) where
  -- and no other entry that stays is of the job
  pub only_place : (job : JobId) (at : ℕ) → places job.0 ≡ Some at → (k : ℕ) (entry : Entry) → slice_get entries k ≡ Some entry
      → entry.stays ≡ true → entry_job entry ≡ job.0 → k ≡ at
  only_place job at e k entry there stays is =
      same_Some k at (sym (subst (λ n. places n ≡ Some k) is (are k entry there stays)) ∙ e)

  pub place_staying : (at : ℕ) (entry : Entry) → slice_get entries at ≡ Some entry → entry.stays ≡ true
      → IsPlaceOf entries entry.item.part.job at
  place_staying at entry there stays =
      (entry, there, stays, refl, only_place entry.item.part.job at (are at entry there stays))

  -- the first place of a key that shows what passes is that of the first part that passes
  pub place_first : (test : Standing → Bool) (key : Entry → ℕ) (r : ℕ)
      → ((entry : Entry) → (key entry == r) ≡ passes test entry) → (o : Option ℕ)
      → MatchOption o ((k : ℕ) → k < length entries → get_or (map key entries) k 0 ≡ r → ⊥)
      (λ at. (at < length entries) × IsFirst (map key entries) (length entries) r at)
      → MatchOption o (find test (staying entries) ≡ None) (IsPlaceOfFirst test entries)
  place_first test key r shows None none = none_by_key test key r shows entries none
  place_first test key r shows (Some at) first =
      let there = entry_at entries at first.0 in
      let passed = passes_by_key test key r shows entries at there.0 first.1 there.1 in (
        there.0,
        there.1,
        found_by_key test key r shows entries at there.0 first.1 there.1,
        place_staying at there.0 there.1 (and_parts there.0.stays (test there.0.item) passed).0,
      )

-- the work on the first part is done
pub staying_first_done : (test : Standing → Bool) (entries : List Entry) (at : ℕ) (entry : Entry) → IsPlaceOfFirst test entries at
    → slice_get entries at ≡ Some entry → staying (set entries at (done_entry entry)) ≡ finished (staying entries) entry.item.part.job
staying_first_done test entries at entry (found, there, first, place) here =
    let same = same_Some found entry (sym there ∙ here) in
    let is : IsPlaceOf entries entry.item.part.job at = subst (λ (x : Entry). IsPlaceOf entries x.item.part.job at) same place in
    let stays : entry.stays ≡ true = sym (ap (λ (x : Entry). x.stays) (same_Some is.0 entry (sym is.1 ∙ here))) ∙ is.2 in
    staying_finished entries at entry entry.item.part.job here stays refl is.4
