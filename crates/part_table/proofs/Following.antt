-- The part behind that of a job, in the order of arrival.
use Rattle.std.proofs.Common.{◌≡◌, ℕ, zero, suc, Bool, true, false, cond, List, [], ◌∷◌, map, Some, slice_get, filter, drop, ap, refl, sym, ◌∙◌, arith}
use Rattle.std.proofs.lemmas.Bool.{false≢true, eq-eqb, or_parts}
use Rattle.std.proofs.lemmas.Option.{none-some, same_Some}
use Rattle.cell_base.specs.declared.requests.JobId.{JobId}
use Rattle.cell_base.specs.declared.requests.Part.{Part}
use Rattle.cell_base.specs.Policy.{is_loaded, is_of_job}
use Rattle.part_table.specs.declared.standing.Entry.{Entry}
use Rattle.part_table.specs.Standings.{parts_of}
use Rattle.part_table.specs.Logs.{IsAbsent, IsPlaceOf, entry_job, staying}
use Rattle.part_table.proofs.Staying.{is_staying, item_of, not_loaded_from_absent}

-- no part of a job is at any index, where none is there
pub nowhere : (parts : List Part) (job : JobId) → is_loaded parts job ≡ false → (i : ℕ) (part : Part) → slice_get parts i ≡ Some part
    → part.job ≡ job → ⊥
nowhere [] job none i part here own = none-some part here
nowhere (p ∷ ps) job none zero part here own =
    let split = or_parts (is_of_job job p) (is_loaded ps job) none in
    false≢true (sym split.0 ∙ eq-eqb p.job.0 job.0 (ap (λ (q : Part). q.job.0) (same_Some p part here) ∙ ap (λ (j : JobId). j.0) own))
nowhere (p ∷ ps) job none (suc i) part here own =
    nowhere ps job (or_parts (is_of_job job p) (is_loaded ps job) none).1 i part here own

-- the same of a log in which no entry that stays is of the job
pub absent-nowhere : (entries : List Entry) (job : JobId) → IsAbsent entries job → (i : ℕ) (part : Part)
    → slice_get (parts_of (staying entries)) i ≡ Some part → part.job ≡ job → ⊥
absent-nowhere entries job absent = nowhere (parts_of (staying entries)) job (not_loaded_from_absent entries job absent)

-- Behind the place of a job's entry the first that stays is that of the part behind the job's.
pub follows : (entries : List Entry) (job : JobId) (at : ℕ) → IsPlaceOf entries job at → (i : ℕ) (part : Part)
    → slice_get (parts_of (staying entries)) i ≡ Some part → part.job ≡ job
    → slice_get (staying (drop (suc at) entries)) 0 ≡ slice_get (staying entries) (suc i)
follows [] job at place i part here own = absurd (none-some place.0 place.1)
follows (y ∷ ys) job zero place i part here own =
    at y.stays (ap is_staying (same_Some y place.0 place.1) ∙ place.2) i here
  where
    at : (a : Bool) → a ≡ true → (n : ℕ)
        → slice_get (parts_of (map item_of (cond a (y ∷ filter is_staying ys) (filter is_staying ys)))) n ≡ Some part
        → slice_get (staying ys) 0 ≡ slice_get (map item_of (cond a (y ∷ filter is_staying ys) (filter is_staying ys))) (suc n)
    at false e n h = absurd (false≢true e)
    at true e zero h = refl
    at true e (suc n) h =
        absurd (absent-nowhere ys job (λ k entry e stays_too same. omega (arith, place.4 (suc k) entry e stays_too same)) n part h own)
follows (y ∷ ys) job (suc at) place i part here own = by y.stays refl i here (follows ys job at behind)
  where
    behind : IsPlaceOf ys job at
    behind = (
      place.0,
      place.1,
      place.2,
      place.3,
      λ k entry e stays same. let h = place.4 (suc k) entry e stays same in omega (arith, h),
    )

    by : (a : Bool) → y.stays ≡ a → (n : ℕ)
        → slice_get (parts_of (map item_of (cond a (y ∷ filter is_staying ys) (filter is_staying ys)))) n ≡ Some part
        → ((m : ℕ) (q : Part) → slice_get (parts_of (staying ys)) m ≡ Some q → q.job ≡ job
        → slice_get (staying (drop (suc at) ys)) 0 ≡ slice_get (staying ys) (suc m))
        → slice_get (staying (drop (suc at) ys)) 0 ≡ slice_get (map item_of (cond a (y ∷ filter is_staying ys) (filter is_staying ys))) (suc n)
    by false gone n h later = later n part h own
    by true stays zero h later =
        let same : entry_job y ≡ job.0 = ap (λ (q : Part). q.job.0) (same_Some y.item.part part h) ∙ ap (λ (j : JobId). j.0) own in
        let first = place.4 0 y refl stays same in
        absurd (omega (arith, first))
    by true stays (suc n) h later = later n part h own
