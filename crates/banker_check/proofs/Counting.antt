-- Counts of the parts on each resource.
use Rattle.std.proofs.Common.{◌≡◌, ◌≢◌, ℕ, zero, suc, ◌+◌, ◌<◌, ◌≤◌, Bool, true, false, cond, not, ◌&&◌, ◌⊎◌, List, [], ◌∷◌, ◌++◌}
use Rattle.std.proofs.Common.{length, get_or, set, get_or-set_same, get_or-set_other, length-set, replicate, filter, take, ap, refl}
use Rattle.std.proofs.Common.{sym, ⊎_elim, arith, ◌∙◌}
use Rattle.std.proofs.lemmas.Bool.{eq-eqb, ne_eqb, cases_eq}
use Rattle.std.proofs.lemmas.List.{length_push, length-replicate, length-take, append-nil}
use Rattle.std.proofs.lemmas.List.Elements.{filter_more, filter-append}
use Rattle.cell_base.specs.declared.limits.TheConstants.{MAX_RESOURCES}
use Rattle.cell_base.specs.declared.cells.Cell.{Cell}
use Rattle.cell_base.specs.declared.requests.Part.{Part}
use Rattle.cell_base.specs.Policy.{is_of_job, HaveDistinctJobs}
use Rattle.cell_base.specs.Outcomes.{without}
use Rattle.cell_base.specs.Plans.{resource_of_part}
use Rattle.policy_laws.proofs.Lists.{filter_all, All-from_Contains}
use Rattle.policy_laws.proofs.Parts.{distinct-without, distinct-push, without-others}
use Rattle.banker_check.specs.declared.held.Held.{Held}
use Rattle.banker_check.specs.Ways.{stands_on, held}
use Rattle.banker_check.specs.Counts.{AreUnitsHeld, counts_on}
use Rattle.banker_check.proofs.Within.{length-filter_most}
use Rattle.banker_check.proofs.Ordered.{held-push}

-- no part stands on a resource where there is none
pub AreHeld-none : (cell : Cell) → AreUnitsHeld cell [] (record { on = replicate MAX_RESOURCES 0; parts = 0 })
AreHeld-none cell = record {
  complete = length-replicate {A = ℕ} MAX_RESOURCES 0;
  each = λ r. zeros MAX_RESOURCES r;
  size = refl;
}
  where
    zeros : (n r : ℕ) → ◌≡◌ {A = ℕ} (get_or (replicate n 0) r 0) 0
    zeros zero r = refl
    zeros (suc n) zero = refl
    zeros (suc n) (suc r) = zeros n r

-- one part more
pub AreHeld-push : (cell : Cell) (parts : List Part) (part : Part) (counts : Held) → resource_of_part cell part < MAX_RESOURCES
    → AreUnitsHeld cell parts counts
    → AreUnitsHeld cell (parts ++ part ∷ [])
    (record {
      on = set counts.on (resource_of_part cell part) (get_or counts.on
          (resource_of_part cell part) 0 + 1);
      parts = counts.parts + 1;
    })
AreHeld-push cell parts part counts within are = record {
  complete = length-set _ _ _ ∙ are.complete;
  each = λ r. at r (cases_eq r (resource_of_part cell part));
  size = omega (arith, are.size, length_push parts part);
}
  where
    at : (r : ℕ) → (r ≡ resource_of_part cell part) ⊎ (r ≢ resource_of_part cell part)
        → get_or (set counts.on (resource_of_part cell part) (get_or counts.on (resource_of_part cell part) 0 + 1)) r 0
        ≡ held cell (parts ++ part ∷ []) r
    at r cases =
        ⊎_elim
        (λ (here : r ≡ resource_of_part cell part).
        let more : get_or (set counts.on (resource_of_part cell part) (get_or counts.on (resource_of_part cell part) 0 + 1)) r 0
        ≡ get_or counts.on (resource_of_part cell part) 0 + 1 =
        rw here (get_or-set_same counts.on (resource_of_part cell part) (get_or counts.on (resource_of_part cell part) 0 + 1) 0
        (omega (arith, within, are.complete))) in
        let was : get_or counts.on (resource_of_part cell part) 0 ≡ held cell parts r = ap (λ q. get_or counts.on q 0) (sym here)
        ∙ are.each r in
        omega (
          arith,
          more,
          was,
          held-push cell parts part r,
          ap (λ b. cond {A = ℕ} b 1 0)
              (eq-eqb (resource_of_part cell part) r (sym here)),
        ))
        (λ (other : r ≢ resource_of_part cell part).
        let same : get_or (set counts.on (resource_of_part cell part) (get_or counts.on (resource_of_part cell part) 0 + 1)) r 0
        ≡ get_or counts.on r 0 =
        get_or-set_other counts.on (resource_of_part cell part) r _ 0 other in
        omega (
          arith,
          same,
          are.each r,
          held-push cell parts part r,
          ap (λ b. cond {A = ℕ} b 1 0) (ne_eqb (resource_of_part cell part) r (λ e. other (sym e))),
        ))
        cases

-- what a filter keeps of one element more
module _ (q : Part → Bool) (parts : List Part) (i : ℕ) (part : Part) (within : i < length parts) (at : part ≡ get_or parts i part) where
  pub filter-kept_more : q part ≡ true → filter q (take (i + 1) parts) ≡ filter q (take i parts) ++ part ∷ []
  filter-kept_more e =
      filter_more q parts i part within
      ∙ ap (λ (x : Part). filter q (take i parts) ++ cond (q x) (x ∷ []) []) (sym at)
      ∙ ap (λ b. filter q (take i parts) ++ cond b (part ∷ []) []) e

  pub filter-dropped_more : q part ≡ false → filter q (take (i + 1) parts) ≡ filter q (take i parts)
  filter-dropped_more e =
      filter_more q parts i part within
      ∙ ap (λ (x : Part). filter q (take i parts) ++ cond (q x) (x ∷ []) []) (sym at)
      ∙ ap (λ b. filter q (take i parts) ++ cond b (part ∷ []) []) e
      ∙ append-nil (filter q (take i parts))

-- no resource holds more of them than there are parts
pub held-few : (cell : Cell) (q : Part → Bool) (parts : List Part) (i r : ℕ) → held cell (filter q (take i parts)) r ≤ length parts
held-few cell q parts i r =
    omega (
      arith,
      length-filter_most (stands_on cell r) (filter q (take i parts)),
      length-filter_most q (take i parts),
      length-take i parts,
    )

-- two filters, one after the other
filter-filter : (p q : Part → Bool) (xs : List Part) → filter q (filter p xs) ≡ filter (λ x. p x && q x) xs
filter-filter p q [] = refl
filter-filter p q (x ∷ xs) = grind (arith, filter-filter p q xs)

-- what a filter keeps where a part comes in the place of its job's present one
module _ (q : Part → Bool) (parts : List Part) (last : Part) where
  abbrev other : Part → Bool
  other part = not (is_of_job last.job part)

  parted : filter q (without parts last.job ++ last ∷ []) ≡ filter (λ part. other part && q part) parts ++ cond (q last) (last ∷ []) []
  parted =
      filter-append q (filter other parts) (last ∷ [])
      ∙ ap (λ rest. rest ++ cond (q last) (last ∷ []) []) (filter-filter other q parts)

  pub filter-in_place_kept : q last ≡ true
      → filter q (without parts last.job ++ last ∷ []) ≡ filter (λ part. not (is_of_job last.job part) && q part) parts ++ last ∷ []
  filter-in_place_kept e = parted ∙ ap (λ b. filter (λ part. other part && q part) parts ++ cond b (last ∷ []) []) e

  pub filter-in_place_dropped : q last ≡ false
      → filter q (without parts last.job ++ last ∷ []) ≡ filter (λ part. not (is_of_job last.job part) && q part) parts
  filter-in_place_dropped e =
      parted ∙ ap (λ b. filter (λ part. other part && q part) parts ++ cond b (last ∷ []) []) e
      ∙ append-nil (filter (λ part. other part && q part) parts)

-- a part more at most
pub length-in_place : (parts : List Part) (last : Part) → length (without parts last.job ++ last ∷ []) ≤ length parts + 1
length-in_place parts last =
    omega (arith, length_push (without parts last.job) last, length-filter_most (λ part. not (is_of_job last.job part)) parts)

pub distinct-in_place : (parts : List Part) (last : Part) → HaveDistinctJobs parts → HaveDistinctJobs (without parts last.job ++ last ∷ [])
distinct-in_place parts last distinct =
    distinct-push (without parts last.job) last (distinct-without parts last.job distinct) (without-others parts last.job)

-- in the first round each part counts
pub held-first : (cell : Cell) (parts : List Part) (before : List ℕ) (r : ℕ)
    → held cell (filter (counts_on cell before true) parts) r ≡ held cell parts r
held-first cell parts before r =
    ap (λ ps. held cell ps r)
    (filter_all (counts_on cell before true) parts (All-from_Contains (λ part. counts_on cell before true part ≡ true) parts
    (λ part c. refl)))
