-- Parts of different jobs that are all among other parts: they are no more, and they hold no more.
use Rattle.std.proofs.Common.{◌≡◌, ◌≢◌, ℕ, ◌<◌, ◌≤◌, Bool, true, false, cond, not, ◌⊎◌, List, [], ◌∷◌, length, Contains, filter, ap}
use Rattle.std.proofs.Common.{refl, sym, subst, ⊎_elim, arith, ◌∙◌}
use Rattle.std.proofs.lemmas.Bool.{leb-true, le-leb, not-true, not_from_false, false_from_ne_true, both_ways}
use Rattle.std.proofs.lemmas.List.Elements.{All-contains}
use Rattle.std.proofs.lemmas.List.Kept.{AllPairs-filter}
use Rattle.std.proofs.lemmas.Option.{same_Some}
use Rattle.cell_base.specs.declared.cells.Cell.{Cell}
use Rattle.cell_base.specs.declared.requests.JobId.{JobId}
use Rattle.cell_base.specs.declared.requests.Part.{Part}
use Rattle.cell_base.specs.Stages.{capacity_of}
use Rattle.cell_base.specs.Policy.{is_of_job, HaveDistinctJobs}
use Rattle.cell_base.specs.Outcomes.{part_of, without}
use Rattle.policy_laws.proofs.Lists.{Contains-none, Contains-head, Contains-tail, Contains-cases, list_any-found, list_any-Contains}
use Rattle.policy_laws.proofs.Parts.{is_of_job-same, is_of_job-other, IsOther, others_after, distinct_after, part_of-job, part_of-found}
use Rattle.banker_check.specs.Ways.{way, stands_on, held, is_full, is_held_up}

module _ {X : Type 0} (test : X → Bool) where
  -- what a filter keeps
  pub filter-kept : (xs : List X) (x : X) → Contains (filter test xs) x → Contains xs x × (test x ≡ true)
  filter-kept [] x c = absurd (Contains-none x c)
  filter-kept (y ∷ ys) x c = at (test y) refl c (λ h. let later = filter-kept ys x h in (Contains-tail y x ys later.0, later.1))
    where
      at : (b : Bool) → test y ≡ b → Contains (cond b (y ∷ filter test ys) (filter test ys)) x
          → (Contains (filter test ys) x → Contains (y ∷ ys) x × (test x ≡ true)) → Contains (y ∷ ys) x × (test x ≡ true)
      at true e h behind =
          ⊎_elim (λ same. (subst (λ z. Contains (y ∷ ys) z) same (Contains-head y ys), subst (λ z. test z ≡ true) same e)) behind
          (Contains-cases y x (filter test ys) h)
      at false e h behind = behind h

  pub filter-keeps : (xs : List X) (x : X) → Contains xs x → test x ≡ true → Contains (filter test xs) x
  filter-keeps [] x c passes = absurd (Contains-none x c)
  filter-keeps (y ∷ ys) x c passes = at (test y) refl (Contains-cases y x ys c) (λ h. filter-keeps ys x h passes)
    where
      at : (b : Bool) → test y ≡ b → (y ≡ x) ⊎ Contains ys x → (Contains ys x → Contains (filter test ys) x)
          → Contains (cond b (y ∷ filter test ys) (filter test ys)) x
      at true e cases later =
          ⊎_elim (λ same. subst (λ z. Contains (y ∷ filter test ys) z) same (Contains-head y (filter test ys)))
          (λ h. Contains-tail y x (filter test ys) (later h)) cases
      at false e cases later = ⊎_elim (λ same. absurd (both_ways (test y) e (ap test same ∙ passes))) later cases

  pub length-filter_most : (xs : List X) → length (filter test xs) ≤ length xs
  length-filter_most [] = omega arith
  length-filter_most (x ∷ xs) = at (test x) (length-filter_most xs)
    where
      at : (b : Bool) → length (filter test xs) ≤ length xs
          → length (cond b (x ∷ filter test xs) (filter test xs)) ≤ length (x ∷ xs)
      at true later = omega (arith, later)
      at false later = omega (arith, later)

-- each of these parts is among those
abbrev pub Within : List Part → List Part → Type 0
Within parts others = (part : Part) → Contains parts part → Contains others part

pub without-kept : (parts : List Part) (job : JobId) (part : Part) → Contains (without parts job) part
    → Contains parts part × (is_of_job job part ≡ false)
without-kept parts job part c =
    let kept = filter-kept (λ other. not (is_of_job job other)) parts part c in (kept.0, not-true _ kept.1)

pub without-keeps : (parts : List Part) (job : JobId) (part : Part) → Contains parts part → is_of_job job part ≡ false
    → Contains (without parts job) part
without-keeps parts job part c other = filter-keeps (λ other. not (is_of_job job other)) parts part c (not_from_false _ other)

-- without a part that is among them they are fewer
pub without-fewer : (parts : List Part) (part : Part) → Contains parts part → length (without parts part.job) < length parts
without-fewer [] part c = absurd (Contains-none part c)
without-fewer (first ∷ parts) part c = at (is_of_job part.job first) refl (Contains-cases first part parts c) (without-fewer parts part)
  where
    at : (b : Bool) → is_of_job part.job first ≡ b → (first ≡ part) ⊎ Contains parts part
        → (Contains parts part → length (without parts part.job) < length parts)
        → length (cond (not b) (first ∷ without parts part.job) (without parts part.job)) < length (first ∷ parts)
    at true e cases later = omega (arith, length-filter_most (λ other. not (is_of_job part.job other)) parts)
    at false e cases later =
        ⊎_elim (λ same. absurd (both_ways _ e (is_of_job-same part.job first (ap (λ (p : Part). p.job) (sym same)))))
        (λ h. omega (arith, later h)) cases

pub Within-filter : (test : Part → Bool) (parts others : List Part) → Within parts others → Within (filter test parts) (filter test others)
Within-filter test parts others within part c =
    let kept = filter-kept test parts part c in filter-keeps test others part (within part kept.0) kept.1

pub distinct-filter : (test : Part → Bool) (parts : List Part) → HaveDistinctJobs parts → HaveDistinctJobs (filter test parts)
distinct-filter test parts distinct = AllPairs-filter (λ a b. a.job ≢ b.job) test parts distinct

-- a part after the first one is of another job
other_job_after : (first : Part) (parts : List Part) → HaveDistinctJobs (first ∷ parts) → (part : Part) → Contains parts part
    → is_of_job first.job part ≡ false
other_job_after first parts distinct part c =
    is_of_job-other first.job part (All-contains (IsOther first.job) parts part (others_after first parts distinct) c)

-- parts of different jobs are no more than those that they are among
pub Within-length : (parts others : List Part) → HaveDistinctJobs parts → Within parts others → length parts ≤ length others
Within-length [] others distinct within = omega arith
Within-length (first ∷ parts) others distinct within =
    let later = Within-length parts (without others first.job) (distinct_after first parts distinct)
    (λ part c. without-keeps others first.job part (within part (Contains-tail first part parts c))
    (other_job_after first parts distinct part c)) in
    omega (arith, later, without-fewer others first (within first (Contains-head first parts)))

-- without the first part, those after it are left
pub without-first : (first : Part) (parts : List Part) → HaveDistinctJobs (first ∷ parts) → Within (without (first ∷ parts) first.job) parts
without-first first parts distinct part c =
    let kept = without-kept (first ∷ parts) first.job part c in
    ⊎_elim (λ same. absurd (both_ways _ kept.1 (is_of_job-same first.job part (ap (λ (p : Part). p.job) same)))) (λ h. h)
    (Contains-cases first part parts kept.0)

-- two parts of one job are the same
pub one_of_job : (parts : List Part) (a b : Part) → HaveDistinctJobs parts → Contains parts a → Contains parts b
    → is_of_job a.job b ≡ true → a ≡ b
one_of_job parts a b distinct ca cb e =
    let job : b.job ≡ a.job = (part_of-found (b ∷ []) a.job b (rw e refl)).1 in
    same_Some a b (sym (part_of-job parts a distinct ca) ∙ ap (part_of parts) (sym job) ∙ part_of-job parts b distinct cb)

module _ (cell : Cell) (parts others : List Part) (distinct : HaveDistinctJobs parts) (within : Within parts others) where
  pub held-within : (r : ℕ) → held cell parts r ≤ held cell others r
  held-within r =
      Within-length (filter (stands_on cell r) parts) (filter (stands_on cell r) others) (distinct-filter (stands_on cell r) parts distinct)
      (Within-filter (stands_on cell r) parts others within)

  -- who is held up by some parts is held up by more parts
  pub held_up-within : (part : Part) → is_held_up cell parts part ≡ true → is_held_up cell others part ≡ true
  held_up-within part e =
      let full = list_any-found (is_full cell parts) (way cell part) e in
      list_any-Contains (is_full cell others) (way cell part) full.0 full.1
      (le-leb _ _ (omega (arith, held-within full.0, leb-true (capacity_of cell full.0) (held cell parts full.0) full.2)))

  pub free-within : (part : Part) → is_held_up cell others part ≡ false → is_held_up cell parts part ≡ false
  free-within part e = false_from_ne_true _ (λ f. both_ways _ e (held_up-within part f))
