-- Where the first part stands that passes a test, and what stands there.
use Rattle.std.proofs.Common.{◌≡◌, ℕ, zero, suc, ◌<◌, nat_lt, Bool, true, false, cond, List, [], ◌∷◌, length, get_or, set}
use Rattle.std.proofs.Common.{◌≢◌, ◌≤◌, Option, Some, None, All, refl, sym, ap, ◌∙◌, subst, arith}
use Rattle.std.specs.Prelude.{position, IfSome}
use Rattle.std.specs.List.{find, list_any, position_or_len, remove}
use Rattle.std.proofs.lemmas.Bool.{cond-true, cond-false, lt-ltb, ltb-false}
use Rattle.std.proofs.lemmas.List.Elements.{All-head, All-tail}
use Rattle.std.proofs.lemmas.List.Folds.{find_at, list_any_at, list_any_none}
use Rattle.std.proofs.lemmas.List.Quantifiers.{position-Some}
use Rattle.std.proofs.lemmas.List.Sums.{position_or_len_is}
use Rattle.std.proofs.lemmas.Option.{slice_get_past}
use Rattle.cell_base.specs.declared.requests.JobId.{JobId}
use Rattle.cell_base.specs.declared.requests.Part.{Part}
use Rattle.cell_base.specs.Policy.{HaveDistinctJobs, is_of_job}
use Rattle.cell_base.specs.Outcomes.{without, finish_first}
use Rattle.policy_laws.proofs.Lists.{All-find_none}
use Rattle.policy_laws.proofs.Parts.{distinct_after, others_after, same_job, without-other}

-- ---- any list

module _ {X : Type 0} (p : X → Bool) where
  -- the first element that passes stands here
  pub position_at : (xs : List X) (i : ℕ) (d : X) → i < length xs → p (get_or xs i d) ≡ true
      → ((k : ℕ) → k < i → p (get_or xs k d) ≡ false) → position p xs ≡ Some i
  position_at xs i d within here before =
      let first : position_or_len p xs ≡ i = position_or_len_is p xs i d (omega arith) before (λ w. here) in
      rw (first, lt-ltb i (length xs) within) refl

  -- none passes
  pub position_none : (xs : List X) (d : X) → ((k : ℕ) → k < length xs → p (get_or xs k d) ≡ false) → position p xs ≡ None
  position_none xs d none =
      let first : position_or_len p xs ≡ length xs = position_or_len_is p xs (length xs) d (omega arith) none (λ w. absurd (omega arith)) in
      rw first (ap (λ b. cond b (Some (length xs)) None) (not_less (length xs)))
    where
      not_less : (n : ℕ) → nat_lt n n ≡ false
      not_less n = grind arith

  find_first : (xs : List X) (i : ℕ) (d : X) → i < length xs → p (get_or xs i d) ≡ true
      → ((k : ℕ) → k < i → p (get_or xs k d) ≡ false) → find p xs ≡ Some (get_or xs i d)
  find_first [] i d within here before = absurd (omega arith)
  find_first (x ∷ xs) zero d within here before = cond-true (p x) _ _ here
  find_first (x ∷ xs) (suc i) d within here before =
      cond-false (p x) _ _ (before 0 (omega arith)) ∙ find_first xs i d (omega arith) here (λ k h. before (suc k) (omega arith))

  module _ (xs : List X) where
    pub found_within : (o : Option ℕ) → o ≡ position p xs → IfSome o (λ i. i < length xs)
    found_within None is = tt
    found_within (Some i) is = within xs is
      where
        within : (xs : List X) → Some i ≡ position p xs → i < length xs
        within [] is = absurd cc
        within (x ∷ xs) is = (position-Some p (x ∷ xs) i x (sym is)).0

    pub find_found : (i : ℕ) (d : X) → position p xs ≡ Some i → find p xs ≡ Some (get_or xs i d)
    find_found i d is = let at = position-Some p xs i d is in find_first xs i d at.0 at.1 at.2

    pub any_found : (i : ℕ) (d : X) → position p xs ≡ Some i → list_any p xs ≡ true
    any_found i d is = let at = position-Some p xs i d is in list_any_at p xs i d at.0 at.1

    pub find_none : position p xs ≡ None → find p xs ≡ None
    find_none is = find_at p xs ∙ slice_get_past xs (position_or_len p xs) (past_end (nat_lt (position_or_len p xs) (length xs)) refl is)
      where
        past_end : (b : Bool) → nat_lt (position_or_len p xs) (length xs) ≡ b → cond b (Some (position_or_len p xs)) None ≡ None
            → length xs ≤ position_or_len p xs
        past_end true less is = absurd cc
        past_end false past is = ltb-false _ _ past

    pub any_none : position p xs ≡ None → list_any p xs ≡ false
    any_none is = list_any_none p xs (All-find_none p xs (find_none is))

-- ---- parts

-- what stands for a part where a list has none
abbrev pub no_part : Part
no_part = record { job = record { 0 = 0 }; kind = record { 0 = 0 }; place = 0; done = false }

fails : (b : Bool) → (b ≡ true → ⊥) → b ≡ false
fails true never = absurd (never refl)
fails false never = refl

module _ (job : JobId) where
  -- the part of a job is the first one of it
  pub only_place : (parts : List Part) (i : ℕ) (d : Part) → HaveDistinctJobs parts → i < length parts
      → is_of_job job (get_or parts i d) ≡ true → position (is_of_job job) parts ≡ Some i
  only_place parts i d distinct within here = position_at (is_of_job job) parts i d within here
      (λ k less. fails _ (λ same.
      distinct k i d less within (same_job job (get_or parts k d) same ∙ sym (same_job job (get_or parts i d) here))))

  without_first : (parts : List Part) (i : ℕ) (d : Part) → HaveDistinctJobs parts → i < length parts
      → is_of_job job (get_or parts i d) ≡ true → ((k : ℕ) → k < i → is_of_job job (get_or parts k d) ≡ false)
      → without parts job ≡ remove parts i
  without_first [] i d distinct within here before = absurd (omega arith)
  without_first (part ∷ parts) zero d distinct within here before =
      rw here
      (without-other parts job
      (subst (λ (j : JobId). All (λ other. j ≢ other.job) parts) (same_job job part here) (others_after part parts distinct)))
  without_first (part ∷ parts) (suc i) d distinct within here before =
      rw (before 0 (omega arith))
      (ap (λ ps. part ∷ ps)
      (without_first parts i d (distinct_after part parts distinct) (omega arith) here (λ k h. before (suc k) (omega arith))))

  pub without_found : (parts : List Part) (i : ℕ) (d : Part) → HaveDistinctJobs parts → position (is_of_job job) parts ≡ Some i
      → without parts job ≡ remove parts i
  without_found parts i d distinct is =
      let at = position-Some (is_of_job job) parts i d is in without_first parts i d distinct at.0 at.1 at.2

finish_at : (p : Part → Bool) (parts : List Part) (i : ℕ) (d : Part) → i < length parts
    → p (get_or parts i d) ≡ true → ((k : ℕ) → k < i → p (get_or parts k d) ≡ false)
    → finish_first p parts ≡ set parts i (record (get_or parts i d) { done = true })
finish_at p [] i d within here before = absurd (omega arith)
finish_at p (part ∷ parts) zero d within here before = cond-true (p part) _ _ here
finish_at p (part ∷ parts) (suc i) d within here before =
    cond-false (p part) _ _ (before 0 (omega arith))
    ∙ ap (λ ps. part ∷ ps) (finish_at p parts i d (omega arith) here (λ k h. before (suc k) (omega arith)))

-- the work on the first part that passes
pub finish_found : (p : Part → Bool) (parts : List Part) (i : ℕ) (d : Part) → position p parts ≡ Some i
    → finish_first p parts ≡ set parts i (record (get_or parts i d) { done = true })
finish_found p parts i d is = let at = position-Some p parts i d is in finish_at p parts i d at.0 at.1 at.2

pub finish_none : (p : Part → Bool) (parts : List Part) → position p parts ≡ None → finish_first p parts ≡ parts
finish_none p parts none = none_passes parts (All-find_none p parts (find_none p parts none))
  where
    none_passes : (parts : List Part) → All (λ part. p part ≡ false) parts → finish_first p parts ≡ parts
    none_passes [] all = refl
    none_passes (part ∷ parts) all =
        cond-false (p part) _ _ (All-head (λ x. p x ≡ false) part parts all)
        ∙ ap (λ ps. part ∷ ps) (none_passes parts (All-tail (λ x. p x ≡ false) part parts all))
