-- Parts as they stand: of different jobs, one more, one less, one that is done.
use Rattle.std.proofs.Common.{◌≡◌, ◌≢◌, ℕ, ◌+◌, Bool, true, false, cond, not, List, [], ◌∷◌, ◌++◌, length, map}
use Rattle.std.proofs.Common.{All, Option, Some, None, find, filter, sum_by, ap, refl, sym, subst, arith, ◌∙◌}
use Rattle.std.specs.Option.{option_map, option_map_or}
use Rattle.std.proofs.lemmas.Option.{none-some, same_Some}
use Rattle.std.proofs.lemmas.List.{map-append, length-map}
use Rattle.std.proofs.lemmas.List.Elements.{All-cons, All-head, All-tail}
use Rattle.std.proofs.lemmas.List.Kept.{AllPairs-cons}
use Rattle.std.proofs.lemmas.List.Sums.{sum_by-cons}
use Rattle.cell_base.proofs.Pairs.{pairs_head, pairs_tail}
use Rattle.policy_laws.proofs.Lists.{list_any-found}
use Rattle.cell_base.specs.declared.cells.ResId.{ResId}
use Rattle.cell_base.specs.declared.requests.JobId.{JobId}
use Rattle.cell_base.specs.declared.requests.Part.{Part}
use Rattle.cell_base.specs.Policy.{is_of_job, is_loaded, HaveDistinctJobs}
use Rattle.cell_base.specs.Outcomes.{part_of, without, finish_first}
use Rattle.cell_base.proofs.Admission.{others_from_not_loaded, not_loaded_from_others}
use Rattle.policy_laws.proofs.Parts.{distinct-push, distinct-without, without-others, sum_by-without, sum_by-finish_first_same, same_job}
use Rattle.part_table.specs.declared.standing.Standing.{Standing}
use Rattle.part_table.specs.Standings.{parts_of, is_job, without_job, advanced, finish, finished}

-- the first that passes, and the ones that pass, among what a function gives
pub find-map : {X Y : Type 0} (f : X → Y) (p : Y → Bool) (xs : List X) → find p (map f xs) ≡ option_map f (find (λ x. p (f x)) xs)
find-map f p [] = refl
find-map f p (x ∷ xs) = at (p (f x)) (find-map f p xs)
  where
    at : (b : Bool) → find p (map f xs) ≡ option_map f (find (λ x. p (f x)) xs)
        → cond b (Some (f x)) (find p (map f xs)) ≡ option_map f (cond b (Some x) (find (λ x. p (f x)) xs))
    at true later = refl
    at false later = later

pub filter-map : {X Y : Type 0} (f : X → Y) (p : Y → Bool) (xs : List X) → filter p (map f xs) ≡ map f (filter (λ x. p (f x)) xs)
filter-map f p [] = refl
filter-map f p (x ∷ xs) = at (p (f x)) (filter-map f p xs)
  where
    at : (b : Bool) → filter p (map f xs) ≡ map f (filter (λ x. p (f x)) xs)
        → cond b (f x ∷ filter p (map f xs)) (filter p (map f xs)) ≡ map f
        (cond b (x ∷ filter (λ x. p (f x)) xs) (filter (λ x. p (f x)) xs))
    at true later = ap (λ rest. f x ∷ rest) later
    at false later = later

pub parts_of-without : (items : List Standing) (job : JobId) → parts_of (without_job items job) ≡ without (parts_of items) job
parts_of-without items job = sym (filter-map (λ (item : Standing). item.part) (λ part. not (is_of_job job part)) items)

pub part_of-find : (items : List Standing) (job : JobId)
    → part_of (parts_of items) job ≡ option_map (λ (item : Standing). item.part) (find (is_job job) items)
part_of-find items job = find-map (λ (item : Standing). item.part) (is_of_job job) items

-- one part more
pub distinct_arrived : (items : List Standing) (part : Part) (on : ResId) → HaveDistinctJobs (parts_of items)
    → is_loaded (parts_of items) part.job ≡ false → HaveDistinctJobs (parts_of (items ++ (record { part = part; on = on }) ∷ []))
distinct_arrived items part on distinct absent =
    rw map-append (distinct-push (parts_of items) part distinct (others_from_not_loaded (parts_of items) part.job absent))

-- one part less
pub distinct_departed : (items : List Standing) (job : JobId) → HaveDistinctJobs (parts_of items)
    → HaveDistinctJobs (parts_of (without_job items job))
distinct_departed items job distinct = rw (parts_of-without items job) (distinct-without (parts_of items) job distinct)

pub absent_departed : (items : List Standing) (job : JobId) → is_loaded (parts_of (without_job items job)) job ≡ false
absent_departed items job =
    rw (parts_of-without items job) (not_loaded_from_others (without (parts_of items) job) job (without-others (parts_of items) job))

-- the part of a job that goes on
pub advanced_is : (items : List Standing) (job : JobId) (place : ℕ) (done : Bool) (on : ResId) (part : Part)
    → part_of (parts_of items) job ≡ Some part
    → advanced items job place done on ≡
    without_job items job ++ (record { part = record part { place = place; done = done }; on = on }) ∷ []
advanced_is items job place done on part e = at (find (is_job job) items) (sym (part_of-find items job) ∙ e)
  where
    at : (found : Option Standing) → option_map (λ (item : Standing). item.part) found ≡ Some part
        → option_map_or (λ (item : Standing). without_job items job ++ (record {
          part =
              record item.part { place = place; done = done };
          on = on;
        }) ∷ []) found items
        ≡ without_job items job ++ (record { part = record part { place = place; done = done }; on = on }) ∷ []
    at None h = absurd (none-some part h)
    at (Some item) h =
        ap (λ (p : Part). let last : Standing = record { part = record p { place = place; done = done }; on = on } in
        without_job items job ++ last ∷ [])
        (same_Some item.part part h)

pub advanced_none : (items : List Standing) (job : JobId) (place : ℕ) (done : Bool) (on : ResId) → part_of (parts_of items) job ≡ None
    → items ≡ advanced items job place done on
advanced_none items job place done on e = at (find (is_job job) items) (sym (part_of-find items job) ∙ e)
  where
    at : (found : Option Standing) → option_map (λ (item : Standing). item.part) found ≡ None
        → items ≡ option_map_or
        (λ (item : Standing). without_job items job ++ (record {
          part = record item.part { place = place; done = done };
          on =
              on;
        }) ∷ []) found items
    at None h = refl
    at (Some item) h = absurd (none-some item.part (sym h))

-- a part that is done is of its job
finish-job : (job : JobId) (item : Standing) → (finish job item).part.job ≡ item.part.job
finish-job job item = at (is_job job item)
  where
    at : (b : Bool) → (let done : Standing = record item { part = record item.part { done = true } } in (cond b done item).part.job) ≡
        item.part.job
    at true = refl
    at false = refl

-- a part of another job stays as it is
pub finish_no : (job : JobId) (item : Standing) → is_job job item ≡ false → finish job item ≡ item
finish_no job item e = rw e refl

All_finished : (P : JobId → Type 0) (items : List Standing) (job : JobId) → All (λ (part : Part). P part.job) (parts_of items)
    → All (λ (part : Part). P part.job) (parts_of (finished items job))
All_finished P [] job all = all
All_finished P (item ∷ items) job all =
    All-cons (λ (part : Part). P part.job) (finish job item).part (parts_of (finished items job))
    (subst P (sym (finish-job job item)) (All-head (λ (part : Part). P part.job) item.part (parts_of items) all))
    (All_finished P items job (All-tail (λ (part : Part). P part.job) item.part (parts_of items) all))

pub distinct_finished : (items : List Standing) (job : JobId) → HaveDistinctJobs (parts_of items)
    → HaveDistinctJobs (parts_of (finished items job))
distinct_finished [] job distinct = distinct
distinct_finished (item ∷ items) job distinct =
    AllPairs-cons (λ (a b : Part). a.job ≢ b.job) (finish job item).part (parts_of (finished items job))
    (subst (λ (j : JobId). All (λ (other : Part). j ≢ other.job) (parts_of (finished items job))) (sym (finish-job job item))
    (All_finished (λ (j : JobId). item.part.job ≢ j) items job
    (pairs_head (λ (a b : Part). a.job ≢ b.job) item.part (parts_of items) distinct)))
    (distinct_finished items job (pairs_tail (λ (a b : Part). a.job ≢ b.job) item.part (parts_of items) distinct))

sum-length : (parts : List Part) → sum_by (λ (part : Part). 1) parts ≡ length parts
sum-length [] = refl
sum-length (part ∷ parts) = omega (arith, sum-length parts, sum_by-cons (λ (part : Part). 1) part parts)

-- one part less, by number
pub length-without : (parts : List Part) (job : JobId) → HaveDistinctJobs parts → is_loaded parts job ≡ true
    → length (without parts job) + 1 ≡ length parts
length-without parts job distinct present =
    let found = list_any-found (is_of_job job) parts present in
    let less = sum_by-without (λ (part : Part). 1) parts found.0 distinct found.1 in
    let without_it : length (without parts found.0.job) + 1 ≡ length parts =
    omega (arith, less, sum-length parts, sum-length (without parts found.0.job)) in
    subst (λ (j : JobId). length (without parts j) + 1 ≡ length parts) (same_job job found.0 found.2) without_it

pub length_departed : (items : List Standing) (job : JobId) → HaveDistinctJobs (parts_of items) → is_loaded (parts_of items) job ≡ true
    → length (without_job items job) + 1 ≡ length items
length_departed items job distinct present =
    let of_items : length (parts_of items) ≡ length items = length-map items (λ (item : Standing). item.part) in
    let of_rest : length (parts_of (without_job items job)) ≡ length (without_job items job) =
    length-map (without_job items job) (λ (item : Standing). item.part) in
    omega (
      arith,
      length-without (parts_of items) job distinct present,
      of_items,
      of_rest,
      ap length (parts_of-without items job),
    )

-- as many parts, where one is done
pub length-finish_first : (test : Part → Bool) (parts : List Part) → length (finish_first test parts) ≡ length parts
length-finish_first test parts =
    sym (sum-length (finish_first test parts)) ∙ sum_by-finish_first_same (λ (part : Part). 1) test parts (λ part. refl) ∙ sum-length parts
