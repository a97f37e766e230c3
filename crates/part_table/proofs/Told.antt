-- Parts with the resources that were told of them, where these are the ones of their stages: what is found among them, and how they change.
use Rattle.std.proofs.Common.{◌≡◌, ◌≢◌, ℕ, ◌==◌, Bool, true, false, not, ◌&&◌, cond, List, [], ◌∷◌, ◌++◌}
use Rattle.std.proofs.Common.{length, map, arith, All, Option, Some, None, find, ap, ap₂, refl, sym, ◌∙◌, subst}
use Rattle.std.specs.Option.{option_map, option_map_or, ForSome, is_some}
use Rattle.std.specs.Prelude.{MatchOption, IfSome}
use Rattle.std.proofs.lemmas.Bool.{false≢true}
use Rattle.std.proofs.lemmas.Option.{none-some, same_Some}
use Rattle.std.proofs.lemmas.List.{length-map, get_or-map, map-append}
use Rattle.std.proofs.lemmas.List.Elements.{All-head, All-tail, All-weaker, All-contains, All-push, All-filter, All-map}
use Rattle.cell_base.specs.declared.cells.Cell.{Cell}
use Rattle.cell_base.specs.declared.cells.ResId.{ResId}
use Rattle.cell_base.specs.declared.requests.JobId.{JobId}
use Rattle.cell_base.specs.declared.requests.Part.{Part}
use Rattle.cell_base.specs.Stages.{stage, stage_of, resource_at}
use Rattle.cell_base.specs.Policy.{is_of_job, HaveDistinctJobs}
use Rattle.cell_base.specs.Outcomes.{part_of, without, is_waiting_on, finish_first}
use Rattle.cell_base.specs.Plans.{resource_of_part}
use Rattle.policy_laws.proofs.Lists.{find_agree, find-Contains}
use Rattle.policy_laws.proofs.Parts.{IsOther, is_of_job-same, is_of_job-other, others_after, distinct_after, same_job}
use Rattle.part_table.specs.declared.standing.Standing.{Standing}
use Rattle.part_table.specs.Standings.{parts_of, AreOn, is_job, is_on, is_waiting, without_job, advanced, finish, finished}
use Rattle.part_table.specs.Parts.{gone_on}
use Rattle.part_table.proofs.Standings.{find-map, finish_no, parts_of-without, advanced_is, advanced_none}

-- what holds of each element that a function gives
All-unmap : {X Y : Type 0} (P : Y → Type 0) (f : X → Y) (xs : List X) → All P (map f xs) → All (λ x. P (f x)) xs
All-unmap P f xs all k d h = subst P (get_or-map f xs k d (f d) h) (all k (f d) (omega (arith, h, length-map xs f)))

-- the parts of standing ones, and one more
pub parts_of-push : (items : List Standing) (part : Part) (on : ResId)
    → parts_of (items ++ (record { part = part; on = on }) ∷ []) ≡ parts_of items ++ part ∷ []
parts_of-push items part on = map-append (λ (item : Standing). item.part) items ((record { part = part; on = on }) ∷ [])

-- a function of what is found
map_twice : (o : Option Standing) → option_map (λ (part : Part). part.job) (option_map (λ (item : Standing). item.part) o)
    ≡ option_map (λ (item : Standing). item.part.job) o
map_twice None = refl
map_twice (Some item) = refl

-- nothing is finished where no part passes
pub finish_first-none : (test : Part → Bool) (parts : List Part) → find test parts ≡ None → finish_first test parts ≡ parts
finish_first-none test [] e = refl
finish_first-none test (part ∷ parts) e = at (test part) e (finish_first-none test parts)
  where
    at : (b : Bool) → cond b (Some part) (find test parts) ≡ None → (find test parts ≡ None → finish_first test parts ≡ parts)
        → cond b ((record part { done = true }) ∷ parts) (part ∷ finish_first test parts) ≡ part ∷ parts
    at true e later = absurd (none-some part (sym e))
    at false e later = ap (λ ps. part ∷ ps) (later e)

-- parts of other jobs stay as they are
finished_others : (items : List Standing) (job : JobId) → All (IsOther job) (parts_of items) → finished items job ≡ items
finished_others [] job others = refl
finished_others (item ∷ items) job others =
    ap₂ (λ (x : Standing) (xs : List Standing). x ∷ xs)
    (finish_no job item (is_of_job-other job item.part (All-head (IsOther job) item.part (parts_of items) others)))
    (finished_others items job (All-tail (IsOther job) item.part (parts_of items) others))

-- to finish the part of a job is to finish the first part of that job
pub finished_first : (items : List Standing) (job : JobId) → HaveDistinctJobs (parts_of items)
    → parts_of (finished items job) ≡ finish_first (is_of_job job) (parts_of items)
finished_first [] job distinct = refl
finished_first (item ∷ items) job distinct =
    at (is_of_job job item.part) refl (finished_first items job (distinct_after item.part (parts_of items) distinct))
  where
    at : (b : Bool) → is_of_job job item.part ≡ b → parts_of (finished items job) ≡ finish_first (is_of_job job) (parts_of items)
        → parts_of (finished (item ∷ items) job) ≡ finish_first (is_of_job job) (parts_of (item ∷ items))
    at true here later =
        let same : item.part.job ≡ job = same_job job item.part here in
        let others : All (IsOther job) (parts_of items) =
        subst (λ (j : JobId). All (λ (other : Part). j ≢ other.job) (parts_of items)) same
        (others_after item.part (parts_of items) distinct) in
        rw here (ap (λ (xs : List Standing). (record item.part { done = true }) ∷ parts_of xs) (finished_others items job others))
    at false away later = rw away (ap (λ (ps : List Part). item.part ∷ ps) later)

-- the resource that was told of a part is the one of its stage
abbrev IsOn : Cell → Standing → Type 0
IsOn cell item = item.on.0 ≡ resource_at cell (stage_of item.part)

module _ (cell : Cell) where
  -- a test of the resource that is kept is that of the stage's resource
  waits_same : (on : ResId) (item : Standing) → item.on.0 ≡ resource_at cell (stage_of item.part)
      → is_waiting_on cell on.0 item.part ≡ is_waiting on item
  waits_same on item e = ap (λ r. not item.part.done && (r == on.0)) (sym e)

  -- the first part that waits
  pub waiting_found : (on : ResId) (items : List Standing) → AreOn cell items
      → find (is_waiting_on cell on.0) (parts_of items) ≡ option_map (λ (item : Standing). item.part) (find (is_waiting on) items)
  waiting_found on items are =
      find-map (λ (item : Standing). item.part) (is_waiting_on cell on.0) items
      ∙ ap (option_map (λ (item : Standing). item.part))
      (find_agree (λ (item : Standing). is_waiting_on cell on.0 item.part) (is_waiting on) items
      (All-weaker (IsOn cell) _ (λ item e. waits_same on item e) items are))

  -- the first part on a resource
  pub on_found : (on : ResId) (items : List Standing) → AreOn cell items
      → find (λ part. resource_of_part cell part == on.0) (parts_of items)
      ≡ option_map (λ (item : Standing). item.part) (find (is_on on) items)
  on_found on items are =
      find-map (λ (item : Standing). item.part) (λ part. resource_of_part cell part == on.0) items
      ∙ ap (option_map (λ (item : Standing). item.part))
      (find_agree (λ (item : Standing). resource_of_part cell item.part == on.0) (is_on on) items
      (All-weaker (IsOn cell) _ (λ item e. ap (λ r. r == on.0) (sym e)) items are))

  -- to finish the part of the job that is found is to finish the first that waits
  pub finished_found : (on : ResId) (items : List Standing) (found : Standing) → AreOn cell items → HaveDistinctJobs (parts_of items)
      → find (is_waiting on) items ≡ Some found
      → parts_of (finished items found.part.job) ≡ finish_first (is_waiting_on cell on.0) (parts_of items)
  finished_found on [] found are distinct e = absurd (none-some found e)
  finished_found on (item ∷ items) found are distinct e =
      at (is_waiting on item) (waits_same on item (All-head (IsOn cell) item items are)) e
      (λ f. finished_found on items found (All-tail (IsOn cell) item items are)
      (distinct_after item.part (parts_of items) distinct) f)
    where
      others : All (λ (other : Part). item.part.job ≢ other.job) (parts_of items)
      others = others_after item.part (parts_of items) distinct

      at : (b : Bool) → is_waiting_on cell on.0 item.part ≡ b → cond b (Some item) (find (is_waiting on) items) ≡ Some found
          → (find (is_waiting on) items ≡ Some found
          → parts_of (finished items found.part.job) ≡ finish_first (is_waiting_on cell on.0) (parts_of items))
          → parts_of (finished (item ∷ items) found.part.job) ≡ finish_first (is_waiting_on cell on.0) (parts_of (item ∷ items))
      at true waits f later =
          let same : item ≡ found = same_Some item found f in
          subst (λ (x : Standing). parts_of (finished (item ∷ items) x.part.job)
          ≡ finish_first (is_waiting_on cell on.0) (parts_of (item ∷ items))) same
          (rw (waits, is_of_job-same item.part.job item.part refl)
          (ap (λ (xs : List Standing). (record item.part { done = true }) ∷ parts_of xs) (finished_others items item.part.job others)))
      at false waits f later =
          let other : IsOther found.part.job item.part =
          λ same. All-contains (λ (x : Standing). item.part.job ≢ x.part.job) items found
          (All-unmap (λ (other : Part). item.part.job ≢ other.job) (λ (x : Standing). x.part) items others)
          (find-Contains (is_waiting on) items found f) (sym same) in
          rw waits
          (ap₂ (λ (x : Standing) (ps : List Part). x.part ∷ ps)
          (finish_no found.part.job item (is_of_job-other found.part.job item.part other)) (later f))

  -- where no part is there
  pub none_on : (items : List Standing) → parts_of items ≡ [] → AreOn cell items
  none_on items none k d inside =
      absurd (omega (arith, inside, length-map items (λ (item : Standing). item.part), ap length none))

  pub AreOn-push : (items : List Standing) (part : Part) (on : ResId) → AreOn cell items → on.0 ≡ resource_at cell (stage_of part)
      → AreOn cell (items ++ (record { part = part; on = on }) ∷ [])
  AreOn-push items part on are e =
      All-push (IsOn cell) items (record { part = part; on = on }) are e

  pub AreOn-without : (items : List Standing) (job : JobId) → AreOn cell items → AreOn cell (without_job items job)
  AreOn-without items job are =
      All-filter (λ item. not (is_job job item)) (IsOn cell) items are

  pub AreOn-finished : (items : List Standing) (job : JobId) → AreOn cell items → AreOn cell (finished items job)
  AreOn-finished items job are =
      All-map (IsOn cell) (finish job) items
      (All-weaker (IsOn cell)
      (λ (item : Standing). (finish job item).on.0 ≡ resource_at cell (stage_of (finish job item).part))
      (λ item e. kept item e (is_job job item)) items are)
    where
      kept : (item : Standing) → item.on.0 ≡ resource_at cell (stage_of item.part) → (b : Bool)
          → (let done : Standing = cond b (record item { part = record item.part { done = true } }) item in
          done.on.0 ≡ resource_at cell (stage_of done.part))
      kept item e true = e
      kept item e false = e

  -- the job of the first part that waits
  pub waiting_job : (on : ResId) (items : List Standing) → AreOn cell items
      → option_map (λ (item : Standing). item.part.job) (find (is_waiting on) items)
      ≡ option_map (λ (part : Part). part.job) (find (is_waiting_on cell on.0) (parts_of items))
  waiting_job on items are =
      sym (ap (option_map (λ (part : Part). part.job)) (waiting_found on items are) ∙ map_twice (find (is_waiting on) items))

  -- where the first part that waits is finished, if there is one, each keeps its resource
  pub worked : (on : ResId) (items new : List Standing) (job : Option JobId) → AreOn cell items → HaveDistinctJobs (parts_of items)
      → job ≡ option_map (λ (item : Standing). item.part.job) (find (is_waiting on) items)
      → MatchOption job (new ≡ items) (λ job. new ≡ finished items job)
      → AreOn cell new × (parts_of new ≡ finish_first (is_waiting_on cell on.0) (parts_of items))
  worked on items new job are distinct found change = at (find (is_waiting on) items) refl job found change
    where
      at : (o : Option Standing) → find (is_waiting on) items ≡ o → (job : Option JobId)
          → job ≡ option_map (λ (item : Standing). item.part.job) o
          → MatchOption job (new ≡ items) (λ job. new ≡ finished items job)
          → AreOn cell new × (parts_of new ≡ finish_first (is_waiting_on cell on.0) (parts_of items))
      at None e None f same = (
        subst (AreOn cell) (sym same) are,
        ap (λ (items : List Standing). parts_of items) same
            ∙ sym (finish_first-none (is_waiting_on cell on.0) (parts_of items)
            (waiting_found on items are ∙ ap (option_map (λ (item : Standing). item.part)) e)),
      )
      at None e (Some job) f same = absurd (none-some job (sym f))
      at (Some item) e None f same = absurd (none-some item.part.job f)
      at (Some item) e (Some job) f same =
          let is : job ≡ item.part.job = same_Some job item.part.job f in
          let now : new ≡ finished items item.part.job = same ∙ ap (finished items) is in (
            subst (AreOn cell) (sym now) (AreOn-finished items item.part.job are),
            ap (λ (items : List Standing). parts_of items) now ∙ finished_found on items item are distinct e,
          )

  -- a part that goes on has the resource of its next stage
  pub AreOn-advanced : (items : List Standing) (job : JobId) (place : ℕ) (done : Bool) (on : ResId) (part : Part) → AreOn cell items
      → part_of (parts_of items) job ≡ Some part → on.0 ≡ resource_at cell (stage part.kind.0 place)
      → AreOn cell (advanced items job place done on)
  AreOn-advanced items job place done on part are e told =
      let next : Part = record part { place = place; done = done } in
      subst (AreOn cell) (sym (advanced_is items job place done on part e))
      (AreOn-push (without_job items job) next on (AreOn-without items job are) told)

-- the parts after one of them went on
pub parts_of-advanced : (items : List Standing) (job : JobId) (place : ℕ) (done : Bool) (on : ResId)
    → parts_of (advanced items job place done on) ≡ gone_on (parts_of items) job place done
parts_of-advanced items job place done on = at (part_of (parts_of items) job) refl
  where
    at : (o : Option Part) → part_of (parts_of items) job ≡ o
        → parts_of (advanced items job place done on) ≡ option_map_or (λ part. without (parts_of items) job
        ++ (record part { place = place; done = done }) ∷ []) o (parts_of items)
    at None e = ap (λ (items : List Standing). parts_of items) (sym (advanced_none items job place done on e))
    at (Some part) e =
        let next : Part = record part { place = place; done = done } in
        ap (λ (items : List Standing). parts_of items) (advanced_is items job place done on part e)
        ∙ parts_of-push (without_job items job) next on
        ∙ ap (λ (parts : List Part). parts ++ next ∷ []) (parts_of-without items job)

-- the job of the first part that waits, where the table was told of the cell that is asked for
pub waiting_told : (told : Option Cell) (cell : Cell) (on : ResId) (items : List Standing) → is_some told ≡ true
    → IfSome told (λ other. other ≡ cell) → ForSome told (λ other. AreOn other items)
    → option_map (λ (item : Standing). item.part.job) (find (is_waiting on) items)
    ≡ option_map (λ (part : Part). part.job) (find (is_waiting_on cell on.0) (parts_of items))
waiting_told None cell on items told same are = absurd (false≢true told)
waiting_told (Some other) cell on items told same are =
    waiting_job other on items (are other refl)
    ∙ ap (λ (cell : Cell). option_map (λ (part : Part). part.job) (find (is_waiting_on cell on.0) (parts_of items))) same
