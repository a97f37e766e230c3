-- What is known of the part of a job, and of the replies to what it asks for.
use Rattle.std.proofs.Common.{◌≡◌, ℕ, ◌<◌, Bool, true, false, not, ◌&&◌, List, length, Contains}
use Rattle.std.proofs.Common.{Option, Some, None, find, ap, refl, sym, ◌∙◌, arith}
use Rattle.std.specs.List.{list_any, range_with_len}
use Rattle.std.specs.Option.{option_map, option_map_or, is_some}
use Rattle.std.proofs.lemmas.Bool.{true≢false}
use Rattle.std.proofs.lemmas.Option.{none-some, same_Some}
use Rattle.std.proofs.lemmas.List.FromFn.{length-range_with_len, get_or-range_with_len}
use Rattle.cell_base.specs.declared.cells.Cell.{Cell}
use Rattle.cell_base.specs.declared.cells.ResId.{ResId}
use Rattle.cell_base.specs.declared.requests.JobId.{JobId}
use Rattle.cell_base.specs.declared.requests.Part.{Part}
use Rattle.cell_base.specs.declared.requests.Refusal.TheVariants.{Saturated}
use Rattle.cell_base.specs.declared.requests.Reply.TheVariants.{Granted}
use Rattle.cell_base.specs.Masks.{has_bit}
use Rattle.cell_base.specs.Stages.{IsStage, stage_of, capacity_of}
use Rattle.cell_base.specs.Neighborhoods.{count}
use Rattle.cell_base.specs.Policy.{is_of_job, is_loaded, first_over, IsAdmitted}
use Rattle.cell_base.specs.Outcomes.{part_of, refuse, admit}
use Rattle.cell_base.specs.Plans.{next_part, step_of}
use Rattle.cell_base.specs.Fits.{CellFits}
use Rattle.policy_laws.specs.Laws.{Advances}
use Rattle.policy_laws.proofs.Plans.{plan_law}
use Rattle.policy_laws.proofs.Lists.{find-Contains, find_passes, list_any-Contains, list_any-found, find_some, All-found}
use Rattle.policy_laws.proofs.Parts.{part_of-found, is_of_job-same}
use Rattle.neighborhood_counts.specs.Counts.{Counted, first_full, is_full}
use Rattle.admission_core.specs.Replies.{reply_at}

-- a part that is found is of its job, stands in the state, and at a stage
pub record IsPartOf (cell : Cell) (parts : List Part) (job : JobId) (part : Part) : Type 0 where
  pub stands : Contains parts part
  pub of : part.job ≡ job
  pub stage : IsStage cell (stage_of part)
  pub loaded : is_loaded parts job ≡ true

pub part_known : (cell : Cell) (parts : List Part) (wanted : JobId) (part : Part) → IsAdmitted cell parts → part_of parts wanted ≡ Some part
    → IsPartOf cell parts wanted part
part_known cell parts wanted part admitted e =
    let found = part_of-found parts wanted part e in
    record {
      stands = found.0;
      of = found.1;
      stage = All-found (λ part. IsStage cell (stage_of part)) (is_of_job wanted) parts part admitted.state.standing e;
      loaded = list_any-Contains (is_of_job wanted) parts part found.0 (find_passes (is_of_job wanted) parts part e);
    }

-- the part that the plan brings on stands in the state, and at a stage
pub next_known : (cell : Cell) (parts : List Part) (part : Part) → IsAdmitted cell parts → next_part cell parts ≡ Some part
    → IsPartOf cell parts part.job part
next_known cell parts part admitted e =
    let stands = find-Contains _ parts part e in
    record {
      stands = stands;
      of = refl;
      stage = All-found (λ part. IsStage cell (stage_of part)) _ parts part admitted.state.standing e;
      loaded = list_any-Contains (is_of_job part.job) parts part stands (is_of_job-same part.job part refl);
    }

-- and its step is granted
pub next_advances : (cell : Cell) (parts : List Part) (part : Part) → CellFits cell → IsAdmitted cell parts
    → next_part cell parts ≡ Some part → Advances cell parts (step_of cell part)
next_advances cell parts part fits admitted e =
    (plan_law cell fits parts admitted).step (step_of cell part) (ap (option_map (step_of cell)) e)

-- the reply to what is admitted or not
pub admit_reply : (cell : Cell) (parts next : List Part) → (admit cell parts next).0 ≡ reply_at cell parts (first_over cell next)
admit_reply cell parts next = at (first_over cell next)
  where
    at : (o : Option ℕ)
        → (option_map_or (λ r. refuse (Saturated (record { 0 = r }) (count cell parts r) (capacity_of cell r)) parts) o (Granted, next)).0
        ≡ reply_at cell parts o
    at None = refl
    at (Some r) = refl

-- what is no element is none
pub none_left : {X : Type 0} (o : Option X) → ((x : X) → o ≡ Some x → ⊥) → o ≡ None
none_left None away = refl
none_left (Some x) away = absurd (away x refl)

pub none_flagged : {X : Type 0} (o : Option X) (b : Bool) → is_some o ≡ not b → b ≡ true → o ≡ None
none_flagged None b e f = refl
none_flagged (Some x) b e f = absurd (true≢false (e ∙ ap not f))

-- what a number is mapped to
pub some_resource : (o : Option ℕ) (at : ResId) → Some at ≡ option_map (λ r. let q : ResId = record { 0 = r } in q) o → o ≡ Some at.0
some_resource None at e = absurd (none-some at (sym e))
some_resource (Some r) at e = ap (λ (q : ResId). Some q.0) (sym (same_Some at (record { 0 = r }) e))

pub no_resource : (o : Option ℕ) → None ≡ option_map (λ r. let q : ResId = record { 0 = r } in q) o → o ≡ None
no_resource None e = refl
no_resource (Some r) e = absurd (none-some _ e)

-- a full neighborhood is that of a resource
pub full_within : (held : Counted) (mask r : ℕ) → first_full held mask ≡ Some r → r < length held.counts
full_within held mask r e =
    let n = length held.counts in
    let c = find-Contains (λ r. has_bit mask r && is_full held r) (range_with_len 0 n) r e in
    let within : c.0 < n = omega (arith, c.1, length-range_with_len 0 n) in
    omega (arith, get_or-range_with_len 0 n c.0 r within, c.2)

-- the job of what is found
pub some_job : (o : Option Part) (job : JobId) → Some job ≡ option_map (λ (part : Part). part.job) o → (part : Part) × (o ≡ Some part)
some_job None job e = absurd (none-some job (sym e))
some_job (Some part) job e = (part, refl)

pub no_job : (o : Option Part) → None ≡ option_map (λ (part : Part). part.job) o → o ≡ None
no_job None e = refl
no_job (Some part) e = absurd (none-some part.job e)

-- some part passes exactly where one is found
pub any_found : {X : Type 0} (test : X → Bool) (xs : List X) (x : X) → find test xs ≡ Some x → list_any test xs ≡ true
any_found test xs x e = list_any-Contains test xs x (find-Contains test xs x e) (find_passes test xs x e)

pub none_found : {X : Type 0} (test : X → Bool) (xs : List X) → find test xs ≡ None → list_any test xs ≡ false
none_found test xs e = at (list_any test xs) refl
  where
    at : (b : Bool) → list_any test xs ≡ b → b ≡ false
    at true any =
        let found = list_any-found test xs any in
        let some = find_some test xs found.0 found.1 found.2 in
        absurd (none-some some.0 (sym e ∙ some.1))
    at false any = refl

pub not_any : {X : Type 0} (test : X → Bool) (xs : List X) → list_any test xs ≡ false → find test xs ≡ None
not_any test xs e = at (find test xs) refl
  where
    at : (o : Option _) → find test xs ≡ o → o ≡ None
    at None is = refl
    at (Some x) is = absurd (cc (any_found test xs x is, e))
