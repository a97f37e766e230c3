-- The part of a job among parts: it is of that job, and there is one exactly where the job is loaded.
use Rattle.std.proofs.Common.{◌≡◌, Bool, true, false, List, Some, None, refl, subst, sym, ◌∙◌}
use Rattle.std.proofs.lemmas.Option.{none-some}
use Rattle.cell_base.specs.declared.requests.JobId.{JobId}
use Rattle.cell_base.specs.declared.requests.Part.{Part}
use Rattle.cell_base.specs.Policy.{is_of_job, is_loaded}
use Rattle.cell_base.specs.Outcomes.{part_of}
use Rattle.policy_laws.proofs.Lists.{list_any-Contains, list_any-found, find_passes, find_some}
use Rattle.policy_laws.proofs.Parts.{part_of-found}

-- the part that is found of a job is that of its own job
pub found_of_job : (parts : List Part) (job : JobId) (part : Part) → part_of parts job ≡ Some part → part_of parts part.job ≡ Some part
found_of_job parts job part e =
    subst (λ (j : JobId). part_of parts j ≡ Some part) (sym (part_of-found parts job part e).1) e

-- and its job is loaded
pub found_loaded : (parts : List Part) (job : JobId) (part : Part) → part_of parts job ≡ Some part → is_loaded parts job ≡ true
found_loaded parts job part e =
    list_any-Contains (is_of_job job) parts part (part_of-found parts job part e).0 (find_passes (is_of_job job) parts part e)

-- a job that no part is found of is not loaded
pub not_found : (parts : List Part) (job : JobId) → part_of parts job ≡ None → is_loaded parts job ≡ false
not_found parts job e = at (is_loaded parts job) refl
  where
    at : (b : Bool) → is_loaded parts job ≡ b → b ≡ false
    at true loaded =
        let found = list_any-found (is_of_job job) parts loaded in
        let some = find_some (is_of_job job) parts found.0 found.1 found.2 in
        absurd (none-some some.0 (sym e ∙ some.1))
    at false loaded = refl
