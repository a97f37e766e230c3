-- The word by which a line says why a request is refused.
use Rattle.std.specs.Prelude.{codes, ℕ, List, [], ◌∷◌, Option}
use Rattle.std.specs.List.{find}
use Rattle.std.specs.Str.{bytes_eq}
use Rattle.cell_base.specs.declared.requests.Refusal.{Refusal}
use Rattle.cell_base.specs.declared.requests.Refusal.TheVariants.{JobLoaded, NoSuchJob, NotProcessed, AtLast}
use Rattle.cell_base.specs.declared.requests.Refusal.TheVariants.{NotLast, Idle, Saturated, NoBranch}

-- the word of a refusal
abbrev pub refusal_word : Refusal → List ℕ
refusal_word JobLoaded = codes "job-loaded"
refusal_word NoSuchJob = codes "no-such-job"
refusal_word NotProcessed = codes "not-processed"
refusal_word AtLast = codes "at-last"
refusal_word NotLast = codes "not-last"
refusal_word Idle = codes "idle"
refusal_word NoBranch = codes "no-branch"
refusal_word (Saturated at count capacity) = codes "saturated"

-- the refusals after whose word nothing stands
abbrev pub plain_refusals : List Refusal
plain_refusals = JobLoaded ∷ NoSuchJob ∷ NotProcessed ∷ AtLast ∷ NotLast ∷ Idle ∷ NoBranch ∷ []

-- the one of a word
unfoldable pub plain_refusal : List ℕ → Option Refusal
plain_refusal word = find (λ why. bytes_eq word (refusal_word why)) plain_refusals
