-- What was given and put, with what a crash may leave, at each moment.
use Rattle.std.specs.Prelude.{◌≡◌, ◌⊎◌, ℕ, ◌<◌, List, [], ◌∷◌, ◌++◌, length, take, Option, Some}
use Rattle.std.specs.List.{concat}
use Rattle.std.specs.Io.KnownBytes.{Appends}

-- The bytes that were given and put by a moment, and a file that a crash then may leave.
pub record Moment : Type 0 where
  pub given : List ℕ
  pub put : List ℕ
  pub image : List ℕ

-- these bytes were given and put by then
abbrev pub IsAt : Option (List ℕ) → Option (List ℕ) → Moment → Type 0
IsAt given taken at = (given ≡ Some at.given) × (taken ≡ Some at.put)

-- It is a moment until now: one until the last put or read, or one since.
abbrev pub IsMoment : {D S : Type 0} → (D → ℕ → List ℕ → Type 0) → (S → Option (List ℕ)) → (S → Option (List ℕ)) → (S → ℕ)
    → (S → Moment → Type 0) → S → D → Moment → Type 0
IsMoment left_since given taken since past peer disk at =
    past peer at ⊎ (IsAt (given peer) (taken peer) at × left_since disk (since peer) at.image)

-- These bytes lie between those of before and those of after.
abbrev pub IsWithin : Option (List ℕ) → List ℕ → Option (List ℕ) → Type 0
IsWithin before bytes after = (front : List ℕ) × (rest : List ℕ) × Appends before (Some bytes) front × Appends (Some bytes) after rest

-- It is a moment of one put: what was put by then lies between what was taken before and after, and the disk rests.
abbrev pub IsDuringPut : {D : Type 0} → (D → List ℕ → Type 0) → Option (List ℕ) → Option (List ℕ) → Option (List ℕ) → D → Moment
    → Type 0
IsDuringPut may_leave given before after disk at = (given ≡ Some at.given) × IsWithin before at.put after × may_leave disk at.image

-- It is a moment of one read: what was given by then lies between what was given before and after, and the disk rests.
abbrev pub IsDuringRead : {D : Type 0} → (D → List ℕ → Type 0) → Option (List ℕ) → Option (List ℕ) → Option (List ℕ) → D → Moment
    → Type 0
IsDuringRead may_leave taken before after disk at = (taken ≡ Some at.put) × IsWithin before at.given after × may_leave disk at.image

-- ---- lines

-- what was put of the lines after those that were put whole: nothing, or a front of the next one
abbrev pub IsTorn : List (List ℕ) → List ℕ → Type 0
IsTorn [] torn = torn ≡ []
IsTorn (next ∷ rest) torn = (torn ≡ []) ⊎ ((n : ℕ) × (n < length next) × (torn ≡ take n next))

-- Lines are put after these bytes: some of them are whole, and the next may be torn.
pub record IsAmong (before : List ℕ) (lines : List (List ℕ)) (put : List ℕ) : Type 0 where
  pub whole : List (List ℕ)
  pub rest : List (List ℕ)
  pub torn : List ℕ
  pub parted : lines ≡ whole ++ rest
  pub is_torn : IsTorn rest torn
  pub put_is : put ≡ before ++ concat whole ++ torn

-- It is a moment of the puts of these lines, while nothing is read and the disk rests.
abbrev pub IsPutting : {D : Type 0} → (D → List ℕ → Type 0) → List ℕ → List ℕ → List (List ℕ) → D → Moment → Type 0
IsPutting may_leave given before lines disk at = (at.given ≡ given) × IsAmong before lines at.put × may_leave disk at.image
