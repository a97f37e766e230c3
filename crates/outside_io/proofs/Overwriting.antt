-- What a write makes of a file.
use Rattle.std.proofs.Common.{◌≡◌, ◌⊎◌, inl, inr, ℕ, ◌+◌, ◌-◌, ◌<◌, ◌≤◌, max, min, List, ◌++◌, length, get_or}
use Rattle.std.proofs.Common.{take, drop, ◌∙◌, ap, arith, length-append, length-take, length-drop}
use Rattle.std.proofs.lemmas.List.{get_or-take, get_or-drop, get_or_append_left, get_or-append_right}
use Rattle.outside_io.specs.Disk.{overwritten}

pub length-overwritten : (file : List ℕ) (at : ℕ) (piece : List ℕ) → at ≤ length file
    → length (overwritten file at piece) ≡ max (length file) (at + length piece)
length-overwritten file at piece le = omega (
  arith,
  length-append (take at file ++ piece) (drop (at + length piece) file),
  length-append (take at file) piece,
  length-take at file,
  length-drop (at + length piece) file,
)

-- elsewhere the bytes stay
pub get_or-overwritten : (file : List ℕ) (at : ℕ) (piece : List ℕ) (k : ℕ) → (k < at) ⊎ (at + length piece ≤ k)
    → min at (k + 1) ≤ length file → get_or (overwritten file at piece) k 0 ≡ get_or file k 0
get_or-overwritten file at piece k (inl below) le =
    let front : k < length (take at file) = omega (arith, length-take at file) in
    let within = length-append (take at file) piece in
    get_or_append_left (take at file ++ piece) (drop (at + length piece) file) 0 k (omega (arith, front, within))
    ∙ get_or_append_left (take at file) piece 0 k front
    ∙ get_or-take at file k 0 below
get_or-overwritten file at piece k (inr above) le =
    let end : ℕ = at + length piece in
    let front : length (take at file ++ piece) ≡ end = omega (arith, length-append (take at file) piece, length-take at file) in
    let back : end + (k - end) ≡ k = omega arith in
    get_or-append_right (take at file ++ piece) (drop end file) end k 0 front above
    ∙ get_or-drop end file (k - end) 0 ∙ ap (λ (i : ℕ). get_or file i 0) back
