-- The parts of a list are lines that decide nothing.
use Rattle.std.proofs.Common.{◌≡◌, ◌≤◌, ◌+◌, ℕ, Bool, true, false, cond, not, List, [], ◌∷◌, ◌++◌, length, map, take, refl, ap, ◌∙◌, arith, Some, slice_get, append-nil}
use Rattle.std.proofs.lemmas.List.{map-append, take_more, length-take}
use Rattle.std.proofs.lemmas.List.Elements.{filter-append}
use Rattle.std.proofs.lemmas.List.Filters.{length-filter_both}
use Rattle.std.proofs.lemmas.Option.{get_or_from_slice_get, slice_get_within}
use Rattle.cell_base.specs.declared.cells.Cell.{Cell}
use Rattle.cell_base.specs.declared.requests.Part.{Part}
use Rattle.cell_base.specs.declared.shifts.Grant.{Grant}
use Rattle.cell_base.specs.Histories.{grants}
use Rattle.cell_base.specs.Neighborhoods.{counted, leads}
use Rattle.cell_base.specs.Stages.{stage_of}
use Rattle.serve_command.specs.Answers.{item_line, telling_line}
use Rattle.serve_command.specs.Laws.{told_times}
use Rattle.serve_command.specs.Talks.{Lists, Telling, entries_in}
use Rattle.serve_command.proofs.Times.{times-cons}

pub entries-listed : (word : List ℕ) (parts : List Part) → entries_in (map (Lists word) parts) ≡ []
entries-listed word [] = refl
entries-listed word (part ∷ parts) = entries-listed word parts

-- they tell of no grant
pub grants-listed : (word : List ℕ) (parts : List Part) → grants 0 (entries_in (map (Lists word) parts)) ≡ []
grants-listed word parts = ap (grants 0) (entries-listed word parts)

-- none passes a test that no part of a list passes
pub times-listed : (test : Telling → Bool) → ((word : List ℕ) (part : Part) → test (Lists word part) ≡ false) → (word : List ℕ)
    (parts : List Part) → told_times test (map (Lists word) parts) ≡ 0
times-listed test none word [] = refl
times-listed test none word (part ∷ parts) = omega (
  arith,
  times-listed test none word parts,
  times-cons test (Lists word part) (map (Lists word) parts),
  ap {B = ℕ} (λ (b : Bool). cond b 1 0) (none word part),
)

-- their lines
pub lines-listed : (cell : Cell) (gs : List Grant) (number : ℕ) (word : List ℕ) (parts : List Part)
    → map (telling_line cell gs number) (map (Lists word) parts) ≡ map (item_line cell word) parts
lines-listed cell gs number word [] = refl
lines-listed cell gs number word (part ∷ parts) =
    ap (λ (ls : List (List ℕ)). item_line cell word part ∷ ls) (lines-listed cell gs number word parts)

-- ---- part by part

-- one part more
taken-part : (parts : List Part) (i : ℕ) (part : Part) → slice_get parts i ≡ Some part → take (i + 1) parts ≡ take i parts ++ part ∷ []
taken-part parts i part is =
    take_more parts i part (slice_get_within parts i part is)
    ∙ ap (λ (p : Part). take i parts ++ p ∷ []) (get_or_from_slice_get parts i part part is)

module _ (cell : Cell) (word : List ℕ) (parts : List Part) (i : ℕ) (part : Part) (is : slice_get parts i ≡ Some part) where
  -- the lines of the first ones, and of one more
  pub items-more : map (item_line cell word) (take (i + 1) parts) ≡ map (item_line cell word) (take i parts) ++ item_line cell word part ∷ []
  items-more =
      ap (map (item_line cell word)) (taken-part parts i part is) ∙ map-append (item_line cell word) (take i parts) (part ∷ [])

  counted-more : (r : ℕ) (b : Bool) → leads cell (stage_of part) r ≡ b
      → counted cell (take (i + 1) parts) r ≡ counted cell (take i parts) r ++ cond b (part ∷ []) []
  counted-more r b here =
      ap (λ (ps : List Part). counted cell ps r) (taken-part parts i part is)
      ∙ filter-append (λ (p : Part). leads cell (stage_of p) r) (take i parts) (part ∷ [])
      ∙ ap (λ (b : Bool). counted cell (take i parts) r ++ cond b (part ∷ []) []) here

  -- the same of those that are counted: it is one of them,
  pub counted-next : (r : ℕ) → leads cell (stage_of part) r ≡ true
      → map (item_line cell word) (counted cell (take (i + 1) parts) r)
      ≡ map (item_line cell word) (counted cell (take i parts) r) ++ item_line cell word part ∷ []
  counted-next r here =
      ap (map (item_line cell word)) (counted-more r true here)
      ∙ map-append (item_line cell word) (counted cell (take i parts) r) (part ∷ [])

  -- or not
  pub counted-other : (r : ℕ) → leads cell (stage_of part) r ≡ false
      → counted cell (take (i + 1) parts) r ≡ counted cell (take i parts) r
  counted-other r here = counted-more r false here ∙ append-nil (counted cell (take i parts) r)

-- no more are counted than there are
pub counted-few : (cell : Cell) (parts : List Part) (i r : ℕ) → length (counted cell (take i parts) r) ≤ i
counted-few cell parts i r =
    omega (
      arith,
      length-filter_both (λ (p : Part). leads cell (stage_of p) r) (λ (p : Part). not (leads cell (stage_of p) r)) (λ p. refl)
          (take i parts),
      length-take i parts,
    )
