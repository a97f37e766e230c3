-- How the outcomes of `parts` come about, and the parts that stand on a resource, as far as they were looked at.
use Rattle.std.specs.Prelude.{IfErr, IfOk}
use Rattle.std.proofs.Common.{◌≡◌, ◌∙◌, ℕ, ◌+◌, ◌<◌, ◌==◌, true, false, List, [], ◌∷◌, ◌++◌, length, map, take, get_or, ap}
use Rattle.std.proofs.Common.{Result, Ok, Err, refl}
use Rattle.std.proofs.lemmas.Bool.{cond-false, cond-true}
use Rattle.std.proofs.lemmas.List.{append-nil, take_more}
use Rattle.std.proofs.lemmas.List.Elements.{filter-append}
use Rattle.admission_core.specs.CoreState.{CoreState}
use Rattle.cell_base.specs.declared.cells.Cell.{Cell}
use Rattle.cell_base.specs.declared.requests.Part.{Part}
use Rattle.cell_base.specs.Neighborhoods.{count}
use Rattle.cell_base.specs.Plans.{resource_of_part}
use Rattle.record_text.specs.Lines.{line_of}
use Rattle.cell_walks.specs.Allowed.{IsNotOpened, JournalOpened, NotOpened, OpeningStarved}
use Rattle.cell_walks.specs.DiskTold.{DiskTold, IsOnlyRead}
use Rattle.cell_walks.specs.Observed.{FilesTold}
use Rattle.cell_walks.specs.Outcomes.{Outcome, done}
use Rattle.cell_walks.specs.declared.early_end.EarlyEnd.{EarlyEnd}
use Rattle.cell_walks.specs.declared.early_end.EarlyEnd.TheVariants.{WantOfMemory}
use Rattle.cell_texts.specs.Tests.{KnownCell}
use Rattle.cell_driver.specs.Driving.{Allowed, IsMade}
use Rattle.journal_texts.specs.JournalReads.{IsAfterGrants}
use Rattle.journal_texts.specs.Tests.{to_read}
use Rattle.journal_texts.specs.declared.readers.AfterGrants.{AfterGrants}
use Rattle.look_commands.specs.Parts.{locate_parts, part_line, parts_lines, parts_on, resource_lines, resource_words}
use Rattle.look_commands.specs.declared.parts.Standing.{Standing}

-- ---- the outcomes

abbrev standing_outcome : Standing → Outcome
standing_outcome standing = done (parts_lines standing.core.cell standing.core.parts)

module _ (files : FilesTold) (disk : DiskTold) (held : KnownCell) where
  -- the journal was read, and the parts were listed or memory was wanting
  pub parts_made : (after : AfterGrants) → IsOnlyRead disk → IsAfterGrants disk (to_read held) after → (made : Result Standing EarlyEnd)
      → IfOk made (λ standing. standing.core ≡ after.core) → IfErr made (λ end. end ≡ WantOfMemory)
      → IsMade files disk (locate_parts held) standing_outcome made
  parts_made after only is (Ok standing) same starved =
      Allowed (JournalOpened is.grants is.opened (ap (λ (core : CoreState). done (parts_lines core.cell core.parts)) (same ∙ is.core), only))
  parts_made after only is (Err end) same starved = Allowed (NotOpened end (OpeningStarved starved only) refl)

  -- the journal was not opened
  pub parts_unread : (end : EarlyEnd) → IsNotOpened disk (to_read held) end → IsMade files disk (locate_parts held) standing_outcome (Err end)
  parts_unread end ended = Allowed (NotOpened end ended refl)

-- ---- the parts on a resource

module _ (cell : Cell) (parts : List Part) (r i : ℕ) (d : Part) (within : i < length parts) where
  next : parts_on cell (take (i + 1) parts) r ≡ parts_on cell (take i parts) r ++ parts_on cell (get_or parts i d ∷ []) r
  next = ap (λ (ps : List Part). parts_on cell ps r) (take_more parts i d within)
      ∙ filter-append (λ (part : Part). resource_of_part cell part == r) (take i parts) (get_or parts i d ∷ [])

  pub stands_next : (resource_of_part cell (get_or parts i d) == r) ≡ true
      → parts_on cell (take (i + 1) parts) r ≡ parts_on cell (take i parts) r ++ get_or parts i d ∷ []
  stands_next here = next ∙ ap (λ (ps : List Part). parts_on cell (take i parts) r ++ ps) (cond-true _ _ _ here)

  pub stands_elsewhere : (resource_of_part cell (get_or parts i d) == r) ≡ false
      → parts_on cell (take (i + 1) parts) r ≡ parts_on cell (take i parts) r
  stands_elsewhere there =
      next ∙ ap (λ (ps : List Part). parts_on cell (take i parts) r ++ ps) (cond-false _ _ _ there) ∙ append-nil (parts_on cell (take i parts) r)

-- its line, made of what was counted
pub line_made : (cell one other : Cell) (parts listed : List Part) (r held counted : ℕ) (line : List ℕ)
    → line ≡ line_of (resource_words other r held counted) → other ≡ cell → held ≡ length (parts_on one listed r) → one ≡ cell
    → listed ≡ parts → counted ≡ count cell parts r
    → line ∷ map (part_line cell) (parts_on cell parts r) ≡ resource_lines cell parts r
line_made cell one other parts listed r held counted line is same held_is alike all counted_is =
    ap (λ (l : List ℕ). l ∷ map (part_line cell) (parts_on cell parts r))
    (is
    ∙ ap (λ (on : Cell). line_of (resource_words on r held counted)) same
    ∙ ap (λ (n : ℕ). line_of (resource_words cell r n counted))
    (held_is ∙ ap (λ (on : Cell). length (parts_on on listed r)) alike ∙ ap (λ (ps : List Part). length (parts_on cell ps r)) all)
    ∙ ap (λ (n : ℕ). line_of (resource_words cell r (length (parts_on cell parts r)) n)) counted_is)
