-- For which grants a disk stands, and what its bytes then open as.
use Rattle.std.specs.Prelude.{IfSome, IsSome, IsSomeAnd}
use Rattle.std.proofs.Common.{◌≡◌, ◌⊎◌, inl, inr, ℕ, ◌≤◌, List, [], length, Option, Some, None, Ok, Err, refl, sym, ◌∙◌, ap, subst, arith}
use Rattle.std.proofs.lemmas.List.Elements.{All-nil}
use Rattle.cell_base.specs.Fits.{RequestFits}
use Rattle.cell_base.specs.declared.cells.Cell.{Cell}
use Rattle.cell_base.specs.declared.shifts.Grant.{Grant}
use Rattle.journal_format.specs.Replayed.{AreDue, opened_as, replayed_reading}
use Rattle.journal_format.proofs.Replaying.{due_replayed}
use Rattle.journal_format.specs.Blanks.{IsBlank}
use Rattle.journal_format.specs.Journals.{StandsFor}
use Rattle.journal_format.proofs.Uniqueness.{journal_of, one_journal}
use Rattle.journal_format.specs.declared.fault.JournalFault.{JournalFault}
use Rattle.journal_format.proofs.Standing.{stands_found}
use Rattle.cell_walks.specs.DiskTold.{DiskTold, IsOnlyRead, StaysEmpty, StillStandsFor, StoodFor, AddsNothing}
use Rattle.cell_walks.proofs.OpenedOnce.{opened_once}

-- ---- a file

-- what stands for grants that are due opens as them
stands_opened : (cell : Cell) (file text : List ℕ) (room : ℕ) (grants : List Grant) → StandsFor file text grants → AreDue cell grants
    → length grants ≤ room → opened_as cell file text room ≡ Ok grants
stands_opened cell file text room grants stands due few =
    elim (stands_found file text room grants stands few) [
      | inl blank ↦ ap (replayed_reading cell text) blank.0 ∙ ap Ok (sym blank.1)
      | inr found ↦ ap (replayed_reading cell text) found ∙ due_replayed cell text grants due
    ]

-- what is blank is not refused
pub blank_opens : (cell : Cell) (file text : List ℕ) (room : ℕ) (why : JournalFault) → IsBlank file
    → opened_as cell file text room ≡ Err why → ⊥
blank_opens cell file text room why blank refused =
    let none : AreDue cell [] = record { fit = All-nil (λ (grant : Grant). RequestFits cell grant.request); granted = refl } in
    let both = sym refused ∙ stands_opened cell file text room [] (inl (blank, refl)) none (omega arith) in absurd (cc)

-- a blank file stands for no grants alone
stands_once : (file text : List ℕ) (grants : List Grant) → IsBlank file → StandsFor file text grants → grants ≡ []
stands_once file text grants blank (inl is) = is.1
stands_once file text grants blank (inr journal) =
    sym (one_journal file text text [] grants (journal_of file text text [] grants journal (inl (blank, refl))) journal).1

-- ---- a disk

module _ (disk : DiskTold) (now : IfSome disk.reads disk.leaves) (text : List ℕ) (grants : List Grant)
    (stood : StoodFor disk text grants) where
  -- one that stood for grants that are due, with room for them, is not refused
  pub accepted_opens : (cell : Cell) (room : ℕ) → length grants ≤ room → AreDue cell grants → (why : JournalFault)
      → IfSome disk.reads (λ file. opened_as cell file text room ≡ Err why) → ⊥
  accepted_opens cell room few due why refused = by_told disk.reads now stood.0 refused
    where
      by_told : (reads : Option (List ℕ)) → IfSome reads disk.leaves → IsSome reads
          → IfSome reads (λ file. opened_as cell file text room ≡ Err why) → ⊥
      by_told None now tells refused = absurd (cc)
      by_told (Some file) now tells refused =
          let both = sym refused ∙ stands_opened cell file text room grants (stood.1 file now) due few in absurd (cc)

  -- one that was only read stands for them still
  pub still_by_read : IsOnlyRead disk → StillStandsFor disk text grants
  still_by_read only = (by_told disk.reads disk.reads_after only.reads now, always disk.reads)
    where
      by_told : (reads after : Option (List ℕ)) → after ≡ reads → IfSome reads disk.leaves
          → IfSome reads (λ _. IsSomeAnd after (λ file. StandsFor file text grants
          × ((left : List ℕ) → disk.leaves_after left → StandsFor left text grants)))
      by_told None after same now = tt
      by_told (Some file) after same now =
          subst (λ (a : Option (List ℕ)). IsSomeAnd a (λ f. StandsFor f text grants
          × ((left : List ℕ) → disk.leaves_after left → StandsFor left text grants)))
          (sym same) (stood.1 file now, λ left is. stood.1 left (only.leaves left is))

      always : (reads : Option (List ℕ)) → IfSome reads (λ _. (left : List ℕ) → disk.left left → StandsFor left text grants)
      always None = tt
      always (Some file) = λ left is. stood.1 left (only.any_moment left is)

  -- one that was blank and stands for none stood for none
  still_by_none : StaysEmpty text disk → StillStandsFor disk text grants
  still_by_none none =
      let no_grants : grants ≡ [] = by_blank disk.reads now stood.0 none.blank in
      subst (λ (gs : List Grant). StillStandsFor disk text gs) (sym no_grants) (none.now, by_told no_grants disk.reads none.any_moment)
    where
      by_blank : (reads : Option (List ℕ)) → IfSome reads disk.leaves → IsSome reads → IfSome reads IsBlank → grants ≡ []
      by_blank None now tells blank = absurd (cc)
      by_blank (Some file) now tells blank = stands_once file text grants blank (stood.1 file now)

      by_told : grants ≡ [] → (reads : Option (List ℕ))
          → IfSome reads (λ _. (left : List ℕ) → disk.left left → disk.leaves left ⊎ StandsFor left text [])
          → IfSome reads (λ _. (left : List ℕ) → disk.left left → StandsFor left text [])
      by_told no_grants None always = tt
      by_told no_grants (Some file) always = λ left is. elim (always left is) [
        | inl at_entry ↦ subst (StandsFor left text) no_grants (stood.1 left at_entry)
        | inr stands ↦ stands
      ]

  -- one that was opened stood for the grants that were found
  pub found_same : (cell : Cell) (room : ℕ) (found : List Grant) → IfSome disk.reads (λ file. opened_as cell file text room ≡ Ok found)
      → found ≡ grants
  found_same cell room found opened = by_told disk.reads now stood.0 opened
    where
      by_told : (reads : Option (List ℕ)) → IfSome reads disk.leaves → IsSome reads
          → IfSome reads (λ file. opened_as cell file text room ≡ Ok found) → found ≡ grants
      by_told None now tells opened = absurd (cc)
      by_told (Some file) now tells opened = opened_once cell file text room found grants (stood.1 file now) opened

  pub still_standing : AddsNothing text disk → StillStandsFor disk text grants
  still_standing (inl only) = still_by_read only
  still_standing (inr none) = still_by_none none
