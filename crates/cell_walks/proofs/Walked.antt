-- What is observed in one place, and what an outcome leaves of a disk.
use Rattle.std.specs.Prelude.{IfSome, IsSomeAnd}
use Rattle.std.proofs.Common.{◌≡◌, ◌⊎◌, inl, inr, ℕ, List, [], ◌++◌, length, Option}
use Rattle.std.proofs.Common.{Some, None, sym, subst, arith, append_assoc, append-nil}
use Rattle.std.proofs.Math.Seq.{take-append_seam}
use Rattle.std.proofs.lemmas.List.{take_all}
use Rattle.outside_io.specs.Causes.{Rose}
use Rattle.cell_base.specs.declared.shifts.Grant.{Grant}
use Rattle.journal_format.specs.Journals.{StandsForPrefix, StandsFor}
use Rattle.cell_walks.specs.Allowed.{IsUnread, StandsForAdded}
use Rattle.cell_walks.specs.DiskTold.{DiskTold, IsAlways, IsNow, IsOnlyRead, IsUntouched, SinceEntry, StillStandsFor, StoodFor}
use Rattle.cell_walks.specs.Observed.{FilesTold, Source, Word, File, Known, IsThereAt, HoldsOfBytes, Tells}
use Rattle.cell_walks.specs.Promises.{StandsWith}
use Rattle.cell_walks.specs.declared.early_end.EarlyEnd.{EarlyEnd}
use Rattle.cell_walks.specs.declared.early_end.EarlyEnd.TheVariants.{NotRead}

-- ---- one place

some_both : (at : Option (List ℕ)) (P Q : List ℕ → Type 0) → IsSomeAnd at P → IsSomeAnd at Q → (bytes : List ℕ) × P bytes × Q bytes
some_both None P Q tells shows = absurd tells
some_both (Some bytes) P Q tells shows = (bytes, tells, shows)

pub disk_both : (at : Option (List ℕ)) (P Q : List ℕ → Type 0) → IsSomeAnd at P → IfSome at Q → (bytes : List ℕ) × P bytes × Q bytes
disk_both None P Q tells shows = absurd tells
disk_both (Some bytes) P Q tells shows = (bytes, tells, shows)

file_both : (names : Option (List ℕ → Option (List ℕ))) (name : List ℕ) (P Q : List ℕ → Type 0)
    → IsSomeAnd names (λ held. IsSomeAnd (held name) P) → IfSome names (λ held. IsSomeAnd (held name) Q)
    → (bytes : List ℕ) × P bytes × Q bytes
file_both None name P Q tells shows = absurd tells
file_both (Some held) name P Q tells shows = some_both (held name) P Q tells shows

-- what is told of some bytes, and what is shown, is so of the same bytes
pub both : (files : FilesTold) (source : Source) (P Q : List ℕ → Type 0) → Tells files source P → HoldsOfBytes files source Q
    → (bytes : List ℕ) × P bytes × Q bytes
both files (Word word) P Q tells shows = (word, tells, shows)
both files (File name) P Q tells shows = file_both files.names name P Q tells shows
both files Known P Q tells shows = ([], tells, shows)

-- why a read failed
pub unread : (files : FilesTold) (source : Source) (end : EarlyEnd) → IsUnread files source end
    → (end ≡ NotRead) × Rose files.faults files.faults_after × (files.is_sound → IsThereAt files source → ⊥)
unread files (File name) end is = is
unread files (Word word) end is = absurd is
unread files Known end is = absurd is

-- ---- the disk

pub read_untouched : (disk : DiskTold) → IsUntouched disk → IsOnlyRead disk
read_untouched disk is = record { reads = is.reads; leaves = is.leaves.0; any_moment = is.any_moment }

pub now_weaker : (disk : DiskTold) (P Q : List ℕ → Type 0) → ((file : List ℕ) → P file → Q file) → IsNow disk P → IsNow disk Q
now_weaker disk P Q weaker is = by_told disk.reads disk.reads_after is
  where
    after : (reads : Option (List ℕ)) → IsSomeAnd reads (λ file. P file × ((left : List ℕ) → disk.leaves_after left → P left))
        → IsSomeAnd reads (λ file. Q file × ((left : List ℕ) → disk.leaves_after left → Q left))
    after None is = is
    after (Some file) is = (weaker file is.0, λ left leaves. weaker left (is.1 left leaves))

    by_told : (before after_it : Option (List ℕ))
        → IfSome before (λ _. IsSomeAnd after_it (λ file. P file × ((left : List ℕ) → disk.leaves_after left → P left)))
        → IfSome before (λ _. IsSomeAnd after_it (λ file. Q file × ((left : List ℕ) → disk.leaves_after left → Q left)))
    by_told None after_it is = tt
    by_told (Some file) after_it is = after after_it is

pub always_weaker : (disk : DiskTold) (P Q : List ℕ → Type 0) → ((file : List ℕ) → P file → Q file) → IsAlways disk P → IsAlways disk Q
always_weaker disk P Q weaker is = by_told disk.reads is
  where
    by_told : (reads : Option (List ℕ)) → IfSome reads (λ _. (left : List ℕ) → disk.left left → P left)
        → IfSome reads (λ _. (left : List ℕ) → disk.left left → Q left)
    by_told None is = tt
    by_told (Some file) is = λ left at. weaker left (is left at)

pub since_weaker : (disk : DiskTold) (P Q : List ℕ → Type 0) → ((file : List ℕ) → P file → Q file) → SinceEntry disk P → SinceEntry disk Q
since_weaker disk P Q weaker is = record {
  always = always_weaker disk (λ file. disk.leaves file ⊎ P file) (λ file. disk.leaves file ⊎ Q file)
      (λ file. elim [ inl was ↦ inl was | inr has ↦ inr (weaker file has) ]) is.always;
  found = by_told disk.reads is.found;
}
  where
    by_told : (reads : Option (List ℕ))
        → IfSome reads (λ _. (found : ℕ) × disk.read_until found × ((left : List ℕ) → disk.left_since found left → P left))
        → IfSome reads (λ _. (found : ℕ) × disk.read_until found × ((left : List ℕ) → disk.left_since found left → Q left))
    by_told None is = tt
    by_told (Some file) is = (is.0, is.1, λ left at. weaker left (is.2 left at))

module _ (disk : DiskTold) (text : List ℕ) (grants : List Grant) (stood : StoodFor disk text grants) where
  none_of : (since : List Grant) (file : List ℕ) → StandsFor file text grants → StandsForPrefix text grants since file
  none_of since file stands = (0, subst (StandsFor file text) (sym (append-nil grants)) stands)

  all_of : (since : List Grant) (file : List ℕ) → StandsFor file text (grants ++ since) → StandsForPrefix text grants since file
  all_of since file stands = (
    length since,
    subst (λ (gs : List Grant). StandsFor file text (grants ++ gs)) (sym (take_all (length since) since (omega arith)))
        stands,
  )

  -- what stands for them still stands for them and a prefix of any others
  pub still_with : (since : List Grant) → StillStandsFor disk text grants → StandsWith disk text grants since
  still_with since is = (
    now_weaker disk (λ file. StandsFor file text grants) (StandsForPrefix text grants since) (none_of since) is.0,
    always_weaker disk (λ file. StandsFor file text grants) (StandsForPrefix text grants since) (none_of since) is.1,
  )

  module _ (added : List Grant) where
    first_of : (more : List Grant) (file : List ℕ) → StandsFor file text (grants ++ added)
        → StandsForPrefix text grants (added ++ more) file
    first_of more file stands = (
      length added,
      subst (λ (gs : List Grant). StandsFor file text (grants ++ gs)) (sym (take-append_seam added more)) stands,
    )

    unsure_of : (unsure : List Grant) (file : List ℕ)
        → StandsFor file text (grants ++ added) ⊎ StandsFor file text (grants ++ added ++ unsure)
        → StandsForPrefix text grants (added ++ unsure) file
    unsure_of unsure file (inl stands) = first_of unsure file stands
    unsure_of unsure file (inr stands) =
        all_of (added ++ unsure) file (subst (StandsFor file text) (append_assoc grants added unsure) stands)

    entry_or : (since : List Grant) (file : List ℕ) → disk.leaves file ⊎ StandsForPrefix text grants since file
        → StandsForPrefix text grants since file
    entry_or since file (inl left) = none_of since file (stood.1 file left)
    entry_or since file (inr first) = first

    -- and so does what stands for them and those that were added
    pub added_with : (unsure : List Grant) → StandsForAdded disk text grants added unsure
        → StandsWith disk text grants (added ++ unsure)
    added_with unsure is =
        let since : List Grant = added ++ unsure in (
          now_weaker disk
              (λ file. StandsFor file text (grants ++ added) ⊎ StandsFor file text (grants ++ added ++ unsure))
              (StandsForPrefix text grants since) (unsure_of unsure) is.now,
          always_weaker disk (λ file. disk.leaves file ⊎ StandsForPrefix text grants since file) (StandsForPrefix text grants since)
              (entry_or since) is.any_moment.always,
        )
