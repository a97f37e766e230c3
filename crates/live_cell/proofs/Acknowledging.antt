-- Images that keep what they had.
use Rattle.std.specs.Prelude.{Option, IfSome}
use Rattle.std.proofs.Common.{inl, inr, ⊎_elim, ℕ, List, [], ◌++◌, sym, subst, arith, append_assoc}
use Rattle.std.proofs.lemmas.List.{append-nil}
use Rattle.cell_base.specs.declared.shifts.Grant.{Grant}
use Rattle.outside_io.specs.Disk.{LeavesOnly}
use Rattle.outside_io.specs.Telling.{where_told, told}
use Rattle.move_journal.specs.Disks.{Shows}
use Rattle.journal_format.specs.Journals.{StandsFor, IsBeforeOrAfterAll}
use Rattle.live_cell.specs.Acknowledged.{HasThese, HasSince}

-- without the pending grants or with all of them, a file has those before
has_before : (text : List ℕ) (grants later more : List Grant) (file : List ℕ) → IsBeforeOrAfterAll text (grants ++ later) more file
    → HasThese text grants file
has_before text grants later more file (inl before) = (later, before)
has_before text grants later more file (inr all) =
    (later ++ more, subst (λ (gs : List Grant). StandsFor file text gs) (append_assoc grants later more) all)

module _ {D : Type 0} (reads_as : D → Option (List ℕ)) (may_leave : D → List ℕ → Type 0) (moment : D → ℕ)
    (left_since : D → ℕ → List ℕ → Type 0) where
  -- what each image now stands for, it has from now on
  pub has_now : (disk : D) (text : List ℕ) (grants : List Grant) → ((c : List ℕ) → left_since disk (moment disk) c → may_leave disk c)
      → Shows reads_as may_leave disk (λ file. StandsFor file text grants)
      → IfSome (reads_as disk) (λ _. HasSince moment left_since disk (moment disk) text grants)
  has_now disk text grants only_now shows = where_told (reads_as disk)
      (λ _. HasSince moment left_since disk (moment disk) text grants) (λ file is. record {
        reached = omega arith;
        each = λ c left. (
          [],
          subst (λ (gs : List Grant). StandsFor c text gs) (sym (append-nil grants)) ((told _ _ file is shows).1 c (only_now c left)),
        );
      })

  -- and no commit takes it
  pub has_still : (old new : D) (then : ℕ) (text : List ℕ) (grants later more : List Grant)
      → HasSince moment left_since old then text grants
      → LeavesOnly moment left_since old new (IsBeforeOrAfterAll text (grants ++ later) more)
      → HasSince moment left_since new then text grants
  has_still old new then text grants later more had only = record {
    reached = omega (arith, had.reached, only.later);
    each = λ c left. ⊎_elim (had.each c) (has_before text grants later more c) (only.before then c had.reached left);
  }
