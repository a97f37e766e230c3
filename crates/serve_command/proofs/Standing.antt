-- For which grants the disk of a conversation stands.
use Rattle.std.specs.Prelude.{⊤}
use Rattle.std.proofs.Common.{◌≡◌, ◌⊎◌, inl, inr, ℕ, List, [], ◌++◌, length, take, Option, None}
use Rattle.std.proofs.Common.{Some, All, sym, ap, ◌∙◌, subst, arith, append_assoc, append-nil}
use Rattle.std.proofs.lemmas.Bool.{cases_lt}
use Rattle.std.proofs.lemmas.List.{take-append-le, take_all}
use Rattle.std.proofs.lemmas.List.Elements.{All-nil}
use Rattle.std.proofs.Math.Seq.{take-append_seam}
use Rattle.outside_io.specs.Causes.{Rose}
use Rattle.outside_io.specs.Disk.{LeavesOnly, Turns}
use Rattle.outside_io.specs.Moments.{followed, started, widened}
use Rattle.outside_io.specs.Telling.{told, turned, where_told}
use Rattle.cell_base.specs.declared.shifts.Grant.{Grant}
use Rattle.journal_format.specs.Journals.{StandsForPrefix, IsBeforeOrAfterAll, StandsFor}
use Rattle.live_cell.specs.Openings.{IsOpened}
use Rattle.move_journal.specs.Disks.{Shows}
use Rattle.cell_walks.specs.Allowed.{StandsForAdded}
use Rattle.cell_walks.specs.DiskTold.{disk_told}
use Rattle.journal_texts.proofs.Disks.{now_told, since_entry}
use Rattle.serve_command.specs.Conversing.{IsLeftWith}
use Rattle.serve_command.specs.Rounds.{Moves}

-- ---- prefixes

-- a prefix is a prefix of more
first_of_more : {X : Type 0} (n : ℕ) (xs ys : List X) → (m : ℕ) × (take n xs ≡ take m (xs ++ ys))
first_of_more n xs ys = elim (cases_lt (length xs) n) [
  | inl past ↦ (length xs, take_all n xs (omega (arith, past)) ∙ sym (take-append_seam xs ys))
  | inr within ↦ (n, sym (take-append-le n xs ys within))
]

module _ (text : List ℕ) (opening added more : List Grant) (file : List ℕ) where
  more_first : StandsForPrefix text opening added file → StandsForPrefix text opening (added ++ more) file
  more_first (n, stands) =
      let first = first_of_more n added more in
      (first.0, subst (λ (gs : List Grant). StandsFor file text (opening ++ gs)) first.1 stands)

  either_first : IsBeforeOrAfterAll text (opening ++ added) more file → StandsForPrefix text opening (added ++ more) file
  either_first (inl stands) = (
    length added,
    subst (λ (gs : List Grant). StandsFor file text (opening ++ gs)) (sym (take-append_seam added more)) stands,
  )
  either_first (inr stands) = (
    length (added ++ more),
    subst (StandsFor file text)
        (append_assoc opening added more
        ∙ ap (λ (gs : List Grant). opening ++ gs) (sym (take_all (length (added ++ more)) (added ++ more) (omega arith))))
        stands,
  )

-- ---- telling

turns_same : (told : Option (List ℕ)) → Turns told told (λ _ _. ⊤)
turns_same None = tt
turns_same (Some file) = tt

pub turns_both : (a b c : Option (List ℕ)) → Turns a b (λ _ _. ⊤) → Turns b c (λ _ _. ⊤) → Turns a c (λ _ _. ⊤)
turns_both None None c first second = second
turns_both None (Some file) c first second = absurd first
turns_both (Some old) None c first second = absurd first
turns_both (Some old) (Some file) None first second = absurd second
turns_both (Some old) (Some file) (Some new) first second = tt

module _ {D : Type 0} (reads_as : D → Option (List ℕ)) (may_leave : D → List ℕ → Type 0) (moment : D → ℕ)
    (left_since : D → ℕ → List ℕ → Type 0) (faults : D → ℕ) (text : List ℕ) (opening : List Grant) where
  abbrev Left : List Grant → List Grant → D → D → Type 0
  Left = IsLeftWith reads_as may_leave moment left_since faults text opening

  pub shows_weaker : (disk : D) (P Q : List ℕ → Type 0) → ((file : List ℕ) → P file → Q file) → Shows reads_as may_leave disk P
      → Shows reads_as may_leave disk Q
  shows_weaker disk P Q weaker shows = where_told (reads_as disk) (λ file. Q file × ((c : List ℕ) → may_leave disk c → Q c))
      (λ file is. let here = told (reads_as disk) (λ f. P f × ((c : List ℕ) → may_leave disk c → P c)) file is shows in
      (weaker file here.0, λ c left. weaker c (here.1 c left)))

  -- nothing was added yet
  pub left_begins : (disk : D) → ((c : List ℕ) → left_since disk (moment disk) c → may_leave disk c)
      → Shows reads_as may_leave disk (λ file. StandsFor file text opening) → Left [] [] disk disk
  left_begins disk only_now shows = record {
    tells = turns_same (reads_as disk);
    stands = shows_weaker disk (λ file. StandsFor file text opening) (λ file. IsBeforeOrAfterAll text (opening ++ []) [] file)
        (λ file stands. inl (subst (StandsFor file text) (sym (append-nil opening)) stands)) shows;
    any_moment = where_told (reads_as disk) (λ _. LeavesOnly moment left_since disk disk (StandsForPrefix text opening []))
        (λ file is. let here = told (reads_as disk) (λ f. StandsFor f text opening
        × ((c : List ℕ) → may_leave disk c → StandsFor c text opening)) file is shows in
        started moment left_since disk (StandsForPrefix text opening [])
        (λ c left. (0, subst (StandsFor c text) (sym (append-nil opening)) (here.1 c (only_now c left)))));
    cause = All-nil (λ grant. Rose (faults disk) (faults disk));
  }

  -- the disk moves on
  module _ (added more unsure : List Grant) (first mid new : D) (left : Left added [] first mid)
      (moves : Moves reads_as moment left_since text (opening ++ added) (more ++ unsure) mid new)
      (stands : Shows reads_as may_leave new (λ file. IsBeforeOrAfterAll text (opening ++ added ++ more) unsure file))
      (cause : All (λ grant. Rose (faults first) (faults new)) unsure) where
    abbrev Since : List ℕ → Type 0
    Since file = StandsForPrefix text opening (added ++ more ++ unsure) file

    all_since : added ++ (more ++ unsure) ≡ added ++ more ++ unsure
    all_since = sym (append_assoc added more unsure)

    earlier : (file : List ℕ) → StandsForPrefix text opening (added ++ []) file → Since file
    earlier file is =
        subst (λ (gs : List Grant). StandsForPrefix text opening gs file) all_since
        (more_first text opening added (more ++ unsure) file
        (subst (λ (gs : List Grant). StandsForPrefix text opening gs file) (append-nil added) is))

    later : (file : List ℕ) → IsBeforeOrAfterAll text (opening ++ added) (more ++ unsure) file → Since file
    later file is =
        subst (λ (gs : List Grant). StandsForPrefix text opening gs file) all_since
        (either_first text opening added (more ++ unsure) file is)

    pub left_goes : Left (added ++ more) unsure first new
    left_goes = record {
      tells = turns_both (reads_as first) (reads_as mid) (reads_as new) left.tells moves.tells;
      stands = subst (λ (gs : List Grant). Shows reads_as may_leave new (λ file. IsBeforeOrAfterAll text gs unsure file))
          (append_assoc opening added more) stands;
      any_moment = where_told (reads_as first) (λ _. LeavesOnly moment left_since first new Since)
          (λ file is.
          let at_mid = turned (reads_as first) (reads_as mid) (λ _ _. ⊤) file is left.tells in
          followed moment left_since first mid new Since
          (widened moment left_since first mid (StandsForPrefix text opening (added ++ [])) Since
          (told (reads_as first) (λ _. LeavesOnly moment left_since first mid (StandsForPrefix text opening (added ++ []))) file is
          left.any_moment) earlier)
          (widened moment left_since mid new (IsBeforeOrAfterAll text (opening ++ added) (more ++ unsure)) Since
          (told (reads_as mid) (λ _. LeavesOnly moment left_since mid new (IsBeforeOrAfterAll text (opening ++ added) (more ++ unsure)))
          at_mid.0 at_mid.1 moves.any_moment) later));
      cause = cause;
    }

  -- ---- since the disk was handed in

  pub left_told : (added unsure : List Grant) (entry first last : D)
      → IsOpened reads_as may_leave moment left_since entry text opening first → faults first ≡ faults entry
      → Left added unsure first last
      → StandsForAdded (disk_told reads_as may_leave moment left_since faults entry last) text opening added unsure
  left_told added unsure entry first last opened fed left = record {
    now = now_told (reads_as entry) (reads_as last) (may_leave last)
        (λ file. IsBeforeOrAfterAll text (opening ++ added) unsure file)
        (λ file. StandsFor file text (opening ++ added) ⊎ StandsFor file text (opening ++ added ++ unsure))
        (λ file is. is) (turns_both (reads_as entry) (reads_as first) (reads_as last) opened.tells left.tells) left.stands;
    any_moment = since_entry reads_as may_leave moment left_since faults entry opened.found last First opened.read
        (where_told (reads_as entry) (λ _. LeavesOnly moment left_since opened.found last First)
        (λ file is.
        let at_first = turned (reads_as entry) (reads_as first) (λ _ _. ⊤) file is opened.tells in
        followed moment left_since opened.found first last First
        (widened moment left_since opened.found first (λ f. StandsFor f text opening) First
        (told (reads_as entry) (λ _. LeavesOnly moment left_since opened.found first (λ f. StandsFor f text opening)) file is
        opened.any_moment) begun)
        (told (reads_as first) (λ _. LeavesOnly moment left_since first last First) at_first.0 at_first.1 left.any_moment)));
    cause = subst (λ (n : ℕ). All (λ (grant : Grant). Rose n (faults last)) unsure) fed left.cause;
  }
    where
      First : List ℕ → Type 0
      First file = StandsForPrefix text opening (added ++ unsure) file

      begun : (file : List ℕ) → StandsFor file text opening → First file
      begun file stands = (0, subst (StandsFor file text) (sym (append-nil opening)) stands)
