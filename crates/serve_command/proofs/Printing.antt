-- Lines that are printed to a peer that is lent, and handed on.
use Rattle.std.specs.Prelude.{◌==◌, Option, Result, Ok, Err, OnOk, OnErr}
use Rattle.std.specs.Io.KnownBytes.{Appends}
use Rattle.std.proofs.Common.{true, inl, inr, ◌≡◌, ◌⊎◌, ◌<◌, ◌≤◌, ℕ, List, [], ◌∷◌, length, refl, sym, ◌∙◌, subst, arith}
use Rattle.std.proofs.KnownBytes.{Appends-nil}
use Rattle.std.proofs.lemmas.Bool.{cases_eq, ne_eqb, true≢false}
use Rattle.outside_io.specs.Causes.{HasCause, Rose}
use Rattle.outside_io.specs.Meanings.{DiskMeaning}
use Rattle.outside_io.specs.Puts.{TookAll, TookSome}
use Rattle.lent_peers.specs.Beside.{IsBeside}
use Rattle.lent_peers.specs.LentPuts.{WentOn}
use Rattle.lent_peers.specs.declared.lent.Lent.{Lent}
use Rattle.lent_peers.proofs.Flushing.{all_still, all_then, some_still}
use Rattle.lent_peers.proofs.LentRuns.{all_beside, all_faults, all_took, handed_beside, is_beside, lent_told, none_beside, some_beside}
use Rattle.lent_peers.proofs.LentRuns.{some_faults, some_took}
use Rattle.peers.specs.Meanings.{PeerMeaning, peer_took}
use Rattle.peers.specs.Moments.{Moment, IsDuringPut}
use Rattle.peers.specs.Runs.{HasMoment}
use Rattle.cell_walks.specs.Outcomes.{Cut, IsDelivered, Outcome, Whole}
use Rattle.cell_walks.specs.declared.status.Status.{Status}
use Rattle.cell_walks.specs.declared.status.Status.TheVariants.{SinkFault}

abbrev Lines : Type 0
Lines = List (List ℕ)

-- what holds holds at each answer
pub on_ok : {V E A : Type 0} (result : Result V E) → A → OnOk result A
on_ok (Ok value) is = is
on_ok (Err fault) is = tt

pub on_err : {V E A : Type 0} (result : Result V E) → A → OnErr result A
on_err (Ok value) is = tt
on_err (Err fault) is = is

pub at_ok : {V E A B : Type 0} (result : Result V E) → (A → B) → OnOk result A → OnOk result B
at_ok (Ok value) then is = then is
at_ok (Err fault) then is = is

zero_is : (n : ℕ) → (n == 0) ≡ true → n ≡ 0
zero_is n is = elim (cases_eq n 0) [
  | inl same ↦ same
  | inr apart ↦ absurd (true≢false (sym is ∙ ne_eqb n 0 apart))
]

pub empty : (lines : Lines) → (length lines == 0) ≡ true → lines ≡ []
empty [] is = refl
empty (line ∷ lines) is = absurd (let no : length (line ∷ lines) ≡ 0 = zero_is (length (line ∷ lines)) is in omega (arith, no))

module _ {D T : Type 0} (disk : DiskMeaning D) (peer : PeerMeaning T D) where
  -- no line
  pub none_printed : (rests : D) (a : T) (lines : Lines) → lines ≡ [] → IsBeside disk peer rests a a lines
  none_printed rests a lines none =
      subst (IsBeside disk peer rests a a) (sym none) (is_beside disk peer rests a a [] (none_beside disk peer rests a))

  -- a call that hands on what was put
  pub flush_went : (rests : D) (mid last : T) → peer.taken last ≡ peer.taken mid → peer.given last ≡ peer.given mid
      → (peer.has_ended mid → peer.has_ended last) → peer.read_faults last ≡ peer.read_faults mid
      → (peer.since mid ≤ disk.moment rests → peer.since last ≤ disk.moment rests)
      → ((at : Moment) → HasMoment disk peer last rests at
      → HasMoment disk peer mid rests at ⊎ IsDuringPut disk.may_leave (peer.given mid) (peer.taken mid) (peer.taken last) rests at)
      → ((at : Moment) → HasMoment disk peer mid rests at → HasMoment disk peer last rests at) → WentOn disk peer rests mid last
  flush_went rests mid last same unread ended no_read clock moments keeps = record {
    grew = ([], subst (λ (o : Option (List ℕ)). Appends (peer.taken mid) o []) (sym same) (Appends-nil (peer.taken mid)));
    unread = unread;
    ended = ended;
    no_read = no_read;
    clock = clock;
    moments = moments;
    keeps = keeps;
  }

  module _ (a b : Lent D T) (rests : D) (first mid : T) (disk_is : a.disk.now ≡ rests) (first_is : a.peer.now ≡ first)
      (mid_is : b.peer.ghost_name ≡ a.peer.ghost_name → mid ≡ b.peer.now) (lines : Lines) where
    -- the print failed
    pub failed_beside : TookSome (lent_told disk peer a b) lines → IsBeside disk peer rests first mid lines
    failed_beside some = is_beside disk peer rests first mid lines (some_beside disk peer a b rests first mid disk_is first_is mid_is lines some)

    pub failed_took : TookSome (lent_told disk peer a b) lines → TookSome (peer_took peer first mid) lines
    failed_took some = some_took disk peer a b rests first mid disk_is first_is mid_is lines some

    pub failed_faults : TookSome (lent_told disk peer a b) lines → (P : ℕ → ℕ → Type 0)
        → P (peer.faults a.peer.now) (peer.faults b.peer.now) → P (peer.faults first) (peer.faults mid)
    failed_faults some = some_faults disk peer a b rests first mid disk_is first_is mid_is lines some

    module _ (last : T) (flush : WentOn disk peer rests mid last) (same : peer.taken last ≡ peer.taken mid)
        (of_put : (t : T) (piece : List ℕ) → peer.was_put t piece mid → peer.was_put t piece last) where
      took : TookAll (lent_told disk peer a b) lines → TookAll (peer_took peer first mid) lines
      took all = all_took disk peer a b rests first mid disk_is first_is mid_is lines all

      kept_so : (ls : Lines) → 0 < length ls → TookAll (peer_took peer first mid) ls → TookAll (peer_took peer first last) ls
      kept_so [] some all = absurd (omega (arith, some))
      kept_so (line ∷ ls) some all = all_still peer.taken peer.was_put peer.faults mid last of_put same first line ls all

      cut_so : (ls : Lines) → 0 < length ls → TookAll (peer_took peer first mid) ls → TookSome (peer_took peer first last) ls
      cut_so [] some all = absurd (omega (arith, some))
      cut_so (line ∷ ls) some all = all_then peer.taken peer.was_put peer.faults mid last of_put same first line ls all

      -- all was printed
      pub handed_whole : 0 < length lines → TookAll (lent_told disk peer a b) lines → TookAll (peer_took peer first last) lines
      handed_whole some all = kept_so lines some (took all)

      pub handed_part : 0 < length lines → TookAll (lent_told disk peer a b) lines → TookSome (peer_took peer first last) lines
      handed_part some all = cut_so lines some (took all)

      pub handed_on_beside : TookAll (lent_told disk peer a b) lines → IsBeside disk peer rests first last lines
      handed_on_beside all = is_beside disk peer rests first last lines
          (handed_beside disk peer rests first mid last lines
          (all_beside disk peer a b rests first mid disk_is first_is mid_is lines all) flush same)

      pub handed_still : TookAll (lent_told disk peer a b) lines → peer.faults b.peer.now ≡ peer.faults a.peer.now
          → peer.faults mid ≡ peer.faults first
      handed_still all is = all_faults disk peer a b rests first mid disk_is first_is mid_is lines all (λ x y. y ≡ x) is

      pub handed_cause : {V E : Type 0} (result : Result V E) → TookAll (lent_told disk peer a b) lines
          → peer.faults b.peer.now ≡ peer.faults a.peer.now → HasCause (peer.faults mid) (peer.faults last) result
          → HasCause (peer.faults first) (peer.faults last) result
      handed_cause result all is cause =
          subst (λ (n : ℕ). HasCause n (peer.faults last) result) (handed_still all is) cause

      -- some was printed
      pub some_handed_beside : TookSome (lent_told disk peer a b) lines → IsBeside disk peer rests first last lines
      some_handed_beside some = is_beside disk peer rests first last lines
          (handed_beside disk peer rests first mid last lines
          (some_beside disk peer a b rests first mid disk_is first_is mid_is lines some) flush same)

      pub some_handed_part : TookSome (lent_told disk peer a b) lines → TookSome (peer_took peer first last) lines
      some_handed_part some = some_still peer.taken peer.was_put peer.faults mid last of_put same first lines (failed_took some)

-- ---- an outcome that is put

module _ {D T : Type 0} (disk : DiskMeaning D) (peer : PeerMeaning T D) (a b : Lent D T) (rests : D) (first mid last : T)
    (disk_is : a.disk.now ≡ rests) (first_is : a.peer.now ≡ first) (mid_is : b.peer.ghost_name ≡ a.peer.ghost_name → mid ≡ b.peer.now)
    (flush : WentOn disk peer rests mid last) (same : peer.taken last ≡ peer.taken mid)
    (of_put : (t : T) (piece : List ℕ) → peer.was_put t piece mid → peer.was_put t piece last) (outcome : Outcome)
    (some_lines : 0 < length outcome.pieces) where
  abbrev lines : Lines
  lines = outcome.pieces

  risen : (x y z : ℕ) → Rose x y → y ≤ z → Rose x z
  risen x y z rose later = omega (arith, rose, later)

  pub finished_beside : (status : Status) → IsDelivered (lent_told disk peer a b) outcome status
      → IsBeside disk peer rests first last lines
  finished_beside status (Whole is taken all kept) =
      handed_on_beside disk peer a b rests first mid disk_is first_is mid_is lines last flush same of_put all
  finished_beside status (Cut is some rose) =
      some_handed_beside disk peer a b rests first mid disk_is first_is mid_is lines last flush same of_put some

  -- what was put is handed on
  pub finished : (status : Status) → IsDelivered (lent_told disk peer a b) outcome status → peer.faults last ≡ peer.faults mid
      → IsDelivered (peer_took peer first last) outcome status
  finished status (Whole is taken all kept) still =
      Whole is taken
      (handed_whole disk peer a b rests first mid disk_is first_is mid_is lines last flush same of_put some_lines all)
      (still ∙ handed_still disk peer a b rests first mid disk_is first_is mid_is lines last flush same of_put all kept)
  finished status (Cut is some rose) still =
      Cut is (some_handed_part disk peer a b rests first mid disk_is first_is mid_is lines last flush same of_put some)
      (subst (Rose (peer.faults first)) (sym still)
      (failed_faults disk peer a b rests first mid disk_is first_is mid_is lines some Rose rose))

  -- .. or it is not
  pub not_finished : (status : Status) → IsDelivered (lent_told disk peer a b) outcome status
      → Rose (peer.faults mid) (peer.faults last) → peer.faults mid ≤ peer.faults last
      → IsDelivered (peer_took peer first last) outcome SinkFault
  not_finished status (Whole is taken all kept) rose later =
      Cut refl (handed_part disk peer a b rests first mid disk_is first_is mid_is lines last flush same of_put some_lines all)
      (subst (λ (n : ℕ). Rose n (peer.faults last))
      (handed_still disk peer a b rests first mid disk_is first_is mid_is lines last flush same of_put all kept) rose)
  not_finished status (Cut is some earlier) rose later =
      Cut refl (some_handed_part disk peer a b rests first mid disk_is first_is mid_is lines last flush same of_put some)
      (risen (peer.faults first) (peer.faults mid) (peer.faults last)
      (failed_faults disk peer a b rests first mid disk_is first_is mid_is lines some Rose earlier) later)
