-- Frames of one list of grants are taken.
use Rattle.std.specs.Prelude.{true, Option, Some, None, slice_get}
use Rattle.std.specs.Option.{option_map}
use Rattle.std.proofs.Common.{◌≡◌, inl, inr, ℕ, zero, suc, ◌<◌, List, [], ◌∷◌, ◌++◌, length}
use Rattle.std.proofs.Common.{All, refl, sym, ◌∙◌, ap, subst, arith, append_assoc}
use Rattle.std.proofs.lemmas.Bool.{cases_lt}
use Rattle.std.proofs.lemmas.List.{map-append}
use Rattle.std.proofs.lemmas.List.Elements.{All-head, All-tail}
use Rattle.std.proofs.lemmas.Option.{get_or_from_slice_get, slice_get_within}
use mathlib.Core.List.{IsPrefix}
use Rattle.cell_base.specs.declared.cells.Cell.{Cell}
use Rattle.cell_base.specs.declared.requests.Reply.TheVariants.{Granted}
use Rattle.cell_base.specs.declared.shifts.Grant.{Grant}
use Rattle.cell_base.specs.Fits.{RequestFits}
use Rattle.cell_base.specs.Histories.{all_granted, is_replay, replay, requests_of}
use Rattle.cell_base.specs.Outcomes.{reply_to}
use Rattle.policy_laws.proofs.Granting.{granted_alone}
use Rattle.journal_format.specs.Replayed.{AreDue}
use Rattle.standby_link.specs.declared.frame.Frame.{Frame}
use Rattle.standby_link.specs.Deliveries.{AreFramesTaken, IsFrameTaken, delivered, delivered_all}
use Rattle.standby_link.specs.Fed.{FedLaw, IsFrameOf}
use Rattle.standby_link.specs.Followers.{IsGrantedNext}
use Rattle.standby_link.specs.Frames.{frame_at, framed}
use Rattle.standby_link.proofs.Following.{both, granted-append, prefix_granted, received_after}
use Rattle.standby_link.proofs.Taking.{of_frame}

-- the grant of a frame stands at its index
at_index : (all : List Grant) (frame : Frame) → frame_at all frame.index ≡ Some frame → slice_get all frame.index ≡ Some frame.grant
at_index all frame is = by_get (slice_get all frame.index) refl is
  where
    by_get : (o : Option Grant) → slice_get all frame.index ≡ o → option_map (framed frame.index) o ≡ Some frame
        → slice_get all frame.index ≡ Some frame.grant
    by_get None here none = absurd (let h : None ≡ Some frame = none in cc)
    by_get (Some grant) here some =
        let same : framed frame.index grant ≡ frame = cc in here ∙ ap (λ (f : Frame). Some f.grant) same

-- what stands at an index of a list stands there in a front that reaches so far
front_get : {X : Type 0} (front rest : List X) (i : ℕ) → i < length front → slice_get (front ++ rest) i ≡ slice_get front i
front_get [] rest i within = absurd (omega (arith, within))
front_get (x ∷ front) rest zero within = refl
front_get (x ∷ front) rest (suc i) within = front_get front rest i (omega (arith, within))

-- and right after a front stands the first of the rest
behind : {X : Type 0} (front rest : List X) (x : X) → slice_get (front ++ rest) (length front) ≡ Some x
    → (more : List X) × (rest ≡ x ∷ more)
behind [] [] x is = absurd (let h : None ≡ Some x = is in cc)
behind [] (y ∷ rest) x is = let same : y ≡ x = cc in (rest, ap (λ z. z ∷ rest) same)
behind (y ∷ front) rest x is = behind front rest x is

module _ (cell : Cell) where
  -- the grant after a front is granted in its turn
  granted_later : (front : List Grant) (grant : Grant) → is_replay cell (front ++ grant ∷ []) ≡ true
      → reply_to cell (replay cell front) grant.request ≡ Granted
  granted_later front grant is =
      granted_alone (reply_to cell (replay cell front) grant.request)
      (both _ _ (both _ _ (sym (granted-append cell [] (requests_of front) (grant.request ∷ []))
      ∙ ap (all_granted cell []) (sym (map-append (λ (g : Grant). g.request) front (grant ∷ []))) ∙ is)).1).0

  module _ (all : List Grant) (due : AreDue cell all) where
    takes : (opening : List Grant) (bytes : List ℕ) → IsPrefix opening all → IsFrameOf all bytes → IsFrameTaken cell opening bytes
    takes opening bytes prefix (frame, is, there) = elim (cases_lt frame.index (length opening)) [
      | inl early ↦ inl (
        frame,
        is,
        inl (sym (front_get opening prefix.0 frame.index early)
            ∙ ap (λ (gs : List Grant). slice_get gs frame.index) prefix.1 ∙ at_index all frame there),
      )
      | inr late ↦ elim (cases_lt (length opening) frame.index) [
        | inl after_next ↦ inl (frame, is, inr after_next)
        | inr most ↦ inr (frame.grant, next (omega (arith, late, most)))
      ]
    ]
      where
        next : frame.index ≡ length opening → IsGrantedNext cell opening bytes frame.grant
        next same =
            let here = at_index all frame there in
            let more = behind opening prefix.0 frame.grant (ap (λ (gs : List Grant). slice_get gs (length opening)) prefix.1
            ∙ ap (λ (i : ℕ). slice_get all i) (sym same) ∙ here) in
            let longer : IsPrefix (opening ++ frame.grant ∷ []) all =
            (more.0, append_assoc opening (frame.grant ∷ []) more.0 ∙ ap (λ (gs : List Grant). opening ++ gs) (sym more.1) ∙ prefix.1) in
            record {
              next = is ∙ ap (λ (i : ℕ). Some (framed i frame.grant)) same;
              fits = subst (λ (g : Grant). RequestFits cell g.request) (get_or_from_slice_get all frame.index frame.grant frame.grant here)
                  (due.fit frame.index frame.grant (slice_get_within all frame.index frame.grant here));
              granted = granted_later opening frame.grant (prefix_granted cell (opening ++ frame.grant ∷ []) all longer due.granted);
            }

    stays : (opening : List Grant) (bytes : List ℕ) → IsPrefix opening all → IsFrameOf all bytes → IsPrefix (delivered opening bytes) all
    stays opening bytes prefix (frame, is, there) =
        subst (λ (gs : List Grant). IsPrefix gs all) (sym (of_frame opening bytes frame is)) (received_after opening all frame prefix there)

    each : (opening : List Grant) (frames : List (List ℕ)) → IsPrefix opening all → All (IsFrameOf all) frames
        → AreFramesTaken cell opening frames × IsPrefix (delivered_all opening frames) all
    each opening [] prefix are = (tt, prefix)
    each opening (bytes ∷ frames) prefix are =
        let here = All-head (IsFrameOf all) bytes frames are in
        let rest = each (delivered opening bytes) frames (stays opening bytes prefix here) (All-tail (IsFrameOf all) bytes frames are) in
        ((takes opening bytes prefix here, rest.0), rest.1)

  pub fed_law : FedLaw cell
  fed_law opening all frames prefix due are = each all due opening frames prefix are
