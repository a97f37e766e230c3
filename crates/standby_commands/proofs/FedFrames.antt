-- The frames of grants, one by one.
use Rattle.std.specs.Prelude.{Option, Some, None, slice_get}
use Rattle.std.specs.Option.{option_map}
use Rattle.std.proofs.Common.{◌≡◌, ℕ, ◌+◌, List, ◌∷◌, drop, refl, ◌∙◌, ap}
use Rattle.std.proofs.lemmas.List.{drop_more}
use Rattle.std.proofs.lemmas.Option.{get_or_from_slice_get, slice_get_within}
use Rattle.cell_base.specs.declared.shifts.Grant.{Grant}
use Rattle.standby_link.specs.declared.frame.Frame.{Frame}
use Rattle.standby_link.specs.Frames.{bytes_at, frame_of, framed}
use Rattle.standby_link.specs.Fed.{frames_at}

-- the frame at an index is the first of those from there on
pub frame_there : (grants : List Grant) (at : ℕ) (bytes : List ℕ) → bytes_at grants at ≡ Some bytes
    → (frame : Frame) × (bytes ≡ frame_of frame) × (frames_at at (drop at grants) ≡ frame ∷ frames_at (at + 1) (drop (at + 1) grants))
frame_there grants at bytes is = by_get (slice_get grants at) refl is
  where
    by_get : (o : Option Grant) → slice_get grants at ≡ o → option_map frame_of (option_map (framed at) o) ≡ Some bytes
        → (frame : Frame) × (bytes ≡ frame_of frame) × (frames_at at (drop at grants) ≡ frame ∷ frames_at (at + 1) (drop (at + 1) grants))
    by_get None here none = absurd (let h : None ≡ Some bytes = none in cc)
    by_get (Some grant) here some = (
      framed at grant,
      let same : Some (frame_of (framed at grant)) ≡ Some bytes = some in cc,
      ap (frames_at at) (drop_more grants at grant (slice_get_within grants at grant here)
          ∙ ap (λ (g : Grant). g ∷ drop (at + 1) grants) (get_or_from_slice_get grants at grant grant here)),
    )
