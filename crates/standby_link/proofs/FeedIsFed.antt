-- What is fed are frames of the grants.
use Rattle.std.specs.Prelude.{true, Some, slice_get}
use Rattle.std.specs.Option.{option_map}
use Rattle.std.proofs.Common.{◌≡◌, inl, inr, ℕ, ◌+◌, ◌≤◌, ◌^◌, List, [], ◌∷◌, length, map, drop, get_or}
use Rattle.std.proofs.Common.{All, refl, sym, ◌∙◌, ap, arith}
use Rattle.std.proofs.lemmas.Bool.{cases_lt, lt-ltb}
use Rattle.std.proofs.lemmas.List.{drop_more, drop_all}
use Rattle.std.proofs.lemmas.List.Elements.{All-nil, All-cons}
use Rattle.std.proofs.lemmas.Option.{slice_get-get_or, slice_get_within}
use Rattle.lists.proofs.Elements.{All-slice_get}
use Rattle.cell_base.specs.declared.cells.Cell.{Cell}
use Rattle.cell_base.specs.declared.requests.Request.{Request}
use Rattle.cell_base.specs.declared.requests.Request.TheVariants.{Load, Process, Move, Unload, Place}
use Rattle.cell_base.specs.declared.shifts.Grant.{Grant}
use Rattle.cell_base.specs.Fits.{RequestFits}
use Rattle.entry_codec.specs.Records.{IsInRange, request_has_record}
use Rattle.entry_codec.proofs.ReadBack.{grant_of-record_of}
use Rattle.journal_format.specs.Replayed.{AreDue}
use Rattle.standby_link.specs.Fed.{FeedIsFedLaw, IsFrameOf, frames_at}
use Rattle.standby_link.specs.Frames.{frame_of, framed}
use Rattle.standby_link.proofs.Bytes.{frame_in-frame_of}

-- a request that fits a cell has a record
pub fit_has_record : (cell : Cell) (request : Request) → RequestFits cell request → request_has_record request ≡ true
fit_has_record cell (Load job kind) fits = refl
fit_has_record cell (Process machine) fits = refl
fit_has_record cell (Move job branch) fits = lt-ltb branch _ fits
fit_has_record cell (Unload job) fits = refl
fit_has_record cell (Place done kind job place) fits = refl

module _ (cell : Cell) (all : List Grant) (ranges : All IsInRange all) (few : length all ≤ 2 ^ 64) (due : AreDue cell all) where
  -- the frame of a grant is read as what it is
  one : (at : ℕ) (grant : Grant) → slice_get all at ≡ Some grant → IsFrameOf all (frame_of (framed at grant))
  one at grant here =
      let within = slice_get_within all at grant here in
      let has = fit_has_record cell grant.request
      (All-slice_get (λ (g : Grant). RequestFits cell g.request) all at grant due.fit here) in
      let is = grant_of-record_of grant (All-slice_get IsInRange all at grant ranges here) has in
      (framed at grant, frame_in-frame_of (framed at grant) (omega (arith, within, few)) is, ap (option_map (framed at)) here)

  -- where some are left of them, the first of these stands at its index
  there : (at : ℕ) (grant : Grant) (grants : List Grant) → grant ∷ grants ≡ drop at all
      → (slice_get all at ≡ Some grant) × (grants ≡ drop (at + 1) all)
  there at grant grants are = elim (cases_lt at (length all)) [
    | inl within ↦
        let more : grant ∷ grants ≡ get_or all at grant ∷ drop (at + 1) all = are ∙ drop_more all at grant within in
        let same : grant ≡ get_or all at grant = cc in
        let rest : grants ≡ drop (at + 1) all = cc in
        (slice_get-get_or all at grant within ∙ ap Some (sym same), rest)
    | inr past ↦ absurd (let none : grant ∷ grants ≡ [] = are ∙ drop_all at all past in cc)
  ]

  each : (at : ℕ) (grants : List Grant) → grants ≡ drop at all → All (IsFrameOf all) (map frame_of (frames_at at grants))
  each at [] are = All-nil (IsFrameOf all)
  each at (grant ∷ grants) are =
      let both = there at grant grants are in
      All-cons (IsFrameOf all) (frame_of (framed at grant)) (map frame_of (frames_at (at + 1) grants))
      (one at grant both.0) (each (at + 1) grants both.1)

pub feed_is_fed_law : (cell : Cell) → FeedIsFedLaw cell
feed_is_fed_law cell first grants ranges few due = each cell grants ranges few due first (drop first grants) refl
