-- The masks by the numbers of the stages, and the neighborhoods that they tell of.
use Rattle.std.proofs.Common.{◌≡◌, ℕ, zero, suc, ◌+◌, ◌<◌, ◌≤◌, ◌≢◌, Bool, true, false, cond, List, [], ◌∷◌, ◌++◌, length}
use Rattle.std.proofs.Common.{map, get_or, set, get_or-set_same, get_or-set_other, ap, refl, sym, ◌∙◌, ⊎_elim, arith}
use Rattle.std.specs.List.{filter, range_with_len}
use Rattle.std.proofs.lemmas.Bool.{cases_eq}
use Rattle.std.proofs.lemmas.List.{length-map, get_or-map, map-append, ext_get_or}
use Rattle.std.proofs.lemmas.List.Elements.{filter-append}
use Rattle.std.proofs.lemmas.List.FromFn.{fill_by_all, filter_of_map_range_with_len_more}
use Rattle.cell_base.specs.declared.cells.Cell.{Cell}
use Rattle.cell_base.specs.Masks.{has_bit}
use Rattle.cell_base.specs.Stages.{stage, stages}
use Rattle.cell_base.specs.Numbers.{IsNumber, stage_numbered}
use Rattle.cell_base.specs.Neighborhoods.{leads, mask_of, masks_of, neighborhood}
use Rattle.cell_base.specs.Fits.{CellFits}
use Rattle.policy_laws.proofs.Growing.{numbers_more}
use Rattle.policy_laws.proofs.Numbering.{numbering_law}
use Rattle.policy_laws.proofs.Masks.{length-masks_of, bit_at_number}
use Rattle.route_table.specs.declared.stage_table.StageNo.{StageNo}
use Rattle.upstream_sets.specs.Members.{stage_no, with_bit_before, with_bit}
use Rattle.upstream_sets.specs.Sweeps.{KnowsMasks}

module _ (cell : Cell) where
  -- masks that are known from the first on are all masks
  pub masks_whole : (masks : List ℕ) → length masks ≡ length (stages cell) → KnowsMasks cell 0 masks → masks ≡ masks_of cell
  masks_whole masks long known =
      ext_get_or 0 masks (masks_of cell) (long ∙ sym (length-map (stages cell) (mask_of cell)))
      (λ n within. known n (omega arith) (omega arith)
      ∙ sym (get_or-map (mask_of cell) (stages cell) n (stage 0 0) 0 (omega arith)))

  -- the masks are known one stage more
  pub KnowsMasks-set : (from at : ℕ) (masks : List ℕ) (mask : ℕ) → at + 1 ≡ from → at < length masks
      → mask ≡ mask_of cell (stage_numbered cell at) → KnowsMasks cell from masks → KnowsMasks cell at (set masks at mask)
  KnowsMasks-set from at masks mask e within is known n behind inside =
      ⊎_elim
      (λ (here : n ≡ at). rw here (get_or-set_same masks at mask 0 within ∙ is))
      (λ (other : n ≢ at). get_or-set_other masks at n mask 0 other ∙ known n (omega arith) inside)
      (cases_eq n at)

  -- the stages are those of the numbers from 0
  all_stages : stages cell ≡ map (stage_numbered cell) (range_with_len 0 (length (stages cell)))
  all_stages = fill_by_all (stage_numbered cell) (stages cell) (length (stages cell)) (stage 0 0) refl (λ k within. refl)

abbrev pub of_number : ℕ → StageNo
of_number k = record { 0 = k }

-- one mask more
pub with_bit_before-next : (n : ℕ) (masks : List ℕ) (r : ℕ)
    → with_bit_before (n + 1) masks r ≡ with_bit_before n masks r ++ cond (has_bit (get_or masks n 0) r) (of_number n ∷ []) []
with_bit_before-next n masks r =
    ap (λ ks. map of_number (filter (λ k. has_bit (get_or masks k 0) r) ks)) (numbers_more n)
    ∙ ap (map of_number) (filter-append (λ k. has_bit (get_or masks k 0) r) (range_with_len 0 n) (n ∷ []))
    ∙ map-append of_number (filter (λ k. has_bit (get_or masks k 0) r) (range_with_len 0 n))
    (filter (λ k. has_bit (get_or masks k 0) r) (n ∷ []))
    ∙ ap (λ ks. with_bit_before n masks r ++ ks) (one (has_bit (get_or masks n 0) r))
  where
    one : (b : Bool) → map of_number (cond b (n ∷ []) []) ≡ cond b (of_number n ∷ []) []
    one true = refl
    one false = refl

module _ (cell : Cell) (fits : CellFits cell) (masks : List ℕ) (made : masks ≡ masks_of cell) (r : ℕ) where
  -- the members among the first stages
  abbrev members_before : ℕ → List StageNo
  members_before n = map (stage_no cell) (filter (λ s. leads cell s r) (map (stage_numbered cell) (range_with_len 0 n)))

  members_before-next : (n : ℕ) → members_before (n + 1)
      ≡ members_before n ++ cond (leads cell (stage_numbered cell n) r) (stage_no cell (stage_numbered cell n) ∷ []) []
  members_before-next n =
      ap (map (stage_no cell)) (filter_of_map_range_with_len_more (λ s. leads cell s r) (stage_numbered cell) 0 n n (omega arith))
      ∙ map-append (stage_no cell) (filter (λ s. leads cell s r) (map (stage_numbered cell) (range_with_len 0 n))) _
      ∙ ap (λ ks. members_before n ++ ks) (one (leads cell (stage_numbered cell n) r))
    where
      one : (b : Bool) → map (stage_no cell) (cond b (stage_numbered cell n ∷ []) [])
          ≡ cond b (stage_no cell (stage_numbered cell n) ∷ []) []
      one true = refl
      one false = refl

  same_before : (n : ℕ) → n ≤ length (stages cell) → with_bit_before n masks r ≡ members_before n
  same_before zero within = refl
  same_before (suc n) within =
      let next : suc n ≡ n + 1 = omega arith in
      let number : IsNumber cell n = omega arith in
      ap (λ k. with_bit_before k masks r) next
      ∙ with_bit_before-next n masks r
      ∙ ap (λ ks. ks ++ cond (has_bit (get_or masks n 0) r) (of_number n ∷ []) []) (same_before n (omega arith))
      ∙ ap (λ b. members_before n ++ cond b (of_number n ∷ []) []) (bit_at_number cell fits masks made n r number)
      ∙ ap (λ k. members_before n ++ cond (leads cell (stage_numbered cell n) r) (of_number k ∷ []) [])
      (sym ((numbering_law cell).counted n number))
      ∙ sym (members_before-next n)
      ∙ sym (ap members_before next)

  pub members_are : with_bit masks r ≡ map (stage_no cell) (neighborhood cell r)
  members_are =
      ap (λ n. with_bit_before n masks r) (ap length made ∙ length-masks_of cell)
      ∙ same_before (length (stages cell)) (omega arith)
      ∙ ap (λ ss. map (stage_no cell) (filter (λ s. leads cell s r) ss)) (sym (all_stages cell))
