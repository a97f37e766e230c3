-- The grants of a journal beside those of a start.
use Rattle.std.proofs.Common.{◌≡◌, ℕ, ◌+◌, ◌≤◌, Some, None, List, [], ◌∷◌, ◌++◌, length, map, take, drop, slice_get, refl}
use Rattle.std.proofs.Common.{sym, ap, ◌∙◌, subst, arith, append_assoc, length-append, true, Ok}
use Rattle.std.proofs.lemmas.List.{drop-map, drop_more, length-map, take-append-drop, take-map, take_at}
use Rattle.std.proofs.lemmas.Option.{get_or_from_slice_get, slice_get_within}
use Rattle.cell_base.specs.declared.cells.Cell.{Cell}
use Rattle.cell_base.specs.declared.requests.Part.{Part}
use Rattle.cell_base.specs.declared.requests.Request.{Request}
use Rattle.cell_base.specs.declared.shifts.Grant.{Grant}
use Rattle.lists.proofs.Elements.{none_past}
use Rattle.cell_base.specs.Histories.{after_requests, all_granted, replay, requests_of}
use Rattle.cell_texts.specs.Parting.{same_place}
use Rattle.journal_texts.specs.AskedSteps.{step_grant}
use Rattle.carry_commands.specs.Starts.{ArePrefix, IsOtherStart, granted_start, start_grants}
use Rattle.carry_commands.proofs.Granting.{all_granted_so, granted_later}

module _ (requests : List Request) where
  -- a prefix, and the grants after it
  parted : (front : List Grant) → ArePrefix requests front
      → start_grants requests ≡ front ++ drop (length front) (start_grants requests)
  parted front first =
      sym (take-append-drop (length front) (start_grants requests))
      ∙ ap (λ (grants : List Grant). grants ++ drop (length front) (start_grants requests)) (sym first)

  are_first : (front rest : List Grant) → start_grants requests ≡ front ++ rest → ArePrefix requests front
  are_first front rest is = sym (take_at front rest (length front) refl) ∙ ap (take (length front)) (sym is)

  -- a prefix has at most as many grants as there are requests
  pub within : (front : List Grant) → ArePrefix requests front → length front ≤ length requests
  within front first =
      omega (
        arith,
        ap (λ (grants : List Grant). length grants) (parted front first),
        length-append front (drop (length front) (start_grants requests)),
        length-map requests step_grant,
      )

  -- what comes after a prefix begins with the next one
  next_is : (k : ℕ) (request : Request) → slice_get requests k ≡ Some request
      → drop k (start_grants requests) ≡ step_grant request ∷ start_grants (drop (k + 1) requests)
  next_is k request there =
      drop-map step_grant k requests
      ∙ ap (map step_grant) (drop_more requests k request (slice_get_within requests k request there)
      ∙ ap (λ (r : Request). r ∷ drop (k + 1) requests) (get_or_from_slice_get requests k request request there))

  -- a grant after a prefix
  module _ (front : List Grant) (first : ArePrefix requests front) (grant : Grant) where
    abbrev next : ℕ
    next = length front

    abbrev behind : List Grant
    behind = start_grants (drop (next + 1) requests)

    next_at : (request : Request) → slice_get requests next ≡ Some request
        → start_grants requests ≡ front ++ step_grant request ∷ behind
    next_at request there = parted front first ∙ ap (λ (grants : List Grant). front ++ grants) (next_is next request there)

    -- it is the next one of the start
    pub one_more : (request : Request) → slice_get requests next ≡ Some request → grant ≡ step_grant request
        → ArePrefix requests (front ++ grant ∷ [])
    one_more request there same =
        are_first (front ++ grant ∷ []) behind
        (next_at request there ∙ ap (λ (g : Grant). front ++ g ∷ behind) (sym same) ∙ sym (append_assoc front (grant ∷ []) behind))

    stray_at : (ArePrefix requests (front ++ grant ∷ []) → ⊥) → IsOtherStart requests (front ++ grant ∷ []) next
    stray_at strays = record {
      before = front;
      stray = grant;
      later = [];
      parted = refl;
      index = refl;
      first = first;
      strays = strays;
    }

    -- there are no more requests
    pub too_many : slice_get requests next ≡ None → IsOtherStart requests (front ++ grant ∷ []) next
    too_many none = stray_at (λ is. none_past requests next none
        (omega (arith, within (front ++ grant ∷ []) is, length-append front (grant ∷ []))))

    -- it is another
    pub another : (request : Request) → slice_get requests next ≡ Some request → (grant ≡ step_grant request → ⊥)
        → IsOtherStart requests (front ++ grant ∷ []) next
    another request there other_one = stray_at (λ is.
        let rest = drop (length (front ++ grant ∷ [])) (start_grants requests) in
        let both : front ++ grant ∷ rest ≡ front ++ step_grant request ∷ behind =
        sym (append_assoc front (grant ∷ []) rest) ∙ sym (parted (front ++ grant ∷ []) is) ∙ next_at request there in
        other_one (same_place front front grant (step_grant request) rest behind both refl))

  -- ---- what they leave

  granted_requests : (steps : List Request) → requests_of (start_grants steps) ≡ steps
  granted_requests [] = refl
  granted_requests (step ∷ steps) = ap (λ (rest : List Request). step ∷ rest) (granted_requests steps)

  -- the state after first grants is that after as many requests
  pub replayed : (cell : Cell) (opening : List Grant) → ArePrefix requests opening
      → replay cell opening ≡ after_requests cell [] (take (length opening) requests)
  replayed cell opening first =
      ap (after_requests cell [])
      (ap requests_of (first ∙ take-map step_grant (length opening) requests) ∙ granted_requests (take (length opening) requests))

  -- and the others are granted after them
  pub left_granted : (cell : Cell) (opening : List Grant) → ArePrefix requests opening → granted_start cell requests ≡ Ok tt
      → all_granted cell (replay cell opening) (drop (length opening) requests) ≡ true
  left_granted cell opening first granted =
      let n = length opening in
      subst (λ (parts : List Part). all_granted cell parts (drop n requests) ≡ true) (sym (replayed cell opening first))
      (granted_later cell [] (take n requests) (drop n requests)
      (subst (λ (rs : List Request). all_granted cell [] rs ≡ true) (sym (take-append-drop n requests))
      (all_granted_so cell [] 1 requests granted)))
