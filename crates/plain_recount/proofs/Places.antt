-- Rows that are filled from their ends: a stage leads to a resource by its own step, or by a stage that may follow.
use Rattle.std.proofs.Common.{◌≡◌, ℕ, ◌+◌, ◌<◌, ◌==◌, nat_le, ◌||◌, ◌&&◌, List}
use Rattle.std.proofs.Common.{length, map, All, Contains, get_or, set}
use Rattle.std.proofs.Common.{get_or-set_same, get_or-set_other, ◌≢◌, ⊎_elim, ap, ◌∙◌, sym, arith}
use Rattle.std.specs.List.{list_any}
use Rattle.std.proofs.lemmas.Bool.{cases_eq}
use Rattle.std.proofs.lemmas.List.Elements.{All-contains}
use Rattle.cell_base.specs.declared.cells.Cell.{Cell}
use Rattle.cell_base.specs.Stages.{stage, IsStage, route_of, successors, resource_at, order_at, order_of}
use Rattle.cell_base.specs.Masks.{has_bit}
use Rattle.cell_base.specs.Neighborhoods.{leads, mask_of}
use Rattle.cell_base.specs.Fits.{CellFits}
use Rattle.plain_recount.specs.Leading.{KnowsAfter}
use Rattle.policy_laws.proofs.Lists.{list_any_agree, list_any-map}
use Rattle.policy_laws.proofs.Masks.{mask_law}
use Rattle.policy_laws.proofs.Leading.{leads_sweep}

module _ (cell : Cell) (fits : CellFits cell) (r kind place : ℕ) where
  -- a later place of the route
  abbrev IsLater : ℕ → Type 0
  IsLater p = (place < p) × (p < length (route_of cell kind))

  -- what a row that is filled from its end says of the stage before it
  pub leads-by_row : (row : List ℕ) (next : List ℕ) → IsStage cell (stage kind place)
      → map (stage kind) next ≡ successors cell (stage kind place) → All IsLater next → KnowsAfter cell kind (place + 1) row
      → leads cell (stage kind place) r
      ≡ ((resource_at cell (stage kind place) == r)
      || (nat_le (order_at cell (stage kind place)) (order_of cell r) && list_any (λ p. has_bit (get_or row p 0) r) next))
  leads-by_row row next at is later known =
      leads_sweep cell fits r (stage kind place) at
      ∙ ap (λ some. (resource_at cell (stage kind place) == r) ||
      (nat_le (order_at cell (stage kind place)) (order_of cell r) && some)) same
    where
      reads : (p : ℕ) → Contains next p → leads cell (stage kind p) r ≡ has_bit (get_or row p 0) r
      reads p c =
          let after : IsLater p = All-contains IsLater next p later c in
          sym (ap (λ mask. has_bit mask r) (known p (omega arith) after.1) ∙ mask_law cell fits (stage kind p) r)

      same : list_any (λ t. leads cell t r) (successors cell (stage kind place)) ≡ list_any (λ p. has_bit (get_or row p 0) r) next
      same =
          ap (list_any (λ t. leads cell t r)) (sym is)
          ∙ list_any-map (λ t. leads cell t r) (stage kind) next
          ∙ list_any_agree (λ p. leads cell (stage kind p) r) (λ p. has_bit (get_or row p 0) r) next reads

-- the row knows one place more
pub KnowsAfter-set : (cell : Cell) (kind from at : ℕ) (row : List ℕ) (mask : ℕ) → at + 1 ≡ from → at < length row
    → mask ≡ mask_of cell (stage kind at) → KnowsAfter cell kind from row → KnowsAfter cell kind at (set row at mask)
KnowsAfter-set cell kind from at row mask e within is known p behind inside =
    ⊎_elim
    (λ (here : p ≡ at). rw here (get_or-set_same row at mask 0 within ∙ is))
    (λ (other : p ≢ at). get_or-set_other row at p mask 0 other ∙ known p (omega arith) inside)
    (cases_eq p at)
