-- What the seat of a pass holds.
use Rattle.std.proofs.Common.{◌≡◌, ℕ, List, [], ◌∷◌, sym, ap, ◌∙◌}
use Rattle.atomic_table.specs.Table.{rest}
use Rattle.durable_cell.specs.DurableState.{DurableState}
use Rattle.cell_lock.specs.Views.{AtSeat, IsHolding}

-- what the seat holds is what it took last
pub carries : {D : Type 0} (m : AtSeat D) (c : DurableState D) → m.1 ≡ (0, c) ∷ [] → (x : DurableState D) × (m.1 ≡ (0, x) ∷ rest m.1)
carries {D} m c e = (c, e ∙ ap (λ (l : List (ℕ × DurableState D)). (0, c) ∷ rest l) (sym e))

pub holding_carries : {D : Type 0} (m : AtSeat D) (c : DurableState D) → IsHolding m c → m.1 ≡ (0, c) ∷ []
holding_carries {D} m c h = ap (λ (z : AtSeat D). z.1) h.0
