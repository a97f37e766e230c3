-- A history with one entry more.
use Rattle.std.proofs.Common.{◌≡◌, List, [], ◌∷◌, ◌++◌, refl}
use Rattle.cell_base.specs.declared.cells.Cell.{Cell}
use Rattle.cell_base.specs.declared.requests.Part.{Part}
use Rattle.cell_base.specs.declared.shifts.Entry.{Entry}
use Rattle.cell_base.specs.Histories.{after, state_after_entry}
use Rattle.cell_base.specs.Scripts.{Progress, progress_after, progress_through}

pub after-push : (cell : Cell) (parts : List Part) (entries : List Entry) (entry : Entry)
    → after cell parts (entries ++ entry ∷ []) ≡ state_after_entry cell (after cell parts entries) entry.request entry.told
after-push cell parts [] entry = refl
after-push cell parts (e ∷ es) entry = after-push cell (state_after_entry cell parts e.request e.told) es entry

pub progress_through-push : (at : Progress) (entries : List Entry) (entry : Entry)
    → progress_through at (entries ++ entry ∷ []) ≡ progress_after (progress_through at entries) entry.told
progress_through-push at [] entry = refl
progress_through-push at (e ∷ es) entry = progress_through-push (progress_after at e.told) es entry
