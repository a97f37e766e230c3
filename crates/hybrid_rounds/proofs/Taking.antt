-- One entry more of a hybrid's history.
use Rattle.std.proofs.Common.{◌≡◌, List, [], ◌∷◌, ◌++◌, refl, ap}
use Rattle.cell_base.specs.declared.cells.Cell.{Cell}
use Rattle.cell_base.specs.declared.requests.Part.{Part}
use Rattle.banker_check.specs.Hybrid.{reply_h, state_after_h}
use Rattle.hybrid_rounds.specs.declared.entries.HybridEntry.{HybridEntry}
use Rattle.hybrid_rounds.specs.Histories.{IsLegalHybrid, after_h, all_taken, taken}

pub all_taken-push : (entries : List HybridEntry) (entry : HybridEntry)
    → all_taken (entries ++ entry ∷ []) ≡ all_taken entries ++ taken entry ∷ []
all_taken-push [] entry = refl
all_taken-push (e ∷ es) entry = ap (λ rest. taken e ∷ rest) (all_taken-push es entry)

pub after_h-push : (cell : Cell) (parts : List Part) (entries : List HybridEntry) (entry : HybridEntry)
    → after_h cell parts (entries ++ entry ∷ []) ≡ state_after_h cell (after_h cell parts entries) entry.request
after_h-push cell parts [] entry = refl
after_h-push cell parts (e ∷ es) entry = after_h-push cell (state_after_h cell parts e.request) es entry

pub IsLegalHybrid-push : (cell : Cell) (parts : List Part) (entries : List HybridEntry) (entry : HybridEntry)
    → IsLegalHybrid cell parts entries
    → reply_h cell (after_h cell parts entries) entry.request ≡ entry.told
    → IsLegalHybrid cell parts (entries ++ entry ∷ [])
IsLegalHybrid-push cell parts [] entry legal told = (told, tt)
IsLegalHybrid-push cell parts (e ∷ es) entry legal told =
    (legal.0, IsLegalHybrid-push cell (state_after_h cell parts e.request) es entry legal.1 told)
