-- States after lists that are joined, and what of them is granted.
use Rattle.std.proofs.Common.{◌≡◌, Bool, true, false, ◌&&◌, List, [], ◌∷◌, ◌++◌, append_assoc, refl, sym, ap, ◌∙◌}
use Rattle.cell_base.specs.declared.cells.Cell.{Cell}
use Rattle.cell_base.specs.declared.requests.Part.{Part}
use Rattle.cell_base.specs.declared.requests.Request.{Request}
use Rattle.cell_base.specs.declared.shifts.Entry.{Entry}
use Rattle.cell_base.specs.Histories.{is_granted, state_after_entry, after, after_requests, all_granted}
use Rattle.cell_base.specs.Outcomes.{reply_to, state_after}
use Rattle.shift_checker.specs.Judging.{granted_requests}
use Rattle.shift_checker.proofs.Carrying.{granted_more}

pub after-append : (cell : Cell) (parts : List Part) (xs ys : List Entry)
    → after cell parts (xs ++ ys) ≡ after cell (after cell parts xs) ys
after-append cell parts [] ys = refl
after-append cell parts (x ∷ xs) ys = after-append cell (state_after_entry cell parts x.request x.told) xs ys

pub granted-append : (cell : Cell) (xs ys : List Entry) → granted_requests (xs ++ ys) ≡ granted_requests xs ++ granted_requests ys
granted-append cell [] ys = refl
granted-append cell (x ∷ xs) ys =
    granted_more cell x (xs ++ ys)
    ∙ ap (λ rs. granted_requests (x ∷ []) ++ rs) (granted-append cell xs ys)
    ∙ sym (append_assoc (granted_requests (x ∷ [])) (granted_requests xs) (granted_requests ys))
    ∙ ap (λ rs. rs ++ granted_requests ys) (sym (granted_more cell x xs))

pub all_granted-append : (cell : Cell) (parts : List Part) (xs ys : List Request)
    → all_granted cell parts (xs ++ ys) ≡ (all_granted cell parts xs && all_granted cell (after_requests cell parts xs) ys)
all_granted-append cell parts [] ys = refl
all_granted-append cell parts (x ∷ xs) ys =
    rw (all_granted-append cell (state_after cell parts x) xs ys) (sym (both (is_granted (reply_to cell parts x))
    (all_granted cell (state_after cell parts x) xs) (all_granted cell (after_requests cell (state_after cell parts x) xs) ys)))
  where
    both : (a b c : Bool) → ((a && b) && c) ≡ (a && (b && c))
    both true b c = refl
    both false b c = refl
