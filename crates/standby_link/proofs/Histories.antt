-- A history with one entry more, and where it holds a halt; and grants with one more.
use Rattle.std.specs.Prelude.{Option, Some, None, Bool, true, false, cond}
use Rattle.std.specs.List.{position_from}
use Rattle.std.proofs.Common.{◌≡◌, ℕ, ◌+◌, List, [], ◌∷◌, ◌++◌, length, refl, ◌∙◌, sym, ap, arith}
use Rattle.std.proofs.lemmas.Iterator.Adapters.{position_from-zero}
use Rattle.std.proofs.lemmas.List.{map-append}
use Rattle.cell_base.specs.declared.cells.Cell.{Cell}
use Rattle.cell_base.specs.declared.requests.Part.{Part}
use Rattle.cell_base.specs.declared.requests.Request.{Request}
use Rattle.cell_base.specs.declared.shifts.Entry.{Entry}
use Rattle.cell_base.specs.declared.shifts.Grant.{Grant}
use Rattle.cell_base.specs.Histories.{after_requests, replay, requests_of}
use Rattle.cell_base.specs.Outcomes.{state_after}
use Rattle.durable_cell.specs.Asked.{is_halt, halted_at}

after_requests-push : (cell : Cell) (parts : List Part) (requests : List Request) (request : Request)
    → after_requests cell parts (requests ++ request ∷ []) ≡ state_after cell (after_requests cell parts requests) request
after_requests-push cell parts [] request = refl
after_requests-push cell parts (first ∷ requests) request = after_requests-push cell (state_after cell parts first) requests request

pub replay-push : (cell : Cell) (grants : List Grant) (grant : Grant)
    → replay cell (grants ++ grant ∷ []) ≡ state_after cell (replay cell grants) grant.request
replay-push cell grants grant =
    ap (after_requests cell []) (map-append (λ (g : Grant). g.request) grants (grant ∷ []))
    ∙ after_requests-push cell [] (requests_of grants) grant.request

-- without a halt so far, the halt is the last entry or none
halts-push : (at : ℕ) (entries : List Entry) (entry : Entry) → position_from is_halt at entries ≡ None
    → position_from is_halt at (entries ++ entry ∷ []) ≡ cond (is_halt entry) (Some (at + length entries)) None
halts-push at [] entry none = ap (λ n. cond (is_halt entry) (some n) None) (let same : at ≡ at + 0 = omega arith in same)
  where
    some : ℕ → Option ℕ
    some n = Some n
halts-push at (first ∷ entries) entry none =
    by_test (is_halt first) none (λ later. halts-push (at + 1) entries entry later
    ∙ ap (λ n. cond (is_halt entry) (some n) None)
    (let same : at + 1 + length entries ≡ at + length (first ∷ entries) = omega arith in same))
  where
    some : ℕ → Option ℕ
    some n = Some n

    by_test : (halt : Bool) → cond halt (Some at) (position_from is_halt (at + 1) entries) ≡ None
        → (position_from is_halt (at + 1) entries ≡ None
        → position_from is_halt (at + 1) (entries ++ entry ∷ []) ≡ cond (is_halt entry) (Some (at + length (first ∷ entries))) None)
        → cond halt (Some at) (position_from is_halt (at + 1) (entries ++ entry ∷ []))
        ≡ cond (is_halt entry) (Some (at + length (first ∷ entries))) None
    by_test true is later = absurd (cc)
    by_test false is later = later is

pub halted_at-push : (entries : List Entry) (entry : Entry) → halted_at entries ≡ None
    → halted_at (entries ++ entry ∷ []) ≡ cond (is_halt entry) (Some (length entries)) None
halted_at-push entries entry none =
    position_from-zero is_halt (entries ++ entry ∷ [])
    ∙ halts-push 0 entries entry (sym (position_from-zero is_halt entries) ∙ none)
    ∙ ap (λ n. cond (is_halt entry) (some n) None) (let same : 0 + length entries ≡ length entries = omega arith in same)
  where
    some : ℕ → Option ℕ
    some n = Some n
