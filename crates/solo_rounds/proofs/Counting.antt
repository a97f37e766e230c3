-- How many asks are left: each takes one, and at the beginning there are no more than steps times patience.
use Rattle.std.proofs.Common.{◌≡◌, ℕ, zero, suc, ◌+◌, ◌-◌, ◌*◌, ◌<◌, ◌≤◌, Some, List, [], ◌∷◌, length, All}
use Rattle.std.proofs.Common.{slice_get, slice_set, slice_index_or, replicate, refl, ap, subst, arith}
use Rattle.std.specs.List.{sum_by}
use Rattle.std.proofs.lemmas.Option.{same_Some, get_or_from_slice_get, slice_get_within}
use Rattle.std.proofs.lemmas.List.Sums.{sum_by-cons, sum_by_more_le}
use Rattle.std.proofs.lemmas.List.Elements.{All-get_or}
use Rattle.cell_base.specs.declared.cells.Cell.{Cell}
use Rattle.cell_base.specs.declared.requests.Request.{Request}
use Rattle.cell_base.specs.declared.requests.Reply.{Reply}
use Rattle.cell_base.specs.declared.requests.Reply.TheVariants.{Granted, Refused}
use Rattle.cell_base.specs.declared.requests.Told.TheVariants.{Answered}
use Rattle.cell_base.specs.declared.shifts.Shift.{Shift}
use Rattle.cell_base.specs.Fits.{RequestFits, ShiftFits, steps_of}
use Rattle.cell_base.specs.Scripts.{Progress, begin_at, progress_after, script_of}
use Rattle.solo_rounds.proofs.Ends.{same_everywhere}
use Rattle.solo_rounds.specs.Underway.{progress_at, script_asks_left, asks_left, CanGoOn, IsReady}

-- a grant and a refusal each take one from what is left
after_grant : (len step patience refusals : ℕ) → step < len → refusals < patience
    → (len - (step + 1)) * patience - 0 < (len - step) * patience - refusals
after_grant len step patience refusals h p =
    let next : len - step ≡ (len - (step + 1)) + 1 = omega arith in
    rw next (omega arith)

after_refusal : (len step patience refusals : ℕ) → step < len → refusals < patience
    → (len - step) * patience - (refusals + 1) < (len - step) * patience - refusals
after_refusal len step patience refusals h p =
    let next : len - step ≡ (len - (step + 1)) + 1 = omega arith in
    rw next (omega arith)

pub script_asks_left-falls : (script : List Request) (patience : ℕ) (at next : Progress) (reply : Reply)
    → at.step < length script
    → at.refusals < patience
    → next ≡ progress_after at (Answered reply)
    → script_asks_left patience script next < script_asks_left patience script at
script_asks_left-falls script patience at next Granted step patient goes =
    let step_is : next.step ≡ at.step + 1 = ap (λ (p : Progress). p.step) goes in
    let refusals : next.refusals ≡ 0 = ap (λ (p : Progress). p.refusals) goes in
    rw (step_is, refusals) (after_grant (length script) at.step patience at.refusals step patient)
script_asks_left-falls script patience at next (Refused why) step patient goes =
    let step_is : next.step ≡ at.step = ap (λ (p : Progress). p.step) goes in
    let refusals : next.refusals ≡ at.refusals + 1 = ap (λ (p : Progress). p.refusals) goes in
    rw (step_is, refusals) (after_refusal (length script) at.step patience at.refusals step patient)

pub asks_left-set : (patience : ℕ) (scripts : List (List Request)) (progress : List Progress) (k : ℕ)
    (script : List Request) (next : Progress)
    → slice_get scripts k ≡ Some script
    → k < length progress
    → asks_left patience scripts (slice_set progress k next) + script_asks_left patience script (progress_at progress k) ≡
    asks_left patience scripts progress + script_asks_left patience script next
asks_left-set patience [] progress k script next is within = cc
asks_left-set patience (s ∷ ss) [] k script next is within = absurd (omega arith)
asks_left-set patience (s ∷ ss) (t ∷ ts) zero script next is within = let same : s ≡ script = same_Some s script is in rw same (omega arith)
asks_left-set patience (s ∷ ss) (t ∷ ts) (suc k) script next is within =
    omega (arith, asks_left-set patience ss ts k script next is (omega arith))

pub asks_left-replicate : (patience : ℕ) (scripts : List (List Request)) (n : ℕ) → length scripts ≤ n
    → asks_left patience scripts (replicate n (begin_at 0)) ≡ sum_by length scripts * patience
asks_left-replicate patience [] n h = omega arith
asks_left-replicate patience (s ∷ ss) zero h = absurd (omega arith)
asks_left-replicate patience (s ∷ ss) (suc n) h =
    let first : (length s - 0) * patience ≡ length s * patience = ap (λ m. m * patience) (omega arith) in
    rw (sum_by-cons (length {A = Request}) s ss, asks_left-replicate patience ss n (omega arith)) (omega (arith, first))

-- a script is no longer than all together, and its requests fit
pub length-script-le : (scripts : List (List Request)) (k : ℕ) (script : List Request) → slice_get scripts k ≡ Some script
    → length script ≤ sum_by length scripts
length-script-le scripts k script is =
    let at : slice_index_or scripts k [] ≡ script = get_or_from_slice_get scripts k script [] is in
    rw (← at) (omega (arith, sum_by_more_le (length {A = Request}) scripts k [] (slice_get_within scripts k script is)))

pub script_fits : (cell : Cell) (scripts : List (List Request)) (k : ℕ) (script : List Request)
    → slice_get scripts k ≡ Some script → All (All (RequestFits cell)) scripts → All (RequestFits cell) script
script_fits cell scripts k script is all =
    subst (λ s. All (RequestFits cell) s) (get_or_from_slice_get scripts k script [] is)
    (All-get_or (All (RequestFits cell)) scripts k [] (slice_get_within scripts k script is) all)

-- the script of session k + 1
pub script_at : (shift : Shift) (k : ℕ) (script : List Request) → slice_get shift.scripts k ≡ Some script → script_of shift (k + 1) ≡ script
script_at shift k script is = let at : k + 1 - 1 ≡ k = omega arith in rw (at, is) refl

-- at the beginning
pub ready_at_start : (cell : Cell) (shift : Shift) (spare : ℕ) (first : Progress) → first ≡ begin_at 0 → ShiftFits cell shift
    → steps_of shift * shift.patience ≤ spare → IsReady shift (replicate 64 first) spare
ready_at_start cell shift spare first is fits room =
    rw is
    (record {
      count = refl;
      within = λ k inside. rw (same_everywhere {X = Progress} 64 k (begin_at 0)) (record { step = omega arith; refusals = omega arith });
      room = rw (asks_left-replicate shift.patience shift.scripts 64 fits.sessions.1) room;
    })

pub can_go_on_at_start : (cell : Cell) (shift : Shift) (first : Progress) → first ≡ begin_at 0 → ShiftFits cell shift
    → CanGoOn shift (replicate 64 first) × (asks_left shift.patience shift.scripts (replicate 64 first) ≤ steps_of shift * shift.patience)
can_go_on_at_start cell shift first is fits =
    let ready = ready_at_start cell shift (steps_of shift * shift.patience) first is fits (omega arith) in
    (record { count = ready.count; within = ready.within; room = omega arith }, ready.room)
