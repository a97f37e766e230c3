-- What a pass knows after it asked, from what the durable cell answered.
use Rattle.std.proofs.Common.{◌≡◌, ℕ, ◌+◌, ◌≤◌, Bool, true, false, cond, Some, None, List, [], ◌∷◌, ◌++◌, map}
use Rattle.std.proofs.Common.{length, length-append, Result, Ok, Err, refl, sym, ap, ◌∙◌, subst, arith}
use Rattle.std.specs.List.{position_from}
use Rattle.std.specs.Option.{option_map, option_or}
use Rattle.std.proofs.lemmas.Iterator.Adapters.{position_from-zero}
use Rattle.std.proofs.lemmas.List.Elements.{filter-append}
use Rattle.std.proofs.lemmas.List.Folds.{find-append}
use mathlib.Core.List.{IsPrefix, map-append}
use Rattle.cell_base.specs.declared.requests.Reply.{Reply}
use Rattle.cell_base.specs.declared.requests.Request.{Request}
use Rattle.cell_base.specs.declared.requests.Told.TheVariants.{Answered}
use Rattle.cell_base.specs.declared.requests.Told.TheVariants as told
use Rattle.cell_base.specs.declared.shifts.Entry.{Entry}
use Rattle.cell_base.specs.declared.shifts.Grant.{Grant}
use Rattle.cell_base.specs.Histories.{IsLegal, entries_of, grants, granted_entries, was_granted, replay}
use Rattle.durable_cell.specs.declared.fault.AskFault.{AskFault}
use Rattle.durable_cell.specs.declared.fault.AskFault.TheVariants.{Halted, Full, Device}
use Rattle.durable_cell.specs.Asked.{Answers, GoesOn, with_entry, entry, halted_at, halted_in, is_halt, grant_of, unsure_grant}
use Rattle.durable_cell.specs.DurableState.{DurableState, first_parts}
use Rattle.cell_lock.specs.declared.board.Opening.{Opening}
use Rattle.cell_lock.specs.Openings.{Fits, opening_of}
use Rattle.cell_lock.specs.Passes.{PassState, AddsEntry, Asked}
use Rattle.cell_lock.proofs.Histories.{prefix_more, entries-own}

-- an entry more keeps what was seen a beginning
pub asked_seen : {D : Type 0} (seen : List Entry) (shift n : ℕ) (request : Request) (answer : Result Reply AskFault) (a b : DurableState D)
    → IsPrefix seen a.history → Answers a shift n request answer b → IsPrefix seen b.history
asked_seen {D} seen shift n request (Ok reply) a b p h =
    subst (λ (x : DurableState D). IsPrefix seen x.history) (sym h.0)
    (prefix_more seen a.history (entry n request (Answered reply) ∷ []) p)
asked_seen {D} seen shift n request (Err (Halted at)) a b p h = subst (λ (x : DurableState D). IsPrefix seen x.history) (sym h.0) p
asked_seen {D} seen shift n request (Err (Full len)) a b p h = subst (λ (x : DurableState D). IsPrefix seen x.history) (sym h.0) p
asked_seen {D} seen shift n request (Err (Device at)) a b p h =
    subst (λ (x : DurableState D). IsPrefix seen x.history) (sym h.0) (prefix_more seen a.history (entry n request told.Halted ∷ []) p)

-- a pass that saw a beginning of the history, and whose own entries are those of its number, before and after
record Sees {D : Type 0} (p q : PassState D) (a b : DurableState D) : Type 0 where
  began : IsPrefix p.seen a.history
  before : p.mine ≡ entries_of p.number a.history
  seen : q.seen ≡ b.history
  own : q.mine ≡ entries_of p.number b.history

added : {D : Type 0} (p q : PassState D) (shift : ℕ) (a b : DurableState D) (e : Entry) → e.session ≡ p.number → Sees p q a b
    → b ≡ with_entry a b.disk shift e → AddsEntry p q e
added {D} p q shift a b e by sees is = record {
  before = a.history;
  began = sees.began;
  ends = sees.seen ∙ ap (λ (x : DurableState D). x.history) is;
  own = sees.own ∙ (ap (λ (x : DurableState D). entries_of p.number x.history) is
      ∙ (entries-own p.number a.history e by ∙ ap (λ (l : List Entry). l ++ e ∷ []) (sym sees.before)));
}

still : {D : Type 0} (p q : PassState D) (a b : DurableState D) → Sees p q a b → b ≡ a
    → (halted_at q.seen ≡ halted_at a.history) × (length q.seen ≡ length a.history) × (q.mine ≡ p.mine)
still {D} p q a b sees same =
    let seen : q.seen ≡ a.history = sees.seen ∙ ap (λ (x : DurableState D). x.history) same in (
      ap halted_at seen,
      ap (λ (l : List Entry). length l) seen,
      sees.own ∙ (ap (λ (x : DurableState D). entries_of p.number x.history) same ∙ sym sees.before),
    )

pub asked : {D : Type 0} (p q : PassState D) (shift : ℕ) (request : Request) (answer : Result Reply AskFault) (a b : DurableState D)
    → IsPrefix p.seen a.history → p.mine ≡ entries_of p.number a.history → q.seen ≡ b.history → q.mine ≡ entries_of p.number b.history
    → a.limit ≡ p.lock.opening.limit → Answers a shift p.number request answer b → Asked p request answer q
asked p q shift request (Ok reply) a b began before seen own limit h =
    added p q shift a b (entry p.number request (Answered reply)) refl
    (record { began = began; before = before; seen = seen; own = own }) h.0
asked p q shift request (Err (Halted at)) a b began before seen own limit h =
    let t = still p q a b (record { began = began; before = before; seen = seen; own = own }) h.0 in
    (t.0 ∙ h.1, t.2)
asked p q shift request (Err (Full len)) a b began before seen own limit h =
    let t = still p q a b (record { began = began; before = before; seen = seen; own = own }) h.0 in
    (t.0 ∙ h.1, h.2 ∙ sym t.1, h.2 ∙ (h.3 ∙ limit), t.2)
asked {D} p q shift request (Err (Device at)) a b began before seen own limit h =
    let e : Entry = entry p.number request told.Halted in
    let grew : q.seen ≡ a.history ++ e ∷ [] = seen ∙ ap (λ (x : DurableState D). x.history) h.0 in (
      added p q shift a b e refl (record { began = began; before = before; seen = seen; own = own }) h.0,
      omega (arith, h.2, ap (λ (l : List Entry). length l) grew, length-append a.history (e ∷ [])),
    )

grants-snoc : (shift : ℕ) (log : List Entry) (e : Entry) → grants shift (log ++ e ∷ []) ≡ grants shift log ++ grants shift (e ∷ [])
grants-snoc shift log e =
    let same : granted_entries (log ++ e ∷ []) ≡ granted_entries log ++ granted_entries (e ∷ []) =
    filter-append (λ (x : Entry). was_granted x.told) log (e ∷ []) in
    ap (λ es. map (grant_of shift) es) same ∙ map-append (grant_of shift) (granted_entries log) (granted_entries (e ∷ []))

-- a history that halts nowhere has no halted entry
none_halted : (n : ℕ) (log : List Entry) → position_from is_halt n log ≡ None → halted_in log ≡ None
none_halted n [] none = refl
none_halted n (e ∷ es) none = go (is_halt e) (none_halted (n + 1) es) none
  where
    go : (b : Bool) → (position_from is_halt (n + 1) es ≡ None → halted_in es ≡ None)
        → cond b (Some n) (position_from is_halt (n + 1) es) ≡ None → cond b (Some e) (halted_in es) ≡ None
    go true later none = absurd (cc)
    go false later none = later none

-- after a history without a halt, the halt is that of the entry more
halt-last : (shift : ℕ) (log : List Entry) (e : Entry) → halted_at log ≡ None
    → unsure_grant shift (log ++ e ∷ []) ≡ unsure_grant shift (e ∷ [])
halt-last shift log e none =
    ap (λ found. option_map (grant_of shift) found)
    (find-append is_halt log (e ∷ [])
    ∙ ap (λ found. option_or found (halted_in (e ∷ []))) (none_halted 0 log (sym (position_from-zero is_halt log) ∙ none)))

-- the durable cell with an entry more, or as it was, is of the same opening
record Stays {D : Type 0} (o : Opening D) (a b : DurableState D) : Type 0 where
  opened : opening_of b o.shift o.passes ≡ opening_of a o.shift o.passes
  added : b.added ≡ grants o.shift b.history
  unsure : b.unsure ≡ unsure_grant o.shift b.history

stays_longer : {D : Type 0} (o : Opening D) (a b : DurableState D) (e : Entry) → Fits o a → halted_at a.history ≡ None
    → b ≡ with_entry a b.disk o.shift e → Stays o a b
stays_longer {D} o a b e fits none is = subst (λ (x : DurableState D). Stays o a x) (sym is) record {
  opened = refl;
  added = ap (λ (l : List Grant). l ++ grants o.shift (e ∷ [])) fits.added ∙ sym (grants-snoc o.shift a.history e);
  unsure = sym (halt-last o.shift a.history e none);
}

stays_same : {D : Type 0} (o : Opening D) (a b : DurableState D) → Fits o a → b ≡ a → Stays o a b
stays_same {D} o a b fits is =
    subst (λ (x : DurableState D). Stays o a x) (sym is) record { opened = refl; added = fits.added; unsure = fits.unsure }

stays : {D : Type 0} (o : Opening D) (n : ℕ) (request : Request) (answer : Result Reply AskFault) (a b : DurableState D) → Fits o a
    → Answers a o.shift n request answer b → Stays o a b
stays o n request (Ok reply) a b fits h =
    let goes : GoesOn a = h.2 in stays_longer o a b (entry n request (Answered reply)) fits goes.no_halt h.0
stays o n request (Err (Halted at)) a b fits h = stays_same o a b fits h.0
stays o n request (Err (Full len)) a b fits h = stays_same o a b fits h.0
stays o n request (Err (Device at)) a b fits h =
    let goes : GoesOn a = h.3 in stays_longer o a b (entry n request told.Halted) fits goes.no_halt h.0

-- the durable cell after an answer is still one of the lock
pub fits_after : {D : Type 0} (o : Opening D) (n : ℕ) (request : Request) (answer : Result Reply AskFault) (a b : DurableState D)
    → Fits o a → Answers a o.shift n request answer b → IsLegal b.cell (first_parts b) b.history → length b.history ≤ b.limit → Fits o b
fits_after {D} o n request answer a b fits h legal short =
    let t : Stays o a b = stays o n request answer a b fits h in
    let same : opening_of b o.shift o.passes ≡ o = t.opened ∙ fits.same in
    record {
      same = same;
      legal = subst (λ (x : Opening D). IsLegal x.cell (replay x.cell x.grants) b.history) same legal;
      short = subst (λ (x : Opening D). length b.history ≤ x.limit) same short;
      added = t.added;
      unsure = t.unsure;
    }
