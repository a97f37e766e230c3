-- What a scan tells is decided in turn: each entry by its outcome, after the grants before it.
use Rattle.std.specs.Prelude.{⊤}
use Rattle.std.proofs.Common.{◌≡◌, ℕ, zero, suc, Some, None, List, [], ◌∷◌, ◌++◌, refl, sym, ap, subst, ◌∙◌, append_assoc, append-nil, find}
use Rattle.std.specs.Option.{option_map_or}
use Rattle.cell_base.specs.declared.cells.Cell.{Cell}
use Rattle.cell_base.specs.declared.requests.Part.{Part}
use Rattle.cell_base.specs.declared.requests.Reply.{Reply}
use Rattle.cell_base.specs.declared.requests.Told.TheVariants.{Answered}
use Rattle.cell_base.specs.declared.shifts.Entry.{Entry}
use Rattle.cell_base.specs.declared.shifts.Grant.{Grant}
use Rattle.cell_base.specs.Histories.{IsLegal, grants, replay}
use Rattle.cell_base.specs.Outcomes.{reply_to}
use Rattle.wait_queue.specs.Waiting.{Waiting, after_wait, end_of, is_ready, served_within}
use Rattle.serve_command.specs.Talks.{entry_of}
use Rattle.serve_command.proofs.Settled.{StandsAfter, grants-append, one-more, step-stands}

module _ (cell : Cell) where
  -- ---- entries in turn

  -- each entry is told by its outcome, after the grants before it
  abbrev pub AreDecided : List Grant → List Entry → Type 0
  AreDecided before [] = ⊤
  AreDecided before (e ∷ entries) =
      (r : Reply) × (e ≡ entry_of e.session e.request (Answered r)) × (reply_to cell (replay cell before) e.request ≡ r)
      × AreDecided (before ++ grants 0 (e ∷ [])) entries

  pub decided-append : (before : List Grant) (entries later : List Entry) → AreDecided before entries
      → AreDecided (before ++ grants 0 entries) later → AreDecided before (entries ++ later)
  decided-append before [] later first second = subst (λ (gs : List Grant). AreDecided gs later) (append-nil before) second
  decided-append before (e ∷ entries) later (r, told, is, first) second =
      let same : before ++ grants 0 (e ∷ entries) ≡ (before ++ grants 0 (e ∷ [])) ++ grants 0 entries =
      ap (λ (gs : List Grant). before ++ gs) (grants-append (e ∷ []) entries)
      ∙ sym (append_assoc before (grants 0 (e ∷ [])) (grants 0 entries)) in (
        r,
        told,
        is,
        decided-append (before ++ grants 0 (e ∷ [])) entries later first (subst (λ (gs : List Grant). AreDecided gs later) same second),
      )

  -- such entries are legal
  pub decided-legal : (before : List Grant) (entries : List Entry) → AreDecided before entries
      → IsLegal cell (replay cell before) entries
  decided-legal before [] all = tt
  decided-legal before (e ∷ entries) (r, told, is, all) =
      let rest = decided-legal (before ++ grants 0 (e ∷ [])) entries all in
      subst (λ (x : Entry). IsLegal cell (replay cell before) (x ∷ entries)) (sym told) (
        is,
        subst (λ (ps : List Part). IsLegal cell ps entries)
            (ap (λ (x : Entry). replay cell (before ++ grants 0 (x ∷ []))) told ∙ sym (one-more cell before e.session e.request r is)) rest,
      )

  -- ---- a scan

  -- what it tells more, and that is decided in turn
  abbrev pub Serves : List Grant → Waiting → Waiting → Type 0
  Serves first on now =
      (more : List Entry) × (now.told ≡ on.told ++ more) × AreDecided (first ++ grants 0 on.told) more

  pub within-serves : (first : List Grant) (n : ℕ) (on : Waiting) → StandsAfter cell first on → Serves first on (served_within n cell on)
  within-serves first zero on stands = ([], sym (append-nil on.told), tt)
  within-serves first (suc n) on stands =
      elim (find (is_ready cell on.parts) on.waiters) as (λ o.
      Serves first on (option_map_or (λ waiter. served_within n cell (after_wait cell on waiter)) o on)) [
        | None ↦ ([], sym (append-nil on.told), tt)
        | Some w ↦
            let e = end_of cell on.parts w in
            let later = within-serves first n (after_wait cell on w) (step-stands cell first on w stands) in
            let same : first ++ grants 0 (on.told ++ e ∷ []) ≡ (first ++ grants 0 on.told) ++ grants 0 (e ∷ []) =
            ap (λ (gs : List Grant). first ++ gs) (grants-append on.told (e ∷ []))
            ∙ sym (append_assoc first (grants 0 on.told) (grants 0 (e ∷ []))) in (
              e ∷ later.0,
              later.1 ∙ append_assoc on.told (e ∷ []) later.0,
              (
                reply_to cell on.parts w.request,
                refl,
                ap (λ (ps : List Part). reply_to cell ps w.request) (sym stands),
                subst (λ (gs : List Grant). AreDecided gs later.0) same later.2,
              ),
            )
      ]
