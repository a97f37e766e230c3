-- The lines that asks in turn are told, the entries that they tell, and the grants of these.
use Rattle.std.proofs.Common.{◌≡◌, List, [], ◌∷◌, ◌++◌, refl, sym, ap, ◌∙◌, append_assoc}
use Rattle.cell_base.specs.declared.cells.Cell.{Cell}
use Rattle.cell_base.specs.declared.shifts.Entry.{Entry}
use Rattle.cell_base.specs.declared.shifts.Grant.{Grant}
use Rattle.cell_base.specs.Histories.{grants}
use Rattle.serve_command.specs.Talks.{Talk, Telling, added_by, entries_in, entries_of_telling, said_to, since, talk_after, talk_after_one, told_in_turn}
use Rattle.serve_command.specs.declared.asks.Ask.{Ask}
use Rattle.serve_command.proofs.Settled.{grants-append}

-- ---- entries and grants

pub entries-append : (told later : List Telling) → entries_in (told ++ later) ≡ entries_in told ++ entries_in later
entries-append [] later = refl
entries-append (t ∷ told) later =
    ap (λ (es : List Entry). entries_of_telling t ++ es) (entries-append told later)
    ∙ sym (append_assoc (entries_of_telling t) (entries_in told) (entries_in later))

-- the grants of lines
abbrev pub grants_in : List Telling → List Grant
grants_in told = grants 0 (entries_in told)

pub grants_in-append : (told later : List Telling) → grants_in (told ++ later) ≡ grants_in told ++ grants_in later
grants_in-append told later = ap (grants 0) (entries-append told later) ∙ grants-append (entries_in told) (entries_in later)

-- ---- asks after asks

module _ (cell : Cell) where
  pub told-append : (talk : Talk) (asks more : List Ask)
      → told_in_turn cell talk (asks ++ more) ≡ told_in_turn cell talk asks ++ told_in_turn cell (talk_after cell talk asks) more
  told-append talk [] more = refl
  told-append talk (ask ∷ asks) more =
      let next = talk_after_one cell talk ask in
      let now = (said_to cell talk ask).told in
      ap (λ (l : List Telling). now ++ l) (told-append next asks more)
      ∙ sym (append_assoc now (told_in_turn cell next asks) (told_in_turn cell (talk_after cell next asks) more))

  -- the grants that are added are those of the lines
  pub since-lines : (talk : Talk) (asks : List Ask) → since cell talk asks ≡ grants_in (told_in_turn cell talk asks)
  since-lines talk [] = refl
  since-lines talk (ask ∷ asks) =
      let next = talk_after_one cell talk ask in
      ap (λ (gs : List Grant). added_by cell talk ask ++ gs) (since-lines next asks)
      ∙ sym (grants_in-append (said_to cell talk ask).told (told_in_turn cell next asks))
