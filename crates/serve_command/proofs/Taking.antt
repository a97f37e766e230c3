-- A group of lines, as it is taken line by line.
use Rattle.std.specs.Prelude.{Option}
use Rattle.std.proofs.Common.{◌≡◌, ℕ, ◌+◌, List, [], ◌∷◌, ◌++◌, length, map, refl, sym, ◌∙◌, subst, arith, append_assoc, append-nil}
use Rattle.std.proofs.lemmas.List.{length-append, map-append}
use Rattle.cell_base.specs.declared.cells.Cell.{Cell}
use Rattle.input_lines.specs.Reading.{AreLinesSoFar, LinesState}
use Rattle.serve_command.specs.Asks.{ask_of}
use Rattle.serve_command.specs.Serving.{TakesOneLine, IsAskAnswered, IsFirstGrant, IsJournalFull, IsAnsweredGroup, HasNoGroup, StandsAt, Stays}
use Rattle.serve_command.specs.Talks.{Talk, talk_after}
use Rattle.serve_command.specs.declared.asks.Ask.{Ask}
use Rattle.serve_command.specs.FirstGrants.{FirstGrant}
use Rattle.serve_command.specs.declared.server.Server.{Server}
use Rattle.serve_command.proofs.Grouping.{group_goes}

module _ {D : Type 0} where
  pub stays_same : (server : Server D) → Stays server server
  stays_same server = record { cell = refl; disk = refl; len = refl; room = refl; runs = refl; spare = refl }

  pub stays_more : (old mid new : Server D) → Stays old mid → Stays mid new → Stays old new
  stays_more old mid new stays more = record {
    cell = more.cell ∙ stays.cell;
    disk = more.disk ∙ stays.disk;
    len = more.len ∙ stays.len;
    room = more.room ∙ stays.room;
    runs = more.runs ∙ stays.runs;
    spare = more.spare ∙ stays.spare;
  }

  -- a group of so many of these lines, which were given
  abbrev pub TakenSo : Cell → Talk → ℕ → List ℕ → List (List ℕ) → Server D → LinesState → ℕ → Type 0
  TakenSo cell talk number text given server lines count =
      (group : List (List ℕ)) × IsAnsweredGroup cell talk number (map (ask_of cell) group) server
      × AreLinesSoFar text (given ++ group) lines × (length group ≡ count)

  pub begins : (server : Server D) → HasNoGroup server → (talk : Talk) (text : List ℕ) (given : List (List ℕ)) (lines : LinesState)
      → StandsAt talk server → AreLinesSoFar text given lines → TakenSo server.live.cell talk server.asked text given server lines 0
  begins server ready talk text given lines at reads = (
    [],
    record {
      cell_is = refl;
      at = at;
      replies = ready.replies;
      pending = ready.pending;
      first = subst (λ (first : Option FirstGrant). IsFirstGrant server.live.cell talk (server.asked + 1) [] first) (sym ready.first) refl;
      asked = omega arith;
    },
    subst (λ (ls : List (List ℕ)). AreLinesSoFar text ls lines) (sym (append-nil given)) reads,
    refl,
  )

  module _ (cell : Cell) (talk : Talk) (number : ℕ) (text : List ℕ) (given group : List (List ℕ)) (mid : Server D)
      (is : IsAnsweredGroup cell talk number (map (ask_of cell) group) mid) (line : List ℕ) (ask : Ask) (ask_is : ask
      ≡ ask_of cell line) where
    abbrev behind : Talk
    behind = talk_after cell talk (map (ask_of cell) group)

    pub one_more : (new : Server D) (lines : LinesState) (count : ℕ) → length group ≡ count
        → IsAskAnswered mid.live.cell behind mid ask new → TakesOneLine mid new → AreLinesSoFar text (given ++ group ++ line ∷ []) lines
        → TakenSo cell talk number text given new lines (count + 1)
    one_more new lines count long answered goes reads =
        let answered_here = subst (λ (c : Cell). IsAskAnswered c behind mid ask new) is.cell_is answered in
        let more = group_goes cell talk number (map (ask_of cell) group) mid is (ask_of cell line) new
        (subst (λ (a : Ask). IsAskAnswered cell behind mid a new) ask_is answered_here) goes in (
          group ++ line ∷ [],
          subst (λ (asks : List Ask). IsAnsweredGroup cell talk number asks new) (sym (map-append (ask_of cell) group (line ∷ []))) more,
          subst (λ (ls : List (List ℕ)). AreLinesSoFar text ls lines) (append_assoc given group (line ∷ [])) reads,
          omega (arith, long, length-append group (line ∷ [])),
        )

    pub finds_full : IsJournalFull mid.live.cell behind ask → IsJournalFull cell behind (ask_of cell line)
    finds_full full =
        subst (λ (a : Ask). IsJournalFull cell behind a) ask_is (subst (λ (c : Cell). IsJournalFull c behind ask) is.cell_is full)
