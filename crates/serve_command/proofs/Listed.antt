-- A list that was kept is what is said of its question.
use Rattle.std.proofs.Common.{◌≡◌, ◌+◌, List, ℕ, [], ◌∷◌, ◌++◌, length, map, ap, subst, sym, ◌∙◌, arith, append_assoc, append-nil}
use Rattle.std.proofs.lemmas.List.{length-append}
use Rattle.cell_base.specs.declared.requests.Part.{Part}
use Rattle.cell_base.specs.declared.shifts.Grant.{Grant}
use Rattle.serve_command.specs.Answers.{item_line, line_number, telling_line}
use Rattle.serve_command.specs.Serving.{IsSaid, KeepsWaiters, StandsAt, TakesOneLine, first_after}
use Rattle.serve_command.specs.Talks.{Replies, Talk, said_listed}
use Rattle.serve_command.specs.declared.asks.Ask.{Ask}
use Rattle.serve_command.specs.declared.server.Server.{Server}
use Rattle.serve_command.proofs.Answering.{first_same}
use Rattle.serve_command.proofs.Listing.{grants-listed, lines-listed}

-- a head was kept, and then these lines
pub kept_after : {D : Type 0} (old mid new : Server D) (head : List ℕ) (lines : Server D → List (List ℕ))
    → mid ≡ record old { replies = old.replies ++ head ∷ []; asked = line_number (old.asked + 1) }
    → new ≡ record mid { replies = mid.replies ++ lines mid }
    → new ≡ record old {
      replies = old.replies ++ head ∷ lines (record old { replies = old.replies ++ head ∷ []; asked = line_number (old.asked + 1) });
      asked = line_number (old.asked + 1);
    }
kept_after old mid new head lines kept more =
    let last = lines (record old { replies = old.replies ++ head ∷ []; asked = line_number (old.asked + 1) }) in
    more ∙ (λ i. record (kept i) { replies = (kept i).replies ++ lines (kept i) })
    ∙ (λ i. record old { replies = append_assoc old.replies (head ∷ []) last i; asked = line_number (old.asked + 1) })

-- one line more is kept
pub line_more : {D : Type 0} (start now : Server D) (lines : List (List ℕ)) → now ≡ record start { replies = start.replies ++ lines }
    → (line : List ℕ) (replies : List (List ℕ)) → replies ≡ now.replies ++ line ∷ []
    → record now { replies = replies } ≡ record start { replies = start.replies ++ (lines ++ line ∷ []) }
line_more start now lines is line replies more =
    let longer = (λ i. (is i).replies ++ line ∷ []) ∙ append_assoc start.replies lines (line ∷ []) in
    (λ i. record (is i) { replies = more i }) ∙ (λ i. record start { replies = longer i })

-- a list was kept
module _ {D : Type 0} (old new : Server D) (word : List ℕ) (parts : List Part) (head : List ℕ)
    (is : new ≡ record old {
      replies = old.replies ++ head ∷ map (item_line old.live.cell word) parts;
      asked = line_number (old.asked + 1);
    }) where
  pub listed_said : (talk : Talk) (ask : Ask) (halted : List ℕ) → StandsAt talk old
      → head ≡ telling_line old.live.cell talk.granted (line_number (old.asked + 1)) (Replies ask)
      → IsSaid old.live.cell talk old halted (said_listed talk ask word parts) new
  listed_said talk ask halted at head_is =
      let cell = old.live.cell in
      let number = line_number (old.asked + 1) in
      let none = grants-listed word parts in
      let kept : Server D =
      record old { replies = old.replies ++ head ∷ map (item_line cell word) parts; asked = line_number (old.asked + 1) } in
      let still : StandsAt talk kept =
      record { fit = at.fit; parts = at.parts; counts = at.counts; number = at.number; waiters = at.waiters } in
      record {
        at = subst (λ (gs : List Grant). StandsAt (record { granted = gs; waiters = talk.waiters }) new)
            (sym (ap (λ (gs : List Grant). talk.granted ++ gs) none ∙ append-nil talk.granted))
            (subst (StandsAt talk) (sym is) still);
        replies = ap (λ (s : Server D). s.replies) is
            ∙ (λ i. old.replies ++ head_is i ∷ sym (lines-listed cell talk.granted number word parts) i);
        pending = ap (λ (s : Server D). s.live.pending) is
            ∙ sym (ap (λ (gs : List Grant). old.live.pending ++ gs) none ∙ append-nil old.live.pending);
        first = ap (λ (s : Server D). s.first) is
            ∙ sym (ap (first_after old.first (length old.replies) halted) none ∙ first_same old.first (length old.replies) halted);
      }

  pub listed_goes : TakesOneLine old new
  listed_goes = record {
    stays = record {
      cell = ap (λ (s : Server D). s.live.cell) is;
      disk = ap (λ (s : Server D). s.live.disk) is;
      len = ap (λ (s : Server D). s.live.len) is;
      room = ap (λ (s : Server D). s.live.room) is;
      runs = ap (λ (s : Server D). s.live.is_halted) is;
      spare = ap (λ (s : Server D). s.live.spare + length s.live.pending) is;
    };
    told = omega (
      arith,
      ap (λ (s : Server D). length s.live.pending) is,
      ap (λ (s : Server D). length s.replies) is,
      length-append old.replies (head ∷ map (item_line old.live.cell word) parts),
    );
    asked = ap (λ (s : Server D). s.asked) is;
  }

  pub listed_waiters : KeepsWaiters old → KeepsWaiters new
  listed_waiters kept =
      subst KeepsWaiters (sym is) (record { fit = kept.fit; watching = kept.watching; few = kept.few; room = kept.room })
