-- How a talk, the answers and the grants that asks add go on with more asks.
use Rattle.std.specs.Prelude.{Option, None, Some}
use Rattle.std.proofs.Common.{◌≡◌, ℕ, ◌+◌, List, [], ◌∷◌, ◌++◌, length, refl, sym, ap, ◌∙◌, subst, arith, append_assoc, append-nil}
use Rattle.std.proofs.lemmas.List.{length-append}
use Rattle.cell_base.specs.declared.cells.Cell.{Cell}
use Rattle.cell_base.specs.declared.shifts.Grant.{Grant}
use Rattle.serve_command.specs.Answers.{answer, answers, halted_line, line_number}
use Rattle.serve_command.specs.Serving.{TakesOneLine, IsAskAnswered, IsFirstGrant, IsAnsweredGroup, StandsAt, first_after}
use Rattle.serve_command.specs.Talks.{Talk, added_by, since, talk_after, talk_after_one}
use Rattle.serve_command.specs.declared.asks.Ask.{Ask}
use Rattle.serve_command.specs.FirstGrants.{FirstGrant}
use Rattle.serve_command.specs.declared.server.Server.{Server}

module _ (cell : Cell) where
  -- asks after asks
  pub talk-append : (talk : Talk) (first then : List Ask)
      → talk_after cell talk (first ++ then) ≡ talk_after cell (talk_after cell talk first) then
  talk-append talk [] then = refl
  talk-append talk (ask ∷ first) then = talk-append (talk_after_one cell talk ask) first then

  -- the grants after asks
  pub granted-after : (talk : Talk) (asks : List Ask) → (talk_after cell talk asks).granted ≡ talk.granted ++ since cell talk asks
  granted-after talk [] = sym (append-nil talk.granted)
  granted-after talk (ask ∷ asks) =
      let next = talk_after_one cell talk ask in
      granted-after next asks ∙ append_assoc talk.granted (added_by cell talk ask) (since cell next asks)

  pub since-append : (talk : Talk) (first then : List Ask)
      → since cell talk (first ++ then) ≡ since cell talk first ++ since cell (talk_after cell talk first) then
  since-append talk [] then = refl
  since-append talk (ask ∷ first) then =
      let more = added_by cell talk ask in
      let next = talk_after_one cell talk ask in
      ap (λ (gs : List Grant). more ++ gs) (since-append next first then)
      ∙ sym (append_assoc more (since cell next first) (since cell (talk_after cell next first) then))

  pub answers-append : (talk : Talk) (number : ℕ) (first then : List Ask)
      → answers cell talk number (first ++ then)
      ≡ answers cell talk number first ++ answers cell (talk_after cell talk first) (number + length first) then
  answers-append talk number [] then = ap (λ (n : ℕ). answers cell talk n then) nothing_more
    where
      nothing_more : number ≡ number + 0
      nothing_more = omega arith
  answers-append talk number (ask ∷ first) then =
      let next = talk_after_one cell talk ask in
      let lines = answer cell talk (line_number number) ask in
      let count : number + 1 + length first ≡ number + length (ask ∷ first) = omega arith in
      ap (λ (ls : List (List ℕ)). lines ++ ls) (answers-append next (number + 1) first then)
      ∙ sym (append_assoc lines (answers cell next (number + 1) first) _)
      ∙ ap (λ (n : ℕ). (lines ++ answers cell next (number + 1) first) ++ answers cell (talk_after cell next first) n then) count

  -- numbers that are known alike give the same answers
  pub answers-known : (talk : Talk) (number known : ℕ) (asks : List Ask) → line_number known ≡ line_number number
      → answers cell talk (known + 1) asks ≡ answers cell talk (number + 1) asks
  answers-known talk number known asks is = each talk (known + 1) (number + 1) asks (λ n. omega (arith, is))
    where
      each : (talk : Talk) (one other : ℕ) (asks : List Ask) → ((n : ℕ) → line_number (one + n) ≡ line_number (other + n))
          → answers cell talk one asks ≡ answers cell talk other asks
      each talk one other [] alike = refl
      each talk one other (ask ∷ asks) alike =
          let here : line_number one ≡ line_number other = omega (arith, alike 0) in
          (λ i. answer cell talk (here i) ask
          ++ each (talk_after_one cell talk ask) (one + 1) (other + 1) asks (λ n. omega (arith, alike (1 + n))) i)

  -- one ask more
  pub talk-push : (talk : Talk) (asks : List Ask) (ask : Ask)
      → talk_after cell talk (asks ++ ask ∷ []) ≡ talk_after_one cell (talk_after cell talk asks) ask
  talk-push talk asks ask = talk-append talk asks (ask ∷ [])

  pub since-push : (talk : Talk) (asks : List Ask) (ask : Ask)
      → since cell talk (asks ++ ask ∷ []) ≡ since cell talk asks ++ added_by cell (talk_after cell talk asks) ask
  since-push talk asks ask =
      since-append talk asks (ask ∷ [])
      ∙ ap (λ (gs : List Grant). since cell talk asks ++ gs) (append-nil (added_by cell (talk_after cell talk asks) ask))

  pub answers-push : (talk : Talk) (number : ℕ) (asks : List Ask) (ask : Ask)
      → answers cell talk number (asks ++ ask ∷ [])
      ≡ answers cell talk number asks ++ answer cell (talk_after cell talk asks) (line_number (number + length asks)) ask
  answers-push talk number asks ask =
      answers-append talk number asks (ask ∷ [])
      ∙ ap (λ (ls : List (List ℕ)). answers cell talk number asks ++ ls)
      (append-nil (answer cell (talk_after cell talk asks) (line_number (number + length asks)) ask))

  -- ---- the first grant

  first_of : (talk : Talk) (number : ℕ) (group : List Ask) (ask : Ask) (at : ℕ) (line : List ℕ)
      → at ≡ length (answers cell talk number group) → line ≡ halted_line cell ask → since cell talk group ≡ [] → (added : List Grant)
      → added_by cell (talk_after cell talk group) ask ≡ added
      → IsFirstGrant cell talk number (group ++ ask ∷ []) (first_after None at line added)
  first_of talk number group ask at line at_is line_is none [] is =
      since-push talk group ask ∙ (λ i. none i ++ is i)
  first_of talk number group ask at line at_is line_is none (grant ∷ added) is =
      (group, ask, [], refl, none, omega (arith, ap (λ (gs : List Grant). length gs) is), at_is, line_is)

  first_goes : (talk : Talk) (number : ℕ) (group : List Ask) (ask : Ask) (at : ℕ) (line : List ℕ)
      → at ≡ length (answers cell talk number group) → line ≡ halted_line cell ask → (first : Option FirstGrant)
      → IsFirstGrant cell talk number group first
      → IsFirstGrant cell talk number (group ++ ask ∷ []) (first_after first at line (added_by cell (talk_after cell talk group) ask))
  first_goes talk number group ask at line at_is line_is None none =
      first_of talk number group ask at line at_is line_is none (added_by cell (talk_after cell talk group) ask) refl
  first_goes talk number group ask at line at_is line_is (Some first) (before, next, rest, parted, none, some, place, halts) = (
    before,
    next,
    rest ++ ask ∷ [],
    ap (λ (asks : List Ask). asks ++ ask ∷ []) parted ∙ append_assoc before (next ∷ rest) (ask ∷ []),
    none,
    some,
    place,
    halts,
  )

  -- ---- a group

  module _ {D : Type 0} (talk : Talk) (number : ℕ) (group : List Ask) (mid : Server D)
      (is : IsAnsweredGroup cell talk number group mid) where
    pub group_goes : (ask : Ask) (new : Server D) → IsAskAnswered cell (talk_after cell talk group) mid ask new → TakesOneLine mid new
        → IsAnsweredGroup cell talk number (group ++ ask ∷ []) new
    group_goes ask new answered goes =
        let behind = talk_after cell talk group in
        let more = added_by cell behind ask in
        let count : line_number (mid.asked + 1) ≡ line_number (number + 1 + length group) = omega (arith, is.asked) in
        let long : length mid.replies ≡ length (answers cell talk (number + 1) group) =
        ap (λ (ls : List (List ℕ)). length ls) is.replies in
        record {
          cell_is = goes.stays.cell ∙ is.cell_is;
          at = subst (λ (t : Talk). StandsAt t new) (sym (talk-push talk group ask)) answered.at;
          replies = answered.replies ∙ (λ i. is.replies i ++ answer cell behind (count i) ask)
              ∙ sym (answers-push talk (number + 1) group ask);
          pending = answered.pending ∙ (λ i. is.pending i ++ more) ∙ sym (since-push talk group ask);
          first = subst (IsFirstGrant cell talk (number + 1) (group ++ ask ∷ [])) (sym answered.first)
              (first_goes talk (number + 1) group ask (length mid.replies) (halted_line cell ask) long refl mid.first is.first);
          asked = omega (arith, goes.asked, is.asked, length-append group (ask ∷ []));
        }
