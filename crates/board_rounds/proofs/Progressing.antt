-- Where a session stands after one entry more.
use Rattle.std.proofs.Common.{◌≡◌, ◌≢◌, ℕ, ◌+◌, ◌<◌, ◌≤◌, ◌==◌, Bool, true, false, cond, Some, None}
use Rattle.std.proofs.Common.{List, [], ◌∷◌, ◌++◌, length, refl, sym, ◌∙◌, ap, subst, arith}
use Rattle.std.specs.List.{filter}
use Rattle.std.specs.Option.{option_map_or}
use Rattle.std.proofs.lemmas.Bool.{cond-true, cond-false, eq-eqb, eqb-true, ne_eqb}
use Rattle.std.proofs.lemmas.List.{append-nil, length-append}
use Rattle.std.proofs.lemmas.List.Elements.{filter-append}
use Rattle.cell_base.specs.declared.requests.Reply.{Reply}
use Rattle.cell_base.specs.declared.requests.Reply.TheVariants.{Granted, Refused}
use Rattle.cell_base.specs.declared.requests.Request.{Request}
use Rattle.cell_base.specs.declared.requests.Told.TheVariants.{Answered}
use Rattle.cell_base.specs.declared.shifts.Shift.{Shift}
use Rattle.cell_base.specs.Rounds.{IsSession}
use Rattle.cell_base.specs.Scripts.{Progress, begin_at, progress_after, script_of}
use Rattle.solo_rounds.specs.Underway.{IsWithinScript, script_asks_left}
use Rattle.solo_rounds.proofs.Counting.{script_asks_left-falls}
use Rattle.wait_board.specs.declared.entries.BoardEntry.{BoardEntry}
use Rattle.wait_board.specs.Boards.{end_of_wait, is_answer}
use Rattle.board_rounds.specs.Rounds.{progress_by, progress_in, progress_told, reply_in}
use Rattle.board_rounds.specs.Underway.{HasStep, left_in, sum_to}
use Rattle.board_rounds.proofs.Sums.{sum-one}

-- ---- the entries of a session

by_last : (at : Progress) (entries : List BoardEntry) (e : BoardEntry)
    → progress_by at (entries ++ e ∷ []) ≡ progress_told (progress_by at entries) e.told
by_last at [] e = refl
by_last at (first ∷ entries) e = by_last (progress_told at first.told) entries e

pub filter-last : {X : Type 0} (p : X → Bool) (xs : List X) (x : X)
    → filter p (xs ++ x ∷ []) ≡ cond (p x) (filter p xs ++ x ∷ []) (filter p xs)
filter-last p xs x =
    filter-append p xs (x ∷ [])
    ∙ elim (p x) as (λ b. filter p xs ++ cond b (x ∷ []) [] ≡ cond b (filter p xs ++ x ∷ []) (filter p xs)) [
      | true ↦ refl
      | false ↦ append-nil (filter p xs)
    ]

pub length-filter-last : {X : Type 0} (p : X → Bool) (xs : List X) (x : X)
    → length (filter p (xs ++ x ∷ [])) ≡ length (filter p xs) + cond (p x) 1 0
length-filter-last p xs x =
    ap length (filter-last p xs x)
    ∙ elim (p x) as (λ b. length (cond b (filter p xs ++ x ∷ []) (filter p xs)) ≡ length (filter p xs) + cond b 1 0) [
      | true ↦ length-append (filter p xs) (x ∷ [])
      | false ↦ omega arith
    ]

pub progress-last : (history : List BoardEntry) (e : BoardEntry) (session : ℕ) → progress_in (history ++ e ∷ []) session
    ≡ cond (e.session == session) (progress_told (progress_in history session) e.told) (progress_in history session)
progress-last history e session =
    let mine : BoardEntry → Bool = λ e. e.session == session in
    ap (progress_by (begin_at 0)) (filter-last mine history e)
    ∙ elim (mine e) as (λ b. progress_by (begin_at 0) (cond b (filter mine history ++ e ∷ []) (filter mine history))
    ≡ cond b (progress_told (progress_in history session) e.told) (progress_in history session)) [
      | true ↦ by_last (begin_at 0) (filter mine history) e
      | false ↦ refl
    ]

pub progress-mine : (history : List BoardEntry) (e : BoardEntry)
    → progress_in (history ++ e ∷ []) e.session ≡ progress_told (progress_in history e.session) e.told
progress-mine history e = progress-last history e e.session ∙ cond-true _ _ _ (eq-eqb e.session e.session refl)

pub progress-other : (history : List BoardEntry) (e : BoardEntry) (session : ℕ) → e.session ≢ session
    → progress_in (history ++ e ∷ []) session ≡ progress_in history session
progress-other history e session other = progress-last history e session ∙ cond-false _ _ _ (ne_eqb e.session session other)

-- an entry that tells no reply leaves each session where it stands
pub progress-unanswered : (history : List BoardEntry) (e : BoardEntry) (session : ℕ) → reply_in e.told ≡ None
    → progress_in (history ++ e ∷ []) session ≡ progress_in history session
progress-unanswered history e session none =
    progress-last history e session
    ∙ elim (e.session == session) as (λ b. cond b (progress_told (progress_in history session) e.told) (progress_in history session)
    ≡ progress_in history session) [
      | true ↦ ap (λ o. option_map_or (λ reply. progress_after (progress_in history session) (Answered reply)) o
          (progress_in history session)) none
      | false ↦ refl
    ]

-- ---- the end of a wait

pub ended_reply : (reply : Reply) → reply_in (end_of_wait reply) ≡ Some reply
ended_reply Granted = refl
ended_reply (Refused why) = refl

pub ended_no_ask : (reply : Reply) → is_answer (end_of_wait reply) ≡ false
ended_no_ask Granted = refl
ended_no_ask (Refused why) = refl

-- ---- an entry of a session that is at a step

replied : (script : List Request) (patience : ℕ) (at : Progress) (reply : Reply) → at.step < length script → at.refusals < patience
    → IsWithinScript script patience (progress_after at (Answered reply))
replied script patience at Granted step left = record { step = omega (arith, step); refusals = omega arith }
replied script patience at (Refused why) step left = record { step = omega (arith, step); refusals = omega (arith, left) }

module _ (shift : Shift) (history : List BoardEntry) (e : BoardEntry) (reply : Reply) (is : reply_in e.told ≡ Some reply)
    (has : HasStep shift history e.session) where
  goes : progress_in (history ++ e ∷ []) e.session ≡ progress_after (progress_in history e.session) (Answered reply)
  goes =
      progress-mine history e
      ∙ ap (λ o. option_map_or (λ reply. progress_after (progress_in history e.session) (Answered reply)) o
      (progress_in history e.session)) is

  -- it takes one from what is left
  pub left-falls : sum_to (left_in shift (history ++ e ∷ [])) (length shift.scripts) + 1
      ≤ sum_to (left_in shift history) (length shift.scripts)
  left-falls =
      let s : ℕ = e.session in
      let fewer = script_asks_left-falls (script_of shift s) shift.patience (progress_in history s)
      (progress_in (history ++ e ∷ []) s) reply
      has.step has.patience goes in
      let one = sum-one (left_in shift history) (left_in shift (history ++ e ∷ [])) s (λ k other.
      ap (script_asks_left shift.patience (script_of shift k))
      (progress-other history e k (λ same. other (sym same)))) (length shift.scripts) has.known.0 has.known.1 in
      omega (arith, fewer, one)

  -- every session stays within its script
  pub within-last : ((session : ℕ) → IsSession shift session
      → IsWithinScript (script_of shift session) shift.patience (progress_in history session))
      → (session : ℕ) → IsSession shift session
      → IsWithinScript (script_of shift session) shift.patience (progress_in (history ++ e ∷ []) session)
  within-last within session bounds =
      elim (e.session == session) as (λ b. (e.session == session) ≡ b
      → IsWithinScript (script_of shift session) shift.patience (progress_in (history ++ e ∷ []) session)) [
        | true ↦ λ same. subst (λ k. IsWithinScript (script_of shift k) shift.patience (progress_in (history ++ e ∷ []) k))
            (eqb-true e.session session same)
            (subst (IsWithinScript (script_of shift e.session) shift.patience) (sym goes)
            (replied (script_of shift e.session) shift.patience (progress_in history e.session) reply has.step has.patience))
        | false ↦ λ other. subst (IsWithinScript (script_of shift session) shift.patience)
            (sym (progress-last history e session ∙ cond-false _ _ _ other)) (within session bounds)
      ] refl

-- another session that is at a step still is
pub has-step-last : (shift : Shift) (history : List BoardEntry) (e : BoardEntry) (session : ℕ)
    → progress_in (history ++ e ∷ []) session ≡ progress_in history session → HasStep shift history session
    → HasStep shift (history ++ e ∷ []) session
has-step-last shift history e session same has = record {
  known = has.known;
  step = subst (λ (at : Progress). at.step < length (script_of shift session)) (sym same) has.step;
  patience = subst (λ (at : Progress). at.refusals < shift.patience) (sym same) has.patience;
}
