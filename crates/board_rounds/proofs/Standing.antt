-- The progress of all sessions after one entry more.
use Rattle.std.proofs.Common.{◌≡◌, ◌≢◌, ℕ, ◌+◌, ◌-◌, ◌<◌, ◌≤◌, ◌^◌, ◌==◌, Bool, true, false, List, [], ◌∷◌, ◌++◌}
use Rattle.std.proofs.Common.{length, take, get_or, set, length-take-le, refl, sym, ◌∙◌, ap, subst, arith}
use Rattle.std.specs.List.{filter}
use Rattle.std.proofs.lemmas.Bool.{eqb-true, eqb-false}
use Rattle.std.proofs.lemmas.List.{get_or-set_other, get_or-set_same, get_or_default, length-set, take_more}
use Rattle.std.proofs.lemmas.List.Sums.{count_by-le-length, length-filter}
use Rattle.cell_base.specs.declared.limits.TheConstants.{MAX_SESSIONS}
use Rattle.cell_base.specs.Fits.{IsWithin}
use Rattle.cell_base.specs.Scripts.{Progress, begin_at}
use Rattle.wait_board.specs.declared.entries.BoardTold.{BoardTold}
use Rattle.wait_board.specs.declared.entries.BoardTold.TheVariants as told
use Rattle.wait_board.specs.declared.entries.BoardEntry.{BoardEntry}
use Rattle.board_rounds.specs.Rounds.{progress_by, progress_in, progress_told}
use Rattle.board_rounds.specs.Underway.{Stands}
use Rattle.board_rounds.proofs.Progressing.{progress-mine, progress-other}

-- a progress is at most as far as there are entries
record IsFewer (at : Progress) (n : ℕ) : Type 0 where
  pub step : at.step ≤ n
  pub refusals : at.refusals ≤ n

told_few : (at : Progress) (n : ℕ) (told : BoardTold) → IsFewer at n → IsFewer (progress_told at told) (n + 1)
told_few at n told.Granted few = record { step = omega (arith, few.step); refusals = omega arith }
told_few at n told.Served few = record { step = omega (arith, few.step); refusals = omega arith }
told_few at n (told.Refused why) few = record { step = omega (arith, few.step); refusals = omega (arith, few.refusals) }
told_few at n (told.Dropped why) few = record { step = omega (arith, few.step); refusals = omega (arith, few.refusals) }
told_few at n (told.Waits why) few = record { step = omega (arith, few.step); refusals = omega (arith, few.refusals) }

by_few : (at : Progress) (n : ℕ) (entries : List BoardEntry) → IsFewer at n → IsFewer (progress_by at entries) (n + length entries)
by_few at n [] few = record { step = omega (arith, few.step); refusals = omega (arith, few.refusals) }
by_few at n (e ∷ entries) few =
    let rest = by_few (progress_told at e.told) (n + 1) entries (told_few at n e.told few) in
    record { step = omega (arith, rest.step); refusals = omega (arith, rest.refusals) }

module _ (progress : List Progress) (history : List BoardEntry) (i : ℕ) (first : BoardEntry) (d : Progress)
    (stands : Stands progress (take i history)) (within : i < length history)
    (session : IsWithin 1 MAX_SESSIONS (get_or history i first).session) where
  -- the index of its session
  abbrev pub k : ℕ
  k = (get_or history i first).session - 1

  one_more : k + 1 ≡ (get_or history i first).session
  one_more = omega (arith, session.0)

  inside : k < MAX_SESSIONS
  inside = omega (arith, session.0, session.1)

  in_list : k < length progress
  in_list = omega (arith, inside, stands.count)

  -- where the session of the next entry stands
  stands_at : get_or progress k d ≡ progress_in (take i history) (get_or history i first).session
  stands_at =
      get_or_default progress k d (begin_at 0) in_list ∙ stands.each k inside ∙ ap (progress_in (take i history)) one_more

  at_few : IsFewer (get_or progress k d) i
  at_few =
      let mine : BoardEntry → Bool = λ e. e.session == (get_or history i first).session in
      let few = by_few (begin_at 0) 0 (filter mine (take i history)) (record { step = omega arith; refusals = omega arith }) in
      let all = length-filter mine (take i history) in
      let short = count_by-le-length mine (take i history) in
      let shorter = length-take-le i history (omega (arith, within)) in
      subst (λ at. IsFewer at i) (sym stands_at)
      (record { step = omega (arith, few.step, all, short, shorter); refusals = omega (arith, few.refusals, all, short, shorter) })

  pub room_for_step : length history < 2 ^ 32 → (get_or progress k d).step + 1 < 2 ^ 64
  room_for_step short = omega (arith, at_few.step, short, within)

  pub room_for_refusal : length history < 2 ^ 32 → (get_or progress k d).refusals + 1 < 2 ^ 32
  room_for_refusal short = omega (arith, at_few.refusals, short, within)

  -- it goes on by what it was told
  pub stands_next : (next : Progress) → next ≡ progress_told (get_or progress k d) (get_or history i first).told
      → Stands (set progress k next) (take (i + 1) history)
  stands_next next is =
      subst (Stands (set progress k next)) (sym (take_more history i first within)) (record {
        count = length-set progress k next ∙ stands.count;
        each = each;
      })
    where
      each : (j : ℕ) → j < MAX_SESSIONS
          → get_or (set progress k next) j (begin_at 0) ≡ progress_in (take i history ++ get_or history i first ∷ []) (j + 1)
      each j within = elim (j == k) as (λ b. (j == k) ≡ b
          → get_or (set progress k next) j (begin_at 0) ≡ progress_in (take i history ++ get_or history i first ∷ []) (j + 1)) [
            | true ↦ λ same.
                let at : j ≡ k = eqb-true j k same in
                ap (λ n. get_or (set progress k next) n (begin_at 0)) at
                ∙ get_or-set_same progress k next (begin_at 0) in_list
                ∙ is ∙ ap (λ (at : Progress). progress_told at (get_or history i first).told) stands_at
                ∙ sym (progress-mine (take i history) (get_or history i first))
                ∙ ap (progress_in (take i history ++ get_or history i first ∷ [])) (sym one_more ∙ ap (λ n. n + 1) (sym at))
            | false ↦ λ differs.
                let other : j ≢ k = eqb-false j k differs in
                get_or-set_other progress k j next (begin_at 0) other
                ∙ stands.each j within
                ∙ sym (progress-other (take i history) (get_or history i first) (j + 1) (λ same. other (omega (arith, same, one_more))))
          ] refl
