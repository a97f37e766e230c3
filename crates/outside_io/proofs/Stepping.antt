-- How one step more changes what a crash may leave.
use Rattle.std.proofs.Common.{◌≡◌, ◌⊎◌, inl, inr, ℕ, ◌+◌, ◌≤◌, List, [], ◌∷◌, ◌++◌, length, get_or, take, refl, sym, ◌∙◌, ap, subst, arith}
use Rattle.std.proofs.lemmas.List.{take_all, take-append-le, ext_get_or, length_push}
use Rattle.std.proofs.lemmas.Bool.{cases_lt}
use Rattle.outside_io.specs.Disk.{overwritten, Torn, Follows, Only, Elapses}
use Rattle.outside_io.specs.Images.{DiskState, IsImage, at_rest, wrote, lost}
use Rattle.outside_io.specs.ImageLaws.{IsGrown, rest_is_grown, steps_grow, bytes_left}
use Rattle.outside_io.specs.DiskSteps.{after_step, after_steps, MightHaveLeft, Extends}
use Rattle.outside_io.specs.TornLaws.{torn_same}
use Rattle.outside_io.specs.declared.disk_steps.DiskStep.{DiskStep}
use Rattle.outside_io.proofs.Overwriting.{length-overwritten, get_or-overwritten}
use Rattle.outside_io.proofs.Following.{follows_torn}

after_steps-push : (state : DiskState) (steps : List DiskStep) (step : DiskStep)
    → after_steps state (steps ++ step ∷ []) ≡ after_step (after_steps state steps) step
after_steps-push state [] step = refl
after_steps-push state (s ∷ steps) step = after_steps-push (after_step state s) steps step

after_extension : (state : DiskState) (old new : List DiskStep) (does : DiskState → DiskState) → Extends old new does
    → after_steps state new ≡ does (after_steps state old)
after_extension state old new does more =
    ap (after_steps state) more.grown ∙ after_steps-push state old more.step ∙ more.done (after_steps state old)

-- the steps of a disk that reads as these bytes
module _ (first : List ℕ) (old new : List DiskStep) (bytes : List ℕ) (same : (after_steps (at_rest first) old).seen ≡ bytes) where
  abbrev was : DiskState
  was = after_steps (at_rest first) old

  abbrev is : DiskState
  is = after_steps (at_rest first) new

  abbrev Aged : List DiskStep → Type 0
  Aged steps = Elapses (length old) (length steps) (MightHaveLeft first old) (MightHaveLeft first steps)
      (IsImage (after_steps (at_rest first) steps))

  grown : IsGrown was
  grown = steps_grow (at_rest first) old (rest_is_grown first)

  -- time goes on by one step
  pub ages : (does : DiskState → DiskState) → Extends old new does → Aged new
  ages does more =
      let long : length new ≡ length old + 1 = ap length more.grown ∙ length_push old more.step in
      let front = λ (k : ℕ) (le : k ≤ length old). ap (take k) more.grown ∙ take-append-le k old (more.step ∷ []) le in
      let image = λ (c : List ℕ) (steps : List DiskStep). IsImage (after_steps (at_rest first) steps) c in
      record {
        later = omega arith;
        nothing_else = λ t c le left. elim (cases_lt (length old) left.0) [
          | inr before ↦ inl (left.0, left.1, before, subst (image c) (front left.0 before) left.3)
          | inl now ↦ inr (subst (image c) (take_all left.0 new (omega (arith, long, now))) left.3)
        ];
        keeps = λ t c le left. (left.0, left.1, omega (arith, long, left.2), subst (image c) (sym (front left.0 left.2)) left.3);
      }

  -- or stands still
  stays : Aged old
  stays = record { later = omega arith; nothing_else = λ t c le left. inl left; keeps = λ t c le left. left }

  pub stands : new ≡ old → Aged new
  stands none = subst Aged (sym none) stays

  -- a sync
  pub settled_state : Extends old new (λ state. at_rest state.seen) → is ≡ at_rest bytes
  settled_state more = after_extension (at_rest first) old new _ more ∙ ap at_rest same

  pub settled_seen : Extends old new (λ state. at_rest state.seen) → is.seen ≡ bytes
  settled_seen more = ap (λ (state : DiskState). state.seen) (after_extension (at_rest first) old new _ more) ∙ same

  pub settled_only : Extends old new (λ state. at_rest state.seen) → Only bytes (IsImage is)
  settled_only more c left =
      let now : IsImage (at_rest was.seen) c =
      subst (λ (state : DiskState). IsImage state c) (after_extension (at_rest first) old new _ more) left in
      ext_get_or 0 c was.seen (omega (arith, now.no_shorter, now.no_longer)) (λ k lt. now.kept k lt refl) ∙ same

  pub settled_was : Extends old new (λ state. at_rest state.seen) → (c : List ℕ) → IsImage is c → IsImage was c
  settled_was more c left = subst (IsImage was) (sym (settled_only more c left)) (bytes_left first old bytes same)

  -- a write that failed, and was recorded or not
  module _ (at size : ℕ) (P Q : Type 0) (failed : Extends old new (λ state. lost state at size) × P ⊎ (new ≡ old) × Q) where
    pub lost_state : (is ≡ lost was at size) ⊎ ((is ≡ was) × Q)
    lost_state = elim failed [
      | inl more ↦ inl (after_extension (at_rest first) old new _ more.0)
      | inr none ↦ inr (ap (after_steps (at_rest first)) none.0, none.1)
    ]

    pub lost_seen : is.seen ≡ bytes
    lost_seen = elim failed [
      | inl more ↦ ap (λ (state : DiskState). state.seen) (after_extension (at_rest first) old new _ more.0) ∙ same
      | inr none ↦ ap (λ (steps : List DiskStep). (after_steps (at_rest first) steps).seen) none.0 ∙ same
    ]

    pub lost_follows : at ≤ length bytes → Follows (Torn at size) (IsImage was) (IsImage is)
    lost_follows begins = elim failed [
      | inl more ↦
          let step = after_extension (at_rest first) old new _ more.0 in
          let stable = ap (λ (state : DiskState). state.stable) step in
          let written = ap (λ (state : DiskState). state.written) step in
          follows_torn was is at size grown stable written
          (omega (arith, begins, ap length same)) (omega (arith, ap (λ (state : DiskState). state.longest) step))
          (λ k out. ap (λ (state : DiskState). get_or state.seen k 0) step)
      | inr none ↦ λ c left. (
        c,
        subst (λ (steps : List DiskStep). IsImage (after_steps (at_rest first) steps) c) none.0 left,
        torn_same at size c,
      )
    ]

    pub lost_ages : Aged new
    lost_ages = elim failed [ inl more ↦ ages _ more.0 | inr none ↦ stands none.0 ]

  -- a write
  module _ (at : ℕ) (piece : List ℕ) (more : Extends old new (λ state. wrote state at piece)) where
    pub wrote_state : is ≡ wrote was at piece
    wrote_state = after_extension (at_rest first) old new _ more

    pub wrote_seen : is.seen ≡ overwritten bytes at piece
    wrote_seen = ap (λ (state : DiskState). state.seen) wrote_state ∙ ap (λ (file : List ℕ). overwritten file at piece) same

    pub wrote_follows : at ≤ length bytes → Follows (Torn at (length piece)) (IsImage was) (IsImage is)
    wrote_follows begins =
        let inside : at ≤ length was.seen = omega (arith, begins, ap length same) in
        let stable = ap (λ (state : DiskState). state.stable) wrote_state in
        let written = ap (λ (state : DiskState). state.written) wrote_state in
        let longest = ap (λ (state : DiskState). state.longest) wrote_state in
        let size = length-overwritten was.seen at piece inside in
        follows_torn was is at (length piece) grown stable written inside (omega (arith, grown.seen, longest, size))
        (λ k out. ap (λ (state : DiskState). get_or state.seen k 0) wrote_state
        ∙ get_or-overwritten was.seen at piece k out (omega (arith, inside)))
