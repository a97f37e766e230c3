-- Where the sessions of a shift start is told by the grants of its number alone.
use Rattle.std.proofs.Common.{◌≡◌, ℕ, ◌+◌, ◌==◌, ◌&&◌, Bool, true, false, cond, List, [], ◌∷◌, ◌++◌, length}
use Rattle.std.proofs.Common.{All, take, refl, ap, ◌∙◌, sym, subst}
use Rattle.std.specs.List.{filter}
use Rattle.std.proofs.lemmas.Bool.{and_left, cond-true, cond-false, eq-eqb}
use Rattle.std.proofs.lemmas.List.Elements.{All-nil, All-cons, All-head, All-tail, All-filter, filter-append}
use Rattle.cell_base.specs.declared.requests.Request.{Request}
use Rattle.cell_base.specs.declared.shifts.Grant.{Grant}
use Rattle.cell_base.specs.declared.shifts.Shift.{Shift}
use Rattle.cell_base.specs.Histories.{requests_of}
use Rattle.cell_base.specs.Rounds.{IsSession}
use Rattle.cell_base.specs.Scripts.{granted_to, script_of}
use Rattle.cell_base.specs.Starts.{AreFirstSteps, IsOtherShift}
use Rattle.cell_sessions.specs.declared.progress.Progress.{Progress}
use Rattle.cell_sessions.specs.Progressing.{start_at}
use Rattle.cell_sessions.specs.Starting.{AreBegun, of_shift}

module _ (number : ℕ) where
  abbrev is_own : Grant → Bool
  is_own grant = grant.shift == number

  -- ---- what was granted to a session

  abbrev counts : ℕ → Grant → Bool
  counts session grant = (grant.shift == number) && (grant.session == session)

  counted-own : (session : ℕ) (grants : List Grant)
      → filter (counts session) (of_shift number grants) ≡ filter (counts session) grants
  counted-own session [] = refl
  counted-own session (grant ∷ grants) = by_own (is_own grant) refl (counted-own session grants)
    where
      kept : List Grant
      kept = of_shift number grants

      every : List Grant
      every = filter (counts session) grants

      by_own : (own : Bool) → is_own grant ≡ own → filter (counts session) kept ≡ every
          → filter (counts session) (cond (is_own grant) (grant ∷ kept) kept) ≡ cond (counts session grant) (grant ∷ every) every
      by_own true own later =
          ap (filter (counts session)) (cond-true (is_own grant) (grant ∷ kept) kept own)
          ∙ ap (λ gs. cond (counts session grant) (grant ∷ gs) gs) later
      by_own false other later =
          ap (filter (counts session)) (cond-false (is_own grant) (grant ∷ kept) kept other)
          ∙ later
          ∙ sym (cond-false (counts session grant) (grant ∷ every) every (and_left (is_own grant) (grant.session == session) other))

  granted_to-own : (session : ℕ) (grants : List Grant)
      → granted_to number session (of_shift number grants) ≡ granted_to number session grants
  granted_to-own session grants = ap (λ gs. requests_of gs) (counted-own session grants)

  -- ---- a cut of the grants at one of the number

  record IsCut (grants before : List Grant) (stray : Grant) : Type 0 where
    front : List Grant
    back : List Grant
    parted : grants ≡ front ++ stray ∷ back
    own : of_shift number front ≡ before
    stray_own : is_own stray ≡ true

  cut : (grants before : List Grant) (stray : Grant) (later : List Grant) → of_shift number grants ≡ before ++ stray ∷ later
      → IsCut grants before stray
  cut [] [] stray later is = absurd (cc)
  cut [] (b ∷ before) stray later is = absurd (cc)
  cut (grant ∷ grants) before stray later is = by_own (is_own grant) refl (cut grants) before is
    where
      kept : List Grant
      kept = of_shift number grants

      Cuts : Type 0
      Cuts = (before : List Grant) (stray : Grant) (later : List Grant) → kept ≡ before ++ stray ∷ later → IsCut grants before stray

      by_own : (own : Bool) → is_own grant ≡ own → Cuts → (before : List Grant) → cond own (grant ∷ kept) kept ≡ before ++ stray ∷ later
          → IsCut (grant ∷ grants) before stray
      by_own true own cuts [] is =
          let same : grant ≡ stray = cc in record {
            front = [];
            back = grants;
            parted = ap (λ g. g ∷ grants) same;
            own = refl;
            stray_own = ap (λ g. is_own g) (sym same) ∙ own;
          }
      by_own true own cuts (b ∷ before) is =
          let same : grant ≡ b = cc in
          let rest : kept ≡ before ++ stray ∷ later = cc in
          let at = cuts before stray later rest in record {
            front = grant ∷ at.front;
            back = at.back;
            parted = ap (λ gs. grant ∷ gs) at.parted;
            own = cond-true (is_own grant) (grant ∷ of_shift number at.front) (of_shift number at.front) own
                ∙ ap (λ gs. grant ∷ gs) at.own ∙ ap (λ g. g ∷ before) same;
            stray_own = at.stray_own;
          }
      by_own false other cuts before is =
          let at = cuts before stray later is in record {
            front = grant ∷ at.front;
            back = at.back;
            parted = ap (λ gs. grant ∷ gs) at.parted;
            own = cond-false (is_own grant) (grant ∷ of_shift number at.front) (of_shift number at.front) other ∙ at.own;
            stray_own = at.stray_own;
          }

module _ (shift : Shift) where
  abbrev own_of : List Grant → List Grant
  own_of grants = of_shift shift.number grants

  abbrev IsKnown : Grant → Type 0
  IsKnown grant = grant.shift ≡ shift.number → IsSession shift grant.session

  known_all : (grants : List Grant) → All IsKnown (own_of grants) → All IsKnown grants
  known_all [] known = All-nil IsKnown
  known_all (grant ∷ grants) known = by_own (grant.shift == shift.number) refl (known_all grants) known
    where
      by_own : (own : Bool) → (grant.shift == shift.number) ≡ own → (All IsKnown (own_of grants) → All IsKnown grants)
          → All IsKnown (cond own (grant ∷ own_of grants) (own_of grants)) → All IsKnown (grant ∷ grants)
      by_own true own all known =
          All-cons IsKnown grant grants (All-head IsKnown grant (own_of grants) known) (all (All-tail IsKnown grant (own_of grants) known))
      by_own false other all known =
          All-cons IsKnown grant grants
          (λ own. absurd (let yes : (grant.shift == shift.number) ≡ true = eq-eqb grant.shift shift.number own in cc)) (all known)

  -- the steps of the scripts are first ones, by the grants of the number
  pub started_all : (grants : List Grant) → AreFirstSteps shift (own_of grants) → AreFirstSteps shift grants
  started_all grants started = record {
    each = λ session is. subst (λ (rs : List Request). rs ≡ take (length rs) (script_of shift session))
        (granted_to-own shift.number session grants) (started.each session is);
    known = known_all grants started.known;
  }

  -- and they are of these grants alone
  started_own : (grants : List Grant) → AreFirstSteps shift grants → AreFirstSteps shift (own_of grants)
  started_own grants started = record {
    each = λ session is. subst (λ (rs : List Request). rs ≡ take (length rs) (script_of shift session))
        (sym (granted_to-own shift.number session grants)) (started.each session is);
    known = All-filter (λ (grant : Grant). grant.shift == shift.number) IsKnown grants started.known;
  }

  -- a stray is one of all grants
  pub other_all : (grants : List Grant) (session : ℕ) → IsOtherShift shift (own_of grants) session → IsOtherShift shift grants session
  other_all grants session other = record {
    before = at.front;
    stray = other.stray;
    later = at.back;
    parted = at.parted;
    started = started_all at.front (subst (λ (gs : List Grant). AreFirstSteps shift gs) (sym at.own) other.started);
    strays = λ started. other.strays (subst (λ (gs : List Grant). AreFirstSteps shift gs) same
        (started_own (at.front ++ other.stray ∷ []) started));
    session_is = other.session_is;
  }
    where
      at : IsCut shift.number grants other.before other.stray
      at = cut shift.number grants other.before other.stray other.later other.parted

      same : own_of (at.front ++ other.stray ∷ []) ≡ other.before ++ other.stray ∷ []
      same =
          filter-append (λ (grant : Grant). grant.shift == shift.number) at.front (other.stray ∷ [])
          ∙ ap (λ (gs : List Grant). own_of at.front ++ gs)
          (cond-true (other.stray.shift == shift.number) (other.stray ∷ []) [] at.stray_own)
          ∙ ap (λ (gs : List Grant). gs ++ other.stray ∷ []) at.own

  -- and so is where each session starts
  pub begun_all : (grants : List Grant) (progress : List Progress) → AreBegun shift (own_of grants) progress
      → AreBegun shift grants progress
  begun_all grants progress begun = record {
    count = begun.count;
    each = λ k at is. begun.each k at is
        ∙ ap (λ (rs : List Request). start_at (script_of shift (k + 1)) (length rs)) (granted_to-own shift.number (k + 1) grants);
  }
