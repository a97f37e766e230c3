-- The lowest neighborhood that is entered and full is the first that would hold too many.
use Rattle.std.proofs.Common.{◌≡◌, ◌++◌, ◌∷◌, [], ◌==◌, ◌≢◌, true, w64, ap, sym, ◌∙◌, ⊎_elim, arith}
use Rattle.std.specs.Int.{trailing_zeros}
use Rattle.std.proofs.lemmas.Bool.{cases_eq, leb-true, leb-false}
use Rattle.std.proofs.lemmas.Nat.Bits.{bit_at-trailing_zeros}
use Rattle.cell_base.specs.Masks.{has_bit}
use Rattle.cell_base.specs.Outcomes.{without}
use Rattle.cell_base.proofs.Bits.{without_lowest, has_bit-zero}
use Rattle.policy_laws.proofs.States.{first_over-none}
use Rattle.policy_laws.proofs.FirstOver.{first_over-at}
use Rattle.plain_recount.proofs.Counting.{count-entered, count-not_entered, present_stands}
use Rattle.plain_recount.proofs.Bits.{lowest_bit, bit_kept, bit_gone}
use Rattle.plain_recount.proofs.counts.first_over.Goals as goal

pub entered-entered-requires-clause-present : goal.entered-entered-requires-clause-present
entered-entered-requires-clause-present c =
    present_stands c.args.table.now c.args.parts.now c.args.part.job c.args.present c.requires.admitted.state.standing c.requires.present

pub loop-entered-init : goal.loop-entered-init
loop-entered-init c = record {
  entered = λ k e. sym (c.entered-entered.ensures.bits k) ∙ e;
  within = c.entered-entered.ensures.within;
  others = λ k h e.
      let fails = rw c.requires.present at (sym (c.entered-entered.ensures.bits k) ∙ e) in
      let fewer = count-not_entered c.args.table.now c.args.parts.now c.args.part k c.requires.admitted.state.distinct fails in
      omega (arith, fewer, c.requires.admitted.within k h);
}

pub is_full-requires-clause-resource : goal.is_full-requires-clause-resource
is_full-requires-clause-resource c =
    c.loop-entered.invariant.within _ (lowest_bit c.loop-entered.entered (omega arith) (omega arith))

pub returns-then-is_full-clause-value : goal.returns-then-is_full-clause-value
returns-then-is_full-clause-value c =
    let cell = c.args.table.now in
    let parts = c.args.parts.now in
    let next = without parts c.args.part.job ++ c.args.part ∷ [] in
    let mask = c.loop-entered.entered in
    let r = trailing_zeros w64 mask in
    let lowest = bit_at-trailing_zeros w64 mask (omega arith) (omega arith) in
    let here : has_bit mask r ≡ true = lowest_bit mask (omega arith) (omega arith) in
    let passes = rw c.requires.present at (c.loop-entered.invariant.entered r here) in
    let more = count-entered cell parts c.args.part r c.requires.admitted.state.distinct passes in
    let full = leb-true _ _ (sym c.is_full.ensures ∙ c.if-is_full.true) in
    sym
    (first_over-at cell next r (c.loop-entered.invariant.within r here)
    (λ k h. c.loop-entered.invariant.others k (omega (arith, h, c.loop-entered.invariant.within r here)) (ap (λ n. n == 1) (lowest.2 k h)))
    (omega (arith, more, full)))

pub returns-then-is_full-clause-within : goal.returns-then-is_full-clause-within
returns-then-is_full-clause-within c =
    c.loop-entered.invariant.within _ (lowest_bit c.loop-entered.entered (omega arith) (omega arith))

pub loop-entered-smaller : goal.loop-entered-smaller
loop-entered-smaller c = (without_lowest c.loop-entered.entered (omega arith) (omega arith)).less

pub loop-entered-preserved : goal.loop-entered-preserved
loop-entered-preserved c =
    let cell = c.args.table.now in
    let parts = c.args.parts.now in
    let mask = c.loop-entered.entered in
    let r = trailing_zeros w64 mask in
    let step = without_lowest mask (omega arith) (omega arith) in
    let here : has_bit mask r ≡ true = lowest_bit mask (omega arith) (omega arith) in
    let passes = rw c.requires.present at (c.loop-entered.invariant.entered r here) in
    let more = count-entered cell parts c.args.part r c.requires.admitted.state.distinct passes in
    let open_here = leb-false _ _ (sym c.is_full.ensures ∙ c.if-is_full.false) in
    record {
      entered = λ k e. c.loop-entered.invariant.entered k (bit_kept mask r _ step k e);
      within = λ k e. c.loop-entered.invariant.within k (bit_kept mask r _ step k e);
      others = λ k h e. ⊎_elim
          (λ (same : k ≡ r). rw same (omega (arith, more, open_here)))
          (λ (other : k ≢ r). c.loop-entered.invariant.others k h (bit_gone mask r _ step k e other))
          (cases_eq k r);
    }

pub returns-clause-value : goal.returns-clause-value
returns-clause-value c =
    let next = without c.args.parts.now c.args.part.job ++ c.args.part ∷ [] in
    let none : c.loop-entered.entered ≡ 0 = omega arith in
    sym
    (first_over-none c.args.table.now next
    (λ k h. c.loop-entered.invariant.others k h (ap (λ mask. has_bit mask k) none ∙ has_bit-zero k)))
