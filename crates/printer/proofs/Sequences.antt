-- How printed lines follow one another.
use Rattle.std.proofs.Common.{◌≡◌, ℕ, ◌+◌, ◌<◌, ◌≤◌, Bool, true, false, List, [], ◌∷◌, ◌++◌, length, map, take, get_or}
use Rattle.std.proofs.Common.{subst, sym, ap, ◌∙◌, refl, append_assoc, append-nil}
use Rattle.std.proofs.lemmas.List.{map_more, take_all}
use Rattle.outside_io.specs.Causes.{Rose}
use Rattle.outside_io.specs.Meanings.{SinkMeaning, sink_seen}
use Rattle.outside_io.specs.Puts.{TookSome}
use Rattle.outside_io.specs.PutLaws.{took_none, took_more, failed_before, failed_after}
use Rattle.printer.specs.Printing.{Cut, Printed, Prints, Silent, Whole}
use Rattle.printer.specs.declared.printer.Printer.{Printer}

abbrev Lines : Type 0
Lines = List (List ℕ)

-- ---- lines after lines

joined : {K : Type 0} (sink : SinkMeaning K) (a b c : Printer K) (first then : Lines) → Printed sink a b first → Printed sink b c then
    → Printed sink a c (first ++ then)
joined sink a b c first then (Whole was is all same) (Whole was2 is2 all2 same2) =
    Whole was is2 (took_more sink.taken sink.was_put sink.faults a.out.now b.out.now c.out.now first then all all2) (same2 ∙ same)
joined sink a b c first then (Whole was is all same) (Cut was2 is2 some later rose) =
    Cut was is2 (failed_after sink.taken sink.was_put sink.faults a.out.now b.out.now c.out.now first then all some)
    (subst (λ (n : ℕ). n ≤ sink.faults c.out.now) same later) (subst (λ (n : ℕ). Rose n (sink.faults c.out.now)) same rose)
joined {K} sink a b c first then (Cut was is some later rose) (Silent was2 is2 same) =
    Cut was is2
    (subst (λ (k : K). TookSome (sink_seen sink a.out.now k) (first ++ then)) (sym same)
    (failed_before sink.taken sink.was_put sink.faults a.out.now b.out.now first then some))
    (subst (λ (k : K). sink.faults a.out.now ≤ sink.faults k) (sym same) later)
    (subst (λ (k : K). Rose (sink.faults a.out.now) (sink.faults k)) (sym same) rose)
joined sink a b c first then (Silent was is same) (Silent was2 is2 same2) = Silent was is2 (same2 ∙ same)
joined sink a b c first then (Whole was is all same) (Silent was2 is2 same2) = absurd (let no : true ≡ false = sym was2 ∙ is in cc)
joined sink a b c first then (Cut was is some later rose) (Whole was2 is2 all same) = absurd (let no : true ≡ false = sym is ∙ was2 in cc)
joined sink a b c first then (Cut was is some later rose) (Cut was2 is2 some2 later2 rose2) = absurd (let no : true ≡ false = sym is ∙ was2 in cc)
joined sink a b c first then (Silent was is same) (Whole was2 is2 all same2) = absurd (let no : true ≡ false = sym is ∙ was2 in cc)
joined sink a b c first then (Silent was is same) (Cut was2 is2 some later rose) = absurd (let no : true ≡ false = sym is ∙ was2 in cc)

-- nothing is printed
pub prints_none : {K : Type 0} (sink : SinkMeaning K) (a : Printer K) → Prints sink a a []
prints_none sink a = record { same_sink = refl; printed = none a.failed refl } where
  none : (failed : Bool) → a.failed ≡ failed → Printed sink a a []
  none true is = Silent is is refl
  none false is = Whole is is (took_none sink.taken sink.was_put sink.faults a.out.now) refl

-- the same lines, as they are called elsewhere
pub prints_as : {K : Type 0} {sink : SinkMeaning K} {a b : Printer K} {lines others : Lines} → lines ≡ others → Prints sink a b lines
    → Prints sink a b others
prints_as {K} {sink} {a} {b} is printed = subst (Prints sink a b) is printed

-- lines, and then more of them
pub prints_more : {K : Type 0} {sink : SinkMeaning K} {a b c : Printer K} {first then : Lines} → Prints sink a b first
    → Prints sink b c then → Prints sink a c (first ++ then)
prints_more {K} {sink} {a} {b} {c} {first} {then} one more = record {
  same_sink = more.same_sink ∙ one.same_sink;
  printed = joined sink a b c first then one.printed more.printed;
}

-- a line, and then more
pub prints_first : {K : Type 0} {sink : SinkMeaning K} {a b c : Printer K} {line first : List ℕ} {then : Lines} → line ≡ first
    → Prints sink a b (line ∷ []) → Prints sink b c then → Prints sink a c (first ∷ then)
prints_first is one more = prints_more (prints_as (ap (λ (l : List ℕ). l ∷ []) is) one) more

-- where the sink has failed, later lines are of no matter: so a caller may leave them out
pub prints_failed : {K : Type 0} {sink : SinkMeaning K} {a b : Printer K} {first : Lines} (then : Lines) → b.failed ≡ true
    → Prints sink a b first → Prints sink a b (first ++ then)
prints_failed {K} {sink} {a} {b} {first} then failed one = prints_more one (record {
  same_sink = refl;
  printed = Silent failed failed refl;
})

-- ---- the lines of items

-- that of one item more
pub prints_item : {K X : Type 0} {sink : SinkMeaning K} {a b c : Printer K} (line_for : X → List ℕ) (items : List X) (i : ℕ) (item : X)
    {line : List ℕ} → line ≡ line_for (get_or items i item) → i < length items → Prints sink a b (map line_for (take i items))
    → Prints sink b c (line ∷ []) → Prints sink a c (map line_for (take (i + 1) items))
prints_item line_for items i item is within so_far one =
    prints_as (sym (map_more line_for items i item within))
    (prints_more so_far (prints_as (ap (λ (l : List ℕ). l ∷ []) is) one))

-- those of all items
pub prints_all : {K X : Type 0} {sink : SinkMeaning K} {a b : Printer K} (line_for : X → List ℕ) (items : List X) (i : ℕ)
    → length items ≤ i → Prints sink a b (map line_for (take i items)) → Prints sink a b (map line_for items)
prints_all line_for items i past so_far = prints_as (ap (map line_for) (take_all i items past)) so_far

-- ---- lines of which some are left

-- of all these lines those before the rest are printed
pub record PrintsTo {K : Type 0} (sink : SinkMeaning K) (old new : Printer K) (all rest : Lines) : Type 0 where
  pub lines : Lines
  pub prints : Prints sink old new lines
  pub parted : lines ++ rest ≡ all

pub prints_to_all : {K : Type 0} (sink : SinkMeaning K) (a : Printer K) (all : Lines) → PrintsTo sink a a all all
prints_to_all sink a all = record { lines = []; prints = prints_none sink a; parted = refl }

module _ {K : Type 0} {sink : SinkMeaning K} {a b : Printer K} {all : Lines} where
  -- the next one is printed
  pub prints_to_next : {c : Printer K} {line first : List ℕ} {rest left : Lines} → left ≡ first ∷ rest → line ≡ first
      → PrintsTo sink a b all left → Prints sink b c (line ∷ []) → PrintsTo sink a c all rest
  prints_to_next {c} {line} {first} {rest} {left} next is so_far one = record {
    lines = so_far.lines ++ first ∷ [];
    prints = prints_more so_far.prints (prints_as (ap (λ (l : List ℕ). l ∷ []) is) one);
    parted = append_assoc so_far.lines (first ∷ []) rest ∙ ap (λ (l : Lines). so_far.lines ++ l) (sym next) ∙ so_far.parted;
  }

  -- none is left
  pub prints_to_end : {left : Lines} → left ≡ [] → PrintsTo sink a b all left → Prints sink a b all
  prints_to_end none so_far =
      prints_as (sym (append-nil so_far.lines) ∙ ap (λ (l : Lines). so_far.lines ++ l) (sym none) ∙ so_far.parted) so_far.prints
