-- The stored text from an offset on, by what the window holds of it.
use Rattle.std.specs.Prelude.{Some, None}
use Rattle.std.proofs.Common.{◌≡◌, ◌+◌, ◌-◌, ◌≤◌, ◌∙◌, ◌++◌, ℕ, List, length, drop, take, refl, ap, sym, arith, length-take, length-drop}
use Rattle.std.proofs.lemmas.List.{take_rest, drop-append-le}
use Rattle.journal_format.specs.declared.head.TheConstants.{TEXT_AT}
use Rattle.journal_format.specs.Readings.{first_difference}
use Rattle.outside_io.specs.Telling.{where_told, told}
use Rattle.journal_format.proofs.OnlyReading.{reads_none, reads_then}
use Rattle.journal_format.proofs.Stepping.{shows_more}
use Rattle.shift_recovery.proofs.Differences.{compared_some, compared_none, text_longer, text_ends}
use Rattle.shift_recovery.proofs.texts.compare.Goals as goal

pub text-init : goal.text-init
text-init g c = record {
  reads = reads_none g.D.Disk.reads_as g.D.Disk.may_leave g.D.Disk.moment g.D.Disk.left_since c.args.disk.now
      (g.met.D.Disk.only_now c.args.disk.now);
  count = refl;
  compared = omega arith;
  within_text = omega arith;
  window = record {
    used_within = omega (arith, c.requires.read.1);
    begins = omega (arith, c.len-at.ensures);
    read_within =
        omega (arith, c.len-at.ensures, c.requires.read.0);
  };
  shows = where_told _ (λ file. (length file ≡ c.args.len)
      × (drop TEXT_AT file ≡ drop TEXT_AT c.args.kept.items ++ drop c.len-at.result file)) (λ file is.
      let seen = c.requires.bytes file is in (
        seen.0,
        ap (λ (l : List ℕ). drop TEXT_AT l) seen.1 ∙ drop-append-le TEXT_AT c.args.kept.items _ c.requires.read.1
            ∙ ap (λ (k : ℕ). drop TEXT_AT c.args.kept.items ++ drop k file) (let read : length c.args.kept.items ≡ c.len-at.result =
            omega (arith, c.len-at.ensures) in read),
      ));
  same = where_told _ (λ file. first_difference 0 (take c.args.size (drop TEXT_AT file)) c.args.text.now
      ≡ first_difference 0 (take (c.args.size - 0) (drop TEXT_AT file)) c.args.text.now) (λ file is.
      let none : c.args.size ≡ c.args.size - 0 = omega arith in
      ap (λ (k : ℕ). first_difference 0 (take k (drop TEXT_AT file)) c.args.text.now) none);
}

pub returns-in-Some-clause-compared : goal.returns-in-Some-clause-compared
returns-in-Some-clause-compared g c =
    let v = c.text.invariant in
    let wanted : c.min-ready.result ≤ c.args.size - c.text.done = omega (arith, c.min-ready.ensures) in
    let held : c.min-ready.result ≤ length (drop c.text.used c.text.kept.items) =
    omega (arith, c.min-ready.ensures, c.len.ensures, length-drop c.text.used c.text.kept.items) in
    where_told _ (λ file. first_difference 0 (take c.args.size (drop TEXT_AT file)) c.args.text.now ≡ Some c.in-Some.at) (λ file is.
    told _ _ file is v.same ∙ compared_some file c.text.kept.items c.deref.result.now c.args.text.now c.args.size c.text.done
    c.text.at c.text.used c.min-ready.result c.args.len
    c.deref.ensures.value (told _ _ file is v.shows) wanted held c.in-Some.at c.in-Some.ensures.some)

pub text-preserved : goal.text-preserved
text-preserved g c =
    let v = c.text.invariant in
    let ready : ℕ = c.min-ready.result in
    let kept : List ℕ = c.text.kept.items in
    let used : ℕ = c.text.used + ready in
    let wanted : ready ≤ c.args.size - c.text.done = omega (arith, c.min-ready.ensures) in
    let held : ready ≤ length (drop c.text.used kept) = omega (arith, c.min-ready.ensures, c.len.ensures, length-drop c.text.used kept) in
    let fits : used ≤ length kept = omega (arith, c.min-ready.ensures, c.len.ensures, v.window.used_within) in
    let slice : List ℕ = take (length c.deref-in-text.result.now - used) (drop used c.deref-in-text.result.now) in
    let slice_is : slice ≡ drop used kept = take_rest c.deref-in-text.result.now used
    ∙ ap (λ (l : List ℕ). drop used l) c.deref-in-text.ensures.value in
    let length-slice : length slice ≡ length kept - used = ap length slice_is ∙ length-drop used kept in
    let offset : TEXT_AT + c.text.done + ready ≡ TEXT_AT + (c.text.done + ready) = omega arith in
    let none = c.in-None.ensures.none in
    record {
      reads = reads_then g.D.Disk.reads_as g.D.Disk.may_leave g.D.Disk.moment g.D.Disk.left_since _ _ _ v.reads c.in_ok-kept.ensures.reads;
      count = c.in_ok-kept.ensures.ok ∙ v.count;
      compared = omega (arith, wanted, v.compared);
      within_text = omega (
        arith,
        none.0,
        length-take (used - c.text.used) (drop c.text.used c.deref.result.now),
        length-drop c.text.used c.deref.result.now,
        ap length c.deref.ensures.value,
        length-take (length c.args.text.now - c.text.done) (drop c.text.done c.args.text.now),
        length-drop c.text.done c.args.text.now,
        fits,
        v.within_text,
      );
      window = record {
        used_within = omega arith;
        begins = omega (arith, v.window.begins, c.in_ok-kept.ensures.longer, length-slice, c.min-at.ensures, fits);
        read_within = omega (arith, c.min-at.ensures, v.window.read_within);
      };
      shows = where_told _ (λ file. (length file ≡ c.args.len)
          × (drop (TEXT_AT + (c.text.done + ready)) file ≡ drop 0 c.in_ok-kept.kept.items ++ drop
          (c.text.at + c.min-at.result) file)) (λ file is.
          let seen = told _ _ file is v.shows in (
            seen.0,
            ap (λ (k : ℕ). drop k file) (sym offset)
                ∙ shows_more file kept (TEXT_AT + c.text.done) c.text.at c.text.used ready held seen.1
                ∙ ap (λ (l : List ℕ). l ++ drop c.text.at file) (sym slice_is)
                ∙ told _ _ file (v.reads.same ∙ is) c.in_ok-kept.ensures.bytes
                ∙ ap (λ (k : ℕ). c.in_ok-kept.kept.items ++ drop (c.text.at + k) file) (sym c.min-at.ensures),
          ));
      same = where_told _ (λ file. first_difference 0 (take c.args.size (drop TEXT_AT file)) c.args.text.now
          ≡ first_difference (c.text.done + ready)
          (take (c.args.size - (c.text.done + ready)) (drop (TEXT_AT + (c.text.done + ready)) file))
          (drop (c.text.done + ready) c.args.text.now)) (λ file is.
          told _ _ file is v.same ∙ compared_none file kept c.deref.result.now c.args.text.now c.args.size c.text.done c.text.at
          c.text.used ready c.args.len c.deref.ensures.value (told _ _ file is v.shows) wanted held none.1);
    }

pub returns-then-size-text-clause-compared : goal.returns-then-size-text-clause-compared
returns-then-size-text-clause-compared g c =
    let v = c.text.invariant in
    let ready : ℕ = c.min-ready.result in
    let kept : List ℕ = c.text.kept.items in
    let wanted : ready ≤ c.args.size - c.text.done = omega (arith, c.min-ready.ensures) in
    let held : ready ≤ length (drop c.text.used kept) = omega (arith, c.min-ready.ensures, c.len.ensures, length-drop c.text.used kept) in
    let all : c.text.done + ready ≡ c.args.size = c.if-done-size.true in
    let none = c.in-None.ensures.none in
    where_told _ (λ file. first_difference 0 (take c.args.size (drop TEXT_AT file)) c.args.text.now ≡ Some c.args.size) (λ file is.
    told _ _ file is v.same ∙ compared_none file kept c.deref.result.now c.args.text.now c.args.size c.text.done c.text.at
    c.text.used ready c.args.len c.deref.ensures.value (told _ _ file is v.shows) wanted held none.1
    ∙ text_longer c.args.size (c.text.done + ready) (drop (TEXT_AT + (c.text.done + ready)) file) c.args.text.now all
    (omega (arith, all, c.if-size-text.true)))

pub returns-clause-compared : goal.returns-clause-compared
returns-clause-compared g c =
    let v = c.text.invariant in
    let ready : ℕ = c.min-ready.result in
    let kept : List ℕ = c.text.kept.items in
    let wanted : ready ≤ c.args.size - c.text.done = omega (arith, c.min-ready.ensures) in
    let held : ready ≤ length (drop c.text.used kept) = omega (arith, c.min-ready.ensures, c.len.ensures, length-drop c.text.used kept) in
    let fits : c.text.used + ready ≤ length kept = omega (arith, c.min-ready.ensures, c.len.ensures, v.window.used_within) in
    let all : c.text.done + ready ≡ c.args.size = c.if-done-size.true in
    let offset : TEXT_AT + c.text.done + ready ≡ TEXT_AT + c.args.size = omega (arith, all) in
    let none = c.in-None.ensures.none in (
      where_told _ (λ file. first_difference 0 (take c.args.size (drop TEXT_AT file)) c.args.text.now ≡ None) (λ file is.
          told _ _ file is v.same ∙ compared_none file kept c.deref.result.now c.args.text.now c.args.size c.text.done c.text.at
          c.text.used ready c.args.len c.deref.ensures.value (told _ _ file is v.shows) wanted held none.1
          ∙ text_ends c.args.size (c.text.done + ready) (drop (TEXT_AT + (c.text.done + ready)) file) c.args.text.now all
          (omega (arith, all, c.if-size-text.false))),
      record { used_within = fits; begins = omega (arith, v.window.begins, all); read_within = v.window.read_within },
      where_told _ (λ file. (length file ≡ c.args.len)
          × (drop (TEXT_AT + c.args.size) file ≡ drop (c.text.used + ready) kept ++ drop c.text.at file)) (λ file is.
          let seen = told _ _ file is v.shows in (
            seen.0,
            ap (λ (k : ℕ). drop k file) (sym offset)
                ∙ shows_more file kept (TEXT_AT + c.text.done) c.text.at c.text.used ready held seen.1,
          )),
    )
