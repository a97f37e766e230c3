-- What stands at a gate in the window stands at it in the file.
use Rattle.std.specs.Prelude.{Option, Some, Result, Ok, Err}
use Rattle.std.proofs.Common.{◌≡◌, ◌+◌, ◌-◌, ◌≤◌, ◌≢◌, ◌∙◌, ◌++◌, ◌∷◌, [], ℕ}
use Rattle.std.proofs.Common.{List, length, drop, take, ap, refl, arith, length-take, length-drop}
use Rattle.std.proofs.lemmas.List.{length_push}
use Rattle.journal_format.specs.declared.fault.JournalFault.{JournalFault}
use Rattle.journal_format.specs.declared.fault.JournalFault.TheVariants.{Long}
use Rattle.cell_base.specs.declared.shifts.Grant.{Grant}
use Rattle.entry_codec.specs.declared.encoder.TheConstants.{ENTRY_SIZE}
use Rattle.journal_format.specs.Readings.{with_grants, grants_from}
use Rattle.outside_io.specs.Telling.{where_told, told}
use Rattle.journal_format.proofs.Stepping.{closed_ends, fault_ends, too_long, with_none, gate_known, shows_more, walk_step}
use Rattle.shift_recovery.proofs.walks.walk.Goals as goal

abbrev good : Option Grant → Result (Option Grant) JournalFault
good found = Ok found

pub returns-in-Some-Err-clause-walked : goal.returns-in-Some-Err-clause-walked
returns-in-Some-Err-clause-walked g c =
    let v = c.gates.invariant in
    where_told _ (λ file. grants_from c.args.room c.args.room c.args.first (drop c.args.first file) ≡ Err c.in-Some-Err.why) (λ file is.
    told _ _ file is v.walked ∙ ap (with_grants c.gates.invariant.grants) (fault_ends c.args.room _ c.gates.gate _ c.in-Some-Err.why
    (gate_known file c.gates.kept.items c.deref.result.now c.gates.gate c.gates.at c.gates.used c.args.len _
    c.deref.ensures.value (told _ _ file is v.shows) c.in-Some-Err.ensures.found ∙ c.in-Some-Err.field-0-is)))

pub returns-in-Some-Ok-None-clause-walked : goal.returns-in-Some-Ok-None-clause-walked
returns-in-Some-Ok-None-clause-walked g c =
    let v = c.gates.invariant in
    record {
      grants = v.grants;
      taken = v.taken;
      counted = v.counted;
      few = omega (arith, v.counted, v.within);
      gate_is = v.gate_is;
      found = where_told _ (λ file. grants_from c.args.room c.args.room c.args.first (drop c.args.first file) ≡ Ok v.grants) (λ file is.
          told _ _ file is v.walked ∙ ap (with_grants v.grants) (closed_ends c.args.room _ c.gates.gate _
          (gate_known file c.gates.kept.items c.deref.result.now c.gates.gate c.gates.at c.gates.used c.args.len _
          c.deref.ensures.value (told _ _ file is v.shows) c.in-Some-Ok-None.ensures.found ∙ c.in-Some-Ok-None.field-0-is
          ∙ ap (λ (o : Option Grant). good o) c.in-Some-Ok-None.field-0-0-is)) ∙ with_none v.grants);
    }

pub returns-then-count-room-clause-walked : goal.returns-then-count-room-clause-walked
returns-then-count-room-clause-walked g c =
    let v = c.gates.invariant in
    let is_grant : c.in-Some-Ok-Some.field-0 ≡ good (Some c.in-Some-Ok-Some.grant) = c.in-Some-Ok-Some.field-0-is
    ∙ ap (λ (o : Option Grant). good o) c.in-Some-Ok-Some.field-0-0-is in
    where_told _ (λ file. grants_from c.args.room c.args.room c.args.first (drop c.args.first file)
    ≡ Err (Long (c.args.room + 1))) (λ file is.
    told _ _ file is v.walked ∙ ap (with_grants c.gates.invariant.grants)
    (too_long c.args.room _ c.gates.gate _ c.in-Some-Ok-Some.grant (omega (arith, c.if-count-room.true, v.counted))
    (gate_known file c.gates.kept.items c.deref.result.now c.gates.gate c.gates.at c.gates.used c.args.len _
    c.deref.ensures.value (told _ _ file is v.shows) c.in-Some-Ok-Some.ensures.found ∙ is_grant)))

-- the window holds the gate, the record and the gate after it
long_window : (kept seen : List ℕ) (used : ℕ) → seen ≡ kept → 18 ≤ length (take (length seen - used) (drop used seen))
    → used + 18 ≤ length kept
long_window kept seen used is long =
    omega (arith, long, ap length is, length-take (length seen - used) (drop used seen), length-drop used seen)

pub overflow_add-gate : goal.overflow_add-gate
overflow_add-gate g c =
    let v = c.gates.invariant in
    let is_grant : c.in-Some-Ok-Some.field-0 ≡ good (Some c.in-Some-Ok-Some.grant) = c.in-Some-Ok-Some.field-0-is
    ∙ ap (λ (o : Option Grant). good o) c.in-Some-Ok-Some.field-0-0-is in
    let long : c.gates.used + 18 ≤ length c.gates.kept.items =
    long_window c.gates.kept.items c.deref.result.now c.gates.used c.deref.ensures.value
    (c.in-Some-Ok-Some.ensures.whole c.in-Some-Ok-Some.grant (ap (λ r. Some r) is_grant)) in
    omega (arith, long, v.window.begins, v.window.read_within)

pub gates-smaller : goal.gates-smaller
gates-smaller g c =
    let v = c.gates.invariant in
    let is_grant : c.in-Some-Ok-Some.field-0 ≡ good (Some c.in-Some-Ok-Some.grant) = c.in-Some-Ok-Some.field-0-is
    ∙ ap (λ (o : Option Grant). good o) c.in-Some-Ok-Some.field-0-0-is in
    let long : c.gates.used + 18 ≤ length c.gates.kept.items =
    long_window c.gates.kept.items c.deref.result.now c.gates.used c.deref.ensures.value
    (c.in-Some-Ok-Some.ensures.whole c.in-Some-Ok-Some.grant (ap (λ r. Some r) is_grant)) in
    omega (arith, long, v.window.begins, v.window.read_within)

pub gates-preserved : goal.gates-preserved
gates-preserved g c =
    let v = c.gates.invariant in
    let grants = v.grants in
    let grant = c.in-Some-Ok-Some.grant in
    let new : List Grant = grants ++ grant ∷ [] in
    let is_grant : c.in-Some-Ok-Some.field-0 ≡ good (Some grant) = c.in-Some-Ok-Some.field-0-is
    ∙ ap (λ (o : Option Grant). good o) c.in-Some-Ok-Some.field-0-0-is in
    let long : c.gates.used + 18 ≤ length c.gates.kept.items =
    long_window c.gates.kept.items c.deref.result.now c.gates.used c.deref.ensures.value
    (c.in-Some-Ok-Some.ensures.whole grant (ap (λ r. Some r) is_grant)) in
    let size : length new ≡ length grants + 1 = length_push grants grant in
    let other : length grants ≢ c.args.room = λ same. c.if-count-room.false (v.counted ∙ same) in
    record {
      reads = v.reads;
      faults = v.faults;
      window = record { used_within = omega (arith, long); begins = omega (arith, v.window.begins); read_within = v.window.read_within };
      shows = where_told _ (λ file. (length file ≡ c.args.len)
          × (drop (c.gates.gate + ENTRY_SIZE) file ≡ drop (c.gates.used + ENTRY_SIZE) c.gates.kept.items ++ drop c.gates.at file))
          (λ file is.
          let seen = told _ _ file is v.shows in (
            seen.0,
            shows_more file c.gates.kept.items c.gates.gate c.gates.at c.gates.used ENTRY_SIZE
                (omega (arith, long, length-drop c.gates.used c.gates.kept.items)) seen.1,
          ));
      grants = new;
      taken = c.in_ok-visit-in-Some-Ok-Some.ensures c.args.visitor.now c.args.first grants v.gate_is v.taken;
      counted = omega (arith, v.counted, size);
      gate_is = omega (arith, v.gate_is, size);
      within = omega (arith, size, v.within, other);
      walked = where_told _ (λ file. grants_from c.args.room c.args.room c.args.first (drop c.args.first file) ≡
          with_grants new (grants_from c.args.room (c.args.room - length new) (c.gates.gate + ENTRY_SIZE)
          (drop (c.gates.gate + ENTRY_SIZE) file))) (λ file is.
          walk_step file grants new grant c.args.room c.args.first c.gates.gate refl
          v.within other
          (gate_known file c.gates.kept.items c.deref.result.now c.gates.gate c.gates.at c.gates.used c.args.len _
          c.deref.ensures.value (told _ _ file is v.shows) c.in-Some-Ok-Some.ensures.found ∙ is_grant)
          (told _ _ file is v.walked));
    }
