-- One grant more is the next one of the start, or it is another; after another one nothing more is compared.
use Rattle.std.proofs.Common.{rules, ◌≡◌, None, length, refl, sym, ◌∙◌}
use Rattle.std.proofs.lemmas.Bool.{ltb-false, true≢false}
use Rattle.std.proofs.lemmas.Option.{slice_get_past, slice_get_read}
use Rattle.carry_commands.proofs.Comparing.{goes_on, overruns, still_other, strays}
use Rattle.carry_commands.proofs.compared.ComparedGrantVisitor.visit.Goals as goal
use Rattle.carry_commands.proofs.compared.ComparedGrantVisitor.visit.Goals.{in_default-via-in-Some+else-is_grant_of, in_default-via-in_default}

pub returns-in-Some : goal.returns-in-Some
returns-in-Some c start first grants gate_is (same, taken) =
    let now = c.args.self.now in
    let none : now.other ≡ None = search rules in
    let request = c.in-Some.request.now in
    let there = slice_get_read now.requests.now _ now.held request refl c.in-Some.ensures.lookup.3.0 c.in-Some.ensures.lookup.1 in (
      same,
      goes_on now.requests.now grants now.held c.args.grant now.other none taken request there
          (c.is_grant_of.ensures.0 c.if-is_grant_of.true),
    )

pub returns-in_default : goal.returns-in_default
returns-in_default c start first grants gate_is (same, taken) =
    let now = c.args.self.now in
    let none : now.other ≡ None = search rules in
    elim c.in_default.branch [
      | in_default-via-in-Some+else-is_grant_of w ↦
          let request = w.in-Some.request.now in
          let there = slice_get_read now.requests.now _ now.held request refl w.in-Some.ensures.lookup.3.0 w.in-Some.ensures.lookup.1 in (
            same,
            strays now.requests.now grants now.held c.args.grant now.other none taken request there
                (λ is. true≢false (sym (w.is_grant_of.ensures.1 is) ∙ w.if-is_grant_of.false)),
          )
      | in_default-via-in_default w ↦
          let past = ltb-false now.held (length now.requests.now) (sym w.in_default.ensures.lookup.0) in (
            same,
            overruns now.requests.now grants now.held c.args.grant now.other none taken
                (slice_get_past now.requests.now now.held past),
          )
    ]

pub returns-else-is_none : goal.returns-else-is_none
returns-else-is_none c start first grants gate_is (same, taken) =
    let now = c.args.self.now in
    (same, still_other now.requests.now grants now.held c.args.grant now.other (search rules) taken)
