-- A grant more is replayed as the definition goes on.
use Rattle.std.specs.Prelude.{true, false, Option}
use Rattle.std.proofs.Common.{ℕ, refl, sym, ◌∙◌, subst}
use Rattle.durable_cell.specs.Replays.{HasReplayed}
use Rattle.durable_cell.proofs.Replaying.{one_more, strayed_stays}
use Rattle.durable_cell.proofs.replays.replay_one.Goals as goal

pub returns-in-Some : goal.returns-in-Some
returns-in-Some c start first grants gate_is has =
    let core = c.args.core.now in
    strayed_stays start core core first c.in-Some.gate grants c.args.grant.now refl
    (subst (λ (stray : Option ℕ). HasReplayed start first grants core stray) c.in-Some.is has)

pub returns-then-is_taken : goal.returns-then-is_taken
returns-then-is_taken c start first grants gate_is has =
    let core = c.args.core.now in
    one_more start core c.is_taken.new.core first c.args.at grants c.args.grant.now true c.is_taken.ensures.cell
    (sym c.if-is_taken.true ∙ c.is_taken.ensures.due) (λ _. c.is_taken.ensures.state c.if-is_taken.true) gate_is
    (subst (λ (stray : Option ℕ). HasReplayed start first grants core stray) c.in-None.is has)

pub returns-else-is_taken : goal.returns-else-is_taken
returns-else-is_taken c start first grants gate_is has =
    let core = c.args.core.now in
    one_more start core c.is_taken.new.core first c.args.at grants c.args.grant.now false c.is_taken.ensures.cell
    (sym c.if-is_taken.false ∙ c.is_taken.ensures.due) (λ due. absurd (cc due)) gate_is
    (subst (λ (stray : Option ℕ). HasReplayed start first grants core stray) c.in-None.is has)
