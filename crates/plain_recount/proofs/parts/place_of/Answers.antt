-- The part that is found is the first one of its job, since there is no other.
use Rattle.std.proofs.Common.{◌≡◌, true, ◌-◌, arith, sym, ◌∙◌, get_or}
use Rattle.cell_base.specs.Policy.{is_of_job}
use Rattle.plain_recount.proofs.Found.{no_part, only_place, position_none}
use Rattle.plain_recount.proofs.parts.place_of.Goals as goal

pub returns-then-eq : goal.returns-then-eq
returns-then-eq c =
    let here : is_of_job c.args.job (get_or c.args.parts.now (c.loop-at.at - 1) no_part) ≡ true = sym c.eq.ensures ∙ c.if-eq.true in
    sym (only_place c.args.job c.args.parts.now (c.loop-at.at - 1) no_part c.requires (omega arith) here)

pub returns : goal.returns
returns c = sym (position_none (is_of_job c.args.job) c.args.parts.now no_part (λ k h. c.loop-at.invariant k no_part (omega arith) h))
