-- The masks tell of the neighborhood.
use Rattle.std.proofs.Common.{◌≡◌, ap, ◌∙◌}
use Rattle.std.proofs.lemmas.Result.{IfOk-weaker}
use Rattle.upstream_sets.specs.Members.{AreMembersOf, with_bit}
use Rattle.upstream_sets.proofs.Stages.{members_are}
use Rattle.upstream_sets.proofs.upstream.Upstream.members.Goals as goal

pub returns : goal.returns
returns c =
    IfOk-weaker c.members.result (λ list. list ≡ with_bit c.deref.result.now c.args.r.0) (AreMembersOf c.args.self.now c.args.r.0)
    (λ list is cell fits made.
    is ∙ ap (λ masks. with_bit masks c.args.r.0) (c.deref.ensures.value ∙ c.self.view_is)
    ∙ members_are cell fits c.args.self.now made c.args.r.0)
    c.members.ensures
