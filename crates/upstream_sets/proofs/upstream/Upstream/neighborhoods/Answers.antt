-- The masks tell of each neighborhood.
use Rattle.std.proofs.Common.{ap, ◌∙◌, length}
use Rattle.std.proofs.lemmas.Result.{IfOk-weaker}
use Rattle.upstream_sets.specs.Members.{AreNeighborhoodsOf, HaveBits, with_bit}
use Rattle.upstream_sets.proofs.Stages.{members_are}
use Rattle.upstream_sets.proofs.upstream.Upstream.neighborhoods.Goals as goal

pub returns : goal.returns
returns c =
    IfOk-weaker c.neighborhoods.result (λ lists. HaveBits (length c.deref.result.now) c.deref.result.now lists.items)
    (λ lists. AreNeighborhoodsOf c.args.self.now lists.items)
    (λ lists have. record {
      complete = have.complete;
      each = λ r within cell fits made.
          have.each r within ∙ ap (λ masks. with_bit masks r) (c.deref.ensures.value ∙ c.self.view_is)
          ∙ members_are cell fits c.args.self.now made r;
    })
    c.neighborhoods.ensures
