-- The bits of one resource more, and none is marked.
use Rattle.std.proofs.Common.{◌+◌, List, length, ap, subst, arith, ◌∙◌}
use Rattle.std.proofs.lemmas.List.{length_push}
use Rattle.cell_base.specs.declared.cells.ResId.{ResId}
use Rattle.admission_core.specs.Occupied.{AreBitsOf}
use Rattle.admission_core.proofs.Marking.{bits_more, none_marked}
use Rattle.admission_core.proofs.occupied.Occupied.new.Goals as goal

pub loop-r-preserved : goal.loop-r-preserved
loop-r-preserved c =
    let ranks = c.in_ok-ranks.ranks.items in
    let bits = c.loop-r.bits.items in
    let own : AreBitsOf c.in_ok-ranks.ranks.items c.loop-r.r c.bits_of.result =
    subst (λ (ranks : List ResId). AreBitsOf ranks c.loop-r.r c.bits_of.result) c.deref.ensures.value c.bits_of.ensures in
    record {
      long = ap length c.in_ok-push.ensures.items ∙ length_push bits c.bits_of.result ∙ ap (λ n. n + 1) c.loop-r.invariant.long;
      each = rw c.in_ok-push.ensures.items
          (bits_more ranks bits c.loop-r.r c.bits_of.result c.loop-r.invariant.long c.loop-r.invariant.each own);
    }

pub invariant_of-result : goal.invariant_of-result
invariant_of-result c =
    let few = c.in_ok-ranks.ensures.length in
    none_marked c.in_ok-ranks.ranks.items c.loop-r.bits.items (omega (arith, few, c.requires.resource_count))
    (λ r within. c.loop-r.invariant.each r (omega (arith, within, c.loop-r.invariant.long)))
