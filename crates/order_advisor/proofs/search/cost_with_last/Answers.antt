-- The resource is taken out of the set, and what leads to it and the members before it are counted.
use Rattle.std.proofs.Common.{◌≡◌, ℕ, ◌≤◌, ◌<◌, ◌+◌, ◌-◌, ◌*◌, ◌^◌, ◌%◌, get_or, ap, ap₂, ◌∙◌, arith}
use Rattle.std.proofs.lemmas.Nat.{one_shl, mul-le}
use Rattle.std.proofs.Math.Pow.{pow_mono}
use Rattle.policy_laws.proofs.Limits.{few_stages}
use Rattle.order_advisor.specs.Orders.{unit_weight}
use Rattle.order_advisor.specs.Sets.{members_of, cost, most_cost}
use Rattle.order_advisor.proofs.Masks.{without}
use Rattle.order_advisor.proofs.Digits.{power_of_16-le}
use Rattle.order_advisor.proofs.Sweeps.{added-counted}
use Rattle.order_advisor.proofs.Costs.{sum-small}
use Rattle.order_advisor.proofs.search.cost_with_last.Goals as goal

before : (n set r : ℕ) → n ≤ 16 → r < n → set - 1 * 2 ^ r % 2 ^ 64 ≡ set - 2 ^ r
before n set r few within = ap (λ p. set - p) (one_shl r 64 (omega arith))

-- the numbers of a cell of 16 resources
fits : (n set : ℕ) → n ≤ 16 → set < 2 ^ n → set * most_cost n < 2 ^ 128
fits n set few small =
    omega (
      arith,
      mul-le set (most_cost n) 65536 (8388608 * 2 ^ 64)
          (omega (arith, small, pow_mono {i = n} {j = 16} few)) (omega (arith, power_of_16-le n 16 few)),
    )

pub weight_of-weight-requires-clause-members : goal.weight_of-weight-requires-clause-members
weight_of-weight-requires-clause-members c =
    omega (arith, c.count.ensures.few, c.requires.masks_length, few_stages c.args.table.now c.requires.fits)

pub returns-clause-small : goal.returns-clause-small
returns-clause-small c =
    let n = c.args.resources in
    let set = c.args.set in
    let r = c.args.r.0 in
    let rest = before n set r c.requires.few c.requires.resource in
    let split = without n set r c.requires.set c.requires.resource c.requires.member in
    let power : 1 ≤ 2 ^ r = pow_mono {i = 0} {j = r} (omega arith) in
    let less = c.requires.below.small (set - 2 ^ r) (omega (arith, split.is, power)) in
    let same = ap (λ s. get_or c.args.costs.now s 0) rest in
    omega (
      arith,
      same,
      sum-small set (set - 2 ^ r) (2 ^ r) (most_cost n) (get_or c.args.costs.now
          (set - 2 ^ r) 0) c.cost.result split.is power less c.cost.ensures.small,
    )

pub overflow_add-result : goal.overflow_add-result
overflow_add-result c =
    omega (arith, returns-clause-small c, fits c.args.resources c.args.set c.requires.few c.requires.set)

pub returns-clause-value : goal.returns-clause-value
returns-clause-value c =
    let n = c.args.resources in
    let rest = before n c.args.set c.args.r.0 c.requires.few c.requires.resource in
    let masks = c.args.masks.now in
    let known = c.requires.masks in
    let counted = added-counted c.args.table.now c.args.set c.args.r.0 masks c.requires.masks_length known c.requires.member in
    ap₂ ◌+◌ (ap (λ s. get_or c.args.costs.now s 0) rest)
    (c.cost.ensures.value
    ∙ ap₂ (cost n c.args.r.0) (c.weight_of-weight.ensures.value
    ∙ ap (λ members. members * unit_weight c.args.weighing c.args.table.now c.args.r.0) (c.count.ensures.value ∙ counted))
    (c.members_of.ensures.value ∙ ap (members_of n) rest))
