-- The cost of all resources is the least, and the advice is read off it.
use Rattle.std.proofs.Common.{◌≡◌, ℕ, ◌-◌, ◌*◌, ◌/◌, ◌^◌, ◌%◌, ◌≤◌, ◌<◌, List, length, map, get_or, subst, ap, ap₂}
use Rattle.std.proofs.Common.{sym, ◌∙◌, arith}
use Rattle.std.specs.List.{range_with_len}
use Rattle.std.proofs.Math.Nat.{div-le_of_le-mul, mul-le-mul_right}
use Rattle.std.proofs.Math.Pow.{pow_mono}
use Rattle.std.proofs.lemmas.Nat.{one_shl}
use Rattle.std.proofs.lemmas.Option.{get_or_from_slice_get, slice_get-get_or}
use Rattle.cell_base.specs.declared.cells.Cell.{Cell}
use Rattle.order_advisor.specs.declared.weighing.Weighing.{Weighing}
use Rattle.order_advisor.specs.Sets.{power_of_16, most_cost, order_in, KnowsLeast}
use Rattle.order_advisor.proofs.Best.{is_best}
use Rattle.order_advisor.proofs.advice.best_of.Goals as goal

-- the last element, whatever stands for one that is not there
last_cost : (n last : ℕ) (costs : List ℕ) → n ≤ 16 → length costs ≡ 2 ^ n → last ≡ get_or costs (1 * 2 ^ n % 2 ^ 64 - 1) last
    → last ≡ get_or costs (2 ^ n - 1) 0
last_cost n last costs few long read =
    let index = ap (λ p. p - 1) (one_shl n 64 (omega arith)) in
    let within : 2 ^ n - 1 < length costs = omega (arith, long, pow_mono {i = 0} {j = n} (omega arith)) in
    read
    ∙ ap (λ i. get_or costs i last) index
    ∙ get_or_from_slice_get costs (2 ^ n - 1) (get_or costs (2 ^ n - 1) 0) last (slice_get-get_or costs (2 ^ n - 1) 0 within)

-- the weight fits 64 bits
weight-small : (weighing : Weighing) (cell : Cell) (n last : ℕ) (costs : List ℕ) → n ≤ 16 → KnowsLeast weighing cell n (2 ^ n) costs → last ≡ get_or costs (2 ^ n - 1) 0
    → last / power_of_16 n < 2 ^ 64
weight-small weighing cell n last costs few known read =
    let power = pow_mono {i = 0} {j = n} (omega arith) in
    let small = known.small (2 ^ n - 1) (omega (arith, power)) in
    let sets : 2 ^ n - 1 ≤ 65536 = omega (arith, pow_mono {i = n} {j = 16} few) in
    let cost = mul-le-mul_right (most_cost n) sets in
    let less : last ≤ power_of_16 n * 549755813888 = omega (arith, read, small, cost) in
    omega (arith, div-le_of_le-mul (power_of_16 n) less)

pub overflow_cast-result : goal.overflow_cast-result
overflow_cast-result c =
    let n = c.args.resources in
    let last = c.index-least.result.now in
    let costs = c.in_ok-costs.costs.items in
    let read = last_cost n last costs c.requires.limit c.in_ok-costs.ensures.length c.index-least.ensures in
    let small : last / c.power_of_16.result < 2 ^ 64 = subst (λ h. last / h < 2 ^ 64) (sym c.power_of_16.ensures.value)
    (weight-small c.args.weighing c.args.table.now n last costs c.requires.limit c.in_ok-costs.ensures.least read) in
    omega (arith, small)

pub returns : goal.returns
returns c =
    let cell = c.args.table.now in
    let n = c.args.resources in
    let last = c.index-least.result.now in
    let costs = c.in_ok-costs.costs.items in
    let read = last_cost n last costs c.requires.limit c.in_ok-costs.ensures.length c.index-least.ensures in
    is_best c.args.weighing cell n c.requires.resources c.requires.limit costs c.in_ok-costs.ensures.least _
    (c.in_ok-orders.ensures ∙ ap (λ cost. map (order_in n cost) (range_with_len 0 n)) read)
    (ap₂ (λ cost h. cost / h) read c.power_of_16.ensures.value)
    c.in_ok-given.ensures
