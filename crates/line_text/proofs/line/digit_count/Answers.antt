-- Four digits more for each ten thousand times the number.
use Rattle.std.proofs.Common.{◌≡◌, ◌/◌, length, arith, ap}
use Rattle.std.specs.Fmt.{decimal}
use Rattle.line_text.proofs.Digits.{last_four}
use Rattle.line_text.proofs.line.digit_count.Goals as goal

pub returns-then-n-lt100000000-clause-count : goal.returns-then-n-lt100000000-clause-count
returns-then-n-lt100000000-clause-count c =
    omega (arith, last_four c.args.n c.if-n-lt10000.false (omega (arith, c.ranges.n.fits)), c.short_count-then-n-lt100000000.ensures.count)

pub returns-else-n-lt100000000-clause-count : goal.returns-else-n-lt100000000-clause-count
returns-else-n-lt100000000-clause-count c =
    let n = c.args.n in
    let long = c.if-n-lt100000000.false in
    let fits = c.ranges.n.fits in
    let same : n / 10000 / 10000 ≡ n / 100000000 = omega arith in
    omega (
      arith,
      last_four n (omega (arith, long)) (omega (arith, fits)),
      last_four (n / 10000) (omega (arith, long)) (omega (arith, fits)),
      ap (λ m. length (decimal m)) same,
      c.short_count-else-n-lt100000000.ensures.count,
    )
