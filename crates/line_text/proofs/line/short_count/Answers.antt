-- One digit more for each ten times the number.
use Rattle.std.proofs.Common.{◌/◌, arith}
use Rattle.line_text.proofs.Digits.{one_digit, last_digit}
use Rattle.line_text.proofs.line.short_count.Goals as goal

pub returns-then-n-lt10-clause-count : goal.returns-then-n-lt10-clause-count
returns-then-n-lt10-clause-count c = omega (arith, one_digit c.args.n c.if-n-lt10.true)

pub returns-then-n-lt100-clause-count : goal.returns-then-n-lt100-clause-count
returns-then-n-lt100-clause-count c =
    let n = c.args.n in
    let small = c.if-n-lt100.true in
    omega (arith, last_digit n c.if-n-lt10.false (omega (arith, small)), one_digit (n / 10) (omega (arith, small)))

pub returns-then-n-lt1000-clause-count : goal.returns-then-n-lt1000-clause-count
returns-then-n-lt1000-clause-count c =
    let n = c.args.n in
    let low = c.if-n-lt100.false in
    let small = c.if-n-lt1000.true in
    omega (
      arith,
      last_digit n (omega (arith, low)) (omega (arith, small)),
      last_digit (n / 10) (omega (arith, low)) (omega (arith, small)),
      one_digit (n / 10 / 10) (omega (arith, small)),
    )

pub returns-else-n-lt1000-clause-count : goal.returns-else-n-lt1000-clause-count
returns-else-n-lt1000-clause-count c =
    let n = c.args.n in
    let low = c.if-n-lt1000.false in
    let small = c.requires in
    omega (
      arith,
      last_digit n (omega (arith, low)) (omega (arith, small)),
      last_digit (n / 10) (omega (arith, low)) (omega (arith, small)),
      last_digit (n / 10 / 10) (omega (arith, low)) (omega (arith, small)),
      one_digit (n / 10 / 10 / 10) (omega (arith, small)),
    )
