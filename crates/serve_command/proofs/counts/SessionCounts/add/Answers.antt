-- One more of its session.
use Rattle.std.proofs.lemmas.Bool.{eq-eqb}
use Rattle.serve_command.proofs.Counting.{counts_one}
use Rattle.serve_command.proofs.counts.SessionCounts.add.Goals as goal

pub returns-then-grant-eq0 : goal.returns-then-grant-eq0
returns-then-grant-eq0 c = λ grants few has.
    counts_one grants c.args.self.now c.args.grant.now has few c.add_one.ensures.long c.add_one.ensures.all c.add_one.ensures.known
    (eq-eqb c.args.grant.now.shift 0 c.if-grant-eq0.true)
    c.add_one.new.self c.add_one.ensures.more c.add_one.ensures.last
