-- The law is proved as a lemma of that name.
use Rattle.standby_link.proofs.FeedIsFed.{feed_is_fed_law as law}
use Rattle.standby_link.proofs.laws.feed_is_fed_law.Goals as goal

pub returns : goal.returns
returns c = law c.args.cell.now
