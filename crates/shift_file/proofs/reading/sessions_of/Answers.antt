-- One more session, which fits.
use Rattle.std.proofs.Common.{◌≡◌, ◌++◌, ◌∷◌, [], Ok, length, rules, arith}
use Rattle.std.proofs.lemmas.List.{length-append}
use Rattle.std.proofs.lemmas.List.Elements.{All-push}
use Rattle.toml.specs.View.{view}
use Rattle.toml_walk.proofs.Each.{each_taken, given_ok}
use Rattle.shift_file.specs.declared.faults.ShiftFault.TheVariants.{Memory}
use Rattle.shift_file.specs.Sessions.{SessionFits}
use Rattle.shift_file.specs.Walk.{next_session}
use Rattle.shift_file.proofs.reading.sessions_of.Goals as goal

pub loop-value-preserved : goal.loop-value-preserved
loop-value-preserved c =
    let cell = c.args.cell.now in
    let found = c.loop-value.found.items in
    let session = c.in_ok-session.session in
    let value = c.in-Some.value in
    let left = c.next.new.self.rest.items in
    let taken : c.loop-value.value-iterator.rest.items ≡ value ∷ left = c.in-Some.ensures.steps.0 in
    let kept = rw taken at c.loop-value.invariant in
    let pushed : c.push.new.self.items ≡ found ++ session ∷ [] = c.in_ok-push.ensures.items in
    let count : c.len.result ≡ length found = search rules in
    let read : next_session cell found (view value) ≡ Ok session =
    rw count at (given_ok Memory session _ c.in_ok-session.ensures.session) in
    record {
      so_far = rw pushed (each_taken (next_session cell) found value left session _ read kept.so_far);
      count = rw pushed (omega (arith, length-append found (session ∷ []), kept.count));
      narrow = omega (arith, kept.narrow);
      fit = rw pushed (All-push (SessionFits cell) found session kept.fit c.in_ok-session.ensures.fits);
    }
