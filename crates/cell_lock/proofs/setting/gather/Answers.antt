-- The last pass that is left takes in those after it.
use Rattle.std.proofs.Common.{◌≡◌, ◌+◌, ◌∷◌, [], ◌++◌, ℕ, List, length, length-append, append_assoc, arith, sym, ap, ◌∙◌, subst}
use Rattle.cell_lock.specs.declared.board.View.{View}
use Rattle.cell_lock.specs.Views.{AtSeat, gathered, passing}
use Rattle.cell_lock.specs.Passes.{LockId, PassState, ArePassesNumbered}
use Rattle.cell_lock.specs.Steps.{lock_of, gathering}
use Rattle.cell_lock.proofs.Gathering.{numbered_at, gathered_more}
use Rattle.cell_lock.proofs.setting.gather.Goals as goal

-- the last of the passes that are left is of the lock, and has the number before those that have come together
last_left : {D : Type 0} (lock : LockId D) (left new done all : List (PassState D)) (p : PassState D) → left ++ done ≡ all
    → left ≡ new ++ p ∷ [] → ArePassesNumbered lock 1 all
    → (new ++ p ∷ done ≡ all) × (p.lock ≡ lock) × (p.number ≡ length new + 1) × (length left ≡ length new + 1)
last_left {D} lock left new done all p together pops numbered =
    let whole : new ++ p ∷ done ≡ all =
    sym (append_assoc new (p ∷ []) done) ∙ (ap (λ (l : List (PassState D)). l ++ done) (sym pops) ∙ together) in
    let t = numbered_at lock 1 new done p (subst (λ (l : List (PassState D)). ArePassesNumbered lock 1 l) (sym whole) numbered) in
    let one : 1 + length new ≡ length new + 1 = omega arith in
    (whole, t.0, t.1 ∙ one, ap (λ (l : List (PassState D)). length l) pops ∙ length-append new (p ∷ []))

pub gather_one-host-requires-clause-pass : goal.gather_one-host-requires-clause-pass
gather_one-host-requires-clause-pass g c =
    let i = c.loop-pass.invariant in
    let t = last_left (lock_of c.args.host) c.loop-pass.passes c.pop.new.self i.1.0 c.args.passes c.in-Some.pass i.1.1
    c.in-Some.ensures.some c.requires.passes in
    let first : c.loop-pass.host.me.0.first ≡ length c.loop-pass.passes + 1 =
    ap (λ (m : AtSeat g.row.D.Denot). m.0.first) i.1.2 in
    (ap (λ (l : LockId g.row.D.Denot). l.table) t.1 ∙ sym i.0, omega (arith, first, t.2, t.3))

pub loop-pass-preserved : goal.loop-pass-preserved
loop-pass-preserved g c =
    let i = c.loop-pass.invariant in
    let done = i.1.0 in
    let p : PassState g.row.D.Denot = c.in-Some.pass in
    let o = c.args.host.me.0.opening in
    let first : ℕ = length c.loop-pass.passes + 1 in
    let t = last_left (lock_of c.args.host) c.loop-pass.passes c.pop.new.self done c.args.passes p i.1.1 c.in-Some.ensures.some
    c.requires.passes in
    let more : gathered (passing p.lock.opening p.number p.seen p.moment p.earlier p.mine) (gathering o first done)
    ≡ gathering o p.number (p ∷ done) =
    gathered_more o first p done (ap (λ (l : LockId g.row.D.Denot). l.opening) t.1) in
    let taken : View g.row.D.Denot → AtSeat g.row.D.Denot =
    λ (v : View g.row.D.Denot). (gathered (passing p.lock.opening p.number p.seen p.moment p.earlier p.mine) v, []) in
    let view = c.gather_one-host.ensures.view ∙ (ap (λ (m : AtSeat g.row.D.Denot). taken m.0) i.1.2
    ∙ ((λ j. (more j, [])) ∙ (λ j. (gathering o (t.2 j) (p ∷ done), [])))) in
    (c.gather_one-host.ensures.table ∙ i.0, (p ∷ done, t.0, view))
