-- The rule of the table holds of a durable cell in which nothing was decided.
use Rattle.std.proofs.Common.{◌≡◌, ◌≤◌, ℕ, None, [], ◌∷◌, length, refl, arith, sym, ap, ◌∙◌, subst}
use Rattle.cell_base.specs.Histories.{IsLegal, grants, replay}
use Rattle.durable_cell.specs.Acknowledged.{HasSince}
use Rattle.durable_cell.specs.Asked.{unsure_grant}
use Rattle.durable_cell.specs.DurableState.{DurableState}
use Rattle.durable_cell.proofs.Unasked.{none_added, none_unsure}
use Rattle.cell_lock.specs.Openings.{opening_of, Fits}
use Rattle.cell_lock.proofs.Acknowledging.{since_found}
use Rattle.cell_lock.proofs.Dealing.{starts}
use Rattle.cell_lock.proofs.setting.lay.Goals as goal

pub new-requires : goal.new-requires
new-requires g c =
    let a : DurableState g.row.D.Denot = c.of.result.value in
    let same : a ≡ c.args.durable = c.of.ensures in
    let new : a.history ≡ [] = ap (λ (x : DurableState g.row.D.Denot). x.history) same ∙ c.requires in
    let kept = c.durable_law.ensures.kept in
    let none : a.added ≡ [] = ap (λ (x : DurableState g.row.D.Denot). x.added) same ∙ none_added c.args.durable kept c.requires in
    let sure : a.unsure ≡ None = ap (λ (x : DurableState g.row.D.Denot). x.unsure) same ∙ none_unsure c.args.durable kept c.requires in
    let fits : Fits (opening_of a c.args.shift c.args.passes) a = record {
      same = refl;
      legal = subst (λ h. IsLegal a.cell (replay a.cell a.opening) h) (sym new) tt;
      short = subst (λ h. length h ≤ a.limit) (sym new) (omega arith);
      added = none ∙ ap (λ h. grants c.args.shift h) (sym new);
      unsure = sure ∙ ap (λ h. unsure_grant c.args.shift h) (sym new);
    } in
    let has : DurableState g.row.D.Denot → ℕ → ℕ → Type 0 = HasSince g.D.Disk.reads_as g.D.Disk.moment g.D.Disk.left_since in
    let begun : has a (g.D.Disk.moment a.found) 0 =
    subst (λ (x : DurableState g.row.D.Denot). has x (g.D.Disk.moment x.found) 0) (sym same)
    (since_found g.D.Disk.reads_as g.D.Disk.may_leave g.D.Disk.moment g.D.Disk.left_since g.D.Disk.faults c.args.durable
    c.durable_law.ensures.keeps_disk) in
    starts has g.D.Disk.moment (opening_of a c.args.shift c.args.passes) a c.args.passes _ _ refl
    (c.in_ok-slots.ensures.ok ∙ ap (λ (x : DurableState g.row.D.Denot). x ∷ []) (sym same)) new fits refl begun
