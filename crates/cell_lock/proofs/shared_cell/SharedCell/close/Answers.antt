-- Once all passes have come together, the durable cell is at home, with the history of which they all know.
use Rattle.std.proofs.Common.{◌≡◌, ℕ, ◌≤◌, List, length, arith, sym, ap, ◌∙◌, subst, map}
use Rattle.cell_base.specs.Histories.{IsLegal, grants}
use Rattle.durable_cell.specs.Acknowledged.{HasSince}
use Rattle.durable_cell.specs.Asked.{unsure_grant}
use Rattle.durable_cell.specs.DurableState.{DurableState}
use Rattle.cell_lock.specs.declared.board.Opening.{Opening}
use Rattle.cell_lock.specs.declared.board.View.{View}
use Rattle.cell_lock.specs.Openings.{Outside, first_parts, opening_of}
use Rattle.cell_lock.specs.Views.{AtSeat, own_entries_of}
use Rattle.cell_lock.specs.Law.{AllBegin, AllStand}
use Rattle.cell_lock.specs.Passes.{LockId, PassState, all_answers}
use Rattle.cell_lock.specs.Steps.{gathering}
use Rattle.cell_lock.proofs.Dealing.{sits, closes}
use Rattle.cell_lock.proofs.Gathering.{all_seen, all_stand, all_mine}
use Rattle.cell_lock.proofs.shared_cell.SharedCell.close.Goals as goal

pub load_new_seat-host-requires : goal.load_new_seat-host-requires
load_new_seat-host-requires g c = (omega arith, sits _ _ _ _ c.self.inside.table.shared.key.passes)

pub returns : goal.returns
returns g c =
    let key = c.self.inside.table.shared.key in
    let o : Opening g.row.D.Denot = opening_of key.durable.value key.shift key.passes in
    let ps : List (PassState g.row.D.Denot) = c.args.passes in
    let has : DurableState g.row.D.Denot → ℕ → ℕ → Type 0 = HasSince g.D.Disk.reads_as g.D.Disk.moment g.D.Disk.left_since in
    let opening_is : o ≡ c.args.self.opening = ap (λ (l : LockId g.row.D.Denot). l.opening) c.self.view_is in
    let sat = c.load_new_seat-host.ensures.2 in
    let v : View g.row.D.Denot = c.gather-host.result.me.0 in
    let view : v ≡ gathering o 1 ps =
    ap (λ (m : AtSeat g.row.D.Denot). m.0) c.gather-host.ensures.view
    ∙ ap (λ (m : AtSeat g.row.D.Denot). gathering m.0.opening 1 ps) sat in
    let whole : length ps ≡ o.passes = c.requires.all.count ∙ ap (λ (x : Opening g.row.D.Denot). x.passes) (sym opening_is) in
    let a : DurableState g.row.D.Denot = c.take-durable.result in
    let end = closes has g.D.Disk.moment o _ v _ _ a c.close_with-closed.ensures.values.2 c.take-durable.ensures.value
    (ap (λ (x : View g.row.D.Denot). x.has_turn) view) (ap (λ (x : View g.row.D.Denot). x.first) view)
    (ap (λ (x : View g.row.D.Denot). x.count) view ∙ whole) in
    let fits = end.0 in
    let began : AllBegin (all_answers ps) a.history =
    subst (λ (x : View g.row.D.Denot). AllBegin x.answers a.history) view end.1 in
    let own_entries : map (λ (p : PassState g.row.D.Denot). p.mine) ps ≡ own_entries_of 1 (length ps) a.history =
    ap (λ (x : View g.row.D.Denot). x.own_entries) (sym view) ∙ end.2 ∙ ap (λ (k : ℕ). own_entries_of 1 k a.history) (sym whole) in
    let stand : AllStand has c.args.self.opening.shift a (all_answers ps) =
    subst (λ (z : ℕ × View g.row.D.Denot). AllStand has z.0 a z.1.answers) (λ i. ((opening_is i).shift, view i)) end.4 in
    record {
      opening = subst (λ (x : Opening g.row.D.Denot). opening_of a x.shift x.passes ≡ x) opening_is fits.same;
      legal = subst (λ (x : Opening g.row.D.Denot). IsLegal x.cell (first_parts x) a.history) opening_is fits.legal;
      within = subst (λ (x : Opening g.row.D.Denot). length a.history ≤ x.limit) opening_is fits.short;
      added = fits.added ∙ ap (λ (x : Opening g.row.D.Denot). grants x.shift a.history) opening_is;
      unsure = fits.unsure ∙ ap (λ (x : Opening g.row.D.Denot). unsure_grant x.shift a.history) opening_is;
      seen = all_seen ps a.history began;
      mine = all_mine c.args.self 1 ps a.history c.requires.all.numbered own_entries;
      acknowledged = all_stand has c.args.self.opening.shift a ps stand;
      disk = c.durable_law.ensures.keeps_disk;
      others = λ n out. end.3 n (subst (λ (x : Opening g.row.D.Denot). Outside x n) (sym opening_is) out);
    }
