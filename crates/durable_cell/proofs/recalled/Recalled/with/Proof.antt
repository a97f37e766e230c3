-- The value is made with the list that the borrowed one shows, and the grant at its end.
use Rattle.atomic_table.proofs.Names.{◌≡◌, [], ◌∷◌, ◌++◌, refl, Val, vptr, SProp, Fml, emp, fact, fact_i, ‵, raw, ◌⊛◌, ◌$◌, ◌∵◌, ! }
use Rattle.atomic_table.proofs.Names.{qed, by, keep, split, fjoin, use0, nothing, no_more, and_then, agg, get, sets, look_at, enter}
use Rattle.atomic_table.proofs.Names.{returns, alloc_all, pass_all, free_all, tables, owns, types_at, alive, Stays, stay_dropped, walk_of}
use Rattle.atomic_table.proofs.Names.{Goes-dropped, named, plain, yes, shr_vals, shr_Tells, RefOf}
use Rattle.atomic_table.proofs.Walks.{proved, leaves}
use Rattle.cell_base.specs.contracts.shifts.Grant as grant
use Rattle.durable_cell.specs.contracts.recalled.Recalled as recalled
use Rattle.durable_cell.specs.contracts.recalled.Recalled.with.{ended, clauses}
use Rattle.durable_cell.specs.contracts.recalled.Recalled.with.Key.{name as #self}
use Rattle.durable_cell.proofs.Tokens.{token, remembering, made}
use Rattle.durable_cell.proofs.recalled.Recalled.with.Statement.{statement}
use Rattle.durable_cell.proofs.recalled.Recalled.with.Code as code

abbrev stayed : Stays ended.signature.params ended.kept
stayed = (
  stay_dropped (RefOf (0 ∷ []) tt (plain (λ _. recalled.the_row)) (λ _. tt)) yes,
  (stay_dropped (RefOf (1 ∷ []) tt (plain (λ _. grant.the_row)) (λ _. tt)) yes, tt),
)

pub with_spec : {M : Type 1} → statement M
with_spec 𝓤 𝓛 𝓜 𝓡 wired =
    let H = 𝓛.H in let 𝓣 = tables 𝓤 H 𝓜 𝓡 𝓡.env in let c = clauses 𝓛 𝓜.mem 𝓡.returns in
    proved 𝓛 ended stayed c 𝓜 𝓡 (
      Goes-dropped 𝓛 2 (RefOf (0 ∷ []) tt (plain (λ _. recalled.the_row)) (λ _. tt)) yes (λ κs x f. refl),
      (Goes-dropped 𝓛 2 (RefOf (1 ∷ []) tt (plain (λ _. grant.the_row)) (λ _. tt)) yes (λ κs x f. refl), tt),
    )
    #self code.function (code.unfolded 𝓤 H 𝓜 𝓡 wired) (λ κs. (shr_vals, (shr_vals, tt)))
    (λ κs. (shr_Tells (named 0) κs.0 recalled.the_row, (shr_Tells (named 1) κs.1.0 grant.the_row, tt))) (λ κs qs bounds a gh are.
    let more = a.0.now.items ++ a.1.0.now ∷ [] in let r = remembering more in let Told : Type 0 = r.items ≡ more in
    let O : Fml = recalled.the_row.own_val r (token ∷ []) in
    let y : (walk_of 𝓛 ended stayed c).Ghost = ((κs, qs, bounds, a, (shr_vals a.0, (shr_vals a.1.0, tt))), gh) in
    let Post : Val → SProp 𝓤 = (walk_of 𝓛 ended stayed c).post y in
    qed 𝓛 ((raw (alive 𝓛 ended.signature κs qs) ⊛ ‵ (owns (types_at ended.signature.params κs) a y.0.4)) ∷ raw ((c κs a).requires gh) ∷ [])
    ∵ split ! $ keep ! (0 ∷ []) $
    enter ! 𝓣.C 𝓣.Λ code.function (vptr a.0.ref_ptr.0 a.0.ref_ptr.1 ∷ vptr a.1.0.ref_ptr.0 a.1.0.ref_ptr.1 ∷ []) Post $
    alloc_all ! (λ l. pass_all ! refl ((tt, tt), ((tt, tt), tt)) $
    sets ! (agg ! (no_more !)) refl (tt, tt) $ sets ! (agg ! (and_then ! (get ! refl) (no_more !))) refl (tt, (tt, tt)) $
    use0 𝓛 (‵ O) (made 𝓛 more) $ use0 𝓛 (raw (fact 𝓤 Told)) (fact_i 𝓤 Told (emp 𝓤) refl) $
    nothing ! $ nothing ! $ fjoin ! $ nothing ! $ fjoin ! $
    returns ! (look_at ! 0 refl) $ free_all ! refl $ keep ! (3 ∷ 0 ∷ 2 ∷ 1 ∷ []) $
    by ! (leaves 𝓛 ended stayed c y token r (tt, (tt, tt)) (tt, (tt, tt)))))
