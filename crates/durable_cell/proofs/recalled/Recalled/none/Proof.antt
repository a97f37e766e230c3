-- The value is made with the empty list.
use Rattle.atomic_table.proofs.Names.{◌≡◌, [], ◌∷◌, refl, Val, SProp, Fml, emp, fact, fact_i, ‵, raw, ◌⊛◌, ◌$◌, ◌∵◌, ! }
use Rattle.atomic_table.proofs.Names.{qed, by, keep, split, use0, nothing, no_more, and_then, agg, get, sets, look_at, enter, returns}
use Rattle.atomic_table.proofs.Names.{alloc_all, pass_all, free_all, tables, owns, types_at, alive, Stays, walk_of}
use Rattle.atomic_table.proofs.Walks.{proved, leaves}
use Rattle.durable_cell.specs.contracts.recalled.Recalled as recalled
use Rattle.durable_cell.specs.contracts.recalled.Recalled.none.{ended, clauses}
use Rattle.durable_cell.specs.contracts.recalled.Recalled.none.Key.{name as #self}
use Rattle.durable_cell.proofs.Tokens.{token, remembering, made}
use Rattle.durable_cell.proofs.recalled.Recalled.none.Statement.{statement}
use Rattle.durable_cell.proofs.recalled.Recalled.none.Code as code

pub none_spec : {M : Type 1} → statement M
none_spec 𝓤 𝓛 𝓜 𝓡 wired =
    let H = 𝓛.H in let 𝓣 = tables 𝓤 H 𝓜 𝓡 𝓡.env in let c = clauses 𝓛 𝓜.mem 𝓡.returns in
    let hs : Stays ended.signature.params ended.kept = tt in
    proved 𝓛 ended hs c 𝓜 𝓡 tt #self code.function (code.unfolded 𝓤 H 𝓜 𝓡 wired) (λ κs. tt) (λ κs. tt) (λ κs qs bounds a gh are.
    let r = remembering [] in let Told : Type 0 = r.items ≡ [] in
    let O : Fml = recalled.the_row.own_val r (token ∷ []) in
    let y : (walk_of 𝓛 ended hs c).Ghost = ((κs, qs, bounds, a, tt), gh) in let Post : Val → SProp 𝓤 = (walk_of 𝓛 ended hs c).post y in
    qed 𝓛 ((raw (alive 𝓛 ended.signature κs qs) ⊛ ‵ (owns (types_at ended.signature.params κs) a y.0.4)) ∷ raw ((c κs a).requires gh) ∷ [])
    ∵ split ! $ keep ! (0 ∷ []) $
    enter ! 𝓣.C 𝓣.Λ code.function [] Post $ alloc_all ! (λ l. pass_all ! refl tt $
    sets ! (agg ! (no_more !)) refl (tt, tt) $ sets ! (agg ! (and_then ! (get ! refl) (no_more !))) refl (tt, (tt, tt)) $
    use0 𝓛 (‵ O) (made 𝓛 []) $ use0 𝓛 (raw (fact 𝓤 Told)) (fact_i 𝓤 Told (emp 𝓤) refl) $ nothing ! $
    returns ! (look_at ! 0 refl) $ free_all ! refl $ keep ! (3 ∷ 0 ∷ 2 ∷ 1 ∷ []) $ by ! (leaves 𝓛 ended hs c y token r tt tt)))
