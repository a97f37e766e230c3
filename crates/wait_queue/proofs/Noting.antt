-- What a granted request leaves to those that wait.
use Rattle.std.proofs.Common.{◌≡◌, ℕ, Some, None, Option, Bool, true, false, ◌||◌, List, ◌==◌, length, get_or, ap, refl, sym, subst, ◌∙◌, arith, All}
use Rattle.cell_base.specs.declared.cells.Cell.{Cell}
use Rattle.cell_base.specs.declared.cells.ResId.{ResId}
use Rattle.cell_base.specs.declared.requests.JobId.{JobId}
use Rattle.cell_base.specs.declared.requests.Part.{Part}
use Rattle.cell_base.specs.declared.requests.Request.{Request}
use Rattle.cell_base.specs.declared.requests.Reply.TheVariants.{Granted}
use Rattle.cell_base.specs.Fits.{CellFits, RequestFits}
use Rattle.cell_base.specs.Outcomes.{reply_to, state_after}
use Rattle.cell_base.specs.Policy.{IsAdmitted}
use Rattle.std.specs.Option.{option_map_or}
use Rattle.wait_queue.specs.declared.waiter.Waiter.{Waiter}
use Rattle.wait_queue.specs.Watching.{AreCovered, AreWatching, AreWithout, IsCovered, IsWatch, IsWithout, is_of, job_of}
use Rattle.wait_queue.proofs.Looks.{nobody}
use Rattle.wait_queue.proofs.Others.{turned, watch-still}

pub neither : (a b : Bool) → (a || b) ≡ false → (a ≡ false) × (b ≡ false)
neither true b e = absurd (let h : true ≡ false = e in cc)
neither false b e = (refl, e)

-- what is watched still is covered still
pub kept-without : (job : JobId) (w : Waiter) (old new : Option ResId) (mask : ℕ) → IsWithout job w old new → IsCovered mask old
    → IsCovered mask new
kept-without job w old None mask without cover = tt
kept-without job w old (Some r) mask without cover = subst (λ (x : Option ResId). IsCovered mask x) without.0 cover

pub covered-without : (job : JobId) (ws : List Waiter) (old new : List (Option ResId)) (mask : ℕ) → length old ≡ length ws
    → length new ≡ length ws → AreWithout job ws old new → AreCovered mask old → AreCovered mask new
covered-without job ws old new mask pairs same without covered k d h =
    kept-without job (get_or ws k nobody) (get_or old k d) (get_or new k d) mask (without k nobody d (omega (arith, h, same)))
    (covered k d (omega (arith, h, same, pairs)))

-- a request of another job isn't of the granted one
away : (request asked : Request) (job : JobId) → job_of asked ≡ Some job → is_of job request ≡ false → (own : JobId)
    → job_of request ≡ Some own → is_of own asked ≡ false
away request asked job is other own mine =
    ap (λ (o : Option JobId). option_map_or (λ (j : JobId). j.0 == own.0) o false) is
    ∙ turned own job (sym (ap (λ (o : Option JobId). option_map_or (λ (j : JobId). j.0 == job.0) o false) mine) ∙ other)

one-noted : (cell : Cell) (parts : List Part) (request asked : Request) (job : JobId) (w : Waiter) (old new : Option ResId) → CellFits cell
    → IsAdmitted cell parts → RequestFits cell asked → reply_to cell parts asked ≡ Granted → job_of asked ≡ Some job
    → IsWithout job w old new → IsWatch cell parts w.request old → IsWatch cell (state_after cell parts asked) w.request new
one-noted cell parts request asked job w old None fits admitted fit granted is without watch = tt
one-noted cell parts request asked job w old (Some r) fits admitted fit granted is without watch =
    watch-still cell parts w.request asked (Some r) fits admitted fit granted (λ own mine. away w.request asked job is without.1 own mine)
    (subst (λ (x : Option ResId). IsWatch cell parts w.request x) without.0 watch)

pub noted-watching : (cell : Cell) (parts : List Part) (asked : Request) (job : JobId) (ws : List Waiter) (old new : List (Option ResId))
    → CellFits cell → IsAdmitted cell parts → RequestFits cell asked → reply_to cell parts asked ≡ Granted → job_of asked ≡ Some job
    → AreWithout job ws old new → AreWatching cell parts ws old → AreWatching cell (state_after cell parts asked) ws new
noted-watching cell parts asked job ws old new fits admitted fit granted is without watching k d e h =
    one-noted cell parts asked asked job (get_or ws k d) (get_or old k e) (get_or new k e) fits admitted fit granted is (without k d e h)
    (watching k d e h)

pub unnoted-watching : (cell : Cell) (parts : List Part) (asked : Request) (ws : List Waiter) (xs : List (Option ResId)) → CellFits cell
    → IsAdmitted cell parts → RequestFits cell asked → reply_to cell parts asked ≡ Granted → job_of asked ≡ None
    → AreWatching cell parts ws xs → AreWatching cell (state_after cell parts asked) ws xs
unnoted-watching cell parts asked ws xs fits admitted fit granted is watching k d e h =
    watch-still cell parts (get_or ws k d).request asked (get_or xs k e) fits admitted fit granted
    (λ own mine. ap (λ (o : Option JobId). option_map_or (λ (j : JobId). j.0 == own.0) o false) is) (watching k d e h)

-- where no waiter is of the job, what each watches is not for a request of it
pub untouched : (job : JobId) (ws : List Waiter) (xs : List (Option ResId)) → All (λ (w : Waiter). is_of job w.request ≡ false) ws
    → AreWithout job ws xs xs
untouched job ws xs others k d e within = one (get_or xs k e)
  where
    one : (x : Option ResId) → IsWithout job (get_or ws k d) x x
    one None = tt
    one (Some r) = (refl, others k d within)
