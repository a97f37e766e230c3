-- How the outcomes of `advise` and `arrange` come about.
use Rattle.std.specs.Prelude.{Bool, if◌then◌else◌, IfErr, IfOk, ⊤}
use Rattle.std.proofs.Common.{◌≡◌, ℕ, ◌<◌, ◌≤◌, length, Result, Ok, Err, [], ap, subst, sym, refl, ◌∙◌}
use Rattle.std.proofs.lemmas.Bool.{le-ltb, lt-ltb}
use Rattle.cell_base.specs.declared.cells.Cell.{Cell}
use Rattle.order_advisor.specs.Advices.{IsFault}
use Rattle.order_advisor.specs.declared.weighing.Weighing.{Weighing}
use Rattle.order_advisor.specs.declared.advice.AdviceFault.{AdviceFault}
use Rattle.order_advisor.specs.declared.advice.AdviceFault.TheVariants.{TooManyResources, Memory}
use Rattle.cell_walks.specs.Allowed.{ByMemory, IsEndedAt, Passed, Unasked}
use Rattle.cell_walks.specs.DiskTold.{DiskTold, IsUntouched}
use Rattle.cell_walks.specs.Observed.{FilesTold, observed}
use Rattle.cell_walks.specs.Outcomes.{Outcome, done}
use Rattle.cell_walks.specs.Walks.{end_with}
use Rattle.cell_walks.specs.declared.early_end.EarlyEnd.{EarlyEnd}
use Rattle.cell_walks.specs.declared.early_end.Subject.TheVariants.{Cell as OfCell}
use Rattle.cell_walks.proofs.Steps.{ended_at, ended_by_fault}
use Rattle.cell_texts.specs.Tests.{KnownCell}
use Rattle.cell_driver.specs.Driving.{Allowed, IsMade}
use Rattle.order_commands.specs.Advised.{HasNoAdvice, IsAdviceOn}
use Rattle.order_commands.specs.Lines.{advice_lines}
use Rattle.order_commands.specs.Orders.{advised, best_orders, fault_line, few_enough, few_resources, limit_of}
use Rattle.order_commands.specs.declared.orders.Advised.{Advised}

-- a count that is told where the test holds
abbrev counted_by : (test : Bool) (count : ℕ) → Result ⊤ ℕ
counted_by test count = if test then Err count else Ok tt

-- a cell of few resources, and one of many
few : (limit : ℕ) (cell : Cell) → length cell.resources ≤ limit → few_enough limit cell [] ≡ Ok tt
few limit cell most = ap (λ (test : Bool). counted_by test (length cell.resources)) (le-ltb limit (length cell.resources) most)

many : (limit : ℕ) (cell : Cell) → limit < length cell.resources → few_enough limit cell [] ≡ Err (length cell.resources)
many limit cell more = ap (λ (test : Bool). counted_by test (length cell.resources)) (lt-ltb limit (length cell.resources) more)

-- what is printed of the best orders
abbrev advised_outcome : Advised → Outcome
advised_outcome advised = done (advice_lines advised.cell advised.advice)

module _ (files : FilesTold) (disk : DiskTold) (weighing : Weighing) (held : KnownCell) (still : IsUntouched disk) where
  -- there are too many resources, or memory was wanting
  ended : (fault : AdviceFault) → IsFault held.cell (limit_of weighing) fault
      → IsEndedAt files (few_resources (limit_of weighing) held.cell) (end_with OfCell (fault_line fault))
  ended (TooManyResources count) is =
      ended_by_fault files (few_resources (limit_of weighing) held.cell) count
      (many (limit_of weighing) held.cell is.0 ∙ ap Err (sym is.1))
  ended Memory is = ByMemory refl

  -- the best orders were found, or there are none
  pub advice_made : (made : Result Advised EarlyEnd) → IfOk made (IsAdviceOn held.cell weighing) → IfErr made (HasNoAdvice held.cell weighing)
      → IsMade files disk (best_orders weighing held) advised_outcome made
  advice_made (Ok advised) is none =
      Allowed
      (Passed tt (few (limit_of weighing) held.cell is.few) (
        record {
          advice = advised.advice;
          best = is.best;
          is = ap (λ (cell : Cell). done (advice_lines cell advised.advice)) is.on;
        },
        still,
      ))
  advice_made (Err end) is none =
      Allowed
      (ended_at (observed files disk) Unasked (few_resources (limit_of weighing) held.cell) (λ few. advised weighing held) end
      (subst (IsEndedAt files (few_resources (limit_of weighing) held.cell)) (sym none.told) (ended none.fault none.is)) still)
