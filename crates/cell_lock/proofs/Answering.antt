-- What an answer makes of the history: an entry more, or nothing.
use Rattle.std.specs.Prelude.{false, true, Result, Ok, Err}
use Rattle.std.proofs.Common.{◌≡◌, ℕ, List, ◌∷◌, [], ◌++◌, sym, ◌∙◌, ap}
use Rattle.cell_base.specs.declared.requests.Reply.{Reply}
use Rattle.cell_base.specs.declared.requests.Request.{Request}
use Rattle.cell_base.specs.declared.requests.Told.TheVariants.{Answered}
use Rattle.cell_base.specs.declared.requests.Told.TheVariants as told
use Rattle.cell_base.specs.declared.shifts.Entry.{Entry}
use Rattle.durable_cell.specs.Asked.{Answers, entry}
use Rattle.durable_cell.specs.DurableState.{DurableState}
use Rattle.durable_cell.specs.declared.fault.AskFault.{AskFault}
use Rattle.durable_cell.specs.declared.fault.AskFault.TheVariants.{Halted, Full, Device}
use Rattle.cell_lock.specs.declared.board.View.{View}
use Rattle.cell_lock.specs.Steps.{GrewBy, adds_entry}

module _ {D : Type 0} (shift n : ℕ) (request : Request) (a b : DurableState D) where
  -- an entry of the pass's own
  pub grew : (v : View D) (answer : Result Reply AskFault) → v.log ≡ a.history → v.first ≡ n → Answers a shift n request answer b
      → adds_entry answer ≡ true → GrewBy v b.history
  grew v (Ok reply) log first h adds = record {
    entry = entry n request (Answered reply);
    ends = ap (λ (x : DurableState D). x.history) h.0 ∙ ap (λ (l : List Entry). l ++ entry n request (Answered reply) ∷ []) (sym log);
    own = sym first;
  }
  grew v (Err (Device at)) log first h adds = record {
    entry = entry n request told.Halted;
    ends = ap (λ (x : DurableState D). x.history) h.0 ∙ ap (λ (l : List Entry). l ++ entry n request told.Halted ∷ []) (sym log);
    own = sym first;
  }
  grew v (Err (Halted at)) log first h adds = absurd cc
  grew v (Err (Full len)) log first h adds = absurd cc

  -- no entry, and the durable cell is as it was
  pub unchanged : (answer : Result Reply AskFault) → Answers a shift n request answer b → adds_entry answer ≡ false → b ≡ a
  unchanged (Ok reply) h none = absurd cc
  unchanged (Err (Device at)) h none = absurd cc
  unchanged (Err (Halted at)) h none = h.0
  unchanged (Err (Full len)) h none = h.0
