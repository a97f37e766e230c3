-- Readings whose steps may fail: the first fault is the answer.
use Rattle.std.specs.Prelude.{Option, Some, None, Result, Ok, Err}

-- the next step, where the one before did not fail
infixl 10 ◌>>=◌
abbrev pub ◌>>=◌ : {A B F : Type 0} → Result A F → (A → Result B F) → Result B F
(Ok x) >>= f = f x
(Err fault) >>= f = Err fault

-- the value, or this fault where there is none
abbrev pub or_fault : {A F : Type 0} → Option A → F → Result A F
or_fault (Some x) fault = Ok x
or_fault None fault = Err fault
