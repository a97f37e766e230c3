-- The lines of a text.
use Rattle.std.specs.Prelude.{ℕ, Bool, ◌==◌, if◌then◌else◌, List, [], ◌∷◌, ◌++◌}

-- the byte after a line
abbrev pub is_newline : ℕ → Bool
is_newline byte = byte == 10

-- the whole lines of a text without their newlines, the first one after these bytes of it; what stands after the last newline is none
abbrev pub lines_after : List ℕ → List ℕ → List (List ℕ)
lines_after begun [] = []
lines_after begun (byte ∷ text) =
    if is_newline byte then begun ∷ lines_after [] text else lines_after (begun ++ byte ∷ []) text

abbrev pub whole_lines : List ℕ → List (List ℕ)
whole_lines text = lines_after [] text
