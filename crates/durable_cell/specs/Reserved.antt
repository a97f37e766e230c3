-- The memory of a durable cell.
use Rattle.std.specs.Prelude.{◌≡◌, ℕ, ◌≤◌, List, [], ◌∷◌}
use Rattle.durable_cell.specs.declared.durable.Shelves.{Shelves}

-- the disk as it is, the text, and room for so many entries and their grants
pub record IsReserved {D : Type 0} (disk : D) (text : List ℕ) (limit : ℕ) (shelves : Shelves D) : Type 0 where
  pub found : shelves.found.views ≡ disk ∷ []
  pub text_is : shelves.text ≡ text
  pub no_history : shelves.history.items ≡ []
  pub history_room : limit ≤ shelves.history.spare
  pub none_added : shelves.added.items ≡ []
  pub added_room : limit ≤ shelves.added.spare
