-- The selected file and the offset in it, for a shelf of operating-system files.
use Rattle.std.specs.Prelude.{Option, option_map}
use Rattle.mu_io.specs.Files.{Place}
use Rattle.mu_io.specs.declared.file_shelf.Opened.{Opened}

-- the name of the open file, and the offset in it
abbrev pub place_in : {F : Type 0} → Option (Opened F) → Option Place
place_in opened = option_map (λ o. (o.name, o.place)) opened
