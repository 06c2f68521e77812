-- The names of parts, and the name at the end of a path.
use Rattle.std.specs.Prelude.{◌≡◌, ◌-◌, ℕ, List, codes, length, take, drop}
use Rattle.std.specs.Option.{option_map, unwrap_or}
use Rattle.std.specs.Path.{slash, rsplit_once}

-- what follows the last slash of a path
abbrev pub last_name : List ℕ → List ℕ
last_name path = unwrap_or (option_map (λ split. split.1) (rsplit_once slash path)) path

-- the name of a part: no file of a target begins with a dot
abbrev pub IsPartName : List ℕ → Type 0
IsPartName name = (take 6 name ≡ codes ".clio-") × (drop (length name - 5) name ≡ codes ".part")
