-- The cells of a premise, met one after the other.
use Rattle.std.specs.Prelude.{ℕ, cond, nat_lt, List, [], ◌∷◌, ◌++◌, length, slice_index_or}
use Rattle.dx_model.specs.declared.rules.Cell.{Cell}
use Rattle.dx_model.specs.declared.rules.Cell.TheVariants.{Var, Ex, Lit}
use Rattle.dx_model.specs.declared.rules.Atom.{Atom}
use Rattle.dx_schema.specs.Names.{TableNames}
use Rattle.dx_script.specs.declared.form.CellRef.{CellRef}
use Rattle.dx_script.specs.Generated.{Spot, shows, spots_of_cells}
use Rattle.dx_scriptgen.specs.declared.premise.Premise.{Premise}

-- one cell more of variable x: its first one, or equal to that one
abbrev pub met : ℕ → CellRef → Premise → Premise
met x c p =
    cond (nat_lt x (length p.firsts))
    (record { firsts = p.firsts; equal = p.equal ++ record { left = slice_index_or p.firsts x c; right = c } ∷ [] })
    (record { firsts = p.firsts ++ c ∷ []; equal = p.equal })

-- one cell more of a premise
abbrev pub met_cell : CellRef → Cell → Premise → Premise
met_cell c (Var x) p = met x c p
met_cell c (Ex v) p = p
met_cell c (Lit t) p = p

-- the cells of a premise, in order
abbrev pub met_spots : List Spot → Premise → Premise
met_spots [] p = p
met_spots (s ∷ ss) p = met_spots ss (met_cell (shows s) s.cell p)

-- the cells of the atom of an alias
abbrev pub met_atom : List TableNames → ℕ → Atom → Premise → Premise
met_atom source alias a p = met_spots (spots_of_cells source alias a.table 0 a.cells) p
