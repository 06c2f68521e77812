-- A question as a whole: whether atoms, with texts for their variables, can be facts of a target.
use Rattle.std.specs.Prelude.{◌≡◌, ℕ, ◌<◌, ◌≤◌, List, Vec, Bool, MatchBool, length, vec_capacity}
use Rattle.std.specs.declared.alloc.Global.{Global}
use Rattle.dx_base.specs.Members.{◌∈◌, Each}
use Rattle.dx_base.specs.Texts.{Text}
use Rattle.dx_model.specs.declared.values.Value.{Value}
use Rattle.dx_model.specs.declared.rules.Atom.{Atom}
use Rattle.dx_model.specs.declared.rules.Cell.{Cell}
use Rattle.dx_model.specs.Rules.{cell_value, fact_of_atom}
use Rattle.dx_instance.specs.Stored.{TableRows, facts, rows_of}
use Rattle.dx_holds.specs.declared.matching.Found.{Found}
use Rattle.dx_holds.specs.declared.question.Question.{Question}
use Rattle.dx_holds.specs.Searching.{HaveNoMatch, IsState, AtomSaysRow, Misses, AddsExactly}
use Rattle.dx_holds.specs.Searching.{HasNoMatchBetween, texts, variable_value}

-- ---- what is asked

-- the text of each variable
abbrev pub texts_in : Question → ℕ → Text
texts_in q = texts q.atoms.now q.tuple.now

-- the cell has this value
abbrev pub HasValue : Question → Cell → Value → (ℕ → Value) → Type 0
HasValue q c v values = cell_value (texts_in q) values c ≡ v

-- the atom says the row at this place
abbrev pub SaysRow : Question → Atom → ℕ → (ℕ → Value) → Type 0
SaysRow q a p = AtomSaysRow (texts_in q) q.target.now a p

-- there are values with which all atoms are facts
abbrev pub CanHold : Question → Type 0
CanHold q = (values : ℕ → Value) × Each q.atoms.now (λ a. fact_of_atom (texts_in q) values a ∈ facts q.target.now)

-- ---- what is found

-- the variable has the value of its cell
abbrev pub TakesValue : List TableRows → Found → (ℕ → Value) → Type 0
TakesValue I b values = values b.variable ≡ variable_value I b

-- an answer settles P: either what is found now says exactly P more, or nothing that agrees with what was found has P
abbrev pub Settles : Bool → List TableRows → Vec Found Global → Vec Found Global → ((ℕ → Value) → Type 0) → Type 0
Settles answer I old new P =
    MatchBool answer (AddsExactly I (vec_capacity old) old.items P new.items) (Misses I old.items P new.items)

-- what is found now says exactly this more: the atom says the row at this place
abbrev pub FindsRow : Question → Vec Found Global → Vec Found Global → Atom → ℕ → Type 0
FindsRow q old new a p = AddsExactly q.target.now (vec_capacity old) old.items (SaysRow q a p) new.items

-- ---- places

-- with what was found the atom says no row at a place from x on
abbrev pub NowhereFrom : Question → List Found → Atom → ℕ → Type 0
NowhereFrom q found a x = HasNoMatchBetween (texts_in q) q.target.now found a x (length (rows_of q.target.now a.table))

-- a place from x on, before which there is none whose row the atom says with what was found
abbrev pub IsNextMatch : Question → List Found → Atom → ℕ → ℕ → Type 0
IsNextMatch q found a x p =
    (x ≤ p) × (p < length (rows_of q.target.now a.table)) × HasNoMatchBetween (texts_in q) q.target.now found a x p

-- ---- atoms

-- what was found, of variables below n, makes the atoms that are done facts
abbrev pub IsStateOf : Question → ℕ → List Found → List ℕ → Type 0
IsStateOf q = IsState (texts_in q) q.atoms.now q.target.now

-- with what was found the atoms that are not done can't all be facts
abbrev pub RestFails : Question → List Found → List ℕ → Type 0
RestFails q = HaveNoMatch (texts_in q) q.atoms.now q.target.now
