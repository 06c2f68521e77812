-- What is tried to find the ways of a line: each choice among occurrences that are unlike each other.
use Rattle.std.specs.Prelude.{ℕ, ◌<◌, Bool, not, cond, ◌&&◌, ◌||◌, eqb, Option, Some}
use Rattle.std.specs.Prelude.{None, List, [], ◌∷◌, ◌++◌, length, map, flat_map}
use Rattle.std.specs.List.{filter, list_any, list_all}
use Rattle.dx_base.specs.declared.limits.TheConstants.{WAYS}
use Rattle.dx_logical.specs.declared.relation.Occurrence.{Occurrence}
use Rattle.dx_lines.specs.declared.line.Place.{Place}
use Rattle.dx_lines.specs.declared.line.Origin.{Origin}
use Rattle.dx_lines.specs.declared.term.Term.{Term}
use Rattle.dx_lines.specs.declared.candidate.Pick.{Pick}
use Rattle.dx_lines.specs.Ways.{is_of, variable_in, with_table, term_by, pick, put_in}

-- more picks than are accepted
abbrev pub ExceedsWays : List Pick → Type 0
ExceedsWays picks = WAYS < length picks

-- the list with all these put in, one after another
abbrev pub put_all : List Pick → List Pick → List Pick
put_all out [] = out
put_all out (k ∷ ks) = put_all (put_in k out) ks

-- the list with those added that are unlike all before them
abbrev pub with_unlike : {X : Type 0} → (X → X → Bool) → List X → List X → List X
with_unlike like out [] = out
with_unlike like out (x ∷ xs) = with_unlike like (cond (list_any (λ y. like y x) out) out (out ++ x ∷ [])) xs

-- the variables that stand in a column
abbrev pub column_of : Place → List Occurrence → List ℕ
column_of a Q = map (λ o. variable_in o a.column) (filter (is_of a.table) Q)

-- if this is a column of o's table, o and p have the same variable in it
abbrev pub agrees_in : Occurrence → Occurrence → Place → Bool
agrees_in o p a = not (is_of a.table o) || eqb (variable_in o a.column) (variable_in p a.column)

-- two occurrences are of one table, and have the same variables in those of these columns that are the table's
abbrev pub is_like : List Place → Occurrence → Occurrence → Bool
is_like places o p = eqb o.table p.table && list_all (agrees_in o p) places

-- a choice has an occurrence of each table that these columns name
abbrev pub has_tables : List Occurrence → List Place → Bool
has_tables chosen places = list_all (λ a. list_any (is_of a.table) chosen) places

-- the term, if there is one
abbrev pub one_or_none : Option Term → List Term
one_or_none None = []
one_or_none (Some t) = t ∷ []

-- each of these variables gets the term that a line's source gives under a choice
abbrev pub picks_by : Origin → List ℕ → List Occurrence → List Pick
picks_by s ys chosen = flat_map (λ t. map (λ y. pick y t) ys) (term_by s chosen)

-- the same for each choice that has an occurrence of P as well for each table that these columns name
abbrev pub tried : Origin → List ℕ → List Occurrence → List Place → List Occurrence → List Pick
tried s ys P [] chosen = picks_by s ys chosen
tried s ys P (a ∷ more) chosen = flat_map (tried s ys P more) (with_table P a.table chosen)
