-- What the words of lines name: the first that is at fault, and the lines by numbers.
use Rattle.std.specs.Prelude.{ℕ, List, [], ◌∷◌, Option, Some, None, cond, eqb, length, map}
use Rattle.dx_base.specs.Texts.{Text}
use Rattle.dx_base.specs.Firsts.{first_of}
use Rattle.dx_schema.specs.Forest.{Forest}
use Rattle.dx_schema.specs.Tables.{TableOf, tables_of, schema_table, number_of_name}
use Rattle.dx_schema.specs.Faults.{is_among}
use Rattle.dx_funcs.specs.declared.conversion.Conversion.{Conversion}
use Rattle.dx_funcs.specs.Names.{first_named}
use Rattle.dx_funcs.specs.Offers.{IsListed}
use Rattle.dx_tokens.specs.declared.faults.TextFault.{TextFault}
use Rattle.dx_tokens.specs.declared.faults.TextFault.TheVariants.{At}
use Rattle.dx_tokens.specs.declared.faults.TextKind.TheVariants.{UnknownName, Width}
use Rattle.dx_schema_text.specs.declared.texts.PlaceText.{PlaceText}
use Rattle.dx_schema_text.specs.declared.texts.SourceText.{SourceText}
use Rattle.dx_schema_text.specs.declared.texts.SourceText.TheVariants as sources
use Rattle.dx_schema_text.specs.declared.texts.LineText.{LineText}
use Rattle.dx_lines.specs.declared.line.Place.{Place}
use Rattle.dx_lines.specs.declared.line.Origin.{Origin}
use Rattle.dx_lines.specs.declared.line.Origin.TheVariants as origins
use Rattle.dx_lines.specs.declared.line.Line.{Line}

-- ---- names

-- the names of a schema's sets, in the order of its tables
abbrev pub set_names : Forest → List Text
set_names f = map (λ (t : TableOf). t.name) (tables_of f)

-- the number of the set of this name
abbrev pub set_number : Forest → Text → ℕ
set_number f x = number_of_name x (set_names f)

-- the names of the columns of the set of this name
abbrev pub columns_in : Forest → Text → List Text
columns_in f x = (schema_table f (set_number f x)).columns

-- ---- faults

-- a name that is not among these is unknown at its place
abbrev pub name_fault : List Text → Text → ℕ → Option TextFault
name_fault names x place = cond (is_among x names) None (Some (At place UnknownName))

-- of a place its set is looked at, then its column
abbrev pub place_fault : Forest → PlaceText → Option TextFault
place_fault f p =
    cond (is_among p.set (set_names f)) (name_fault (columns_in f p.set) p.column p.column_place)
    (Some (At p.set_place UnknownName))

-- the first fault of places, from left to right
abbrev pub places_fault : Forest → List PlaceText → Option TextFault
places_fault f places = first_of (map (place_fault f) places)

-- of a conversion its name is looked at, then how many arguments it takes, then its arguments
abbrev pub source_call_fault : Forest → Option Conversion → ℕ → List PlaceText → Option TextFault
source_call_fault f None place args = Some (At place UnknownName)
source_call_fault f (Some c) place args = cond (eqb c.arity (length args)) (places_fault f args) (Some (At place Width))

-- the first fault of a source; a literal has none
abbrev pub source_fault : Forest → List Conversion → SourceText → Option TextFault
source_fault f list (sources.Column p) = place_fault f p
source_fault f list (sources.Literal t) = None
source_fault f list (sources.Call name place args) = source_call_fault f (first_named list name) place args

-- of a line its source is looked at, then its target
abbrev pub line_fault : Forest → Forest → List Conversion → LineText → Option TextFault
line_fault source target list l = first_of (source_fault source list l.source ∷ place_fault target l.target ∷ [])

-- the first fault of lines, in their order
abbrev pub lines_fault : Forest → Forest → List Conversion → List LineText → Option TextFault
lines_fault source target list lines = first_of (map (line_fault source target list) lines)

-- ---- values

-- the column that a place names: the number of its set, and its own number among the set's columns
abbrev pub place_of_text : Forest → PlaceText → Place
place_of_text f p = record { table = set_number f p.set; column = number_of_name p.column (columns_in f p.set) }

-- the code of a conversion that was found
abbrev pub code_of : Option Conversion → ℕ
code_of None = 0
code_of (Some c) = c.code

-- a conversion of the columns that its arguments name
abbrev pub call_of : Forest → Option Conversion → List PlaceText → Origin
call_of f found args = origins.Call (code_of found) (map (place_of_text f) args)

-- where a line's values come from
abbrev pub origin_of : Forest → List Conversion → SourceText → Origin
origin_of f list (sources.Column p) = origins.Column (place_of_text f p)
origin_of f list (sources.Literal t) = origins.Literal t
origin_of f list (sources.Call name place args) = call_of f (first_named list name) args

-- a line, by the numbers of what it names
abbrev pub line_of_text : Forest → Forest → List Conversion → LineText → Line
line_of_text source target list l =
    record { target = place_of_text target l.target; source = origin_of source list l.source }

-- lines, by the numbers of what they name
abbrev pub lines_of : Forest → Forest → List Conversion → List LineText → List Line
lines_of source target list lines = map (line_of_text source target list) lines

-- ---- what is offered

-- a conversion is listed with as many arguments as it takes; a column and a literal need nothing
abbrev pub IsOfferedFrom : List Conversion → Origin → Type 0
IsOfferedFrom list (origins.Column a) = Unit {0}
IsOfferedFrom list (origins.Literal t) = Unit {0}
IsOfferedFrom list (origins.Call code args) = IsListed list code (length args)

-- if a line's source is a conversion, it is listed with as many arguments as it takes
abbrev pub IsOffered : List Conversion → Line → Type 0
IsOffered list l = IsOfferedFrom list l.source
