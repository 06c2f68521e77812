-- Worked lines: their candidates, those that are kept, and their rules.
use Rattle.std.proofs.Common.{◌≡◌, ℕ, zero, suc, ◌<◌, ◌++◌, Some, None, List, [], ◌∷◌, refl, ◌∙◌, ap, subst, arith, length}
use Rattle.std.specs.Prelude.{map}
use Rattle.dx_model.specs.declared.tables.Link.{Link}
use Rattle.dx_model.specs.Tables.{Table}
use Rattle.dx_model.specs.declared.rules.Cell.{Cell}
use Rattle.dx_model.specs.declared.rules.Cell.TheVariants.{Var, Ex, Lit}
use Rattle.dx_model.specs.declared.rules.Atom.{Atom}
use Rattle.dx_model.specs.declared.rules.Rule.{Rule}
use Rattle.dx_base.specs.declared.file.Count.TheVariants as counts
use Rattle.dx_lines.specs.declared.line.Place.{Place}
use Rattle.dx_lines.specs.declared.line.Origin.TheVariants.{Column, Literal, Call as Converted}
use Rattle.dx_lines.specs.declared.line.Line.{Line}
use Rattle.dx_lines.specs.declared.candidate.Candidate.{Candidate}
use Rattle.dx_lines.specs.declared.candidate.Pick.{Pick}
use Rattle.dx_lines.specs.declared.term.Term.{Term}
use Rattle.dx_lines.specs.declared.term.Term.TheVariants.{Var as Variable, Call}
use Rattle.dx_lines.specs.Ways.{ways}
use Rattle.dx_lines.specs.Candidates.{candidates_of}
use Rattle.dx_lines.specs.Parts.{parts, part_occurrences}
use Rattle.dx_logical.specs.Unfolding.{variant_of}
use Rattle.dx_lines.specs.Kept.{kept_candidates}
use Rattle.dx_lines.specs.Rules.{kept_rules}
use Rattle.dx_lines.specs.Limits.{passed_limit, IsSchemaColumn, LineFits}
use Rattle.dx_lines.specs.Reading.{HaveColumn, CanBeRead, IsReached}
use Rattle.dx_logical.specs.declared.relation.Occurrence.{Occurrence}
use Rattle.dx_base.specs.Members.{here, there}

abbrev table : ℕ → List Link → Table
table w ls = record { width = w; determinations = []; links = ls; optional = [] }

abbrev link : ℕ → ℕ → ℕ → Link
link from to_table to = record { from = from ∷ []; table = to_table; to = to ∷ [] }

abbrev at : ℕ → ℕ → Place
at t c = record { table = t; column = c }

-- a line from column c of table t to column d of table u
abbrev from_column : ℕ → ℕ → ℕ → ℕ → Line
from_column t c u d = record { target = at u d; source = Column (at t c) }

abbrev atom : ℕ → List Cell → Atom
atom t cells = record { table = t; cells = cells }

abbrev rule : List Atom → List Atom → Rule
rule premise conclusion = record { premise = premise; derived = []; conclusion = conclusion }

abbrev tables_of : List Candidate → List (ℕ × ℕ)
tables_of cs = map (λ (c : Candidate). (c.source, c.target)) cs

abbrev terms_of : List Candidate → List (List Term)
terms_of cs = map (λ (c : Candidate). map (λ (k : Pick). k.term) c.picks) cs

-- ---- emp(name, dept) with a link to dept(dname); unit(#id, uname), and staff(#up, sname) in it

abbrev company : List Table
company = table 2 (link 1 1 0 ∷ []) ∷ table 1 [] ∷ []

abbrev units : List Table
units = table 2 [] ∷ table 2 (link 0 0 0 ∷ []) ∷ []

-- emp.name to staff.sname, and dept.dname to unit.uname
abbrev company_lines : List Line
company_lines = from_column 0 0 1 1 ∷ from_column 1 0 0 1 ∷ []

-- of four candidates two are dropped
company_candidates : tables_of (candidates_of company_lines company units) ≡ (0, 0) ∷ (0, 1) ∷ (1, 0) ∷ (1, 1) ∷ []
company_candidates = refl

company_kept : tables_of (kept_candidates company_lines company units) ≡ (0, 1) ∷ (1, 0) ∷ []
company_kept = refl

-- emp(x0, x1), dept(x1) -> staff(y0, x0), unit(y0, x1), and dept(x0) -> unit(y0, x0)
company_rules : kept_rules company_lines company units ≡
    rule (atom 0 (Var 0 ∷ Var 1 ∷ []) ∷ atom 1 (Var 1 ∷ []) ∷ []) (atom 1 (Ex 0 ∷ Var 0 ∷ []) ∷ atom 0 (Ex 0 ∷ Var 1 ∷ []) ∷ [])
    ∷ rule (atom 1 (Var 0 ∷ []) ∷ []) (atom 0 (Ex 0 ∷ Var 0 ∷ []) ∷ [])
    ∷ []
company_rules = refl

company_passes_none : passed_limit company_lines company units ≡ None
company_passes_none = refl

-- ---- trip(no, start, goal) with two links to city(code, label); visit(a, b)

abbrev trips : List Table
trips = table 3 (link 1 1 0 ∷ link 2 1 0 ∷ []) ∷ table 2 [] ∷ []

abbrev visits : List Table
visits = table 2 [] ∷ []

-- city.label to visit.a and to visit.b
abbrev trip_lines : List Line
trip_lines = from_column 1 1 0 0 ∷ from_column 1 1 0 1 ∷ []

-- four ways, and four candidates of the pair of trip and visit, and one of city and visit
trip_ways : length (ways trip_lines (variant_of trips 0 0).occurrences (variant_of visits 0 0).occurrences) ≡ 4
trip_ways = refl

trip_candidates : tables_of (candidates_of trip_lines trips visits) ≡ (0, 0) ∷ (0, 0) ∷ (0, 0) ∷ (0, 0) ∷ (1, 0) ∷ []
trip_candidates = refl

trip_picks : terms_of (candidates_of trip_lines trips visits) ≡
    (Variable 3 ∷ Variable 3 ∷ []) ∷ (Variable 3 ∷ Variable 4 ∷ []) ∷ (Variable 4 ∷ Variable 3 ∷ []) ∷ (Variable 4 ∷ Variable 4 ∷ []) ∷ (Variable 1 ∷ Variable 1 ∷ []) ∷ []
trip_picks = refl

trip_rules : kept_rules trip_lines trips visits ≡
    rule (atom 0 (Var 0 ∷ Var 1 ∷ Var 2 ∷ []) ∷ atom 1 (Var 1 ∷ Var 3 ∷ []) ∷ atom 1 (Var 2 ∷ Var 4 ∷ []) ∷ []) (atom 0 (Var 3 ∷ Var 4 ∷ []) ∷ [])
    ∷ rule (atom 0 (Var 0 ∷ Var 1 ∷ Var 2 ∷ []) ∷ atom 1 (Var 1 ∷ Var 3 ∷ []) ∷ atom 1 (Var 2 ∷ Var 4 ∷ []) ∷ []) (atom 0 (Var 4 ∷ Var 3 ∷ []) ∷ [])
    ∷ rule (atom 1 (Var 0 ∷ Var 1 ∷ []) ∷ []) (atom 0 (Var 1 ∷ Var 1 ∷ []) ∷ [])
    ∷ []
trip_rules = refl

-- ---- club(#id, cname), and member(#up, mname, age) in it; seen(who, years, club)

abbrev clubs : List Table
clubs = table 2 [] ∷ table 3 (link 0 0 0 ∷ []) ∷ []

abbrev seen : List Table
seen = table 3 [] ∷ []

-- member.mname to seen.who, member.age to seen.years, club.cname to seen.club
abbrev club_lines : List Line
club_lines = from_column 1 1 0 0 ∷ from_column 1 2 0 1 ∷ from_column 0 1 0 2 ∷ []

-- club(x0, x1) -> seen(y0, y1, x1), and member(x0, x1, x2), club(x0, x3) -> seen(x1, x2, x3)
club_rules : kept_rules club_lines clubs seen ≡
    rule (atom 0 (Var 0 ∷ Var 1 ∷ []) ∷ []) (atom 0 (Ex 0 ∷ Ex 1 ∷ Var 1 ∷ []) ∷ [])
    ∷ rule (atom 1 (Var 0 ∷ Var 1 ∷ Var 2 ∷ []) ∷ atom 0 (Var 0 ∷ Var 3 ∷ []) ∷ []) (atom 0 (Var 1 ∷ Var 2 ∷ Var 3 ∷ []) ∷ [])
    ∷ []
club_rules = refl

-- ---- dept(dname, city), emp(eid, name, dname) with a link to dept, phone(eid, num) with a link to emp;
-- unit(#id, uname, place), staff(#up, sid, sname, phone) in it, number(num, who)

abbrev phones : List Table
phones = table 2 [] ∷ table 3 (link 2 0 0 ∷ []) ∷ table 2 (link 0 1 0 ∷ []) ∷ []

abbrev numbers : List Table
numbers = table 3 [] ∷ table 4 (link 0 0 0 ∷ []) ∷ table 2 [] ∷ []

abbrev phone_lines : List Line
phone_lines =
    from_column 0 0 0 1 ∷ from_column 0 1 0 2
    ∷ from_column 1 0 1 1 ∷ from_column 1 1 1 2 ∷ from_column 2 1 1 3
    ∷ from_column 2 1 2 0 ∷ from_column 1 1 2 1 ∷ []

-- dept(x0, x1) -> unit(y0, x0, x1); of an employee and of a phone its staff row in its unit, and its number
phone_rules : kept_rules phone_lines phones numbers ≡
    rule (atom 0 (Var 0 ∷ Var 1 ∷ []) ∷ []) (atom 0 (Ex 0 ∷ Var 0 ∷ Var 1 ∷ []) ∷ [])
    ∷ rule (atom 1 (Var 0 ∷ Var 1 ∷ Var 2 ∷ []) ∷ atom 0 (Var 2 ∷ Var 3 ∷ []) ∷ [])
    (atom 1 (Ex 0 ∷ Var 0 ∷ Var 1 ∷ Ex 1 ∷ []) ∷ atom 0 (Ex 0 ∷ Var 2 ∷ Var 3 ∷ []) ∷ [])
    ∷ rule (atom 1 (Var 0 ∷ Var 1 ∷ Var 2 ∷ []) ∷ atom 0 (Var 2 ∷ Var 3 ∷ []) ∷ []) (atom 2 (Ex 0 ∷ Var 1 ∷ []) ∷ [])
    ∷ rule (atom 2 (Var 0 ∷ Var 1 ∷ []) ∷ atom 1 (Var 0 ∷ Var 2 ∷ Var 3 ∷ []) ∷ atom 0 (Var 3 ∷ Var 4 ∷ []) ∷ [])
    (atom 1 (Ex 0 ∷ Var 0 ∷ Var 2 ∷ Var 1 ∷ []) ∷ atom 0 (Ex 0 ∷ Var 3 ∷ Var 4 ∷ []) ∷ [])
    ∷ rule (atom 2 (Var 0 ∷ Var 1 ∷ []) ∷ atom 1 (Var 0 ∷ Var 2 ∷ Var 3 ∷ []) ∷ atom 0 (Var 3 ∷ Var 4 ∷ []) ∷ []) (atom 2 (Var 1 ∷ Var 2 ∷ []) ∷ [])
    ∷ []
phone_rules = refl

-- ---- edge(a, b); node(n), and arc(from, to) with two links to it: a line into node makes of each edge an arc from a node to itself

abbrev arcs : List Table
arcs = table 1 [] ∷ table 2 (link 0 0 0 ∷ link 1 0 0 ∷ []) ∷ []

arc_rules : kept_rules (from_column 0 0 0 0 ∷ []) (table 2 [] ∷ []) arcs ≡
    rule (atom 0 (Var 0 ∷ Var 1 ∷ []) ∷ []) (atom 0 (Var 0 ∷ []) ∷ [])
    ∷ rule (atom 0 (Var 0 ∷ Var 1 ∷ []) ∷ []) (atom 1 (Var 0 ∷ Var 0 ∷ []) ∷ atom 0 (Var 0 ∷ []) ∷ atom 0 (Var 0 ∷ []) ∷ [])
    ∷ []
arc_rules = refl

-- ---- conversions and literals

-- a conversion gives a derived variable, and a literal line a text
mixed_rules :
    kept_rules (record { target = at 0 0; source = Converted 7 (at 0 0 ∷ at 0 0 ∷ []) } ∷ record { target = at 0 1; source = Literal (97 ∷ []) } ∷ []) (table 1 [] ∷ []) (table 3 [] ∷ []) ≡
    record {
      premise = atom 0 (Var 0 ∷ []) ∷ [];
      derived = record { code = 7; args = 0 ∷ 0 ∷ [] } ∷ [];
      conclusion = atom 0 (Var 1 ∷ Lit (97 ∷ []) ∷ Ex 0 ∷ []) ∷ [];
    } ∷ []
mixed_rules = refl

-- a way is taken before a literal, and a literal line alone makes no candidate
way_before_literal :
    kept_rules (record { target = at 0 0; source = Literal (97 ∷ []) } ∷ from_column 0 0 0 0 ∷ []) (table 1 [] ∷ []) (table 1 [] ∷ []) ≡
    rule (atom 0 (Var 0 ∷ []) ∷ []) (atom 0 (Var 0 ∷ []) ∷ []) ∷ []
way_before_literal = refl

-- a text of one byte for column d
abbrev from_text : ℕ → ℕ → Line
from_text b d = record { target = at 0 d; source = Literal (b ∷ []) }

-- if the line to a column has no value here, the text of the first literal line counts, though that stands behind the other line
literal_behind_a_line :
    kept_rules (from_column 0 0 0 0 ∷ from_text 97 0 ∷ from_text 98 0 ∷ from_column 1 0 0 1 ∷ [])
    (table 1 [] ∷ table 1 [] ∷ []) (table 2 [] ∷ []) ≡
    rule (atom 0 (Var 0 ∷ []) ∷ []) (atom 0 (Var 0 ∷ Ex 0 ∷ []) ∷ [])
    ∷ rule (atom 1 (Var 0 ∷ []) ∷ []) (atom 0 (Lit (97 ∷ []) ∷ Var 0 ∷ []) ∷ [])
    ∷ []
literal_behind_a_line = refl

literal_alone : candidates_of (record { target = at 0 0; source = Literal (97 ∷ []) } ∷ []) (table 1 [] ∷ []) (table 1 [] ∷ []) ≡ []
literal_alone = refl

-- a conversion of columns of two tables chooses an occurrence of each
paired_rules :
    kept_rules (record { target = at 0 0; source = Converted 2 (at 0 0 ∷ at 1 0 ∷ []) } ∷ []) company (table 1 [] ∷ []) ≡
    record {
      premise = atom 0 (Var 0 ∷ Var 1 ∷ []) ∷ atom 1 (Var 1 ∷ []) ∷ [];
      derived = record { code = 2; args = 0 ∷ 1 ∷ [] } ∷ [];
      conclusion = atom 0 (Var 2 ∷ []) ∷ [];
    } ∷ []
paired_rules = refl

-- where one of two cities is chosen, both columns are its own
one_city :
    terms_of (candidates_of (record { target = at 0 0; source = Converted 2 (at 1 0 ∷ at 1 1 ∷ []) } ∷ []) trips (table 1 [] ∷ [])) ≡
    (Call 2 (1 ∷ 3 ∷ []) ∷ []) ∷ (Call 2 (2 ∷ 4 ∷ []) ∷ []) ∷ (Call 2 (0 ∷ 1 ∷ []) ∷ []) ∷ []
one_city = refl

-- ---- limits

-- each table has two links to the next
abbrev twice : ℕ → Table
twice next = table 1 (link 0 next 0 ∷ link 0 next 0 ∷ [])

abbrev six : List Table
six = twice 1 ∷ twice 2 ∷ twice 3 ∷ twice 4 ∷ twice 5 ∷ table 1 [] ∷ []

abbrev seven : List Table
seven = twice 1 ∷ twice 2 ∷ twice 3 ∷ twice 4 ∷ twice 5 ∷ twice 6 ∷ table 1 [] ∷ []

six_pass_none : passed_limit [] six six ≡ None
six_pass_none = refl

seven_pass : passed_limit [] seven seven ≡ Some (record { what = counts.Occurrences; number = 64 })
seven_pass = refl

-- ---- the order of terms, and terms that are found twice

abbrev converted : ℕ → List Place → ℕ → Line
converted code args d = record { target = at 0 d; source = Converted code args }

-- variables come before conversions, and these go by code, then by arguments; what two lines give is one way
ordered_terms :
    terms_of (candidates_of (
    converted 4 (at 0 0 ∷ []) 0 ∷ converted 3 (at 0 1 ∷ []) 0 ∷ converted 3 (at 0 0 ∷ []) 0
    ∷ from_column 0 1 0 0 ∷ from_column 0 0 0 0 ∷ from_column 0 1 0 0 ∷ []
    ) (table 2 [] ∷ []) (table 1 [] ∷ [])) ≡
    (Variable 0 ∷ []) ∷ (Variable 1 ∷ []) ∷ (Call 3 (0 ∷ []) ∷ []) ∷ (Call 3 (1 ∷ []) ∷ []) ∷ (Call 4 (0 ∷ []) ∷ []) ∷ []
ordered_terms = refl

-- conversions have numbers by first appearance, each once
numbered_conversions :
    kept_rules (converted 5 (at 0 0 ∷ []) 0 ∷ converted 4 (at 0 0 ∷ []) 1 ∷ converted 5 (at 0 0 ∷ []) 2 ∷ []) (table 1 [] ∷ []) (table 3 [] ∷ []) ≡
    record {
      premise = atom 0 (Var 0 ∷ []) ∷ [];
      derived = record { code = 5; args = 0 ∷ [] } ∷ record { code = 4; args = 0 ∷ [] } ∷ [];
      conclusion = atom 0 (Var 1 ∷ Var 2 ∷ Var 1 ∷ []) ∷ [];
    } ∷ []
numbered_conversions = refl

-- of two literal lines to one column the first counts, and a literal stands in the table that its line names alone
first_literal :
    kept_rules (
    record { target = at 0 1; source = Literal (97 ∷ []) } ∷ record { target = at 0 1; source = Literal (98 ∷ []) } ∷ from_column 0 0 1 2 ∷ []
    ) (table 1 [] ∷ []) (table 2 [] ∷ table 3 (link 0 0 0 ∷ []) ∷ []) ≡
    rule (atom 0 (Var 0 ∷ []) ∷ []) (atom 1 (Ex 0 ∷ Ex 1 ∷ Var 0 ∷ []) ∷ atom 0 (Ex 0 ∷ Lit (97 ∷ []) ∷ []) ∷ []) ∷ []
first_literal = refl

-- ---- limits at their ends

-- so many links to table 1
abbrev links_to_one : ℕ → List Link
links_to_one zero = []
links_to_one (suc n) = link 0 1 0 ∷ links_to_one n

-- a table of this width that unfolds to so many occurrences and itself
abbrev fan : ℕ → ℕ → List Table
fan width n = table width (links_to_one n) ∷ table 1 [] ∷ []

-- lines from each of the first n columns to column d
abbrev from_each : ℕ → ℕ → List Line
from_each zero d = []
from_each (suc n) d = from_column 0 n 0 d ∷ from_each n d

-- lines from the first two columns to each of the first n
abbrev two_to_each : ℕ → List Line
two_to_each zero = []
two_to_each (suc n) = from_column 0 0 0 n ∷ from_column 0 1 0 n ∷ two_to_each n

abbrev one : List Table
one = table 1 [] ∷ []

sixty_four_occurrences : passed_limit [] (fan 1 63) (fan 1 63) ≡ None
sixty_four_occurrences = refl

sixty_five_in_the_source : passed_limit [] (fan 1 64) one ≡ Some (record { what = counts.Occurrences; number = 64 })
sixty_five_in_the_source = refl

sixty_five_in_the_target : passed_limit [] one (fan 1 64) ≡ Some (record { what = counts.Occurrences; number = 64 })
sixty_five_in_the_target = refl

sixty_four_ways : passed_limit (from_each 64 0) (table 64 [] ∷ []) one ≡ None
sixty_four_ways = refl

sixty_five_ways : passed_limit (from_each 65 0) (table 65 [] ∷ []) one ≡ Some (record { what = counts.Ways; number = 64 })
sixty_five_ways = refl

all_candidates : passed_limit (two_to_each 10) (table 2 [] ∷ []) (table 10 [] ∷ one) ≡ None
all_candidates = refl

one_candidate_more : passed_limit (from_column 0 0 1 0 ∷ two_to_each 10) (table 2 [] ∷ []) (table 10 [] ∷ one) ≡ Some (record { what = counts.Candidates; number = 1024 })
one_candidate_more = refl

-- where several limits are passed, occurrences are told before ways, and ways before candidates
occurrences_first : passed_limit (from_each 65 0) (fan 65 64) one ≡ Some (record { what = counts.Occurrences; number = 64 })
occurrences_first = refl

ways_first : passed_limit (from_each 33 0 ++ from_each 33 1) (table 33 [] ∷ []) (table 2 [] ∷ []) ≡ Some (record { what = counts.Ways; number = 64 })
ways_first = refl

-- ---- optional links

abbrev open_table : ℕ → List Link → Table
open_table w ls = record { width = w; determinations = []; links = []; optional = ls }

-- emp(name, dept) with an optional link to dept(dname, city)
abbrev open_company : List Table
open_company = open_table 2 (link 1 1 0 ∷ []) ∷ table 2 [] ∷ []

-- staff(sname, place)
abbrev places : List Table
places = table 2 [] ∷ []

-- emp.name to staff.sname, dept.city to staff.place
abbrev place_lines : List Line
place_lines = from_column 0 0 0 0 ∷ from_column 1 1 0 1 ∷ []

-- emp(x0, x1) -> staff(x0, y0), and emp(x0, x1), dept(x1, x2) -> staff(x0, x2), and dept(x0, x1) -> staff(y0, x1)
open_rules : kept_rules place_lines open_company places ≡
    rule (atom 0 (Var 0 ∷ Var 1 ∷ []) ∷ []) (atom 0 (Var 0 ∷ Ex 0 ∷ []) ∷ [])
    ∷ rule (atom 0 (Var 0 ∷ Var 1 ∷ []) ∷ atom 1 (Var 1 ∷ Var 2 ∷ []) ∷ []) (atom 0 (Var 0 ∷ Var 2 ∷ []) ∷ [])
    ∷ rule (atom 1 (Var 0 ∷ Var 1 ∷ []) ∷ []) (atom 0 (Ex 0 ∷ Var 1 ∷ []) ∷ [])
    ∷ []
open_rules = refl

-- where the link isn't optional, the last two
firm_rules : kept_rules place_lines (table 2 (link 1 1 0 ∷ []) ∷ table 2 [] ∷ []) places ≡
    rule (atom 0 (Var 0 ∷ Var 1 ∷ []) ∷ atom 1 (Var 1 ∷ Var 2 ∷ []) ∷ []) (atom 0 (Var 0 ∷ Var 2 ∷ []) ∷ [])
    ∷ rule (atom 1 (Var 0 ∷ Var 1 ∷ []) ∷ []) (atom 0 (Ex 0 ∷ Var 1 ∷ []) ∷ [])
    ∷ []
firm_rules = refl

variants_named : map {B = ℕ × ℕ × ℕ × ℕ} (λ (c : Candidate). (c.source, c.source_variant, c.target, c.target_variant)) (candidates_of place_lines open_company places) ≡
    (0, 0, 0, 0) ∷ (0, 1, 0, 0) ∷ (1, 0, 0, 0) ∷ []
variants_named = refl

-- with a line of the employee alone, what the department adds nothing to is dropped
one_line_rules : kept_rules (from_column 0 0 0 0 ∷ []) open_company places ≡ rule (atom 0 (Var 0 ∷ Var 1 ∷ []) ∷ []) (atom 0 (Var 0 ∷ Ex 0 ∷ []) ∷ []) ∷ []
one_line_rules = refl

-- the parts of the employee with the department: the whole, the employee alone, the department
open_parts : map (λ a. map (λ (o : Occurrence). o.table) (part_occurrences (variant_of open_company 0 1).occurrences a)) (parts open_company (variant_of open_company 0 1).occurrences) ≡
    (0 ∷ 1 ∷ []) ∷ (0 ∷ []) ∷ (1 ∷ []) ∷ []
open_parts = refl

-- table 0 with an optional link to table 1, and this with one to table 2: the parts are the whole, the whole without 2, without 1
-- (and so without 2 as well), without both, the subtree at 1, that without 2, and the subtree at 2
abbrev chained : List Table
chained = open_table 1 (link 0 1 0 ∷ []) ∷ open_table 1 (link 0 2 0 ∷ []) ∷ table 1 [] ∷ []

abbrev chained_occurrences : List Occurrence
chained_occurrences = (variant_of chained 0 2).occurrences

chained_parts :
    map (λ a. map (λ (o : Occurrence). o.table) (part_occurrences chained_occurrences a)) (parts chained chained_occurrences) ≡
    (0 ∷ 1 ∷ 2 ∷ []) ∷ (0 ∷ 1 ∷ []) ∷ (0 ∷ []) ∷ (0 ∷ []) ∷ (1 ∷ 2 ∷ []) ∷ (1 ∷ []) ∷ (2 ∷ []) ∷ []
chained_parts = refl

-- in the target: person(name, club) with an optional link to club(cname): a person alone, and with the club
open_targets : kept_rules (from_column 0 0 0 0 ∷ from_column 0 1 1 0 ∷ []) (table 2 [] ∷ []) (open_table 2 (link 1 1 0 ∷ []) ∷ table 1 [] ∷ []) ≡
    rule (atom 0 (Var 0 ∷ Var 1 ∷ []) ∷ []) (atom 0 (Var 0 ∷ Ex 0 ∷ []) ∷ [])
    ∷ rule (atom 0 (Var 0 ∷ Var 1 ∷ []) ∷ []) (atom 0 (Var 0 ∷ Var 1 ∷ []) ∷ atom 1 (Var 1 ∷ []) ∷ [])
    ∷ rule (atom 0 (Var 0 ∷ Var 1 ∷ []) ∷ []) (atom 1 (Var 1 ∷ []) ∷ [])
    ∷ []
open_targets = refl

-- a set with n columns, each an optional ref to a set of its own with one column
abbrev open_links : ℕ → List Link
open_links zero = []
open_links (suc n) = open_links n ++ link n (suc n) 0 ∷ []

abbrev many_of : ℕ → List Table → List Table
many_of zero ts = ts
many_of (suc n) ts = many_of n (table 1 [] ∷ ts)

abbrev star : ℕ → List Table
star n = open_table n (open_links n) ∷ many_of n []

-- 128 and 7 variants are accepted, 256 and 8 are not
seven_open : passed_limit [] (star 7) one ≡ None
seven_open = refl

eight_open : passed_limit [] (star 8) one ≡ Some (record { what = counts.Variants; number = 256 })
eight_open = refl

-- so many links to table t
abbrev links_to : ℕ → ℕ → List Link
links_to t zero = []
links_to t (suc n) = link 0 t 0 ∷ links_to t n

-- tables of 128, 64, 32, 16, 8, 4, 2, 1 and 1 variants are accepted: 256 together
all_variants_of_a_side :
    passed_limit [] (
    open_table 1 (links_to 7 7) ∷ open_table 1 (links_to 7 6) ∷ open_table 1 (links_to 7 5) ∷ open_table 1 (links_to 7 4) ∷ open_table 1 (links_to 7 3)
    ∷ open_table 1 (links_to 7 2) ∷ open_table 1 (links_to 7 1) ∷ table 1 [] ∷ table 1 [] ∷ []
    ) one ≡ None
all_variants_of_a_side = refl

-- table by table: occurrences of the first are told before the variants of all three
first_table_first :
    passed_limit [] (table 1 (links_to 1 64) ∷ table 1 [] ∷ open_table 1 (links_to 1 8) ∷ []) one
    ≡ Some (record { what = counts.Occurrences; number = 64 })
first_table_first = refl

-- of one table the variants up to it are told before its occurrences
variants_first :
    passed_limit [] (open_table 1 (links_to 2 8) ∷ table 1 (links_to 2 64) ∷ table 1 [] ∷ []) one
    ≡ Some (record { what = counts.Variants; number = 256 })
variants_first = refl

-- the source's limits are told before the target's
source_first : passed_limit [] (fan 1 64) (star 8) ≡ Some (record { what = counts.Occurrences; number = 64 })
source_first = refl

-- ---- lines that fit, and that can be read

-- a line from the last column of a table to the last column of a table fits
last_columns_fit : LineFits (table 2 [] ∷ []) (table 3 [] ∷ []) (from_column 0 1 0 2)
last_columns_fit = record {
  to = record { table = omega arith; column = omega arith };
  from = λ a m. elim m [ here e ↦ subst (IsSchemaColumn (table 2 [] ∷ [])) e (record { table = omega arith; column = omega arith }) | there n ↦ elim n [ ] ];
}

no_column_behind : ¬ IsSchemaColumn (table 2 [] ∷ []) (at 0 2)
no_column_behind h = let c = h.column in omega (arith, c)

no_table_behind : ¬ IsSchemaColumn (table 2 [] ∷ []) (at 1 0)
no_table_behind h = let c = h.table in omega (arith, c)

-- a line from a column that isn't there does not fit
no_source_behind : ¬ LineFits (table 2 [] ∷ []) (table 3 [] ∷ []) (from_column 0 2 0 2)
no_source_behind h = no_column_behind (h.from (at 0 2) (here refl))

abbrev seen_one : List Occurrence
seen_one = record { table = 0; variables = 0 ∷ 1 ∷ []; parent = None; link = 0 } ∷ []

last_is_read : CanBeRead seen_one (from_column 0 1 0 2)
last_is_read a m = elim m [ here e ↦ subst (HaveColumn seen_one) e (λ o n h. elim n [ here g ↦ subst (λ (p : Occurrence). 1 < length p.variables) g (omega arith) | there k ↦ elim k [ ] ]) | there n ↦ elim n [ ] ]

behind_is_not_read : ¬ CanBeRead seen_one (from_column 0 2 0 1)
behind_is_not_read h = let b = h (at 0 2) (here refl) (record { table = 0; variables = 0 ∷ 1 ∷ []; parent = None; link = 0 }) (here refl) refl in omega (arith, b)

last_is_reached : IsReached seen_one (from_column 0 2 0 1)
last_is_reached o n h = elim n [ here g ↦ subst (λ (p : Occurrence). 1 < length p.variables) g (omega arith) | there k ↦ elim k [ ] ]

behind_is_not_reached : ¬ IsReached seen_one (from_column 0 1 0 2)
behind_is_not_reached h = let b = h (record { table = 0; variables = 0 ∷ 1 ∷ []; parent = None; link = 0 }) (here refl) refl in omega (arith, b)

other_tables_are_not_asked : HaveColumn seen_one (at 1 5)
other_tables_are_not_asked o n h = elim n [ here g ↦ absurd (let e : ◌≡◌ {A = ℕ} 0 1 = ap (λ (p : Occurrence). p.table) g ∙ h in omega (arith, e)) | there k ↦ elim k [ ] ]
