-- Small query texts over a target: the query that each says, or its first fault, computed.
use Rattle.std.proofs.Common.{◌≡◌, ◌≤◌, ℕ, zero, suc, List, [], ◌∷◌, Result, Ok, Err, codes, refl, subst, inl, inr, arith, length}
use Rattle.dx_base.specs.Members.{here, there}
use Rattle.dx_model.specs.declared.rules.Cell.TheVariants.{Var, Lit}
use Rattle.dx_model.specs.declared.rules.Atom.{Atom}
use Rattle.dx_schema.specs.Forest.{Forest, none, set, bare_set}
use Rattle.dx_tokens.specs.declared.faults.TextFault.{TextFault}
use Rattle.dx_tokens.specs.declared.faults.TextFault.TheVariants.{At, Memory}
use Rattle.dx_tokens.specs.declared.faults.TextKind.TheVariants.{Character, Expected, Ended, UnknownName, Unsafe, Width}
use Rattle.dx_tokens.specs.Tokens.{wide_at, item_at, string_from, piece_at}
use Rattle.dx_tokens.specs.Scan.{scan_from}
use Rattle.dx_grammar.specs.Readers.{many}
use Rattle.dx_schema_text.specs.Reading.{atom_reader, atoms_reader, cell_reader, cells_reader, comma_atom, comma_cell, literal_reader, name_reader}
use Rattle.dx_queries.specs.declared.query.Part.{Part}
use Rattle.dx_queries.specs.declared.query.Query.{Query}
use Rattle.dx_query_text.specs.Queries.{HasFewAtoms, IsQueryFaultOrMemory, read_over}
use Rattle.dx_query_text.specs.Reading.{part_reader, query_reader}
use Rattle.dx_query_text.specs.declared.texts.PartText.{PartText}
use Rattle.dx_query_text.specs.Texts.{IsQueryText, query_of_tokens}
use Rattle.dx_query_text.proofs.Over.{never_said_and_faulty, reads_query}

-- person(name, num), and unit(#id, uname) with the inner set staff(#up, sname)
abbrev target : Forest
target =
    set (bare_set (codes "person") (codes "name" ∷ codes "num" ∷ [])) none
    (set (bare_set (codes "unit") (codes "uname" ∷ [])) (set (bare_set (codes "staff") (codes "sname" ∷ [])) none none) none)

-- what is read of a text
read : List ℕ → Result Query TextFault
unfolding query_of_tokens scan_from piece_at string_from item_at wide_at many query_reader part_reader cells_reader comma_cell cell_reader name_reader literal_reader atoms_reader comma_atom atom_reader
read text = read_over target text

-- ---- queries

-- the variables of a part by first appearance in all its atoms; the answer in its own order; the tables by their numbers
joined : read (codes "query 1; answer(s, \"of\", n) from unit(i, n), staff(i, s);") ≡ Ok (record {
  width = 3;
  parts = record {
    answer = Var 2 ∷ Lit (codes "of") ∷ Var 1 ∷ [];
    atoms = record { table = 1; cells = Var 0 ∷ Var 1 ∷ [] } ∷ record { table = 2; cells = Var 0 ∷ Var 2 ∷ [] } ∷ [];
  } ∷ [];
})
unfolding read
joined = refl

-- the parts in order, each with variables of its own; a string is a constant, and one name in two cells is one variable
two_parts : read (codes "query 1; answer(n) from person(t, n); answer(\"x\") from person(n, n);answer(n) from person(n, \"n\");") ≡ Ok (record {
  width = 1;
  parts =
      record { answer = Var 1 ∷ []; atoms = record { table = 0; cells = Var 0 ∷ Var 1 ∷ [] } ∷ [] }
      ∷ record { answer = Lit (codes "x") ∷ []; atoms = record { table = 0; cells = Var 0 ∷ Var 0 ∷ [] } ∷ [] }
      ∷ record { answer = Var 0 ∷ []; atoms = record { table = 0; cells = Var 0 ∷ Lit (codes "n") ∷ [] } ∷ [] }
      ∷ [];
})
unfolding read
two_parts = refl

-- no word is reserved
reserved : read (codes "query 1; answer(answer) from person(answer, from);") ≡ Ok (record {
  width = 1;
  parts = record { answer = Var 0 ∷ []; atoms = record { table = 0; cells = Var 0 ∷ Var 1 ∷ [] } ∷ [] } ∷ [];
})
unfolding read
reserved = refl

-- ---- faults of the text as a text

nothing_said : read [] ≡ Err (At 0 Ended)
unfolding read
nothing_said = refl

-- a mapping is no query, and there is no version but 1
other_word : read (codes "mapping 1;") ≡ Err (At 0 Expected)
unfolding read
other_word = refl

other_version : read (codes "query 2;") ≡ Err (At 6 Expected)
unfolding read
other_version = refl

version_as_a_string : read (codes "query \"1\";") ≡ Err (At 6 Expected)
unfolding read
version_as_a_string = refl

-- a query has a part, a part a cell in its answer, and `from` and an atom
no_part : read (codes "query 1;") ≡ Err (At 8 Ended)
unfolding read
no_part = refl

no_cell : read (codes "query 1; answer()") ≡ Err (At 16 Expected)
unfolding read
no_cell = refl

no_from : read (codes "query 1; answer(n);") ≡ Err (At 18 Expected)
unfolding read
no_from = refl

no_atom : read (codes "query 1; answer(n) from ;") ≡ Err (At 24 Expected)
unfolding read
no_atom = refl

-- a semicolon ends the head, and each part
no_end_of_the_head : read (codes "query 1 answer") ≡ Err (At 8 Expected)
unfolding read
no_end_of_the_head = refl

no_end_of_a_part : read (codes "query 1; answer(n) from person(n, t)") ≡ Err (At 36 Ended)
unfolding read
no_end_of_a_part = refl

-- the answer stands in parentheses, its cells with commas between
no_parentheses : read (codes "query 1; answer n") ≡ Err (At 16 Expected)
unfolding read
no_parentheses = refl

no_comma : read (codes "query 1; answer(n t)") ≡ Err (At 18 Expected)
unfolding read
no_comma = refl

-- after a part stands another one, and nothing else
another_query : read (codes "query 1; answer(n) from person(n, t); query") ≡ Err (At 38 Expected)
unfolding read
another_query = refl

-- a token that can't stand is told before a later byte that begins none, and that byte before the end
token_first : read (codes "query 1 answer $") ≡ Err (At 8 Expected)
unfolding read
token_first = refl

byte_then : read (codes "query 1; $") ≡ Err (At 9 Character)
unfolding read
byte_then = refl

byte_behind_all : read (codes "query 1; answer(n) from person(n, t); $") ≡ Err (At 38 Character)
unfolding read
byte_behind_all = refl

-- it says no query, though the tokens before that byte spell one
says_no_query : (parts : List PartText) → ¬ IsQueryText (codes "query 1; answer(n) from person(n, t); $") parts
unfolding read
says_no_query parts h = absurd (cc h.no_stop)

-- a fault of the text comes before each of its names
text_first : read (codes "query 1; answer(z) from persons(n); $") ≡ Err (At 36 Character)
unfolding read
text_first = refl

-- ---- faults of names

-- a set that isn't there, and another number of cells than the set has columns, both told at the set
unknown_set : read (codes "query 1; answer(n) from persons(n);") ≡ Err (At 24 UnknownName)
unfolding read
unknown_set = refl

other_width : read (codes "query 1; answer(n) from person(n);") ≡ Err (At 24 Width)
unfolding read
other_width = refl

-- the columns #id and #up count
with_up : read (codes "query 1; answer(s) from staff(s);") ≡ Err (At 24 Width)
unfolding read
with_up = refl

-- the atoms of a part from left to right
first_atom : read (codes "query 1; answer(n) from person(n, t), person(n), persons(n);") ≡ Err (At 38 Width)
unfolding read
first_atom = refl

-- a variable of the answer that stands in no atom of its part, told at the cell; one of another part doesn't help, a string is none
unsafe : read (codes "query 1; answer(\"z\", z, y) from person(n, \"z\");") ≡ Err (At 21 Unsafe)
unfolding read
unsafe = refl

of_another_part : read (codes "query 1; answer(n) from person(n, t); answer(t) from person(n, n);") ≡ Err (At 45 Unsafe)
unfolding read
of_another_part = refl

-- the answer of a part is as wide as the first one's, which is told at the word `answer`
wider : read (codes "query 1; answer(n) from person(n, t); answer(n, t) from person(n, t);") ≡ Err (At 38 Width)
unfolding read
wider = refl

narrower : read (codes "query 1; answer(n, t) from person(n, t); answer(n) from person(n, t);") ≡ Err (At 41 Width)
unfolding read
narrower = refl

-- of a part the atoms are told first, then the width, then the answer
atoms_first : read (codes "query 1; answer(n) from person(n, t); answer(n, z) from person(n);") ≡ Err (At 56 Width)
unfolding read
atoms_first = refl

width_then : read (codes "query 1; answer(n) from person(n, t); answer(n, z) from person(n, t);") ≡ Err (At 38 Width)
unfolding read
width_then = refl

-- part by part
first_part : read (codes "query 1; answer(z) from person(n, t); answer(n) from persons(n);") ≡ Err (At 16 Unsafe)
unfolding read
first_part = refl

-- ---- what may be answered, and how many atoms there may be

-- of a text without a fault want of memory alone is told
abbrev one_part : List ℕ
one_part = codes "query 1; answer(n) from person(n, t);"

abbrev said : Query
said = record { width = 1; parts = record { answer = Var 0 ∷ []; atoms = record { table = 0; cells = Var 0 ∷ Var 1 ∷ [] } ∷ [] } ∷ [] }

is_read : read one_part ≡ Ok said
unfolding read
is_read = refl

told_of_nothing : (e : TextFault) → IsQueryFaultOrMemory target one_part e → e ≡ Memory
unfolding read
told_of_nothing e (inl m) = m
told_of_nothing e (inr f) = absurd (never_said_and_faulty target one_part said e (reads_query target one_part (Ok said) is_read) f)

-- so many atoms
abbrev atoms : ℕ → List Atom
atoms zero = []
atoms (suc n) = record { table = 0; cells = [] } ∷ atoms n

abbrev part_of : ℕ → Part
part_of n = record { answer = []; atoms = atoms n }

abbrev query_of : ℕ → Query
query_of n = record { width = 0; parts = part_of n ∷ [] }

-- 64 atoms of a part are few, and 65 are not
sixty_four : HasFewAtoms (query_of 64)
sixty_four p m = elim m [ here e ↦ subst (λ (q : Part). length q.atoms ≤ 64) e (omega arith) | there n ↦ elim n [ ] ]

sixty_five : ¬ HasFewAtoms (query_of 65)
sixty_five h = let few = h (part_of 65) (here refl) in omega (arith, few)
