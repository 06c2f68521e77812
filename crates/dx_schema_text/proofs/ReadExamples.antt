-- What small mapping texts say, and the first faults of others, computed.
use Rattle.std.proofs.Common.{◌≡◌, ℕ, zero, suc, true, false, List, [], ◌∷◌, ◌++◌, Result, Ok, Err, codes}
use Rattle.std.proofs.Common.{refl, inl, inr}
use Rattle.dx_tokens.specs.declared.faults.TextFault.{TextFault}
use Rattle.dx_tokens.specs.declared.faults.TextFault.TheVariants.{At, TooDeep, Memory}
use Rattle.dx_tokens.specs.declared.faults.TextKind.TheVariants.{Character, Expected, Ended}
use Rattle.dx_tokens.specs.Judged.{Reads}
use Rattle.dx_tokens.specs.Tokens.{wide_at, item_at, string_from, piece_at}
use Rattle.dx_tokens.specs.Scan.{scan_from}
use Rattle.dx_grammar.specs.Readers.{many}
use Rattle.dx_schema.specs.Forest.{Label, Forest, none, set}
use Rattle.dx_schema_text.specs.declared.texts.PlaceText.{PlaceText}
use Rattle.dx_schema_text.specs.declared.texts.SourceText.TheVariants.{Column, Literal, Call}
use Rattle.dx_schema_text.specs.declared.texts.LineText.{LineText}
use Rattle.dx_schema_text.specs.declared.texts.CellText.TheVariants as cells
use Rattle.dx_schema_text.specs.declared.texts.RuleText.{RuleText}
use Rattle.dx_schema_text.specs.declared.texts.OnlyText.{OnlyText}
use Rattle.dx_schema_text.specs.declared.texts.MappingText.{MappingText}
use Rattle.dx_schema_text.specs.Reading.{comma_word, words_reader, key_reader, decided_reader, dep_reader}
use Rattle.dx_schema_text.specs.Reading.{optional_reader, referred_reader, ref_reader, determination_reader}
use Rattle.dx_schema_text.specs.Reading.{last_clause_reader, clause_reader_with, set_head_reader, set_reader_of}
use Rattle.dx_schema_text.specs.Reading.{clause_reader, place_reader, comma_place, places_reader, string_reader}
use Rattle.dx_schema_text.specs.Reading.{column_reader, call_reader, named_reader, source_reader, line_reader}
use Rattle.dx_schema_text.specs.Reading.{name_reader, literal_reader, cell_reader, comma_cell, cells_reader}
use Rattle.dx_schema_text.specs.Reading.{atom_reader, comma_atom, atoms_reader, derived_reader, comma_derived}
use Rattle.dx_schema_text.specs.Reading.{where_reader, optional_where, rule_reader, only_reader, item_reader}
use Rattle.dx_schema_text.specs.Reading.{side_reader, body_reader, mapping_reader}
use Rattle.dx_schema_text.specs.Texts.{mapping_of_tokens, mapping_of_text, IsMappingText, IsMappingTextFault}
use Rattle.dx_schema_text.specs.Texts.{IsMappingFaultOrMemory, AnswersMapping, AnswersMappingFault}
use Rattle.dx_schema_text.proofs.Answered.{text_mapping, text_fault, never_said_and_faulty}

-- what is read of a text
pub read : List ℕ → Result MappingText TextFault
unfolding mapping_of_tokens scan_from piece_at string_from item_at wide_at many comma_word words_reader key_reader
    decided_reader dep_reader optional_reader referred_reader ref_reader determination_reader last_clause_reader
    clause_reader_with set_head_reader set_reader_of clause_reader place_reader comma_place places_reader
    string_reader column_reader call_reader named_reader source_reader line_reader name_reader literal_reader
    cell_reader comma_cell cells_reader atom_reader comma_atom atoms_reader derived_reader comma_derived where_reader
    optional_where rule_reader only_reader item_reader side_reader body_reader mapping_reader
read text = mapping_of_text text

-- a text says what is read of it, and has the fault that is read of it
pub says : (text : List ℕ) (m : MappingText) → read text ≡ Ok m → IsMappingText text m
unfolding read
says text m e = text_mapping text m e

faulty : (text : List ℕ) (e : TextFault) → read text ≡ Err e → IsMappingTextFault text e
unfolding read
faulty text e is = text_fault text e is

-- a text of a version with these sets as its source, which begin at byte 17
abbrev with_sets : List ℕ → List ℕ → List ℕ
with_sets version sets = codes "mapping " ++ (version ++ (codes ";source{" ++ (sets ++ codes "}target{}")))

-- a text of a version without sets and with these lines, rules and conditions, which begin at byte 26
abbrev with_items : List ℕ → List ℕ → List ℕ
with_items version items = codes "mapping " ++ (version ++ (codes ";source{}target{}" ++ items))

-- ---- what texts say: sets

abbrev plain : List ℕ → List (List ℕ) → Label
plain name columns = record { name = name; columns = columns; keys = []; deps = []; refs = [] }

abbrev sets_alone : ℕ → Forest → Forest → MappingText
sets_alone version from to =
    record { version = version; source = from; target = to; lines = []; conditions = []; rules = [] }

-- no sets and no lines, of each version
first_version : read (codes "mapping 1;source{}target{}") ≡ Ok (sets_alone 1 none none)
unfolding read
first_version = refl

second_version : read (codes "mapping 2;source{}target{}") ≡ Ok (sets_alone 2 none none)
unfolding read
second_version = refl

third_version : read (codes "mapping 3;source{}target{}") ≡ Ok (sets_alone 3 none none)
unfolding read
third_version = refl

-- the source comes before the target; sets stand beside one another and in one another, each level in its order
both_sides :
    read (codes "mapping 1;source{set a{x;}}target{set b{y,z;set c{u;set d{v;}}set e{w;}}set f{y;}}")
    ≡ Ok
    (sets_alone 1 (set (plain (codes "a") (codes "x" ∷ [])) none none)
    (set (plain (codes "b") (codes "y" ∷ codes "z" ∷ []))
    (set (plain (codes "c") (codes "u" ∷ [])) (set (plain (codes "d") (codes "v" ∷ [])) none none)
    (set (plain (codes "e") (codes "w" ∷ [])) none none))
    (set (plain (codes "f") (codes "y" ∷ [])) none none)))
unfolding read
both_sides = refl

-- keys, refs and inner sets stand in any order, and each kind keeps its own
any_order :
    read (with_sets (codes "1") (codes "set a{x,y;key(x,y);set b{z;}ref(x,y)->c(v,w);key(y);set d{u;}ref(y)->e(w);}"))
    ≡ Ok
    (sets_alone 1
    (set (record {
      name = codes "a";
      columns = codes "x" ∷ codes "y" ∷ [];
      keys = record { columns = codes "x" ∷ codes "y" ∷ [] } ∷ record { columns = codes "y" ∷ [] } ∷ [];
      deps = [];
      refs =
          record {
            columns = codes "x" ∷ codes "y" ∷ [];
            set = codes "c";
            referred = codes "v" ∷ codes "w" ∷ [];
            optional = false;
          }
          ∷ record { columns = codes "y" ∷ []; set = codes "e"; referred = codes "w" ∷ []; optional = false } ∷ [];
    })
    (set (plain (codes "b") (codes "z" ∷ [])) none (set (plain (codes "d") (codes "u" ∷ [])) none none)) none) none)
unfolding read
any_order = refl

-- from version 2 on a ref may be optional, in an inner set too
optional_ref :
    read (with_sets (codes "2") (codes "set a{x;ref(x)->c(w)optional;set b{y;ref(y)->c(w);ref(y)->d(v)optional;}}"))
    ≡ Ok
    (sets_alone 2
    (set (record {
      name = codes "a";
      columns = codes "x" ∷ [];
      keys = [];
      deps = [];
      refs = record { columns = codes "x" ∷ []; set = codes "c"; referred = codes "w" ∷ []; optional = true } ∷ [];
    })
    (set (record {
      name = codes "b";
      columns = codes "y" ∷ [];
      keys = [];
      deps = [];
      refs =
          record { columns = codes "y" ∷ []; set = codes "c"; referred = codes "w" ∷ []; optional = false }
          ∷ record { columns = codes "y" ∷ []; set = codes "d"; referred = codes "v" ∷ []; optional = true } ∷ [];
    }) none none) none) none)
unfolding read
optional_ref = refl

-- in version 3 a set has dependencies too, in their order, and refs may be optional
dependencies :
    read (with_sets (codes "3") (codes "set a{x,y;dep(x)->(y);key(y);dep(y,x)->(x,y);ref(x)->b(z)optional;}"))
    ≡ Ok
    (sets_alone 3
    (set (record {
      name = codes "a";
      columns = codes "x" ∷ codes "y" ∷ [];
      keys = record { columns = codes "y" ∷ [] } ∷ [];
      deps =
          record { columns = codes "x" ∷ []; decides = codes "y" ∷ [] }
          ∷ record { columns = codes "y" ∷ codes "x" ∷ []; decides = codes "x" ∷ codes "y" ∷ [] } ∷ [];
      refs = record { columns = codes "x" ∷ []; set = codes "b"; referred = codes "z" ∷ []; optional = true } ∷ [];
    }) none none) none)
unfolding read
dependencies = refl

-- no word is reserved
any_name :
    read (with_sets (codes "1") (codes "set set{key,ref;key(key);}set line{dep,optional;}"))
    ≡ Ok
    (sets_alone 1
    (set (record {
      name = codes "set";
      columns = codes "key" ∷ codes "ref" ∷ [];
      keys = record { columns = codes "key" ∷ [] } ∷ [];
      deps = [];
      refs = [];
    }) none
    (set (plain (codes "line") (codes "dep" ∷ codes "optional" ∷ [])) none none)) none)
unfolding read
any_name = refl

-- blanks and ends of lines say nothing
pub printed_sides : read (codes "mapping 1;\nsource {\n}\ntarget {\n}\n") ≡ Ok (sets_alone 1 none none)
unfolding read
printed_sides = refl

-- ---- what texts say: lines, rules and conditions

abbrev column_at : List ℕ → ℕ → List ℕ → ℕ → PlaceText
column_at name place column column_place =
    record { set = name; set_place = place; column = column; column_place = column_place }

abbrev items_alone : ℕ → List LineText → List OnlyText → List RuleText → MappingText
items_alone version lines conditions rules =
    record { version = version; source = none; target = none; lines = lines; conditions = conditions; rules = rules }

-- lines from a column, a text and a conversion, with the places of all words
three_lines :
    read (with_items (codes "1") (codes "line a.x->t.u;line \"k\"->t.v;line f(a.x,c.z)->t.w;"))
    ≡ Ok
    (items_alone 1
    (record {
      source = Column (column_at (codes "a") 31 (codes "x") 33);
      target = column_at (codes "t") 36 (codes "u") 38;
    }
    ∷ record { source = Literal (codes "k"); target = column_at (codes "t") 50 (codes "v") 52 }
    ∷ record {
      source =
          Call (codes "f") 59
          (column_at (codes "a") 61 (codes "x") 63 ∷ column_at (codes "c") 65 (codes "z") 67 ∷ []);
      target = column_at (codes "t") 71 (codes "w") 73;
    } ∷ []) [] [])
unfolding read
three_lines = refl

-- a rule with two atoms on each side and two derived variables, with the places of its words
whole_rule :
    read (with_items (codes "1") (codes "rule a(p,q),c(p)where r=f(p,q),s=g(r)->t(r,\"k\"),u(n);"))
    ≡ Ok
    (items_alone 1 [] []
    (record {
      premise =
          record { set = codes "a"; place = 31; cells = cells.Name (codes "p") 33 ∷ cells.Name (codes "q") 35 ∷ [] }
          ∷ record { set = codes "c"; place = 38; cells = cells.Name (codes "p") 40 ∷ [] } ∷ [];
      derived =
          record {
            name = codes "r";
            place = 48;
            call = codes "f";
            call_place = 50;
            args = cells.Name (codes "p") 52 ∷ cells.Name (codes "q") 54 ∷ [];
          }
          ∷ record {
            name = codes "s";
            place = 57;
            call = codes "g";
            call_place = 59;
            args = cells.Name (codes "r") 61 ∷ [];
          } ∷ [];
      conclusion =
          record { set = codes "t"; place = 65; cells = cells.Name (codes "r") 67 ∷ cells.Literal (codes "k") ∷ [] }
          ∷ record { set = codes "u"; place = 74; cells = cells.Name (codes "n") 76 ∷ [] } ∷ [];
    } ∷ []))
unfolding read
whole_rule = refl

abbrev copy_rule : List ℕ → ℕ → List ℕ → ℕ → ℕ → ℕ → RuleText
copy_rule from place name cell to other = record {
  premise = record { set = from; place = place; cells = cells.Name name cell ∷ [] } ∷ [];
  derived = [];
  conclusion = record { set = codes "t"; place = to; cells = cells.Name name other ∷ [] } ∷ [];
}

-- lines, rules and conditions stand in any order, and each kind keeps its own
all_items :
    read
    (with_items (codes "2")
    (codes "rule a(p)->t(p);only a.x full;line \"k\"->t.u;rule b(q)->t(q);line \"l\"->t.u;only b.y some;"))
    ≡ Ok
    (items_alone 2
    (record { source = Literal (codes "k"); target = column_at (codes "t") 66 (codes "u") 68 }
    ∷ record { source = Literal (codes "l"); target = column_at (codes "t") 96 (codes "u") 98 } ∷ [])
    (record { place = column_at (codes "a") 47 (codes "x") 49; test = codes "full"; test_place = 51 }
    ∷ record { place = column_at (codes "b") 105 (codes "y") 107; test = codes "some"; test_place = 109 } ∷ [])
    (copy_rule (codes "a") 31 (codes "p") 33 37 39 ∷ copy_rule (codes "b") 75 (codes "q") 77 81 83 ∷ []))
unfolding read
all_items = refl

-- a condition stands in version 3 too
third_only :
    read (with_items (codes "3") (codes "only a.x full;"))
    ≡ Ok
    (items_alone 3 []
    (record { place = column_at (codes "a") 31 (codes "x") 33; test = codes "full"; test_place = 35 } ∷ []) [])
unfolding read
third_only = refl

-- ---- first faults: the head and the sides

-- something is wanted, and a fault at the end is told behind the last byte
empty_text : read [] ≡ Err (At 0 Ended)
unfolding read
empty_text = refl

without_target : read (codes "mapping 1;source{}") ≡ Err (At 18 Ended)
unfolding read
without_target = refl

within_a_set : read (codes "mapping 1;source{set a{x ") ≡ Err (At 25 Ended)
unfolding read
within_a_set = refl

-- a keyword is this word: not a longer one, not one with a capital letter, not a string
longer_word : read (codes "mappings 1;") ≡ Err (At 0 Expected)
unfolding read
longer_word = refl

capital_letter : read (codes "Mapping 1;") ≡ Err (At 0 Expected)
unfolding read
capital_letter = refl

string_for_a_word : read (codes "\"mapping\" 1;") ≡ Err (At 0 Expected)
unfolding read
string_for_a_word = refl

-- a version is this number, and 1, 2 or 3
string_for_a_number : read (codes "mapping \"1\";") ≡ Err (At 8 Expected)
unfolding read
string_for_a_number = refl

eleven : read (codes "mapping 11;") ≡ Err (At 8 Expected)
unfolding read
eleven = refl

fourth_version : read (codes "mapping 4;source{}target{}") ≡ Err (At 8 Expected)
unfolding read
fourth_version = refl

no_version : read (codes "mapping;") ≡ Err (At 7 Expected)
unfolding read
no_version = refl

-- a mark is no string
string_for_a_mark : read (codes "mapping 1\";\"") ≡ Err (At 9 Expected)
unfolding read
string_for_a_mark = refl

-- the source comes first, there is a target, and sets stand in the sides alone
target_first : read (codes "mapping 1;target{}source{}") ≡ Err (At 10 Expected)
unfolding read
target_first = refl

source_twice : read (codes "mapping 1;source{}source{}") ≡ Err (At 18 Expected)
unfolding read
source_twice = refl

set_behind : read (with_items (codes "1") (codes "set a{x;}")) ≡ Err (At 26 Expected)
unfolding read
set_behind = refl

key_of_no_set : read (with_sets (codes "1") (codes "key(x);")) ≡ Err (At 17 Expected)
unfolding read
key_of_no_set = refl

-- nothing else stands behind the sides
brace_behind : read (with_items (codes "1") (codes "}")) ≡ Err (At 26 Expected)
unfolding read
brace_behind = refl

-- ---- first faults: sets

-- a set has columns, which stand first and once, with a comma between each two
no_columns : read (with_sets (codes "1") (codes "set a{}")) ≡ Err (At 23 Expected)
unfolding read
no_columns = refl

column_behind_comma : read (with_sets (codes "1") (codes "set a{x,;}")) ≡ Err (At 25 Expected)
unfolding read
column_behind_comma = refl

key_first : read (with_sets (codes "1") (codes "set a{key(x);}")) ≡ Err (At 26 Expected)
unfolding read
key_first = refl

columns_twice : read (with_sets (codes "1") (codes "set a{x;y;}")) ≡ Err (At 25 Expected)
unfolding read
columns_twice = refl

no_semicolon : read (with_sets (codes "1") (codes "set a{x,y key(x);}")) ≡ Err (At 27 Expected)
unfolding read
no_semicolon = refl

-- sets stand beside one another without a comma
comma_of_sets : read (with_sets (codes "1") (codes "set a{x;},")) ≡ Err (At 26 Expected)
unfolding read
comma_of_sets = refl

-- a name is no string
string_for_a_set : read (with_sets (codes "1") (codes "set \"a\"{x;}")) ≡ Err (At 21 Expected)
unfolding read
string_for_a_set = refl

string_for_a_column : read (with_sets (codes "1") (codes "set a{\"x\";}")) ≡ Err (At 23 Expected)
unfolding read
string_for_a_column = refl

-- a key has columns, and is never optional
key_of_nothing : read (with_sets (codes "1") (codes "set a{x;key();}")) ≡ Err (At 29 Expected)
unfolding read
key_of_nothing = refl

optional_key : read (with_sets (codes "2") (codes "set a{x;key(x)optional;}")) ≡ Err (At 31 Expected)
unfolding read
optional_key = refl

-- a dependency stands in version 3 alone, in an inner set too; it decides columns, and those of its own set
earlier_dep : read (with_sets (codes "2") (codes "set a{x;dep(x)->(x);}")) ≡ Err (At 25 Expected)
unfolding read
earlier_dep = refl

inner_dep : read (with_sets (codes "1") (codes "set a{x;set b{y;dep(y)->(y);}}")) ≡ Err (At 33 Expected)
unfolding read
inner_dep = refl

decides_nothing : read (with_sets (codes "3") (codes "set a{x;dep(x)->();}")) ≡ Err (At 34 Expected)
unfolding read
decides_nothing = refl

decides_of_another : read (with_sets (codes "3") (codes "set a{x;dep(x)->b(x);}")) ≡ Err (At 33 Expected)
unfolding read
decides_of_another = refl

-- a ref names a set; it is optional from version 2 on, by a word at its end
ref_to_no_set : read (with_sets (codes "1") (codes "set a{x;ref(x)->(x);}")) ≡ Err (At 33 Expected)
unfolding read
ref_to_no_set = refl

optional_early : read (with_sets (codes "1") (codes "set a{x;ref(x)->a(x)optional;}")) ≡ Err (At 37 Expected)
unfolding read
optional_early = refl

optional_in_front : read (with_sets (codes "2") (codes "set a{x;ref(x)optional->a(x);}")) ≡ Err (At 31 Expected)
unfolding read
optional_in_front = refl

-- no line stands in a set
line_in_a_set : read (with_sets (codes "1") (codes "set a{x;line a.x->a.x;}")) ≡ Err (At 25 Expected)
unfolding read
line_in_a_set = refl

-- ---- first faults: levels of sets

-- so many sets one in the other, each with a column: the sets begin 8 bytes apart
abbrev opened : ℕ → List ℕ
opened zero = []
opened (suc n) = codes "set a{x;" ++ opened n

abbrev closed : ℕ → List ℕ
closed zero = []
closed (suc n) = codes "}" ++ closed n

-- sixteen levels may be closed, and the text goes on to its end
sixteen_levels : read (codes "mapping 1;source{" ++ (opened 16 ++ (closed 16 ++ codes "}"))) ≡ Err (At 162 Ended)
unfolding read
sixteen_levels = refl

-- in the sixteenth stands all that may stand in a set but for a set
deepest_clauses :
    read (codes "mapping 3;source{" ++ (opened 16 ++ codes "key(x);ref(x)->b(y)optional;dep(x)->(x);"))
    ≡ Err (At 185 Ended)
unfolding read
deepest_clauses = refl

-- the seventeenth set is too deep, at its first word, whatever comes after it
seventeen_levels : read (codes "mapping 1;source{" ++ (opened 17 ++ codes "$")) ≡ Err (TooDeep 145)
unfolding read
seventeen_levels = refl

-- another word there can't stand, however deep sets may be
no_set_there : read (codes "mapping 1;source{" ++ (opened 16 ++ codes "sets")) ≡ Err (At 145 Expected)
unfolding read
no_set_there = refl

-- ---- first faults: lines, rules and conditions

-- a line comes from one column, text or conversion, and leads to a column
from_a_set : read (with_items (codes "1") (codes "line a->t.u;")) ≡ Err (At 32 Expected)
unfolding read
from_a_set = refl

to_a_set : read (with_items (codes "1") (codes "line a.x->t;")) ≡ Err (At 37 Expected)
unfolding read
to_a_set = refl

to_a_text : read (with_items (codes "1") (codes "line \"k\"->\"u\";")) ≡ Err (At 36 Expected)
unfolding read
to_a_text = refl

from_two : read (with_items (codes "1") (codes "line a.x,a.y->t.u;")) ≡ Err (At 34 Expected)
unfolding read
from_two = refl

-- a conversion has arguments, each a column: no text, and no conversion
of_nothing : read (with_items (codes "1") (codes "line f()->t.u;")) ≡ Err (At 33 Expected)
unfolding read
of_nothing = refl

of_a_text : read (with_items (codes "1") (codes "line f(\"k\")->t.u;")) ≡ Err (At 33 Expected)
unfolding read
of_a_text = refl

of_a_conversion : read (with_items (codes "1") (codes "line f(g(a.x))->t.u;")) ≡ Err (At 34 Expected)
unfolding read
of_a_conversion = refl

-- a rule has atoms on both sides, with cells
no_premise : read (with_items (codes "1") (codes "rule->t(\"x\");")) ≡ Err (At 30 Expected)
unfolding read
no_premise = refl

no_conclusion : read (with_items (codes "1") (codes "rule a(p)->;")) ≡ Err (At 37 Expected)
unfolding read
no_conclusion = refl

atom_behind_comma : read (with_items (codes "1") (codes "rule a(p),->t(p);")) ≡ Err (At 36 Expected)
unfolding read
atom_behind_comma = refl

no_cells : read (with_items (codes "1") (codes "rule a(p)->t();")) ≡ Err (At 39 Expected)
unfolding read
no_cells = refl

-- texts stand on its right side alone, and not as arguments
text_on_the_left : read (with_items (codes "1") (codes "rule a(\"x\")->t(x);")) ≡ Err (At 33 Expected)
unfolding read
text_on_the_left = refl

text_as_argument : read (with_items (codes "1") (codes "rule a(p)where q=f(\"p\")->t(q);")) ≡ Err (At 45 Expected)
unfolding read
text_as_argument = refl

-- derived variables, of which there is one after `where`, stand before the arrow
where_nothing : read (with_items (codes "1") (codes "rule a(p)where->t(p);")) ≡ Err (At 40 Expected)
unfolding read
where_nothing = refl

where_behind : read (with_items (codes "1") (codes "rule a(p)->t(p)where q=f(p);")) ≡ Err (At 41 Expected)
unfolding read
where_behind = refl

-- a condition stands from version 2 on; it has a column, a test that is a word, and a semicolon
earlier_only : read (with_items (codes "1") (codes "only a.x full;")) ≡ Err (At 26 Expected)
unfolding read
earlier_only = refl

only_a_set : read (with_items (codes "2") (codes "only a full;")) ≡ Err (At 33 Expected)
unfolding read
only_a_set = refl

without_a_test : read (with_items (codes "2") (codes "only a.x;")) ≡ Err (At 34 Expected)
unfolding read
without_a_test = refl

string_for_a_test : read (with_items (codes "2") (codes "only a.x \"full\";")) ≡ Err (At 35 Expected)
unfolding read
string_for_a_test = refl

only_is_open : read (with_items (codes "2") (codes "only a.x full")) ≡ Err (At 39 Ended)
unfolding read
only_is_open = refl

-- ---- first faults: what begins no token, and what the end of the text cuts

-- a byte that begins no token is told after tokens that can stand, and not after one that can't
no_character : read (codes "mapping 1;$") ≡ Err (At 10 Character)
unfolding read
no_character = refl

token_before_it : read (codes "mapping 1;mapping$") ≡ Err (At 10 Expected)
unfolding read
token_before_it = refl

-- and so behind a whole mapping
behind_the_mapping : read (with_items (codes "1") (codes "$")) ≡ Err (At 26 Character)
unfolding read
behind_the_mapping = refl

-- it says no mapping, though the tokens before that byte spell one
says_no_mapping : (m : MappingText) → ¬ IsMappingText (with_items (codes "1") (codes "$")) m
unfolding read
says_no_mapping m h = absurd (cc h.no_stop)

-- a string that is cut is told at the end of the text if a string can stand there, and else at its begin
cut_string : read (with_items (codes "1") (codes "line \"k")) ≡ Err (At 33 Ended)
unfolding read
cut_string = refl

no_string_there : read (codes "mapping 1;source{\"a") ≡ Err (At 17 Expected)
unfolding read
no_string_there = refl

-- one with a byte that can't stand in it is told at that byte, or at its begin
line_feed_in_string : read (with_items (codes "1") (codes "line \"k\n\"->t.u;")) ≡ Err (At 33 Character)
unfolding read
line_feed_in_string = refl

line_feed_in_none : read (codes "mapping 1;source{\"k\n\"") ≡ Err (At 17 Expected)
unfolding read
line_feed_in_none = refl

-- and so is an arrow
cut_arrow : read (with_items (codes "1") (codes "line a.x -")) ≡ Err (At 36 Ended)
unfolding read
cut_arrow = refl

no_arrow_there : read (codes "mapping 1;source{-") ≡ Err (At 17 Expected)
unfolding read
no_arrow_there = refl

-- ---- what may be answered

nothing_said : IsMappingText (codes "mapping 1;source{}target{}") (sets_alone 1 none none)
nothing_said = says (codes "mapping 1;source{}target{}") (sets_alone 1 none none) first_version

-- of a text without a fault want of memory alone is told
told_of_sound : (e : TextFault) → IsMappingFaultOrMemory (codes "mapping 1;source{}target{}") e → e ≡ Memory
told_of_sound e (inl m) = m
told_of_sound e (inr f) =
    absurd (never_said_and_faulty (codes "mapping 1;source{}target{}") (sets_alone 1 none none) e nothing_said f)

-- of a text that says a mapping no fault is answered, and of one with a fault no mapping
a_fault_for_a_mapping : ¬ AnswersMapping (codes "mapping 1;source{}target{}") (Err (At 0 Ended))
a_fault_for_a_mapping h = absurd (never (h (sets_alone 1 none none) nothing_said)) where
  never : ¬ Reads (Err (At 0 Ended)) (Ok (sets_alone 1 none none))
  never e = cc

a_mapping_for_a_fault : ¬ AnswersMappingFault [] (Ok (sets_alone 1 none none))
a_mapping_for_a_fault h = absurd (never (h (At 0 Ended) (faulty [] (At 0 Ended) empty_text))) where
  never : ¬ Reads (Ok (sets_alone 1 none none)) (Err (At 0 Ended))
  never e = cc
