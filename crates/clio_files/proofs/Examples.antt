-- The files of records, documents and scripts, the summary, and what is said of verdicts and comparisons, on small
-- values.
use Rattle.std.proofs.Common.{◌≡◌, ℕ, List, [], ◌∷◌, ◌++◌, codes, length, map, refl}
use Rattle.std.specs.Fmt.{digits}
use Rattle.dx_base.specs.Texts.{Text}
use Rattle.dx_model.specs.declared.facts.Fact.{Fact}
use Rattle.dx_model.specs.declared.values.NullId.{NullId}
use Rattle.dx_model.specs.declared.values.Value.{Value}
use Rattle.dx_model.specs.declared.values.Value.TheVariants.{Const, Null}
use Rattle.dx_model.specs.declared.rules.Cell.{Cell}
use Rattle.dx_model.specs.declared.rules.Cell.TheVariants.{Var, Ex}
use Rattle.dx_model.specs.declared.rules.Rule.{Rule}
use Rattle.dx_model.specs.Values.{Rows}
use Rattle.dx_schema.specs.Forest.{Forest, bare_set, none, set}
use Rattle.dx_instance.specs.NullMaps.{ByNull}
use Rattle.dx_instance.specs.Stored.{TableRows}
use Rattle.dx_csv.specs.Print.{IsTableText}
use Rattle.dx_json.specs.Nesting.{IsNestedText}
use Rattle.dx_exchange.specs.declared.mode.Mode.{Mode}
use Rattle.dx_exchange.specs.declared.mode.Mode.TheVariants.{Core, Plain}
use Rattle.dx_judge.specs.declared.verdict.Verdict.{Verdict}
use Rattle.dx_judge.specs.declared.verdict.Verdict.TheVariants as verdicts
use Rattle.dx_judge.specs.declared.verdict.Why.TheVariants as whys
use Rattle.dx_compare.specs.declared.comparing.Answer.TheVariants as directions
use Rattle.clio_files.specs.Answers.{answers_sheet}
use Rattle.clio_files.specs.Comparisons.{AreComparedFiles, RefutingFiles, compared_text}
use Rattle.clio_files.specs.Files.{contents_of, summary_of}
use Rattle.clio_files.specs.Nested.{AreRootFiles}
use Rattle.clio_files.specs.Sheets.{PrintedFile, file_of, fold_sheet, nulls_sheet}
use Rattle.clio_files.specs.Texts.{script_told, texts_told}
use Rattle.clio_files.specs.Verdicts.{verdict_text}

-- a(x0, x1) -> p(x1, y0): of a place the text of x1 alone is kept
first : Rule
first = record {
  premise = record { table = 0; cells = Var 0 ∷ Var 1 ∷ [] } ∷ [];
  derived = [];
  conclusion = record { table = 0; cells = Var 1 ∷ Ex 0 ∷ [] } ∷ [];
}

-- a(x0, x1) -> p(x1, y0), q(x0, y0)
second : Rule
second = record {
  premise = record { table = 0; cells = Var 0 ∷ Var 1 ∷ [] } ∷ [];
  derived = [];
  conclusion = record { table = 0; cells = Var 1 ∷ Ex 0 ∷ [] } ∷ record { table = 1; cells = Var 0 ∷ Ex 0 ∷ [] } ∷ [];
}

-- the first rule has two places, the second one
rows : Rows
rows = ((codes "ann" ∷ []) ∷ (codes "?" ∷ []) ∷ []) ∷ ((codes "cs" ∷ codes "eve" ∷ []) ∷ []) ∷ []

abbrev null : ℕ → ℕ → ℕ → NullId
null rule var row = record { rule = rule; var = var; row = row }

-- a record for each exported variable of the null's rule, with the text of the null's place
nulls : nulls_sheet (first ∷ second ∷ []) rows (null 0 0 1 ∷ null 1 0 0 ∷ [])
    ≡ record {
      name = codes "nulls.csv";
      header = codes "null" ∷ codes "variable" ∷ codes "value" ∷ [];
      records = (codes "?0.0.1" ∷ codes "x1" ∷ codes "??" ∷ [])
          ∷ (codes "?1.0.0" ∷ codes "x0" ∷ codes "cs" ∷ []) ∷ (codes "?1.0.0" ∷ codes "x1" ∷ codes "eve" ∷ []) ∷ [];
    }
unfolding first second rows digits
nulls = refl

fold : fold_sheet (record { null = null 0 0 1; value = Const (codes "?") } ∷ record { null = null 1 0 0; value = Null (null 0 0 0) } ∷ [])
    ≡ record {
      name = codes "fold.csv";
      header = codes "null" ∷ codes "value" ∷ [];
      records = (codes "?0.0.1" ∷ codes "??" ∷ []) ∷ (codes "?1.0.0" ∷ codes "?0.0.0" ∷ []) ∷ [];
    }
unfolding digits
fold = refl

-- the header is not counted
three : (file_of (nulls_sheet (first ∷ second ∷ []) rows (null 0 0 1 ∷ null 1 0 0 ∷ []))).count ≡ 3
unfolding first second rows
three = refl

-- a line for each file, and the bytes in a row
two : List PrintedFile
two = record { name = codes "p.csv"; bytes = codes "a\n"; count = 12 } ∷ record { name = codes "q.csv"; bytes = codes "b\n"; count = 0 } ∷ []

summary : summary_of two ≡ codes "p.csv 12\nq.csv 0\n"
unfolding two digits
summary = refl

contents : contents_of two ≡ codes "a\nb\n"
unfolding two
contents = refl

-- of no rules there are two files of texts, with nothing in them
no_rules : texts_told none none [] Plain [] ≡ record { name = codes "rules.txt"; bytes = []; count = 0 } ∷ record { name = codes "script.sql"; bytes = []; count = 0 } ∷ []
no_rules = refl

-- ---- scripts: a(x0, x1) -> p(x0, y0) is covered by a(x0, x1) -> p(x0, x1)

abbrev pairs : Text → Forest
pairs name = set (bare_set name (codes "a" ∷ codes "b" ∷ [])) none none

abbrev rule_of : Cell → Rule
rule_of last = record {
  premise = record { table = 0; cells = Var 0 ∷ Var 1 ∷ [] } ∷ [];
  derived = [];
  conclusion = record { table = 0; cells = Var 0 ∷ last ∷ [] } ∷ [];
}

covered_rules : List Rule
covered_rules = rule_of (Ex 0) ∷ rule_of (Var 1) ∷ []

script_of_mode : Mode → PrintedFile
unfolding covered_rules digits
script_of_mode mode = script_told (pairs (codes "a")) (pairs (codes "p")) [] mode covered_rules

-- in core mode a step leaves out what is covered, in plain mode none does; the steps are counted
one_step_more : map (λ (m : Mode). (script_of_mode m).count) (Plain ∷ Core ∷ []) ≡ 5 ∷ 6 ∷ []
unfolding script_of_mode
one_step_more = refl

-- ---- documents: each root in order has one, which is named by it and counts its rows

abbrev roots_of_two : Forest
roots_of_two = set (bare_set (codes "town") (codes "name" ∷ [])) none
    (set (bare_set (codes "hall") (codes "size" ∷ [])) none none)

abbrev told : Text → Text → ℕ → PrintedFile
told name bytes count = record { name = name; bytes = bytes; count = count }

abbrev sizes : List TableRows
sizes = record { width = 1; rows = (Const (codes "x") ∷ []) ∷ [] }
    ∷ record { width = 1; rows = (Const (codes "6") ∷ []) ∷ (Const (codes "7") ∷ []) ∷ [] } ∷ []

both_roots : (first second : Text) → IsNestedText sizes roots_of_two 0 first → IsNestedText sizes roots_of_two 1 second
    → AreRootFiles roots_of_two sizes (0 ∷ 1 ∷ [])
    (told (codes "town.json") first 1 ∷ told (codes "hall.json") second 2 ∷ [])
both_roots first second f s = (
  record { name = refl; bytes = f; count = refl },
  (record { name = refl; bytes = s; count = refl }, tt),
)

-- ---- answers

-- columns count from 0, and texts are written as in tables
an_answer : answers_sheet 2 ((codes "ann" ∷ codes "?" ∷ []) ∷ [])
    ≡ record {
      name = codes "answers.csv";
      header = codes "c0" ∷ codes "c1" ∷ [];
      records = (codes "ann" ∷ codes "??" ∷ []) ∷ [];
    }
unfolding digits
an_answer = refl

-- ---- verdicts, as the manual has them

verdict : Verdict → Text
unfolding digits
verdict v = verdict_text roots_of_two v

no_rule : verdict (verdicts.NotSolution (whys.Rule 12 3)) ≡ codes "verdict not a solution: rule 12 place 3\n"
unfolding verdict
no_rule = refl

no_key : (left right : List Value) → verdict (verdicts.NotSolution (whys.Key 1 2 left right 0))
    ≡ codes "verdict not a solution: key 2 of table hall\n"
unfolding verdict
no_key left right = refl

no_link : (row : List Value) → verdict (verdicts.NotSolution (whys.Link 1 row 0))
    ≡ codes "verdict not a solution: link 0 of table hall\n"
unfolding verdict
no_link row = refl

solution : (other : List TableRows) → verdict (verdicts.Solution other) ≡ codes "verdict solution\n"
unfolding verdict
solution other = refl

universal : (m : ByNull) (missed : Fact) → verdict (verdicts.Universal m missed) ≡ codes "verdict universal\n"
unfolding verdict
universal m missed = refl

a_core : verdict verdicts.Core ≡ codes "verdict core\n"
unfolding verdict
a_core = refl

-- ---- comparisons

-- a line for each direction, forward first, and then the summary
compared : (I K : List TableRows)
    → compared_text (record { forward = directions.Implies; backward = directions.Refuted 10 I K }) two
    ≡ codes "forward yes\nbackward no 10\np.csv 12\nq.csv 0\n"
unfolding two digits
compared I K = refl

-- ---- the files of a comparison that is refuted in both directions: of each the source first, forward first

abbrev halls : Forest
halls = set (bare_set (codes "hall") (codes "size" ∷ [])) none none

abbrev seven : List TableRows
seven = record { width = 1; rows = (Const (codes "7") ∷ []) ∷ [] } ∷ []

abbrev no_size : List TableRows
no_size = record { width = 1; rows = [] } ∷ []

-- a file's name is what is in front and the table's, and its records are those under the header
module _ (one no_one : Text) (s : IsTableText (codes "size" ∷ []) ((Const (codes "7") ∷ []) ∷ []) one)
    (n : IsTableText (codes "size" ∷ []) [] no_one) where
  refuting : (direction : Text) → RefutingFiles direction halls halls seven no_size
      (told ((direction ++ codes "_source_") ++ codes "hall.csv") one (length s.sorted)
      ∷ told ((direction ++ codes "_target_") ++ codes "hall.csv") no_one (length n.sorted) ∷ [])
  refuting direction = record {
    sources = told ((direction ++ codes "_source_") ++ codes "hall.csv") one (length s.sorted) ∷ [];
    sources_are = (record { name = refl; bytes = s; count = refl }, tt);
    targets = told ((direction ++ codes "_target_") ++ codes "hall.csv") no_one (length n.sorted) ∷ [];
    targets_are = (record { name = refl; bytes = n; count = refl }, tt);
    is = refl;
  }

  both_directions : AreComparedFiles halls halls
      (record { forward = directions.Refuted 0 seven no_size; backward = directions.Refuted 1 seven no_size })
      (told (codes "forward_source_hall.csv") one (length s.sorted)
      ∷ told (codes "forward_target_hall.csv") no_one (length n.sorted)
      ∷ told (codes "backward_source_hall.csv") one (length s.sorted)
      ∷ told (codes "backward_target_hall.csv") no_one (length n.sorted)
      ∷ [])
  both_directions = record {
    forward = told (codes "forward_source_hall.csv") one (length s.sorted)
        ∷ told (codes "forward_target_hall.csv") no_one (length n.sorted) ∷ [];
    forward_are = refuting (codes "forward");
    backward = told (codes "backward_source_hall.csv") one (length s.sorted)
        ∷ told (codes "backward_target_hall.csv") no_one (length n.sorted) ∷ [];
    backward_are = refuting (codes "backward");
    is = refl;
  }
