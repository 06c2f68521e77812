-- Files of records: what nulls stand for, and what becomes of them.
use Rattle.std.specs.Prelude.{◌≡◌, ◌↔◌, ℕ, List, [], ◌∷◌, length, map, codes, slice_index_or}
use Rattle.std.specs.List.{flat_map}
use Rattle.dx_base.specs.Members.{◌∈◌}
use Rattle.dx_base.specs.Texts.{Text}
use Rattle.dx_model.specs.declared.values.NullId.{NullId}
use Rattle.dx_model.specs.declared.values.Value.TheVariants.{Null}
use Rattle.dx_model.specs.declared.facts.Fact.{Fact}
use Rattle.dx_model.specs.declared.facts.NullPair.{NullPair}
use Rattle.dx_model.specs.declared.rules.Rule.{Rule}
use Rattle.dx_model.specs.Values.{NullsAscend, Rows, Tuple}
use Rattle.dx_model.specs.Instances.{values}
use Rattle.dx_model.specs.Rules.{exported}
use Rattle.dx_rule_text.specs.Printed.{variable_text}
use Rattle.dx_instance.specs.ValueText.{const_text, null_text, value_text_of}
use Rattle.dx_csv.specs.Print.{records_text}
use Rattle.dx_tgd.specs.Placed.{NamesPlace}

-- a file as it is reported: its name, its bytes and its count
pub record PrintedFile : Type 0 where
  pub name : Text
  pub bytes : List ℕ
  pub count : ℕ

-- a file of records: its name, its header and the records under it
pub record Sheet : Type 0 where
  pub name : Text
  pub header : List Text
  pub records : List (List Text)

-- the file: each record as csv writes it, the header first; the records are counted
abbrev pub file_of : Sheet → PrintedFile
file_of s = record { name = s.name; bytes = records_text (s.header ∷ s.records); count = length s.records }

-- the names of the exported variables of a rule
abbrev pub exported_names : Rule → List Text
exported_names d = map variable_text (exported d)

-- a record for each variable: the null, the variable's name, and the text that the variable has at the null's place
abbrev pub term_records : NullId → List Text → Tuple → List (List Text)
term_records n [] texts = []
term_records n (x ∷ xs) [] = []
term_records n (x ∷ xs) (t ∷ ts) = (null_text n ∷ x ∷ const_text t ∷ []) ∷ term_records n xs ts

-- the rule of a null, and the texts of the place of a null
abbrev pub rule_of_null : List Rule → NullId → Rule
rule_of_null R n = slice_index_or R n.rule (record { premise = []; derived = []; conclusion = [] })

abbrev pub null_texts : Rows → NullId → Tuple
null_texts rows n = slice_index_or (slice_index_or rows n.rule []) n.row []

-- the null names a rule and a place of it, and at this place there is a text for each exported variable of the rule
pub record HasTexts (R : List Rule) (rows : Rows) (n : NullId) : Type 0 where
  pub place : NamesPlace R rows n
  pub wide : length (null_texts rows n) ≡ length (exported (rule_of_null R n))

-- what each null stands for: its rule and variable are in its name, and these are the exported values of its place
abbrev pub nulls_sheet : List Rule → Rows → List NullId → Sheet
nulls_sheet R rows ns = record {
  name = codes "nulls.csv";
  header = codes "null" ∷ codes "variable" ∷ codes "value" ∷ [];
  records = flat_map (λ n. term_records n (exported_names (rule_of_null R n)) (null_texts rows n)) ns;
}

-- what each null that the fold lists becomes
abbrev pub fold_sheet : List NullPair → Sheet
fold_sheet pairs = record {
  name = codes "fold.csv";
  header = codes "null" ∷ codes "value" ∷ [];
  records = map (λ (p : NullPair). null_text p.null ∷ value_text_of p.value ∷ []) pairs;
}

-- the nulls of an instance, ascending
pub record AreTargetNulls (T : List Fact) (ns : List NullId) : Type 0 where
  pub ascend : NullsAscend ns
  pub exact : (n : NullId) → (n ∈ ns) ↔ (Null n ∈ values T)
