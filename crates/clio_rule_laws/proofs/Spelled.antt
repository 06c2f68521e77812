-- Printed rules are tokens that spell rules.
use Rattle.std.proofs.Common.{◌≡◌, ℕ, suc, ◌<◌, ◌^◌, Bool, true, false, List, [], ◌∷◌, ◌++◌, map, length, refl, sym, ap, subst, append_assoc, arith}
use Rattle.std.specs.Prelude.{codes, flat_map}
use Rattle.dx_base.specs.Members.{here, there, Each}
use Rattle.dx_model.specs.declared.rules.Cell.{Cell}
use Rattle.dx_model.specs.declared.rules.Cell.TheVariants.{Var, Ex, Lit}
use Rattle.dx_model.specs.declared.rules.Atom.{Atom}
use Rattle.dx_model.specs.declared.rules.Derived.{Derived}
use Rattle.dx_model.specs.declared.rules.Rule.{Rule}
use Rattle.dx_model.specs.Rules.{after_cells, cells_of}
use Rattle.dx_schema.specs.Forest.{Forest}
use Rattle.dx_tokens.specs.declared.tokenizer.TokenKind.TheVariants.{Word, Str}
use Rattle.dx_tokens.specs.declared.scanner.Lexeme.{Lexeme}
use Rattle.dx_tokens.specs.Tokens.{is_blank}
use Rattle.dx_tokens.specs.Lexing as lexing
use Rattle.dx_tokens.specs.Quoted.{quoted}
use Rattle.dx_tokens.proofs.Quotes.{texts_are_quoted}
use Rattle.dx_grammar.specs.Readers.{Many, no_more, one_more}
use Rattle.dx_schema_text.specs.Reading.{name_cell, literal_cell}
use Rattle.dx_schema_text.specs.Spelling.{Comma, comma_then, SpellsCommaList, parted, SpellsCell, a_name, a_text, SpellsAtom, atom_of, SpellsDerived, derived_of, SpellsWhere, no_where, where_of, SpellsRule, rule_of}
use Rattle.dx_schema_text.proofs.PrintScans.{Reads, EndsWord, lexeme, no_token, token_then, word_then, mark_then, blanks_then, both_then, told_as, each_passes, a_word}
use Rattle.dx_funcs.specs.declared.conversion.Conversion.{Conversion}
use Rattle.dx_funcs.specs.Names.{conversion_name}
use Rattle.dx_rule_text.specs.Printed.{separated, variable_text, cell_text, atom_text, derived_text, derived_texts, where_text, rule_text, table_name}
use Rattle.dx_base.specs.Texts.{Text}
use Rattle.clio_rule_laws.specs.ReadBack.{IsStringText}
use Rattle.clio_rule_laws.proofs.Says.{Paired, no_pair, one_pair, existential_text, SaysCell, SaysVariable, SaysAtom, Counted, counted, SaysDerived, SaysRule}
use Rattle.clio_rule_laws.proofs.VariableTexts.{variable_word, existential_word}

-- the tokens spell a text that says what was printed
pub record Spelled {A B : Type 0} (Says : A → B → Type 0) (Spells : B → List Lexeme → Type 0) (a : A) (u : List Lexeme) : Type 0 where
  pub text : B
  pub says : Says a text
  pub spells : Spells text u

-- what f prints of a stands at each place, before what ends a word, as tokens that spell it
abbrev ReadsEverywhere : {A B : Type 0} → (A → Text) → (A → B → Type 0) → (B → List Lexeme → Type 0) → A → Type 0
ReadsEverywhere f Says Spells a = (place : ℕ) (more : List ℕ) → EndsWord more → Reads (Spelled Says Spells a) place (f a ++ more) more

-- ---- lists

module _ {A B : Type 0} (f : A → Text) (Says : A → B → Type 0) (Spells : B → List Lexeme → Type 0) where
  abbrev behind_commas : List A → Text
  behind_commas xs = flat_map (λ other. codes ", " ++ other) (map f xs)

  -- no word goes on before a comma, nor before what ends a word
  ends_before : (xs : List A) (more : List ℕ) → EndsWord more → EndsWord (behind_commas xs ++ more)
  ends_before [] more ends = ends
  ends_before (x ∷ xs) more ends = refl

  others_read : (xs : List A) (place : ℕ) (more : List ℕ) → Each xs (ReadsEverywhere f Says Spells) → EndsWord more → Reads (Spelled (Paired Says) (Many (Comma Spells)) xs) place (behind_commas xs ++ more) more
  others_read [] place more each ends = no_token _ place more (record { text = []; says = no_pair; spells = no_more })
  others_read (x ∷ xs) place more each ends =
      subst (λ (text : List ℕ). Reads (Spelled (Paired Says) (Many (Comma Spells)) (x ∷ xs)) place (44 ∷ 32 ∷ text) more) (sym (append_assoc (f x) (behind_commas xs) more))
      (mark_then _ (codes ",") _ more place refl
      (blanks_then _ (codes " ") _ more _ (each_passes is_blank (codes " ") refl)
      (both_then (Spelled Says Spells x) _ _ (behind_commas xs ++ more) more _ (each x (here refl) _ (behind_commas xs ++ more) (ends_before xs more ends)) (λ u after h.
      told_as (Spelled (Paired Says) (Many (Comma Spells)) xs) _ _ more after (others_read xs after more (λ y m. each y (there m)) ends) (λ v k.
      record { text = h.text ∷ k.text; says = one_pair h.says k.says; spells = one_more (comma_then _ refl h.spells) k.spells })))))

  pub separated_read : (xs : List A) (place : ℕ) (more : List ℕ) → 0 < length xs → Each xs (ReadsEverywhere f Says Spells) → EndsWord more → Reads (Spelled (Paired Says) (SpellsCommaList Spells) xs) place (separated (map f xs) ++ more) more
  separated_read [] place more some each ends = absurd (omega arith)
  separated_read (x ∷ xs) place more some each ends =
      subst (λ (text : List ℕ). Reads (Spelled (Paired Says) (SpellsCommaList Spells) (x ∷ xs)) place text more) (sym (append_assoc (f x) (behind_commas xs) more))
      (both_then (Spelled Says Spells x) _ _ (behind_commas xs ++ more) more _ (each x (here refl) _ (behind_commas xs ++ more) (ends_before xs more ends)) (λ u after h.
      told_as (Spelled (Paired Says) (Many (Comma Spells)) xs) _ _ more after (others_read xs after more (λ y m. each y (there m)) ends) (λ v k.
      record { text = h.text ∷ k.text; says = one_pair h.says k.says; spells = parted h.spells k.spells })))

-- ---- cells

-- the cell can be written where strings may stand or not
abbrev pub CanStand : Bool → Cell → Type 0
CanStand strings (Var n) = n < 2 ^ 64
CanStand strings (Ex n) = n < 2 ^ 64
CanStand strings (Lit t) = (strings ≡ true) × IsStringText t

name_read : (strings : Bool) (c : Cell) (w : List ℕ) (place : ℕ) (more : List ℕ) → lexing.IsWord w → EndsWord more → SaysCell c (name_cell (lexeme place Word w)) → Reads (Spelled SaysCell (SpellsCell strings) c) place (w ++ more) more
name_read strings c w place more word ends says = word_then _ w more more place word ends (no_token _ _ more (record { text = name_cell (lexeme place Word w); says = says; spells = a_name _ refl }))

pub cell_read : (strings : Bool) (c : Cell) → CanStand strings c → ReadsEverywhere cell_text SaysCell (SpellsCell strings) c
cell_read strings (Var n) can place more ends = name_read strings (Var n) (variable_text n) place more (variable_word n can) ends refl
cell_read strings (Ex n) can place more ends = name_read strings (Ex n) (existential_text n) place more (existential_word n can) ends refl
cell_read false (Lit t) can place more ends = absurd (cc can.0)
cell_read true (Lit t) can place more ends =
    let q = texts_are_quoted t can.1.0 can.1.1 in
    token_then _ Str (quoted t) more more place q.string tt (no_token _ _ more (record { text = literal_cell (lexeme place Str (quoted t)); says = q.says; spells = a_text _ refl }))

variable_read : (n : ℕ) → n < 2 ^ 64 → ReadsEverywhere variable_text SaysVariable (SpellsCell false) n
variable_read n lt place more ends = word_then _ (variable_text n) more more place (variable_word n lt) ends (no_token _ _ more (record { text = name_cell (lexeme place Word (variable_text n)); says = refl; spells = a_name _ refl }))

-- ---- atoms

-- an atom can be written where strings may stand or not
pub record CanBeAtom (strings : Bool) (name : ℕ → Text) (a : Atom) : Type 0 where
  pub word : lexing.IsWord (name a.table)
  pub some_cell : 0 < length a.cells
  pub cells : Each a.cells (CanStand strings)

atom_flat : (name : ℕ → Text) (a : Atom) (more : List ℕ) → atom_text name a ++ more ≡ name a.table ++ (codes "(" ++ (separated (map cell_text a.cells) ++ (codes ")" ++ more)))
atom_flat name a more = simp append_assoc

pub atom_read : (strings : Bool) (name : ℕ → Text) (a : Atom) → CanBeAtom strings name a → ReadsEverywhere (atom_text name) (SaysAtom name) (SpellsAtom strings) a
atom_read strings name a can place more ends =
    subst (λ (text : List ℕ). Reads (Spelled (SaysAtom name) (SpellsAtom strings) a) place text more) (sym (atom_flat name a more))
    (word_then _ (name a.table) _ more place can.word refl
    (mark_then _ (codes "(") _ more _ refl
    (both_then (Spelled (Paired SaysCell) (SpellsCommaList (SpellsCell strings)) a.cells) _ _ (codes ")" ++ more) more _
    (separated_read cell_text SaysCell (SpellsCell strings) a.cells _ (codes ")" ++ more) can.some_cell (λ c m. cell_read strings c (can.cells c m)) refl) (λ u after h.
    mark_then _ (codes ")") more more _ refl
    (no_token _ _ more (record {
      text = record { set = name a.table; place = place; cells = h.text };
      says = record { set = refl; cells = h.says };
      spells = atom_of (lexeme place Word (name a.table)) _ _ refl refl h.spells refl;
    }))))))

pub atoms_read : (strings : Bool) (name : ℕ → Text) (atoms : List Atom) (place : ℕ) (more : List ℕ) → 0 < length atoms → Each atoms (CanBeAtom strings name) → EndsWord more
    → Reads (Spelled (Paired (SaysAtom name)) (SpellsCommaList (SpellsAtom strings)) atoms) place (separated (map (atom_text name) atoms) ++ more) more
atoms_read strings name atoms place more some can ends = separated_read (atom_text name) (SaysAtom name) (SpellsAtom strings) atoms place more some (λ a m. atom_read strings name a (can a m)) ends

-- ---- derived variables

-- a derived variable can be written
pub record CanBeDerived (name : ℕ → Text) (d : Counted) : Type 0 where
  pub number : d.number < 2 ^ 64
  pub word : lexing.IsWord (name d.derived.code)
  pub some_argument : 0 < length d.derived.args
  pub args : Each d.derived.args (λ n. n < 2 ^ 64)

abbrev counted_text : (ℕ → Text) → Counted → Text
counted_text name d = derived_text name d.number d.derived

derived_flat : (name : ℕ → Text) (d : Counted) (more : List ℕ)
    → counted_text name d ++ more ≡ variable_text d.number ++ (codes " = " ++ (name d.derived.code ++ (codes "(" ++ (separated (map variable_text d.derived.args) ++ (codes ")" ++ more)))))
derived_flat name d more = simp append_assoc

derived_read : (name : ℕ → Text) (d : Counted) → CanBeDerived name d → ReadsEverywhere (counted_text name) (SaysDerived name) SpellsDerived d
derived_read name d can place more ends =
    subst (λ (text : List ℕ). Reads (Spelled (SaysDerived name) SpellsDerived d) place text more) (sym (derived_flat name d more))
    (word_then _ (variable_text d.number) _ more place (variable_word d.number can.number) refl
    (blanks_then _ (codes " ") _ more _ (each_passes is_blank (codes " ") refl)
    (mark_then _ (codes "=") _ more _ refl
    (blanks_then _ (codes " ") _ more _ (each_passes is_blank (codes " ") refl)
    (word_then _ (name d.derived.code) _ more _ can.word refl
    (mark_then _ (codes "(") _ more _ refl
    (both_then (Spelled (Paired SaysVariable) (SpellsCommaList (SpellsCell false)) d.derived.args) _ _ (codes ")" ++ more) more _
    (separated_read variable_text SaysVariable (SpellsCell false) d.derived.args _ (codes ")" ++ more) can.some_argument (λ n m. variable_read n (can.args n m)) refl) (λ u after h.
    mark_then _ (codes ")") more more _ refl
    (no_token _ _ more (record {
      text = record { name = variable_text d.number; place = place; call = name d.derived.code; call_place = _; args = h.text };
      says = record { variable = refl; call = refl; args = h.says };
      spells = derived_of (lexeme place Word (variable_text d.number)) _ (lexeme _ Word (name d.derived.code)) _ _ refl refl refl refl h.spells refl;
    }))))))))))

counted_texts : (name : ℕ → Text) (n : ℕ) (ds : List Derived) → derived_texts name n ds ≡ map (counted_text name) (counted n ds)
counted_texts name n [] = refl
counted_texts name n (d ∷ ds) = ap (λ (texts : List Text). derived_text name n d ∷ texts) (counted_texts name (suc n) ds)

-- no word goes on before `where`, nor before the arrow
ends_before_where : (name : ℕ → Text) (n : ℕ) (ds : List Derived) (more : List ℕ) → EndsWord more → EndsWord (where_text name n ds ++ more)
ends_before_where name n [] more ends = ends
ends_before_where name n (d ∷ ds) more ends = refl

pub where_read : (name : ℕ → Text) (n : ℕ) (ds : List Derived) (place : ℕ) (more : List ℕ) → Each (counted n ds) (CanBeDerived name) → EndsWord more
    → Reads (Spelled (Paired (SaysDerived name)) SpellsWhere (counted n ds)) place (where_text name n ds ++ more) more
where_read name n [] place more can ends = no_token _ place more (record { text = []; says = no_pair; spells = no_where })
where_read name n (d ∷ ds) place more can ends =
    subst (λ (texts : List Text). Reads (Spelled (Paired (SaysDerived name)) SpellsWhere (counted n (d ∷ ds))) place ((codes " where " ++ separated texts) ++ more) more) (sym (counted_texts name n (d ∷ ds)))
    (blanks_then _ (codes " ") _ more place (each_passes is_blank (codes " ") refl)
    (word_then _ (codes "where") _ more _ (a_word (codes "where") refl) refl
    (blanks_then _ (codes " ") _ more _ (each_passes is_blank (codes " ") refl)
    (told_as (Spelled (Paired (SaysDerived name)) (SpellsCommaList SpellsDerived) (counted n (d ∷ ds))) _ _ more _
    (separated_read (counted_text name) (SaysDerived name) SpellsDerived (counted n (d ∷ ds)) _ more (omega arith) (λ c m. derived_read name c (can c m)) ends) (λ u h.
    record { text = h.text; says = h.says; spells = where_of _ refl h.spells })))))

-- ---- rules

-- a rule can be written
pub record CanBeRule (source target : Forest) (list : List Conversion) (d : Rule) : Type 0 where
  pub some_premise : 0 < length d.premise
  pub premise : Each d.premise (CanBeAtom false (table_name source))
  pub derived : Each (counted (after_cells (cells_of d.premise)) d.derived) (CanBeDerived (conversion_name list))
  pub some_conclusion : 0 < length d.conclusion
  pub conclusion : Each d.conclusion (CanBeAtom true (table_name target))

rule_flat : (first from wheres to more : List ℕ) → (first ++ (from ++ (wheres ++ (codes " -> " ++ (to ++ codes ";"))))) ++ more ≡ first ++ (from ++ (wheres ++ (codes " -> " ++ (to ++ (codes ";" ++ more)))))
rule_flat first from wheres to more = simp append_assoc

-- a printed rule is tokens that spell a rule with its words, whatever stands after it
pub rule_read : (source target : Forest) (list : List Conversion) (d : Rule) (place : ℕ) (more : List ℕ) → CanBeRule source target list d
    → Reads (Spelled (SaysRule source target list) SpellsRule d) place (rule_text source target list d ++ more) more
rule_read source target list d place more can =
    let from = separated (map (atom_text (table_name source)) d.premise) in
    let wheres = where_text (conversion_name list) (after_cells (cells_of d.premise)) d.derived in
    let to = separated (map (atom_text (table_name target)) d.conclusion) in
    let behind_to : List ℕ = codes ";" ++ more in
    let behind_wheres : List ℕ = codes " -> " ++ (to ++ behind_to) in
    subst (λ (text : List ℕ). Reads (Spelled (SaysRule source target list) SpellsRule d) place text more) (sym (rule_flat (codes "rule ") from wheres to more))
    (word_then _ (codes "rule") _ more place (a_word (codes "rule") refl) refl
    (blanks_then _ (codes " ") _ more _ (each_passes is_blank (codes " ") refl)
    (both_then (Spelled (Paired (SaysAtom (table_name source))) (SpellsCommaList (SpellsAtom false)) d.premise) _ _ (wheres ++ behind_wheres) more _
    (atoms_read false (table_name source) d.premise _ (wheres ++ behind_wheres) can.some_premise can.premise (ends_before_where (conversion_name list) (after_cells (cells_of d.premise)) d.derived behind_wheres refl)) (λ u after h.
    both_then (Spelled (Paired (SaysDerived (conversion_name list))) SpellsWhere (counted (after_cells (cells_of d.premise)) d.derived)) _ _ behind_wheres more _
    (where_read (conversion_name list) (after_cells (cells_of d.premise)) d.derived after behind_wheres can.derived refl) (λ v behind g.
    blanks_then _ (codes " ") _ more _ (each_passes is_blank (codes " ") refl)
    (mark_then _ (codes "->") _ more _ refl
    (blanks_then _ (codes " ") _ more _ (each_passes is_blank (codes " ") refl)
    (both_then (Spelled (Paired (SaysAtom (table_name target))) (SpellsCommaList (SpellsAtom true)) d.conclusion) _ _ behind_to more _
    (atoms_read true (table_name target) d.conclusion _ behind_to can.some_conclusion can.conclusion refl) (λ w last k.
    mark_then _ (codes ";") more more _ refl
    (no_token _ _ more (record {
      text = record { premise = h.text; derived = g.text; conclusion = k.text };
      says = record { premise = h.says; derived = g.says; conclusion = k.says };
      spells = rule_of _ _ _ refl h.spells g.spells refl k.spells refl;
    })))))))))))
