-- The rules that the lines of a mapping text stand for can be written.
use Rattle.std.proofs.Common.{◌≡◌, ℕ, Bool, true, false, List, [], ◌∷◌, ◌++◌, Option, Some, None, cond, map, flat_map, refl, sym, ap, ◌∙◌, subst}
use Rattle.dx_base.specs.Members.{◌∈◌, here, there, Each}
use Rattle.dx_base.proofs.Members.{from_map, from_flat_map, in_left, in_right}
use Rattle.dx_base.proofs.Firsts.{two_none, each_none}
use Rattle.dx_model.specs.declared.rules.Cell.TheVariants.{Lit}
use Rattle.dx_model.specs.declared.rules.Atom.{Atom}
use Rattle.dx_model.specs.declared.rules.Derived.{Derived}
use Rattle.dx_schema.specs.Forest.{Forest}
use Rattle.dx_schema.specs.Tables.{model_tables}
use Rattle.dx_tokens.specs.declared.scanner.Lexeme.{Lexeme}
use Rattle.dx_tokens.specs.Scan.{scan_of}
use Rattle.dx_tokens.specs.Lexing.{IsWord}
use Rattle.dx_grammar.specs.Readers.{Many, no_more, one_more}
use Rattle.dx_schema_text.specs.declared.texts.PlaceText.{PlaceText}
use Rattle.dx_schema_text.specs.declared.texts.SourceText.{SourceText}
use Rattle.dx_schema_text.specs.declared.texts.SourceText.TheVariants as sources
use Rattle.dx_schema_text.specs.declared.texts.LineText.{LineText}
use Rattle.dx_schema_text.specs.declared.texts.MappingText.{MappingText}
use Rattle.dx_schema_text.specs.declared.mapping.ItemText.{ItemText}
use Rattle.dx_schema_text.specs.Reading.{lines_among}
use Rattle.dx_schema_text.specs.Spelling.{SpellsSource, a_literal, a_column, a_call, SpellsLine, line_of, SpellsItem, a_line, a_rule, a_condition, SpellsMapping, mapping_of}
use Rattle.dx_schema_text.proofs.SpelledWords.{kind_word}
use Rattle.dx_logical.specs.declared.relation.Occurrence.{Occurrence}
use Rattle.dx_logical.specs.declared.relation.Relation.{Relation}
use Rattle.dx_logical.specs.Unfolding.{variant_of}
use Rattle.dx_funcs.specs.declared.conversion.Conversion.{Conversion}
use Rattle.dx_funcs.specs.Names.{first_named, conversion_name}
use Rattle.dx_funcs.specs.Offers.{IsOffer}
use Rattle.dx_lines.specs.declared.line.Line.{Line}
use Rattle.dx_lines.specs.declared.line.Origin.{Origin}
use Rattle.dx_lines.specs.declared.line.Origin.TheVariants as origins
use Rattle.dx_lines.specs.declared.term.Term.{Term}
use Rattle.dx_lines.specs.declared.term.Term.TheVariants.{Var, Call}
use Rattle.dx_lines.specs.declared.candidate.Pick.{Pick}
use Rattle.dx_lines.specs.Ways.{ways}
use Rattle.dx_lines.specs.Rules.{atom_by, cell_by, cell_for, conversions, derived_by, left_over, literal_of, or_else, picked_term, reaches, rule_by, literal_text}
use Rattle.dx_lines.proofs.Sources.{from_kept}
use Rattle.dx_lines.proofs.Conversions.{from_conversions}
use Rattle.dx_ways.specs.Laws.{TermBy}
use Rattle.dx_ways.proofs.WaysAre.{ways_are}
use Rattle.dx_line_text.specs.Naming as naming
use Rattle.clio_rule_laws.specs.ReadBack.{IsStringText, HasStringTexts, IsWritable}
use Rattle.clio_rule_laws.specs.Laws.{LineRulesAreWritable}
use Rattle.clio_rule_laws.proofs.LineScans.{right_lexemes}
use Rattle.clio_rule_laws.proofs.Said.{AreRight, kind_string, call_named}

-- ---- what the tokens of lines say

-- a literal can stand in a string, and a call is a word
abbrev IsRightSource : SourceText → Type 0
IsRightSource (sources.Column p) = Unit {0}
IsRightSource (sources.Literal t) = IsStringText t
IsRightSource (sources.Call name place args) = IsWord name

source_right : (s : SourceText) (u : List Lexeme) → SpellsSource s u → AreRight u → IsRightSource s
source_right _ _ (a_literal s is) h = (h s (here refl)).1 (kind_string s.kind is)
source_right _ _ (a_column spells) h = tt
source_right _ _ (a_call n o c word opening args closing) h = (h n (here refl)).0 (kind_word n.kind word)

line_right : (l : LineText) (u : List Lexeme) → SpellsLine l u → AreRight u → IsRightSource l.source
line_right _ _ (line_of {from = from} {u = u} {v = v} k arrow e keyword source is target ending) h = source_right from u source (λ x m. h x (there (in_left (arrow ∷ (v ++ e ∷ [])) m)))

items_right : (conditions : Bool) (rest : List ItemText) (xs : List Lexeme) → Many (SpellsItem conditions) rest xs → AreRight xs → Each (lines_among rest) (λ l. IsRightSource l.source)
items_right _ _ _ no_more h l m = elim m [ ]
items_right _ _ _ (one_more {u = u} {v = v} (a_line {l = k} line) rest) h l (here e) = subst (λ (j : LineText). IsRightSource j.source) e (line_right k u line (λ x i. h x (in_left v i)))
items_right _ _ _ (one_more {others = others} {u = u} {v = v} (a_line line) rest) h l (there m) = items_right _ others v rest (λ x i. h x (in_right u i)) l m
items_right _ _ _ (one_more {others = others} {u = u} {v = v} (a_rule rule) rest) h l m = items_right _ others v rest (λ x i. h x (in_right u i)) l m
items_right _ _ _ (one_more {others = others} {u = u} {v = v} (a_condition only) rest) h l m = items_right _ others v rest (λ x i. h x (in_right u i)) l m

mapping_right : (levels : ℕ) (m : MappingText) (xs : List Lexeme) → SpellsMapping levels m xs → AreRight xs → Each m.lines (λ l. IsRightSource l.source)
mapping_right levels _ _ (mapping_of {rest = rest} {u = u} {v = v} {w = w} k n e keyword version ending from to items) h = items_right _ rest w items (λ x m. h x (there (there (there (in_right u (in_right v m))))))

-- ---- lines by numbers

-- a literal can stand in a string, and the name of a conversion is a word
abbrev IsWritableOrigin : List Conversion → Origin → Type 0
IsWritableOrigin list (origins.Column a) = Unit {0}
IsWritableOrigin list (origins.Literal t) = IsStringText t
IsWritableOrigin list (origins.Call code args) = IsWord (conversion_name list code)

call_found : (f : Forest) (found : Option Conversion) (place : ℕ) (args : List PlaceText) → naming.source_call_fault f found place args ≡ None → (c : Conversion) × (found ≡ Some c)
call_found f None place args e = absurd cc
call_found f (Some c) place args e = (c, refl)

origin_writable : (f : Forest) (list : List Conversion) (s : SourceText) → IsOffer list → IsRightSource s → naming.source_fault f list s ≡ None → IsWritableOrigin list (naming.origin_of f list s)
origin_writable f list (sources.Column p) offer right e = tt
origin_writable f list (sources.Literal t) offer right e = right
origin_writable f list (sources.Call name place args) offer right e =
    let c = call_found f (first_named list name) place args e in
    subst IsWord (sym (call_named list name c.0 offer c.1)) right

lines_writable : (source target : Forest) (list : List Conversion) (lines : List LineText) → IsOffer list → Each lines (λ l. IsRightSource l.source) → naming.lines_fault source target list lines ≡ None
    → Each (naming.lines_of source target list lines) (λ l. IsWritableOrigin list l.source)
lines_writable source target list lines offer right e l m =
    let t = from_map (naming.line_of_text source target list) lines m in
    let fine = each_none (naming.line_fault source target list) lines e t.0 t.1 in
    subst (λ (k : Line). IsWritableOrigin list k.source) t.2 (origin_writable source list t.0.source offer (right t.0 t.1) (two_none (naming.source_fault source list t.0.source) (naming.place_fault target t.0.target) fine).0)

-- ---- literals

-- the text of a literal line is that of one of the lines
literal_from : (lines : List Line) (Q : List Occurrence) (y : ℕ) (t : List ℕ) → literal_of lines Q y ≡ Some t → (l : Line) × (l ∈ lines) × (literal_text l.source ≡ Some t)
literal_from [] Q y t e = absurd cc
literal_from (l ∷ lines) Q y t e = go (reaches Q l y) (literal_text l.source) refl e (literal_from lines Q y t)
  where
    later : ((k : Line) × (k ∈ lines) × (literal_text k.source ≡ Some t)) → (k : Line) × (k ∈ (l ∷ lines)) × (literal_text k.source ≡ Some t)
    later (k, m, is) = (k, there m, is)

    go : (b : Bool) (o : Option (List ℕ)) → literal_text l.source ≡ o → cond b (or_else o (literal_of lines Q y)) (literal_of lines Q y) ≡ Some t
        → (literal_of lines Q y ≡ Some t → (k : Line) × (k ∈ lines) × (literal_text k.source ≡ Some t)) → (k : Line) × (k ∈ (l ∷ lines)) × (literal_text k.source ≡ Some t)
    go true (Some u) is f next = (l, here refl, is ∙ f)
    go true None is f next = later (next f)
    go false o is f next = later (next f)

-- a cell that is a literal is the text of a literal line
cell_literal : (n : ℕ) (calls : List Term) (left : List ℕ) (p : Option Term) (l : Option (List ℕ)) (y : ℕ) (t : List ℕ) → cell_by n calls left p l y ≡ Lit t → l ≡ Some t
cell_literal n calls left (Some (Var x)) l y t e = absurd cc
cell_literal n calls left (Some (Call c xs)) l y t e = absurd cc
cell_literal n calls left None (Some u) y t e = ap Some (cc e)
cell_literal n calls left None None y t e = absurd cc

text_writable : (list : List Conversion) (o : Origin) (t : List ℕ) → IsWritableOrigin list o → literal_text o ≡ Some t → IsStringText t
text_writable list (origins.Column a) t w e = absurd cc
text_writable list (origins.Literal u) t w e = let same : u ≡ t = cc e in subst IsStringText same w
text_writable list (origins.Call code args) t w e = absurd cc

-- ---- conversions

-- a derived variable is that of a conversion
derived_call : (t : Term) (x : Derived) → x ∈ derived_by t → (xs : List ℕ) × (t ≡ Call x.code xs)
derived_call (Var y) x m = elim m [ ]
derived_call (Call c xs) x (here e) = (xs, ap (λ (k : ℕ). Call k xs) (ap (λ (d : Derived). d.code) e))
derived_call (Call c xs) x (there m) = elim m [ ]

-- the name of a way's conversion is a word
term_writable : (list : List Conversion) (f : ℕ → Occurrence) (o : Origin) (c : ℕ) (xs : List ℕ) → IsWritableOrigin list o → TermBy f o (Call c xs) → IsWord (conversion_name list c)
term_writable list f (origins.Column a) c xs w by = absurd cc
term_writable list f (origins.Literal t) c xs w by = absurd by
term_writable list f (origins.Call code args) c xs w by = let same : code ≡ c = cc in subst (λ (k : ℕ). IsWord (conversion_name list k)) same w

way_writable : (list : List Conversion) (lines : List Line) (P Q : List Occurrence) (k : Pick) (c : ℕ) (xs : List ℕ) → Each lines (λ l. IsWritableOrigin list l.source) → k ∈ ways lines P Q → k.term ≡ Call c xs
    → IsWord (conversion_name list c)
way_writable list lines P Q k c xs writable m is =
    let w = (ways_are lines P Q k).0 m in
    term_writable list w.choice w.line.source c xs (writable w.line w.is_line) (subst (TermBy w.choice w.line.source) is w.term)

-- ---- rules

-- the rule of picks that are ways can be written
rule_writable : (list : List Conversion) (lines : List Line) (S T : Relation) (picks : List Pick) → Each lines (λ l. IsWritableOrigin list l.source) → Each picks (λ k. k ∈ ways lines S.occurrences T.occurrences)
    → IsWritable list (rule_by lines S T picks)
rule_writable list lines S T picks writable are = record { conversions = λ e m. conversion e m; literals = λ a m t k. literal a m t k }
  where
    conversion : (e : Derived) → e ∈ flat_map derived_by (conversions picks T.occurrences) → IsWord (conversion_name list e.code)
    conversion e m =
        let t = from_flat_map derived_by (conversions picks T.occurrences) m in
        let d = derived_call t.0 e t.2 in
        let k = from_conversions picks T.occurrences t.0 t.1 in
        way_writable list lines S.occurrences T.occurrences k.0 e.code d.0 writable (are k.0 k.1) (k.2 ∙ d.1)

    literal : (a : Atom) → a ∈ map (atom_by (cell_for lines S T.occurrences picks)) T.occurrences → HasStringTexts a
    literal a m t k =
        let o = from_map (atom_by (cell_for lines S T.occurrences picks)) T.occurrences m in
        let among : Lit t ∈ map (cell_for lines S T.occurrences picks) o.0.variables = subst (λ (b : Atom). Lit t ∈ b.cells) (sym o.2) k in
        let y = from_map (cell_for lines S T.occurrences picks) o.0.variables among in
        let is = cell_literal S.variables (conversions picks T.occurrences) (left_over lines picks T.occurrences) (picked_term picks y.0) (literal_of lines T.occurrences y.0) y.0 t y.2 in
        let l = literal_from lines T.occurrences y.0 t is in
        text_writable list l.0.source t (writable l.0 l.1) l.2

pub line_rules_are_writable : LineRulesAreWritable
line_rules_are_writable text m list says offer no_fault d among =
    let lines = naming.lines_of m.source m.target list m.lines in
    let writable : Each lines (λ l. IsWritableOrigin list l.source) =
    lines_writable m.source m.target list m.lines offer (mapping_right _ m (scan_of text).lexemes says.spelled (right_lexemes text says.no_stop)) no_fault in
    let k = from_kept lines (model_tables m.source) (model_tables m.target) d among in
    subst (IsWritable list) k.2 (rule_writable list lines (variant_of (model_tables m.source) k.0.source k.0.source_variant) (variant_of (model_tables m.target) k.0.target k.0.target_variant) k.0.picks
    writable k.1.picks)
