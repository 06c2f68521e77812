-- The rules that a mapping text says can be written.
use Rattle.std.proofs.Common.{◌≡◌, ℕ, Bool, true, false, List, [], ◌∷◌, ◌++◌, Option, Some, None, cond, map, refl, sym, ap, ◌∙◌, subst}
use Rattle.std.specs.Prelude.{nat_eq}
use Rattle.std.specs.Cmp.Lexicographic.{pointwise, same_text}
use Rattle.dx_base.specs.Members.{◌∈◌, here, there, Each}
use Rattle.dx_base.proofs.Members.{from_map, in_left, in_right}
use Rattle.dx_base.proofs.Firsts.{first_none, two_none, each_none}
use Rattle.dx_model.specs.declared.rules.Cell.TheVariants.{Var, Ex, Lit}
use Rattle.dx_model.specs.declared.rules.Atom.{Atom}
use Rattle.dx_model.specs.declared.rules.Derived.{Derived}
use Rattle.dx_schema.specs.Forest.{Forest}
use Rattle.dx_schema.specs.Tables.{number_of_name}
use Rattle.dx_base.specs.Texts.{Text}
use Rattle.dx_schema.specs.Faults.{is_among}
use Rattle.dx_tokens.specs.declared.tokenizer.TokenKind.{TokenKind}
use Rattle.dx_tokens.specs.declared.tokenizer.TokenKind.TheVariants.{Word, Number, Str, Mark}
use Rattle.dx_tokens.specs.declared.scanner.Lexeme.{Lexeme}
use Rattle.dx_tokens.specs.declared.faults.TextFault.TheVariants.{At}
use Rattle.dx_tokens.specs.declared.faults.TextKind.TheVariants.{Unsafe}
use Rattle.dx_tokens.specs.Scan.{scan_of}
use Rattle.dx_tokens.specs.Lexing.{IsWord}
use Rattle.dx_grammar.specs.Readers.{Many, no_more, one_more}
use Rattle.dx_schema_text.specs.declared.texts.CellText.{CellText}
use Rattle.dx_schema_text.specs.declared.texts.CellText.TheVariants.{Name, Literal}
use Rattle.dx_schema_text.specs.declared.texts.AtomText.{AtomText}
use Rattle.dx_schema_text.specs.declared.texts.DerivedText.{DerivedText}
use Rattle.dx_schema_text.specs.declared.texts.RuleText.{RuleText}
use Rattle.dx_schema_text.specs.declared.texts.MappingText.{MappingText}
use Rattle.dx_schema_text.specs.declared.mapping.ItemText.{ItemText}
use Rattle.dx_schema_text.specs.Grammar.{is_string_kind}
use Rattle.dx_schema_text.specs.Reading.{rules_among}
use Rattle.dx_schema_text.specs.Spelling.{Comma, comma_then, SpellsCommaList, parted, SpellsCell, a_name, a_text, SpellsAtom, atom_of, SpellsDerived, derived_of, SpellsWhere, no_where, where_of, SpellsRule, rule_of, SpellsItem, a_line, a_rule, a_condition, SpellsMapping, mapping_of}
use Rattle.dx_schema_text.proofs.SpelledWords.{kind_word}
use Rattle.dx_funcs.specs.declared.conversion.Conversion.{Conversion}
use Rattle.dx_funcs.specs.Names.{first_named, conversion_name}
use Rattle.dx_funcs.specs.Offers.{IsOffer}
use Rattle.dx_funcs.proofs.Named.{found_listed, conversion_named}
use Rattle.dx_line_text.specs.Naming.{code_of}
use Rattle.dx_tgd_text.specs.Reading as reading
use Rattle.dx_tgd_text.proofs.Fits.{all_fit, all_offered}
use Rattle.dx_tgd_text.proofs.Written.{texts_have_whole_rules}
use Rattle.clio_rule_laws.specs.ReadBack.{IsStringText, HasStringTexts, IsWritable}
use Rattle.clio_rule_laws.specs.Laws.{SaidRulesAreWritable, SaidRulesAreReadAgain}
use Rattle.clio_rule_laws.proofs.LineScans.{IsRight, right_lexemes}
use Rattle.clio_rule_laws.proofs.Lines.{printed_lines_are_read}

-- ---- what the tokens of a rule say

-- a literal can stand in a string
abbrev IsRightCell : CellText → Type 0
IsRightCell (Name x place) = Unit {0}
IsRightCell (Literal t) = IsStringText t

-- each call is a word, and each literal of the conclusion can stand in a string
record IsRightRule (r : RuleText) : Type 0 where
  calls : Each r.derived (λ e. IsWord e.call)
  literals : Each r.conclusion (λ a. Each a.cells IsRightCell)

abbrev pub AreRight : List Lexeme → Type 0
AreRight xs = Each xs IsRight

pub kind_string : (k : TokenKind) → is_string_kind k ≡ true → k ≡ Str
kind_string Word e = absurd cc
kind_string Number e = absurd cc
kind_string Str e = refl
kind_string Mark e = absurd cc

module _ {A : Type 0} (R : A → List Lexeme → Type 0) (P : A → Type 0) (so : (a : A) (u : List Lexeme) → R a u → AreRight u → P a) where
  comma_so : (a : A) (u : List Lexeme) → Comma R a u → AreRight u → P a
  comma_so a _ (comma_then {u = u} comma is r) h = so a u r (λ x m. h x (there m))

  more_so : (list : List A) (u : List Lexeme) → Many (Comma R) list u → AreRight u → Each list P
  more_so _ _ no_more h x m = elim m [ ]
  more_so _ _ (one_more {a = a} {u = u} {v = v} r rest) h x (here e) = subst P e (comma_so a u r (λ y m. h y (in_left v m)))
  more_so _ _ (one_more {others = others} {u = u} {v = v} r rest) h x (there m) = more_so others v rest (λ y k. h y (in_right u k)) x m

  parted_so : (list : List A) (u : List Lexeme) → SpellsCommaList R list u → AreRight u → Each list P
  parted_so _ _ (parted {a = a} {u = u} {v = v} r rest) h x (here e) = subst P e (so a u r (λ y m. h y (in_left v m)))
  parted_so _ _ (parted {others = others} {u = u} {v = v} r rest) h x (there m) = more_so others v rest (λ y k. h y (in_right u k)) x m

cell_right : (strings : Bool) (c : CellText) (u : List Lexeme) → SpellsCell strings c u → AreRight u → IsRightCell c
cell_right strings _ _ (a_name w is) h = tt
cell_right strings _ _ (a_text s is) h = (h s (here refl)).1 (kind_string s.kind is)

atom_right : (strings : Bool) (a : AtomText) (u : List Lexeme) → SpellsAtom strings a u → AreRight u → Each a.cells IsRightCell
atom_right strings _ _ (atom_of {cs = cs} {u = u} s o c word opening cells closing) h = parted_so (SpellsCell strings) IsRightCell (cell_right strings) cs u cells (λ x m. h x (there (there (in_left (c ∷ []) m))))

derived_right : (d : DerivedText) (u : List Lexeme) → SpellsDerived d u → AreRight u → IsWord d.call
derived_right _ _ (derived_of n equal call o c named equals word opening args closing) h = (h call (there (there (here refl)))).0 (kind_word call.kind word)

where_right : (ds : List DerivedText) (u : List Lexeme) → SpellsWhere ds u → AreRight u → Each ds (λ e. IsWord e.call)
where_right _ _ no_where h = λ e m. elim m [ ]
where_right ds _ (where_of {u = u} k is p) h = parted_so SpellsDerived (λ e. IsWord e.call) derived_right ds u p (λ x m. h x (there m))

rule_right : (r : RuleText) (xs : List Lexeme) → SpellsRule r xs → AreRight xs → IsRightRule r
rule_right _ _ (rule_of {conclusion = conclusion} {ds = ds} {u = u} {v = v} {w = w} k arrow e keyword premise derived is some ending) h = record {
  calls = where_right ds v derived (λ x m. h x (there (in_right u (in_left (arrow ∷ (w ++ e ∷ [])) m))));
  literals = parted_so (SpellsAtom true) (λ a. Each a.cells IsRightCell) (atom_right true) conclusion w some (λ x m. h x (there (in_right u (in_right v (there (in_left (e ∷ []) m))))));
}

items_right : (conditions : Bool) (rest : List ItemText) (xs : List Lexeme) → Many (SpellsItem conditions) rest xs → AreRight xs → Each (rules_among rest) IsRightRule
items_right _ _ _ no_more h r m = elim m [ ]
items_right _ _ _ (one_more {others = others} {u = u} {v = v} (a_line line) rest) h r m = items_right _ others v rest (λ x k. h x (in_right u k)) r m
items_right _ _ _ (one_more {others = others} {u = u} {v = v} (a_condition only) rest) h r m = items_right _ others v rest (λ x k. h x (in_right u k)) r m
items_right _ _ _ (one_more {u = u} {v = v} (a_rule {r = s} rule) rest) h r (here e) = subst IsRightRule e (rule_right s u rule (λ x k. h x (in_left v k)))
items_right _ _ _ (one_more {others = others} {u = u} {v = v} (a_rule {r = s} rule) rest) h r (there k) = items_right _ others v rest (λ x i. h x (in_right u i)) r k

mapping_right : (levels : ℕ) (m : MappingText) (xs : List Lexeme) → SpellsMapping levels m xs → AreRight xs → Each m.rules IsRightRule
mapping_right levels _ _ (mapping_of {rest = rest} {u = u} {v = v} {w = w} k n e keyword version ending from to items) h = items_right _ rest w items (λ x m. h x (there (there (there (in_right u (in_right v m))))))

-- ---- literals

cell_literal : (known fresh : List Text) (c : CellText) (text : Text) → IsRightCell c → reading.cell_of known fresh c ≡ Lit text → IsStringText text
cell_literal known fresh (Literal u) text h e = let same : u ≡ text = cc e in subst IsStringText same h
cell_literal known fresh (Name x place) text h e = go (is_among x known) e
  where
    go : (b : Bool) → cond b (Var (number_of_name x known)) (Ex (number_of_name x fresh)) ≡ Lit text → IsStringText text
    go true k = absurd cc
    go false k = absurd cc

atoms_literals : (f : Forest) (known fresh : List Text) (atoms : List AtomText) → Each atoms (λ a. Each a.cells IsRightCell) → Each (reading.atoms_of_texts f known fresh atoms) HasStringTexts
atoms_literals f known fresh atoms h a m text k =
    let t = from_map (reading.atom_of_text f known fresh) atoms m in
    let among : Lit text ∈ map (reading.cell_of known fresh) t.0.cells = subst (λ (b : Atom). Lit text ∈ b.cells) (sym t.2) k in
    let c = from_map (reading.cell_of known fresh) t.0.cells among in
    cell_literal known fresh c.0 text (h t.0 t.1 c.0 c.1) c.2

-- ---- conversions

found_named : (list : List Conversion) (x : Text) (c : Conversion) → first_named list x ≡ Some c → c.name ≡ x
found_named [] x c e = absurd cc
found_named (k ∷ ks) x c e = go (pointwise nat_eq k.name x) refl (found_named ks x c) e
  where
    go : (b : Bool) → pointwise nat_eq k.name x ≡ b → (first_named ks x ≡ Some c → c.name ≡ x) → cond b (Some k) (first_named ks x) ≡ Some c → c.name ≡ x
    go true s later f = let is : k ≡ c = cc f in ap (λ (d : Conversion). d.name) (sym is) ∙ same_text k.name x (sym s)
    go false s later f = later f

call_found : (variables : List Text) (found : Option Conversion) (place : ℕ) (args : List CellText) → reading.derived_call_fault variables found place args ≡ None → (c : Conversion) × (found ≡ Some c)
call_found variables None place args e = absurd cc
call_found variables (Some c) place args e = (c, refl)

derived_found : (list : List Conversion) (variables known : List Text) (d : DerivedText) → reading.derived_fault list variables known d ≡ None → (c : Conversion) × (first_named list d.call ≡ Some c)
derived_found list variables known d e = go (is_among d.name known) e
  where
    go : (b : Bool) → cond b (Some (At d.place Unsafe)) (reading.derived_call_fault variables (first_named list d.call) d.call_place d.args) ≡ None → (c : Conversion) × (first_named list d.call ≡ Some c)
    go true k = absurd cc
    go false k = call_found variables (first_named list d.call) d.call_place d.args k

all_found : (list : List Conversion) (variables known : List Text) (ds : List DerivedText) → reading.derived_faults list variables known ds ≡ None → Each ds (λ d. (c : Conversion) × (first_named list d.call ≡ Some c))
all_found list variables known [] e d m = elim m [ ]
all_found list variables known (t ∷ ds) e d (here is) =
    let both = two_none (reading.derived_fault list variables known t) (reading.derived_faults list variables (known ++ t.name ∷ []) ds) e in
    subst (λ (s : DerivedText). (c : Conversion) × (first_named list s.call ≡ Some c)) is (derived_found list variables known t both.0)
all_found list variables known (t ∷ ds) e d (there k) =
    let both = two_none (reading.derived_fault list variables known t) (reading.derived_faults list variables (known ++ t.name ∷ []) ds) e in
    all_found list variables (known ++ t.name ∷ []) ds both.1 d k

-- the name that the code of a called conversion has is the word of the call
pub call_named : (list : List Conversion) (x : Text) (c : Conversion) → IsOffer list → first_named list x ≡ Some c → conversion_name list (code_of (first_named list x)) ≡ x
call_named list x c offer found =
    ap (λ (o : Option Conversion). conversion_name list (code_of o)) found
    ∙ sym (conversion_named list c c.code offer.codes (found_listed list x c found) refl)
    ∙ found_named list x c found

-- ---- rules

rule_writable : (source target : Forest) (list : List Conversion) (r : RuleText) → IsOffer list → IsRightRule r → reading.rule_fault source target list r ≡ None → IsWritable list (reading.rule_of_text source target list r)
rule_writable source target list r offer right no_fault = record {
  conversions = λ e m. conversions e m;
  literals = atoms_literals target (reading.known_of r) (reading.fresh_of r) r.conclusion right.literals;
}
  where
    derived_fine : reading.derived_faults list (reading.names_of_premise r) (reading.names_of_premise r) r.derived ≡ None
    derived_fine = (two_none (reading.derived_faults list (reading.names_of_premise r) (reading.names_of_premise r) r.derived) (reading.atoms_fault target r.conclusion) (first_none (reading.atoms_fault source r.premise) _ no_fault).1).0

    conversions : (e : Derived) → e ∈ map (reading.derived_of_text list (reading.names_of_premise r)) r.derived → IsWord (conversion_name list e.code)
    conversions e m =
        let t = from_map (reading.derived_of_text list (reading.names_of_premise r)) r.derived m in
        let c = all_found list (reading.names_of_premise r) (reading.names_of_premise r) r.derived derived_fine t.0 t.1 in
        let named : conversion_name list e.code ≡ t.0.call = ap (λ (d : Derived). conversion_name list d.code) (sym t.2) ∙ call_named list t.0.call c.0 offer c.1 in
        subst IsWord (sym named) (right.calls t.0 t.1)

pub said_rules_are_writable : SaidRulesAreWritable
said_rules_are_writable text m list r says offer among no_fault =
    rule_writable m.source m.target list r offer (mapping_right _ m (scan_of text).lexemes says.spelled (right_lexemes text says.no_stop) r among) no_fault

pub said_rules_are_read_again : SaidRulesAreReadAgain
said_rules_are_read_again text m list says from to offer narrow no_fault =
    let ds = reading.rules_of_texts m.source m.target list m.rules in
    printed_lines_are_read text m list ds says from to offer
    (all_fit m.source m.target list m.rules ds narrow refl no_fault (λ r k. (texts_have_whole_rules text m says r k).0))
    (all_offered m.source m.target list m.rules ds refl no_fault)
    (λ d k. (let r = from_map (reading.rule_of_text m.source m.target list) m.rules k in
    subst (IsWritable list) r.2 (said_rules_are_writable text m list r.0 says offer r.1 (each_none (reading.rule_fault m.source m.target list) m.rules no_fault r.0 r.1))))
