-- The rules of a mapping text are as the grammar has them, and no larger than the text.
use Rattle.std.proofs.Common.{◌≡◌, inl, inr, ℕ, ◌+◌, ◌<◌, ◌≤◌, List, [], ◌∷◌, ◌++◌, Bool, true, false, length, refl, subst, arith, length-append}
use Rattle.dx_tokens.specs.declared.scanner.Lexeme.{Lexeme}
use Rattle.dx_tokens.proofs.Few.{lexemes_few}
use Rattle.dx_grammar.specs.Readers.{Many, no_more, one_more}
use Rattle.dx_base.specs.Members.{◌∈◌, here, there, Each}
use Rattle.dx_base.proofs.Members.{from_append}
use Rattle.dx_schema_text.specs.declared.texts.CellText.{CellText}
use Rattle.dx_schema_text.specs.declared.texts.AtomText.{AtomText}
use Rattle.dx_schema_text.specs.declared.texts.DerivedText.{DerivedText}
use Rattle.dx_schema_text.specs.declared.texts.RuleText.{RuleText}
use Rattle.dx_schema_text.specs.declared.texts.MappingText.{MappingText}
use Rattle.dx_schema_text.specs.declared.mapping.ItemText.{ItemText}
use Rattle.dx_schema_text.specs.Reading.{rules_among}
use Rattle.dx_schema_text.specs.Spelling.{Comma, comma_then, SpellsCommaList, parted, SpellsCell, a_name, a_text, SpellsAtom, atom_of, SpellsDerived, derived_of, SpellsWhere, no_where, where_of, SpellsRule, rule_of, SpellsItem, a_line, a_rule, a_condition, SpellsMapping, mapping_of}
use Rattle.dx_tgd_text.specs.Numbering.{text_cells}
use Rattle.dx_tgd_text.specs.Reading.{size_of}
use Rattle.dx_tgd_text.specs.Laws.{IsNameCell, IsWholeRule, TextsHaveWholeRules}

-- ---- lists that are parted by commas

-- n of each, together
abbrev total : {A : Type 0} → (A → ℕ) → List A → ℕ
total n [] = 0
total n (a ∷ list) = n a + total n list

module _ {A : Type 0} (R : A → List Lexeme → Type 0) (n : A → ℕ) (few : (a : A) (u : List Lexeme) → R a u → n a ≤ length u) where
  comma_few : (a : A) (u : List Lexeme) → Comma R a u → n a ≤ length u
  comma_few a _ (comma_then {u = u} comma is r) = let f = few a u r in omega (arith, f)

  more_few : (list : List A) (u : List Lexeme) → Many (Comma R) list u → total n list ≤ length u
  more_few _ _ no_more = omega arith
  more_few _ _ (one_more {a = a} {others = others} {u = u} {v = v} r rest) =
      let f = comma_few a u r in
      let g = more_few others v rest in
      omega (arith, f, g, length-append u v)

  parted_few : (list : List A) (u : List Lexeme) → SpellsCommaList R list u → total n list ≤ length u
  parted_few _ _ (parted {a = a} {others = others} {u = u} {v = v} r rest) =
      let f = few a u r in
      let g = more_few others v rest in
      omega (arith, f, g, length-append u v)

module _ {A : Type 0} (R : A → List Lexeme → Type 0) (P : A → Type 0) (so : (a : A) (u : List Lexeme) → R a u → P a) where
  comma_so : (a : A) (u : List Lexeme) → Comma R a u → P a
  comma_so a _ (comma_then {u = u} comma is r) = so a u r

  more_so : (list : List A) (u : List Lexeme) → Many (Comma R) list u → Each list P
  more_so _ _ no_more x m = elim m [ ]
  more_so _ _ (one_more {a = a} {u = u} r rest) x (here e) = subst P e (comma_so a u r)
  more_so _ _ (one_more {others = others} {v = v} r rest) x (there m) = more_so others v rest x m

  parted_so : (list : List A) (u : List Lexeme) → SpellsCommaList R list u → Each list P
  parted_so _ _ (parted {a = a} {u = u} r rest) x (here e) = subst P e (so a u r)
  parted_so _ _ (parted {others = others} {v = v} r rest) x (there m) = more_so others v rest x m

parted_some : {A : Type 0} (R : A → List Lexeme → Type 0) (list : List A) (u : List Lexeme) → SpellsCommaList R list u → 0 < length list
parted_some R _ _ (parted r rest) = omega arith

total_one : {A : Type 0} (list : List A) → total (λ a. 1) list ≡ length list
total_one [] = refl
total_one (a ∷ list) = let t = total_one list in omega (arith, t)

-- ---- cells and atoms

cell_few : (b : Bool) (c : CellText) (u : List Lexeme) → SpellsCell b c u → 1 ≤ length u
cell_few b _ _ (a_name w is) = omega arith
cell_few b _ _ (a_text s is) = omega arith

cell_named : (b : Bool) → b ≡ false → (c : CellText) (u : List Lexeme) → SpellsCell b c u → IsNameCell c
cell_named b e _ _ (a_name w is) = tt
cell_named b e _ _ (a_text s is) = cc e

pub cells_few : (b : Bool) (cs : List CellText) (u : List Lexeme) → SpellsCommaList (SpellsCell b) cs u → length cs ≤ length u
cells_few b cs u p = let f = parted_few (SpellsCell b) (λ c. 1) (cell_few b) cs u p in let t = total_one cs in omega (arith, f, t)

atom_few : (b : Bool) (a : AtomText) (u : List Lexeme) → SpellsAtom b a u → length a.cells ≤ length u
atom_few b _ _ (atom_of {cs = cs} {u = u} s o c word opening cells closing) =
    let f = cells_few b cs u cells in
    omega (arith, f, length-append u (c ∷ []))

atom_named : (a : AtomText) (u : List Lexeme) → SpellsAtom false a u → Each a.cells IsNameCell
atom_named _ _ (atom_of {cs = cs} {u = u} s o c word opening cells closing) = parted_so (SpellsCell false) IsNameCell (cell_named false refl) cs u cells

total_cells : (atoms : List AtomText) → total (λ (a : AtomText). length a.cells) atoms ≡ length (text_cells atoms)
total_cells [] = refl
total_cells (a ∷ atoms) = let t = total_cells atoms in omega (arith, t, length-append a.cells (text_cells atoms))

pub atoms_few : (b : Bool) (atoms : List AtomText) (u : List Lexeme) → SpellsCommaList (SpellsAtom b) atoms u → length (text_cells atoms) ≤ length u
atoms_few b atoms u p =
    let f = parted_few (SpellsAtom b) (λ (a : AtomText). length a.cells) (atom_few b) atoms u p in
    let t = total_cells atoms in
    omega (arith, f, t)

cells_have : (P : CellText → Type 0) (atoms : List AtomText) → Each atoms (λ a. Each a.cells P) → Each (text_cells atoms) P
cells_have P [] h c m = elim m [ ]
cells_have P (a ∷ atoms) h c m = elim (from_append a.cells m) [ inl k ↦ h a (here refl) c k | inr k ↦ cells_have P atoms (λ b i. h b (there i)) c k ]

-- ---- rules

derived_few : (d : DerivedText) (u : List Lexeme) → SpellsDerived d u → 1 ≤ length u
derived_few _ _ (derived_of n equal call o c a b d e args f) = omega arith

where_few : (ds : List DerivedText) (u : List Lexeme) → SpellsWhere ds u → length ds ≤ length u
where_few _ _ no_where = omega arith
where_few ds _ (where_of {u = u} k is p) =
    let f = parted_few SpellsDerived (λ d. 1) derived_few ds u p in
    let t = total_one ds in
    omega (arith, f, t)

rule_whole : (r : RuleText) (xs : List Lexeme) → SpellsRule r xs → IsWholeRule r × (size_of r ≤ length xs)
rule_whole _ _ (rule_of {premise = premise} {conclusion = conclusion} {ds = ds} {u = u} {v = v} {w = w} k arrow e keyword p d is c ending) =
    let f = atoms_few false premise u p in
    let g = where_few ds v d in
    let h = atoms_few true conclusion w c in (
      record {
        some_premise = parted_some (SpellsAtom false) premise u p;
        names = cells_have IsNameCell premise (parted_so (SpellsAtom false) (λ a. Each a.cells IsNameCell) atom_named premise u p);
        some_conclusion = parted_some (SpellsAtom true) conclusion w c;
      },
      omega (arith, f, g, h, length-append u (v ++ arrow ∷ (w ++ e ∷ [])), length-append v (arrow ∷ (w ++ e ∷ [])), length-append w (e ∷ [])),
    )

-- ---- mappings

abbrev IsGood : ℕ → RuleText → Type 0
IsGood n r = IsWholeRule r × (size_of r ≤ n)

more_good : (n k : ℕ) → n ≤ k → (rs : List RuleText) → Each rs (IsGood n) → Each rs (IsGood k)
more_good n k le rs h r m = let g = h r m in let few = g.1 in (g.0, omega (arith, le, few))

items_good : (conditions : Bool) (n : ℕ) (rest : List ItemText) (xs : List Lexeme) → length xs ≤ n → Many (SpellsItem conditions) rest xs → Each (rules_among rest) (IsGood n)
items_good _ n _ _ le no_more r m = elim m [ ]
items_good _ n _ _ le (one_more {others = others} {u = u} {v = v} (a_line line) rest) r m = items_good _ n others v (omega (arith, le, length-append u v)) rest r m
items_good _ n _ _ le (one_more {others = others} {u = u} {v = v} (a_condition only) rest) r m = items_good _ n others v (omega (arith, le, length-append u v)) rest r m
items_good _ n _ _ le (one_more {others = others} {u = u} {v = v} (a_rule {r = s} rule) rest) r m = go (items_good _ n others v (omega (arith, le, length-append u v)) rest) m
  where
    go : Each (rules_among others) (IsGood n) → r ∈ (s ∷ rules_among others) → IsGood n r
    go more (here e) = let g = rule_whole s u rule in let few = g.1 in subst (IsGood n) e (g.0, omega (arith, le, few, length-append u v))
    go more (there k) = more r k

mapping_good : (levels n : ℕ) (m : MappingText) (xs : List Lexeme) → length xs ≤ n → SpellsMapping levels m xs → Each m.rules (IsGood n)
mapping_good levels n _ _ le (mapping_of {rest = rest} {u = u} {v = v} {w = w} k v1 e keyword version ending from to items) =
    items_good _ n rest w (omega (arith, le, length-append u (v ++ w), length-append v w)) items

pub texts_have_whole_rules : TextsHaveWholeRules
texts_have_whole_rules text m h = mapping_good _ (length text) m _ (lexemes_few text) h.spelled
