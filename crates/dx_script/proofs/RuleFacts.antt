-- What is known of rules that fit.
use Rattle.std.proofs.Common.{◌≡◌, ℕ, suc, ◌+◌, ◌<◌, ◌≤◌, ◌⊎◌, true, false, List, [], ◌∷◌, length, refl, sym, ◌∙◌, ap, subst, inl, inr, arith}
use Rattle.std.specs.Prelude.{nat_lt, flat_map}
use Rattle.std.proofs.lemmas.List.{get_or-map, length-map}
use Rattle.dx_base.specs.Members.{◌∈◌, here, there, Each}
use Rattle.dx_base.proofs.Members.{from_flat_map}
use Rattle.dx_model.specs.declared.facts.Fact.{Fact}
use Rattle.dx_model.specs.declared.rules.Cell.{Cell}
use Rattle.dx_model.specs.declared.rules.Cell.TheVariants.{Var, Ex, Lit}
use Rattle.dx_model.specs.declared.rules.Atom.{Atom}
use Rattle.dx_model.specs.declared.rules.Derived.{Derived}
use Rattle.dx_model.specs.declared.rules.Rule.{Rule}
use Rattle.dx_model.specs.Tables.{Table, table_of, IsInstance}
use Rattle.dx_model.specs.Rules.{exported, cells_of, after_cells}
use Rattle.dx_model.specs.Solutions.{AtomFits}
use Rattle.dx_model.proofs.Canonical.{from_variables}
use Rattle.dx_model.specs.Fitting.{ByFirstAppearance, IsRule, IsVariable, cell_variable, premise_variables}
use Rattle.dx_schema.specs.Forest.{Forest}
use Rattle.dx_schema.specs.Tables.{TableOf, as_numbers, model_tables, tables_of, no_table}
use Rattle.dx_schema.specs.Names.{TableNames, HaveDistinctNames, table_names_of, names_of_table}
use Rattle.dx_funcs.specs.Offers.{IsListed, IsOffer}
use Rattle.dx_model.proofs.RowsExist.{from_variable}
use Rattle.dx_schema.proofs.Whole.{are_named}
use Rattle.dx_funcs.specs.declared.conversion.Conversion.{Conversion}
use Rattle.dx_script.specs.Names.{table_numbered}
use Rattle.dx_script.specs.Laws.{RulesFit}
use Rattle.dx_script.proofs.NameFacts.{nat_lt_tells}

-- ---- numbers by first appearance

-- a number below the end is below the beginning or stands in the list
pub numbered_stands : (n : ℕ) (xs : List ℕ) (m x : ℕ) → ByFirstAppearance n xs m → x < m → (x < n) ⊎ (x ∈ xs)
numbered_stands n [] m x h l = inl (omega (arith, l, h))
numbered_stands n (y ∷ ys) m x (inl h) l = elim (numbered_stands n ys m x h.1 l) [ inl a ↦ inl a | inr b ↦ inr (there b) ]
numbered_stands n (y ∷ ys) m x (inr h) l = go (numbered_stands (suc n) ys m x h.1 l) (nat_lt_tells x n)
  where
    go : (x < suc n) ⊎ (x ∈ ys) → ((nat_lt x n ≡ true) × (x < n)) ⊎ ((nat_lt x n ≡ false) × (n ≤ x)) → (x < n) ⊎ (x ∈ (y ∷ ys))
    go (inr b) t = inr (there b)
    go (inl a) (inl t) = inl t.1
    go (inl a) (inr t) = inr (here (let e = h.0 in let k = t.1 in omega (arith, a)))

variable_of : (c : Cell) → IsVariable c → (x : ℕ) × (c ≡ Var x)
variable_of (Var x) i = (x, refl)
variable_of (Ex v) i = elim i [ ]
variable_of (Lit t) i = elim i [ ]

-- ---- names and widths

-- an atom is of one of the tables, with as many cells as the table has columns
pub record AtomIsWide (tables : List TableNames) (a : Atom) : Type 0 where
  pub table : a.table < length tables
  pub width : length a.cells ≡ length (table_numbered tables a.table).columns

-- each fact has as many values as its table has columns
abbrev pub WidthsFit : List TableNames → List Fact → Type 0
WidthsFit tables I = Each I (λ f. length f.row ≡ length (table_numbered tables f.table).columns)

-- rules over tables that are told by names, with listed conversions
pub record NamesFit (source target : List TableNames) (list : List Conversion) (R : List Rule) : Type 0 where
  pub source_tables : HaveDistinctNames source
  pub target_tables : HaveDistinctNames target
  pub offer : IsOffer list
  pub rules : Each R IsRule
  pub premises : Each R (λ d. Each d.premise (AtomIsWide source))
  pub conclusions : Each R (λ d. Each d.conclusion (AtomIsWide target))
  pub listed : Each R (λ d. Each d.derived (λ e. IsListed list e.code (length e.args)))

-- ---- rules over two schemas

no_numbers : Table
no_numbers = record { width = 0; determinations = []; links = []; optional = [] }

same_width : (f : Forest) (t : ℕ) → t < length (tables_of f) → (table_of (model_tables f) t).width ≡ length (table_numbered (table_names_of f) t).columns
unfolding no_numbers
same_width f t h =
    ap (λ (z : Table). z.width) (get_or-map as_numbers (tables_of f) t table_zero no_numbers h)
    ∙ sym (ap (λ (z : TableNames). length z.columns) (get_or-map names_of_table (tables_of f) t table_zero (record { name = []; columns = [] }) h))
  where
    table_zero : TableOf
    table_zero = no_table

atom_is_wide : (f : Forest) (a : Atom) → AtomFits (model_tables f) a → AtomIsWide (table_names_of f) a
atom_is_wide f a w =
    let h : a.table < length (tables_of f) = rw (length-map (tables_of f) as_numbers) at w.table in
    record { table = rw (length-map (tables_of f) names_of_table) h; width = w.width ∙ same_width f a.table h }

pub widths_fit : (f : Forest) (I : List Fact) → IsInstance (model_tables f) I → WidthsFit (table_names_of f) I
widths_fit f I i e m =
    let h : e.table < length (tables_of f) = rw (length-map (tables_of f) as_numbers) at (i e m).table in
    (i e m).width ∙ same_width f e.table h

pub names_fit : (source target : Forest) (list : List Conversion) (R : List Rule) → RulesFit source target list R → NamesFit (table_names_of source) (table_names_of target) list R
names_fit source target list R g = record {
  source_tables = are_named source g.source_tables;
  target_tables = are_named target g.target_tables;
  offer = g.offer;
  rules = λ d m. (g.fit d m).rule;
  premises = λ d m a n. atom_is_wide source a ((g.fit d m).premise a n);
  conclusions = λ d m a n. atom_is_wide target a ((g.fit d m).conclusion a n);
  listed = g.listed;
}

-- ---- rules that fit

module _ (source target : List TableNames) (list : List Conversion) (R : List Rule) (d : Rule) (good : NamesFit source target list R) (member : d ∈ R) where
  pub premise_fits : (a : Atom) → a ∈ d.premise → (a.table < length source) × (length a.cells ≡ length (table_numbered source a.table).columns)
  premise_fits a m = let w = good.premises d member a m in (w.table, w.width)

  pub conclusion_fits : (a : Atom) → a ∈ d.conclusion → (a.table < length target) × (length a.cells ≡ length (table_numbered target a.table).columns)
  conclusion_fits a m = let w = good.conclusions d member a m in (w.table, w.width)

  pub premise_variable : (a : Atom) → a ∈ d.premise → (c : Cell) → c ∈ a.cells → (x : ℕ) × (c ≡ Var x)
  premise_variable a m c n = variable_of c ((good.rules d member).plain a m c n)

  -- each number below the first derived one stands in the premise
  pub stands : (x : ℕ) → x < after_cells (cells_of d.premise) → Var x ∈ cells_of d.premise
  stands x h = elim (numbered_stands 0 (flat_map cell_variable (cells_of d.premise)) (premise_variables d) x (good.rules d member).numbered h) [
    | inl a ↦ absurd (omega (arith, a))
    | inr b ↦ let w = from_flat_map cell_variable (cells_of d.premise) b in subst (λ c. c ∈ cells_of d.premise) (from_variable x w.0 w.2) w.1
  ]

  pub arguments_below : (e : Derived) → e ∈ d.derived → (y : ℕ) → y ∈ e.args → y < after_cells (cells_of d.premise)
  arguments_below e m y n = (good.rules d member).derived e m y n

  pub exported_known : (x : ℕ) → x ∈ exported d → x < after_cells (cells_of d.premise) + length d.derived
  exported_known x m = (good.rules d member).known x (from_variables x (cells_of d.conclusion) m)
