-- The rule of a text without a fault fits its schemas, and its conversions are listed.
use Rattle.std.proofs.Common.{◌≡◌, ℕ, suc, ◌+◌, ◌<◌, List, [], ◌∷◌, ◌++◌, Option, Some, None, Bool, true, false, cond, length, map, flat_map, refl, sym, ap, ◌∙◌, subst, arith, max, inl, inr}
use Rattle.std.specs.Prelude.{eqb}
use Rattle.std.proofs.lemmas.Bool.{eqb-true}
use Rattle.std.proofs.lemmas.Bool.Decides.{nat_tests}
use Rattle.std.proofs.lemmas.List.{get_or-map, length-append, length-map}
use Rattle.dx_base.specs.Members.{◌∈◌, here, there, Each}
use Rattle.dx_base.proofs.Members.{from_map, in_flat_map}
use Rattle.dx_base.proofs.Firsts.{first_none, none_of, each_none}
use Rattle.dx_model.specs.declared.rules.Cell.TheVariants.{Var, Ex}
use Rattle.dx_model.specs.declared.rules.Atom.{Atom}
use Rattle.dx_model.specs.declared.rules.Rule.{Rule}
use Rattle.dx_model.specs.Tables.{table_of, AllInside}
use Rattle.dx_model.specs.Rules.{after_cell, after_cells, cells_of, existential_in, existentials}
use Rattle.dx_model.specs.Solutions.{AtomFits}
use Rattle.dx_model.specs.Fitting.{ByFirstAppearance, IsVariable, cell_variable, premise_variables, RuleFits}
use Rattle.dx_schema.specs.Forest.{Forest}
use Rattle.dx_schema.specs.Tables.{TableOf, tables_of, as_numbers, model_tables, number_of_name, no_table}
use Rattle.dx_base.specs.Texts.{Text}
use Rattle.dx_schema.specs.Faults.{is_among}
use Rattle.dx_schema.proofs.Loops.{among_number}
use Rattle.dx_tokens.specs.declared.faults.TextFault.TheVariants.{At}
use Rattle.dx_tokens.specs.declared.faults.TextKind.TheVariants.{UnknownName, Width, Unsafe}
use Rattle.dx_schema_text.specs.declared.texts.CellText.{CellText}
use Rattle.dx_schema_text.specs.declared.texts.CellText.TheVariants.{Name, Literal}
use Rattle.dx_schema_text.specs.declared.texts.AtomText.{AtomText}
use Rattle.dx_schema_text.specs.declared.texts.DerivedText.{DerivedText}
use Rattle.dx_schema_text.specs.declared.texts.RuleText.{RuleText}
use Rattle.dx_funcs.specs.declared.conversion.Conversion.{Conversion}
use Rattle.dx_funcs.specs.Names.{first_named}
use Rattle.dx_funcs.specs.Offers.{IsListed}
use Rattle.dx_funcs.proofs.Named.{found_listed}
use Rattle.dx_line_text.specs.Naming.{set_names, set_number, columns_in, code_of}
use Rattle.dx_tgd_text.specs.Numbering.{new_name, new_names, text_cells}
use Rattle.dx_tgd_text.specs.Reading.{names_of_premise, known_of, fresh_of, derived_names, atom_fault, atoms_fault, arg_fault, args_fault, derived_call_fault, derived_fault, derived_faults, rule_fault, rules_fault, cell_of, atom_of_text, atoms_of_texts, arg_of, derived_of_text, rule_of_text, rules_of_texts, RuleHasFewCells}
use Rattle.dx_tgd_text.specs.Laws.{IsNameCell, IsWholeRule, AllOffered, ReadRulesFit, ReadRulesAreOffered}
use Rattle.dx_tgd_text.proofs.Appearing.{numbers_appear, among_appeared}

-- ---- atoms

-- an atom without a fault fits
atom_fits : (f : Forest) (known fresh : List Text) (a : AtomText) → atom_fault f a ≡ None → AtomFits (model_tables f) (atom_of_text f known fresh a)
atom_fits f known fresh a h = go (is_among a.set (set_names f)) refl h
  where
    wide : (b : Bool) → eqb (length a.cells) (length (columns_in f a.set)) ≡ b → cond b None (Some (At a.place Width)) ≡ None → is_among a.set (set_names f) ≡ true → AtomFits (model_tables f) (atom_of_text f known fresh a)
    wide false e k s = absurd cc
    wide true e k s =
        let lt : set_number f a.set < length (tables_of f) = rw (← length-map (tables_of f) (λ (t : TableOf). t.name)) (among_number a.set (set_names f) s) in
        let width : (table_of (model_tables f) (set_number f a.set)).width ≡ length (columns_in f a.set) =
        ap (λ n. n.width) (get_or-map as_numbers (tables_of f) (set_number f a.set) no_table (record { width = 0; determinations = []; links = []; optional = [] }) lt) in
        record {
          table = rw (length-map (tables_of f) as_numbers) lt;
          width = length-map a.cells (cell_of known fresh) ∙ eqb-true (length a.cells) (length (columns_in f a.set)) e ∙ sym width;
        }

    go : (b : Bool) → is_among a.set (set_names f) ≡ b → cond b (cond (eqb (length a.cells) (length (columns_in f a.set))) None (Some (At a.place Width))) (Some (At a.place UnknownName)) ≡ None → AtomFits (model_tables f) (atom_of_text f known fresh a)
    go true e k = wide (eqb (length a.cells) (length (columns_in f a.set))) refl k e
    go false e k = absurd cc

atoms_fit : (f : Forest) (known fresh : List Text) (atoms : List AtomText) → atoms_fault f atoms ≡ None → Each (atoms_of_texts f known fresh atoms) (AtomFits (model_tables f))
atoms_fit f known fresh atoms h a m =
    let p = from_map (atom_of_text f known fresh) atoms m in
    subst (AtomFits (model_tables f)) p.2 (atom_fits f known fresh p.0 (each_none (atom_fault f) atoms h p.0 p.1))

-- the cells of atoms are those of their texts
cells_read : (f : Forest) (known fresh : List Text) (atoms : List AtomText) → cells_of (atoms_of_texts f known fresh atoms) ≡ map (cell_of known fresh) (text_cells atoms)
cells_read f known fresh [] = refl
cells_read f known fresh (a ∷ atoms) = ap (λ cs. map (cell_of known fresh) a.cells ++ cs) (cells_read f known fresh atoms) ∙ sym (map_both (cell_of known fresh) a.cells (text_cells atoms))
  where
    map_both : {X Y : Type 0} (g : X → Y) (xs ys : List X) → map g (xs ++ ys) ≡ map g xs ++ map g ys
    map_both g [] ys = refl
    map_both g (x ∷ xs) ys = ap (λ zs. g x ∷ zs) (map_both g xs ys)

count_cells : (f : Forest) (known fresh : List Text) (atoms : List AtomText) → length (cells_of (atoms_of_texts f known fresh atoms)) ≡ length (text_cells atoms)
count_cells f known fresh atoms = ap length (cells_read f known fresh atoms) ∙ length-map (text_cells atoms) (cell_of known fresh)

-- ---- the premise

-- where all names are known, the cells of names are variables
named_cell : (known : List Text) (c : CellText) → IsNameCell c → Each (new_name [] c) (λ x. is_among x known ≡ true) → IsVariable (cell_of known [] c) × (cell_variable (cell_of known [] c) ≡ map (λ x. number_of_name x known) (new_name [] c)) × (cell_of known [] c ∷ [] ≡ map Var (map (λ x. number_of_name x known) (new_name [] c)))
named_cell known (Literal t) n h = absurd n
named_cell known (Name x place) n h = rw (h x (here refl)) (tt, refl, refl)

first_names : (c : CellText) (cs : List CellText) (P : Text → Type 0) → Each (new_names [] (c ∷ cs)) P → Each (new_name [] c) P × Each (new_names [] cs) P
first_names (Literal t) cs P h = ((λ x m. elim m [ ]), h)
first_names (Name x place) cs P h = ((λ y m. only y m), (λ y m. h y (there m)))
  where
    only : (y : Text) → y ∈ (x ∷ []) → P y
    only y (here e) = h y (here e)
    only y (there m) = elim m [ ]

record NamedCells (known : List Text) (cells : List CellText) : Type 0 where
  plain : Each (map (cell_of known []) cells) IsVariable
  numbers : flat_map cell_variable (map (cell_of known []) cells) ≡ map (λ x. number_of_name x known) (new_names [] cells)
  variables : map (cell_of known []) cells ≡ map Var (map (λ x. number_of_name x known) (new_names [] cells))

named_cells : (known : List Text) (cells : List CellText) → Each cells IsNameCell → Each (new_names [] cells) (λ x. is_among x known ≡ true) → NamedCells known cells
named_cells known [] n h = record { plain = λ x m. elim m [ ]; numbers = refl; variables = refl }
named_cells known (Literal t ∷ cells) n h = absurd (n (Literal t) (here refl))
named_cells known (Name x place ∷ cells) n h =
    let r = named_cells known cells (λ c m. n c (there m)) (λ y m. h y (there m)) in
    let here_is : cell_of known [] (Name x place) ≡ Var (number_of_name x known) = rw (h x (here refl)) refl in
    record {
      plain = plain_too here_is r.plain;
      numbers = rw here_is (ap (λ ns. number_of_name x known ∷ ns) r.numbers);
      variables = rw here_is (ap (λ cs. Var (number_of_name x known) ∷ cs) r.variables);
    }
  where
    plain_too : cell_of known [] (Name x place) ≡ Var (number_of_name x known) → Each (map (cell_of known []) cells) IsVariable → Each (map (cell_of known []) (Name x place ∷ cells)) IsVariable
    plain_too is e c (here d) = subst IsVariable (sym is ∙ d) tt
    plain_too is e c (there m) = e c m

after_greater : (x k : ℕ) → after_cell (Var x) k ≡ max k (suc x)
after_greater x k = grind (arith, nat_tests)

-- the number after variables that are numbered by first appearance
after_numbered : (n m : ℕ) (ys : List ℕ) → ByFirstAppearance n ys m → max n (after_cells (map Var ys)) ≡ m
after_numbered n m [] e = omega (arith, e)
after_numbered n m (y ∷ ys) (inl (l, r)) =
    let i = after_numbered n m ys r in
    let g = after_greater y (after_cells (map Var ys)) in
    omega (arith, i, g, l)
after_numbered n m (y ∷ ys) (inr (e, r)) =
    let i = after_numbered (suc n) m ys r in
    let g = after_greater y (after_cells (map Var ys)) in
    omega (arith, i, g, e)

-- ---- the conclusion

-- the existential variables of cells are their names that are not known
fresh_numbers : (known fresh : List Text) (cells : List CellText) → flat_map existential_in (map (cell_of known fresh) cells) ≡ map (λ x. number_of_name x fresh) (new_names known cells)
fresh_numbers known fresh [] = refl
fresh_numbers known fresh (Literal t ∷ cells) = fresh_numbers known fresh cells
fresh_numbers known fresh (Name x place ∷ cells) = go (is_among x known) (fresh_numbers known fresh cells)
  where
    go : (b : Bool) → flat_map existential_in (map (cell_of known fresh) cells) ≡ map (λ x. number_of_name x fresh) (new_names known cells)
        → existential_in (cond b (Var (number_of_name x known)) (Ex (number_of_name x fresh))) ++ flat_map existential_in (map (cell_of known fresh) cells) ≡ map (λ x. number_of_name x fresh) (cond b [] (x ∷ []) ++ new_names known cells)
    go true r = r
    go false r = ap (λ ns. number_of_name x fresh ∷ ns) r

-- a variable is the number of a known name
known_variable : (known fresh : List Text) (x : ℕ) (c : CellText) → cell_of known fresh c ≡ Var x → x < length known
known_variable known fresh x (Literal t) e = absurd cc
known_variable known fresh x (Name y place) e = go (is_among y known) refl e
  where
    go : (b : Bool) → is_among y known ≡ b → cond b (Var (number_of_name y known)) (Ex (number_of_name y fresh)) ≡ Var x → x < length known
    go true s k = let same : number_of_name y known ≡ x = cc in rw (← same) (among_number y known s)
    go false s k = absurd cc

-- ---- derived variables

record GoodCall (list : List Conversion) (variables : List Text) (d : DerivedText) : Type 0 where
  offered : IsListed list (code_of (first_named list d.call)) (length (map (arg_of variables) d.args))
  within : AllInside (map (arg_of variables) d.args) (length variables)

arg_within : (variables : List Text) (place : ℕ) (a : CellText) → arg_fault variables place a ≡ None → arg_of variables a < length variables
arg_within variables place (Literal t) h = absurd cc
arg_within variables place (Name x at) h = go (is_among x variables) refl h
  where
    go : (b : Bool) → is_among x variables ≡ b → cond b None (Some (At at Unsafe)) ≡ None → number_of_name x variables < length variables
    go true e k = among_number x variables e
    go false e k = absurd cc

good_call : (list : List Conversion) (variables : List Text) (d : DerivedText) (found : Option Conversion) → first_named list d.call ≡ found → derived_call_fault variables found d.call_place d.args ≡ None → GoodCall list variables d
good_call list variables d None e h = absurd cc
good_call list variables d (Some c) e h = go (eqb c.arity (length d.args)) refl h
  where
    go : (b : Bool) → eqb c.arity (length d.args) ≡ b → cond b (args_fault variables d.call_place d.args) (Some (At d.call_place Width)) ≡ None → GoodCall list variables d
    go false s k = absurd cc
    go true s k = record {
      offered = (c, found_listed list d.call c e, ap code_of (sym e), eqb-true c.arity (length d.args) s ∙ sym (length-map d.args (arg_of variables)));
      within = λ x m. let p = from_map (arg_of variables) d.args m in rw (← p.2) (arg_within variables d.call_place p.0 (each_none (arg_fault variables d.call_place) d.args k p.0 p.1));
    }

good_derived : (list : List Conversion) (variables known : List Text) (d : DerivedText) → derived_fault list variables known d ≡ None → GoodCall list variables d
good_derived list variables known d h = go (is_among d.name known) h
  where
    go : (b : Bool) → cond b (Some (At d.place Unsafe)) (derived_call_fault variables (first_named list d.call) d.call_place d.args) ≡ None → GoodCall list variables d
    go true k = absurd cc
    go false k = good_call list variables d (first_named list d.call) refl k

all_good : (list : List Conversion) (variables known : List Text) (ds : List DerivedText) → derived_faults list variables known ds ≡ None → Each ds (GoodCall list variables)
all_good list variables known [] h d m = elim m [ ]
all_good list variables known (e ∷ ds) h d (here is) = subst (GoodCall list variables) is (good_derived list variables known e (first_none (derived_fault list variables known e) _ h).0)
all_good list variables known (e ∷ ds) h d (there m) =
    all_good list variables (known ++ e.name ∷ []) ds (none_of _ (first_none (derived_fault list variables known e) _ h).1) d m

-- ---- rules

record NoFaults (source target : Forest) (list : List Conversion) (r : RuleText) : Type 0 where
  premise : atoms_fault source r.premise ≡ None
  derived : derived_faults list (names_of_premise r) (names_of_premise r) r.derived ≡ None
  conclusion : atoms_fault target r.conclusion ≡ None

no_faults : (source target : Forest) (list : List Conversion) (r : RuleText) → rule_fault source target list r ≡ None → NoFaults source target list r
no_faults source target list r h =
    let a = first_none (atoms_fault source r.premise) _ h in
    let b = first_none (derived_faults list (names_of_premise r) (names_of_premise r) r.derived) _ a.1 in
    record { premise = a.0; derived = b.0; conclusion = none_of _ b.1 }

pub read_rules_are_offered : ReadRulesAreOffered
read_rules_are_offered source target list r h e m =
    let p = from_map (derived_of_text list (names_of_premise r)) r.derived m in
    subst (λ d. IsListed list d.code (length d.args)) p.2 (all_good list (names_of_premise r) (names_of_premise r) r.derived (no_faults source target list r h).derived p.0 p.1).offered

-- the variables of a rule's premise
module _ (source target : Forest) (list : List Conversion) (r : RuleText) (w : IsWholeRule r) where
  abbrev d : Rule
  d = rule_of_text source target list r

  abbrev names : List Text
  names = new_names [] (text_cells r.premise)

  abbrev numbers : List ℕ
  numbers = map (λ x. number_of_name x (names_of_premise r)) names

  read : NamedCells (names_of_premise r) (text_cells r.premise)
  read = named_cells (names_of_premise r) (text_cells r.premise) w.names (λ x m. among_appeared x [] names m)

  count : premise_variables d ≡ length (names_of_premise r)
  count =
      let a = after_numbered 0 (length (names_of_premise r)) numbers (numbers_appear [] names) in
      ap after_cells (cells_read source (names_of_premise r) [] r.premise ∙ read.variables) ∙ omega (arith, a)

  numbered : ByFirstAppearance 0 (flat_map cell_variable (cells_of d.premise)) (premise_variables d)
  numbered =
      subst (λ m. ByFirstAppearance 0 (flat_map cell_variable (cells_of d.premise)) m) (sym count)
      (subst (λ ns. ByFirstAppearance 0 ns (length (names_of_premise r))) (sym (ap (flat_map cell_variable) (cells_read source (names_of_premise r) [] r.premise) ∙ read.numbers)) (numbers_appear [] names))

  plain : Each d.premise (λ a. Each a.cells IsVariable)
  plain a m c k = read.plain c (subst (λ cs. c ∈ cs) (cells_read source (names_of_premise r) [] r.premise) (in_flat_map (λ (a : Atom). a.cells) m k))

  conclusion_numbered : (m : ℕ) × ByFirstAppearance 0 (existentials d.conclusion) m
  conclusion_numbered = (
    length (fresh_of r),
    subst (λ ns. ByFirstAppearance 0 ns (length (fresh_of r))) (sym (ap (flat_map existential_in) (cells_read target (known_of r) (fresh_of r) r.conclusion) ∙ fresh_numbers (known_of r) (fresh_of r) (text_cells r.conclusion)))
        (numbers_appear [] (new_names (known_of r) (text_cells r.conclusion))),
  )

  known : (x : ℕ) → Var x ∈ cells_of d.conclusion → x < premise_variables d + length d.derived
  known x m =
      let p = from_map (cell_of (known_of r) (fresh_of r)) (text_cells r.conclusion) (subst (λ cs. Var x ∈ cs) (cells_read target (known_of r) (fresh_of r) r.conclusion) m) in
      let k = known_variable (known_of r) (fresh_of r) x p.0 p.2 in
      let both = length-append (names_of_premise r) (derived_names r.derived) in
      let ds = length-map r.derived (λ (d : DerivedText). d.name) in
      let es = length-map r.derived (derived_of_text list (names_of_premise r)) in
      omega (arith, k, count, both, ds, es)

pub read_rules_fit : ReadRulesFit
read_rules_fit source target list r w n h =
    let f = no_faults source target list r h in
    let p = count_cells source (names_of_premise r) [] r.premise in
    let q = count_cells target (known_of r) (fresh_of r) r.conclusion in
    let es = length-map r.derived (derived_of_text list (names_of_premise r)) in
    record {
      rule = record {
        some_premise = rw (length-map r.premise (atom_of_text source (names_of_premise r) [])) w.some_premise;
        plain = plain source target list r w;
        numbered = numbered source target list r w;
        derived = λ e m. let k = from_map (derived_of_text list (names_of_premise r)) r.derived m in subst (λ d. AllInside d.args (premise_variables (rule_of_text source target list r))) k.2 (subst (λ n. AllInside (derived_of_text list (names_of_premise r) k.0).args n) (sym (count source target list r w)) (all_good list (names_of_premise r) (names_of_premise r) r.derived f.derived k.0 k.1).within);
        some_conclusion = rw (length-map r.conclusion (atom_of_text target (known_of r) (fresh_of r))) w.some_conclusion;
        known = known source target list r w;
        existentials = conclusion_numbered source target list r w;
        few_variables = omega (arith, n, p, es);
        few_cells = omega (arith, n, q);
      };
      premise = atoms_fit source (names_of_premise r) [] r.premise f.premise;
      conclusion = atoms_fit target (known_of r) (fresh_of r) r.conclusion f.conclusion;
    }

-- ---- all rules of texts

pub all_fit : (source target : Forest) (list : List Conversion) (rules : List RuleText) (read : List Rule) → Each rules RuleHasFewCells → read ≡ rules_of_texts source target list rules → rules_fault source target list rules ≡ None
    → Each rules IsWholeRule → Each read (RuleFits (model_tables source) (model_tables target))
all_fit source target list rules read narrow is h whole x m =
    let l = from_map (rule_of_text source target list) rules (rw is at m) in
    subst (RuleFits (model_tables source) (model_tables target)) l.2 (read_rules_fit source target list l.0 (whole l.0 l.1) (narrow l.0 l.1) (each_none (rule_fault source target list) rules h l.0 l.1))

pub all_offered : (source target : Forest) (list : List Conversion) (rules : List RuleText) (read : List Rule) → read ≡ rules_of_texts source target list rules → rules_fault source target list rules ≡ None → Each read (AllOffered list)
all_offered source target list rules read is h x m =
    let l = from_map (rule_of_text source target list) rules (rw is at m) in
    subst (AllOffered list) l.2 (read_rules_are_offered source target list l.0 (each_none (rule_fault source target list) rules h l.0 l.1))
