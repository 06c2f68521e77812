-- The derived variables of a printed rule are read as they were.
use Rattle.std.proofs.Common.{◌≡◌, ℕ, suc, ◌+◌, ◌<◌, ◌≤◌, Bool, true, false, List, [], ◌∷◌, ◌++◌, Option, Some, None, cond, map, length, refl, sym, ap, ◌∙◌, arith, eq-eqb, append_assoc}
use Rattle.std.specs.Prelude.{eqb}
use Rattle.std.proofs.lemmas.List.{append-nil}
use Rattle.dx_base.specs.Members.{here, there, Each}
use Rattle.dx_base.specs.Firsts.{first_of}
use Rattle.dx_model.specs.declared.rules.Derived.{Derived}
use Rattle.dx_model.specs.Tables.{AllInside}
use Rattle.dx_schema.specs.Tables.{number_of_name}
use Rattle.dx_base.specs.Texts.{Text}
use Rattle.dx_schema.specs.Faults.{is_among}
use Rattle.dx_tokens.specs.declared.faults.TextFault.{TextFault}
use Rattle.dx_tokens.specs.declared.faults.TextFault.TheVariants.{At}
use Rattle.dx_tokens.specs.declared.faults.TextKind.TheVariants.{Unsafe, Width}
use Rattle.dx_schema_text.specs.declared.texts.CellText.{CellText}
use Rattle.dx_schema_text.specs.declared.texts.CellText.TheVariants.{Name, Literal}
use Rattle.dx_schema_text.specs.declared.texts.DerivedText.{DerivedText}
use Rattle.dx_funcs.specs.declared.conversion.Conversion.{Conversion}
use Rattle.dx_funcs.specs.Names.{first_named, conversion_name}
use Rattle.dx_funcs.specs.Offers.{IsOffer, IsListed}
use Rattle.dx_funcs.proofs.Named.{conversion_found, conversion_named}
use Rattle.dx_line_text.specs.Naming.{code_of}
use Rattle.dx_rule_text.specs.Printed.{variable_text}
use Rattle.dx_tgd_text.specs.Reading.{arg_fault, arg_of, args_fault, derived_call_fault, derived_fault, derived_faults, derived_names, derived_of_text}
use Rattle.clio_rule_laws.proofs.Says.{Paired, no_pair, one_pair, SaysVariable, Counted, counted, SaysDerived}
use Rattle.clio_rule_laws.proofs.Runs.{run, run_one, DifferBelow, among_run, absent_run, number_run}

-- ---- arguments

pub record AreArgumentsBack (variables : List Text) (call : ℕ) (args : List ℕ) (texts : List CellText) : Type 0 where
  pub no_fault : args_fault variables call texts ≡ None
  pub same : map (arg_of variables) texts ≡ args
  pub many : length texts ≡ length args

arguments_back : (bound m call : ℕ) (args : List ℕ) (texts : List CellText) → DifferBelow bound variable_text → m ≤ bound → AllInside args m → Paired SaysVariable args texts → AreArgumentsBack (run variable_text 0 m) call args texts
arguments_back bound m call [] [] differ fits within no_pair = record { no_fault = refl; same = refl; many = refl }
arguments_back bound m call [] (t ∷ texts) differ fits within h = elim h [ ]
arguments_back bound m call (n ∷ args) [] differ fits within h = elim h [ ]
arguments_back bound m call (n ∷ args) (Literal t ∷ texts) differ fits within (one_pair s h) = absurd s
arguments_back bound m call (n ∷ args) (Name x place ∷ texts) differ fits within (one_pair s h) =
    let variables = run variable_text 0 m in
    let others = arguments_back bound m call args texts differ fits (λ k w. within k (there w)) h in
    let lt = within n (here refl) in
    let there_is : is_among x variables ≡ true = ap (λ (y : Text). is_among y variables) s ∙ among_run variable_text 0 m n (omega arith) (omega arith) in
    let number : 0 + number_of_name (variable_text n) variables ≡ n = number_run variable_text bound 0 m n differ (omega arith) (omega arith) (omega arith) in
    let at : number_of_name x variables ≡ n = ap (λ (y : Text). number_of_name y variables) s ∙ omega (arith, number) in
    record {
      no_fault = ap (λ (b : Bool). first_of (cond b None (Some (At place Unsafe)) ∷ map (arg_fault variables call) texts)) there_is ∙ others.no_fault;
      same = ap (λ (k : ℕ). k ∷ map (arg_of variables) texts) at ∙ ap (λ (ks : List ℕ). n ∷ ks) others.same;
      many = ap suc others.many;
    }

-- ---- conversions

-- a listed conversion is found by the name that its code has
record IsFound (list : List Conversion) (code count : ℕ) : Type 0 where
  conversion : Conversion
  found : first_named list (conversion_name list code) ≡ Some conversion
  coded : conversion.code ≡ code
  takes : conversion.arity ≡ count

is_found : (list : List Conversion) (code count : ℕ) → IsOffer list → IsListed list code count → IsFound list code count
is_found list code count offer listed = record {
  conversion = listed.0;
  found = conversion_found list listed.0 (conversion_name list code) offer.names listed.1 (conversion_named list listed.0 code offer.codes listed.1 listed.2);
  coded = listed.2;
  takes = listed.3;
}

-- ---- derived variables

pub record IsDerivedBack (list : List Conversion) (variables known : List Text) (d : Derived) (t : DerivedText) : Type 0 where
  pub no_fault : derived_fault list variables known t ≡ None
  pub same : derived_of_text list variables t ≡ d

-- one derived variable, after n known names
derived_back : (list : List Conversion) (bound m : ℕ) (d : Counted) (t : DerivedText) → IsOffer list → DifferBelow bound variable_text → m ≤ d.number → d.number < bound → IsListed list d.derived.code (length d.derived.args) → AllInside d.derived.args m
    → SaysDerived (conversion_name list) d t → IsDerivedBack list (run variable_text 0 m) (run variable_text 0 d.number) d.derived t
derived_back list bound m d t offer differ low high listed within s =
    let variables = run variable_text 0 m in
    let known = run variable_text 0 d.number in
    let c = is_found list d.derived.code (length d.derived.args) offer listed in
    let args = arguments_back bound m t.call_place d.derived.args t.args differ (omega arith) within s.args in
    let new : is_among t.name known ≡ false = ap (λ (y : Text). is_among y known) s.variable ∙ absent_run variable_text 0 d.number (variable_text d.number) (λ n lt e. no_earlier n lt (differ n d.number (omega arith) high e)) in
    let found : first_named list t.call ≡ Some c.conversion = ap (first_named list) s.call ∙ c.found in
    let wide : eqb c.conversion.arity (length t.args) ≡ true = eq-eqb c.conversion.arity (length t.args) (c.takes ∙ sym args.many) in
    record {
      no_fault =
          ap (λ (b : Bool). cond b (Some (At t.place Unsafe)) (derived_call_fault variables (first_named list t.call) t.call_place t.args)) new
          ∙ ap (λ (o : Option Conversion). derived_call_fault variables o t.call_place t.args) found
          ∙ ap (λ (b : Bool). cond b (args_fault variables t.call_place t.args) (Some (At t.call_place Width))) wide
          ∙ args.no_fault;
      same = ap (λ (k : ℕ). record { code = k; args = map (arg_of variables) t.args }) (ap code_of found ∙ c.coded) ∙ ap (λ (ks : List ℕ). record { code = d.derived.code; args = ks }) args.same;
    }
  where
    no_earlier : (n : ℕ) → n < 0 + d.number → n ≡ d.number → ⊥
    no_earlier n lt e = omega arith

pub record AreDerivedBack (list : List Conversion) (m n : ℕ) (ds : List Derived) (texts : List DerivedText) : Type 0 where
  pub no_fault : derived_faults list (run variable_text 0 m) (run variable_text 0 n) texts ≡ None
  pub same : map (derived_of_text list (run variable_text 0 m)) texts ≡ ds
  pub names : run variable_text 0 n ++ derived_names texts ≡ run variable_text 0 (n + length ds)

pub derivings_back : (list : List Conversion) (bound m n : ℕ) (ds : List Derived) (texts : List DerivedText) → IsOffer list → DifferBelow bound variable_text → m ≤ n → n + length ds ≤ bound
    → Each ds (λ d. IsListed list d.code (length d.args)) → Each ds (λ d. AllInside d.args m) → Paired (SaysDerived (conversion_name list)) (counted n ds) texts → AreDerivedBack list m n ds texts
derivings_back list bound m n [] [] offer differ low high listed within no_pair =
    let at : n ≡ n + 0 = omega arith in
    record { no_fault = refl; same = refl; names = append-nil (run variable_text 0 n) ∙ ap (run variable_text 0) at }
derivings_back list bound m n [] (t ∷ texts) offer differ low high listed within h = elim h [ ]
derivings_back list bound m n (d ∷ ds) [] offer differ low high listed within h = elim h [ ]
derivings_back list bound m n (d ∷ ds) (t ∷ texts) offer differ low high listed within (one_pair s h) =
    let variables = run variable_text 0 m in
    let known = run variable_text 0 n in
    let first = derived_back list bound m (record { number = n; derived = d }) t offer differ low (omega arith) (listed d (here refl)) (within d (here refl)) s in
    let others = derivings_back list bound m (suc n) ds texts offer differ (omega arith) (omega arith) (λ e w. listed e (there w)) (λ e w. within e (there w)) h in
    let more : known ++ t.name ∷ [] ≡ run variable_text 0 (suc n) = ap (λ (x : Text). known ++ x ∷ []) s.variable ∙ run_one variable_text n in
    let sum : suc n + length ds ≡ n + suc (length ds) = omega arith in
    let rest : derived_faults list variables (known ++ t.name ∷ []) texts ≡ None = ap (λ (names : List Text). derived_faults list variables names texts) more ∙ others.no_fault in
    record {
      no_fault = ap (λ (o : Option TextFault). first_of (o ∷ derived_faults list variables (known ++ t.name ∷ []) texts ∷ [])) first.no_fault ∙ ap (λ (o : Option TextFault). first_of (o ∷ [])) rest;
      same = ap (λ (e : Derived). e ∷ map (derived_of_text list variables) texts) first.same ∙ ap (λ (es : List Derived). d ∷ es) others.same;
      names =
          sym (append_assoc known (t.name ∷ []) (derived_names texts)) ∙ ap (λ (names : List Text). names ++ derived_names texts) more ∙ others.names
          ∙ ap (run variable_text 0) sum;
    }
