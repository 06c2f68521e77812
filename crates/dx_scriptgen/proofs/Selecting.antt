-- What is selected for a variable.
use Rattle.std.proofs.Common.{◌≡◌, ℕ, ◌+◌, ◌-◌, ◌<◌, ◌≤◌, List, [], sym, ◌∙◌, ap, subst, length, get_or, arith, inl, inr}
use Rattle.std.specs.Prelude.{map}
use Rattle.std.proofs.lemmas.List.{get_or_default}
use Rattle.dx_base.specs.Members.{◌∈◌, Each}
use Rattle.dx_base.proofs.Members.{in_at, in_map}
use Rattle.dx_base.proofs.Tests.{map_same}
use Rattle.dx_model.specs.declared.rules.Derived.{Derived}
use Rattle.dx_model.specs.declared.rules.Rule.{Rule}
use Rattle.dx_base.specs.Texts.{Text}
use Rattle.dx_model.specs.Fitting.{premise_variables}
use Rattle.dx_funcs.specs.declared.conversion.Conversion.{Conversion}
use Rattle.dx_funcs.specs.Names.{conversion_name}
use Rattle.dx_funcs.specs.Offers.{IsListed}
use Rattle.dx_script.specs.declared.form.CellRef.{CellRef}
use Rattle.dx_script.specs.declared.form.Select.{Select}
use Rattle.dx_script.specs.declared.form.Select.TheVariants.{Cell as Shown, Call}
use Rattle.dx_script.specs.declared.form.Equal.{Equal}
use Rattle.dx_script.specs.declared.form.Step.TheVariants.{MatchRows}
use Rattle.dx_script.specs.Generated.{Spot, first_spot, select_of, shows}
use Rattle.dx_scriptgen.specs.Selecting.{firsts_of}
use Rattle.dx_script.proofs.NameFacts.{nat_lt_tells}
use Rattle.dx_script.proofs.Fitted.{at_below, length_map_below}

pub cell_selected : (list : List Conversion) (all : List Spot) (d : Rule) (x : ℕ) (firsts : List CellRef) (copy here : CellRef) → firsts ≡ firsts_of all d → x < length firsts → here ≡ get_or firsts x here → copy ≡ here
    → Shown copy ≡ select_of list all d x
cell_selected list all d x firsts copy here e h i c =
    let n : length firsts ≡ premise_variables d = ap length e ∙ length_map_below (λ y. shows (first_spot y all)) (premise_variables d) in
    let l : x < premise_variables d = rw n at h in
    let a : copy ≡ shows (first_spot x all) = c ∙ (i ∙ (ap (λ z. get_or z x here) e ∙ at_below (λ y. shows (first_spot y all)) (premise_variables d) x here l)) in
    elim (nat_lt_tells x (premise_variables d)) [
      | inl t ↦ rw t.0 (ap Shown a)
      | inr f ↦ absurd (let k = f.1 in omega (arith, k, l))
    ]

pub call_selected : (list : List Conversion) (all : List Spot) (d : Rule) (x place : ℕ) (firsts : List CellRef) (name : Text) (args : List CellRef) (e : Derived) → firsts ≡ firsts_of all d → length firsts ≤ x
    → x < premise_variables d + length d.derived → place ≡ x - length firsts → e ≡ get_or d.derived place e → name ≡ conversion_name list e.code
    → Each e.args (λ y. y < length firsts) → ((none : CellRef) → args ≡ map (λ p. get_or firsts p none) e.args) → Call name args ≡ select_of list all d x
call_selected list all d x place firsts name args e q h l p i n few a =
    let k : length firsts ≡ premise_variables d = ap length q ∙ length_map_below (λ y. shows (first_spot y all)) (premise_variables d) in
    let u : place ≡ x - premise_variables d = p ∙ ap (λ z. x - z) k in
    let within : place < length d.derived = omega (arith, u, h, k, l) in
    let none : CellRef = record { alias = 0; column = [] } in
    let zero_derived : Derived = record { code = 0; args = [] } in
    let f : e ≡ get_or d.derived (x - premise_variables d) zero_derived = i ∙ (get_or_default d.derived place e zero_derived within ∙ ap (λ z. get_or d.derived z zero_derived) u) in
    let b : args ≡ map (λ y. shows (first_spot y all)) e.args =
    a none ∙ map_same (λ y. get_or firsts y none) (λ y. shows (first_spot y all)) e.args (λ y m.
    ap (λ z. get_or z y none) q ∙ at_below (λ w. shows (first_spot w all)) (premise_variables d) y none (let g = few y m in omega (arith, g, k))) in
    elim (nat_lt_tells x (premise_variables d)) [
      | inl t ↦ absurd (let v = t.1 in omega (arith, v, h, k))
      | inr t ↦ rw t.0 (subst (λ (z : Derived). Call name args ≡ Call (conversion_name list z.code) (map (λ y. shows (first_spot y all)) z.args)) f (ap (λ z. Call z args) n ∙ ap (Call (conversion_name list e.code)) b))
    ]

pub code_listed : (list : List Conversion) (d : Rule) (i : ℕ) (e : Derived) → Each d.derived (λ (f : Derived). IsListed list f.code (length f.args)) → i < length d.derived → e ≡ get_or d.derived i e
    → e.code ∈ map (λ (c : Conversion). c.code) list
code_listed list d i e h l q =
    let w = h e (subst (λ z. z ∈ d.derived) (sym q) (in_at d.derived i e l)) in
    subst (λ z. z ∈ map (λ (c : Conversion). c.code) list) w.2 (in_map (λ (c : Conversion). c.code) w.1)

-- match steps of equal parts
pub same_match : (r : ℕ) {s t : List Select} {m n : List Text} {e f : List Equal} → s ≡ t → m ≡ n → e ≡ f → MatchRows r s m e ≡ MatchRows r t n f
same_match r a b c = λ i. MatchRows r (a i) (b i) (c i)
