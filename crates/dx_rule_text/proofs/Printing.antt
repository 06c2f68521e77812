-- Lists that are printed, one item after the other.
use Rattle.std.proofs.Common.{append_assoc, ◌≡◌, ◌<◌, ◌+◌, ℕ, suc, List, [], ◌∷◌, ◌++◌, take, length, get_or, refl, sym, ap, ◌∙◌, arith, flat_map}
use Rattle.std.specs.Prelude.{codes, map}
use Rattle.std.proofs.lemmas.List.{append-nil, take_more, length-take, length-map}
use Rattle.dx_base.specs.Members.{here, there, Each}
use Rattle.dx_model.specs.declared.rules.Derived.{Derived}
use Rattle.dx_model.specs.declared.rules.Atom.{Atom}
use Rattle.dx_model.specs.Solutions.{AtomFits}
use Rattle.dx_schema.specs.Forest.{Forest}
use Rattle.dx_schema.specs.Tables.{as_numbers, model_tables, tables_of}
use Rattle.dx_rule_text.specs.Printed.{derived_text, derived_texts, separated, variable_text, AtomsWithin}

-- what each member has, the first has, and each other
pub each_first : {X : Type 0} (P : X → Type 0) (xs : List X) (x : X) (others : List X) → xs ≡ x ∷ others → Each xs P → P x
each_first P xs x others e h = h x (rw e (here refl))

pub each_other : {X : Type 0} (P : X → Type 0) (xs : List X) (x : X) (others : List X) → xs ≡ x ∷ others → Each xs P → Each others P
each_other P xs x others e h y m = h y (rw e (there m))

abbrev parted : List (List ℕ) → List ℕ
parted texts = flat_map (λ other. codes ", " ++ other) texts

derived-push : (name : ℕ → List ℕ) (n : ℕ) (ds : List Derived) (d : Derived)
    → parted (derived_texts name n (ds ++ d ∷ [])) ≡ parted (derived_texts name n ds) ++ (codes ", " ++ derived_text name (n + length ds) d)
derived-push name n [] d =
    let same : derived_text name n d ≡ derived_text name (n + 0) d = ap (λ (m : ℕ). derived_text name m d) (omega arith) in
    ap (λ (zs : List ℕ). codes ", " ++ zs) (append-nil (derived_text name n d) ∙ same)
derived-push name n (e ∷ ds) d =
    let more : derived_text name (suc n + length ds) d ≡ derived_text name (n + suc (length ds)) d = ap (λ (m : ℕ). derived_text name m d) (omega arith) in
    ap (λ (zs : List ℕ). (codes ", " ++ derived_text name n e) ++ zs) (derived-push name (suc n) ds d ∙ ap (λ (zs : List ℕ). parted (derived_texts name (suc n) ds) ++ (codes ", " ++ zs)) more)
    ∙ sym (append_assoc (codes ", " ++ derived_text name n e) (parted (derived_texts name (suc n) ds)) _)

-- one derived variable more
pub one_derived : (name : ℕ → List ℕ) (first number k : ℕ) (ds : List Derived) (d : Derived) (begun before now after : List ℕ)
    → k < length ds → d ≡ get_or ds k d → number ≡ first + k
    → before ≡ begun ++ parted (derived_texts name (suc first) (take k ds)) → now ≡ before ++ codes ", " → after ≡ now ++ derived_text name (number + 1) d
    → after ≡ begun ++ parted (derived_texts name (suc first) (take (k + 1) ds))
one_derived name first number k ds d begun before now after lt is n b w a =
    let done : length (take k ds) ≡ k = omega (arith, length-take k ds) in
    let at : number + 1 ≡ suc first + length (take k ds) = omega (arith, n, done) in
    let last : derived_text name (number + 1) d ≡ derived_text name (suc first + length (take k ds)) (get_or ds k d) = ap (λ (m : ℕ). derived_text name m d) at ∙ ap (λ (v : Derived). derived_text name (suc first + length (take k ds)) v) is in
    let whole : parted (derived_texts name (suc first) (take (k + 1) ds)) ≡ parted (derived_texts name (suc first) (take k ds)) ++ (codes ", " ++ derived_text name (number + 1) d) =
    ap (λ (v : List Derived). parted (derived_texts name (suc first) v)) (take_more ds k d lt) ∙ derived-push name (suc first) (take k ds) (get_or ds k d)
    ∙ ap (λ (zs : List ℕ). parted (derived_texts name (suc first) (take k ds)) ++ (codes ", " ++ zs)) (sym last) in
    a ∙ ap (λ (zs : List ℕ). zs ++ derived_text name (number + 1) d) (w ∙ ap (λ (zs : List ℕ). zs ++ codes ", ") b)
    ∙ append_assoc (begun ++ parted (derived_texts name (suc first) (take k ds))) (codes ", ") (derived_text name (number + 1) d)
    ∙ append_assoc begun (parted (derived_texts name (suc first) (take k ds))) (codes ", " ++ derived_text name (number + 1) d)
    ∙ ap (λ (zs : List ℕ). begun ++ zs) (sym whole)

-- one derived variable is printed
pub printed_derived : (name : ℕ → List ℕ) (n : ℕ) (d : Derived) (shown args before with_variable with_equal with_name opened with_args after : List ℕ)
    → with_variable ≡ before ++ variable_text n → with_equal ≡ with_variable ++ codes " = " → with_name ≡ with_equal ++ shown → opened ≡ with_name ++ codes "("
    → with_args ≡ opened ++ separated (map variable_text args) → after ≡ with_args ++ codes ")" → shown ≡ name d.code → args ≡ d.args
    → after ≡ before ++ derived_text name n d
printed_derived name n d shown args before with_variable with_equal with_name opened with_args after v e m o a l is same =
    l ∙ rw (a, o, m, e, v, is, same) (simp append_assoc)

-- atoms that fit are atoms of the schema
pub atoms_of : (f : Forest) (atoms : List Atom) → Each atoms (AtomFits (model_tables f)) → AtomsWithin f atoms
atoms_of f atoms h a m =
    let k = (h a m).table in
    let e = length-map (tables_of f) as_numbers in
    omega (arith, k, e)
