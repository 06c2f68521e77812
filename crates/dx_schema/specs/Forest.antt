-- Sets with their inner sets.
use Rattle.std.specs.Prelude.{◌≡◌, ℕ, Bool, true, false, ◌+◌, ◌≤◌, List, [], ◌∷◌, ◌++◌, Option, Some, None, refl}
use Rattle.std.specs.Coded.{Coded, code_by, coded×, coded_ℕ, coded_bool, coded_list, coded_option}
use Rattle.std.proofs.Common.{ap, ◌∙◌, sym, arith, append_assoc}
use Rattle.std.proofs.lemmas.List.{append-nil}
use denote.Param.Weighed.{most}
use Rattle.dx_schema.specs.declared.sets.KeyDecl.{KeyDecl}
use Rattle.dx_schema.specs.declared.sets.DepDecl.{DepDecl}
use Rattle.dx_schema.specs.declared.sets.RefDecl.{RefDecl}

-- a set without its inner sets
pub record Label : Type 0 where
  pub name : List ℕ
  pub columns : List (List ℕ)
  pub keys : List KeyDecl
  pub deps : List DepDecl
  pub refs : List RefDecl

-- a set with this name and these columns, and nothing else
abbrev pub bare_set : List ℕ → List (List ℕ) → Label
bare_set name columns = record { name = name; columns = columns; keys = []; deps = []; refs = [] }

-- the sets of one level in order, each with its inner sets
pub data Forest : Type 0 where
  none : Forest
  set : Label → Forest → Forest → Forest

-- ---- codes

-- names, keys, dependencies, refs and sets without their inner sets, each told by lists and numbers
abbrev pub texts_code : Coded (List (List ℕ))
texts_code = coded_list (coded_list coded_ℕ)

abbrev pub key_code : Coded KeyDecl
key_code = code_by (List (List ℕ)) texts_code (λ k. k.columns) (λ p. record { columns = p }) (λ _. refl)

abbrev pub dep_code : Coded DepDecl
dep_code =
    code_by (List (List ℕ) × List (List ℕ)) (coded× texts_code texts_code) (λ d. (d.columns, d.decides))
    (λ p. record { columns = p.0; decides = p.1 }) (λ _. refl)

abbrev pub ref_code : Coded RefDecl
ref_code =
    code_by ((List (List ℕ) × List ℕ) × (List (List ℕ) × Bool))
    (coded× (coded× texts_code (coded_list coded_ℕ)) (coded× texts_code coded_bool))
    (λ r. ((r.columns, r.set), (r.referred, r.optional)))
    (λ p. record { columns = p.0.0; set = p.0.1; referred = p.1.0; optional = p.1.1 }) (λ _. refl)

abbrev pub label_code : Coded Label
label_code = code_by ((List ℕ × List (List ℕ)) × (List KeyDecl × (List DepDecl × List RefDecl)))
    (coded× (coded× (coded_list coded_ℕ) texts_code)
    (coded× (coded_list key_code) (coded× (coded_list dep_code) (coded_list ref_code))))
    (λ l. ((l.name, l.columns), (l.keys, (l.deps, l.refs))))
    (λ p. record { name = p.0.0; columns = p.0.1; keys = p.1.0; deps = p.1.1.0; refs = p.1.1.1 }) (λ _. refl)

-- a forest as a list: each set, then its inner sets, then the sets after it; `None` where a level ends
abbrev pub labels_in_order : Forest → List (Option Label)
labels_in_order none = None ∷ []
labels_in_order (set l inner rest) = Some l ∷ (labels_in_order inner ++ labels_in_order rest)

-- the first two of the forests become the inner sets of a set and the sets after it
abbrev pub join_forests : Label → List Forest → List Forest
join_forests l [] = []
join_forests l (i ∷ []) = []
join_forests l (i ∷ r ∷ stack) = set l i r ∷ stack

-- the forests that a list gives, from its end
abbrev pub stacked : List (Option Label) → List Forest
stacked [] = []
stacked (None ∷ rest) = none ∷ stacked rest
stacked (Some l ∷ rest) = join_forests l (stacked rest)

stacked-listed : (f : Forest) (rest : List (Option Label)) → stacked (labels_in_order f ++ rest) ≡ f ∷ stacked rest
stacked-listed none rest = refl
stacked-listed (set l i r) rest =
    let e : stacked ((labels_in_order i ++ labels_in_order r) ++ rest) ≡ i ∷ r
    ∷ stacked rest = ap stacked (append_assoc (labels_in_order i) (labels_in_order r) rest) ∙
    stacked-listed i (labels_in_order r ++ rest) ∙ ap (λ fs. i ∷ fs) (stacked-listed r rest) in
    ap (join_forests l) e

-- the first of some forests, and no sets if there is none
abbrev pub first_of_forests : List Forest → Forest
first_of_forests [] = none
first_of_forests (f ∷ fs) = f

-- a forest is what its list gives
pub forest_back : (f : Forest) → first_of_forests (stacked (labels_in_order f)) ≡ f
forest_back f =
    ap (λ xs. first_of_forests (stacked xs)) (sym (append-nil (labels_in_order f))) ∙ ap
    first_of_forests (stacked-listed f [])

-- a forest, told by its list
abbrev pub forest_code : Coded Forest
forest_code =
    code_by (List (Option Label)) (coded_list (coded_option label_code)) labels_in_order
    (λ xs. first_of_forests (stacked xs)) forest_back

-- ---- views

-- a set with its inner sets
pub record Tree : Type 0 where
  pub label : Label
  pub inner : Forest

-- a set with its inner sets, told by the two
abbrev pub tree_code : Coded Tree
tree_code =
    code_by (Label × Forest) (coded× label_code forest_code) (λ t. (t.label, t.inner))
    (λ p. record { label = p.0; inner = p.1 }) (λ _. refl)

-- the sets in order, as those of one level
abbrev pub forest_of : List Tree → Forest
forest_of [] = none
forest_of (t ∷ ts) = set t.label t.inner (forest_of ts)

-- how large a forest is: two for each of its sets, inner sets included
abbrev pub forest_size : Forest → ℕ
forest_size none = 0
forest_size (set l i r) = forest_size i + 2 + forest_size r

-- how large a set is: larger than its inner sets together, and smaller than each level that it stands in
abbrev pub tree_size : Tree → ℕ
tree_size t = forest_size t.inner + 1

-- each set of a level is smaller than the level
pub most_le-forest_size : (ts : List Tree) → most (λ t. tree_size t + 1) ts ≤ forest_size (forest_of ts)
most_le-forest_size [] = omega arith
most_le-forest_size (t ∷ ts) = omega (arith, most_le-forest_size ts)

-- the sets of one level, then others
abbrev pub followed_by : Forest → Forest → Forest
followed_by none g = g
followed_by (set l inner rest) g = set l inner (followed_by rest g)

-- whether there is a set at all
abbrev pub has_sets : Forest → Bool
has_sets none = false
has_sets (set l inner rest) = true
