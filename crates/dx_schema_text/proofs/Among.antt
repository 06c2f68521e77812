-- What is among clauses and items, and one more of them.
use Rattle.std.proofs.Common.{◌≡◌, List, [], ◌∷◌, ◌++◌, refl, ap, sym, ◌∙◌}
use Rattle.std.proofs.lemmas.List.{append-nil}
use Rattle.dx_schema.specs.Forest.{Forest, Tree, none, set, followed_by}
use Rattle.dx_schema.specs.declared.sets.KeyDecl.{KeyDecl}
use Rattle.dx_schema.specs.declared.sets.DepDecl.{DepDecl}
use Rattle.dx_schema.specs.declared.sets.RefDecl.{RefDecl}
use Rattle.dx_schema_text.specs.declared.clauses.Clause.{Clause}
use Rattle.dx_schema_text.specs.declared.clauses.Clause.TheVariants as clauses
use Rattle.dx_schema_text.specs.declared.texts.LineText.{LineText}
use Rattle.dx_schema_text.specs.declared.texts.RuleText.{RuleText}
use Rattle.dx_schema_text.specs.declared.texts.OnlyText.{OnlyText}
use Rattle.dx_schema_text.specs.declared.mapping.ItemText.{ItemText}
use Rattle.dx_schema_text.specs.declared.mapping.ItemText.TheVariants as items
use Rattle.dx_schema_text.specs.Reading.{keys_among, deps_among, refs_among, sets_among, lines_among, conditions_among, rules_among}

pub keys_among-append : (cs ds : List Clause) → keys_among (cs ++ ds) ≡ keys_among cs ++ keys_among ds
keys_among-append [] ds = refl
keys_among-append (clauses.Key k ∷ cs) ds = ap (λ ks. k ∷ ks) (keys_among-append cs ds)
keys_among-append (clauses.Dep d ∷ cs) ds = keys_among-append cs ds
keys_among-append (clauses.Ref r ∷ cs) ds = keys_among-append cs ds
keys_among-append (clauses.Set t ∷ cs) ds = keys_among-append cs ds

pub deps_among-append : (cs ds : List Clause) → deps_among (cs ++ ds) ≡ deps_among cs ++ deps_among ds
deps_among-append [] ds = refl
deps_among-append (clauses.Key k ∷ cs) ds = deps_among-append cs ds
deps_among-append (clauses.Dep d ∷ cs) ds = ap (λ xs. d ∷ xs) (deps_among-append cs ds)
deps_among-append (clauses.Ref r ∷ cs) ds = deps_among-append cs ds
deps_among-append (clauses.Set t ∷ cs) ds = deps_among-append cs ds

pub refs_among-append : (cs ds : List Clause) → refs_among (cs ++ ds) ≡ refs_among cs ++ refs_among ds
refs_among-append [] ds = refl
refs_among-append (clauses.Key k ∷ cs) ds = refs_among-append cs ds
refs_among-append (clauses.Dep d ∷ cs) ds = refs_among-append cs ds
refs_among-append (clauses.Ref r ∷ cs) ds = ap (λ rs. r ∷ rs) (refs_among-append cs ds)
refs_among-append (clauses.Set t ∷ cs) ds = refs_among-append cs ds

pub sets_among-append : (cs ds : List Clause) → sets_among (cs ++ ds) ≡ followed_by (sets_among cs) (sets_among ds)
sets_among-append [] ds = refl
sets_among-append (clauses.Key k ∷ cs) ds = sets_among-append cs ds
sets_among-append (clauses.Dep d ∷ cs) ds = sets_among-append cs ds
sets_among-append (clauses.Ref r ∷ cs) ds = sets_among-append cs ds
sets_among-append (clauses.Set t ∷ cs) ds = ap (set t.label t.inner) (sets_among-append cs ds)

pub lines_among-append : (is js : List ItemText) → lines_among (is ++ js) ≡ lines_among is ++ lines_among js
lines_among-append [] js = refl
lines_among-append (items.Line l ∷ is) js = ap (λ ls. l ∷ ls) (lines_among-append is js)
lines_among-append (items.Rule r ∷ is) js = lines_among-append is js
lines_among-append (items.Only o ∷ is) js = lines_among-append is js

pub conditions_among-append : (is js : List ItemText) → conditions_among (is ++ js) ≡ conditions_among is ++ conditions_among js
conditions_among-append [] js = refl
conditions_among-append (items.Line l ∷ is) js = conditions_among-append is js
conditions_among-append (items.Rule r ∷ is) js = conditions_among-append is js
conditions_among-append (items.Only o ∷ is) js = ap (λ os. o ∷ os) (conditions_among-append is js)

pub rules_among-append : (is js : List ItemText) → rules_among (is ++ js) ≡ rules_among is ++ rules_among js
rules_among-append [] js = refl
rules_among-append (items.Line l ∷ is) js = rules_among-append is js
rules_among-append (items.Rule r ∷ is) js = ap (λ rs. r ∷ rs) (rules_among-append is js)
rules_among-append (items.Only o ∷ is) js = rules_among-append is js

followed_by-none : (f : Forest) → followed_by f none ≡ f
followed_by-none none = refl
followed_by-none (set l i r) = ap (set l i) (followed_by-none r)

-- what is among clauses, told of those that were seen
abbrev pub Among : List Clause → List KeyDecl → List DepDecl → List RefDecl → Forest → Type 0
Among cs keys deps refs sets = (keys ≡ keys_among cs) × (deps ≡ deps_among cs) × (refs ≡ refs_among cs) × (sets ≡ sets_among cs)

among-append : (cs ds : List Clause) (keys more_keys : List KeyDecl) (deps more_deps : List DepDecl) (refs more_refs : List RefDecl) (sets more_sets : Forest) → Among cs keys deps refs sets
    → more_keys ≡ keys ++ keys_among ds → more_deps ≡ deps ++ deps_among ds → more_refs ≡ refs ++ refs_among ds → more_sets ≡ followed_by sets (sets_among ds) → Among (cs ++ ds) more_keys more_deps more_refs more_sets
among-append cs ds keys more_keys deps more_deps refs more_refs sets more_sets seen k d r s = (
  k ∙ ap (λ ks. ks ++ keys_among ds) seen.0 ∙ sym (keys_among-append cs ds),
  d ∙ ap (λ xs. xs ++ deps_among ds) seen.1 ∙ sym (deps_among-append cs ds),
  r ∙ ap (λ rs. rs ++ refs_among ds) seen.2 ∙ sym (refs_among-append cs ds),
  s ∙ ap (λ f. followed_by f (sets_among ds)) seen.3 ∙ sym (sets_among-append cs ds),
)

pub keys_push : (cs : List Clause) (c : Clause) (key : KeyDecl) (keys more : List KeyDecl) (deps : List DepDecl) (refs : List RefDecl) (sets : Forest) → c ≡ clauses.Key key → more ≡ keys ++ key ∷ [] → Among cs keys deps refs sets
    → Among (cs ++ c ∷ []) more deps refs sets
keys_push cs c key keys more deps refs sets is pushed seen =
    rw is (among-append cs (clauses.Key key ∷ []) keys more deps deps refs refs sets sets seen pushed (sym (append-nil deps)) (sym (append-nil refs)) (sym (followed_by-none sets)))

pub deps_push : (cs : List Clause) (c : Clause) (dep : DepDecl) (keys : List KeyDecl) (deps more : List DepDecl) (refs : List RefDecl) (sets : Forest) → c ≡ clauses.Dep dep → more ≡ deps ++ dep ∷ [] → Among cs keys deps refs sets
    → Among (cs ++ c ∷ []) keys more refs sets
deps_push cs c dep keys deps more refs sets is pushed seen =
    rw is (among-append cs (clauses.Dep dep ∷ []) keys keys deps more refs refs sets sets seen (sym (append-nil keys)) pushed (sym (append-nil refs)) (sym (followed_by-none sets)))

pub refs_push : (cs : List Clause) (c : Clause) (reference : RefDecl) (keys : List KeyDecl) (deps : List DepDecl) (refs more : List RefDecl) (sets : Forest) → c ≡ clauses.Ref reference → more ≡ refs ++ reference ∷ [] → Among cs keys deps refs sets
    → Among (cs ++ c ∷ []) keys deps more sets
refs_push cs c reference keys deps refs more sets is pushed seen =
    rw is (among-append cs (clauses.Ref reference ∷ []) keys keys deps deps refs more sets sets seen (sym (append-nil keys)) (sym (append-nil deps)) pushed (sym (followed_by-none sets)))

pub sets_push : (cs : List Clause) (c : Clause) (tree : Tree) (keys : List KeyDecl) (deps : List DepDecl) (refs : List RefDecl) (sets more : Forest) → c ≡ clauses.Set tree → more ≡ followed_by sets (set tree.label tree.inner none) → Among cs keys deps refs sets
    → Among (cs ++ c ∷ []) keys deps refs more
sets_push cs c tree keys deps refs sets more is pushed seen =
    rw is (among-append cs (clauses.Set tree ∷ []) keys keys deps deps refs refs sets more seen (sym (append-nil keys)) (sym (append-nil deps)) (sym (append-nil refs)) pushed)

-- what is among items, told of those that were seen
abbrev pub AmongItems : List ItemText → List LineText → List OnlyText → List RuleText → Type 0
AmongItems is lines conditions rules = (lines ≡ lines_among is) × (conditions ≡ conditions_among is) × (rules ≡ rules_among is)

items-append : (is js : List ItemText) (lines more_lines : List LineText) (conditions more_conditions : List OnlyText) (rules more_rules : List RuleText) → AmongItems is lines conditions rules
    → more_lines ≡ lines ++ lines_among js → more_conditions ≡ conditions ++ conditions_among js → more_rules ≡ rules ++ rules_among js → AmongItems (is ++ js) more_lines more_conditions more_rules
items-append is js lines more_lines conditions more_conditions rules more_rules seen l o r = (
  l ∙ ap (λ ls. ls ++ lines_among js) seen.0 ∙ sym (lines_among-append is js),
  o ∙ ap (λ os. os ++ conditions_among js) seen.1 ∙ sym (conditions_among-append is js),
  r ∙ ap (λ rs. rs ++ rules_among js) seen.2 ∙ sym (rules_among-append is js),
)

pub lines_push : (is : List ItemText) (i : ItemText) (line : LineText) (lines more : List LineText) (conditions : List OnlyText) (rules : List RuleText) → i ≡ items.Line line → more ≡ lines ++ line ∷ [] → AmongItems is lines conditions rules
    → AmongItems (is ++ i ∷ []) more conditions rules
lines_push is i line lines more conditions rules e pushed seen =
    rw e (items-append is (items.Line line ∷ []) lines more conditions conditions rules rules seen pushed (sym (append-nil conditions)) (sym (append-nil rules)))

pub conditions_push : (is : List ItemText) (i : ItemText) (only : OnlyText) (lines : List LineText) (conditions more : List OnlyText) (rules : List RuleText) → i ≡ items.Only only → more ≡ conditions ++ only ∷ [] → AmongItems is lines conditions rules
    → AmongItems (is ++ i ∷ []) lines more rules
conditions_push is i only lines conditions more rules e pushed seen =
    rw e (items-append is (items.Only only ∷ []) lines lines conditions more rules rules seen (sym (append-nil lines)) pushed (sym (append-nil rules)))

pub rules_push : (is : List ItemText) (i : ItemText) (rule : RuleText) (lines : List LineText) (conditions : List OnlyText) (rules more : List RuleText) → i ≡ items.Rule rule → more ≡ rules ++ rule ∷ [] → AmongItems is lines conditions rules
    → AmongItems (is ++ i ∷ []) lines conditions more
rules_push is i rule lines conditions rules more e pushed seen =
    rw e (items-append is (items.Rule rule ∷ []) lines lines conditions conditions rules more seen (sym (append-nil lines)) (sym (append-nil conditions)) pushed)
