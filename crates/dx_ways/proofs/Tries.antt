-- What is tried gives the ways of a line.
use Rattle.std.proofs.Common.{◌≡◌, ℕ, ◌+◌, ◌<◌, ◌≤◌, Bool, true, false, not, ◌||◌, eqb, List, [], ◌∷◌, ◌++◌, inl, inr, length, get_or, drop, refl, sym, ◌∙◌, ap, subst, Some, arith}
use Rattle.std.specs.Prelude.{map, flat_map}
use Rattle.std.specs.List.{filter, list_any, list_all}
use Rattle.std.proofs.lemmas.Bool.{eqb-true, eq-eqb, and_parts, and_from, true≢false, false≢true}
use Rattle.std.proofs.lemmas.List.{drop_more, drop_all, append-nil}
use Rattle.dx_base.specs.Members.{◌∈◌, here, there, ◌⊆◌, Each}
use Rattle.dx_base.proofs.Members.{in_map, from_map, in_flat_map, from_flat_map}
use Rattle.dx_logical.specs.declared.relation.Occurrence.{Occurrence}
use Rattle.dx_lines.specs.declared.line.Place.{Place}
use Rattle.dx_lines.specs.declared.line.Origin.{Origin}
use Rattle.dx_lines.specs.declared.line.Origin.TheVariants.{Column, Literal, Call as Converted}
use Rattle.dx_lines.specs.declared.line.Line.{Line}
use Rattle.dx_lines.specs.declared.term.Term.{Term}
use Rattle.dx_lines.specs.declared.term.Term.TheVariants.{Var, Call}
use Rattle.dx_lines.specs.declared.candidate.Pick.{Pick}
use Rattle.dx_lines.specs.Ways.{is_of, variable_in, named_columns, with_table, term_by, pick, put_in, line_ways, ways}
use Rattle.dx_ways.specs.Laws.{PicksAscend, TermBy, ChoosesOf, seen_at}
use Rattle.dx_ways.specs.Tried.{put_all, with_unlike, column_of, agrees_in, is_like, has_tables, one_or_none, picks_by, tried}
use Rattle.dx_ways.proofs.Choosing.{first_of, Inside, HasTables, IsBy, has_more, IsWith, from_with, to_with, from_term_by, to_term_by, first_chosen, seen_by}
use Rattle.dx_ways.proofs.WaysAre.{IsLineWay, from_line, to_line}
use Rattle.dx_ways.proofs.Unlike.{from_unlike, to_unlike, first_like, first_like_is}
use Rattle.dx_ways.proofs.Adding.{all_append, all_grows, all_same, all_is_ascending, all_ascends}
use Rattle.dx_base.proofs.Tests.{from_filter, to_filter, to_any, map_same}

-- ---- choices that are tried

-- what a choice becomes
record Grown (P : List Occurrence) (places : List Place) (c0 c : List Occurrence) : Type 0 where
  inside : Inside P c0 → Inside P c
  has : HasTables c places
  wider : (qs : List Place) → HasTables c0 qs → HasTables c qs

grown_none : (P c : List Occurrence) → Grown P [] c c
grown_none P c = record { inside = λ i. i; has = λ a m. elim m [ ]; wider = λ qs h. h }

one_table : (a : Place) (c : List Occurrence) → list_any (is_of a.table) c ≡ true → HasTables c (a ∷ [])
one_table a c t = has_more a [] c t (λ b m. elim m [ ])

grown_more : (P : List Occurrence) (a : Place) (more : List Place) (c0 c1 c : List Occurrence) → IsWith P a.table c0 c1 → Grown P more c1 c → Grown P (a ∷ more) c0 c
grown_more P a more c0 c1 c w g = record {
  inside = λ i. g.inside (w.inside i);
  has = has_more a more c (g.wider (a ∷ []) (one_table a c1 w.has) a (here refl)) g.has;
  wider = λ qs h. g.wider qs (w.wider qs h);
}

from_tried : (s : Origin) (ys : List ℕ) (P : List Occurrence) (places : List Place) (c0 : List Occurrence) (k : Pick) → k ∈ tried s ys P places c0
    → (c : List Occurrence) × Grown P places c0 c × (k ∈ picks_by s ys c)
from_tried s ys P [] c0 k m = (c0, grown_none P c0, m)
from_tried s ys P (a ∷ more) c0 k m =
    let r = from_flat_map (tried s ys P more) (with_table P a.table c0) m in
    let g = from_tried s ys P more r.0 k r.2 in
    (g.0, grown_more P a more c0 r.0 g.0 (from_with P a.table c0 r.0 r.1) g.1, g.2)

to_tried : (s : Origin) (ys : List ℕ) (P : List Occurrence) (places : List Place) (f : ℕ → Occurrence) (c0 : List Occurrence) → Each places (ChoosesOf P f) → IsBy f c0
    → (c : List Occurrence) × Grown P places c0 c × IsBy f c × (picks_by s ys c ⊆ tried s ys P places c0)
to_tried s ys P [] f c0 h b = (c0, grown_none P c0, b, (λ k m. m))
to_tried s ys P (a ∷ more) f c0 h b =
    let p = h a (here refl) in
    let w = to_with P a.table f c0 p.0 p.1 b in
    let g = to_tried s ys P more f w.0 (λ q m. h q (there m)) w.2 in
    (g.0, grown_more P a more c0 w.0 g.0 (from_with P a.table c0 w.0 w.1) g.1, g.2, (λ k m. in_flat_map (tried s ys P more) w.1 (g.3 k m)))

-- ---- like occurrences

agrees_itself : (o : Occurrence) (a : Place) → agrees_in o o a ≡ true
agrees_itself o a = by (not (is_of a.table o)) (eqb (variable_in o a.column) (variable_in o a.column)) (eq-eqb (variable_in o a.column) (variable_in o a.column) refl)
  where
    by : (b c : Bool) → c ≡ true → (b || c) ≡ true
    by true c e = refl
    by false c e = e

all_true : {X : Type 0} (p : X → Bool) (xs : List X) → Each xs (λ x. p x ≡ true) → list_all p xs ≡ true
all_true p [] h = refl
all_true p (x ∷ xs) h = and_from (p x) (list_all p xs) (h x (here refl)) (all_true p xs (λ y m. h y (there m)))

of_all : {X : Type 0} (p : X → Bool) (xs : List X) → list_all p xs ≡ true → Each xs (λ x. p x ≡ true)
of_all {X} p [] h x m = elim m [ ]
of_all {X} p (y ∷ xs) h x (here e) = let Q : X → Type 0 = λ z. p z ≡ true in subst Q e (and_parts (p y) (list_all p xs) h).0
of_all {X} p (y ∷ xs) h x (there m) = of_all p xs (and_parts (p y) (list_all p xs) h).1 x m

like_itself : (places : List Place) (o : Occurrence) → is_like places o o ≡ true
like_itself places o = and_from (eqb o.table o.table) (list_all (agrees_in o o) places) (eq-eqb o.table o.table refl) (all_true (agrees_in o o) places (λ a m. agrees_itself o a))

-- like occurrences show the same in a column of their table that is named
like_shows : (places : List Place) (o p : Occurrence) (a : Place) → is_like places o p ≡ true → p.table ≡ a.table → a ∈ places → (o.table ≡ a.table) × (variable_in o a.column ≡ variable_in p a.column)
like_shows places o p a l t m =
    let q = and_parts (eqb o.table p.table) (list_all (agrees_in o p) places) l in
    let e : o.table ≡ a.table = eqb-true o.table p.table q.0 ∙ t in
    let g = of_all (agrees_in o p) places q.1 a m in
    (e, eqb-true (variable_in o a.column) (variable_in p a.column) (by (is_of a.table o) (eqb (variable_in o a.column) (variable_in p a.column)) (eq-eqb o.table a.table e) g))
  where
    by : (b c : Bool) → b ≡ true → (not b || c) ≡ true → c ≡ true
    by true c e h = h
    by false c e h = absurd (false≢true e)

term_same : (f g : ℕ → Occurrence) (s : Origin) (t : Term) → Each (named_columns s) (λ a. seen_at f a ≡ seen_at g a) → TermBy f s t → TermBy g s t
term_same f g (Column a) t h e = e ∙ ap Var (h a (here refl))
term_same f g (Literal u) t h e = e
term_same f g (Converted code args) t h e = e ∙ ap (λ (xs : List ℕ). Call code xs) (map_same (seen_at f) (seen_at g) args h)

-- ---- a line

-- the variables of its target column
abbrev pub ys_of : List Occurrence → Line → List ℕ
ys_of Q l = with_unlike eqb [] (column_of l.target Q)

-- the occurrences that differ in the columns that it names
abbrev pub os_of : List Occurrence → Line → List Occurrence
os_of P l = with_unlike (is_like (named_columns l.source)) [] P

variable_stands : (Q : List Occurrence) (l : Line) (y : ℕ) → y ∈ ys_of Q l → (o : Occurrence) × (o ∈ Q) × (o.table ≡ l.target.table) × (variable_in o l.target.column ≡ y)
variable_stands Q l y m = elim (from_unlike eqb [] (column_of l.target Q) m) [
  | inl n ↦ elim n [ ]
  | inr n ↦
      let r = from_map (λ (o : Occurrence). variable_in o l.target.column) (filter (is_of l.target.table) Q) n in
      let q = from_filter (is_of l.target.table) Q r.1 in
      (r.0, q.0, eqb-true r.0.table l.target.table q.1, r.2)
]

stands_variable : (Q : List Occurrence) (l : Line) (o : Occurrence) (y : ℕ) → o ∈ Q → o.table ≡ l.target.table → variable_in o l.target.column ≡ y → y ∈ ys_of Q l
stands_variable Q l o y m t v =
    let n = in_map (λ (p : Occurrence). variable_in p l.target.column) (to_filter (is_of l.target.table) Q m (eq-eqb o.table l.target.table t)) in
    let r = to_unlike eqb (λ x. eq-eqb x x refl) [] (column_of l.target Q) n in
    subst (λ (z : ℕ). z ∈ ys_of Q l) (eqb-true r.0 (variable_in o l.target.column) r.2 ∙ v) r.1

-- what f chooses, by the first that is like it
abbrev rep : List Occurrence → Line → (ℕ → Occurrence) → ℕ → Occurrence
rep P l f t = first_like (is_like (named_columns l.source)) (os_of P l) (f t)

rep_is : (P : List Occurrence) (l : Line) (f : ℕ → Occurrence) → Each (named_columns l.source) (ChoosesOf P f) → (a : Place) → a ∈ named_columns l.source
    → (rep P l f a.table ∈ os_of P l) × ((rep P l f a.table).table ≡ a.table) × (seen_at (rep P l f) a ≡ seen_at f a)
rep_is P l f h a m =
    let p = h a m in
    let r = to_unlike (is_like (named_columns l.source)) (like_itself (named_columns l.source)) [] P p.0 in
    let k = first_like_is (is_like (named_columns l.source)) (os_of P l) (f a.table) (to_any (λ (y : Occurrence). is_like (named_columns l.source) y (f a.table)) (os_of P l) r.1 r.2) in
    let s = like_shows (named_columns l.source) (rep P l f a.table) (f a.table) a k.1 p.1 m in
    (k.0, s.0, s.1)

from_line_tried : (P Q : List Occurrence) (l : Line) (k : Pick) → k ∈ tried l.source (ys_of Q l) (os_of P l) (named_columns l.source) [] → k ∈ line_ways P Q l
from_line_tried P Q l k m =
    let g = from_tried l.source (ys_of Q l) (os_of P l) (named_columns l.source) [] k m in
    let c = g.0 in
    let t = from_flat_map (λ (u : Term). map (λ (y : ℕ). pick y u) (ys_of Q l)) (term_by l.source c) g.2 in
    let y = from_map (λ (z : ℕ). pick z t.0) (ys_of Q l) t.2 in
    let o = variable_stands Q l y.0 y.1 in
    let i : Inside (os_of P l) c = g.1.inside (λ p n. elim n [ ]) in
    let h = first_chosen (os_of P l) c (named_columns l.source) i g.1.has in
    to_line P Q l k (record {
      target = o.0;
      is_in = o.1;
      is_there = o.2;
      has = o.3 ∙ ap (λ (j : Pick). j.variable) y.2;
      choice = first_of c;
      chosen = λ a n. let q = h a n in (elim (from_unlike (is_like (named_columns l.source)) [] P q.0) [ inl z ↦ elim z [ ] | inr z ↦ z ], q.1);
      term = subst (TermBy (first_of c) l.source) (ap (λ (j : Pick). j.term) y.2) (from_term_by c l.source t.0 t.1);
    })

to_line_tried : (P Q : List Occurrence) (l : Line) (k : Pick) → IsLineWay P Q l k → k ∈ tried l.source (ys_of Q l) (os_of P l) (named_columns l.source) []
to_line_tried P Q l k w =
    let f = rep P l w.choice in
    let chosen : Each (named_columns l.source) (ChoosesOf (os_of P l) f) = λ a m. let r = rep_is P l w.choice w.chosen a m in (r.0, r.1) in
    let g = to_tried l.source (ys_of Q l) (os_of P l) (named_columns l.source) f [] chosen (λ o m. elim m [ ]) in
    let t : TermBy f l.source k.term = term_same w.choice f l.source k.term (λ a m. sym (rep_is P l w.choice w.chosen a m).2) w.term in
    let u = to_term_by g.0 f l.source k.term (seen_by g.0 f (named_columns l.source) g.1.has g.2) t in
    let y = stands_variable Q l w.target k.variable w.is_in w.is_there w.has in
    g.3 k (in_flat_map (λ (v : Term). map (λ (z : ℕ). pick z v) (ys_of Q l)) u (in_map (λ (z : ℕ). pick z k.term) y))

-- what is tried is put in with the same outcome
pub line_same : (P Q : List Occurrence) (l : Line) (out : List Pick) (places : List Place) (ys : List ℕ) (os c : List Occurrence) → PicksAscend out → places ≡ named_columns l.source → ys ≡ ys_of Q l
    → os ≡ with_unlike (is_like places) [] P → c ≡ [] → put_all out (tried l.source ys os places c) ≡ put_all out (line_ways P Q l)
line_same P Q l out places ys os c a n e d b = rw (d, e, n, b)
    (all_same out (tried l.source (ys_of Q l) (os_of P l) (named_columns l.source) []) (line_ways P Q l) a (λ k. (from_line_tried P Q l k, (λ m. to_line_tried P Q l k (from_line P Q l k m)))))

-- where nothing is given, nothing is put in
nothing : (out xs : List Pick) → PicksAscend out → ((k : Pick) → ¬ (k ∈ xs)) → out ≡ put_all out xs
nothing out xs a n = all_same out [] xs a (λ k. ((λ m. elim m [ ]), (λ m. absurd (n k m))))

pub literal_none : (P Q : List Occurrence) (l : Line) (u : List ℕ) (out : List Pick) → PicksAscend out → l.source ≡ Literal u → out ≡ put_all out (line_ways P Q l)
literal_none P Q l u out a e = nothing out (line_ways P Q l) a (λ k m. let w = from_line P Q l k m in no w.choice l.source k.term e w.term)
  where
    no : (f : ℕ → Occurrence) (s : Origin) (t : Term) → s ≡ Literal u → ¬ (TermBy f s t)
    no f (Column b) t d h = absurd (cc)
    no f (Literal v) t d h = h
    no f (Converted code args) t d h = absurd (cc)

pub no_variables : (P Q : List Occurrence) (l : Line) (out : List Pick) (ys : List ℕ) → PicksAscend out → ys ≡ ys_of Q l → ys ≡ [] → out ≡ put_all out (line_ways P Q l)
no_variables P Q l out ys a e d = nothing out (line_ways P Q l) a (λ k m.
    let w = from_line P Q l k m in
    none k.variable (subst (λ (zs : List ℕ). k.variable ∈ zs) (sym e ∙ d) (stands_variable Q l w.target k.variable w.is_in w.is_there w.has)))
  where
    none : (y : ℕ) → ¬ (y ∈ [])
    none y m = elim m [ ]

pub no_tables : (P Q : List Occurrence) (l : Line) (out : List Pick) (places : List Place) (os : List Occurrence) → PicksAscend out → places ≡ named_columns l.source → os ≡ with_unlike (is_like places) [] P
    → has_tables os places ≡ false → out ≡ put_all out (line_ways P Q l)
no_tables P Q l out places os a n e f = nothing out (line_ways P Q l) a (λ k m.
    let w = from_line P Q l k m in
    let t : has_tables (os_of P l) (named_columns l.source) ≡ true = all_true (λ (b : Place). list_any (is_of b.table) (os_of P l)) (named_columns l.source) (λ b i.
    let r = rep_is P l w.choice w.chosen b i in
    to_any (is_of b.table) (os_of P l) r.0 (eq-eqb (rep P l w.choice b.table).table b.table r.1)) in
    true≢false (sym t ∙ (rw (e, n) at f)))

-- ---- steps of loops

-- what is put in first leaves the rest
pub rest_same : (out new a b whole : List Pick) → put_all out (a ++ b) ≡ whole → new ≡ put_all out a → put_all new b ≡ whole
rest_same out new a b whole e n = rw (n) (sym (all_append out a b) ∙ e)

-- what is too many at once is too many at the end
pub rest_many : (out a b whole : List Pick) → put_all out (a ++ b) ≡ whole → 64 < length (put_all out a) → 64 < length whole
rest_many out a b whole e m =
    let g = all_grows (put_all out a) b in
    let d : length (put_all (put_all out a) b) ≡ length whole = ap length (sym (all_append out a b) ∙ e) in
    omega (arith, g, d, m)

pub picks_are : (s : Origin) (ys : List ℕ) (c : List Occurrence) (t : Term) → one_or_none (Some t) ≡ term_by s c → picks_by s ys c ≡ map (λ y. pick y t) ys
picks_are s ys c t e = rw (← e) (append-nil (map (λ y. pick y t) ys))

pub variable_next : (ys : List ℕ) (i y : ℕ) (t : Term) → i < length ys → y ≡ get_or ys i 0 → map (λ z. pick z t) (drop i ys) ≡ (pick y t ∷ []) ++ map (λ z. pick z t) (drop (i + 1) ys)
variable_next ys i y t h e = rw (drop_more ys i 0 h, ← e) refl

pub tried_here : {R : Type 0} (seen : R → Occurrence) (F : List Occurrence → List Pick) (t : ℕ) (c : List Occurrence) (rs : List R) (i : ℕ) (r : R) → i < length rs → r ≡ get_or rs i r → is_of t (seen r) ≡ true
    → flat_map F (map (λ o. o ∷ c) (filter (is_of t) (map seen (drop i rs)))) ≡ F (seen r ∷ c) ++ flat_map F (map (λ o. o ∷ c) (filter (is_of t) (map seen (drop (i + 1) rs))))
tried_here seen F t c rs i r h e y = rw (drop_more rs i r h, ← e, y) refl

pub tried_past : {R : Type 0} (seen : R → Occurrence) (F : List Occurrence → List Pick) (t : ℕ) (c : List Occurrence) (rs : List R) (i : ℕ) (r : R) → i < length rs → r ≡ get_or rs i r → is_of t (seen r) ≡ false
    → flat_map F (map (λ o. o ∷ c) (filter (is_of t) (map seen (drop i rs)))) ≡ flat_map F (map (λ o. o ∷ c) (filter (is_of t) (map seen (drop (i + 1) rs))))
tried_past seen F t c rs i r h e n = rw (drop_more rs i r h, ← e, n) refl

-- one choice more
pub tried_step : {R : Type 0} (seen : R → Occurrence) (s : Origin) (ys : List ℕ) (P : List Occurrence) (more : List Place) (t : ℕ) (c c1 : List Occurrence) (rs : List R) (i : ℕ) (r : R) (out new whole : List Pick)
    → i < length rs → r ≡ get_or rs i r → is_of t (seen r) ≡ true → c1 ≡ seen r ∷ c → new ≡ put_all out (tried s ys P more c1)
    → put_all out (flat_map (tried s ys P more) (map (λ o. o ∷ c) (filter (is_of t) (map seen (drop i rs))))) ≡ whole
    → put_all new (flat_map (tried s ys P more) (map (λ o. o ∷ c) (filter (is_of t) (map seen (drop (i + 1) rs))))) ≡ whole
tried_step seen s ys P more t c c1 rs i r out new whole h e y d n k =
    rest_same out new (tried s ys P more (seen r ∷ c)) (flat_map (tried s ys P more) (map (λ o. o ∷ c) (filter (is_of t) (map seen (drop (i + 1) rs))))) whole
    (ap (put_all out) (sym (tried_here seen (tried s ys P more) t c rs i r h e y)) ∙ k) (n ∙ ap (λ z. put_all out (tried s ys P more z)) d)

pub tried_many : {R : Type 0} (seen : R → Occurrence) (s : Origin) (ys : List ℕ) (P : List Occurrence) (more : List Place) (t : ℕ) (c c1 : List Occurrence) (rs : List R) (i : ℕ) (r : R) (out whole : List Pick)
    → i < length rs → r ≡ get_or rs i r → is_of t (seen r) ≡ true → c1 ≡ seen r ∷ c
    → put_all out (flat_map (tried s ys P more) (map (λ o. o ∷ c) (filter (is_of t) (map seen (drop i rs))))) ≡ whole
    → 64 < length (put_all out (tried s ys P more c1)) → 64 < length whole
tried_many seen s ys P more t c c1 rs i r out whole h e y d k m =
    rest_many out (tried s ys P more (seen r ∷ c)) (flat_map (tried s ys P more) (map (λ o. o ∷ c) (filter (is_of t) (map seen (drop (i + 1) rs))))) whole
    (ap (put_all out) (sym (tried_here seen (tried s ys P more) t c rs i r h e y)) ∙ k) (rw (d) at m)

pub tried_skip : {R : Type 0} (seen : R → Occurrence) (s : Origin) (ys : List ℕ) (P : List Occurrence) (more : List Place) (t : ℕ) (c : List Occurrence) (rs : List R) (i : ℕ) (r : R) (out new whole : List Pick)
    → i < length rs → r ≡ get_or rs i r → is_of t (seen r) ≡ false → new ≡ out
    → put_all out (flat_map (tried s ys P more) (map (λ o. o ∷ c) (filter (is_of t) (map seen (drop i rs))))) ≡ whole
    → put_all new (flat_map (tried s ys P more) (map (λ o. o ∷ c) (filter (is_of t) (map seen (drop (i + 1) rs))))) ≡ whole
tried_skip seen s ys P more t c rs i r out new whole h e f n k = rw (n) (ap (put_all out) (sym (tried_past seen (tried s ys P more) t c rs i r h e f)) ∙ k)

-- one variable more
pub variable_many : (ys : List ℕ) (t u : Term) (i y : ℕ) (out whole : List Pick) → u ≡ t → i < length ys → y ≡ get_or ys i 0
    → put_all out (map (λ z. pick z t) (drop i ys)) ≡ whole → 64 < length (put_in (pick y u) out) → 64 < length whole
variable_many ys t u i y out whole d h g k m =
    rest_many out (pick y t ∷ []) (map (λ z. pick z t) (drop (i + 1) ys)) whole (ap (put_all out) (sym (variable_next ys i y t h g)) ∙ k) (rw (d) at m)

pub line_next : (P Q : List Occurrence) (lines : List Line) (i : ℕ) (l : Line) → i < length lines → l ≡ get_or lines i l
    → flat_map (line_ways P Q) (drop i lines) ≡ line_ways P Q l ++ flat_map (line_ways P Q) (drop (i + 1) lines)
line_next P Q lines i l h e = rw (drop_more lines i l h, ← e) refl

pub lines_done : (P Q : List Occurrence) (lines : List Line) (i : ℕ) (out whole : List Pick) → length lines ≤ i → put_all out (flat_map (line_ways P Q) (drop i lines)) ≡ whole → out ≡ whole
lines_done P Q lines i out whole h e = rw (drop_all i lines h) at e

pub ways_found : (P Q : List Occurrence) (lines : List Line) → put_all [] (flat_map (line_ways P Q) lines) ≡ ways lines P Q
ways_found P Q lines = all_is_ascending (flat_map (line_ways P Q) lines)

pub line_many : (P Q : List Occurrence) (lines : List Line) (i : ℕ) (l : Line) (out : List Pick) → i < length lines → l ≡ get_or lines i l
    → put_all out (flat_map (line_ways P Q) (drop i lines)) ≡ put_all [] (flat_map (line_ways P Q) lines) → 64 < length (put_all out (line_ways P Q l)) → 64 < length (ways lines P Q)
line_many P Q lines i l out h e k m =
    rest_many out (line_ways P Q l) (flat_map (line_ways P Q) (drop (i + 1) lines)) (ways lines P Q)
    (ap (put_all out) (sym (line_next P Q lines i l h e)) ∙ (k ∙ ways_found P Q lines)) m

pub line_step : (P Q : List Occurrence) (lines : List Line) (i : ℕ) (l : Line) (out new whole : List Pick) → i < length lines → l ≡ get_or lines i l → new ≡ put_all out (line_ways P Q l)
    → put_all out (flat_map (line_ways P Q) (drop i lines)) ≡ whole → put_all new (flat_map (line_ways P Q) (drop (i + 1) lines)) ≡ whole
line_step P Q lines i l out new whole h e n k =
    rest_same out new (line_ways P Q l) (flat_map (line_ways P Q) (drop (i + 1) lines)) whole (ap (put_all out) (sym (line_next P Q lines i l h e)) ∙ k) n

pub still_ascends : (P Q : List Occurrence) (l : Line) (out new : List Pick) → PicksAscend out → new ≡ put_all out (line_ways P Q l) → PicksAscend new
still_ascends P Q l out new a n = rw (n) (all_ascends out (line_ways P Q l) a)
