-- Rules see of an instance the columns that they use, and nothing else.
use Rattle.std.proofs.Common.{◌≡◌, ℕ, zero, suc, ◌+◌, ◌≤◌, ◌⊎◌, Bool, true, false, cond, eqb, List, [], ◌∷◌, ◌++◌, inl, inr, refl, sym, ◌∙◌, ap, subst, arith}
use Rattle.std.specs.Prelude.{map}
use Rattle.std.proofs.lemmas.Bool.{eqb-true, eq-eqb, ne_eqb, cases_Bool}
use Rattle.dx_model.specs.declared.values.Value.{Value}
use Rattle.dx_model.specs.declared.values.Value.TheVariants.{Const, Null}
use Rattle.dx_model.specs.declared.facts.Fact.{Fact}
use Rattle.dx_model.specs.declared.rules.Cell.{Cell}
use Rattle.dx_model.specs.declared.rules.Cell.TheVariants.{Var, Ex, Lit}
use Rattle.dx_model.specs.declared.rules.Atom.{Atom}
use Rattle.dx_model.specs.declared.rules.Derived.{Derived}
use Rattle.dx_model.specs.declared.rules.Rule.{Rule}
use Rattle.dx_base.specs.Members.{◌∈◌, here, there}
use Rattle.dx_base.proofs.Members.{in_map, from_map, in_flat_map, same_sym}
use Rattle.dx_base.proofs.Tests.{map_same}
use Rattle.dx_model.specs.Values.{Tuple, Conversions}
use Rattle.dx_base.specs.Texts.{Text}
use Rattle.dx_model.specs.Rules.{cell_value, premise_fact, after_cells, cells_of, Derive, IsMatch, exported, IsRows, Satisfies}
use Rattle.dx_model.proofs.Canonical.{from_variables}
use Rattle.dx_model.proofs.RowsExist.{below_after}
use Rattle.dx_model.proofs.Universal.{said_same}
use Rattle.dx_used.specs.Used.{times, arguments, mentions, CellsIdle, Marks, marks_at, UsesOnly, blank, blanked, fact_blanked, AgreeOnUsed}
use Rattle.dx_used.specs.Laws.{SameRows, SameTargets, SameSolutions, SameUniversal}

-- ---- how often a variable stands

pub times-append : (x : ℕ) (cs ds : List Cell) → times x (cs ++ ds) ≡ times x cs + times x ds
times-append x [] ds = omega arith
times-append x (Var y ∷ cs) ds = let r = times-append x cs ds in elim (cases_Bool (eqb x y)) [ inl t ↦ rw t (omega (arith, r)) | inr f ↦ rw f r ]
times-append x (Ex v ∷ cs) ds = times-append x cs ds
times-append x (Lit t ∷ cs) ds = times-append x cs ds

times-cons : (x : ℕ) (c : Cell) (cs : List Cell) → times x (c ∷ cs) ≡ times x (c ∷ []) + times x cs
times-cons x c cs = times-append x (c ∷ []) cs

times-self : (x : ℕ) (cs : List Cell) → times x (Var x ∷ cs) ≡ suc (times x cs)
times-self x cs = rw (eq-eqb x x refl) refl

times-member : (x : ℕ) (cs : List Cell) → Var x ∈ cs → 1 ≤ times x cs
times-member x [] m = elim m [ ]
times-member x (c ∷ cs) (here e) = rw e (let s = times-self x cs in omega (arith, s))
times-member x (c ∷ cs) (there m) = let h = times-member x cs m in let s = times-cons x c cs in omega (arith, h, s)

times-in : (x : ℕ) (cs : List Cell) → 1 ≤ times x cs → Var x ∈ cs
times-in x [] h = absurd (omega (arith, h))
times-in x (Var y ∷ cs) h = elim (cases_Bool (eqb x y)) [
  | inl t ↦ here (ap Var (sym (eqb-true x y t)))
  | inr f ↦ there (times-in x cs (subst (λ b. 1 ≤ cond b (suc (times x cs)) (times x cs)) f h))
]
times-in x (Ex v ∷ cs) h = there (times-in x cs h)
times-in x (Lit t ∷ cs) h = there (times-in x cs h)

zero_or : (n : ℕ) → (n ≡ 0) ⊎ (1 ≤ n)
zero_or zero = inl refl
zero_or (suc n) = inr (omega arith)

-- ---- idle cells, among any cells

-- the cells in columns that are not used are variables that stand once among all
Once : List Bool → List Cell → List Cell → Type 0
Once [] cells all = Unit {0}
Once (u ∷ used) [] all = Unit {0}
Once (true ∷ used) (c ∷ cells) all = Once used cells all
Once (false ∷ used) (c ∷ cells) all = ((x : ℕ) × (c ≡ Var x) × (times x all ≡ 1)) × Once used cells all

once_idle : (d : Rule) (used : List Bool) (cells : List Cell) → CellsIdle d used cells → Once used cells (mentions d)
unfolding Once
once_idle d [] cells i = tt
once_idle d (u ∷ used) [] i = tt
once_idle d (true ∷ used) (c ∷ cells) i = once_idle d used cells i
once_idle d (false ∷ used) (c ∷ cells) i = (i.0, once_idle d used cells i.1)

once_same : (used : List Bool) (cells A B : List Cell) → ((x : ℕ) → times x A ≡ times x B) → Once used cells A → Once used cells B
unfolding Once
once_same [] cells A B s o = tt
once_same (u ∷ used) [] A B s o = tt
once_same (true ∷ used) (c ∷ cells) A B s o = once_same used cells A B s o
once_same (false ∷ used) (c ∷ cells) A B s o = ((o.0.0, o.0.1, sym (s o.0.0) ∙ o.0.2), once_same used cells A B s o.1)

-- ---- one row

abbrev value_in : (ℕ → Text) → Cell → Value
value_in texts c = cell_value texts (λ _. Const []) c

-- texts stay for the variables of some cells, and for all that do not stand in some others
record Keeps (cells rest : List Cell) (texts new : ℕ → Text) : Type 0 where
  pub after : (x : ℕ) → 1 ≤ times x rest → new x ≡ texts x
  pub elsewhere : (x : ℕ) → times x cells ≡ 0 → new x ≡ texts x

values_same : (a b : ℕ → Text) (cs : List Cell) → ((x : ℕ) → Var x ∈ cs → a x ≡ b x) → map (value_in a) cs ≡ map (value_in b) cs
values_same a b cs s = ap (λ (f : Fact). f.row) (said_same a b (λ _. Const []) (record { table = 0; cells = cs }) s)

value_kept : (c : Cell) (R : List Cell) (texts new : ℕ → Text) → ((x : ℕ) → 1 ≤ times x (c ∷ R) → new x ≡ texts x) → value_in new c ≡ value_in texts c
value_kept (Var x) R texts new k = ap Const (k x (let s = times-self x R in omega (arith, s)))
value_kept (Ex v) R texts new k = refl
value_kept (Lit t) R texts new k = refl

moved_one : (c : Cell) (cs R : List Cell) (x : ℕ) → times x ((c ∷ cs) ++ R) ≡ times x (cs ++ (c ∷ R))
moved_one c cs R x =
    let a = times-append x (c ∷ cs) R in
    let b = times-append x cs (c ∷ R) in
    let p = times-cons x c cs in
    let q = times-cons x c R in
    omega (arith, a, b, p, q)

-- texts with another one for a variable
with_text : (ℕ → Text) → ℕ → Text → ℕ → Text
with_text texts x t y = cond (eqb y x) t (texts y)

with_here : (texts : ℕ → Text) (x : ℕ) (t : Text) → with_text texts x t x ≡ t
unfolding with_text
with_here texts x t = rw (eq-eqb x x refl) refl

with_there : (texts : ℕ → Text) (x : ℕ) (t : Text) (y : ℕ) → ¬ (y ≡ x) → with_text texts x t y ≡ texts y
unfolding with_text
with_there texts x t y n = rw (ne_eqb y x n) refl

abbrev Refitted : List Cell → List Value → List Cell → (ℕ → Text) → Type 0
Refitted cs row R texts = (new : ℕ → Text) × (map (value_in new) cs ≡ row) × Keeps cs R texts new

tails : (v w : Value) (r s : List Value) → v ∷ r ≡ w ∷ s → r ≡ s
tails v w r s e = cc e

heads : (v w : Value) (r s : List Value) → v ∷ r ≡ w ∷ s → v ≡ w
heads v w r s e = cc e

both_are : (v w : Value) (r s : List Value) → v ≡ w → r ≡ s → v ∷ r ≡ w ∷ s
both_are v w r s e f = cc

more_rest : (c : Cell) (R : List Cell) (x : ℕ) → 1 ≤ times x R → 1 ≤ times x (c ∷ R)
more_rest c R x h = let s = times-cons x c R in omega (arith, h, s)

less_cells : (c : Cell) (cs : List Cell) (x : ℕ) → times x (c ∷ cs) ≡ 0 → times x cs ≡ 0
less_cells c cs x h = let s = times-cons x c cs in omega (arith, h, s)

-- the constant of which nothing is left but that it is one
a_constant : (v : Value) → Const [] ≡ blank v → (t : Text) × (v ≡ Const t)
a_constant (Const t) e = (t, refl)
a_constant (Null n) e = absurd (cc e)

-- a cell in a column that is used
used_cell : (c : Cell) (cs : List Cell) (v : Value) (row : List Value) (R : List Cell) (texts : ℕ → Text) → value_in texts c ≡ v → Refitted cs row (c ∷ R) texts → Refitted (c ∷ cs) (v ∷ row) R texts
used_cell c cs v row R texts e r = (
  r.0,
  both_are _ _ _ _ (value_kept c R texts r.0 r.2.after ∙ e) r.1,
  record { after = λ x h. r.2.after x (more_rest c R x h); elsewhere = λ x h. r.2.elsewhere x (less_cells c cs x h) },
)

-- a cell in a column that is not
idle_cell : (x : ℕ) (cs : List Cell) (t : Text) (row : List Value) (R : List Cell) (texts : ℕ → Text) → times x ((Var x ∷ cs) ++ R) ≡ 1 → Refitted cs row (Var x ∷ R) texts
    → Refitted (Var x ∷ cs) (Const t ∷ row) R texts
idle_cell x cs t row R texts o r =
    let new : ℕ → Text = with_text r.0 x t in
    let all = times-self x (cs ++ R) in
    let both = times-append x cs R in
    let none : times x cs ≡ 0 = omega (arith, o, all, both) in
    let none_after : times x R ≡ 0 = omega (arith, o, all, both) in (
      new,
      both_are _ _ _ _ (ap Const (with_here r.0 x t)) (values_same new r.0 cs (λ y m. with_there r.0 x t y (other_in y m none)) ∙ r.1),
      record {
        after = λ y h. with_there r.0 x t y (other_there y h none_after) ∙ r.2.after y (more_rest (Var x) R y h);
        elsewhere = λ y h. with_there r.0 x t y (other y h) ∙ r.2.elsewhere y (less_cells (Var x) cs y h);
      },
    )
  where
    other_in : (y : ℕ) → Var y ∈ cs → times x cs ≡ 0 → ¬ (y ≡ x)
    other_in y m n e = let h : 1 ≤ times x cs = subst (λ z. 1 ≤ times z cs) e (times-member y cs m) in omega (arith, h, n)

    other_there : (y : ℕ) → 1 ≤ times y R → times x R ≡ 0 → ¬ (y ≡ x)
    other_there y h n e = let k : 1 ≤ times x R = subst (λ z. 1 ≤ times z R) e h in omega (arith, k, n)

    other : (y : ℕ) → times y (Var x ∷ cs) ≡ 0 → ¬ (y ≡ x)
    other y h e = let k : times x (Var x ∷ cs) ≡ 0 = subst (λ z. times z (Var x ∷ cs) ≡ 0) e h in let s = times-self x cs in omega (arith, k, s)

refit_row : (used : List Bool) (cs : List Cell) (row : List Value) (R : List Cell) (texts : ℕ → Text) → Once used cs (cs ++ R)
    → blanked used (map (value_in texts) cs) ≡ blanked used row → Refitted cs row R texts
unfolding Once
refit_row [] cs row R texts o e = (texts, e, record { after = λ x h. refl; elsewhere = λ x h. refl })
refit_row (u ∷ used) [] [] R texts o e = (texts, refl, record { after = λ x h. refl; elsewhere = λ x h. refl })
refit_row (true ∷ used) [] (v ∷ row) R texts o e = absurd (cc e)
refit_row (false ∷ used) [] (v ∷ row) R texts o e = absurd (cc e)
refit_row (true ∷ used) (c ∷ cs) [] R texts o e = absurd (cc e)
refit_row (false ∷ used) (c ∷ cs) [] R texts o e = absurd (cc e)
refit_row (true ∷ used) (c ∷ cs) (v ∷ row) R texts o e =
    let r = refit_row used cs row (c ∷ R) texts (once_same used cs ((c ∷ cs) ++ R) (cs ++ (c ∷ R)) (moved_one c cs R) o) (tails _ _ _ _ e) in
    used_cell c cs v row R texts (heads _ _ _ _ e) r
refit_row (false ∷ used) (c ∷ cs) (v ∷ row) R texts o e =
    let r = refit_row used cs row (c ∷ R) texts (once_same used cs ((c ∷ cs) ++ R) (cs ++ (c ∷ R)) (moved_one c cs R) o.1) (tails _ _ _ _ e) in
    idle o.0.0 o.0.1 o.0.2 r
  where
    idle : (x : ℕ) → c ≡ Var x → times x ((c ∷ cs) ++ R) ≡ 1 → Refitted cs row (c ∷ R) texts → Refitted (c ∷ cs) (v ∷ row) R texts
    idle x k n r =
        let t = a_constant v (subst (λ (b : Cell). blank (value_in texts b) ≡ blank v) k (heads _ _ _ _ e)) in
        subst (λ (b : Cell). Refitted (b ∷ cs) (v ∷ row) R texts) (sym k)
        (subst (λ w. Refitted (Var x ∷ cs) (w ∷ row) R texts) (sym t.1)
        (idle_cell x cs t.0 row R texts (subst (λ (b : Cell). times x ((b ∷ cs) ++ R) ≡ 1) k n) (subst (λ (b : Cell). Refitted cs row (b ∷ R) texts) k r)))

-- ---- all atoms of a premise

-- a fact of J that agrees with the one that the atom says
abbrev Meets : Marks → List Fact → (ℕ → Text) → Atom → Type 0
Meets used J texts a =
    (g : Fact) × (g ∈ J) × (g.table ≡ a.table) × (blanked (marks_at used a.table) (map (value_in texts) a.cells) ≡ blanked (marks_at used a.table) g.row)

moved_atom : (cs ds R : List Cell) (x : ℕ) → times x ((cs ++ ds) ++ R) ≡ times x (ds ++ (cs ++ R))
moved_atom cs ds R x =
    let a = times-append x (cs ++ ds) R in
    let b = times-append x cs ds in
    let p = times-append x ds (cs ++ R) in
    let q = times-append x cs R in
    omega (arith, a, b, p, q)

grouped : (cs ds R : List Cell) (x : ℕ) → times x ((cs ++ ds) ++ R) ≡ times x (cs ++ (ds ++ R))
grouped cs ds R x =
    let a = times-append x (cs ++ ds) R in
    let b = times-append x cs ds in
    let p = times-append x cs (ds ++ R) in
    let q = times-append x ds R in
    omega (arith, a, b, p, q)

in_front : (cs R : List Cell) (x : ℕ) → 1 ≤ times x cs → 1 ≤ times x (cs ++ R)
in_front cs R x h = let s = times-append x cs R in omega (arith, h, s)

in_rest : (cs R : List Cell) (x : ℕ) → 1 ≤ times x R → 1 ≤ times x (cs ++ R)
in_rest cs R x h = let s = times-append x cs R in omega (arith, h, s)

front_none : (cs ds : List Cell) (x : ℕ) → times x (cs ++ ds) ≡ 0 → times x cs ≡ 0
front_none cs ds x h = let s = times-append x cs ds in omega (arith, h, s)

rest_none : (cs ds : List Cell) (x : ℕ) → times x (cs ++ ds) ≡ 0 → times x ds ≡ 0
rest_none cs ds x h = let s = times-append x cs ds in omega (arith, h, s)

said_fact : (J : List Fact) (g : Fact) (a : Atom) (texts : ℕ → Text) → g ∈ J → g.table ≡ a.table → map (value_in texts) a.cells ≡ g.row → premise_fact texts a ∈ J
said_fact J g a texts m t r =
    let e : g ≡ premise_fact texts a = (λ j. record { table = t j; row = (sym r) j }) in
    subst (λ f. f ∈ J) e m

abbrev AllRefitted : List Fact → List Atom → List Cell → (ℕ → Text) → Type 0
AllRefitted J atoms R texts = (new : ℕ → Text) × ((a : Atom) → a ∈ atoms → premise_fact new a ∈ J) × Keeps (cells_of atoms) R texts new

refit_atoms : (used : Marks) (J : List Fact) (atoms : List Atom) (R : List Cell) (texts : ℕ → Text)
    → ((a : Atom) → a ∈ atoms → Once (marks_at used a.table) a.cells (cells_of atoms ++ R)) → ((a : Atom) → a ∈ atoms → Meets used J texts a) → AllRefitted J atoms R texts
refit_atoms used J [] R texts o w = (texts, (λ a m. elim m [ ]), record { after = λ x h. refl; elsewhere = λ x h. refl })
refit_atoms used J (a ∷ atoms) R texts o w =
    let marks : List Bool = marks_at used a.table in
    let r = refit_atoms used J atoms (a.cells ++ R) texts
    (λ b m. once_same (marks_at used b.table) b.cells _ _ (moved_atom a.cells (cells_of atoms) R) (o b (there m))) (λ b m. w b (there m)) in
    let g = w a (here refl) in
    let stays : map (value_in r.0) a.cells ≡ map (value_in texts) a.cells =
    values_same r.0 texts a.cells (λ x m. r.2.after x (in_front a.cells R x (times-member x a.cells m))) in
    let s = refit_row marks a.cells g.0.row (cells_of atoms ++ R) r.0
    (once_same marks a.cells _ _ (grouped a.cells (cells_of atoms) R) (o a (here refl))) (ap (blanked marks) stays ∙ g.3) in (
      s.0,
      (λ b m. elim m [
        | here e ↦ subst (λ c. premise_fact s.0 c ∈ J) e (said_fact J g.0 a s.0 g.1 g.2 s.1)
        | there k ↦ subst (λ f. f ∈ J) (sym (said_same s.0 r.0 (λ _. Const []) b
            (λ x n. s.2.after x (in_front (cells_of atoms) R x (times-member x (cells_of atoms) (in_flat_map (λ (c : Atom). c.cells) k n)))))) (r.1 b k)
      ]),
      record {
        after = λ x h. s.2.after x (in_rest (cells_of atoms) R x h) ∙ r.2.after x (in_rest a.cells R x h);
        elsewhere = λ x h. s.2.elsewhere x (front_none a.cells (cells_of atoms) x h) ∙ r.2.elsewhere x (rest_none a.cells (cells_of atoms) x h);
      },
    )

-- ---- matches

derive_kept : (convert : Conversions) (texts new : ℕ → Text) (n : ℕ) (ds : List Derived) → ((i : ℕ) → n ≤ i → new i ≡ texts i)
    → ((e : Derived) → e ∈ ds → (x : ℕ) → x ∈ e.args → new x ≡ texts x) → Derive convert texts n ds → Derive convert new n ds
derive_kept convert texts new n [] k g d = tt
derive_kept convert texts new n (e ∷ ds) k g d = (
  k n (omega arith) ∙ (d.0 ∙ ap (convert e.code) (map_same texts new e.args (λ x m. sym (g e (here refl) x m)))),
  derive_kept convert texts new (suc n) ds (λ i h. k i (omega (arith, h))) (λ f m. g f (there m)) d.1,
)

module _ (convert : Conversions) (used : Marks) (d : Rule) (I J : List Fact) (only : UsesOnly used d) (agree : AgreeOnUsed used I J) where
  meets : (texts : ℕ → Text) → IsMatch convert d I texts → (a : Atom) → a ∈ d.premise → Meets used J texts a
  meets texts m a k =
      let b = agree.0 _ (in_map (fact_blanked used) (m.premise a k)) in
      let g = from_map (fact_blanked used) J b in
      let t : g.0.table ≡ a.table = ap (λ (f : Fact). f.table) g.2 in
      let r : blanked (marks_at used g.0.table) g.0.row ≡ blanked (marks_at used a.table) (map (value_in texts) a.cells) = ap (λ (f : Fact). f.row) g.2 in
      (g.0, g.1, t, sym (subst (λ n. blanked (marks_at used n) g.0.row ≡ blanked (marks_at used a.table) (map (value_in texts) a.cells)) t r))

  -- a match in one has a match in the other with the same texts for the variables of the conclusion
  match_there : (texts : ℕ → Text) → IsMatch convert d I texts
      → (new : ℕ → Text) × IsMatch convert d J new × ((x : ℕ) → Var x ∈ cells_of d.conclusion → new x ≡ texts x)
  match_there texts m =
      let R : List Cell = cells_of d.conclusion ++ arguments d in
      let r = refit_atoms used J d.premise R texts (λ a k. once_idle d (marks_at used a.table) a.cells (only a k)) (meets texts m) in (
        r.0,
        record {
          premise = r.1;
          derived = derive_kept convert texts r.0 (after_cells (cells_of d.premise)) d.derived (λ i h. r.2.elsewhere i (none_after i h))
              (λ e k x n. r.2.after x (in_rest (cells_of d.conclusion) (arguments d) x (times-member x (arguments d) (in_flat_map (λ (e : Derived). map Var e.args) k (in_map Var n))))) m.derived;
        },
        λ x n. r.2.after x (in_front (cells_of d.conclusion) (arguments d) x (times-member x (cells_of d.conclusion) n)),
      )
    where
      none_after : (i : ℕ) → after_cells (cells_of d.premise) ≤ i → times i (cells_of d.premise) ≡ 0
      none_after i h = elim (zero_or (times i (cells_of d.premise))) [
        | inl z ↦ z
        | inr s ↦ absurd (let b = below_after i (cells_of d.premise) (times-in i (cells_of d.premise) s) in omega (arith, b, h))
      ]

  same_tuple : (texts new : ℕ → Text) → ((x : ℕ) → Var x ∈ cells_of d.conclusion → new x ≡ texts x) → map texts (exported d) ≡ map new (exported d)
  same_tuple texts new s = map_same texts new (exported d) (λ x n. sym (s x (from_variables x (cells_of d.conclusion) n)))

  satisfied_there : (K : List Fact) → Satisfies convert d J K → Satisfies convert d I K
  satisfied_there K s texts m =
      let w = match_there texts m in
      let v = s w.0 w.1 in
      (v.0, λ a k. subst (λ f. f ∈ K) (said_same w.0 texts v.0 a (λ x n. w.2 x (in_flat_map (λ (b : Atom). b.cells) k n))) (v.1 a k))

same_rows_of : (convert : Conversions) (used : Marks) (d : Rule) (I J : List Fact) (rows : List Tuple) → UsesOnly used d → AgreeOnUsed used I J → IsRows convert d I rows → IsRows convert d J rows
same_rows_of convert used d I J rows u a r = record {
  ascend = r.ascend;
  exact = λ t. (
    (λ m. let w = (r.exact t).0 m in let k = match_there convert used d I J u a w.0 w.1 in (k.0, k.1, w.2 ∙ same_tuple convert used d I J u a w.0 k.0 k.2)),
    (λ w. let k = match_there convert used d J I u (same_sym a) w.0 w.1 in (r.exact t).1 (k.0, k.1, w.2 ∙ same_tuple convert used d J I u (same_sym a) w.0 k.0 k.2)),
  );
}

pub same_rows : SameRows
same_rows convert used [] I J [] u a r = tt
same_rows convert used [] I J (ts ∷ rows) u a r = r
same_rows convert used (d ∷ R) I J [] u a r = r
same_rows convert used (d ∷ R) I J (ts ∷ rows) u a r =
    (same_rows_of convert used d I J ts (u d (here refl)) a r.0, same_rows convert used R I J rows (λ e m. u e (there m)) a r.1)

pub same_targets : SameTargets
same_targets convert used d I J K u a s = satisfied_there convert used d J I u (same_sym a) K s

pub same_solutions : SameSolutions
same_solutions convert used R schema I J K u a s = record {
  fits = s.fits;
  rules = λ d m. same_targets convert used d I J K (u d m) a (s.rules d m);
  keys = s.keys;
  links = s.links;
}

pub same_universal : SameUniversal
same_universal convert used R schema I J K u a s = record {
  solution = same_solutions convert used R schema I J K u a s.solution;
  into = λ L t. s.into L (same_solutions convert used R schema J I L u (same_sym a) t);
}
