-- What a script of rules means.
use Rattle.std.proofs.Common.{◌≡◌, ℕ, zero, suc, ◌+◌, ◌<◌, ◌≤◌, true, false, eqb, List, [], ◌∷◌, length, refl, sym, ◌∙◌, ap, subst, inl, inr, arith}
use Rattle.std.specs.Prelude.{map, ◌↔◌}
use Rattle.std.specs.List.{position_or_len}
use Rattle.std.proofs.lemmas.Simd.{map-map}
use Rattle.std.proofs.lemmas.Bool.{cases_Bool, eqb-false}
use Rattle.dx_model.specs.declared.values.Value.{Value}
use Rattle.dx_model.specs.declared.values.Value.TheVariants.{Const, Null}
use Rattle.dx_model.specs.declared.facts.Fact.{Fact}
use Rattle.dx_model.specs.declared.rules.Cell.{Cell}
use Rattle.dx_model.specs.declared.rules.Cell.TheVariants.{Var, Ex, Lit}
use Rattle.dx_model.specs.declared.rules.Atom.{Atom}
use Rattle.dx_model.specs.declared.rules.Rule.{Rule}
use Rattle.dx_base.specs.Members.{◌∈◌, ◌⊆◌, here, there}
use Rattle.dx_model.specs.Rules.{cell_value, fact_of_atom, cells_of, exported, text_of, IsRows, AreRows, at_place, canonical}
use Rattle.dx_model.specs.Covers.{rule_at, tuple_at}
use Rattle.dx_base.proofs.Members.{in_map, from_map, in_flat_map}
use Rattle.dx_model.proofs.Canonical.{in_variables}
use Rattle.dx_model.proofs.CoverFold.{in_canonical, from_canonical}
use Rattle.dx_script.specs.declared.form.Select.{Select}
use Rattle.dx_script.specs.declared.form.Equal.{Equal}
use Rattle.dx_script.specs.declared.form.Unless.{Unless}
use Rattle.dx_script.specs.declared.form.Step.{Step}
use Rattle.dx_script.specs.declared.form.Step.TheVariants.{Create, MatchRows, KeepRows, InsertRows}
use Rattle.dx_model.specs.Values.{Tuple, Rows, Conversions}
use Rattle.dx_base.specs.Texts.{Text}
use Rattle.dx_schema.specs.Names.{TableNames}
use Rattle.dx_funcs.specs.declared.conversion.Conversion.{Conversion}
use Rattle.dx_funcs.specs.Names.{call_named}
use Rattle.dx_script.specs.Names.{table_numbered, table_named}
use Rattle.dx_script.specs.Meaning.{match_table, in_column, HasNoPartner, IsInKeepTable, inserted, IsInserted, IsMatchTable, Means}
use Rattle.dx_script.specs.Generated.{match_step, has_parts, out_of, plain_steps, script_with}
use Rattle.dx_script.specs.Laws.{IsLeftPlace}
use Rattle.dx_base.proofs.Members.{in_at}
use Rattle.dx_base.proofs.Tests.{map_same}
use Rattle.dx_script.proofs.NameFacts.{table_number}
use Rattle.dx_script.proofs.RuleFacts.{NamesFit, WidthsFit, conclusion_fits}
use Rattle.dx_script.proofs.Parts.{a_match, a_keep, an_insert, match_in, keep_in, insert_in}
use Rattle.dx_script.proofs.MatchTables.{table_is_rows}

-- The rows of the rules, by their numbers.
abbrev pub RowsAt : Conversions → List Rule → List Fact → Rows → Type 0
RowsAt convert R I tables = (length tables ≡ length R) × ((j : ℕ) → j < length R → IsRows convert (rule_at R j) I (match_table tables j))

pub rows_at : (convert : Conversions) (R : List Rule) (I : List Fact) (tables : Rows) → AreRows convert R I tables → RowsAt convert R I tables
rows_at convert [] I [] a = (refl, λ j h. absurd (omega arith))
rows_at convert [] I (t ∷ tables) a = elim a [ ]
rows_at convert (d ∷ R) I [] a = elim a [ ]
rows_at convert (d ∷ R) I (t ∷ tables) a = let w = rows_at convert R I tables a.1 in (omega (arith, w.0), go w)
  where
    go : RowsAt convert R I tables → (j : ℕ) → j < length (d ∷ R) → IsRows convert (rule_at (d ∷ R) j) I (match_table (t ∷ tables) j)
    go w zero h = a.0
    go w (suc j) h = w.1 j (omega arith)

are_rows : (convert : Conversions) (R : List Rule) (I : List Fact) (tables : Rows) → RowsAt convert R I tables → AreRows convert R I tables
are_rows convert [] I [] w = tt
are_rows convert [] I (t ∷ tables) w = absurd (let e = w.0 in omega arith)
are_rows convert (d ∷ R) I [] w = absurd (let e = w.0 in omega arith)
are_rows convert (d ∷ R) I (t ∷ tables) w =
    (w.1 0 (omega arith), are_rows convert R I tables (omega (arith, w.0), λ j h. w.1 (suc j) (omega arith)))

-- a column of a tuple, by the number of its variable
pub column_text : (x : ℕ) (xs : List ℕ) (t : Tuple) → x ∈ xs → in_column t (position_or_len (eqb x) xs) ≡ text_of xs t x
column_text x [] t m = elim m [ ]
column_text x (y ∷ ys) [] m = refl
column_text x (y ∷ ys) (u ∷ t) m = elim (cases_Bool (eqb x y)) [
  | inl p ↦ rw p refl
  | inr f ↦
      let e : 1 + position_or_len (eqb x) ys ≡ suc (position_or_len (eqb x) ys) = omega arith in
      rw (f, e) (column_text x ys t (go f m))
]
  where
    go : eqb x y ≡ false → x ∈ (y ∷ ys) → x ∈ ys
    go f (here e) = absurd (eqb-false x y f (sym e))
    go f (there k) = k

-- what a match step says of the tables
abbrev Reads : List TableNames → (List ℕ → Tuple → Text) → List Fact → Rows → Step → Type 0
Reads source call I tables (MatchRows r select from equal) = (r < length tables) × IsMatchTable source call I select from equal (match_table tables r)
Reads source call I tables (Create table columns) = Unit {0}
Reads source call I tables (KeepRows r unless) = Unit {0}
Reads source call I tables (InsertRows table r kept cells) = Unit {0}

out_cell : (j k : ℕ) (d : Rule) (t : Tuple) (c : Cell) → c ∈ cells_of d.conclusion
    → inserted j k t (out_of d c) ≡ cell_value (text_of (exported d) t) (λ v. Null (record { rule = j; var = v; row = k })) c
out_cell j k d t (Var x) n = ap Const (column_text x (exported d) t (in_variables x (cells_of d.conclusion) n))
out_cell j k d t (Ex v) n = refl
out_cell j k d t (Lit u) n = refl

pub at_most : (a b : ℕ) → ((j : ℕ) → j < a → j < b) → a ≤ b
at_most zero b h = omega arith
at_most (suc a) b h = let k = h a (omega arith) in omega arith

module _ (source target : List TableNames) (convert : Conversions) (list : List Conversion) (keeps : ℕ → List Unless) (R : List Rule) (I : List Fact) (tables : Rows) (K : List Fact)
    (good : NamesFit source target list R) (widths : WidthsFit source I) where
  abbrev steps : List Step
  steps = script_with source target list keeps R

  call : Text → Tuple → Text
  call = call_named convert list

  rule_in : (j : ℕ) → j < length R → rule_at R j ∈ R
  rule_in j h = in_at R j _ h

  -- what an insert step of a rule makes
  makes : (j k : ℕ) (a : Atom) → j < length R → a ∈ (rule_at R j).conclusion → (t : Tuple)
      → record { table = table_named target (table_numbered target a.table).name; row = map (inserted j k t) (map (out_of (rule_at R j)) a.cells) }
      ≡ fact_of_atom (text_of (exported (rule_at R j)) t) (λ v. Null (record { rule = j; var = v; row = k })) a
  makes j k a h m t =
      let d : Rule = rule_at R j in
      let texts : ℕ → List ℕ = text_of (exported d) t in
      let values : ℕ → Value = λ v. Null (record { rule = j; var = v; row = k }) in
      let p : table_named target (table_numbered target a.table).name ≡ a.table = table_number target a.table good.target_tables (conclusion_fits source target list R d good (rule_in j h) a m).0 in
      let q : map (inserted j k t) (map (out_of d) a.cells) ≡ map (cell_value texts values) a.cells =
      map-map (inserted j k t) (out_of d) a.cells
      ∙ map_same (λ c. inserted j k t (out_of d c)) (cell_value texts values) a.cells (λ c n. out_cell j k d t c (in_flat_map (λ (b : Atom). b.cells) m n)) in
      (λ i. record { table = p i; row = q i })

  -- What the steps insert is what is left.
  left_of : length tables ≡ length R → (f : Fact) → IsInserted target steps tables f → IsLeftPlace keeps R tables f
  left_of l f s =
      let w = an_insert source target list keeps R s.table s.rule s.kept s.cells s.step in
      let d : Rule = rule_at R w.0 in
      let er : w.0 ≡ s.rule = let e = w.4 in cc in
      let ek : has_parts (keeps w.0) ≡ s.kept = let e = w.4 in cc in
      let et : (table_numbered target (w.2).table).name ≡ s.table = let e = w.4 in cc in
      let ec : map (out_of d) (w.2).cells ≡ s.cells = let e = w.4 in cc in
      let t : Tuple = tuple_at tables w.0 s.place in
      let inside : s.place < length (match_table tables w.0) = rw (er) s.within in
      let same : fact_of_atom (text_of (exported d) t) (λ v. Null (record { rule = w.0; var = v; row = s.place })) w.2 ≡ f =
      sym (makes w.0 s.place w.2 w.1 w.3 t) ∙ (rw (et, ec, er) s.is) in
      record {
        rule = w.0;
        place = s.place;
        is_place = (w.1, omega (arith, l, w.1), inside);
        no_partner = parts w.0 w.1 t (keeps w.0) refl (λ k. rw (← er) at (s.stays (rw (← ek) k)));
        fact = subst (λ g. g ∈ at_place w.0 d s.place t) same (in_map (fact_of_atom (text_of (exported d) t) (λ v. Null (record { rule = w.0; var = v; row = s.place }))) w.3);
      }
    where
      parts : (j : ℕ) → j < length R → (t : Tuple) (us : List Unless) → keeps j ≡ us → (has_parts (keeps j) ≡ true → IsInKeepTable steps tables j t) → HasNoPartner tables us t
      parts j h t [] e k = λ u m. elim m [ ]
      parts j h t (u ∷ us) e k =
          let p : has_parts (keeps j) ≡ true = ap has_parts e in
          k p (u ∷ us) (rw e at (keep_in source target list keeps R j h p))

  inserted_of : (f : Fact) → IsLeftPlace keeps R tables f → IsInserted target steps tables f
  inserted_of f s =
      let d : Rule = rule_at R s.rule in
      let t : Tuple = tuple_at tables s.rule s.place in
      let w = from_map (fact_of_atom (text_of (exported d) t) (λ v. Null (record { rule = s.rule; var = v; row = s.place }))) d.conclusion s.fact in
      record {
        table = (table_numbered target (w.0).table).name;
        rule = s.rule;
        kept = has_parts (keeps s.rule);
        cells = map (out_of d) (w.0).cells;
        step = insert_in source target list keeps R s.rule s.is_place.0 w.0 w.1;
        place = s.place;
        within = s.is_place.2;
        stays = λ k unless m. subst (λ us. HasNoPartner tables us t) (a_keep source target list keeps R s.rule unless m) s.no_partner;
        is = makes s.rule s.place w.0 s.is_place.0 w.1 t ∙ w.2;
      }

  means_left : Means source target call steps I tables K → AreRows convert R I tables × ((f : Fact) → (f ∈ K) ↔ IsLeftPlace keeps R tables f)
  unfolding call
  means_left m =
      let below : length R ≤ length tables = at_most (length R) (length tables) (λ j h. (m.matches _ _ _ _ (match_in source target list keeps R j h)).0) in
      let above : length tables ≤ length R = at_most (length tables) (length R) (λ j h.
      let n = m.no_more j h in
      let w = a_match source target list keeps R j n.0 n.1 n.2 n.3 in
      let e : w.0 ≡ j = let q = w.2 in cc in
      rw (← e) w.1) in
      let l : length tables ≡ length R = omega arith in (
        are_rows convert R I tables (
          l,
          λ j h.
              (table_is_rows source target convert list R (rule_at R j) I (match_table tables j) good (rule_in j h) widths).0 ((m.matches _ _ _ _ (match_in source target list keeps R j h)).1),
        ),
        (λ f. ((λ k. left_of l f ((m.facts f).0 k)), (λ k. (m.facts f).1 (inserted_of f k)))),
      )

  left_means : AreRows convert R I tables → ((f : Fact) → (f ∈ K) ↔ IsLeftPlace keeps R tables f) → Means source target call steps I tables K
  unfolding call
  left_means a k =
      let w = rows_at convert R I tables a in
      record {
        matches = λ r select from equal m. let n = a_match source target list keeps R r select from equal m in matched w n.0 n.1 r select from equal n.2;
        no_more = λ r h. (_, _, _, match_in source target list keeps R r (rw (← w.0) h));
        facts = λ f. ((λ m. inserted_of f ((k f).0 m)), (λ i. (k f).1 (left_of w.0 f i)));
      }
    where
      matched : RowsAt convert R I tables → (j : ℕ) → j < length R → (r : ℕ) (select : List Select) (from : Tuple) (equal : List Equal) → match_step source list j (rule_at R j) ≡ MatchRows r select from equal
          → (r < length tables) × IsMatchTable source call I select from equal (match_table tables r)
      matched w j h r select from equal e =
          let t = (table_is_rows source target convert list R (rule_at R j) I (match_table tables j) good (rule_in j h) widths).1 (w.1 j h) in
          subst (Reads source call I tables) e (rw w.0 h, t)

pub script_means_left : (source target : List TableNames) (convert : Conversions) (list : List Conversion) (keeps : ℕ → List Unless) (R : List Rule) (I : List Fact) (tables : Rows) (K : List Fact)
    → NamesFit source target list R → WidthsFit source I
    → Means source target (call_named convert list) (script_with source target list keeps R) I tables K
    ↔ (AreRows convert R I tables × ((f : Fact) → (f ∈ K) ↔ IsLeftPlace keeps R tables f))
unfolding call
script_means_left source target convert list keeps R I tables K good widths =
    (means_left source target convert list keeps R I tables K good widths, (λ w. left_means source target convert list keeps R I tables K good widths w.0 w.1))

pub plain_means_canonical : (source target : List TableNames) (convert : Conversions) (list : List Conversion) (R : List Rule) (I : List Fact) (tables : Rows) (K : List Fact)
    → NamesFit source target list R → WidthsFit source I
    → Means source target (call_named convert list) (plain_steps source target list R) I tables K
    ↔ (AreRows convert R I tables × (K ⊆ canonical 0 R tables) × (canonical 0 R tables ⊆ K))
plain_means_canonical source target convert list R I tables K good widths =
    let s = script_means_left source target convert list (λ r. []) R I tables K good widths in (
      (λ m.
          let w = s.0 m in
          (w.0, (λ f k. let l = (w.1 f).0 k in in_canonical 0 R tables l.rule l.rule l.place (omega arith) l.is_place f l.fact), (λ f k. (w.1 f).1 (left f k)))),
      (λ w. s.1 (w.0, λ f. ((λ k. left f (w.1 f k)), (λ l. w.2 f (in_canonical 0 R tables l.rule l.rule l.place (omega arith) l.is_place f l.fact))))),
    )
  where
    left : (f : Fact) → f ∈ canonical 0 R tables → IsLeftPlace (λ r. []) R tables f
    left f m =
        let w = from_canonical 0 R tables f m in
        let q : w.0 ≡ w.1 = omega (arith, w.3) in
        record { rule = w.1; place = w.2; is_place = w.4; no_partner = λ u n. elim n [ ]; fact = rw q at w.5 }
