-- Facts of tables: their order, and their widths.
use Rattle.std.proofs.Common.{◌≡◌, ◌∙◌, ◌<◌, ◌≤◌, ◌++◌, ◌∷◌, ℕ, suc, List, [], refl, sym, ap, subst, arith, length, get_or, map, inl, inr}
use Rattle.std.specs.declared.cmp.Ordering.TheVariants.{Less}
use Rattle.std.proofs.lemmas.Bool.{cases_lt}
use Rattle.std.proofs.lemmas.List.{length-map, get_or-map, get_or_past}
use Rattle.dx_model.specs.declared.values.Value.{Value}
use Rattle.dx_model.specs.declared.facts.Fact.{Fact}
use Rattle.dx_model.specs.Tables.{IsInstance, Table}
use Rattle.dx_model.specs.Values.{FactsAscend, RowsAscend, fact_cmp}
use Rattle.dx_base.specs.Members.{◌∈◌, here, there, Each}
use Rattle.dx_base.proofs.Members.{from_append, from_map, in_at}
use Rattle.dx_base.proofs.Ranges.{nat_self, nat_less}
use Rattle.dx_instance.specs.Stored.{TableRows, facts, facts_from, rows_of, table_at, widths}
use Rattle.dx_instance.proofs.StoredFacts.{fact_table, from_facts, row_from_fact}

abbrev fact_in : ℕ → List Value → Fact
fact_in n row = record { table = n; row = row }

append_ascends : (A B : List Fact) → FactsAscend A → FactsAscend B → ((a b : Fact) → a ∈ A → b ∈ B → fact_cmp a b ≡ Less) → FactsAscend (A ++ B)
append_ascends [] B up down low = down
append_ascends (a ∷ A) B up down low = (
  (λ b m. elim (from_append A m) [ inl l ↦ up.0 b l | inr r ↦ low a b (here refl) r ]),
  append_ascends A B up.1 down (λ x y m. low x y (there m)),
)

rows_ascend : (n : ℕ) (rows : List (List Value)) → RowsAscend rows → FactsAscend (map (fact_in n) rows)
rows_ascend n [] up = tt
rows_ascend n (r ∷ rows) up = (
  (λ b m. let k = from_map (fact_in n) rows m in subst (λ (f : Fact). fact_cmp (fact_in n r) f ≡ Less) k.2 (rw (nat_self n) (up.0 k.0 k.1))),
  rows_ascend n rows up.1,
)

ascend_from : (n : ℕ) (ts : List TableRows) → ((t : ℕ) → RowsAscend (rows_of ts t)) → FactsAscend (facts_from n ts)
ascend_from n [] up = tt
ascend_from n (t ∷ ts) up = append_ascends (map (fact_in n) t.rows) (facts_from (suc n) ts) (rows_ascend n t.rows (up 0)) (ascend_from (suc n) ts (λ k. up (suc k))) low
  where
    low : (a b : Fact) → a ∈ map (fact_in n) t.rows → b ∈ facts_from (suc n) ts → fact_cmp a b ≡ Less
    low a b m k =
        let x = from_map (fact_in n) t.rows m in
        let y = from_facts (suc n) ts b k in
        let l : n < b.table = omega (arith, y.1) in
        subst (λ (f : Fact). fact_cmp f b ≡ Less) x.2 (rw (nat_less n b.table l) refl)

pub sorted_facts : (I : List TableRows) → ((t : ℕ) → RowsAscend (rows_of I t)) → FactsAscend (facts I)
sorted_facts I up = ascend_from 0 I up

-- tables that stand there ascend, and the others have no rows
pub all_of : (I : List TableRows) (n : ℕ) → length I ≤ n → ((t : ℕ) → t < n → RowsAscend (rows_of I t)) → (t : ℕ) → RowsAscend (rows_of I t)
all_of I n h up t = elim (cases_lt t n) [ inl l ↦ up t l | inr l ↦ subst (λ (u : TableRows). RowsAscend u.rows) (sym (get_or_past I t (record { width = 0; rows = [] }) (omega (arith, h, l)))) tt ]

pub facts_fit : (schema : List Table) (I : List TableRows) → widths I ≡ map (λ (t : Table). t.width) schema → Each I (λ t. Each t.rows (λ (row : List Value). length row ≡ t.width)) → IsInstance schema (facts I)
facts_fit schema I e wide f m =
    let b = fact_table I f m in
    let many : length I ≡ length schema = sym (length-map I (λ (t : TableRows). t.width)) ∙ ap length e ∙ length-map schema (λ (t : Table). t.width) in
    let none : TableRows = record { width = 0; rows = [] } in
    let blank : Table = record { width = 0; determinations = []; links = []; optional = [] } in
    let left = get_or-map (λ (t : TableRows). t.width) I f.table none 0 b in
    let right = get_or-map (λ (t : Table). t.width) schema f.table blank 0 (omega (arith, b, many)) in
    record {
      table = omega (arith, b, many);
      width = wide (table_at I f.table) (in_at I f.table none b) f.row (row_from_fact I f m) ∙ sym left ∙ ap (λ (ws : List ℕ). get_or ws f.table 0) e ∙ right;
    }
