-- Which occurrences optional links lead to, and which of them are tips.
use Rattle.std.proofs.Common.{◌≡◌, ℕ, suc, ◌+◌, ◌<◌, ◌≤◌, Some, None, List, [], ◌∷◌, length, get_or, take, drop, eqb, refl, sym, ◌∙◌, ap, arith, length-append}
use Rattle.std.specs.Prelude.{Bool, true, false, ◌&&◌, nat_le, nat_lt, Option}
use Rattle.std.specs.List.{prefix_len}
use Rattle.std.proofs.lemmas.Bool.{and_parts, and_from, ltb-true, lt-ltb, le-leb, ne_eqb, true≢false}
use Rattle.std.proofs.lemmas.List.{get_or_default, length-take, length-drop}
use Rattle.dx_base.specs.Members.{◌∈◌, here}
use Rattle.dx_base.proofs.Tests.{from_filter, to_filter}
use Rattle.dx_model.specs.declared.tables.Link.{Link}
use Rattle.dx_model.specs.Tables.{Table, table_of}
use Rattle.dx_schema.specs.Forest.{Forest}
use Rattle.dx_schema.specs.Tables.{tables_of, schema_table, model_tables}
use Rattle.dx_logical.specs.declared.relation.Occurrence.{Occurrence}
use Rattle.dx_logical.specs.Unfolding.{sub}
use Rattle.dx_logical.proofs.Continued.{table_of-model}
use Rattle.dx_lines.specs.Candidates.{upto}
use Rattle.dx_lines.specs.Parts.{nth_occurrence, is_led, is_open, is_in_sub, open_in}
use Rattle.dx_candidates.specs.Parts.{is_first, is_child, is_tip}
use Rattle.dx_candidates.proofs.UpTo.{in_upto}
use Rattle.dx_candidates.proofs.Subtree.{stands_behind}

pub same_at : (os : List Occurrence) (n : ℕ) (o : Occurrence) → n < length os → o ≡ get_or os n o → nth_occurrence os n ≡ o
same_at os n o h e = sym (e ∙ get_or_default os n o _ h)

-- whether an optional link leads to an occurrence that follows from one
pub led_here : (f : Forest) (os : List Occurrence) (n p : ℕ) (o q : Occurrence) (links : List Link) → n < length os → o ≡ get_or os n o → o.parent ≡ Some p → p < length os → q ≡ get_or os p q
    → q.table < length (tables_of f) → links ≡ (schema_table f q.table).links → nat_le (length links) o.link ≡ is_open (model_tables f) os n
led_here f os n p o q links h e_o e_p h_p e_q within e_links =
    let schema = model_tables f in
    let at_n = same_at os n o h e_o in
    let at_p = same_at os p q h_p e_q in
    let same : links ≡ (table_of schema q.table).links = e_links ∙ sym (ap (λ (x : Table). x.links) (table_of-model (tables_of f) q.table _ within)) in
    let own : is_open schema os n ≡ is_led schema os (Some p) o.link = ap (λ (x : Occurrence). is_led schema os x.parent x.link) at_n ∙ ap (λ (m : Option ℕ). is_led schema os m o.link) e_p in
    ap (λ (ls : List Link). nat_le (length ls) o.link) same ∙ (ap (λ (x : Occurrence). nat_le (length (table_of schema x.table).links) o.link) (sym at_p) ∙ sym own)

-- none leads to one that follows from none
pub led_nowhere : (schema : List Table) (os : List Occurrence) (n : ℕ) (o : Occurrence) → n < length os → o ≡ get_or os n o → o.parent ≡ None → false ≡ is_open schema os n
led_nowhere schema os n o h e_o e_p =
    sym (ap (λ (x : Occurrence). is_led schema os x.parent x.link) (same_at os n o h e_o) ∙ ap (λ (m : Option ℕ). is_led schema os m o.link) e_p)

-- a subtree ends with the whole at the latest
pub sub_short : (os : List Occurrence) (p : ℕ) → p < length os → p + length (sub os p) ≤ length os
sub_short os p h =
    let n : ℕ = prefix_len (stands_behind p) (drop (suc p) os) in
    let a = length-take 1 (drop p os) in
    let b = length-take n (drop (suc p) os) in
    let c = length-drop p os in
    let d = length-drop (suc p) os in
    let e = length-append (take 1 (drop p os)) (take n (drop (suc p) os)) in
    omega (arith, a, b, c, d, e, h)

not_zero : {X : Type 0} (xs : List X) (x : X) → x ∈ xs → eqb (length xs) 0 ≡ false
not_zero [] x m = elim m [ ]
not_zero (y ∷ ys) x m = ne_eqb (suc (length ys)) 0 (λ z. omega (arith, z))

and_false : (a b : Bool) → b ≡ false → (a && b) ≡ false
and_false true b e = e
and_false false b e = refl

pub closed_tip : (schema : List Table) (os : List Occurrence) (n : ℕ) → is_open schema os n ≡ false → false ≡ is_tip schema os n
closed_tip schema os n e = sym (ap (λ (b : Bool). b && eqb (length (open_in schema os n)) 0) e)

pub tip_above : (schema : List Table) (os : List Occurrence) (n k : ℕ) → n < k → k < n + length (sub os n) → k < length os → is_open schema os k ≡ true → false ≡ is_tip schema os n
tip_above schema os n k low high within e =
    let inside : is_in_sub os n k ≡ true = and_from (nat_le n k) (nat_lt k (n + length (sub os n))) (le-leb n k (omega (arith, low))) (lt-ltb k (n + length (sub os n)) high) in
    let m : k ∈ open_in schema os n = to_filter (λ j. nat_lt n j && (is_in_sub os n j && is_open schema os j)) (upto (length os)) (in_upto (length os) k within)
    (and_from (nat_lt n k) (is_in_sub os n k && is_open schema os k) (lt-ltb n k low) (and_from (is_in_sub os n k) (is_open schema os k) inside e)) in
    sym (and_false (is_open schema os n) (eqb (length (open_in schema os n)) 0) (not_zero (open_in schema os n) k m))

pub last_tip : (schema : List Table) (os : List Occurrence) (n end : ℕ) → is_open schema os n ≡ true → n + length (sub os n) ≤ end → ((k : ℕ) → n < k → k < end → is_open schema os k ≡ false) → true ≡ is_tip schema os n
last_tip schema os n end e past h =
    let none_so : open_in schema os n ≡ [] = none_in (open_in schema os n) (λ k m.
    let f = from_filter (λ j. nat_lt n j && (is_in_sub os n j && is_open schema os j)) (upto (length os)) m in
    let a = and_parts (nat_lt n k) (is_in_sub os n k && is_open schema os k) f.1 in
    let b = and_parts (is_in_sub os n k) (is_open schema os k) a.1 in
    let c = and_parts (nat_le n k) (nat_lt k (n + length (sub os n))) b.0 in
    let low = ltb-true n k a.0 in
    let high = ltb-true k (n + length (sub os n)) c.1 in
    true≢false (sym b.1 ∙ h k low (omega (arith, high, past)))) in
    sym (and_from (is_open schema os n) (eqb (length (open_in schema os n)) 0) e (ap (λ (ks : List ℕ). eqb (length ks) 0) none_so))
  where
    none_in : (ks : List ℕ) → ((k : ℕ) → k ∈ ks → ⊥) → ks ≡ []
    none_in [] g = refl
    none_in (k ∷ ks) g = absurd (g k (here refl))

-- whether an occurrence follows from the first, by its number
pub child_at : (os : List Occurrence) (n : ℕ) (o : Occurrence) (b c : Bool) → n < length os → o ≡ get_or os n o → b ≡ is_first o.parent → b ≡ c → is_child os n ≡ c
child_at os n o b c h e_o e_b e = ap (λ (x : Occurrence). is_first x.parent) (same_at os n o h e_o) ∙ (sym e_b ∙ e)
