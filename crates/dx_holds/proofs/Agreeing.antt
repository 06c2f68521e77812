-- Rows that agree in columns.
use Rattle.std.proofs.Common.{◌≡◌, ◌∙◌, ℕ, zero, suc, ◌<◌, List, [], ◌∷◌, inl, inr, refl, sym, ap, arith, length, get_or, Bool, true, false}
use Rattle.std.specs.Prelude.{map, Option, None, Some, is_some, ◌==◌, IsTrue, ◌↔◌}
use Rattle.std.proofs.lemmas.Bool.{cases_lt, false≢true}
use Rattle.dx_model.specs.declared.values.Value.{Value}
use Rattle.dx_model.specs.declared.tables.Link.{Link}
use Rattle.dx_model.specs.Tables.{values_in}
use Rattle.dx_instance.specs.Stored.{TableRows, rows_of}
use Rattle.dx_instance.specs.Places.{HasValues, IsFirstWith, NoneWith, row_at, value_at}
use Rattle.dx_holds.specs.Columns.{RowLeads}

-- ---- column by column

pub agree_at : (f g : ℕ → Value) (xs ys : List ℕ) (i : ℕ) → i < length xs → length ys ≡ length xs → map f xs ≡ map g ys → f (get_or xs i 0) ≡ g (get_or ys i 0)
agree_at f g [] ys i h l e = absurd (omega arith)
agree_at f g (x ∷ xs) [] i h l e = absurd (omega arith)
agree_at f g (x ∷ xs) (y ∷ ys) zero h l e = cc
agree_at f g (x ∷ xs) (y ∷ ys) (suc i) h l e = agree_at f g xs ys i (omega arith) (omega arith) (cc)

-- ---- the next row that agrees

-- no row up to a place, if none has the value of one column from the last one on
pub none_on : (I : List TableRows) (t : ℕ) (columns : List ℕ) (values : List Value) (a m b c : ℕ) (x : Value) → ((p : ℕ) → HasValues I t columns values p → value_at I t p c ≡ x)
    → NoneWith I t columns values a m → NoneWith I t (c ∷ []) (x ∷ []) m b → NoneWith I t columns values a b
none_on I t columns values a m b c x one old none p g k q = elim (cases_lt p m) [ inl l ↦ old p g l q | inr l ↦ none p l k (ap (λ (v : Value). v ∷ []) (one p q)) ]

-- ---- links

pub row_leads : (I : List TableRows) (t n : ℕ) (link : Link) (o : Option ℕ) → IsFirstWith I link.table link.to (values_in link.from (row_at I t n)) 0 o → IsTrue (is_some o) ↔ RowLeads I t link n
row_leads I t n link None m = ((λ e. absurd (false≢true e)), (λ k. absurd (m k.0 (omega arith) k.1 k.2)))
row_leads I t n link (Some q) m = ((λ e. (q, m.1, m.3)), (λ k. refl))

-- ---- tables

-- a table that has a row at a place is there
pub row_has_table : (I : List TableRows) (t p : ℕ) → p < length (rows_of I t) → t < length I
row_has_table [] t p h = absurd (omega (arith, h))
row_has_table (x ∷ I) zero p h = omega arith
row_has_table (x ∷ I) (suc t) p h = let k = row_has_table I t p h in omega (arith, k)

-- ---- single columns

pub some_column : (xs : List ℕ) (b : Bool) → b ≡ (length xs == 0) → b ≡ false → 0 < length xs
some_column [] b e h = absurd (false≢true (sym h ∙ e))
some_column (x ∷ xs) b e h = omega arith
