-- A root of an instance has one nested text.
use Rattle.std.proofs.Common.{◌≡◌, ℕ, zero, suc, List, [], ◌∷◌, refl, sym, ◌∙◌, ap}
use Rattle.std.specs.Cmp.{IsTotalOrder}
use Rattle.std.proofs.lemmas.Cmp.{lists_total}
use Rattle.dx_base.specs.Members.{◌⊆◌}
use Rattle.dx_model.specs.Values.{RowsAscend, row_cmp}
use Rattle.dx_model.proofs.Orders.{value_total, row_exact}
use Rattle.dx_model.proofs.Ascending.{one_ascending, in_order, in_order_ascends, in_in_order, from_in_order}
use Rattle.dx_instance.specs.Stored.{IsSorting, TableRows, rows_of, widths}
use Rattle.dx_schema.specs.Tables.{tree_at}
use Rattle.dx_instance.proofs.StoredFacts.{same_tables}
use Rattle.dx_json.specs.Laws.{HasNestedText, NestedTextIsOne}
use Rattle.dx_json.specs.Nesting.{nested_text}

row_total : IsTotalOrder row_cmp
row_total = lists_total value_total

-- an instance is sorted to one
one_sorting : (I A B : List TableRows) → IsSorting I A → IsSorting I B → A ≡ B
one_sorting I A B p q = same_tables A B (p.widths_stay ∙ sym q.widths_stay) (λ t.
    one_ascending row_cmp row_total (rows_of A t) (rows_of B t) (p.ascend t) (q.ascend t) (λ x m. q.kept t x (p.only t x m)) (λ x m. p.kept t x (q.only t x m)))

pub text_is_one : NestedTextIsOne
text_is_one I schema root a b p q = p.is ∙ ap (λ J. nested_text J (tree_at schema root) root) (one_sorting I p.sorted q.sorted p.same q.same) ∙ sym q.is

-- the tables with their rows in order
abbrev in_order_all : List TableRows → List TableRows
in_order_all [] = []
in_order_all (t ∷ ts) = record { width = t.width; rows = in_order row_cmp row_total row_exact t.rows } ∷ in_order_all ts

all_widths : (I : List TableRows) → widths (in_order_all I) ≡ widths I
all_widths [] = refl
all_widths (t ∷ ts) = ap (λ ws. t.width ∷ ws) (all_widths ts)

all_ascend : (I : List TableRows) (n : ℕ) → RowsAscend (rows_of (in_order_all I) n)
all_ascend [] n = tt
all_ascend (t ∷ ts) zero = in_order_ascends row_cmp row_total row_exact t.rows
all_ascend (t ∷ ts) (suc n) = all_ascend ts n

all_kept : (I : List TableRows) (n : ℕ) → rows_of I n ⊆ rows_of (in_order_all I) n
all_kept [] n x m = m
all_kept (t ∷ ts) zero x m = in_in_order row_cmp row_total row_exact x t.rows m
all_kept (t ∷ ts) (suc n) x m = all_kept ts n x m

all_only : (I : List TableRows) (n : ℕ) → rows_of (in_order_all I) n ⊆ rows_of I n
all_only [] n x m = m
all_only (t ∷ ts) zero x m = from_in_order row_cmp row_total row_exact x t.rows m
all_only (t ∷ ts) (suc n) x m = all_only ts n x m

pub has_text : HasNestedText
has_text I schema root = (
  nested_text (in_order_all I) (tree_at schema root) root,
  record {
    sorted = in_order_all I;
    same = record { widths_stay = all_widths I; ascend = all_ascend I; kept = all_kept I; only = all_only I };
    is = refl;
  },
)
