-- Records are a table, or they have a fault.
use Rattle.std.proofs.Common.{◌≡◌, ◌≢◌, ◌∙◌, ◌+◌, ◌++◌, ◌∷◌, ℕ, zero, suc, List, [], refl, sym, ap, inl, inr, arith, length, map}
use Rattle.std.specs.Prelude.{All, ◌⊎◌}
use Rattle.std.specs.Str.{is_utf8}
use Rattle.std.specs.Cmp.Lexicographic.{pointwise, bytes_decides}
use Rattle.std.proofs.lemmas.Bool.{cases_Bool, cases_eq, true≢false}
use Rattle.std.proofs.lemmas.Option.{none-some, same_Some}
use Rattle.std.proofs.lemmas.Str.{IsUtf8-from_is_utf8, is_utf8-from_IsUtf8}
use Rattle.std.specs.Prelude.{nat_eq}
use Rattle.csv.specs.Records.{AllText}
use Rattle.dx_model.specs.declared.values.Value.{Value}
use Rattle.dx_csv.specs.declared.fault.RowKind.{RowKind}
use Rattle.dx_csv.specs.declared.fault.RowKind.TheVariants as kind
use Rattle.dx_csv.specs.Table.{FirstDifference, FirstFaulty, IsAtFault, AreTableRecords, IsWholeRecord}
use Rattle.dx_model.specs.Values.{constants}

-- ---- texts

all_text : (fields : List (List ℕ)) → AllText fields ⊎ ¬ (AllText fields)
unfolding AllText
all_text [] = inl tt
all_text (f ∷ fs) = elim (cases_Bool (is_utf8 f)) [
  | inl t ↦ elim (all_text fs) [
    | inl a ↦ inl (IsUtf8-from_is_utf8 f t, a)
    | inr n ↦ inr (λ a. n a.1)
  ]
  | inr e ↦ inr (λ a. true≢false (sym (is_utf8-from_IsUtf8 f a.0) ∙ e))
]

-- ---- records

-- what is wrong with a record
abbrev Wrong : List (List ℕ) → List (List ℕ) → Type 0
Wrong columns fields = (length fields ≢ length columns) ⊎ ((length fields ≡ length columns) × ¬ (AllText fields))

whole_or_wrong : (columns fields : List (List ℕ)) → IsWholeRecord columns fields ⊎ Wrong columns fields
whole_or_wrong columns fields = elim (cases_eq (length fields) (length columns)) [
  | inl e ↦ elim (all_text fields) [
    | inl a ↦ inl (record { width = e; text = a })
    | inr n ↦ inr (inr (e, n))
  ]
  | inr d ↦ inr (inl d)
]

all_with : (P : List (List ℕ) → Type 0) (x : List (List ℕ)) (xs : List (List (List ℕ))) → P x → All P xs → All P (x ∷ xs)
all_with P x xs p a zero d h = p
all_with P x xs p a (suc k) d h = a k d (omega arith)

-- the first record that is not whole
record HasWrong (columns : List (List ℕ)) (under : List (List (List ℕ))) : Type 0 where
  good : List (List (List ℕ))
  fields : List (List ℕ)
  rest : List (List (List ℕ))
  is : under ≡ good ++ fields ∷ rest
  whole : All (IsWholeRecord columns) good
  wrong : Wrong columns fields

all_or_wrong : (columns : List (List ℕ)) (under : List (List (List ℕ))) → All (IsWholeRecord columns) under ⊎ HasWrong columns under
all_or_wrong columns [] = inl (λ k d h. absurd (omega arith))
all_or_wrong columns (x ∷ under) = elim (whole_or_wrong columns x) [
  | inl w ↦ elim (all_or_wrong columns under) [
    | inl a ↦ inl (all_with (IsWholeRecord columns) x under w a)
    | inr f ↦ inr (record { good = x ∷ f.good; fields = f.fields; rest = f.rest; is = ap (λ (rs : List (List (List ℕ))). x ∷ rs) f.is; whole = all_with (IsWholeRecord columns) x f.good w f.whole; wrong = f.wrong })
  ]
  | inr w ↦ inr (record { good = []; fields = x; rest = under; is = refl; whole = λ k d h. absurd (omega arith); wrong = w })
]

-- ---- the header

differ_further : (x y : List ℕ) (xs ys : List (List ℕ)) → x ≡ y → (xs ≡ ys) ⊎ ((place : ℕ) × FirstDifference xs ys place) → ((x ∷ xs) ≡ (y ∷ ys)) ⊎ ((place : ℕ) × FirstDifference (x ∷ xs) (y ∷ ys) place)
differ_further x y xs ys e (inl f) = inl cc
differ_further x y xs ys e (inr d) = inr (suc d.0, record { before = rw e (ap (λ (zs : List (List ℕ)). y ∷ zs) d.1.before); here = d.1.here })

same_or_differ : (xs ys : List (List ℕ)) → (xs ≡ ys) ⊎ ((place : ℕ) × FirstDifference xs ys place)
same_or_differ [] [] = inl refl
same_or_differ [] (y ∷ ys) = inr (0, record { before = refl; here = none-some y })
same_or_differ (x ∷ xs) [] = inr (0, record { before = refl; here = λ e. none-some x (sym e) })
same_or_differ (x ∷ xs) (y ∷ ys) = elim (cases_Bool (pointwise nat_eq x y)) [
  | inl t ↦ differ_further x y xs ys ((bytes_decides x y).0 t) (same_or_differ xs ys)
  | inr f ↦ inr (0, record { before = refl; here = λ e. true≢false (sym ((bytes_decides x y).1 (same_Some x y e)) ∙ f) })
]

-- ---- the whole

fault_by : (records : List (List (List ℕ))) (columns fields : List (List ℕ)) (number : ℕ) → FirstFaulty records columns number fields → Wrong columns fields → (k : RowKind) × IsAtFault records columns k
fault_by records columns fields number f (inl d) = (kind.Width number, (fields, f, d))
fault_by records columns fields number f (inr n) = (kind.NotText number, (fields, f, n.0, n.1))

fault_of : (records : List (List (List ℕ))) (columns : List (List ℕ)) (under : List (List (List ℕ))) → records ≡ columns ∷ under → HasWrong columns under → (k : RowKind) × IsAtFault records columns k
fault_of records columns under e w =
    fault_by records columns w.fields (length w.good + 1)
    (record { good = w.good; rest = w.rest; header = e ∙ ap (λ (rs : List (List (List ℕ))). columns ∷ rs) w.is; whole = w.whole; place = refl }) w.wrong

pub table_or_fault : (records : List (List (List ℕ))) (columns : List (List ℕ)) → ((rows : List (List Value)) × AreTableRecords records columns rows) ⊎ ((k : RowKind) × IsAtFault records columns k)
table_or_fault [] columns = inr (kind.NoHeader, refl)
table_or_fault (header ∷ under) columns = elim (same_or_differ header columns) [
  | inl e ↦ elim (all_or_wrong columns under) [
    | inl a ↦ inl (map constants under, record { under = under; header = ap (λ (h : List (List ℕ)). h ∷ under) e; whole = a; values = refl })
    | inr w ↦ inr (fault_of (header ∷ under) columns under (ap (λ (h : List (List ℕ)). h ∷ under) e) w)
  ]
  | inr d ↦ inr (kind.Header d.0, (header, under, refl, d.1))
]
