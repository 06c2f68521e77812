-- The records of a table have one reading.
use Rattle.std.proofs.Common.{◌≡◌, ◌≢◌, ◌∙◌, ◌<◌, ◌+◌, ◌++◌, ◌∷◌, ℕ, zero, suc, List, [], refl, sym, ap, arith, length, map, take}
use Rattle.std.specs.Prelude.{All}
use Rattle.std.specs.List.{slice_get}
use Rattle.std.proofs.lemmas.List.Elements.{All-head, All-tail}
use Rattle.csv.specs.Records.{AllText}
use Rattle.dx_model.specs.declared.values.Value.{Value}
use Rattle.dx_csv.specs.declared.fault.RowKind.{RowKind}
use Rattle.dx_csv.specs.declared.fault.RowKind.TheVariants as kind
use Rattle.dx_csv.specs.Table.{FirstDifference, FirstFaulty, IsAtFault, AreTableRecords, IsWholeRecord}
use Rattle.dx_model.specs.Values.{constants}

-- equal lists have equal parts
rest-same : {X : Type 0} (x y : X) (xs ys : List X) → (x ∷ xs) ≡ (y ∷ ys) → xs ≡ ys
rest-same x y xs ys e = cc e

head-same : {X : Type 0} (x y : X) (xs ys : List X) → (x ∷ xs) ≡ (y ∷ ys) → x ≡ y
head-same x y xs ys e = cc e

some-left : {X : Type 0} (x : X) (xs : List X) → [] ≡ (x ∷ xs) → ⊥
some-left x xs e = cc e

-- ---- one table
pub table-is-one : (records : List (List (List ℕ))) (columns : List (List ℕ)) (a b : List (List Value)) → AreTableRecords records columns a → AreTableRecords records columns b → a ≡ b
table-is-one records columns a b s t = s.values ∙ (ap (λ (u : List (List (List ℕ))). map constants u) (rest-same columns columns s.under t.under (sym s.header ∙ t.header)) ∙ sym t.values)

-- ---- one first difference
get-take : (xs : List (List ℕ)) (p q : ℕ) → p < q → slice_get (take q xs) p ≡ slice_get xs p
get-take xs p zero h = absurd (omega arith)
get-take [] p (suc q) h = refl
get-take (x ∷ xs) zero (suc q) h = refl
get-take (x ∷ xs) (suc p) (suc q) h = get-take xs p q (omega arith)

not-before : (xs ys : List (List ℕ)) (p q : ℕ) → FirstDifference xs ys p → FirstDifference xs ys q → ¬ (p < q)
not-before xs ys p q d e h = d.here (sym (get-take xs p q h) ∙ (ap (λ (zs : List (List ℕ)). slice_get zs p) e.before ∙ get-take ys p q h))

place-is-one : (xs ys : List (List ℕ)) (p q : ℕ) → FirstDifference xs ys p → FirstDifference xs ys q → p ≡ q
place-is-one xs ys p q d e = let n = not-before xs ys p q d e in let m = not-before xs ys q p e d in omega (arith, n, m)

-- ---- one first faulty record
record Same (n m : ℕ) (x y : List (List ℕ)) : Type 0 where
  number : n ≡ m
  fields : x ≡ y

meet : (P : List (List ℕ) → Type 0) (a b : List (List (List ℕ))) (x y : List (List ℕ)) (s t : List (List (List ℕ)))
    → (a ++ x ∷ s) ≡ (b ++ y ∷ t) → All P a → ¬ (P x) → All P b → ¬ (P y) → Same (length a) (length b) x y
meet P [] [] x y s t e p n q m = record { number = refl; fields = head-same x y s t e }
meet P [] (c ∷ b) x y s t e p n q m = absurd (n (rw (head-same x c s (b ++ y ∷ t) e) (All-head P c b q)))
meet P (c ∷ a) [] x y s t e p n q m = absurd (m (rw (← head-same c y (a ++ x ∷ s) t e) (All-head P c a p)))
meet P (c ∷ a) (d ∷ b) x y s t e p n q m =
    let w = meet P a b x y s t (rest-same c d (a ++ x ∷ s) (b ++ y ∷ t) e) (All-tail P c a p) n (All-tail P d b q) m in
    record { number = ap suc w.number; fields = w.fields }

faulty-is-one : (records : List (List (List ℕ))) (columns : List (List ℕ)) (n m : ℕ) (x y : List (List ℕ))
    → FirstFaulty records columns n x → ¬ (IsWholeRecord columns x) → FirstFaulty records columns m y → ¬ (IsWholeRecord columns y) → Same n m x y
faulty-is-one records columns n m x y f u g v =
    let w = meet (IsWholeRecord columns) f.good g.good x y f.rest g.rest (rest-same columns columns _ _ (sym f.header ∙ g.header)) f.whole u g.whole v in
    record { number = f.place ∙ (ap (λ (k : ℕ). k + 1) w.number ∙ sym g.place); fields = w.fields }

narrow : (columns x : List (List ℕ)) → length x ≢ length columns → ¬ (IsWholeRecord columns x)
narrow columns x n w = n w.width

broken : (columns x : List (List ℕ)) → ¬ (AllText x) → ¬ (IsWholeRecord columns x)
broken columns x n w = n w.text

-- a header that differs is no header of a table
no-header : (records rest under : List (List (List ℕ))) (columns header : List (List ℕ)) (p : ℕ) → records ≡ header ∷ rest → records ≡ columns ∷ under → ¬ (FirstDifference header columns p)
no-header records rest under columns header p e f d =
    d.here (ap (λ (xs : List (List ℕ)). slice_get xs p) (head-same header columns rest under (sym e ∙ f)))

-- ---- one fault
pub fault-is-one : (records : List (List (List ℕ))) (columns : List (List ℕ)) (a b : RowKind) → IsAtFault records columns a → IsAtFault records columns b → a ≡ b
fault-is-one records columns kind.NoHeader kind.NoHeader f g = refl
fault-is-one records columns kind.NoHeader (kind.Header q) f g = absurd (some-left _ _ (sym f ∙ g.2))
fault-is-one records columns kind.NoHeader (kind.Width m) f g = absurd (some-left _ _ (sym f ∙ g.1.header))
fault-is-one records columns kind.NoHeader (kind.NotText m) f g = absurd (some-left _ _ (sym f ∙ g.1.header))
fault-is-one records columns (kind.Header p) kind.NoHeader f g = absurd (some-left _ _ (sym g ∙ f.2))
fault-is-one records columns (kind.Header p) (kind.Header q) f g =
    let same = head-same f.0 g.0 f.1 g.1 (sym f.2 ∙ g.2) in
    ap kind.Header (place-is-one g.0 columns p q (rw same at f.3) g.3)
fault-is-one records columns (kind.Header p) (kind.Width m) f g = absurd (no-header records f.1 _ columns f.0 p f.2 g.1.header f.3)
fault-is-one records columns (kind.Header p) (kind.NotText m) f g = absurd (no-header records f.1 _ columns f.0 p f.2 g.1.header f.3)
fault-is-one records columns (kind.Width n) kind.NoHeader f g = absurd (some-left _ _ (sym g ∙ f.1.header))
fault-is-one records columns (kind.Width n) (kind.Header q) f g = absurd (no-header records g.1 _ columns g.0 q g.2 f.1.header g.3)
fault-is-one records columns (kind.Width n) (kind.Width m) f g =
    ap kind.Width (faulty-is-one records columns n m f.0 g.0 f.1 (narrow columns f.0 f.2) g.1 (narrow columns g.0 g.2)).number
fault-is-one records columns (kind.Width n) (kind.NotText m) f g =
    let same = (faulty-is-one records columns n m f.0 g.0 f.1 (narrow columns f.0 f.2) g.1 (broken columns g.0 g.3)).fields in
    absurd (f.2 (ap length same ∙ g.2))
fault-is-one records columns (kind.NotText n) kind.NoHeader f g = absurd (some-left _ _ (sym g ∙ f.1.header))
fault-is-one records columns (kind.NotText n) (kind.Header q) f g = absurd (no-header records g.1 _ columns g.0 q g.2 f.1.header g.3)
fault-is-one records columns (kind.NotText n) (kind.Width m) f g =
    let same = (faulty-is-one records columns n m f.0 g.0 f.1 (broken columns f.0 f.3) g.1 (narrow columns g.0 g.2)).fields in
    absurd (g.2 (ap length (sym same) ∙ f.2))
fault-is-one records columns (kind.NotText n) (kind.NotText m) f g =
    ap kind.NotText (faulty-is-one records columns n m f.0 g.0 f.1 (broken columns f.0 f.3) g.1 (broken columns g.0 g.3)).number

-- ---- a table has no fault
middle : (P : List (List ℕ) → Type 0) (a : List (List (List ℕ))) (x : List (List ℕ)) (s : List (List (List ℕ))) → All P (a ++ x ∷ s) → P x
middle P [] x s w = All-head P x s w
middle P (c ∷ a) x s w = middle P a x s (All-tail P c (a ++ x ∷ s) w)

all-whole : (records : List (List (List ℕ))) (columns : List (List ℕ)) (rows : List (List Value)) (n : ℕ) (x : List (List ℕ)) → AreTableRecords records columns rows → FirstFaulty records columns n x → IsWholeRecord columns x
all-whole records columns rows n x t f =
    middle (IsWholeRecord columns) f.good x f.rest (rw (rest-same columns columns t.under _ (sym t.header ∙ f.header)) at t.whole)

pub faults-exclude : (records : List (List (List ℕ))) (columns : List (List ℕ)) (rows : List (List Value)) (k : RowKind) → AreTableRecords records columns rows → ¬ (IsAtFault records columns k)
faults-exclude records columns rows kind.NoHeader t f = some-left _ _ (sym f ∙ t.header)
faults-exclude records columns rows (kind.Header p) t f = no-header records f.1 t.under columns f.0 p f.2 t.header f.3
faults-exclude records columns rows (kind.Width n) t f = f.2 (all-whole records columns rows n f.0 t f.1).width
faults-exclude records columns rows (kind.NotText n) t f = f.3 (all-whole records columns rows n f.0 t f.1).text
