-- Rows that an atom can be.
use Rattle.std.proofs.Common.{◌≡◌, ◌∙◌, ℕ, ◌+◌, ◌<◌, ◌≤◌, List, [], sym, ap, arith, inl, inr, subst}
use Rattle.std.proofs.Common.{length, get_or, take}
use Rattle.std.specs.Prelude.{map, Bool, Option, Some, None, IfSome}
use Rattle.std.proofs.lemmas.Bool.{cases_lt, cases_eq}
use Rattle.std.proofs.lemmas.List.{get_or-map, take_all}
use Rattle.dx_base.specs.Members.{◌∈◌}
use Rattle.dx_base.proofs.Members.{in_at}
use Rattle.dx_instance.specs.Cells.{NumberTable, numbers_at}
use Rattle.dx_instance.specs.Shown.{numbers_of_table}
use Rattle.dx_solver.specs.declared.atom.Term.{Term}
use Rattle.dx_solver.specs.declared.atom.Term.TheVariants.{Number}
use Rattle.dx_solver.specs.declared.atom.PatternAtom.{PatternAtom}
use Rattle.dx_solver.specs.declared.domain.Domain.{Domain}
use Rattle.dx_solver.specs.declared.rows.Key.{Key}
use Rattle.dx_solver.specs.Domains.{HasKey, IsImageRow, Keeps, term_at}
use Rattle.dx_solver.specs.Questions.{HasImageRow, number_under, row_under}

-- the number in a column of what terms become
pub column_of : (f : Term → ℕ) (terms : List Term) (row : List ℕ) (c : ℕ) (d : Term) → c < length terms → row ≡ map f terms
    → get_or row c 0 ≡ f (get_or terms c d)
column_of f terms row c d h e = ap (λ (l : List ℕ). get_or l c 0) e ∙ get_or-map f terms c d 0 h

-- one place more was looked at
pub place_more : (P Q : ℕ → Type 0) (n p : ℕ) → ((q : ℕ) → q < n → P q → Q q) → ((q : ℕ) → n ≤ q → q < p → ¬ (P q)) → (P p → Q p)
    → (q : ℕ) → q < p + 1 → P q → Q q
place_more P Q n p done none met q h m = elim (cases_lt q n) [
  | inl l ↦ done q l m
  | inr l ↦ elim (cases_eq q p) [
    | inl e ↦ subst Q (sym e) (met (subst P e m))
    | inr k ↦ absurd (none q l (omega arith) m)
  ]
]

pub place_all : (P Q : ℕ → Type 0) (n k : ℕ) → ((q : ℕ) → q < n → P q → Q q) → ((q : ℕ) → n ≤ q → q < k → ¬ (P q))
    → ((q : ℕ) → P q → q < k) → (q : ℕ) → P q → Q q
place_all P Q n k done none within q m = elim (cases_lt q n) [
  | inl l ↦ done q l m
  | inr l ↦ absurd (none q l (within q m) m)
]

-- rows that agree column by column
pub same_row : (xs ys : List ℕ) (i : ℕ) → length xs ≡ length ys → length xs ≤ i → take i xs ≡ take i ys → xs ≡ ys
same_row xs ys i h l e = sym (take_all i xs l) ∙ (e ∙ take_all i ys (omega (arith, h, l)))

-- places without a row, up to the next one that is looked at, and past it
pub no_to : (P K : ℕ → Type 0) (a n q : ℕ) → ((p : ℕ) → a ≤ p → p < n → ¬ (P p)) → ((p : ℕ) → P p → K p)
    → ((p : ℕ) → n ≤ p → p < q → ¬ (K p)) → (p : ℕ) → a ≤ p → p < q → ¬ (P p)
no_to P K a n q done key none p l h m = elim (cases_lt p n) [
  | inl d ↦ done p l d m
  | inr d ↦ none p d h (key p m)
]

pub no_more : (P K : ℕ → Type 0) (a n q : ℕ) → ((p : ℕ) → a ≤ p → p < n → ¬ (P p)) → ((p : ℕ) → P p → K p)
    → ((p : ℕ) → n ≤ p → p < q → ¬ (K p)) → ¬ (P q) → (p : ℕ) → a ≤ p → p < q + 1 → ¬ (P p)
no_more P K a n q done key none met p l h m = elim (cases_eq p q) [
  | inl e ↦ met (subst P e m)
  | inr k ↦ no_to P K a n q done key none p l (omega arith) m
]

-- an image, and a row that stands
pub stands_at : (T : List NumberTable) (out : List (List Bool)) (a : ℕ → ℕ) (atom : PatternAtom) (p : ℕ) → IsImageRow T out a atom p
    → HasImageRow T out a atom
stands_at T out a atom p i = (p, i.place, i.kept, i.row)

pub image_of : (T : List NumberTable) (out : List (List Bool)) (a : ℕ → ℕ) (atom : PatternAtom) → (s : HasImageRow T out a atom)
    → IsImageRow T out a atom s.0
image_of T out a atom s = record { place = s.1; kept = s.2; row = s.3 }

-- the key that an image has
pub has_key : (T : List NumberTable) (out : List (List Bool)) (a : ℕ → ℕ) (atom : PatternAtom) (key : Option Key) (p : ℕ)
    → IfSome key (λ k. (k.column < length atom.terms) × (number_under a (term_at atom.terms k.column) ≡ k.number))
    → IsImageRow T out a atom p → HasKey (numbers_of_table T atom.table).rows key p
has_key T out a atom None p h i = tt
has_key T out a atom (Some k) p h i =
    column_of (number_under a) atom.terms (numbers_at (numbers_of_table T atom.table).rows p) k.column (Number 0) h.0 i.row ∙ h.1

pub key_for : (ds : List Domain) (terms : List Term) (a : ℕ → ℕ) (key : Option Key)
    → IfSome key (λ k. (k.column < length terms) × ((f : ℕ → ℕ) → Keeps ds f → number_under f (term_at terms k.column) ≡ k.number))
    → Keeps ds a → IfSome key (λ k. (k.column < length terms) × (number_under a (term_at terms k.column) ≡ k.number))
key_for ds terms a None h k = tt
key_for ds terms a (Some x) h k = (h.0, h.1 a k)

-- an atom does not stand if what it becomes is no row
pub none_stands : (T : List NumberTable) (out : List (List Bool)) (a : ℕ → ℕ) (atom : PatternAtom) (row : List ℕ)
    → row ≡ row_under a atom → ¬ (row ∈ (numbers_of_table T atom.table).rows) → ¬ (HasImageRow T out a atom)
none_stands T out a atom row e none s =
    let rows = (numbers_of_table T atom.table).rows in
    none (subst (λ (r : List ℕ). r ∈ rows) (s.3 ∙ sym e) (in_at rows s.0 [] s.1))
