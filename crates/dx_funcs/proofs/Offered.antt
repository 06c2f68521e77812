-- Conversions that are found in a list, and that the shipped list is an offer.
use Rattle.std.proofs.Common.{◌≡◌, ℕ, ◌<◌, ◌≤◌, List, [], ◌∷◌, length, get_or, take, map, refl, sym, ap, ◌∙◌, inl, inr, ◌⊎◌}
use Rattle.std.specs.Prelude.{Bool, true, ◌&&◌, nat_eq, nat_le}
use Rattle.std.specs.List.{list_all}
use lib.Pointwise.{pointwise}
use Rattle.std.proofs.lemmas.Bool.{and_parts, leb-true}
use Rattle.std.proofs.lemmas.Cmp.{nat_eq_equiv, nat_list_eq_equiv}
use Rattle.std.proofs.lemmas.List.{take_all}
use Rattle.dx_base.specs.Members.{◌∈◌, here, there, Distinct, Each}
use Rattle.dx_base.proofs.Members.{in_at, in_map, from_map}
use Rattle.dx_base.proofs.Tests.{from_all}
use Rattle.dx_funcs.specs.declared.conversion.Conversion.{Conversion}
use Rattle.dx_funcs.specs.Offers.{IsOffer, IsListed}
use Rattle.dx_funcs.specs.Shipped.{shipped_conversions}
use Rattle.dx_funcs.proofs.Apart.{distinct_by}

-- ---- a conversion that is looked for

-- the conversion at a place is listed
pub listed_here : (items list : List Conversion) (i : ℕ) (c : Conversion) → items ≡ list → i < length items → c ≡ get_or items i c → c ∈ list
listed_here items list i c e lt is = rw (← e) (rw is (in_at items i c lt))

-- and what it shows is shown by the list
pub shown_here : {Y : Type 0} (f : Conversion → Y) (items list : List Conversion) (i : ℕ) (c : Conversion) (y : Y) → items ≡ list → i < length items → c ≡ get_or items i c → f c ≡ y → y ∈ map f list
shown_here f items list i c y e lt is same = rw (← same) (in_map f {x = c} {xs = list} (listed_here items list i c e lt is))

-- where no conversion shows it, the list doesn't
pub shown_nowhere : {Y : Type 0} (f : Conversion → Y) (items list : List Conversion) (i : ℕ) (y : Y) → items ≡ list → length items ≤ i → Each (take i items) (λ c. ¬ (f c ≡ y)) → ¬ (y ∈ map f list)
shown_nowhere f items list i y e past none_so m =
    let found = from_map f list m in
    none_so found.0 (rw (take_all i items past, e) found.1) found.2

-- ---- conversions of one list

-- what shows the same in a list without doubles is one
pub one_of : {X Y : Type 0} (f : X → Y) (xs : List X) (x y : X) → Distinct (map f xs) → x ∈ xs → y ∈ xs → f x ≡ f y → x ≡ y
one_of f [] x y d m n same = elim m [ ]
one_of f (z ∷ zs) x y d (here e) (here k) same = sym e ∙ k
one_of f (z ∷ zs) x y d (here e) (there n) same = absurd (d.0 (rw (ap f e ∙ same) (in_map f n)))
one_of f (z ∷ zs) x y d (there m) (here k) same = absurd (d.0 (rw (ap f k ∙ sym same) (in_map f m)))
one_of f (z ∷ zs) x y d (there m) (there n) same = one_of f zs x y d.1 m n same

-- a name or a code tells which conversion it is
pub one_name : (list : List Conversion) (c d : Conversion) → IsOffer list → c ∈ list → d ∈ list → c.name ≡ d.name → c ≡ d
one_name list c d offer = one_of (λ (x : Conversion). x.name) list c d offer.names

pub one_code : (list : List Conversion) (c d : Conversion) → IsOffer list → c ∈ list → d ∈ list → c.code ≡ d.code → c ≡ d
one_code list c d offer = one_of (λ (x : Conversion). x.code) list c d offer.codes

-- a listed conversion takes the number of texts that its code is listed with
pub arity_listed : (list : List Conversion) (c : Conversion) (count : ℕ) → IsOffer list → c ∈ list → IsListed list c.code count → c.arity ≡ count
arity_listed list c count offer m (d, n, is_code, is_arity) = ap (λ (x : Conversion). x.arity) (one_code list c d offer m n (sym is_code)) ∙ is_arity

-- ---- the shipped list

-- it takes one to four texts
abbrev takes_some : Conversion → Bool
takes_some c = nat_le 1 c.arity && nat_le c.arity 4

each_takes_some : (list : List Conversion) → list_all takes_some list ≡ true → Each list (λ c. (1 ≤ c.arity) × (c.arity ≤ 4))
each_takes_some list h c m =
    let parts = and_parts (nat_le 1 c.arity) (nat_le c.arity 4) (from_all takes_some list h m) in
    (leb-true 1 c.arity parts.0, leb-true c.arity 4 parts.1)

-- whatever the shipped list has, it is an offer, as a computation finds
pub shipped_offer : IsOffer shipped_conversions
shipped_offer = record {
  names = distinct_by (pointwise nat_eq) nat_list_eq_equiv (map (λ (c : Conversion). c.name) shipped_conversions) refl;
  codes = distinct_by nat_eq nat_eq_equiv (map (λ (c : Conversion). c.code) shipped_conversions) refl;
  arities = each_takes_some shipped_conversions refl;
}

-- a code with a number of texts is that of one of these conversions
abbrev pub IsOneOf : List Conversion → ℕ → ℕ → Type 0
IsOneOf [] code count = ⊥
IsOneOf (c ∷ cs) code count = ((code ≡ c.code) × (count ≡ c.arity)) ⊎ IsOneOf cs code count

-- a code that is listed with its number of texts is
pub one_of_listed : (list : List Conversion) (code count : ℕ) → IsListed list code count → IsOneOf list code count
one_of_listed [] code count (c, m, is_code, is_arity) = elim m [ ]
one_of_listed (d ∷ list) code count (c, here e, is_code, is_arity) = inl (sym is_code ∙ ap (λ (x : Conversion). x.code) (sym e), sym is_arity ∙ ap (λ (x : Conversion). x.arity) (sym e))
one_of_listed (d ∷ list) code count (c, there m, is_code, is_arity) = inr (one_of_listed list code count (c, m, is_code, is_arity))
