-- Domains of variables.
use Rattle.std.proofs.Common.{◌≡◌, ℕ, ◌+◌, ◌*◌, ◌-◌, ◌<◌, ◌≤◌, ◌^◌, List, [], ◌∷◌, ◌++◌, refl, sym, ap, arith, inl, inr, subst}
use Rattle.std.proofs.Common.{length, get_or}
use Rattle.std.proofs.Math.ListN.{set}
use Rattle.std.proofs.Math.Nat.{one-le-pow, pow-le-pow_right}
use Rattle.std.proofs.lemmas.Bool.{cases_eq, cases_lt}
use Rattle.std.proofs.lemmas.List.{get_or-set_same, get_or-set_other, get_or_append_left, get_or_push, get_or_past, length-append}
use Rattle.std.proofs.lemmas.List.Sums.{sum_by-set}
use Rattle.std.proofs.lemmas.Grind.{pow_more}
use Rattle.dx_solver.specs.declared.domain.Domain.{Domain}
use Rattle.dx_solver.specs.declared.domain.Domain.TheVariants.{Any}
use Rattle.dx_solver.specs.declared.node.Node.{Node}
use Rattle.dx_solver.specs.Domains.{DomainHas, Keeps, domain_size, weight, worth}

-- another domain for a variable
pub keeps_set : (ds : List Domain) (v : ℕ) (d : Domain) (a : ℕ → ℕ) → v < length ds → Keeps ds a → DomainHas d (a v) → Keeps (set ds v d) a
keeps_set ds v d a h k m w = elim (cases_eq w v) [
  | inl e ↦ subst (λ (u : ℕ). DomainHas (get_or (set ds v d) u Any) (a u)) (sym e)
      (subst (λ (x : Domain). DomainHas x (a v)) (sym (get_or-set_same ds v d Any h)) m)
  | inr n ↦ subst (λ (x : Domain). DomainHas x (a w)) (sym (get_or-set_other ds v w d Any n)) (k w)
]

pub less_set : (m : ℕ) (ds : List Domain) (v : ℕ) (d : Domain) → v < length ds → domain_size m d < domain_size m (get_or ds v Any)
    → weight m (set ds v d) < weight m ds
less_set m ds v d h l = let e = sum_by-set (domain_size m) ds v d Any h in omega (arith, e, l)

-- powers of three
up : (a w : ℕ) → a ≤ w → 3 ^ a ≤ 3 ^ w
up a w h = let z : 0 < 3 = omega arith in pow-le-pow_right {n = 3} z {i = a} {j = w} h

pub twice : (a b w : ℕ) → a < w → b < w → 3 ^ a + 3 ^ b < 3 ^ w
twice a b w h k =
    let p : 3 ^ a ≤ 3 ^ (w - 1) = up a (w - 1) (omega arith) in
    let q : 3 ^ b ≤ 3 ^ (w - 1) = up b (w - 1) (omega arith) in
    let o : 1 ≤ 3 ^ (w - 1) = one-le-pow (w - 1) 3 (omega arith) in
    let z : 3 ^ (w - 1 + 1) ≡ 3 ^ (w - 1) * 3 = pow_more 3 (w - 1) in
    let f : w ≡ w - 1 + 1 = omega arith in
    let e : 3 ^ w ≡ 3 ^ (w - 1 + 1) = ap (λ (n : ℕ). 3 ^ n) f in
    omega (arith, p, q, o, z, e)

pub once : (a w : ℕ) → a < w → 3 ^ a < 3 ^ w
once a w h = let t = twice a a w h h in omega (arith, t)

pub more_or_same : (a w : ℕ) → a ≤ w → 3 ^ a ≤ 3 ^ w
more_or_same a w h = up a w h

pub worth_one : (n : Node) (w : ℕ) → weight (2 ^ 32) n.domains.items < w → worth (n ∷ []) < 3 ^ w
worth_one n w h = let t = once (weight (2 ^ 32) n.domains.items) w h in omega (arith, t)

pub worth_two : (m n : Node) (w : ℕ) → weight (2 ^ 32) m.domains.items < w → weight (2 ^ 32) n.domains.items < w
    → worth (m ∷ (n ∷ [])) < 3 ^ w
worth_two m n w h k = let t = twice (weight (2 ^ 32) m.domains.items) (weight (2 ^ 32) n.domains.items) w h k in omega (arith, t)

-- one domain more
pub keeps_push : (ds : List Domain) (d : Domain) (a : ℕ → ℕ) → Keeps ds a → DomainHas d (a (length ds)) → Keeps (ds ++ d ∷ []) a
keeps_push ds d a k h w = elim (cases_lt w (length ds)) [
  | inl l ↦ subst (λ (x : Domain). DomainHas x (a w)) (sym (get_or_append_left ds (d ∷ []) Any w l)) (k w)
  | inr l ↦ elim (cases_eq w (length ds)) [
    | inl e ↦ subst (λ (u : ℕ). DomainHas (get_or (ds ++ d ∷ []) u Any) (a u)) (sym e)
        (subst (λ (x : Domain). DomainHas x (a (length ds))) (sym (get_or_push ds d Any (length ds) refl)) h)
    | inr n ↦
        let long = length-append ds (d ∷ []) in
        let past : get_or (ds ++ d ∷ []) w Any ≡ Any = get_or_past (ds ++ d ∷ []) w Any (omega (arith, long, l, n)) in
        subst (λ (x : Domain). DomainHas x (a w)) (sym past) tt
  ]
]
