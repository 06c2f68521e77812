-- Nodes that are still to be looked at.
use Rattle.std.proofs.Common.{◌≡◌, ◌∙◌, ℕ, ◌<◌, ◌≤◌, ◌^◌, List, [], ◌∷◌, ◌++◌, refl, sym, arith, inl, inr, subst}
use Rattle.std.proofs.Common.{length, Result, Ok, Err}
use Rattle.std.specs.Prelude.{Option, Some, None, MatchOption, IfOk}
use Rattle.std.proofs.Math.Nat.{one-le-pow}
use Rattle.std.proofs.lemmas.List.{append-nil}
use Rattle.std.proofs.lemmas.List.Sums.{sum_by_push, sum_by-append}
use Rattle.dx_base.specs.Members.{◌∈◌, Each, here, there}
use Rattle.dx_base.proofs.Members.{in_left, in_right, from_append}
use Rattle.dx_solver.specs.declared.domain.Domain.{Domain}
use Rattle.dx_solver.specs.declared.node.Node.{Node}
use Rattle.dx_solver.specs.Domains.{IsBranched, Keeps, weight, worth}
use Rattle.dx_solver.proofs.DomainFacts.{more_or_same}

-- each solution that the root allows is allowed by a node to be looked at
pub record Covers (P : (ℕ → ℕ) → Type 0) (root : List Domain) (nodes : List Node) : Type 0 where
  pub some : (a : ℕ → ℕ) → P a → Keeps root a → (m : Node) × (m ∈ nodes) × Keeps m.domains.items a

last_is : (m node : Node) → m ∈ (node ∷ []) → node ≡ m
last_is m node (here e) = e
last_is m node (there k) = elim k [ ]

module _ (P : (ℕ → ℕ) → Type 0) (root : List Domain) where
  pub covers_root : (node : Node) → node.domains.items ≡ root → Covers P root (node ∷ [])
  covers_root node e = record { some = λ a p k. (node, here refl, subst (λ (ds : List Domain). Keeps ds a) (sym e) k) }

  pub covers_none : Covers P root [] → (a : ℕ → ℕ) → Keeps root a → ¬ (P a)
  covers_none c a k p = let m = c.some a p k in elim m.1 [ ]

  -- a node that allows no solution
  pub covers_less : (rest : List Node) (node : Node) → ((a : ℕ → ℕ) → P a → ¬ (Keeps node.domains.items a))
      → Covers P root (rest ++ node ∷ []) → Covers P root rest
  covers_less rest node none c = record { some = λ a p k. let m = c.some a p k in pick a p m.0 m.1 m.2 }
    where
      pick : (a : ℕ → ℕ) → P a → (m : Node) → m ∈ (rest ++ node ∷ []) → Keeps m.domains.items a
          → (m : Node) × (m ∈ rest) × Keeps m.domains.items a
      pick a p m i k = elim (from_append rest i) [
        | inl l ↦ (m, l, k)
        | inr r ↦ absurd (none a p (subst (λ (n : Node). Keeps n.domains.items a) (sym (last_is m node r)) k))
      ]

  -- nodes in its place
  pub covers_more : (Q : (ℕ → ℕ) → Type 0) → ((a : ℕ → ℕ) → P a → Q a) → (rest new : List Node) (node cut : Node)
      → ((a : ℕ → ℕ) → P a → Keeps node.domains.items a → Keeps cut.domains.items a) → IsBranched Q cut rest new
      → Covers P root (rest ++ node ∷ []) → Covers P root new
  covers_more Q q rest new node cut kept b c = record { some = λ a p k. let m = c.some a p k in pick a p m.0 m.1 m.2 }
    where
      pick : (a : ℕ → ℕ) → P a → (m : Node) → m ∈ (rest ++ node ∷ []) → Keeps m.domains.items a
          → (m : Node) × (m ∈ new) × Keeps m.domains.items a
      pick a p m i k = elim (from_append rest i) [
        | inl l ↦ (m, subst (λ (ns : List Node). m ∈ ns) (sym b.added) (in_left b.more l), k)
        | inr r ↦
            let now = kept a p (subst (λ (n : Node). Keeps n.domains.items a) (sym (last_is m node r)) k) in
            let t = b.all a (q a p) now in
            (t.0, subst (λ (ns : List Node). t.0 ∈ ns) (sym b.added) (in_right rest t.1), t.2)
      ]

-- the measure falls
pub worth_less : (rest : List Node) (node : Node) → worth rest < worth (rest ++ node ∷ [])
worth_less rest node =
    let e = sum_by_push (λ (n : Node). 3 ^ weight (2 ^ 32) n.domains.items) rest node in
    let p = one-le-pow (weight (2 ^ 32) node.domains.items) 3 (omega arith) in
    omega (arith, e, p)

pub worth_more : {Q : (ℕ → ℕ) → Type 0} (rest new : List Node) (node cut : Node)
    → weight (2 ^ 32) cut.domains.items ≤ weight (2 ^ 32) node.domains.items → IsBranched Q cut rest new
    → worth new < worth (rest ++ node ∷ [])
worth_more rest new node cut l b =
    let e = sum_by_push (λ (n : Node). 3 ^ weight (2 ^ 32) n.domains.items) rest node in
    let d = sum_by-append (λ (n : Node). 3 ^ weight (2 ^ 32) n.domains.items) rest b.more in
    let p = more_or_same (weight (2 ^ 32) cut.domains.items) (weight (2 ^ 32) node.domains.items) l in
    let k = b.less in
    rw b.added (omega (arith, e, p, d, k))

pub each_less : (P : Node → Type 0) (rest : List Node) (node : Node) → Each (rest ++ node ∷ []) P → Each rest P
each_less P rest node e m i = e m (in_left (node ∷ []) i)

pub each_last : (P : Node → Type 0) (rest : List Node) (node : Node) → Each (rest ++ node ∷ []) P → P node
each_last P rest node e = e node (in_right rest (here refl))

pub each_both : (P : Node → Type 0) (xs ys : List Node) → Each xs P → Each ys P → Each (xs ++ ys) P
each_both P xs ys e d m i = elim (from_append xs i) [ inl l ↦ e m l | inr r ↦ d m r ]

-- what is said of nodes in the place of a node
pub weaken : (P Q : (ℕ → ℕ) → Type 0) → ((a : ℕ → ℕ) → Q a → P a) → (node : Node) (old new : List Node) → IsBranched P node old new
    → IsBranched Q node old new
weaken P Q f node old new b = record {
  more = b.more;
  added = b.added;
  less = b.less;
  many = b.many;
  all = λ a q k. b.all a (f a q) k;
}

pub from_cut : (P Q : (ℕ → ℕ) → Type 0) → ((a : ℕ → ℕ) → P a → Q a) → (node cut : Node)
    → ((a : ℕ → ℕ) → P a → Keeps node.domains.items a → Keeps cut.domains.items a)
    → length cut.domains.items ≡ length node.domains.items
    → weight (2 ^ 32) cut.domains.items ≤ weight (2 ^ 32) node.domains.items → (old new : List Node) → IsBranched Q cut old new
    → IsBranched P node old new
from_cut P Q f node cut kept long light old new b =
    let p = more_or_same (weight (2 ^ 32) cut.domains.items) (weight (2 ^ 32) node.domains.items) light in
    let l = b.less in
    record {
      more = b.more;
      added = b.added;
      less = omega (arith, p, l);
      many = λ m i. b.many m i ∙ long;
      all = λ a q k. b.all a (f a q) (kept a q k);
    }

-- a node that allows no solution needs none in its place
pub nothing : (P : (ℕ → ℕ) → Type 0) (node : Node) (nodes : List Node) → ((a : ℕ → ℕ) → P a → ¬ (Keeps node.domains.items a))
    → IsBranched P node nodes nodes
nothing P node nodes none =
    let p = one-le-pow (weight (2 ^ 32) node.domains.items) 3 (omega arith) in
    record {
      more = [];
      added = sym (append-nil nodes);
      less = omega (arith, p);
      many = λ m i. elim i [ ];
      all = λ a q k. absurd (none a q k);
    }

pub one_only : (m : Node) (n : ℕ) → length m.domains.items ≡ n → Each (m ∷ []) (λ (x : Node). length x.domains.items ≡ n)
one_only m n e x (here d) = subst (λ (y : Node). length y.domains.items ≡ n) d e
one_only m n e x (there i) = elim i [ ]

pub two_only : (k m : Node) (n : ℕ) → length k.domains.items ≡ n → length m.domains.items ≡ n
    → Each (k ∷ (m ∷ [])) (λ (x : Node). length x.domains.items ≡ n)
two_only k m n d e x (here i) = subst (λ (y : Node). length y.domains.items ≡ n) i d
two_only k m n d e x (there i) = one_only m n e x i

pub match_none : {X A C : Type 0} (B : X → Type 0) (o : Option X) → (A → C) → MatchOption o A B → MatchOption o C B
match_none B None f m = f m
match_none B (Some x) f m = m

-- an answer of a call that is given back as it is
pub ok_weaken : {E X A B : Type 0} (r : Result X E) → (A → B) → IfOk r (λ _. A) → IfOk r (λ _. B)
ok_weaken (Ok x) f h = f h
ok_weaken (Err e) f h = tt

pub ok_match : {E X A C : Type 0} (B : X → Type 0) (r : Result (Option X) E) → (A → C) → IfOk r (λ o. MatchOption o A B)
    → IfOk r (λ o. MatchOption o C B)
ok_match B (Ok o) f h = match_none B o f h
ok_match B (Err e) f h = tt

pub empty_is : (xs : List Node) → length xs ≡ 0 → xs ≡ []
empty_is [] e = refl
empty_is (x ∷ xs) e = absurd (omega arith)
