-- The texts of variables, by walking along them.
use Rattle.std.proofs.Common.{◌≡◌, ◌∙◌, ℕ, zero, suc, ◌+◌, ◌<◌, ◌≤◌, List, [], ◌∷◌, inl, inr, refl, sym, subst, arith, length, get_or, take, drop}
use Rattle.std.specs.Prelude.{None, Some}
use Rattle.std.proofs.lemmas.Bool.{ne_eqb, eq-eqb}
use Rattle.std.proofs.lemmas.List.{drop_more, take_more, take-append-drop}
use Rattle.dx_base.specs.Members.{◌∈◌, Each, here, there}
use Rattle.dx_base.proofs.Members.{from_append, in_at, in_right}
use Rattle.dx_base.proofs.Lists.{nothing_left}
use Rattle.dx_model.specs.declared.rules.Atom.{Atom}
use Rattle.dx_model.specs.declared.rules.Cell.TheVariants.{Var}
use Rattle.dx_model.specs.Rules.{Increase, cells_of, text_of, variables}
use Rattle.dx_model.specs.Values.{Tuple}
use Rattle.dx_base.specs.Texts.{Text}
use Rattle.dx_model.proofs.Canonical.{exported_exactly}
use Rattle.dx_holds.specs.Least.{IsLeast}

-- the walk has come to variable number i: those before it are below n, the others are not
pub record AtStep (vars : List ℕ) (t : Tuple) (x n i : ℕ) : Type 0 where
  pub low : Each (take i vars) (λ y. y < n)
  pub high : Each (drop i vars) (λ y. n ≤ y)
  pub same : text_of vars t x ≡ text_of (drop i vars) (drop i t) x
  pub there_still : x ∈ drop i vars

increase_drop : (vars : List ℕ) (i : ℕ) → Increase vars → Increase (drop i vars)
increase_drop [] zero h = tt
increase_drop [] (suc i) h = tt
increase_drop (y ∷ ys) zero h = h
increase_drop (y ∷ ys) (suc i) h = increase_drop ys i h.1

skip_same : (vars : List ℕ) (tuple : Tuple) (i x : ℕ) → i < length vars → length tuple ≡ length vars → ¬ (get_or vars i 0 ≡ x) → text_of (drop (i + 1) vars) (drop (i + 1) tuple) x ≡ text_of (drop i vars) (drop i tuple) x
skip_same [] tuple i x h l n = absurd (omega arith)
skip_same (y ∷ ys) [] i x h l n = absurd (omega arith)
skip_same (y ∷ ys) (t ∷ ts) zero x h l n = rw (ne_eqb x y (λ e. n (sym e))) refl
skip_same (y ∷ ys) (t ∷ ts) (suc i) x h l n =
    let e : suc i + 1 ≡ suc (i + 1) = omega arith in
    rw e (skip_same ys ts i x (omega arith) (omega arith) n)

text_here : (vars : List ℕ) (tuple : Tuple) (i x : ℕ) (d : Text) → i < length vars → length tuple ≡ length vars → get_or vars i 0 ≡ x → text_of (drop i vars) (drop i tuple) x ≡ get_or tuple i d
text_here [] tuple i x d h l e = absurd (omega arith)
text_here (y ∷ ys) [] i x d h l e = absurd (omega arith)
text_here (y ∷ ys) (t ∷ ts) zero x d h l e = rw (eq-eqb x y (sym e)) refl
text_here (y ∷ ys) (t ∷ ts) (suc i) x d h l e = text_here ys ts i x d (omega arith) (omega arith) e

module _ (A : List Atom) (t : Tuple) (x : ℕ) (long : length t ≡ length (variables (cells_of A))) where
  abbrev vars : List ℕ
  vars = variables (cells_of A)

  exactly : Increase (variables (cells_of A)) × ((y : ℕ) → (y ∈ variables (cells_of A) → Var y ∈ cells_of A) × (Var y ∈ cells_of A → y ∈ variables (cells_of A)))
  exactly = exported_exactly (record { premise = []; derived = []; conclusion = A })

  pub step_start : Var x ∈ cells_of A → AtStep (variables (cells_of A)) t x 0 0
  step_start m = record {
    low = λ y k. elim k [ ];
    high = λ y k. omega arith;
    same = refl;
    there_still = (exactly.1 x).1 m;
  }

  module _ (n i : ℕ) (s : AtStep (variables (cells_of A)) t x n i) where
    pub some_left : ¬ (IsLeast (cells_of A) n None)
    some_left h =
        let m : x ∈ variables (cells_of A) = subst (λ (l : List ℕ). x ∈ l) (take-append-drop i (variables (cells_of A))) (in_right (take i (variables (cells_of A))) s.there_still) in
        let low = h x ((exactly.1 x).0 m) in
        let high = s.high x s.there_still in
        omega (arith, low, high)

    pub is_next : (y : ℕ) → i < length t → IsLeast (cells_of A) n (Some y) → get_or (variables (cells_of A)) i 0 ≡ y
    is_next y h m =
        let b : i < length (variables (cells_of A)) = omega (arith, h, long) in
        let d = drop_more (variables (cells_of A)) i 0 b in
        let first : get_or (variables (cells_of A)) i 0 ∈ drop i (variables (cells_of A)) = rw d (here refl) in
        let up = s.high (get_or (variables (cells_of A)) i 0) first in
        let least = m.2 (get_or (variables (cells_of A)) i 0) ((exactly.1 (get_or (variables (cells_of A)) i 0)).0 (in_at (variables (cells_of A)) i 0 b)) up in
        let y_there : y ∈ variables (cells_of A) = (exactly.1 y).1 m.1 in
        let grows : Increase (get_or (variables (cells_of A)) i 0 ∷ drop (i + 1) (variables (cells_of A))) = subst Increase d (increase_drop (variables (cells_of A)) i exactly.0) in
        elim (from_append (take i (variables (cells_of A))) (subst (λ (l : List ℕ). y ∈ l) (sym (take-append-drop i (variables (cells_of A)))) y_there)) [
          | inl l ↦ absurd (let q = s.low y l in omega (arith, q, m.0))
          | inr r ↦ at_head (get_or (variables (cells_of A)) i 0) (drop (i + 1) (variables (cells_of A))) (subst (λ (l : List ℕ). y ∈ l) d r) grows least
        ]
      where
        at_head : (z : ℕ) (zs : List ℕ) → y ∈ (z ∷ zs) → Increase (z ∷ zs) → y ≤ z → z ≡ y
        at_head z zs (here e) g l = e
        at_head z zs (there k) g l = let q = g.0 y k in absurd (omega (arith, q, l))

    pub step_more : (y : ℕ) → i < length t → get_or (variables (cells_of A)) i 0 ≡ y → ¬ (y ≡ x) → AtStep (variables (cells_of A)) t x (y + 1) (i + 1)
    step_more y h e ne =
        let b : i < length (variables (cells_of A)) = omega (arith, h, long) in
        let d = drop_more (variables (cells_of A)) i 0 b in
        let grows : Increase (get_or (variables (cells_of A)) i 0 ∷ drop (i + 1) (variables (cells_of A))) = subst Increase d (increase_drop (variables (cells_of A)) i exactly.0) in
        let up = s.high (get_or (variables (cells_of A)) i 0) (rw d (here refl)) in
        record {
          low = λ z m. elim (from_append (take i (variables (cells_of A))) (rw (take_more (variables (cells_of A)) i 0 b) at m)) [
            | inl l ↦ let q = s.low z l in omega (arith, q, up, e)
            | inr r ↦ last z r
          ];
          high = λ z m. let q = grows.0 z m in omega (arith, q, e);
          same = s.same ∙ sym (skip_same (variables (cells_of A)) t i x b long (λ k. ne (sym e ∙ k)));
          there_still = behind (get_or (variables (cells_of A)) i 0) (drop (i + 1) (variables (cells_of A))) (subst (λ (l : List ℕ). x ∈ l) d s.there_still) e;
        }
      where
        last : (z : ℕ) → z ∈ (get_or (variables (cells_of A)) i 0 ∷ []) → z < y + 1
        last z (here k) = omega (arith, k, e)
        last z (there k) = elim k [ ]

        behind : (z : ℕ) (zs : List ℕ) → x ∈ (z ∷ zs) → z ≡ y → x ∈ zs
        behind z zs (here k) q = absurd (ne (sym q ∙ k))
        behind z zs (there k) q = k

    pub text_is : (y : ℕ) (d : Text) → i < length t → get_or (variables (cells_of A)) i 0 ≡ y → y ≡ x → d ≡ get_or t i d → d ≡ text_of (variables (cells_of A)) t x
    text_is y d h e same item =
        let b : i < length (variables (cells_of A)) = omega (arith, h, long) in
        item ∙ sym (s.same ∙ text_here (variables (cells_of A)) t i x d b long (e ∙ same))

    pub walked : ¬ (length t ≤ i)
    walked h = nothing_left (variables (cells_of A)) i x (omega (arith, h, long)) s.there_still
