-- What a look-up among variables that were found tells.
use Rattle.std.proofs.Common.{[], ◌∷◌, ◌≤◌, Bool, inl, inr, rules, ◌≡◌, ◌∙◌, ◌<◌, ℕ, List, Bor, ap, arith, length, refl, subst, sym, true, false}
use Rattle.std.specs.List.{AllWithin, HoldsAt, list_any}
use Rattle.std.specs.Option.{option_copied}
use Rattle.std.specs.Prelude.{◌==◌, Option, None, Some, is_some, IsTrue, ◌↔◌, MatchOption}
use Rattle.std.proofs.lemmas.Bool.{cases_eq, false≢true, true≢false}
use Rattle.dx_base.specs.Members.{◌∈◌, here, there}
use Rattle.dx_base.proofs.Members.{contains_from_in, from_map, in_at, in_map}
use Rattle.dx_model.specs.declared.rules.Cell.TheVariants.{Ex}
use Rattle.dx_holds.specs.declared.matching.Found.{Found}
use Rattle.dx_holds.specs.Searching.{IsAtomWanted, NoneLeft, found_variables}
use Rattle.dx_model.specs.declared.rules.Atom.{Atom}
use Rattle.dx_model.specs.Rules.{atom_at}

abbrev IsAt : List Found → ℕ → Option Found → Type 0
IsAt found v o = MatchOption o (¬ (v ∈ found_variables found)) (λ b. (b ∈ found) × (b.variable ≡ v))

pub found_some : (found : List Found) (v : ℕ) (o : Option Found) → is_some o ≡ true → IsAt found v o → v ∈ found_variables found
found_some found v None e m = absurd (false≢true e)
found_some found v (Some b) e m = subst (λ (x : ℕ). x ∈ found_variables found) m.1 (in_map (λ (x : Found). x.variable) m.0)

pub found_none : (found : List Found) (v : ℕ) (o : Option Found) → is_some o ≡ false → IsAt found v o → ¬ (v ∈ found_variables found)
found_none found v None e m = m
found_none found v (Some b) e m = absurd (true≢false e)

pub same_ex : (v w : ℕ) → Ex v ≡ Ex w → v ≡ w
same_ex v w e = cc e

-- whether a look-up found something tells whether the variable was found
pub ex_found : (found : List Found) (v : ℕ) (o : Option Found) → IsAt found v o → IsTrue (is_some o) ↔ ((w : ℕ) × (Ex v ≡ Ex w) × (w ∈ found_variables found))
ex_found found v None m = ((λ e. absurd (false≢true e)), (λ k. absurd (m (subst (λ (x : ℕ). x ∈ found_variables found) (sym (same_ex v k.0 k.1)) k.2))))
ex_found found v (Some b) m = ((λ e. (v, refl, found_some found v (Some b) refl m)), (λ k. refl))

-- what was found is a value of this variable
abbrev pub HasVariable : ℕ → Found → Type 0
HasVariable v b = b.variable ≡ v

-- the first that has the variable, as the look-up gives it
pub found_first : (found : List Found) (v : ℕ) (o : Option (Bor Found)) (r : Option Found) → r ≡ option_copied o
    → MatchOption o (AllWithin (λ (b : Found). ¬ (HasVariable v b)) found 0 (length found))
    (λ x. HasVariable v x.now × (i : ℕ) × (i < length found) × HoldsAt (λ y. y ≡ x.now) found i × AllWithin (λ (b : Found). ¬ (HasVariable v b)) found 0 i) → IsAt found v r
found_first found v None r e h = rw e none
  where
    none : ¬ (v ∈ found_variables found)
    none m =
        let b = from_map (λ (b : Found). b.variable) found m in
        let c = contains_from_in b.1 in
        h c.0 b.0 (omega arith) c.1 (ap (λ (x : Found). x.variable) c.2 ∙ b.2)
found_first found v (Some x) r e h = rw e (subst (λ (y : Found). y ∈ found) (h.3 x.now) (in_at found h.1 x.now h.2), h.0)

-- what `contains` answers
pub done_tells : (xs : List ℕ) (x : ℕ) (b : Bool) → b ≡ list_any (λ y. y == x) xs → IsTrue b ↔ (x ∈ xs)
done_tells [] x b e = ((λ t. absurd (false≢true (sym e ∙ t))), (λ m. elim m [ ]))
done_tells (y ∷ ys) x b e = let rest = done_tells ys x (list_any (λ z. z == x) ys) refl in elim (cases_eq y x) [
  | inl s ↦ ((λ t. here s), (λ m. e ∙ search (rules, s)))
  | inr d ↦ ((λ t. there (rest.0 (search (rules, d, t, e)))), (λ m. elim m [ here s ↦ absurd (d s) | there n ↦ let r = rest.1 n in search (rules, d, r, e) ]))
]

-- the atom is wanted and not done
abbrev pub IsNext : List Atom → List Found → List ℕ → Option ℕ → ℕ → Type 0
IsNext A found done since k = (¬ (k ∈ done)) × IsAtomWanted found since (atom_at A k)

-- the first place that is wanted, as a list of atoms has it
pub next_tells : (A : List Atom) (found : List Found) (done : List ℕ) (since : Option ℕ) (r : Option ℕ)
    → MatchOption r ((k : ℕ) → 0 ≤ k → k < length A → ¬ (IsNext A found done since k))
    (λ i. (0 ≤ i) × (i < length A) × IsNext A found done since i × ((k : ℕ) → 0 ≤ k → k < i → ¬ (IsNext A found done since k)))
    → MatchOption r (NoneLeft A found done since) (λ i. (i < length A) × ¬ (i ∈ done))
next_tells A found done since None h = λ i l n w. h i (omega arith) l (n, w)
next_tells A found done since (Some i) h = (h.1, h.2.0)
