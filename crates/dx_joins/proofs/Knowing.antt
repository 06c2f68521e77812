-- Marks of variables that are known.
use Rattle.std.proofs.Common.{◌≡◌, ◌∙◌, ◌<◌, ◌≤◌, ◌⊎◌, ◌+◌, ◌++◌, ◌∷◌, ℕ, List, [], Bool, true, false, inl, inr, refl, sym, ap, subst, arith, length, get_or, take}
use Rattle.std.specs.Prelude.{slice_set}
use Rattle.std.proofs.lemmas.Bool.{cases_eq}
use Rattle.std.proofs.lemmas.List.{get_or-set_same, get_or-set_other, length-set, take_more}
use Rattle.dx_base.specs.Members.{◌∈◌, Each, here, there}
use Rattle.dx_base.proofs.Members.{in_left, in_right, from_append}
use Rattle.dx_joins.specs.declared.known.Known.{Known}
use Rattle.dx_joins.specs.declared.pattern.Pattern.{Pattern}
use Rattle.dx_joins.specs.Joining.{variables_of_patterns}
use Rattle.dx_joins.specs.Knowing.{NowKnown}
use Rattle.dx_joins.proofs.Patterns.{variables_more}

abbrev Marked : List Bool → ℕ → Type 0
Marked ms x = get_or ms x false ≡ true

-- a mark more
pub mark_there : (ms : List Bool) (v : ℕ) → v < length ms → Marked (slice_set ms v true) v
mark_there ms v h = get_or-set_same ms v true false h

pub mark_stays : (ms : List Bool) (v x : ℕ) → v < length ms → Marked ms x → Marked (slice_set ms v true) x
mark_stays ms v x h m = elim (cases_eq x v) [
  | inl e ↦ subst (λ y. Marked (slice_set ms v true) y) (sym e) (mark_there ms v h)
  | inr n ↦ get_or-set_other ms v x true false n ∙ m
]

pub mark_only : (ms : List Bool) (v x : ℕ) → Marked (slice_set ms v true) x → Marked ms x ⊎ (x ≡ v)
mark_only ms v x m = elim (cases_eq x v) [ inl e ↦ inr e | inr n ↦ inl (sym (get_or-set_other ms v x true false n) ∙ m) ]

last : (v x : ℕ) → x ∈ (v ∷ []) → v ≡ x
last v x (here e) = e
last v x (there m) = elim m [ ]

-- a variable more is known
pub one_known : (old new : Known) (v : ℕ) → v < length old.marks.items → new.marks.items ≡ slice_set old.marks.items v true → NowKnown old new (v ∷ [])
one_known old new v h e = record {
  places = ap length e ∙ length-set old.marks.items v true;
  stay = λ x m. subst (λ ms. Marked ms x) (sym e) (mark_stays old.marks.items v x h m);
  known = λ all x m. subst (λ ms. Marked ms x) (sym e) (subst (λ y. Marked (slice_set old.marks.items v true) y) (last v x m) (mark_there old.marks.items v h));
  only = λ x m. elim (mark_only old.marks.items v x (subst (λ ms. Marked ms x) e m)) [ inl l ↦ inl l | inr q ↦ inr (here (sym q)) ];
}

-- a variable without a place
pub none_known : (old : Known) (v : ℕ) → length old.marks.items ≤ v → NowKnown old old (v ∷ [])
none_known old v h = record {
  places = refl;
  stay = λ x m. m;
  known = λ all x m. absurd (let b = all v (here refl) in omega (arith, b, h));
  only = λ x m. inl m;
}

pub now_more : (old mid new : Known) (xs : List ℕ) (i : ℕ) → i < length xs → NowKnown old mid (take i xs) → NowKnown mid new (get_or xs i 0 ∷ []) → NowKnown old new (take (i + 1) xs)
now_more old mid new xs i h a b = rw (take_more xs i 0 h) (record {
  places = b.places ∙ a.places;
  stay = λ x m. b.stay x (a.stay x m);
  known = λ all x m. elim (from_append (take i xs) m) [
    | inl l ↦ b.stay x (a.known (λ y n. all y (in_left (get_or xs i 0 ∷ []) n)) x l)
    | inr r ↦ b.known (λ y n. let k = all y (in_right (take i xs) n) in let p = a.places in omega (arith, k, p)) x r
  ];
  only = λ x m. elim (b.only x m) [
    | inl l ↦ elim (a.only x l) [ inl o ↦ inl o | inr k ↦ inr (in_left (get_or xs i 0 ∷ []) k) ]
    | inr r ↦ inr (in_right (take i xs) r)
  ];
})

-- one pattern more has its variables below
pub above_more : (ps : List Pattern) (i old new : ℕ) (p : Pattern) (vs : List ℕ) → i < length ps → p ≡ get_or ps i p → vs ≡ p.variables.items → old ≤ new → Each vs (λ x. x < new)
    → Each (variables_of_patterns (take i ps)) (λ x. x < old) → Each (variables_of_patterns (take (i + 1) ps)) (λ x. x < new)
above_more ps i old new p vs h e d up fits before x m =
    let s : take (i + 1) ps ≡ take i ps ++ p ∷ [] = take_more ps i p h ∙ ap (λ (q : Pattern). take i ps ++ q ∷ []) (sym e) in
    let v : variables_of_patterns (take (i + 1) ps) ≡ variables_of_patterns (take i ps) ++ p.variables.items = ap variables_of_patterns s ∙ variables_more (take i ps) p in
    elim (from_append (variables_of_patterns (take i ps)) (subst (λ (l : List ℕ). x ∈ l) v m)) [
      | inl l ↦ let q = before x l in omega (arith, q, up)
      | inr r ↦ fits x (subst (λ (l : List ℕ). x ∈ l) (sym d) r)
    ]
