-- The steps of the scripts of rules.
use Rattle.std.proofs.Common.{◌≡◌, ℕ, ◌<◌, Bool, true, List, [], ◌∷◌, length, refl, subst, inl, inr}
use Rattle.dx_model.specs.declared.rules.Atom.{Atom}
use Rattle.dx_model.specs.declared.rules.Rule.{Rule}
use Rattle.dx_base.specs.Members.{◌∈◌, here, there}
use Rattle.dx_model.specs.Covers.{rule_at}
use Rattle.dx_base.proofs.Members.{in_map, from_map, in_left, in_right, from_append, in_flat_map}
use Rattle.dx_script.specs.declared.form.Select.{Select}
use Rattle.dx_script.specs.declared.form.Equal.{Equal}
use Rattle.dx_script.specs.declared.form.Unless.{Unless}
use Rattle.dx_script.specs.declared.form.Out.{Out}
use Rattle.dx_script.specs.declared.form.Step.{Step}
use Rattle.dx_script.specs.declared.form.Step.TheVariants.{Create, MatchRows, KeepRows, InsertRows}
use Rattle.dx_model.specs.Values.{Tuple}
use Rattle.dx_model.specs.Covers.{below}
use Rattle.dx_model.proofs.Lists.{in_below, from_below}
use Rattle.dx_schema.specs.Names.{TableNames}
use Rattle.dx_funcs.specs.declared.conversion.Conversion.{Conversion}
use Rattle.dx_script.specs.Generated.{create_steps, match_step, match_steps, keep_step, keep_steps, has_parts, insert_step, inserts_of, insert_steps, script_with}
use Rattle.dx_base.proofs.Members.{from_flat_map}

-- ---- the steps of rules

pub from_matches : (source : List TableNames) (list : List Conversion) (R : List Rule) (s : Step) → s ∈ match_steps source list R
    → (j : ℕ) × (j < length R) × (match_step source list j (rule_at R j) ≡ s)
from_matches source list R s m = let w = from_map (λ r. match_step source list r (rule_at R r)) (below (length R)) m in (w.0, from_below w.0 (length R) w.1, w.2)

in_matches : (source : List TableNames) (list : List Conversion) (R : List Rule) (j : ℕ) → j < length R → match_step source list j (rule_at R j) ∈ match_steps source list R
in_matches source list R j h = in_map (λ r. match_step source list r (rule_at R r)) (in_below j (length R) h)

pub from_keeps : (keeps : ℕ → List Unless) (R : List Rule) (s : Step) → s ∈ keep_steps keeps R → (q : ℕ) × (s ∈ keep_step q (keeps q))
from_keeps keeps R s m = let w = from_flat_map (λ r. keep_step r (keeps r)) (below (length R)) m in (w.0, w.2)

in_keeps : (keeps : ℕ → List Unless) (R : List Rule) (j : ℕ) → j < length R → (s : Step) → s ∈ keep_step j (keeps j) → s ∈ keep_steps keeps R
in_keeps keeps R j h s m = in_flat_map (λ r. keep_step r (keeps r)) (in_below j (length R) h) m

pub from_inserts : (target : List TableNames) (keeps : ℕ → List Unless) (R : List Rule) (s : Step) → s ∈ insert_steps target keeps R
    → (j : ℕ) × (j < length R) × (a : Atom) × (a ∈ (rule_at R j).conclusion) × (insert_step target (has_parts (keeps j)) j (rule_at R j) a ≡ s)
from_inserts target keeps R s m =
    let w = from_flat_map (λ r. inserts_of target (has_parts (keeps r)) r (rule_at R r)) (below (length R)) m in
    let u = from_map (insert_step target (has_parts (keeps w.0)) w.0 (rule_at R w.0)) (rule_at R w.0).conclusion w.2 in
    (w.0, from_below w.0 (length R) w.1, u.0, u.1, u.2)

in_inserts : (target : List TableNames) (keeps : ℕ → List Unless) (R : List Rule) (j : ℕ) → j < length R
    → (a : Atom) → a ∈ (rule_at R j).conclusion → insert_step target (has_parts (keeps j)) j (rule_at R j) a ∈ insert_steps target keeps R
in_inserts target keeps R j h a m =
    in_flat_map (λ r. inserts_of target (has_parts (keeps r)) r (rule_at R r)) (in_below j (length R) h) (in_map (insert_step target (has_parts (keeps j)) j (rule_at R j)) m)

pub from_keep_step : (r q : ℕ) (us unless : List Unless) → KeepRows r unless ∈ keep_step q us → (q ≡ r) × (us ≡ unless)
from_keep_step r q [] unless m = elim m [ ]
from_keep_step r q (u ∷ us) unless (here e) = (cc, cc)
from_keep_step r q (u ∷ us) unless (there m) = elim m [ ]

pub in_keep_step : (r : ℕ) (us : List Unless) → has_parts us ≡ true → KeepRows r us ∈ keep_step r us
in_keep_step r [] e = cc
in_keep_step r (u ∷ us) e = here refl

-- ---- the script of rules, by steps

module _ (source target : List TableNames) (list : List Conversion) (keeps : ℕ → List Unless) (R : List Rule) where
  abbrev pub script : List Step
  script = script_with source target list keeps R

  pub a_match : (r : ℕ) (select : List Select) (from : Tuple) (equal : List Equal) → MatchRows r select from equal ∈ script
      → (j : ℕ) × (j < length R) × (match_step source list j (rule_at R j) ≡ MatchRows r select from equal)
  a_match r select from equal m = elim (from_append (create_steps target) m) [
    | inl l ↦ let w = from_map (λ (t : TableNames). Create t.name t.columns) target l in let e = w.2 in absurd (cc)
    | inr n ↦ elim (from_append (match_steps source list R) n) [
      | inl l ↦ let w = from_matches source list R _ l in (w.0, w.1, w.2)
      | inr o ↦ elim (from_append (keep_steps keeps R) o) [
        | inl l ↦ let w = from_keeps keeps R _ l in absurd (no_keep w.0 (keeps w.0) w.1)
        | inr p ↦ let w = from_inserts target keeps R _ p in let e = w.4 in absurd (cc)
      ]
    ]
  ]
    where
      no_keep : (q : ℕ) (us : List Unless) → MatchRows r select from equal ∈ keep_step q us → ⊥
      no_keep q [] m = elim m [ ]
      no_keep q (u ∷ us) (here e) = cc
      no_keep q (u ∷ us) (there m) = elim m [ ]

  pub a_keep : (r : ℕ) (unless : List Unless) → KeepRows r unless ∈ script → keeps r ≡ unless
  a_keep r unless m = elim (from_append (create_steps target) m) [
    | inl l ↦ let w = from_map (λ (t : TableNames). Create t.name t.columns) target l in let e = w.2 in absurd (cc)
    | inr n ↦ elim (from_append (match_steps source list R) n) [
      | inl l ↦ let w = from_matches source list R _ l in let e = w.2 in absurd (cc)
      | inr o ↦ elim (from_append (keep_steps keeps R) o) [
        | inl l ↦ let w = from_keeps keeps R _ l in let k = from_keep_step r w.0 (keeps w.0) unless w.1 in rw k.0 at k.1
        | inr p ↦ let w = from_inserts target keeps R _ p in let e = w.4 in absurd (cc)
      ]
    ]
  ]

  -- a keep step is that of its rule
  pub kept_from : (r : ℕ) (unless : List Unless) → KeepRows r unless ∈ script → KeepRows r unless ∈ keep_step r (keeps r)
  kept_from r unless m = elim (from_append (create_steps target) m) [
    | inl l ↦ let w = from_map (λ (t : TableNames). Create t.name t.columns) target l in let e = w.2 in absurd (cc)
    | inr n ↦ elim (from_append (match_steps source list R) n) [
      | inl l ↦ let w = from_matches source list R _ l in let e = w.2 in absurd (cc)
      | inr o ↦ elim (from_append (keep_steps keeps R) o) [
        | inl l ↦ let w = from_keeps keeps R _ l in let k = from_keep_step r w.0 (keeps w.0) unless w.1 in subst (λ z. KeepRows r unless ∈ keep_step z (keeps z)) k.0 w.1
        | inr p ↦ let w = from_inserts target keeps R _ p in let e = w.4 in absurd (cc)
      ]
    ]
  ]

  pub an_insert : (table : List ℕ) (r : ℕ) (kept : Bool) (cells : List Out) → InsertRows table r kept cells ∈ script
      → (j : ℕ) × (j < length R) × (a : Atom) × (a ∈ (rule_at R j).conclusion) × (insert_step target (has_parts (keeps j)) j (rule_at R j) a ≡ InsertRows table r kept cells)
  an_insert table r kept cells m = elim (from_append (create_steps target) m) [
    | inl l ↦ let w = from_map (λ (t : TableNames). Create t.name t.columns) target l in let e = w.2 in absurd (cc)
    | inr n ↦ elim (from_append (match_steps source list R) n) [
      | inl l ↦ let w = from_matches source list R _ l in let e = w.2 in absurd (cc)
      | inr o ↦ elim (from_append (keep_steps keeps R) o) [
        | inl l ↦ let w = from_keeps keeps R _ l in absurd (no_keep w.0 (keeps w.0) w.1)
        | inr p ↦ let w = from_inserts target keeps R _ p in (w.0, w.1, w.2, w.3, w.4)
      ]
    ]
  ]
    where
      no_keep : (q : ℕ) (us : List Unless) → InsertRows table r kept cells ∈ keep_step q us → ⊥
      no_keep q [] m = elim m [ ]
      no_keep q (u ∷ us) (here e) = cc
      no_keep q (u ∷ us) (there m) = elim m [ ]

  pub match_in : (j : ℕ) → j < length R → match_step source list j (rule_at R j) ∈ script
  match_in j h = in_right (create_steps target) (in_left _ (in_matches source list R j h))

  pub keep_in : (j : ℕ) → j < length R → has_parts (keeps j) ≡ true → KeepRows j (keeps j) ∈ script
  keep_in j h e = in_right (create_steps target) (in_right (match_steps source list R) (in_left _ (in_keeps keeps R j h _ (in_keep_step j (keeps j) e))))

  pub insert_in : (j : ℕ) → j < length R → (a : Atom) → a ∈ (rule_at R j).conclusion → insert_step target (has_parts (keeps j)) j (rule_at R j) a ∈ script
  insert_in j h a m =
      in_right (create_steps target) (in_right (match_steps source list R) (in_right (keep_steps keeps R) (in_inserts target keeps R j h a m)))
