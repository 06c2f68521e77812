-- Conversions that are looked up by a name or by a code.
use Rattle.std.proofs.Common.{◌≡◌, ℕ, List, [], ◌∷◌, Some, None, Bool, true, false, cond, map, refl, sym, ap, ◌∙◌, nat_eq}
use Rattle.std.specs.Cmp.Lexicographic.{pointwise, same_text, other_text}
use Rattle.std.proofs.lemmas.Bool.{ne_eqb, eq-eqb}
use Rattle.dx_base.specs.Members.{◌∈◌, here, there, Distinct}
use Rattle.dx_base.proofs.Members.{in_map, from_map}
use Rattle.dx_funcs.specs.declared.conversion.Conversion.{Conversion}
use Rattle.dx_funcs.specs.Names.{first_named, conversion_name, call_found}
use Rattle.dx_base.specs.Texts.{Text}
use Rattle.dx_funcs.specs.Laws.{EachIsTold, CallsByNameAreByCode}
use Rattle.dx_funcs.proofs.Offered.{one_name, one_code}

-- among distinct names a listed conversion is the first of its name
pub conversion_found : (list : List Conversion) (c : Conversion) (x : Text) → Distinct (map (λ c. c.name) list) → c ∈ list → c.name ≡ x → first_named list x ≡ Some c
conversion_found [] c x d m is = elim m [ ]
conversion_found (k ∷ ks) c x d (here e) is = go (pointwise nat_eq k.name x) refl
  where
    go : (b : Bool) → pointwise nat_eq k.name x ≡ b → cond b (Some k) (first_named ks x) ≡ Some c
    go true s = ap Some e
    go false s = absurd (other_text k.name x (sym s) (ap (λ (y : Conversion). y.name) e ∙ is))
conversion_found (k ∷ ks) c x d (there m) is = go (pointwise nat_eq k.name x) refl (conversion_found ks c x d.1 m is)
  where
    go : (b : Bool) → pointwise nat_eq k.name x ≡ b → first_named ks x ≡ Some c → cond b (Some k) (first_named ks x) ≡ Some c
    go true s h = absurd (d.0 (rw (same_text k.name x (sym s), ← is) (in_map (λ (y : Conversion). y.name) m)))
    go false s h = h

-- a name that isn't listed gives no conversion
pub conversion_nowhere : (list : List Conversion) (x : Text) → ¬ (x ∈ map (λ c. c.name) list) → first_named list x ≡ None
conversion_nowhere [] x no_member = refl
conversion_nowhere (k ∷ ks) x no_member = go (pointwise nat_eq k.name x) refl (conversion_nowhere ks x (λ m. no_member (there m)))
  where
    go : (b : Bool) → pointwise nat_eq k.name x ≡ b → first_named ks x ≡ None → cond b (Some k) (first_named ks x) ≡ None
    go true s h = absurd (no_member (here (same_text k.name x (sym s))))
    go false s h = h

-- a conversion that is found is listed
pub found_listed : (list : List Conversion) (x : Text) (c : Conversion) → first_named list x ≡ Some c → c ∈ list
found_listed [] x c h = absurd cc
found_listed (k ∷ ks) x c h = go (pointwise nat_eq k.name x) h (found_listed ks x c)
  where
    go : (b : Bool) → cond b (Some k) (first_named ks x) ≡ Some c → (first_named ks x ≡ Some c → c ∈ ks) → c ∈ (k ∷ ks)
    go true e f = here (cc)
    go false e f = there (f e)

-- among distinct codes a listed conversion has the name of its code
pub conversion_named : (list : List Conversion) (c : Conversion) (code : ℕ) → Distinct (map (λ (d : Conversion). d.code) list) → c ∈ list → c.code ≡ code → c.name ≡ conversion_name list code
conversion_named [] c code once m e = elim m [ ]
conversion_named (d ∷ ds) c code once (here is) e = rw (eq-eqb d.code code (ap (λ (v : Conversion). v.code) is ∙ e)) (ap (λ (v : Conversion). v.name) (sym is))
conversion_named (d ∷ ds) c code once (there m) e =
    rw (ne_eqb d.code code (λ same. once.0 (rw (same ∙ sym e) (in_map (λ (v : Conversion). v.code) m)))) (conversion_named ds c code once.1 m e)

-- ---- the laws

pub each_is_told : EachIsTold
each_is_told list c offer m = record {
  found = conversion_found list c c.name offer.names m refl;
  name = sym (conversion_named list c c.code offer.codes m refl);
  one_name = λ d n e. one_name list d c offer n m e;
  one_code = λ d n e. one_code list d c offer n m e;
}

pub calls_by_name_are_by_code : CallsByNameAreByCode
calls_by_name_are_by_code apply list code args offer m =
    let listed = from_map (λ (c : Conversion). c.code) list m in
    let name : listed.0.name ≡ conversion_name list code = conversion_named list listed.0 code offer.codes listed.1 listed.2 in
    ap (λ found. call_found apply found args) (conversion_found list listed.0 (conversion_name list code) offer.names listed.1 name)
    ∙ ap (λ n. apply n args) listed.2
