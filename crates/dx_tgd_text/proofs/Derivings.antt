-- The first of the known names are the variables of the premise.
use Rattle.std.proofs.Common.{◌≡◌, ℕ, ◌+◌, ◌<◌, ◌≤◌, List, ◌++◌, Some, None, Bool, true, false, cond, length, take, drop, refl, sym, ap, ◌∙◌, arith}
use Rattle.std.specs.Prelude.{◌||◌}
use Rattle.std.proofs.lemmas.List.{length-take, take-append-drop}
use Rattle.dx_schema.specs.Tables.{number_of_name}
use Rattle.dx_base.specs.Texts.{Text}
use Rattle.dx_schema.specs.Faults.{is_among}
use Rattle.dx_schema.proofs.Loops.{among_number}
use Rattle.dx_tokens.specs.declared.faults.TextFault.TheVariants.{At}
use Rattle.dx_tokens.specs.declared.faults.TextKind.TheVariants.{Unsafe}
use Rattle.dx_tgd_text.proofs.Appearing.{among_append, number_front, number_past}

parts : {X : Type 0} (v : ℕ) (xs : List X) → take v xs ++ drop v xs ≡ xs
parts v xs = take-append-drop v xs

pub front_missing : (x : Text) (known : List Text) (v : ℕ) → is_among x known ≡ false → is_among x (take v known) ≡ false
front_missing x known v none = go (is_among x (take v known)) (sym (among_append x (take v known) (drop v known)) ∙ ap (is_among x) (parts v known) ∙ none)
  where
    go : (b : Bool) → (b || is_among x (drop v known)) ≡ false → b ≡ false
    go true e = e
    go false e = refl

-- a known name with a number in front is one of the names in front
pub front_found : (x : Text) (known : List Text) (v n : ℕ) → v ≤ length known → n ≡ number_of_name x known → n < v → (n ≡ number_of_name x (take v known)) × (is_among x (take v known) ≡ true)
front_found x known v n le is lt = go (is_among x (take v known)) refl
  where
    go : (b : Bool) → is_among x (take v known) ≡ b → (n ≡ number_of_name x (take v known)) × (is_among x (take v known) ≡ true)
    go true e = (is ∙ ap (number_of_name x) (sym (parts v known)) ∙ number_front x (take v known) (drop v known) e, e)
    go false e =
        let k : n ≡ length (take v known) + number_of_name x (drop v known) = is ∙ ap (number_of_name x) (sym (parts v known)) ∙ number_past x (take v known) (drop v known) e in
        let l : length (take v known) ≡ v = omega (arith, length-take v known, le) in
        absurd (omega (arith, k, l, lt))

-- and one with another number is not
pub front_past : (x : Text) (known : List Text) (v n : ℕ) → v ≤ length known → n ≡ number_of_name x known → v ≤ n → is_among x (take v known) ≡ false
front_past x known v n le is past = go (is_among x (take v known)) refl
  where
    go : (b : Bool) → is_among x (take v known) ≡ b → b ≡ false
    go false e = refl
    go true e =
        let k : n ≡ number_of_name x (take v known) = is ∙ ap (number_of_name x) (sym (parts v known)) ∙ number_front x (take v known) (drop v known) e in
        let lt = among_number x (take v known) e in
        let l : length (take v known) ≡ v = omega (arith, length-take v known, le) in
        absurd (omega (arith, k, l, lt, past))

pub arg_missing : (x : Text) (place : ℕ) (variables : List Text) → is_among x variables ≡ false → cond (is_among x variables) None (Some (At place Unsafe)) ≡ Some (At place Unsafe)
arg_missing x place variables e = rw e refl

pub arg_found : (x : Text) (place : ℕ) (variables : List Text) → is_among x variables ≡ true → cond (is_among x variables) None (Some (At place Unsafe)) ≡ None
arg_found x place variables e = rw e refl
