-- A conversion that is looked up, and what is wrong with its call.
use Rattle.std.proofs.Common.{◌≡◌, ℕ, List, Option, Some, None, Bool, true, false, length, map, refl, sym, subst, eq-eqb}
use Rattle.std.specs.Prelude.{◌⊎◌, eqb}
use Rattle.std.proofs.lemmas.Bool.{eqb-true}
use Rattle.dx_schema.specs.Forest.{Forest}
use Rattle.dx_tokens.specs.declared.faults.TextFault.{TextFault}
use Rattle.dx_tokens.specs.declared.faults.TextFault.TheVariants.{At, Memory}
use Rattle.dx_tokens.specs.declared.faults.TextKind.TheVariants.{UnknownName, Width}
use Rattle.dx_schema_text.specs.declared.texts.PlaceText.{PlaceText}
use Rattle.dx_funcs.specs.declared.conversion.Conversion.{Conversion}
use Rattle.dx_lines.specs.declared.line.Place.{Place}
use Rattle.dx_lines.specs.declared.line.Origin.TheVariants as origins
use Rattle.dx_line_text.specs.Naming.{place_of_text, places_fault, source_call_fault, call_of}

-- a name that isn't listed
pub call_unknown : (f : Forest) (found : Option Conversion) (place : ℕ) (args : List PlaceText) → found ≡ None → source_call_fault f found place args ≡ Some (At place UnknownName)
call_unknown f found place args h = rw h refl

-- another number of arguments
pub call_width : (f : Forest) (found : Option Conversion) (c : Conversion) (place : ℕ) (args : List PlaceText) → found ≡ Some c → ¬ (c.arity ≡ length args) → source_call_fault f found place args ≡ Some (At place Width)
call_width f found c place args h other = rw (h, differs (eqb c.arity (length args)) refl) refl
  where
    differs : (b : Bool) → eqb c.arity (length args) ≡ b → eqb c.arity (length args) ≡ false
    differs true e = absurd (other (eqb-true c.arity (length args) e))
    differs false e = e

-- as many arguments as it takes: what is wrong with them is what is wrong
pub call_by_args : (f : Forest) (found : Option Conversion) (c : Conversion) (place : ℕ) (args : List PlaceText) → found ≡ Some c → c.arity ≡ length args → source_call_fault f found place args ≡ places_fault f args
call_by_args f found c place args h same = rw (h, eq-eqb c.arity (length args) same) refl

-- and what refuses them refuses the call
pub call_refused : (f : Forest) (found : Option Conversion) (c : Conversion) (place : ℕ) (args : List PlaceText) (e : TextFault) → found ≡ Some c → c.arity ≡ length args → (e ≡ Memory) ⊎ (places_fault f args ≡ Some e)
    → (e ≡ Memory) ⊎ (source_call_fault f found place args ≡ Some e)
call_refused f found c place args e h same why = subst (λ x. (e ≡ Memory) ⊎ (x ≡ Some e)) (sym (call_by_args f found c place args h same)) why

-- the conversion that is read
pub call_read : (f : Forest) (found : Option Conversion) (c : Conversion) (args : List PlaceText) (code : ℕ) (places : List Place) → found ≡ Some c → code ≡ c.code → places ≡ map (place_of_text f) args → origins.Call code places ≡ call_of f found args
call_read f found c args code places h is_code are = rw (h, is_code, are) refl
