-- Tokens that can't be mistaken for each other.
use Rattle.std.proofs.Common.{◌≡◌, ℕ, Bool, false, ◌&&◌, refl}
use Rattle.std.specs.Prelude.{nat_eq}
use Rattle.std.proofs.lemmas.Bool.{and_parts}
use Rattle.dx_grammar.specs.Numbers.{has_number}
use Rattle.dx_grammar.proofs.Verdicts.{KeptApart}
use Rattle.dx_grammar.proofs.Knowing.{same_if}
use Rattle.dx_script_tokens.specs.declared.kinds.ScriptKind.{ScriptKind}
use Rattle.dx_script_tokens.specs.Kinds.{kind_number}
use Rattle.dx_script_text.specs.Grammar.{of_kind, number}

-- a token of one kind is of no other
pub apart_kinds : (j k : ScriptKind) → nat_eq (kind_number j) (kind_number k) ≡ false → KeptApart (of_kind j) (of_kind k)
apart_kinds j k ne x e = let is : kind_number x.kind ≡ kind_number j = same_if (kind_number x.kind) (kind_number j) e in rw is ne

-- this number of one kind, and any of another
pub apart_number_kind : (j : ScriptKind) (n : ℕ) (k : ScriptKind) → nat_eq (kind_number j) (kind_number k) ≡ false → KeptApart (has_number (of_kind j) number n) (of_kind k)
apart_number_kind j n k ne x e = apart_kinds j k ne x (and_parts (of_kind j x) (nat_eq x.number n) e).0

and_left : (a b : Bool) → a ≡ false → (a && b) ≡ false
and_left a b e = rw e refl

pub apart_kind_number : (j k : ScriptKind) (n : ℕ) → nat_eq (kind_number j) (kind_number k) ≡ false → KeptApart (of_kind j) (has_number (of_kind k) number n)
apart_kind_number j k n ne x e = and_left (of_kind k x) (nat_eq x.number n) (apart_kinds j k ne x e)

pub apart_numbers : (j : ScriptKind) (n : ℕ) (k : ScriptKind) (m : ℕ) → nat_eq (kind_number j) (kind_number k) ≡ false → KeptApart (has_number (of_kind j) number n) (has_number (of_kind k) number m)
apart_numbers j n k m ne x e = and_left (of_kind k x) (nat_eq x.number m) (apart_number_kind j n k ne x e)
