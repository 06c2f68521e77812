-- Which refusals are alike.
use Rattle.std.proofs.Common.{◌≡◌, List, refl, inl, inr}
use Rattle.dx_base.specs.Texts.{Text}
use Rattle.dx_keys.specs.declared.answers.Clash.{Clash}
use Rattle.clio_ending.specs.declared.ending.Refusal.{Refusal}
use Rattle.clio_ending.specs.declared.ending.Refusal.TheVariants as refusals
use Rattle.clio_ending.specs.Ending.{AreAlike, IsClashRefusal}

-- each refusal is like itself
pub alike : (e : Refusal) → AreAlike e e
alike e = inl refl

pub same_alike : (d e : Refusal) → d ≡ e → AreAlike d e
same_alike d e is = inl is

clash_of : (f : Refusal) → IsClashRefusal f → (d : Clash) × (t : Text) × (l : List Text) × (n : Text) × (f ≡ refusals.Clash d t l n)
clash_of (refusals.Clash d t l n) h = (d, t, l, n, refl)
clash_of refusals.Usage h = absurd h
clash_of (refusals.Mapping fault) h = absurd h
clash_of (refusals.Rows file fault) h = absurd h
clash_of (refusals.Limit limit) h = absurd h
clash_of (refusals.Query fault) h = absurd h
clash_of (refusals.Other fault) h = absurd h

-- a refusal that is like a clash is one
pub alike_clash : (f : Refusal) (k : Clash) (table : Text) (key : List Text) (column : Text) → AreAlike f (refusals.Clash k table key column)
    → (d : Clash) × (t : Text) × (l : List Text) × (n : Text) × (f ≡ refusals.Clash d t l n)
alike_clash f k table key column (inl is) = (k, table, key, column, is)
alike_clash f k table key column (inr h) = clash_of f h.0
