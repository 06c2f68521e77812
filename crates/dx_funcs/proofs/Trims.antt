-- What is left where spaces are cut off a text.
use Rattle.std.proofs.Common.{◌≡◌, ℕ, ◌-◌, List, [], ◌∷◌, ◌++◌, Option, Some, None, Bool, true, false, refl, sym, ap, ◌∙◌, arith, length, take, drop, reverse, lit<, if◌then◌else◌}
use Rattle.std.specs.Prelude.{◌==◌, IfSome}
use Rattle.std.specs.Char.{encode_utf8}
use Rattle.std.specs.Str.Pattern.{CutsPrefixes, CutsSuffixes, FindsCharPrefix, FindsCharSuffix, IsFullyTrimmed, IsTrimStartMatches, IsTrimEndMatches}
use Rattle.std.proofs.lemmas.List.{reverse-append, reverse-reverse, take-append-drop, drop_all}
use Rattle.std.proofs.lemmas.Bool.{eqb-true}
use Rattle.std.proofs.lemmas.Str.{encode_ascii}
use Rattle.dx_funcs.specs.Shipped.{space, without_spaces_in_front, without_spaces_at_the_end}
use Rattle.dx_base.specs.Texts.{Text}

-- a space takes one byte
one_byte : encode_utf8 space ≡ space ∷ []
one_byte = encode_ascii space (lit< tt)

-- a text that doesn't begin with a space stays
stays : (t : Bool) (b : ℕ) (bs : Text) → (t ≡ true → ⊥) → (if t then without_spaces_in_front bs else b ∷ bs) ≡ b ∷ bs
stays true b bs differs = absurd (differs refl)
stays false b bs differs = refl

-- ---- at the front

front_cut : (s : Text) (ns : List ℕ) (r : Text) → CutsPrefixes (FindsCharPrefix space) s ns r → without_spaces_in_front s ≡ without_spaces_in_front r
front_cut s [] r e = ap without_spaces_in_front (sym e)
front_cut s (n ∷ ns) r (m, cuts, at, is) =
    let e : m ≡ space ∷ r = at.split ∙ ap (λ t. t ++ drop n m) one_byte ∙ ap (λ t. space ∷ t) (sym is) in
    front_cut s ns m cuts ∙ ap without_spaces_in_front e

no_space_first : (b : ℕ) (bs : Text) (o : Option ℕ) → FindsCharPrefix space (b ∷ bs) o → IfSome o (λ n. n ≡ 0) → (b == space) ≡ true → ⊥
no_space_first b bs None gone zero e = gone bs (ap (λ x. x ∷ bs) (eqb-true b space e) ∙ ap (λ t. t ++ bs) (sym one_byte))
no_space_first b bs (Some n) at zero e = omega (arith, at.ends, zero)

front_done : (r : Text) → IsFullyTrimmed (FindsCharPrefix space) r → without_spaces_in_front r ≡ r
front_done [] h = refl
front_done (b ∷ bs) (o, found, zero) = stays (b == space) b bs (no_space_first b bs o found zero)

-- spaces are cut off the front until none is there
pub front_trimmed : (s r : Text) → IsTrimStartMatches (FindsCharPrefix space) s r → r ≡ without_spaces_in_front s
front_trimmed s r h = sym (front_cut s h.0.0 r h.0.1 ∙ front_done r h.1)

-- ---- at the end

end_cut : (s : Text) (ns : List ℕ) (r : Text) → CutsSuffixes (FindsCharSuffix space) s ns r → without_spaces_at_the_end s ≡ without_spaces_at_the_end r
end_cut s [] r e = ap without_spaces_at_the_end (sym e)
end_cut s (n ∷ ns) r (m, cuts, at, is) =
    let last : drop (length m - n) m ≡ space ∷ [] = at.1.split ∙ ap (λ t. t ++ drop (length m) m) one_byte ∙ ap (λ t. space ∷ t) (drop_all (length m) m (omega arith)) in
    let e : m ≡ r ++ space ∷ [] = sym (take-append-drop (length m - n) m) ∙ ap (λ t. take (length m - n) m ++ t) last ∙ ap (λ t. t ++ space ∷ []) (sym is) in
    let turned : reverse m ≡ space ∷ reverse r = ap reverse e ∙ reverse-append r (space ∷ []) in
    end_cut s ns m cuts ∙ ap (λ t. reverse (without_spaces_in_front t)) turned

no_space_last : (r : Text) (b : ℕ) (bs : Text) (o : Option ℕ) → r ≡ reverse bs ++ b ∷ [] → FindsCharSuffix space r o → IfSome o (λ n. n ≡ 0) → (b == space) ≡ true → ⊥
no_space_last r b bs None is gone zero e = gone (reverse bs) (is ∙ ap (λ x. reverse bs ++ x ∷ []) (eqb-true b space e) ∙ ap (λ t. reverse bs ++ t) (sym one_byte))
no_space_last r b bs (Some n) is at zero e = omega (arith, at.0, zero)

end_stays : (r l : Text) → reverse r ≡ l → IsFullyTrimmed (FindsCharSuffix space) r → without_spaces_in_front l ≡ l
end_stays r [] is h = refl
end_stays r (b ∷ bs) is (o, found, zero) =
    stays (b == space) b bs (no_space_last r b bs o (sym (reverse-reverse r) ∙ ap reverse is ∙ reverse-append (b ∷ []) bs) found zero)

end_done : (r : Text) → IsFullyTrimmed (FindsCharSuffix space) r → without_spaces_at_the_end r ≡ r
end_done r h = ap reverse (end_stays r (reverse r) refl h) ∙ reverse-reverse r

-- spaces are cut off the end until none is there
pub end_trimmed : (s r : Text) → IsTrimEndMatches (FindsCharSuffix space) s r → r ≡ without_spaces_at_the_end s
end_trimmed s r h = sym (end_cut s h.0.0 r h.0.1 ∙ end_done r h.1)
