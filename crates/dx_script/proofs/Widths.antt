-- The widths of match tables, step by step.
use Rattle.std.proofs.Common.{◌≡◌, ℕ, ◌+◌, ◌<◌, ◌≤◌, List, [], ◌∷◌, ◌++◌, length, get_or, drop, refl, sym, ◌∙◌, ap, arith}
use Rattle.std.proofs.lemmas.List.{drop_more, drop_all}
use Rattle.std.proofs.Common.{length-drop}
use Rattle.dx_script.specs.declared.form.Step.{Step}
use Rattle.dx_script.specs.declared.form.Step.TheVariants.{Create, MatchRows, KeepRows, InsertRows}
use Rattle.dx_script.specs.Fits.{match_widths, width_in}
use Rattle.dx_script.proofs.Made.{head_is, made_next}

-- the first of the rest has this number
pub record Passed (count at rule : ℕ) (steps : List Step) : Type 0 where
  pub same : drop count (match_widths steps) ≡ match_widths (drop at steps)
  pub below : count ≤ rule

no_width : (s : Step) → ((r : ℕ) (a b d : _) → ¬ (s ≡ MatchRows r a b d)) → width_in s ≡ []
no_width (Create table columns) h = refl
no_width (MatchRows r select sources equal) h = absurd (h r select sources equal refl)
no_width (KeepRows r unless) h = refl
no_width (InsertRows table r kept cells) h = refl

-- a step that makes no match table
pub none_passed : (count at rule : ℕ) (steps : List Step) (s : Step) → at < length steps → s ≡ get_or steps at s → ((r : ℕ) (a b d : _) → ¬ (s ≡ MatchRows r a b d))
    → Passed count at rule steps → Passed count (at + 1) rule steps
none_passed count at rule steps s lt is h p = record {
  same = p.same ∙ made_next width_in steps at s lt is ∙ ap (λ z. z ++ match_widths (drop (at + 1) steps)) (no_width s h);
  below = p.below;
}

tail_is : {X : Type 0} (xs ys : List X) (n : ℕ) (x : X) → drop n xs ≡ x ∷ ys → drop (n + 1) xs ≡ ys
tail_is xs ys n x e =
    let w = head_is xs n x x ys (sym e) in
    let d = drop_more xs n x w.0 in
    cc

-- a step that makes one, of another number
pub one_passed : (count at rule w : ℕ) (steps : List Step) (s : Step) → at < length steps → s ≡ get_or steps at s → width_in s ≡ w ∷ [] → ¬ (count ≡ rule)
    → Passed count at rule steps → Passed (count + 1) (at + 1) rule steps
one_passed count at rule w steps s lt is e n p = record {
  same = tail_is (match_widths steps) (match_widths (drop (at + 1) steps)) count w (p.same ∙ made_next width_in steps at s lt is ∙ ap (λ z. z ++ match_widths (drop (at + 1) steps)) e);
  below = let k = p.below in omega arith;
}

-- the step that makes the one of the rule
pub one_found : (count at rule w : ℕ) (steps : List Step) (s : Step) → at < length steps → s ≡ get_or steps at s → width_in s ≡ w ∷ [] → count ≡ rule
    → Passed count at rule steps → (rule < length (match_widths steps)) × (get_or (match_widths steps) rule 0 ≡ w)
one_found count at rule w steps s lt is e q p =
    let d : (w ∷ match_widths (drop (at + 1) steps)) ≡ drop rule (match_widths steps) =
    sym (ap (λ z. drop z (match_widths steps)) (sym q) ∙ (p.same ∙ made_next width_in steps at s lt is ∙ ap (λ z. z ++ match_widths (drop (at + 1) steps)) e)) in
    head_is (match_widths steps) rule w 0 (match_widths (drop (at + 1) steps)) d

-- there is none
pub none_found : (count at rule : ℕ) (steps : List Step) → length steps ≤ at → Passed count at rule steps → length (match_widths steps) ≤ rule
none_found count at rule steps past p =
    let e : drop count (match_widths steps) ≡ [] = p.same ∙ ap match_widths (drop_all at steps past) in
    let l = length-drop count (match_widths steps) in
    let k = p.below in
    omega (arith, l, ap length e)
