-- Numbered lists that are printed, one item after the other.
use Rattle.std.proofs.Common.{append_assoc, ◌≡◌, ◌<◌, ◌+◌, ℕ, suc, List, [], ◌∷◌, ◌++◌, take, length, get_or, sym, ap, ◌∙◌, arith, flat_map}
use Rattle.std.specs.Prelude.{codes}
use Rattle.std.proofs.lemmas.List.{append-nil, take_more, length-take}
use Rattle.dx_script_text.specs.Print.{texts_from}

abbrev behind_commas : List (List ℕ) → List ℕ
behind_commas texts = flat_map (λ other. codes ", " ++ other) texts

module _ {A : Type 0} (f : ℕ → A → List ℕ) where
  numbered-push : (n : ℕ) (xs : List A) (x : A) → behind_commas (texts_from f n (xs ++ x ∷ [])) ≡ behind_commas (texts_from f n xs) ++ (codes ", " ++ f (n + length xs) x)
  numbered-push n [] x =
      let same : f n x ≡ f (n + 0) x = ap (λ (m : ℕ). f m x) (omega arith) in
      ap (λ (zs : List ℕ). codes ", " ++ zs) (append-nil (f n x) ∙ same)
  numbered-push n (y ∷ xs) x =
      let more : f (suc n + length xs) x ≡ f (n + suc (length xs)) x = ap (λ (m : ℕ). f m x) (omega arith) in
      ap (λ (zs : List ℕ). (codes ", " ++ f n y) ++ zs) (numbered-push (suc n) xs x ∙ ap (λ (zs : List ℕ). behind_commas (texts_from f (suc n) xs) ++ (codes ", " ++ zs)) more)
      ∙ sym (append_assoc (codes ", " ++ f n y) (behind_commas (texts_from f (suc n) xs)) _)

  -- one item more
  pub one_numbered : (number k : ℕ) (xs : List A) (x : A) (begun before now after : List ℕ) → k < length xs → x ≡ get_or xs k x → number ≡ k
      → before ≡ begun ++ behind_commas (texts_from f 1 (take k xs)) → now ≡ before ++ codes ", " → after ≡ now ++ f (number + 1) x
      → after ≡ begun ++ behind_commas (texts_from f 1 (take (k + 1) xs))
  one_numbered number k xs x begun before now after lt is n b w a =
      let done : length (take k xs) ≡ k = omega (arith, length-take k xs) in
      let at : number + 1 ≡ 1 + length (take k xs) = omega (arith, n, done) in
      let last : f (number + 1) x ≡ f (1 + length (take k xs)) (get_or xs k x) = ap (λ (m : ℕ). f m x) at ∙ ap (λ (v : A). f (1 + length (take k xs)) v) is in
      let whole : behind_commas (texts_from f 1 (take (k + 1) xs)) ≡ behind_commas (texts_from f 1 (take k xs)) ++ (codes ", " ++ f (number + 1) x) =
      ap (λ (v : List A). behind_commas (texts_from f 1 v)) (take_more xs k x lt) ∙ numbered-push 1 (take k xs) (get_or xs k x)
      ∙ ap (λ (zs : List ℕ). behind_commas (texts_from f 1 (take k xs)) ++ (codes ", " ++ zs)) (sym last) in
      a ∙ ap (λ (zs : List ℕ). zs ++ f (number + 1) x) (w ∙ ap (λ (zs : List ℕ). zs ++ codes ", ") b)
      ∙ append_assoc (begun ++ behind_commas (texts_from f 1 (take k xs))) (codes ", ") (f (number + 1) x)
      ∙ append_assoc begun (behind_commas (texts_from f 1 (take k xs))) (codes ", " ++ f (number + 1) x)
      ∙ ap (λ (zs : List ℕ). begun ++ zs) (sym whole)
