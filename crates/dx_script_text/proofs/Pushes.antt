-- What is pushed piece by piece is pushed at once.
use Rattle.std.proofs.Common.{append_assoc, ◌≡◌, ◌<◌, ◌≤◌, ◌+◌, ℕ, List, [], ◌∷◌, ◌++◌, take, length, get_or, refl, sym, ap, ◌∙◌, flat_map}
use Rattle.std.specs.Prelude.{map}
use Rattle.std.proofs.lemmas.List.{append-nil, take_more, take_all}
use Rattle.dx_script_text.specs.Print.{parted}

pub create_pushed : (a name b columns c before o p q r s : List ℕ) → o ≡ before ++ a → p ≡ o ++ name → q ≡ p ++ b → r ≡ q ++ columns → s ≡ r ++ c → s ≡ before ++ (a ++ (name ++ (b ++ (columns ++ c))))
create_pushed a name b columns c before o p q r s h i j k l = l ∙ rw (k, j, i, h) (simp append_assoc)

pub match_pushed : (a rule b select c sources equal d before o p q r s t : List ℕ) → o ≡ before ++ (a ++ (rule ++ b)) → p ≡ o ++ select → q ≡ p ++ c → r ≡ q ++ sources → s ≡ r ++ equal → t ≡ s ++ d
    → t ≡ before ++ (a ++ (rule ++ (b ++ (select ++ (c ++ (sources ++ (equal ++ d)))))))
match_pushed a rule b select c sources equal d before o p q r s t h i j k l m = m ∙ rw (l, k, j, i, h) (simp append_assoc)

pub unless_pushed : (a rule b tests c before o p q : List ℕ) → o ≡ before ++ (a ++ (rule ++ b)) → p ≡ o ++ tests → q ≡ p ++ c → q ≡ before ++ (a ++ (rule ++ (b ++ (tests ++ c))))
unless_pushed a rule b tests c before o p q h i j = j ∙ rw (i, h) (simp append_assoc)

pub keep_pushed : (a rule b own c all d before o p q : List ℕ) → o ≡ before ++ (a ++ (rule ++ (b ++ (own ++ c)))) → p ≡ o ++ all → q ≡ p ++ d → q ≡ before ++ (a ++ (rule ++ (b ++ (own ++ (c ++ (all ++ d))))))
keep_pushed a rule b own c all d before o p q h i j = j ∙ rw (i, h) (simp append_assoc)

pub insert_pushed : (a name b cells c letter rule d before o p q r s t u : List ℕ) → o ≡ before ++ a → p ≡ o ++ name → q ≡ p ++ b → r ≡ q ++ cells → s ≡ r ++ c → t ≡ s ++ letter → u ≡ t ++ (rule ++ d)
    → u ≡ before ++ (a ++ (name ++ (b ++ (cells ++ (c ++ (letter ++ (rule ++ d)))))))
insert_pushed a name b cells c letter rule d before o p q r s t u h i j k l m n = n ∙ rw (m, l, k, j, i, h) (simp append_assoc)

-- ---- lists with a text between

abbrev behind : List ℕ → List (List ℕ) → List ℕ
behind between texts = flat_map (λ other. between ++ other) texts

module _ {A : Type 0} (f : A → List ℕ) (between : List ℕ) where
  parted-push : (xs : List A) (x : A) → behind between (map f (xs ++ x ∷ [])) ≡ behind between (map f xs) ++ (between ++ f x)
  parted-push [] x = append-nil (between ++ f x)
  parted-push (y ∷ xs) x = ap (λ (zs : List ℕ). (between ++ f y) ++ zs) (parted-push xs x) ∙ sym (append_assoc (between ++ f y) (behind between (map f xs)) (between ++ f x))

  -- one more
  pub one_parted : (k : ℕ) (xs : List A) (x : A) (begun before now after : List ℕ) → k < length xs → x ≡ get_or xs k x → before ≡ begun ++ behind between (map f (take k xs)) → now ≡ before ++ between → after ≡ now ++ f x
      → after ≡ begun ++ behind between (map f (take (k + 1) xs))
  one_parted k xs x begun before now after lt is b w a =
      let whole : behind between (map f (take (k + 1) xs)) ≡ behind between (map f (take k xs)) ++ (between ++ f x) =
      ap (λ (v : List A). behind between (map f v)) (take_more xs k x lt) ∙ parted-push (take k xs) (get_or xs k x) ∙ ap (λ (v : A). behind between (map f (take k xs)) ++ (between ++ f v)) (sym is) in
      a ∙ ap (λ (zs : List ℕ). zs ++ f x) (w ∙ ap (λ (zs : List ℕ). zs ++ between) b)
      ∙ append_assoc (begun ++ behind between (map f (take k xs))) between (f x)
      ∙ append_assoc begun (behind between (map f (take k xs))) (between ++ f x)
      ∙ ap (λ (zs : List ℕ). begun ++ zs) (sym whole)

  -- all of them
  pub all_parted : (xs : List A) (first : A) (others : List A) (k : ℕ) (before begun after : List ℕ) → xs ≡ first ∷ others → begun ≡ before ++ f first → length others ≤ k → after ≡ begun ++ behind between (map f (take k others))
      → after ≡ before ++ parted between (map f xs)
  all_parted xs first others k before begun after is b le a =
      let all : after ≡ (before ++ f first) ++ behind between (map f others) = a ∙ rw (b, take_all k others le) refl in
      rw is (all ∙ append_assoc before (f first) (behind between (map f others)))
