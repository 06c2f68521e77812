-- Names by first appearance: their numbers stay, and are numbers by first appearance.
use Rattle.std.proofs.Common.{◌≡◌, ℕ, suc, ◌+◌, ◌<◌, ◌≤◌, List, [], ◌∷◌, ◌++◌, Bool, true, false, cond, length, map, refl, sym, ap, ◌∙◌, subst, arith, nat_eq, inl, inr, append_assoc, drop, get_or}
use Rattle.std.specs.Prelude.{◌||◌}
use Rattle.std.specs.Cmp.Lexicographic.{pointwise, other_text}
use Rattle.std.proofs.lemmas.List.{append-nil, length-append}
use Rattle.dx_base.specs.Members.{◌∈◌, here, there}
use Rattle.dx_base.proofs.Lists.{cut_at}
use Rattle.dx_model.specs.Fitting.{ByFirstAppearance}
use Rattle.dx_schema.specs.Tables.{number_of_name}
use Rattle.dx_base.specs.Texts.{Text}
use Rattle.dx_schema.specs.Faults.{is_among}
use Rattle.dx_schema.proofs.Loops.{among_number}
use Rattle.dx_schema_text.specs.declared.texts.CellText.{CellText}
use Rattle.dx_schema_text.specs.declared.texts.CellText.TheVariants.{Name, Literal}
use Rattle.dx_schema_text.specs.declared.texts.AtomText.{AtomText}
use Rattle.dx_tgd_text.specs.Numbering.{with_name, appeared, unknown_names, new_name, new_names, text_cells}

-- ---- names in front and after

pub among_append : (x : Text) (xs ys : List Text) → is_among x (xs ++ ys) ≡ (is_among x xs || is_among x ys)
among_append x [] ys = refl
among_append x (z ∷ zs) ys = go (pointwise nat_eq z x) (among_append x zs ys)
  where
    go : (b : Bool) → is_among x (zs ++ ys) ≡ (is_among x zs || is_among x ys) → (b || is_among x (zs ++ ys)) ≡ ((b || is_among x zs) || is_among x ys)
    go true r = refl
    go false r = r

-- a name in front keeps its number
pub number_front : (x : Text) (xs ys : List Text) → is_among x xs ≡ true → number_of_name x (xs ++ ys) ≡ number_of_name x xs
number_front x [] ys h = absurd cc
number_front x (z ∷ zs) ys h = go (pointwise nat_eq z x) (number_front x zs ys) h
  where
    go : (b : Bool) → (is_among x zs ≡ true → number_of_name x (zs ++ ys) ≡ number_of_name x zs) → (b || is_among x zs) ≡ true → cond b 0 (suc (number_of_name x (zs ++ ys))) ≡ cond b 0 (suc (number_of_name x zs))
    go true r k = refl
    go false r k = ap suc (r k)

-- a name that is not in front is numbered after what is
pub number_past : (x : Text) (xs ys : List Text) → is_among x xs ≡ false → number_of_name x (xs ++ ys) ≡ length xs + number_of_name x ys
number_past x [] ys h = omega arith
number_past x (z ∷ zs) ys h = go (pointwise nat_eq z x) (number_past x zs ys) h
  where
    go : (b : Bool) → (is_among x zs ≡ false → number_of_name x (zs ++ ys) ≡ length zs + number_of_name x ys) → (b || is_among x zs) ≡ false → cond b 0 (suc (number_of_name x (zs ++ ys))) ≡ suc (length zs) + number_of_name x ys
    go true r k = absurd cc
    go false r k = let e = r k in omega (arith, e)

-- a name is among names that begin with it
among_self : (x : Text) (ys : List Text) → is_among x (x ∷ ys) ≡ true
among_self x ys = go (pointwise nat_eq x x) refl
  where
    go : (b : Bool) → pointwise nat_eq x x ≡ b → (b || is_among x ys) ≡ true
    go true e = refl
    go false e = absurd (other_text x x (sym e) refl)

number_self : (x : Text) (ys : List Text) → number_of_name x (x ∷ ys) ≡ 0
number_self x ys = go (pointwise nat_eq x x) refl
  where
    go : (b : Bool) → pointwise nat_eq x x ≡ b → cond b 0 (suc (number_of_name x ys)) ≡ 0
    go true e = refl
    go false e = absurd (other_text x x (sym e) refl)

-- ---- names that appear

-- the names so far stay in front
pub front : (names xs : List Text) → (more : List Text) × (appeared names xs ≡ names ++ more)
front names [] = ([], sym (append-nil names))
front names (x ∷ xs) = go (is_among x names) (front names xs) (front (names ++ x ∷ []) xs)
  where
    go : (b : Bool) → (more : List Text) × (appeared names xs ≡ names ++ more) → (more : List Text) × (appeared (names ++ x ∷ []) xs ≡ (names ++ x ∷ []) ++ more)
        → (more : List Text) × (appeared (cond b names (names ++ x ∷ [])) xs ≡ names ++ more)
    go true q r = q
    go false q r = (x ∷ r.0, r.1 ∙ append_assoc names (x ∷ []) r.0)

pub appeared_append : (names xs ys : List Text) → appeared names (xs ++ ys) ≡ appeared (appeared names xs) ys
appeared_append names [] ys = refl
appeared_append names (x ∷ xs) ys = appeared_append (with_name names x) xs ys

pub with_name_few : (names : List Text) (x : Text) → length (with_name names x) ≤ length names + 1
with_name_few names x = go (is_among x names)
  where
    go : (b : Bool) → length (cond b names (names ++ x ∷ [])) ≤ length names + 1
    go true = omega arith
    go false = omega (arith, length-append names (x ∷ []))

pub appeared_few : (names xs : List Text) → length (appeared names xs) ≤ length names + length xs
appeared_few names [] = omega arith
appeared_few names (x ∷ xs) = omega (arith, with_name_few names x, appeared_few (with_name names x) xs)

-- a name that was there is there
pub among_kept : (x : Text) (names xs : List Text) → is_among x names ≡ true → is_among x (appeared names xs) ≡ true
among_kept x names xs h = let f = front names xs in rw (f.1, among_append x names f.0, h) refl

-- a name that appears is there
pub among_appeared : (x : Text) (names xs : List Text) → x ∈ xs → is_among x (appeared names xs) ≡ true
among_appeared x names [] m = elim m [ ]
among_appeared x names (y ∷ ys) (there m) = among_appeared x (with_name names y) ys m
among_appeared x names (y ∷ ys) (here e) = subst (λ z. is_among z (appeared (with_name names y) ys) ≡ true) e (among_kept y (with_name names y) ys (go (is_among y names) refl))
  where
    go : (b : Bool) → is_among y names ≡ b → is_among y (cond b names (names ++ y ∷ [])) ≡ true
    go true k = k
    go false k = rw (among_append y names (y ∷ []), k) (among_self y [])

-- names have their numbers by first appearance
pub numbers_appear : (names xs : List Text) → ByFirstAppearance (length names) (map (λ x. number_of_name x (appeared names xs)) xs) (length (appeared names xs))
numbers_appear names [] = refl
numbers_appear names (x ∷ xs) = go (is_among x names) refl (numbers_appear names xs) (numbers_appear (names ++ x ∷ []) xs)
  where
    go : (b : Bool) → is_among x names ≡ b → ByFirstAppearance (length names) (map (λ y. number_of_name y (appeared names xs)) xs) (length (appeared names xs))
        → ByFirstAppearance (length (names ++ x ∷ [])) (map (λ y. number_of_name y (appeared (names ++ x ∷ []) xs)) xs) (length (appeared (names ++ x ∷ []) xs))
        → ByFirstAppearance (length names) (number_of_name x (appeared (cond b names (names ++ x ∷ [])) xs) ∷ map (λ y. number_of_name y (appeared (cond b names (names ++ x ∷ [])) xs)) xs) (length (appeared (cond b names (names ++ x ∷ [])) xs))
    go true e q r =
        let f = front names xs in
        let n : number_of_name x (appeared names xs) ≡ number_of_name x names = ap (number_of_name x) f.1 ∙ number_front x names f.0 e in
        let lt = among_number x names e in
        inl (omega (arith, n, lt), q)
    go false e q r =
        let f = front (names ++ x ∷ []) xs in
        let last : length names + number_of_name x (x ∷ f.0) ≡ length names = omega (arith, number_self x f.0) in
        let n : number_of_name x (appeared (names ++ x ∷ []) xs) ≡ length names = ap (number_of_name x) (f.1 ∙ append_assoc names (x ∷ []) f.0) ∙ number_past x names (x ∷ f.0) e ∙ last in
        let one : length (names ++ x ∷ []) ≡ suc (length names) = omega (arith, length-append names (x ∷ [])) in
        inr (n, subst (λ k. ByFirstAppearance k (map (λ y. number_of_name y (appeared (names ++ x ∷ []) xs)) xs) (length (appeared (names ++ x ∷ []) xs))) one r)

-- ---- the names of cells

pub new_names_few : (known : List Text) (cells : List CellText) → length (new_names known cells) ≤ length cells
new_names_few known [] = omega arith
new_names_few known (Literal t ∷ cells) = let r = new_names_few known cells in omega (arith, r)
new_names_few known (Name x place ∷ cells) = go (is_among x known) (new_names_few known cells)
  where
    go : (b : Bool) → length (new_names known cells) ≤ length cells → length (cond b [] (x ∷ []) ++ new_names known cells) ≤ suc (length cells)
    go true r = omega (arith, r)
    go false r = omega (arith, r)

pub new_names_append : (known : List Text) (cs ds : List CellText) → new_names known (cs ++ ds) ≡ new_names known cs ++ new_names known ds
new_names_append known [] ds = refl
new_names_append known (c ∷ cs) ds = ap (λ ns. new_name known c ++ ns) (new_names_append known cs ds) ∙ sym (append_assoc (new_name known c) (new_names known cs) (new_names known ds))

pub names_few : (known : List Text) (atoms : List AtomText) → length (unknown_names known atoms) ≤ length (text_cells atoms)
names_few known atoms = let a = appeared_few [] (new_names known (text_cells atoms)) in let b = new_names_few known (text_cells atoms) in omega (arith, a, b)

-- one atom more
pub atom_step : (known names after whole : List Text) (atoms : List AtomText) (i n : ℕ) (atom : AtomText) → i < length atoms → atom ≡ get_or atoms i atom → after ≡ appeared names (new_names known atom.cells)
    → appeared names (new_names known (text_cells (drop i atoms))) ≡ whole → length names + length (text_cells (drop i atoms)) ≤ n
    → (appeared after (new_names known (text_cells (drop (i + 1) atoms))) ≡ whole) × (length after + length (text_cells (drop (i + 1) atoms)) ≤ n)
atom_step known names after whole atoms i n atom lt is entered so_far few =
    let rest = text_cells (drop (i + 1) atoms) in
    let all : text_cells (drop i atoms) ≡ atom.cells ++ rest = ap text_cells (cut_at atoms i atom lt is) in
    let both : appeared names (new_names known (text_cells (drop i atoms))) ≡ appeared after (new_names known rest) =
    ap (λ cs. appeared names (new_names known cs)) all ∙ ap (appeared names) (new_names_append known atom.cells rest) ∙ appeared_append names (new_names known atom.cells) (new_names known rest)
    ∙ ap (λ ns. appeared ns (new_names known rest)) (sym entered) in
    let long : length (text_cells (drop i atoms)) ≡ length atom.cells + length rest = ap length all ∙ length-append atom.cells rest in
    let more : length after ≤ length names + length (new_names known atom.cells) = rw entered (appeared_few names (new_names known atom.cells)) in
    let new = new_names_few known atom.cells in
    (sym both ∙ so_far, omega (arith, few, long, more, new))
