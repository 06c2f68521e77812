-- What covers the places of a rule, map by map.
use Rattle.std.proofs.Common.{◌≡◌, ℕ, zero, suc, ◌+◌, ◌<◌, ◌≤◌, true, false, List, [], ◌∷◌, ◌++◌, Option, None, length, get_or, nat_eq, take, refl, sym, ◌∙◌, ap, subst, add-one, arith, below_more, append_assoc}
use Rattle.std.specs.Prelude.{flat_map, map}
use Rattle.std.specs.Option.{option_map, option_or}
use Rattle.std.specs.List.{AllZip, filter, find}
use Rattle.std.specs.Cmp.Lexicographic.{pointwise}
use Rattle.std.specs.BTreeMap.{is_at}
use Rattle.std.proofs.lemmas.List.Folds.{find-append}
use Rattle.std.proofs.lemmas.List.Elements.{filter-append}
use Rattle.std.proofs.lemmas.List.{append-nil, get_or_append_left, get_or_push, get_or_default, get_or-map, length-map, length_push, map_push, take_more}
use Rattle.std.proofs.lemmas.Grind.{flat_map-append}
use Rattle.dx_base.specs.Members.{Each}
use Rattle.dx_base.proofs.Members.{in_at}
use Rattle.dx_model.specs.declared.values.Value.{Value}
use Rattle.dx_model.specs.declared.values.Value.TheVariants.{Const}
use Rattle.dx_model.specs.declared.rules.Cell.{Cell}
use Rattle.dx_model.specs.declared.rules.Cell.TheVariants.{Var}
use Rattle.dx_model.specs.declared.rules.Rule.{Rule}
use Rattle.dx_model.specs.declared.covers.CellMap.{CellMap}
use Rattle.dx_model.specs.declared.covers.Cover.{Cover}
use Rattle.dx_model.specs.Values.{Rows, Tuple, row_cmp}
use Rattle.dx_model.specs.Rules.{exported, text_of}
use Rattle.dx_model.specs.Covers.{agrees, below, before, image_of, places_by, rule_at, used_maps, cell_value_at, value_under}
use Rattle.dx_instance.specs.Cells.{NumberTable, numbers_at}
use Rattle.dx_instance.specs.Numbers.{ValuesDiffer}
use Rattle.dx_instance.specs.Shown.{NumberedInstance, numbers_of_table}
use Rattle.dx_joins.specs.Shown.{AllTexts, texts_of}
use Rattle.dx_cover_fold.specs.declared.found.Found.{Found}
use Rattle.dx_cover_fold.specs.declared.index.Index.{Index}
use Rattle.dx_cover_fold.specs.declared.number_at.NumberAt.{NumberAt}
use Rattle.dx_cover_fold.specs.Codes.{IsCode, IsHeld, IsPlanned, numbers_by}
use Rattle.dx_cover_fold.specs.Found.{LeastOfFirsts, FindsAmong, IndexesCells, cover_of, first_row_of, images_by, no_map, or_first, own_rows, row_said, variable_cells}
use Rattle.dx_cover_fold.specs.Matched.{matched_tuples}
use Rattle.dx_cover_fold.proofs.CodeFacts.{codes_said, rows_alike, texts_held}
use Rattle.dx_cover_fold.proofs.Finding.{all_agree, find_alike, find_below, find_mapped, map_map, map_or}

-- ---- one place more

pub firsts_more : (rule map n : ℕ) (index : Index) (rows : List (List ℕ)) (own : List NumberAt) (row : List ℕ) (known found new : List (Option Found)) (o : Option Found) → row ≡ numbers_at rows n → o ≡ or_first rule map index own (get_or known n None) row → new ≡ found ++ o ∷ []
    → LeastOfFirsts rule map index rows own known found n → LeastOfFirsts rule map index rows own known new (n + 1)
firsts_more rule map n index rows own row known found new o r e q h = rw q (record {
  many = length_push found o ∙ ap (λ (m : ℕ). m + 1) h.many;
  each = below_more _ _ (λ k l. get_or_append_left found (o ∷ []) None k (omega (arith, l, h.many)) ∙ h.each k l)
      (get_or_push found o None n h.many ∙ e ∙ ap (λ (z : List ℕ). or_first rule map index own (get_or known n None) z) r);
})

-- ---- one cell map more

-- rows of one width that stand for texts
pub record AreTextRows (S : List Value) (t : NumberTable) : Type 0 where
  pub texts : Each t.rows (AllTexts S)
  pub wide : Each t.rows (λ (r : List ℕ). length r ≡ t.width)

module _ (R : List Rule) (rows : Rows) (i j : ℕ) (m : CellMap) where
  place : ℕ → Cover
  place l = record { rule = j; cells = m; row = l }

  -- what the cells of i's exported variables say at a place of j
  said_there : ℕ → List Value
  said_there l = row_said (exported (rule_at R j)) (get_or (get_or rows j []) l []) j l (map (image_of (exported (rule_at R i)) m.exported) (exported (rule_at R i)))

  mapped : (f : Cell → Value) (g : ℕ → Cell) (xs : List ℕ) → map f (map g xs) ≡ map (λ x. f (g x)) xs
  mapped f g [] = refl
  mapped f g (x ∷ xs) = ap (λ z. f (g x) ∷ z) (mapped f g xs)

  agrees_is : (k l : ℕ) → agrees R rows i k (place l) ≡ is_at (row_cmp (own_rows R rows i k)) (said_there l)
  unfolding place said_there
  agrees_is k l =
      all_agree (λ x. cell_value_at R rows i k (Var x)) (λ x. value_under R rows i (place l) (Var x)) (exported (rule_at R i))
      ∙ ap (λ r. is_at (row_cmp (own_rows R rows i k)) r) (sym (mapped (cell_value_at R rows j l) (image_of (exported (rule_at R i)) m.exported) (exported (rule_at R i))))

  -- the first of the places of j that covers place k is the first that the index has for its row
  found_there : (k : ℕ) → find (agrees R rows i k) (places_by rows j m) ≡ option_map place (find (λ l. is_at (row_cmp (own_rows R rows i k)) (said_there l)) (below (length (get_or rows j []))))
  unfolding place
  found_there k =
      find_mapped place (agrees R rows i k) (below (length (get_or rows j [])))
      ∙ ap (option_map place) (find_alike (λ l. agrees R rows i k (place l)) (λ l. is_at (row_cmp (own_rows R rows i k)) (said_there l)) (below (length (get_or rows j []))) (agrees_is k))

  pub map_more : (S : List Value) (from to : NumberTable) (own : List NumberAt) (number : ℕ) (index : Index) (known found : List (Option Found)) (C : List Cover)
      → get_or rows i [] ≡ map (texts_of S) from.rows → get_or rows j [] ≡ map (texts_of S) to.rows → ValuesDiffer S → AreTextRows S from → AreTextRows S to
      → get_or (used_maps (rule_at R i) (rule_at R j)) number no_map ≡ m → length known ≡ length from.rows
      → AllZip (IsPlanned S (exported (rule_at R i)) from.width) (variable_cells (rule_at R i)) own → IndexesCells S to (exported (rule_at R j)) (images_by (rule_at R i) m) index
      → LeastOfFirsts j number index from.rows own known found (length from.rows) → FindsAmong R rows i C known → FindsAmong R rows i (C ++ places_by rows j m) found
  unfolding place said_there
  map_more S from to own number index known found C here there apart f t e long a x o h k lt =
      let l : k < length from.rows = omega (arith, lt, o.many) in
      let mine : List ℕ = numbers_by own (numbers_at from.rows k) in
      let one : first_row_of index mine ≡ find (λ l. is_at (row_cmp (own_rows R rows i k)) (said_there l)) (below (length (get_or rows j []))) =
      x.indexes mine
      ∙ find_below (λ l. pointwise nat_eq mine (numbers_by x.plan (numbers_at to.rows l))) (λ l. is_at (row_cmp (own_rows R rows i k)) (said_there l)) (length to.rows) (λ q b. same k q l b)
      ∙ ap (λ z. find (λ l. is_at (row_cmp (own_rows R rows i k)) (said_there l)) (below z)) (sym (length-map to.rows (texts_of S)) ∙ sym (ap length there)) in
      let cover_is : option_map (cover_of R i) (option_map (λ l. record { rule = j; map = number; row = l }) (first_row_of index mine)) ≡ find (agrees R rows i k) (places_by rows j m) =
      map_map (cover_of R i) (λ l. record { rule = j; map = number; row = l }) (first_row_of index mine)
      ∙ ap (λ z. option_map (λ l. record { rule = j; cells = z; row = l }) (first_row_of index mine)) e
      ∙ ap (option_map place) one ∙ sym (found_there k) in
      ap (option_map (cover_of R i)) (o.each k l)
      ∙ map_or (cover_of R i) (get_or known k None) (option_map (λ l. record { rule = j; map = number; row = l }) (first_row_of index mine))
      ∙ ap (λ z. option_or z (option_map (cover_of R i) (option_map (λ l. record { rule = j; map = number; row = l }) (first_row_of index mine)))) (h k (omega (arith, l, long)))
      ∙ ap (option_or (find (agrees R rows i k) C)) cover_is
      ∙ sym (find-append (agrees R rows i k) C (places_by rows j m))
    where
      tuple_is : (n : ℕ) (t : NumberTable) (p : ℕ) → get_or rows n [] ≡ map (texts_of S) t.rows → p < length t.rows → get_or (get_or rows n []) p [] ≡ texts_of S (numbers_at t.rows p)
      tuple_is n t p e b = ap (λ (z : List Tuple). get_or z p []) e ∙ get_or-map (texts_of S) t.rows p [] [] b

      held : (k : ℕ) → k < length from.rows → Each (own_rows R rows i k) (IsHeld S)
      held k b = texts_held S (exported (rule_at R i)) (numbers_at from.rows k) (exported (rule_at R i)) (λ v. cell_value_at R rows i k (Var v)) (f.texts (numbers_at from.rows k) (in_at from.rows k [] b))
          (λ v. ap (λ (z : Tuple). Const (text_of (exported (rule_at R i)) z v)) (tuple_is i from k here b))

      mine_said : (k : ℕ) → k < length from.rows → AllZip (IsCode S) (own_rows R rows i k) (numbers_by own (numbers_at from.rows k))
      mine_said k b =
          let r = codes_said S (exported (rule_at R i)) from.width i k (numbers_at from.rows k) (variable_cells (rule_at R i)) own (f.wide (numbers_at from.rows k) (in_at from.rows k [] b)) (f.texts (numbers_at from.rows k) (in_at from.rows k [] b)) a in
          subst (λ (z : List Value). AllZip (IsCode S) z (numbers_by own (numbers_at from.rows k)))
          (ap (λ (z : Tuple). row_said (exported (rule_at R i)) z i k (variable_cells (rule_at R i))) (sym (tuple_is i from k here b)) ∙ mapped (cell_value_at R rows i k) Var (exported (rule_at R i))) r

      theirs_said : (l : ℕ) → l < length to.rows → AllZip (IsCode S) (said_there l) (numbers_by x.plan (numbers_at to.rows l))
      theirs_said l b =
          let r = codes_said S (exported (rule_at R j)) to.width j l (numbers_at to.rows l) (images_by (rule_at R i) m) x.plan (t.wide (numbers_at to.rows l) (in_at to.rows l [] b)) (t.texts (numbers_at to.rows l) (in_at to.rows l [] b)) x.planned in
          subst (λ (z : List Value). AllZip (IsCode S) z (numbers_by x.plan (numbers_at to.rows l)))
          (ap (λ (z : Tuple). row_said (exported (rule_at R j)) z j l (images_by (rule_at R i) m)) (sym (tuple_is j to l there b))) r

      same : (k l : ℕ) → k < length from.rows → l < length to.rows
          → pointwise nat_eq (numbers_by own (numbers_at from.rows k)) (numbers_by x.plan (numbers_at to.rows l)) ≡ is_at (row_cmp (own_rows R rows i k)) (said_there l)
      same k l b c = rows_alike S (own_rows R rows i k) (said_there l) (numbers_by own (numbers_at from.rows k)) (numbers_by x.plan (numbers_at to.rows l)) apart (held k b) (mine_said k b) (theirs_said l c)

-- ---- one rule more

pub maps_more : (rows : Rows) (j n : ℕ) (maps : List CellMap) (m : CellMap) (C : List Cover) → n < length maps → m ≡ get_or maps n m
    → (C ++ flat_map (places_by rows j) (take n maps)) ++ places_by rows j m ≡ C ++ flat_map (places_by rows j) (take (n + 1) maps)
maps_more rows j n maps m C lt is =
    append_assoc C (flat_map (places_by rows j) (take n maps)) (places_by rows j m)
    ∙ ap (λ z. C ++ z) (sym (ap (flat_map (places_by rows j)) (take_more maps n m lt) ∙ flat_map-append (places_by rows j) (take n maps) (get_or maps n m ∷ [])
    ∙ ap (λ z. flat_map (places_by rows j) (take n maps) ++ z) (append-nil (places_by rows j (get_or maps n m)) ∙ ap (places_by rows j) (sym is))))

-- the choices of the first rules
abbrev pub choices_below : List Rule → Rows → ℕ → ℕ → List Cover
choices_below R rows i n = flat_map (λ j. flat_map (places_by rows j) (used_maps (rule_at R i) (rule_at R j))) (filter (λ j. before R j i) (below n))

-- a rule that is before i
pub rule_more : (R : List Rule) (rows : Rows) (i n : ℕ) → before R n i ≡ true
    → choices_below R rows i n ++ flat_map (places_by rows n) (used_maps (rule_at R i) (rule_at R n)) ≡ choices_below R rows i (n + 1)
rule_more R rows i n t =
    rw add-one (sym (ap (flat_map (λ j. flat_map (places_by rows j) (used_maps (rule_at R i) (rule_at R j)))) (filter-append (λ j. before R j i) (below n) (n ∷ []))
    ∙ flat_map-append (λ j. flat_map (places_by rows j) (used_maps (rule_at R i) (rule_at R j))) (filter (λ j. before R j i) (below n)) (filter (λ j. before R j i) (n ∷ []))
    ∙ ap (λ z. choices_below R rows i n ++ z) (rw t (append-nil (flat_map (places_by rows n) (used_maps (rule_at R i) (rule_at R n)))))))

-- a rule that isn't
pub rule_past : (R : List Rule) (rows : Rows) (i n : ℕ) → before R n i ≡ false → choices_below R rows i n ≡ choices_below R rows i (n + 1)
rule_past R rows i n f =
    rw add-one (sym (ap (flat_map (λ j. flat_map (places_by rows j) (used_maps (rule_at R i) (rule_at R j)))) (filter-append (λ j. before R j i) (below n) (n ∷ []) ∙ rw f (append-nil (filter (λ j. before R j i) (below n))))))

-- nothing is found among none
pub none_found : (R : List Rule) (rows : Rows) (i : ℕ) (found : List (Option Found)) → ((k : ℕ) → get_or found k None ≡ None) → FindsAmong R rows i [] found
none_found R rows i found h k l = ap (option_map (cover_of R i)) (h k)

-- ---- rules and places by their numbers

pub rule_is : (R : List Rule) (i : ℕ) (d : Rule) → i < length R → d ≡ get_or R i d → rule_at R i ≡ d
rule_is R i d lt is = get_or_default R i _ d lt ∙ sym is

pub tuples_are : (m : NumberedInstance) (i : ℕ) → i < length m.tables → get_or (matched_tuples m) i [] ≡ map (texts_of m.symbols) (numbers_of_table m.tables i).rows
tuples_are m i lt = get_or-map (λ (t : NumberTable). map (texts_of m.symbols) t.rows) m.tables i (record { width = 0; rows = [] }) [] lt

pub places_are : (m : NumberedInstance) (i : ℕ) → i < length m.tables → length (get_or (matched_tuples m) i []) ≡ length (numbers_of_table m.tables i).rows
places_are m i lt = ap length (tuples_are m i lt) ∙ length-map (numbers_of_table m.tables i).rows (texts_of m.symbols)

pub rules_are : (m : NumberedInstance) → length (matched_tuples m) ≡ length m.tables
rules_are m = length-map m.tables (λ (t : NumberTable). map (texts_of m.symbols) t.rows)

few_taken : {X : Type 0} (n : ℕ) (xs : List X) → length (take n xs) ≤ n
few_taken zero xs = omega arith
few_taken (suc n) [] = omega arith
few_taken (suc n) (x ∷ xs) = let h = few_taken n xs in omega arith

-- at most 16 cell maps are used
pub few_maps : (a b : Rule) → length (used_maps a b) ≤ 16
few_maps a b = few_taken 16 _

-- the images of one number more
pub mapped_more : {Y : Type 0} (f : ℕ → Y) (xs : List ℕ) (i : ℕ) (old new : List Y) → i < length xs → old ≡ map f (take i xs) → new ≡ old ++ f (get_or xs i 0) ∷ [] → new ≡ map f (take (i + 1) xs)
mapped_more {Y} f xs i old new h e p = p ∙ ap (λ (l : List Y). l ++ f (get_or xs i 0) ∷ []) e ∙ sym (map_push f (take i xs) (get_or xs i 0)) ∙ ap (map f) (sym (take_more xs i 0 h))
