-- Cells that say what a search found.
use Rattle.std.proofs.Common.{◌≡◌, ℕ, ◌<◌, ◌≤◌, ◌+◌, List, [], ◌∷◌, ◌++◌, inl, inr, length, get_or, take, drop}
use Rattle.std.proofs.Common.{refl, sym, ◌∙◌, ap, arith, append_assoc}
use Rattle.std.specs.Prelude.{map, ◌↔◌, Bool, true, false, IsTrue, MatchBool}
use Rattle.std.proofs.lemmas.Bool.{false≢true}
use Rattle.std.proofs.lemmas.List.{take_more, map-append, take_all, take-map, length-append, length-map, append-nil, take-append-drop, same_from_push}
use Rattle.dx_model.specs.declared.values.NullId.{NullId}
use Rattle.dx_model.specs.declared.values.Value.{Value}
use Rattle.dx_instance.specs.NullMaps.{ByNull}
use Rattle.dx_base.specs.Members.{◌∈◌, here, there, ◌⊆◌, IsPrefix}
use Rattle.dx_model.specs.Instances.{moved, nulls_in}
use Rattle.dx_base.proofs.Members.{in_left, in_map, in_right, from_append, distinct_more}
use Rattle.dx_hom.specs.declared.matching.Found.{Found}
use Rattle.dx_instance.specs.Stored.{TableRows}
use Rattle.dx_hom.specs.Narrowing.{found_nulls, null_value, GivesCell, IsNullCell, AtMost, Allows, IsGood, Narrows, RulesOut}
use Rattle.dx_base.specs.Members.{Distinct}
use Rattle.dx_model.proofs.Reduction.{nulls_append}

pub narrower : {X : Type 0} (xs ys : List X) (n : ℕ) → ys ⊆ xs → AtMost xs n → AtMost ys n
narrower xs ys n s a ds d i = a ds d (λ x m. s x (i x m))

-- there is room for a null that was not found
pub room_for : (found : List Found) (n : NullId) (capacity : ℕ) → Distinct (found_nulls found) → ¬ (n ∈ found_nulls found)
    → AtMost (found_nulls found ++ n ∷ []) capacity → length found < capacity
room_for found n capacity d k a =
    let l = a (found_nulls found ++ n ∷ []) (distinct_more (found_nulls found) n d k) (λ x m. m) in
    let e : length (found_nulls found ++ n ∷ []) ≡ length found + 1 = simp (length-append, length-map) in
    omega (arith, l, e)

module _ (T : List TableRows) (fixed : ByNull) (found : List Found) (cell : Found) where
  -- the null was found before
  pub met_before : (b : Found) → IsGood T fixed found → b ∈ found → b.null ≡ cell.null → null_value T b ≡ null_value T cell
      → Narrows T fixed found (cell.null ∷ []) (GivesCell T cell) found
  met_before b good m e v = record {
    begins = ([], sym (append-nil found));
    good = good;
    whole = λ n i. only_one n i;
    only = λ n i. in_left _ i;
    exact = λ g. ((λ w. (w, ap g (sym e) ∙ (w.cell_values b m ∙ v))), (λ w. w.0));
  }
    where
      only_one : (n : NullId) → n ∈ (cell.null ∷ []) → n ∈ found_nulls found
      only_one n (here d) = rw (← d, ← e) (in_map (λ (b : Found). b.null) m)
      only_one n (there i) = elim i [ ]

  pub failed_before : (b : Found) → b ∈ found → b.null ≡ cell.null → ¬ (null_value T b ≡ null_value T cell)
      → RulesOut T fixed found (GivesCell T cell) found
  failed_before b m e v = record {
    begins = ([], sym (append-nil found));
    none = λ g w d. v (sym (w.cell_values b m) ∙ (ap g e ∙ d));
  }

  pub not_allowed : ¬ (Allows fixed cell.null (null_value T cell)) → RulesOut T fixed found (GivesCell T cell) found
  not_allowed k = record {
    begins = ([], sym (append-nil found));
    none = λ g w d. k (λ x e. sym (w.fixed_values cell.null x e) ∙ d);
  }

  last_one : {P : Found → Type 0} → ((b : Found) → b ∈ found → P b) → P cell → (b : Found) → b ∈ (found ++ cell ∷ []) → P b
  last_one {P} h c b m = elim (from_append found m) [ inl l ↦ h b l | inr r ↦ at r ]
    where
      at : b ∈ (cell ∷ []) → P b
      at (here e) = rw (← e) c
      at (there i) = elim i [ ]

  pub met_now : IsGood T fixed found → IsNullCell T cell → ¬ (cell.null ∈ found_nulls found) → Allows fixed cell.null (null_value T cell)
      → Narrows T fixed found (cell.null ∷ []) (GivesCell T cell) (found ++ cell ∷ [])
  met_now good c new a = record {
    begins = (cell ∷ [], refl);
    good = record {
      once = rw map-append (distinct_more (found_nulls found) cell.null good.once new);
      cells = last_one {P = IsNullCell T} good.cells c;
      allowed = last_one {P = λ b. Allows fixed b.null (null_value T b)} good.allowed a;
    };
    whole = λ n i. rw map-append (in_right (found_nulls found) i);
    only = λ n i. rw map-append at i;
    exact = λ g. (
      (λ w. (
        record { fixed_values = w.fixed_values; cell_values = λ b m. w.cell_values b (in_left _ m) },
        w.cell_values cell (in_right found (here refl)),
      )),
      (λ w. record { fixed_values = w.0.fixed_values; cell_values = last_one {P = λ b. g b.null ≡ null_value T b} w.0.cell_values w.1 }),
    );
  }

-- the same answer to the same question
pub same_narrows : (T : List TableRows) (fixed : ByNull) (old new : List Found) (ns : List NullId) (P Q : (NullId → Value) → Type 0)
    → ((g : NullId → Value) → P g ↔ Q g) → Narrows T fixed old ns P new → Narrows T fixed old ns Q new
same_narrows T fixed old new ns P Q s n = record {
  begins = n.begins;
  good = n.good;
  whole = n.whole;
  only = n.only;
  exact = λ g. ((λ w. let r = (n.exact g).0 w in (r.0, (s g).0 r.1)), (λ w. (n.exact g).1 (w.0, (s g).1 w.1)));
}

-- a constant is what it is
module _ (T : List TableRows) (fixed : ByNull) (found : List Found) (v w : Value) (stays : (g : NullId → Value) → moved g v ≡ v)
    (none : nulls_in (v ∷ []) ≡ []) where
  pub const_met : IsGood T fixed found → v ≡ w → Narrows T fixed found (nulls_in (v ∷ [])) (λ g. moved g v ≡ w) found
  const_met good e = record {
    begins = ([], sym (append-nil found));
    good = good;
    whole = λ n i. elim (rw none at i) [ ];
    only = λ n i. in_left _ i;
    exact = λ g. ((λ a. (a, stays g ∙ e)), (λ a. a.0));
  }

  pub const_failed : ¬ (v ≡ w) → RulesOut T fixed found (λ g. moved g v ≡ w) found
  const_failed k = record {
    begins = ([], sym (append-nil found));
    none = λ g a d. k (sym (stays g) ∙ d);
  }

pub begins_on : (a b c : List Found) → IsPrefix a b → IsPrefix b c → IsPrefix a c
begins_on a b c x y = (x.0 ++ y.0, y.1 ∙ (ap (λ l. l ++ y.0) x.1 ∙ append_assoc a x.0 y.0))

-- nothing is found of no values
pub nothing_yet : (T : List TableRows) (fixed : ByNull) (found : List Found) → IsGood T fixed found → (r : List Value)
    → Narrows T fixed found (nulls_in []) (λ g. map (moved g) [] ≡ []) found
nothing_yet T fixed found good r = record {
  begins = ([], sym (append-nil found));
  good = good;
  whole = λ n i. elim i [ ];
  only = λ n i. in_left _ i;
  exact = λ g. ((λ a. (a, refl)), (λ a. a.0));
}

-- a loop along two rows
module _ (T : List TableRows) (fixed : ByNull) (a b : List Value) (start now : List Found) (i : ℕ) (x y : Value)
    (l : length a ≡ length b) (h : i < length a) (p : x ≡ get_or a i x) (q : y ≡ get_or b i y)
    (s : Narrows T fixed start (nulls_in (take i a)) (λ g. map (moved g) (take i a) ≡ take i b) now) where
  within : i < length b
  within = omega arith

  parts : (g : NullId → Value) → map (moved g) (take (i + 1) a) ≡ take (i + 1) b
      → (map (moved g) (take i a) ≡ take i b) × (moved g x ≡ y)
  parts g e =
      let f : map (moved g) (take i a) ++ moved g (get_or a i x) ∷ [] ≡ take i b ++ get_or b i y ∷ [] =
      sym (map-append (moved g) (take i a) (get_or a i x ∷ []))
      ∙ (ap (map (moved g)) (sym (take_more a i x h)) ∙ (e ∙ take_more b i y within)) in
      let w = same_from_push (map (moved g) (take i a)) (take i b) _ _ f in
      (w.0, ap (moved g) p ∙ (w.1 ∙ sym q))

  joined : (g : NullId → Value) → map (moved g) (take i a) ≡ take i b → moved g x ≡ y → map (moved g) (take (i + 1) a) ≡ take (i + 1) b
  joined g e d =
      let z : moved g (get_or a i x) ≡ get_or b i y = ap (moved g) (sym p) ∙ (d ∙ q) in
      rw (take_more a i x h, take_more b i y within, map-append (moved g), e) (ap (λ v. take i b ++ v ∷ []) z)

  nulls_to : nulls_in (take (i + 1) a) ≡ nulls_in (take i a) ++ nulls_in (x ∷ [])
  nulls_to =
      ap nulls_in (take_more a i x h)
      ∙ (nulls_append (take i a) (get_or a i x ∷ []) ∙ ap (λ v. nulls_in (take i a) ++ nulls_in (v ∷ [])) (sym p))

  pub row_more : (more : List Found) → Narrows T fixed now (nulls_in (x ∷ [])) (λ g. moved g x ≡ y) more
      → Narrows T fixed start (nulls_in (take (i + 1) a)) (λ g. map (moved g) (take (i + 1) a) ≡ take (i + 1) b) more
  row_more more t = record {
    begins = begins_on start now more s.begins t.begins;
    good = t.good;
    whole = λ n m. elim (from_append (nulls_in (take i a)) (rw nulls_to at m)) [
      | inl k ↦ let e = ap found_nulls t.begins.1 ∙ map-append (λ (b : Found). b.null) now t.begins.0 in rw e (in_left _ (s.whole n k))
      | inr k ↦ t.whole n k
    ];
    only = λ n m. rw nulls_to (elim (from_append (found_nulls now) (t.only n m)) [
      | inl k ↦ elim (from_append (found_nulls start) (s.only n k)) [ inl j ↦ in_left _ j | inr j ↦ in_right (found_nulls start) (in_left _ j) ]
      | inr k ↦ in_right (found_nulls start) (in_right (nulls_in (take i a)) k)
    ]);
    exact = λ g. (
      (λ m. let u = (t.exact g).0 m in let w = (s.exact g).0 u.0 in (w.0, joined g w.1 u.1)),
      (λ w. (t.exact g).1 ((s.exact g).1 (w.0, (parts g w.1).0), (parts g w.1).1)),
    );
  }

  pub row_failed : (more : List Found) → RulesOut T fixed now (λ g. moved g x ≡ y) more → RulesOut T fixed start (λ g. map (moved g) a ≡ b) more
  row_failed more t = record {
    begins = begins_on start now more s.begins t.begins;
    none = λ g m e.
        let whole : map (moved g) (take (i + 1) a) ≡ take (i + 1) b = sym (take-map (moved g) (i + 1) a) ∙ ap (take (i + 1)) e in
        t.none g ((s.exact g).1 (m, (parts g whole).0)) (parts g whole).1;
  }

  -- the room that the row needs serves for one of its values
  pub room_at : (n : ℕ) → AtMost (found_nulls start ++ nulls_in a) n → AtMost (found_nulls now ++ nulls_in (x ∷ [])) n
  room_at n r = narrower _ _ n (λ k m. elim (from_append (found_nulls now) m) [
    | inl j ↦ elim (from_append (found_nulls start) (s.only k j)) [ inl u ↦ in_left _ u | inr u ↦ in_right (found_nulls start) (part k (in_left _ u)) ]
    | inr j ↦ in_right (found_nulls start) (part k (in_right (nulls_in (take i a)) j))
  ]) r
    where
      part : (k : NullId) → k ∈ (nulls_in (take i a) ++ nulls_in (x ∷ [])) → k ∈ nulls_in a
      part k m =
          let e : nulls_in a ≡ nulls_in (take (i + 1) a) ++ nulls_in (drop (i + 1) a) =
          ap nulls_in (sym (take-append-drop (i + 1) a)) ∙ nulls_append (take (i + 1) a) (drop (i + 1) a) in
          rw e (in_left (nulls_in (drop (i + 1) a)) (rw nulls_to m))

pub row_whole : (T : List TableRows) (fixed : ByNull) (a b : List Value) (start now : List Found) (i : ℕ) → length a ≡ length b
    → length a ≤ i → Narrows T fixed start (nulls_in (take i a)) (λ g. map (moved g) (take i a) ≡ take i b) now
    → Narrows T fixed start (nulls_in a) (λ g. map (moved g) a ≡ b) now
row_whole T fixed a b start now i l h s = rw (take_all i a h, take_all i b (let k : length b ≤ i = omega arith in k)) at s

-- the answers of the two cases
pub answer_before : (T : List TableRows) (fixed : ByNull) (found : List Found) (cell b : Found) → IsGood T fixed found → b ∈ found
    → b.null ≡ cell.null → (r : Bool) → (IsTrue r ↔ (null_value T b ≡ null_value T cell))
    → MatchBool r (Narrows T fixed found (cell.null ∷ []) (GivesCell T cell) found) (RulesOut T fixed found (GivesCell T cell) found)
answer_before T fixed found cell b good m e true h = met_before T fixed found cell b good m e (h.0 refl)
answer_before T fixed found cell b good m e false h = failed_before T fixed found cell b m e (λ q. absurd (false≢true (h.1 q)))

pub answer_const : (T : List TableRows) (fixed : ByNull) (found : List Found) (v w : Value)
    → ((g : NullId → Value) → moved g v ≡ v) → nulls_in (v ∷ []) ≡ [] → IsGood T fixed found → (r : Bool) → (IsTrue r ↔ (v ≡ w))
    → MatchBool r (Narrows T fixed found (nulls_in (v ∷ [])) (λ g. moved g v ≡ w) found) (RulesOut T fixed found (λ g. moved g v ≡ w) found)
answer_const T fixed found v w stays none good true h = const_met T fixed found v w stays none good (h.0 refl)
answer_const T fixed found v w stays none good false h = const_failed T fixed found v w stays none (λ q. absurd (false≢true (h.1 q)))
