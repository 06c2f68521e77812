-- The homomorphism that cells give.
use Rattle.std.proofs.Common.{◌≡◌, ◌∙◌, Bool, true, false, List, [], ◌∷◌, inl, inr, refl, sym, ap, subst}
use Rattle.std.specs.Prelude.{◌↔◌, IsTrue, MatchBool, Option, Some}
use Rattle.std.specs.FinMap as finite
use Rattle.std.specs.Bool.{OnTrue}
use Rattle.std.proofs.lemmas.Bool.{cases_Bool, false≢true}
use Rattle.std.proofs.lemmas.List.{get_or_default}
use Rattle.dx_base.specs.Members.{◌∈◌, Distinct, here, there}
use Rattle.dx_base.proofs.Members.{contains_from_in, from_map, in_at, in_map}
use Rattle.dx_model.specs.declared.values.NullId.{NullId}
use Rattle.dx_model.specs.declared.values.Value.{Value}
use Rattle.dx_model.specs.declared.values.Value.TheVariants.{Null}
use Rattle.dx_model.specs.declared.facts.Fact.{Fact}
use Rattle.dx_model.specs.declared.facts.NullPair.{NullPair}
use Rattle.dx_model.specs.Instances.{IsNullMap, fact_moved, given, image, same_null, values, nulls_in}
use Rattle.dx_model.proofs.Maps.{is_null_map, listing, listing_gives, same_null-refl, same_null-true}
use Rattle.dx_model.proofs.Reduction.{in_nulls, from_nulls}
use Rattle.dx_instance.specs.NullMaps.{ByNull}
use Rattle.dx_instance.specs.Stored.{TableRows, facts, rows_of}
use Rattle.dx_instance.specs.Places.{row_at, fact_at}
use Rattle.dx_instance.proofs.StoredFacts.{fact_from_row, row_from_fact}
use Rattle.dx_hom.specs.declared.matching.Found.{Found}
use Rattle.dx_hom.specs.Narrowing.{ExtendsPartialMap, IsGood, found_nulls, null_value}
use Rattle.dx_hom.specs.Searching.{FindsAll, MovesOpen, NoMore, Reaches, IsOpenFact}
use Rattle.dx_hom.specs.Homs.{IsNullAssignment, IsSought, IsThere, found_pairs}

-- the value of the null's cell
abbrev pub read : List TableRows → List Found → NullId → Value
read T found n = given (found_pairs T found) n

pub reads : (T : List TableRows) (found : List Found) → Distinct (found_nulls found) → (b : Found) → b ∈ found
    → read T found b.null ≡ null_value T b
reads T [] d b m = elim m [ ]
reads T (c ∷ found) d b (here e) = rw (ap (λ (x : Found). same_null x.null b.null) e ∙ same_null-refl b.null) (ap (null_value T) e)
reads T (c ∷ found) d b (there m) = elim (cases_Bool (same_null c.null b.null)) [
  | inl t ↦ let e = same_null-true c.null b.null t in absurd (d.0 (rw e (in_map (λ (x : Found). x.null) m)))
  | inr f ↦ rw f (reads T found d.1 b m)
]

-- what agrees with the cells gives them
pub read_gives : (T : List TableRows) (fixed : ByNull) (found : List Found) (g : NullId → Value) → IsGood T fixed found
    → ((n : NullId) (x : Value) → finite.get fixed n ≡ Some x → n ∈ found_nulls found)
    → ((n : NullId) → n ∈ found_nulls found → g n ≡ read T found n) → ExtendsPartialMap T fixed found g
read_gives T fixed found g good listed same = record {
  fixed_values = λ n x e.
      let r = from_map (λ (b : Found). b.null) found (listed n x e) in
      let a = good.allowed r.0 r.1 x (subst (λ (k : NullId). finite.get fixed k ≡ Some x) (sym r.2) e) in
      same n (listed n x e) ∙ (ap (read T found) (sym r.2) ∙ (reads T found good.once r.0 r.1 ∙ sym a));
  cell_values = λ b m. same b.null (in_map (λ (x : Found). x.null) m) ∙ reads T found good.once b m;
}

-- ---- facts and places

stands_in : (T : List TableRows) (gone : List (List Bool)) (avoid : Option Fact) (f : Fact) → IsOpenFact T gone avoid f → f ∈ facts T
stands_in T gone avoid f s =
    rw s.2 (fact_from_row T f.table (row_at T f.table s.0) (in_at (rows_of T f.table) s.0 [] s.1.place))

-- a fact of the instance that is not the one to avoid stands at a place
in_stands : (T : List TableRows) (avoid : Option Fact) (f : Fact) → f ∈ facts T → ((a : Fact) → avoid ≡ Some a → ¬ (a ≡ f))
    → IsOpenFact T [] avoid f
in_stands T avoid f m other =
    let k = contains_from_in (row_from_fact T f m) in
    let e : row_at T f.table k.0 ≡ f.row = get_or_default (rows_of T f.table) k.0 [] f.row k.1 ∙ k.2 in
    let is : f ≡ fact_at T f.table k.0 = λ j. record { table = f.table; row = sym e j } in
    (k.0, record { place = k.1; kept = refl; other = λ q. other (fact_at T f.table k.0) q (sym is) }, is)

-- ---- the answer

-- each fixed null stands in the facts
abbrev pub AllListed : ByNull → List Fact → Type 0
AllListed fixed F = (n : NullId) (x : Value) → finite.get fixed n ≡ Some x → n ∈ nulls_in (values F)

module _ (T : List TableRows) (fixed : ByNull) (avoid : Option Fact) (F : List Fact) (found : List Found) (listed : AllListed fixed F) where
  sought : FindsAll T [] fixed avoid F found → (h : List NullPair) → IsNullMap h
      → ((n : NullId) → Null n ∈ values F → given h n ≡ read T found n) → IsSought fixed avoid F (facts T) h
  sought ends h is same = record {
    homomorphism = record { null_map = is; inside = λ y m. let r = from_map (fact_moved (given h)) F m in inside r.0 y r.1 r.2 };
    keeps = gives.fixed_values;
    avoids = λ a q m.
        let r = from_map (fact_moved (given h)) F m in
        let s = moves r.0 r.1 in
        s.1.other (q ∙ ap (λ (f : Fact). Some f) (sym r.2 ∙ s.2));
  }
    where
      gives : ExtendsPartialMap T fixed found (given h)
      gives = read_gives T fixed found (given h) ends.good (λ n x e. ends.whole n (listed n x e))
          (λ n m. same n (from_nulls n (values F) (ends.only n m)))

      moves : MovesOpen T [] avoid (given h) F
      moves = ends.moves (given h) gives

      inside : (f y : Fact) → f ∈ F → fact_moved (given h) f ≡ y → y ∈ facts T
      inside f y m e = subst (λ (x : Fact). x ∈ facts T) e (stands_in T [] avoid (fact_moved (given h) f) (moves f m))

  pub is_answer : FindsAll T [] fixed avoid F found → IsNullAssignment T fixed avoid F found
  is_answer ends = record {
    once = ends.good.once;
    nulls = λ n. ((λ m. from_nulls n (values F) (ends.only n m)), (λ m. ends.whole n (in_nulls n (values F) m)));
    cells = ends.good.cells;
    gives = sought ends;
  }

  there_is : FindsAll T [] fixed avoid F found → IsThere fixed avoid F (facts T)
  there_is ends =
      let h = listing (read T found) (values F) in
      (h, sought ends h (is_null_map (read T found) (values F)) (λ n m. listing_gives (read T found) n (values F) m))

  none_is : NoMore T [] fixed avoid [] F → ¬ (IsThere fixed avoid F (facts T))
  none_is none q = none (given q.0) (record { fixed_values = q.1.keeps; cell_values = λ b m. elim m [ ] }) moves
    where
      moves : MovesOpen T [] avoid (given q.0) F
      moves f m =
          let y = fact_moved (given q.0) f in
          let i : y ∈ image q.0 F = in_map (fact_moved (given q.0)) m in
          in_stands T avoid y (q.1.homomorphism.inside y i) (λ a e d. q.1.avoids a e (subst (λ (x : Fact). x ∈ image q.0 F) (sym d) i))

  pub answer : (r : Bool) → MatchBool r (FindsAll T [] fixed avoid F found) (NoMore T [] fixed avoid [] F)
      → IsTrue r ↔ IsThere fixed avoid F (facts T)
  answer true h = ((λ _. there_is h), (λ _. refl))
  answer false h = ((λ t. absurd (false≢true t)), (λ q. absurd (none_is h q)))

-- with facts that are gone
pub answer_left : (T : List TableRows) (gone : List (List Bool)) (fixed : ByNull) (avoid : Option Fact) (F : List Fact) (found : List Found)
    → AllListed fixed F → (r : Bool) → MatchBool r (FindsAll T gone fixed avoid F found) (NoMore T gone fixed avoid [] F)
    → IsTrue r ↔ Reaches T gone fixed avoid F
answer_left T gone fixed avoid F found listed true h =
    let g = read_gives T fixed found (read T found) h.good (λ n x e. h.whole n (listed n x e)) (λ n m. refl) in
    ((λ _. (read T found, g.fixed_values, h.moves (read T found) g)), (λ _. refl))
answer_left T gone fixed avoid F found listed false h = (
  (λ t. absurd (false≢true t)),
  (λ w. absurd (h w.0 (record { fixed_values = w.1; cell_values = λ b m. elim m [ ] }) w.2)),
)

pub answer_found : (T : List TableRows) (fixed : ByNull) (avoid : Option Fact) (F : List Fact) (found : List Found) → AllListed fixed F
    → (r : Bool) → MatchBool r (FindsAll T [] fixed avoid F found) (NoMore T [] fixed avoid [] F) → OnTrue r (IsNullAssignment T fixed avoid F found)
answer_found T fixed avoid F found listed true h = is_answer T fixed avoid F found listed h
answer_found T fixed avoid F found listed false h = tt
