-- Facts that take their turns in an order.
use Rattle.std.proofs.Common.{◌≡◌, ◌∙◌, ℕ, ◌<◌, ◌≤◌, ◌+◌, ◌^◌, List, [], ◌∷◌, ◌++◌, sym, ap, arith, length, get_or, take}
use Rattle.std.specs.Prelude.{Bool, Option}
use Rattle.std.proofs.lemmas.List.{length-append, nil_from_length}
use Rattle.dx_base.specs.Members.{◌∈◌}
use Rattle.dx_model.specs.declared.facts.Fact.{Fact}
use Rattle.dx_model.specs.Instances.{nulls_in}
use Rattle.dx_instance.specs.NullMaps.{ByNull}
use Rattle.dx_instance.specs.Stored.{TableRows, rows_of}
use Rattle.dx_hom.specs.declared.matching.Found.{Found}
use Rattle.dx_hom.specs.declared.searching.Step.{Step}
use Rattle.dx_hom.specs.Narrowing.{Narrows}
use Rattle.dx_hom.specs.Orders.{IsOrder, IsReordered, fact_in}
use Rattle.dx_hom.specs.Searching.{FindsAll, IsOpen, MovesTo, NoMore, Skips}
use Rattle.dx_hom.proofs.OrderFacts.{all_moved, moved_in, moved_more, moved_stays}
use Rattle.dx_hom.proofs.Steps.{Last, Passed, Trail, ends_same, exhausted, last_of, none_yet, passed_back, pushed, sound, start}

one_more : (before : List Step) (s : Step) → length (before ++ s ∷ []) ≡ length before + 1
one_more before s = simp length-append

module _ (T : List TableRows) (gone : List (List Bool)) (fixed : ByNull) (avoid : Option Fact) (F : List Fact) where
  -- the steps move the first facts of the order
  abbrev pub Goes : List Step → List ℕ → List Found → Type 0
  Goes steps order found = Trail T gone fixed avoid F steps (moved_in F order (length steps)) found

  -- the fact whose turn is after so many steps
  abbrev pub turn : List ℕ → List Step → Fact
  turn order steps = fact_in F (get_or order (length steps) 0)

  pub goes_first : (steps : List Step) (order : List ℕ) (found : List Found) → steps ≡ [] → found ≡ [] → Goes steps order found
  goes_first steps order found e d = rw (e, d) start

  pub goes_other : (steps : List Step) (old new : List ℕ) (found : List Found) → IsReordered (length steps) old new
      → Goes steps old found → Goes steps new found
  goes_other steps old new found r t = rw (moved_stays F old new (length steps) r) t

  -- a is the fact whose turn is
  pub record IsTurn (steps : List Step) (order : List ℕ) (found : List Found) (n : ℕ) (a : Fact) : Type 0 where
    pub order_is : IsOrder (length F) order
    pub within : length steps < length F
    pub goes : Goes steps order found
    pub fact : a ≡ turn order steps
    pub member : a ∈ F
    pub passed : Passed T gone fixed avoid F found a n

  pub is_turn : (steps : List Step) (order : List ℕ) (found : List Found) (n i k : ℕ) (a : Fact) (items : List ℕ) → IsOrder (length F) order
      → length steps < length F → Goes steps order found
      → (length steps < length F → Passed T gone fixed avoid F found (turn order steps) n)
      → a ≡ fact_in F (get_or items i 0) → items ≡ order → i ≡ k → k ≡ length steps → a ∈ F → IsTurn steps order found n a
  is_turn steps order found n i k a items o h t passed e d q r m =
      let same : i ≡ length steps = q ∙ r in
      let fact : a ≡ turn order steps =
      e ∙ (ap (λ (l : List ℕ). fact_in F (get_or l i 0)) d ∙ ap (λ (j : ℕ). fact_in F (get_or order j 0)) same) in
      record { order_is = o; within = h; goes = t; fact = fact; member = m; passed = rw fact (passed h) }

  pub goes_on : (steps now : List Step) (order : List ℕ) (found new : List Found) (k n p : ℕ) (a : Fact) → IsTurn steps order found n a
      → k ≡ length found → IsOpen T gone avoid a.table p → Skips T gone fixed avoid found a n p
      → Narrows T fixed found (nulls_in a.row) (MovesTo T a p) new → p + 1 < 2 ^ 32
      → now ≡ steps ++ record { place = p; before = k } ∷ [] → Goes now order new
  goes_on steps now order found new k n p a t e q s w l d =
      let more = moved_more F order (length steps) (omega (arith, t.within, t.order_is.many)) in
      let last = more ∙ ap (λ (f : Fact). moved_in F order (length steps) ++ f ∷ []) (sym t.fact) in
      let long : length now ≡ length steps + 1 = ap length d ∙ one_more steps (record { place = p; before = k }) in
      let next = pushed T gone fixed avoid F t.goes a new k n p t.member t.passed e q s w l in
      rw (long, last, d) next

  -- the last step
  pub goes_back : (before steps : List Step) (order : List ℕ) (found : List Found) (s : Step) (n : ℕ) (a : Fact)
      → IsTurn steps order found n a → steps ≡ before ++ s ∷ []
      → Last T gone fixed avoid F before (moved_in F order (length before)) s (turn order before) found
  goes_back before steps order found s n a t e =
      let long : length steps ≡ length before + 1 = ap length e ∙ one_more before s in
      let more = moved_more F order (length before) (omega (arith, t.within, long, t.order_is.many)) in
      let same = ap (moved_in F order) long ∙ more in
      last_of T gone fixed avoid F before (moved_in F order (length before)) s (turn order before) t.goes e same

  -- all facts had their turn
  pub goes_whole : (steps : List Step) (order : List ℕ) (found : List Found) → IsOrder (length F) order → length F ≤ length steps
      → Goes steps order found → FindsAll T gone fixed avoid F found
  goes_whole steps order found o h t =
      ends_same T gone fixed avoid (moved_in F order (length steps)) F found (all_moved F order (length steps) o h)
      (sound T gone fixed avoid F t)

  -- the fact whose turn is has no place
  over : (steps : List Step) (order : List ℕ) (found : List Found) (n : ℕ) (a : Fact) → IsTurn steps order found n a
      → Skips T gone fixed avoid found a n (length (rows_of T a.table)) → NoMore T gone fixed avoid found F
  over steps order found n a t skips = exhausted T gone fixed avoid F found a n t.member t.passed skips

  pub goes_nowhere : (steps : List Step) (order : List ℕ) (found : List Found) (n : ℕ) (a : Fact) → IsTurn steps order found n a
      → Skips T gone fixed avoid found a n (length (rows_of T a.table)) → length steps ≡ 0 → NoMore T gone fixed avoid [] F
  goes_nowhere steps order found n a t skips z =
      let none = none_yet T gone fixed avoid F t.goes (nil_from_length steps z) in
      let nowhere = over steps order found n a t skips in
      rw none at nowhere

  pub goes_again : (before steps : List Step) (order : List ℕ) (found : List Found) (s : Step) (n : ℕ) (a : Fact)
      → IsTurn steps order found n a → Skips T gone fixed avoid found a n (length (rows_of T a.table)) → steps ≡ before ++ s ∷ []
      → Passed T gone fixed avoid F (take s.before found) (turn order before) (s.place + 1)
  goes_again before steps order found s n a t skips e =
      let last = goes_back before steps order found s n a t e in
      passed_back T gone fixed avoid F (take s.before found) found s (turn order before) last.step (over steps order found n a t skips)
