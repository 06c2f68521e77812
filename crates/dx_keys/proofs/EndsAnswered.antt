-- A clash in the form in which the chase answers it.
use Rattle.std.proofs.Common.{◌≡◌, ℕ, suc, ◌<◌, List, [], ◌∷◌, inl, inr, refl, sym, ◌∙◌, ap, subst, arith, length}
use Rattle.std.specs.Prelude.{slice_index_or}
use Rattle.std.specs.Ordering.{ordering_reverse}
use Rattle.std.specs.declared.cmp.Ordering.{Ordering}
use Rattle.std.specs.declared.cmp.Ordering.TheVariants.{Less, Equal, Greater}
use Rattle.std.proofs.lemmas.Cmp.{lists_total}
use Rattle.dx_base.specs.Members.{◌∈◌, here, there}
use Rattle.dx_model.specs.declared.facts.Fact.{Fact}
use Rattle.dx_model.specs.Tables.{Table, Determination, table_of, cell, fact_of_row}
use Rattle.dx_model.specs.Values.{row_cmp, value_cmp}
use Rattle.dx_model.specs.Chase.{IsClashAt, after}
use Rattle.dx_model.proofs.Orders.{value_total, value_exact, slice_exact}
use Rattle.dx_model.proofs.Forced.{clash_after}
use Rattle.dx_keys.specs.declared.answers.Clash.{Clash}
use Rattle.dx_keys.specs.Answers.{IsClash}
use Rattle.dx_keys.specs.Ends.{EndsInClash, ClashHasAnswer, EveryChaseAnswers}
use Rattle.dx_keys.proofs.EndsFound.{turned}
use Rattle.dx_keys.proofs.EndsReached.{every_chase_ends}

-- a member stands at a place
place_of : {X : Type 0} (d e : X) (ds : List X) → d ∈ ds → (k : ℕ) × (k < length ds) × (slice_index_or ds k e ≡ d)
place_of d e ds (here q) = (0, omega arith, q)
place_of d e (x ∷ ds) (there m) = let w = place_of d e ds m in (suc w.0, omega (arith, w.1), w.2)

pub clash_turned : (schema : List Table) (B : List Fact) (a b : Fact) (d : Determination) (c : ℕ) → IsClashAt schema B a b d c → IsClashAt schema B b a d c
clash_turned schema B a b d c x = record {
  break = turned schema B a b d c x.break;
  one = x.other;
  other = x.one;
  left = x.right;
  right = x.left;
}

module _ (schema : List Table) (A : List Fact) where
  -- the clash of two facts of which the first is the lesser
  answered : (E : EndsInClash schema A) (a b : Fact) → IsClashAt schema (after E.steps A) a b E.d E.c → row_cmp a.row b.row ≡ Less
      → (c : Clash) × IsClash schema A c
  answered E a b x less =
      let place = place_of E.d (record { left = []; right = [] }) (table_of schema a.table).determinations x.break.of_table in
      let other : b ≡ fact_of_row a.table b.row = (λ i. record { table = sym x.break.table i; row = b.row }) in (
        record { steps = E.steps; table = a.table; key = place.0; left = a.row; right = b.row; column = E.c },
        record {
          steps = E.are_steps;
          key = place.1;
          clash = subst (λ d. IsClashAt schema (after E.steps A) (fact_of_row a.table a.row) (fact_of_row a.table b.row) d E.c) (sym place.2)
              (subst (λ f. IsClashAt schema (after E.steps A) a f E.d E.c) other x);
          lesser = less;
          none = clash_after schema A E.steps a b E.d E.c E.are_steps x;
        },
      )

  clash_answered : EndsInClash schema A → (c : Clash) × IsClash schema A c
  clash_answered E = by (row_cmp E.a.row E.b.row) refl
    where
      by : (o : Ordering) → row_cmp E.a.row E.b.row ≡ o → (c : Clash) × IsClash schema A c
      by Less q = answered E E.a E.b E.clash q
      by Equal q = absurd (E.clash.break.differ (ap (λ r. cell r E.c) (slice_exact value_cmp value_exact E.a.row E.b.row q)))
      by Greater q =
          answered E E.b E.a (clash_turned schema (after E.steps A) E.a E.b E.d E.c E.clash)
          ((lists_total value_total).antisymm E.b.row E.a.row ∙ ap ordering_reverse q)

pub clash_has_answer : ClashHasAnswer
clash_has_answer schema A E = clash_answered schema A E

pub every_chase_answers : EveryChaseAnswers
every_chase_answers schema A fits = elim (every_chase_ends schema A fits) [ inl m ↦ inl m | inr E ↦ inr (clash_has_answer schema A E) ]
