use Rattle.std.proofs.Common.{◌∙◌, ◌<◌, ◌≤◌, sym, ap, subst, ℕ, List, length, []}
use Rattle.std.proofs.lemmas.Bool.{eqb-true}
use Rattle.std.proofs.lemmas.List.{nil_from_length}
use Rattle.dx_base.specs.Members.{◌∈◌, Each}
use Rattle.dx_instance.specs.Stored.{facts, widths}
use Rattle.dx_instance.specs.Shown.{shown_tables}
use Rattle.dx_joins.specs.Shown.{IsMatchTuple, StandFor}
use Rattle.dx_joins.specs.Derivations.{GivenBy, IsVariableWanted}
use Rattle.dx_joins.proofs.Growing.{texts_grow}
use Rattle.dx_joins.proofs.Whole.{args_wanted, fits_wanted, given_same, no_derived, none_found, result_grow, result_same, room_wanted, shown_wanted, stand_grow}
use Rattle.dx_joins.proofs.shown.shown_rows.Goals as goal
use Rattle.dx_joins.proofs.Carrying.{found}

pub returns-then-is_empty-clause-rows : goal.returns-then-is_empty-clause-rows
returns-then-is_empty-clause-rows g c =
    let I = facts (shown_tables c.args.source.now.symbols c.args.source.now.tables) in
    let plain = result_grow c.premise_shown.result c.args.most (length c.args.shown.now) (IsMatchTuple g.M.Meaning.apply c.args.premise.now [] I c.args.shown.now) c.args.source.now.symbols c.args.symbols.now c.requires.symbols (c.premise_shown.ensures.rows g.M.Meaning.apply) in
    let none = nil_from_length c.args.derived.now (eqb-true (length c.args.derived.now) 0 (sym c.if-is_empty.ensures)) in
    result_same c.premise_shown.result c.args.most (length c.args.shown.now) (IsMatchTuple g.M.Meaning.apply c.args.premise.now [] I c.args.shown.now) (IsMatchTuple g.M.Meaning.apply c.args.premise.now c.args.derived.now I c.args.shown.now)
    c.args.symbols.now (no_derived g.M.Meaning.apply c.args.premise.now c.args.derived.now I c.args.shown.now none) plain

pub derived_rows-requires-clause-rows : goal.derived_rows-requires-clause-rows
derived_rows-requires-clause-rows g c =
    let s = found c.in_ok-rows.field-0 c.in-Some.rows _ _ c.in-Some.is (c.in_ok-rows.ensures.rows g.M.Meaning.apply) in
    record {
      apart = c.len.ensures.apart;
      width = s.width ∙ ap length (c.deref.ensures.value ∙ sym c.deref-in-Some.ensures.value);
      texts = λ r m. texts_grow c.args.source.now.symbols c.args.symbols.now r c.requires.symbols (s.texts r m);
    }

pub derived_rows-requires-clause-shown : goal.derived_rows-requires-clause-shown
derived_rows-requires-clause-shown g c =
    let first = c.premise_variables-first.result in
    let w = sym c.deref-in-Some.ensures.value in
    let below = subst (λ (l : List ℕ). Each l (λ x. x < first)) w c.in_ok-wanted.ensures.below in
    let all = subst (λ (l : List ℕ). (x : ℕ) → x < first → IsVariableWanted c.args.derived.now c.args.shown.now x → x ∈ l) w c.in_ok-wanted.ensures.all in
    let few = subst (λ (l : List ℕ). length l ≤ first) w c.in_ok-wanted.ensures.few in
    record {
      known = shown_wanted (widths (shown_tables c.args.source.now.symbols c.args.source.now.tables)) c.args.premise.now c.args.derived.now c.args.shown.now c.deref-in-Some.result.now first c.requires.fits c.premise_variables-first.ensures.number below all few;
      few = c.requires.fits.short;
    }

pub derived_rows-requires-clause-computed : goal.derived_rows-requires-clause-computed
derived_rows-requires-clause-computed g c =
    let first = c.premise_variables-first.result in
    let w = sym c.deref-in-Some.ensures.value in
    let below = subst (λ (l : List ℕ). Each l (λ x. x < first)) w c.in_ok-wanted.ensures.below in
    let all = subst (λ (l : List ℕ). (x : ℕ) → x < first → IsVariableWanted c.args.derived.now c.args.shown.now x → x ∈ l) w c.in_ok-wanted.ensures.all in
    let few = subst (λ (l : List ℕ). length l ≤ first) w c.in_ok-wanted.ensures.few in
    let known = args_wanted (widths (shown_tables c.args.source.now.symbols c.args.source.now.tables)) c.args.premise.now c.args.derived.now c.args.shown.now c.deref-in-Some.result.now first c.requires.fits c.premise_variables-first.ensures.number below all few in
    λ e m. record { serves = c.requires.serves; listed = c.requires.listed e m; known = known e m }

pub invariant_of-derivation : goal.invariant_of-derivation
invariant_of-derivation g c =
    let first = c.premise_variables-first.result in
    let w = sym c.deref-in-Some.ensures.value in
    let below = subst (λ (l : List ℕ). Each l (λ x. x < first)) w c.in_ok-wanted.ensures.below in
    let all = subst (λ (l : List ℕ). (x : ℕ) → x < first → IsVariableWanted c.args.derived.now c.args.shown.now x → x ∈ l) w c.in_ok-wanted.ensures.all in
    let few = subst (λ (l : List ℕ). length l ≤ first) w c.in_ok-wanted.ensures.few in
    record { numbers = room_wanted (widths (shown_tables c.args.source.now.symbols c.args.source.now.tables)) c.args.premise.now c.args.derived.now c.args.shown.now c.deref-in-Some.result.now first c.requires.fits c.premise_variables-first.ensures.number below all few }

pub premise_shown-requires-2 : goal.premise_shown-requires-2
premise_shown-requires-2 g c =
    let first = c.premise_variables-first.result in
    let w = sym c.deref.ensures.value in
    let below = subst (λ (l : List ℕ). Each l (λ x. x < first)) w c.in_ok-wanted.ensures.below in
    let all = subst (λ (l : List ℕ). (x : ℕ) → x < first → IsVariableWanted c.args.derived.now c.args.shown.now x → x ∈ l) w c.in_ok-wanted.ensures.all in
    let few = subst (λ (l : List ℕ). length l ≤ first) w c.in_ok-wanted.ensures.few in
    record { fits = fits_wanted (widths (shown_tables c.args.source.now.symbols c.args.source.now.tables)) c.args.premise.now c.args.derived.now c.args.shown.now c.deref.result.now first c.requires.fits c.premise_variables-first.ensures.number below all few }

pub unreachable-requires : goal.unreachable-requires
unreachable-requires g c = none_found c.in_ok-rows.field-0 _ _ c.in-None.is (c.in_ok-rows.ensures.rows g.M.Meaning.apply)

pub returns-clause-rows : goal.returns-clause-rows
returns-clause-rows g c =
    let first = c.premise_variables-first.result in
    let I = facts (shown_tables c.args.source.now.symbols c.args.source.now.tables) in
    let wanted = c.deref-in-Some.result.now in
    let w = sym c.deref-in-Some.ensures.value in
    let below = subst (λ (l : List ℕ). Each l (λ x. x < first)) w c.in_ok-wanted.ensures.below in
    let all = subst (λ (l : List ℕ). (x : ℕ) → x < first → IsVariableWanted c.args.derived.now c.args.shown.now x → x ∈ l) w c.in_ok-wanted.ensures.all in
    let few = subst (λ (l : List ℕ). length l ≤ first) w c.in_ok-wanted.ensures.few in
    let s0 = found c.in_ok-rows.field-0 c.in-Some.rows _ (StandFor (length c.deref.result.now) (IsMatchTuple g.M.Meaning.apply c.args.premise.now [] I c.deref.result.now) c.args.source.now.symbols) c.in-Some.is (c.in_ok-rows.ensures.rows g.M.Meaning.apply) in
    let s1 = subst (λ (l : List ℕ). StandFor (length l) (IsMatchTuple g.M.Meaning.apply c.args.premise.now [] I l) c.args.source.now.symbols c.in-Some.rows) (c.deref.ensures.value ∙ w) s0 in
    let s = stand_grow (length wanted) (IsMatchTuple g.M.Meaning.apply c.args.premise.now [] I wanted) c.args.source.now.symbols c.args.symbols.now c.in-Some.rows c.requires.symbols s1 in
    result_same c.derived_rows.result c.args.most (length c.args.shown.now) (GivenBy g.M.Meaning.apply wanted c.args.derived.now first c.args.shown.now c.args.symbols.now c.in-Some.rows.rows)
    (IsMatchTuple g.M.Meaning.apply c.args.premise.now c.args.derived.now I c.args.shown.now) c.derived_rows.new.symbols
    (given_same (widths (shown_tables c.args.source.now.symbols c.args.source.now.tables)) c.args.premise.now c.args.derived.now c.args.shown.now wanted first c.requires.fits c.premise_variables-first.ensures.number below all few
    g.M.Meaning.apply I c.args.symbols.now c.in-Some.rows s) c.derived_rows.ensures.rows

pub returns-then-is_empty-clause-within : goal.returns-then-is_empty-clause-within
returns-then-is_empty-clause-within g c = c.premise_shown.ensures.within

pub returns-clause-within : goal.returns-clause-within
returns-clause-within g c = c.derived_rows.ensures.within
