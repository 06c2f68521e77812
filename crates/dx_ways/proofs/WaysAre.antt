-- The members of the list of ways.
use Rattle.std.proofs.Common.{◌≡◌, ℕ, ◌≤◌, List, length, ap, subst}
use Rattle.std.specs.Prelude.{flat_map}
use Rattle.std.specs.List.{filter}
use Rattle.std.proofs.lemmas.Bool.{eqb-true, eq-eqb}
use Rattle.dx_base.specs.Members.{◌∈◌, ◌⊆◌, Each}
use Rattle.dx_base.proofs.Members.{in_map, from_map, in_flat_map, from_flat_map}
use Rattle.dx_logical.specs.declared.relation.Occurrence.{Occurrence}
use Rattle.dx_lines.specs.declared.line.Line.{Line}
use Rattle.dx_lines.specs.declared.candidate.Pick.{Pick}
use Rattle.dx_lines.specs.Ways.{is_of, variable_in, named_columns, occurrence_choices, term_by, terms_of, pick, ways_at, line_ways, ways}
use Rattle.dx_ways.specs.Laws.{TermBy, ChoosesOf, IsWay, WaysAre, WaysAscend, WaysGrow}
use Rattle.dx_ways.proofs.Order.{no_longer}
use Rattle.dx_ways.proofs.Puts.{to_ascending, ascending_ascends}
use Rattle.dx_ways.proofs.Choosing.{first_of, from_choices, to_choices, from_term_by, to_term_by, first_chosen, seen_by}
use Rattle.dx_base.proofs.Tests.{from_filter, to_filter}
use Rattle.dx_lines.proofs.Ascending.{from_ascending}

-- what a line's ways are
pub record IsLineWay (P Q : List Occurrence) (l : Line) (k : Pick) : Type 0 where
  pub target : Occurrence
  pub is_in : target ∈ Q
  pub is_there : target.table ≡ l.target.table
  pub has : variable_in target l.target.column ≡ k.variable
  pub choice : ℕ → Occurrence
  pub chosen : Each (named_columns l.source) (ChoosesOf P choice)
  pub term : TermBy choice l.source k.term

pub from_line : (P Q : List Occurrence) (l : Line) (k : Pick) → k ∈ line_ways P Q l → IsLineWay P Q l k
from_line P Q l k m =
    let o = from_flat_map (ways_at P l) (filter (is_of l.target.table) Q) m in
    let q = from_filter (is_of l.target.table) Q o.1 in
    let t = from_map (pick (variable_in o.0 l.target.column)) (terms_of P l.source) o.2 in
    let c = from_flat_map (term_by l.source) (occurrence_choices P (named_columns l.source)) t.1 in
    let h = from_choices P (named_columns l.source) c.0 c.1 in
    record {
      target = o.0;
      is_in = q.0;
      is_there = eqb-true o.0.table l.target.table q.1;
      has = ap (λ (j : Pick). j.variable) t.2;
      choice = first_of c.0;
      chosen = first_chosen P c.0 (named_columns l.source) h.0 h.1;
      term = subst (TermBy (first_of c.0) l.source) (ap (λ (j : Pick). j.term) t.2) (from_term_by c.0 l.source t.0 c.2);
    }

pub to_line : (P Q : List Occurrence) (l : Line) (k : Pick) → IsLineWay P Q l k → k ∈ line_ways P Q l
to_line P Q l k w =
    let c = to_choices P (named_columns l.source) w.choice w.chosen in
    let h = from_choices P (named_columns l.source) c.0 c.1 in
    let t = to_term_by c.0 w.choice l.source k.term (seen_by c.0 w.choice (named_columns l.source) h.1 c.2) w.term in
    let m = in_map (pick (variable_in w.target l.target.column)) (in_flat_map (term_by l.source) c.1 t) in
    let q = to_filter (is_of l.target.table) Q w.is_in (eq-eqb w.target.table l.target.table w.is_there) in
    let e : pick (variable_in w.target l.target.column) k.term ≡ k = ap (λ (y : ℕ). pick y k.term) w.has in
    subst (λ (j : Pick). j ∈ line_ways P Q l) e (in_flat_map (ways_at P l) q m)

ways_from : (lines : List Line) (P Q : List Occurrence) (k : Pick) → k ∈ ways lines P Q → IsWay lines P Q k
ways_from lines P Q k m =
    let r = from_flat_map (line_ways P Q) lines (from_ascending (flat_map (line_ways P Q) lines) k m) in
    let w = from_line P Q r.0 k r.2 in
    record {
      line = r.0;
      is_line = r.1;
      target = w.target;
      is_in = w.is_in;
      is_there = w.is_there;
      has = w.has;
      choice = w.choice;
      chosen = w.chosen;
      term = w.term;
    }

ways_to : (lines : List Line) (P Q : List Occurrence) (k : Pick) → IsWay lines P Q k → k ∈ ways lines P Q
ways_to lines P Q k w =
    let l = to_line P Q w.line k (record { target = w.target; is_in = w.is_in; is_there = w.is_there; has = w.has; choice = w.choice; chosen = w.chosen; term = w.term }) in
    to_ascending (flat_map (line_ways P Q) lines) k (in_flat_map (line_ways P Q) w.is_line l)

pub ways_are : WaysAre
ways_are lines P Q k = (ways_from lines P Q k, ways_to lines P Q k)

pub ways_ascend : WaysAscend
ways_ascend lines P Q = ascending_ascends (flat_map (line_ways P Q) lines)

pub ways_grow : WaysGrow
ways_grow lines P P' Q Q' p q k m =
    let w = ways_from lines P Q k m in
    ways_to lines P' Q' k (record {
      line = w.line;
      is_line = w.is_line;
      target = w.target;
      is_in = q w.target w.is_in;
      is_there = w.is_there;
      has = w.has;
      choice = w.choice;
      chosen = λ a n. let h = w.chosen a n in (p (w.choice a.table) h.0, h.1);
      term = w.term;
    })

-- more occurrences have no fewer ways
pub no_fewer : (lines : List Line) (P P' Q Q' : List Occurrence) → P ⊆ P' → Q ⊆ Q' → length (ways lines P Q) ≤ length (ways lines P' Q')
no_fewer lines P P' Q Q' p q = no_longer (ways lines P Q) (ways lines P' Q') (ways_ascend lines P Q) (ways_ascend lines P' Q') (ways_grow lines P P' Q Q' p q)
