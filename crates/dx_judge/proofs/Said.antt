-- Texts of variables by their places; the first tuple and the first place that does not hold.
use Rattle.std.proofs.Common.{◌≡◌, ◌∙◌, ℕ, zero, suc, ◌+◌, ◌*◌, ◌<◌, ◌≤◌, ◌^◌, List, [], ◌∷◌, inl, inr, refl, sym, ap, subst, arith, length, get_or, drop, drop-cons, Option, Some, None, mul-le-mul_left}
use Rattle.std.proofs.lemmas.Bool.{cases_lt, eq-eqb, ne_eqb}
use Rattle.dx_base.specs.Members.{◌∈◌, Each, here, there}
use Rattle.dx_base.proofs.Members.{contains_from_in, in_at}
use Rattle.dx_model.specs.declared.facts.Fact.{Fact}
use Rattle.dx_model.specs.declared.rules.Rule.{Rule}
use Rattle.dx_model.specs.Values.{Conversions, Rows, Tuple}
use Rattle.dx_model.specs.Rules.{AreRows, cells_of, exported, text_of}
use Rattle.dx_model.specs.Covers.{IsPlace, rule_at}
use Rattle.std.proofs.lemmas.List.{get_or-map, get_or_default, length-map}
use Rattle.dx_model.specs.Tables.{Table}
use Rattle.dx_instance.specs.Stored.{TableRows, facts}
use Rattle.dx_fails.specs.Firsts.{IsPairBefore, IsFirstFailing}
use Rattle.dx_model.specs.declared.matches.Matches.{Matches}
use Rattle.dx_model.specs.declared.matches.Places.{Places}
use Rattle.dx_tgd.specs.Counting.{canonical_cells}
use Rattle.dx_model.specs.Matches.{rows_of_matches}
use Rattle.dx_tgd.specs.Placed.{HasCell}
use Rattle.dx_judge.specs.declared.verdict.Why.{Why}
use Rattle.dx_judge.specs.Open.{TuplesFitRules, IsFirstReason, IsFirstTuple, IsKeyOrLink, TupleHolds, nth_tuple}
use Rattle.dx_judge.specs.Verdicts.{PlaceHolds}
use Rattle.dx_judge.proofs.Deciding.{rows_are}

-- ---- what is no rule's fault

pub no_rule_fails : (R : List Rule) (rows : Rows) (schema : List Table) (I : List TableRows) (o : Option Why)
    → ((i k : ℕ) → IsPlace R rows i k → PlaceHolds R rows (facts I) i k) → IsKeyOrLink schema I o → IsFirstReason R rows schema I o
no_rule_fails R rows schema I None hold k = (hold, k.0, k.1)
no_rule_fails R rows schema I (Some w) hold k = inr (hold, k)

-- ---- the text of a variable

-- the text of x is behind the first i variables
pub record IsBehind (ys : List ℕ) (ts : Tuple) (x i : ℕ) : Type 0 where
  pub text : text_of (drop i ys) (drop i ts) x ≡ text_of ys ts x
  pub there_still : x ∈ drop i ys

pub behind_none : (ys : List ℕ) (ts : Tuple) (x : ℕ) → x ∈ ys → IsBehind ys ts x 0
behind_none [] ts x m = elim m [ ]
behind_none (y ∷ ys) [] x m = record { text = refl; there_still = m }
behind_none (y ∷ ys) (t ∷ ts) x m = record { text = refl; there_still = m }

pub behind_more : (ys : List ℕ) (ts : Tuple) (x i : ℕ) → i < length ys → length ts ≡ length ys → ¬ (get_or ys i 0 ≡ x) → IsBehind ys ts x i
    → IsBehind ys ts x (i + 1)
behind_more ys ts x i h l n b =
    let s : i + 1 ≡ suc i = omega arith in
    let p : drop i ys ≡ get_or ys i 0 ∷ drop (suc i) ys = drop-cons ys i 0 h in
    let q : drop i ts ≡ get_or ts i [] ∷ drop (suc i) ts = drop-cons ts i [] (omega (arith, h, l)) in
    record {
      text = rw s (sym (rw (p, q, ne_eqb x (get_or ys i 0) (λ e. n (sym e))) at (sym b.text)));
      there_still = rw s (behind n (rw p at b.there_still));
    }
  where
    behind : ¬ (get_or ys i 0 ≡ x) → x ∈ (get_or ys i 0 ∷ drop (suc i) ys) → x ∈ drop (suc i) ys
    behind k (here e) = absurd (k e)
    behind k (there m) = m

pub behind_here : (ys : List ℕ) (ts : Tuple) (x i : ℕ) → i < length ys → length ts ≡ length ys → get_or ys i 0 ≡ x → IsBehind ys ts x i
    → get_or ts i [] ≡ text_of ys ts x
behind_here ys ts x i h l e b =
    let p : drop i ys ≡ get_or ys i 0 ∷ drop (suc i) ys = drop-cons ys i 0 h in
    let q : drop i ts ≡ get_or ts i [] ∷ drop (suc i) ts = drop-cons ts i [] (omega (arith, h, l)) in
    rw (p, q, eq-eqb x (get_or ys i 0) (sym e)) at b.text

pub behind_all : (ys : List ℕ) (ts : Tuple) (x i : ℕ) → length ys ≤ i → IsBehind ys ts x i → ⊥
behind_all ys ts x i h b = none ys i h b.there_still
  where
    none : (xs : List ℕ) (j : ℕ) → length xs ≤ j → ¬ (x ∈ drop j xs)
    none [] zero h m = elim m [ ]
    none [] (suc j) h m = elim m [ ]
    none (y ∷ xs) zero h m = absurd (omega (arith, h))
    none (y ∷ xs) (suc j) h m = none xs j (omega (arith, h)) m

-- ---- tuples

pub tuples_all : (d : Rule) (K : List Fact) (ts : List Tuple) (n : ℕ) → length ts ≤ n → ((k : ℕ) → k < n → TupleHolds d K (nth_tuple ts k))
    → IsFirstTuple d K ts None
tuples_all d K ts n h all t m =
    let k = contains_from_in m in
    let b = k.1 in
    subst (TupleHolds d K) (get_or_default ts k.0 [] t k.1 ∙ k.2) (all k.0 (omega (arith, h, b)))

-- ---- places

-- the rules before number i hold at each place
abbrev pub HoldBefore : List Rule → Rows → List Fact → ℕ → Type 0
HoldBefore R rows K i = (j l : ℕ) → j < i → IsPlace R rows j l → PlaceHolds R rows K j l

pub hold_more : (R : List Rule) (rows : Rows) (K : List Fact) (i : ℕ) → IsFirstTuple (rule_at R i) K (get_or rows i []) None
    → HoldBefore R rows K i → HoldBefore R rows K (i + 1)
hold_more R rows K i here_too old j l h p = elim (cases_lt j i) [
  | inl b ↦ old j l b p
  | inr b ↦ let e : i ≡ j = omega (arith, h, b) in subst (λ (x : ℕ). l < length (get_or rows x []) → PlaceHolds R rows K x l) e (last l) p.2
]
  where
    last : (l : ℕ) → l < length (get_or rows i []) → PlaceHolds R rows K i l
    last l h = here_too (get_or (get_or rows i []) l []) (in_at (get_or rows i []) l [] h)

pub is_open : (R : List Rule) (rows : Rows) (K : List Fact) (i k : ℕ) → i < length R → length rows ≡ length R
    → IsFirstTuple (rule_at R i) K (get_or rows i []) (Some k) → HoldBefore R rows K i
    → IsFirstFailing (IsPlace R rows) (PlaceHolds R rows K) i k
is_open R rows K i k h many f old = record {
  is_there = (h, omega (arith, h, many), f.0);
  fails = f.1;
  before = λ j l p b. earlier j l p b;
}
  where
    earlier : (j l : ℕ) → IsPlace R rows j l → IsPairBefore j l i k → PlaceHolds R rows K j l
    earlier j l p (inl b) = old j l b p
    earlier j l p (inr b) = subst (λ (x : ℕ). PlaceHolds R rows K x l) (sym b.0) (f.2 l b.1)

pub none_open : (R : List Rule) (rows : Rows) (K : List Fact) (i : ℕ) → length R ≤ i → HoldBefore R rows K i
    → (j l : ℕ) → IsPlace R rows j l → PlaceHolds R rows K j l
none_open R rows K i h old j l p = let b = p.0 in old j l (omega (arith, h, b)) p

-- ---- a rule and its tuples, as they are lent

pub rule_here : (R : List Rule) (i : ℕ) (d : Rule) → i < length R → d ≡ get_or R i d → d ≡ rule_at R i
rule_here R i d h e = e ∙ get_or_default R i d (record { premise = []; derived = []; conclusion = [] }) h

module _ (R : List Rule) (M : Matches) (items : List Places) (i : ℕ) (d : Rule) (p : Places) (same : items ≡ M.rules) (many : length M.rules ≡ length R)
    (h : i < length R) (is : d ≡ get_or R i d) (at : p ≡ get_or items i p) where
  within : i < length M.rules
  within = omega (arith, h, many)

  places_here : p.tuples ≡ get_or (rows_of_matches M) i []
  places_here =
      let first : p.tuples ≡ (get_or items i p).tuples = ap (λ (x : Places). x.tuples) at in
      let moved : (get_or items i p).tuples ≡ (get_or M.rules i p).tuples = ap (λ (xs : List Places). (get_or xs i p).tuples) same in
      let back : get_or (rows_of_matches M) i [] ≡ (get_or M.rules i p).tuples = get_or-map (λ (x : Places). x.tuples) M.rules i p [] within in
      first ∙ (moved ∙ sym back)

  pub tuple_here : (K : List Fact) (o : Option ℕ) → IsFirstTuple d K p.tuples o → IsFirstTuple (rule_at R i) K (get_or (rows_of_matches M) i []) o
  tuple_here K o k =
      subst (λ (ts : List Tuple). IsFirstTuple (rule_at R i) K ts o) places_here
      (subst (λ (x : Rule). IsFirstTuple x K p.tuples o) (rule_here R i d h is) k)

  pub tuples_long : TuplesFitRules R (rows_of_matches M) → Each p.tuples (λ (t : Tuple). length t ≡ length (exported d))
  tuples_long long t m =
      subst (λ (x : Rule). length t ≡ length (exported x)) (sym (rule_here R i d h is))
      (long i h t (subst (λ (ts : List Tuple). t ∈ ts) places_here m))

  pub tuples_few : Each (rows_of_matches M) (λ (ts : List Tuple). length ts < 2 ^ 32) → length p.tuples < 2 ^ 32
  tuples_few few =
      let long : length (rows_of_matches M) ≡ length M.rules = length-map M.rules (λ (x : Places). x.tuples) in
      subst (λ (ts : List Tuple). length ts < 2 ^ 32) (sym places_here)
      (few (get_or (rows_of_matches M) i []) (in_at (rows_of_matches M) i [] (omega (arith, h, many, long))))

-- ---- tuples are long, and few

pub are_long : (convert : Conversions) (R : List Rule) (I : List Fact) (rows : Rows) → AreRows convert R I rows → TuplesFitRules R rows
are_long convert R I rows a i h t m =
    let w = ((rows_are convert R I rows i a h).exact t).0 m in
    ap length w.2 ∙ length-map (exported (rule_at R i)) w.0

few_cells : (n c : ℕ) → 1 ≤ c → n ≤ n * c
few_cells n c h = let k = mul-le-mul_left n h in omega (arith, k)

pub are_few : (R : List Rule) (rows : Rows) (limit : ℕ) → Each R HasCell → length rows ≡ length R → canonical_cells R rows ≤ limit
    → Each rows (λ (ts : List Tuple). length ts ≤ limit)
are_few R [] limit h e k ts m = elim m [ ]
are_few [] (us ∷ rows) limit h e k ts m = absurd (omega (arith, e))
are_few (d ∷ R) (us ∷ rows) limit h e k ts (here p) =
    let some = few_cells (length us) (length (cells_of d.conclusion)) (h d (here refl)) in
    subst (λ (ws : List Tuple). length ws ≤ limit) p (omega (arith, some, k))
are_few (d ∷ R) (us ∷ rows) limit h e k ts (there m) =
    are_few R rows limit (λ c i. h c (there i)) (omega (arith, e)) (omega (arith, k)) ts m
