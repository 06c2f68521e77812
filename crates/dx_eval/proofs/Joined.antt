-- Variables of cells: each its own, and with two of them joined.
use Rattle.std.proofs.Common.{◌≡◌, ◌⊎◌, ℕ, zero, suc, ◌+◌, ◌-◌, ◌<◌, ◌≤◌, ◌^◌, eqb, List, [], ◌∷◌, ◌++◌, length, get_or, take, drop, refl, sym, ◌∙◌, ap, subst, inl, inr, arith, min, max}
use Rattle.std.specs.Prelude.{map, slice_index, slice_index_or}
use Rattle.std.specs.List.{range_with_len}
use Rattle.std.proofs.lemmas.Bool.{cases_lt, cases_eq, cases_Bool, eqb-true, eqb-false}
use Rattle.std.proofs.lemmas.List.{get_or-map, get_or_append_left, get_or_push, get_or_default, length-map, length-append, take_more, take_all, take-append-drop}
use Rattle.std.proofs.lemmas.List.FromFn.{length-range_with_len}
use Rattle.dx_base.specs.Members.{◌∈◌, here, there, Each}
use Rattle.dx_base.proofs.Members.{from_append, in_left, in_right}
use Rattle.dx_model.specs.Values.{Tuple}
use Rattle.dx_base.specs.Texts.{Text}
use Rattle.dx_schema.specs.Names.{TableNames}
use Rattle.dx_script.specs.declared.form.CellRef.{CellRef}
use Rattle.dx_script.specs.declared.form.Equal.{Equal}
use Rattle.dx_script.specs.Fits.{CellFits}
use Rattle.dx_script.specs.Names.{column_named, table_named}
use Rattle.dx_script.specs.Meaning.{table_of_alias}
use Rattle.dx_eval.specs.Variables.{EqualCellsAgree, SeparateVariables, AreVariables, WideAliases, HasVariable, AliasHasCell, IsUnified, Meet, cell_count, renamed, alias_variables, alias_variable, variable_of, width_named}
use Rattle.dx_eval.proofs.NumberOfNames.{column_within}
use Rattle.dx_eval.proofs.Sums.{total, total_more, total_same}

-- ---- ranges

range_at : (a n c : ℕ) → c < n → slice_index (range_with_len a n) c ≡ a + c
range_at a zero c h = absurd (omega arith)
range_at a (suc n) zero h = omega arith
range_at a (suc n) (suc c) h = let r = range_at (a + 1) n c (omega arith) in omega (arith, r)

-- ---- one row more

module _ (vars : List (List ℕ)) (row : List ℕ) where
  abbrev more : List (List ℕ)
  more = vars ++ row ∷ []

  abbrev last : ℕ
  last = length vars

  row_old : (a : ℕ) → a < last → alias_variables more a ≡ alias_variables vars a
  row_old a h = get_or_append_left vars (row ∷ []) [] a h

  row_new : alias_variables more last ≡ row
  row_new = get_or_push vars row [] last refl

  cell_old : (a c : ℕ) → AliasHasCell vars a c → AliasHasCell more a c
  cell_old a c h =
      let r = h.row in
      let k = h.cell in
      record { row = omega (arith, r, length-append vars (row ∷ [])); cell = rw (row_old a h.row) k }

  cell_new : (c : ℕ) → c < length row → AliasHasCell more last c
  cell_new c h = record { row = omega (arith, length-append vars (row ∷ [])); cell = rw row_new h }

  -- a cell is an old one, or one of the new row
  record Where (a c : ℕ) : Type 0 where
    is : (AliasHasCell vars a c × (alias_variable more a c ≡ alias_variable vars a c)) ⊎ ((a ≡ last) × (c < length row) × (alias_variable more a c ≡ slice_index row c))

  cell_where : (a c : ℕ) → AliasHasCell more a c → Where a c
  cell_where a c h = elim (cases_lt a last) [
    | inl l ↦
        let e = row_old a l in
        record { is = inl (record { row = l; cell = rw e at h.cell }, ap (λ (r : List ℕ). slice_index r c) e) }
    | inr g ↦
        let r = h.row in
        let q : a ≡ last = omega (arith, r, length-append vars (row ∷ [])) in
        let e : alias_variables more a ≡ row = ap (alias_variables more) q ∙ row_new in
        record { is = inr (q, rw e at h.cell, ap (λ (r : List ℕ). slice_index r c) e) }
  ]

-- ---- each cell its own variable

pub separate_start : (source : List TableNames) → SeparateVariables source [] [] 0
separate_start source = record {
  shape = record { many = refl; wide = λ a h. absurd (omega arith) };
  below_n = λ a c h. absurd (let r = h.row in omega arith);
  all = λ x h. absurd (omega arith);
  own = λ a c b d h k e. absurd (let r = h.row in omega arith);
  count = refl;
}

wide_more : (source : List TableNames) (names : List Text) (vars : List (List ℕ)) (name : Text) (row : List ℕ) → WideAliases source names vars → length row ≡ width_named source name → WideAliases source (names ++ name ∷ []) (vars ++ row ∷ [])
wide_more source names vars name row s w = record {
  many = let m = s.many in omega (arith, m, length-append vars (row ∷ []), length-append names (name ∷ []));
  wide = λ a h. at a h (cases_lt a (length vars));
}
  where
    at : (a : ℕ) → a < length (names ++ name ∷ []) → (a < length vars) ⊎ (length vars ≤ a) → length (alias_variables (vars ++ row ∷ []) a) ≡ width_named source (slice_index_or (names ++ name ∷ []) a [])
    at a h (inl l) =
        let m = s.many in
        let k : a < length names = omega (arith, m, l) in
        rw (get_or_append_left vars (row ∷ []) [] a l, get_or_append_left names (name ∷ []) [] a k) (s.wide a k)
    at a h (inr g) =
        let m = s.many in
        let q : length vars ≡ a = omega (arith, h, g, m, length-append names (name ∷ [])) in
        let p : length names ≡ a = omega (arith, q, m) in
        rw (get_or_push vars row [] a q, get_or_push names name [] a p) w

pub separate_more : (source : List TableNames) (names : List Text) (vars : List (List ℕ)) (n w : ℕ) (name : Text) → SeparateVariables source names vars n → w ≡ width_named source name
    → SeparateVariables source (names ++ name ∷ []) (vars ++ range_with_len n w ∷ []) (n + w)
separate_more source names vars n w name s e = record {
  shape = wide_more source names vars name (range_with_len n w) s.shape (length-range_with_len n w ∙ e);
  below_n = λ a c h. low a c (cell_where vars (range_with_len n w) a c h);
  all = λ x h. found x h (cases_lt x n);
  own = λ a c b d h k q. single a c b d (cell_where vars (range_with_len n w) a c h) (cell_where vars (range_with_len n w) b d k) q;
  count = counted;
}
  where
    low : (a c : ℕ) → Where vars (range_with_len n w) a c → alias_variable (vars ++ (range_with_len n w) ∷ []) a c < n + w
    low a c h = elim (h.is) [
      | inl o ↦ let b = s.below_n a c o.0 in let q = o.1 in omega (arith, b, q)
      | inr o ↦ let l : c < w = rw (length-range_with_len n w) at o.1 in let q = o.2 in let r = range_at n w c l in omega (arith, l, q, r)
    ]

    found : (x : ℕ) → x < n + w → (x < n) ⊎ (n ≤ x) → HasVariable (vars ++ (range_with_len n w) ∷ []) x
    found x h (inl l) =
        let v = s.all x l in
        record { alias = v.alias; column = v.column; is_cell = cell_old vars (range_with_len n w) v.alias v.column v.is_cell; is = ap (λ (r : List ℕ). slice_index r v.column) (row_old vars (range_with_len n w) v.alias v.is_cell.row) ∙ v.is }
    found x h (inr g) =
        let c : ℕ = x - n in
        let l : c < w = omega (arith, h, g) in
        let r = range_at n w c l in
        record {
          alias = length vars;
          column = c;
          is_cell = cell_new vars (range_with_len n w) c (rw (length-range_with_len n w) l);
          is = ap (λ (z : List ℕ). slice_index z c) (row_new vars (range_with_len n w)) ∙ omega (arith, r, g);
        }

    single : (a c b d : ℕ) → Where vars (range_with_len n w) a c → Where vars (range_with_len n w) b d → alias_variable (vars ++ (range_with_len n w) ∷ []) a c ≡ alias_variable (vars ++ (range_with_len n w) ∷ []) b d → (a ≡ b) × (c ≡ d)
    single a c b d h k q = elim (h.is) [
      | inl o ↦ elim (k.is) [
        | inl p ↦ s.own a c b d o.0 p.0 (sym o.1 ∙ (q ∙ p.1))
        | inr p ↦
            let l : d < w = rw (length-range_with_len n w) at p.1 in
            let r = range_at n w d l in
            let m = s.below_n a c o.0 in
            let x = o.1 in
            let y = p.2 in
            absurd (omega (arith, q, r, m, x, y))
      ]
      | inr o ↦
          let l : c < w = rw (length-range_with_len n w) at o.1 in
          let r = range_at n w c l in
          let x = o.2 in
          elim (k.is) [
            | inl p ↦ let m = s.below_n b d p.0 in let y = p.1 in absurd (omega (arith, q, r, m, x, y))
            | inr p ↦
                let i : d < w = rw (length-range_with_len n w) at p.1 in
                let t = range_at n w d i in
                let y = p.2 in
                (o.0 ∙ sym p.0, omega (arith, q, r, t, x, y))
          ]
    ]

    counted : cell_count (vars ++ (range_with_len n w) ∷ []) ≡ n + w
    counted =
        let f : ℕ → ℕ = λ a. length (alias_variables (vars ++ (range_with_len n w) ∷ []) a) in
        let g : ℕ → ℕ = λ a. length (alias_variables vars a) in
        let l : length (vars ++ (range_with_len n w) ∷ []) ≡ suc (length vars) = omega (arith, length-append vars ((range_with_len n w) ∷ [])) in
        let a = ap (total f) l in
        let b = total_more f (length vars) in
        let c = total_same f g (length vars) (λ k h. ap length (row_old vars (range_with_len n w) k h)) in
        let d : f (length vars) ≡ w = ap length (row_new vars (range_with_len n w)) ∙ length-range_with_len n w in
        let q = s.count in
        a ∙ (b ∙ omega (arith, c, d, q))

pub separate_variables : (source : List TableNames) (sources : List Text) (vars : List (List ℕ)) (n : ℕ) → n < 2 ^ 32 → SeparateVariables source sources vars n → AreVariables source sources [] vars n
separate_variables source sources vars n small s = record {
  shape = s.shape;
  below_n = s.below_n;
  all = s.all;
  joined = λ e m. elim m [ ];
  apart = λ rows g a c b d h k e. let o = s.own a c b d h k e in let p = o.0 in let q = o.1 in same rows a c b d p q;
  few = let q = s.count in omega (arith, q, small);
}
  where
    same : (rows : ℕ → Tuple) (a c b d : ℕ) → a ≡ b → c ≡ d → slice_index_or (rows a) c [] ≡ slice_index_or (rows b) d []
    same rows a c b d p q = ap (λ x. slice_index_or (rows x) c []) p ∙ ap (λ x. slice_index_or (rows b) x []) q

-- ---- two variables joined

renamed_cases : (k g l x : ℕ) → ((x ≡ g) × (renamed k g l x ≡ k)) ⊎ (((¬ (x ≡ g)) × (x ≡ l) × (renamed k g l x ≡ g)) ⊎ ((¬ (x ≡ g)) × (¬ (x ≡ l)) × (renamed k g l x ≡ x)))
renamed_cases k g l x = elim (cases_Bool (eqb x g)) [
  | inl t ↦ inl (eqb-true x g t, rw t refl)
  | inr f ↦ elim (cases_Bool (eqb x l)) [
    | inl t ↦ inr (inl (eqb-false x g f, eqb-true x l t, rw (f, t) refl))
    | inr h ↦ inr (inr (eqb-false x g f, eqb-false x l h, rw (f, h) refl))
  ]
]

-- the two variables that are joined, the lesser first
record Pair (x y k g : ℕ) : Type 0 where
  is : ((k ≡ x) × (g ≡ y)) ⊎ ((k ≡ y) × (g ≡ x))

meets : (f : ℕ → ℕ) (x y k g u v : ℕ) → Pair x y k g → (u ≡ k) → (v ≡ g) → Meet f x y u v
meets f x y k g u v p a b = elim (p.is) [
  | inl q ↦ record { only = inr (inl (a ∙ q.0, b ∙ q.1)) }
  | inr q ↦ record { only = inr (inr (a ∙ q.0, b ∙ q.1)) }
]

meets_back : (f : ℕ → ℕ) (x y k g u v : ℕ) → Pair x y k g → (u ≡ g) → (v ≡ k) → Meet f x y u v
meets_back f x y k g u v p a b = elim (p.is) [
  | inl q ↦ record { only = inr (inr (a ∙ q.1, b ∙ q.0)) }
  | inr q ↦ record { only = inr (inl (a ∙ q.1, b ∙ q.0)) }
]

module _ (x y k g n : ℕ) (pair : Pair x y k g) (less : k < g) (within : g < n) where
  l : ℕ
  l = n - 1

  by : ℕ → ℕ
  by = renamed k g l

  only_two : (u v : ℕ) → u < n → v < n → by u ≡ by v → Meet by x y u v
  unfolding l by
  only_two u v a b e = elim (renamed_cases k g l u) [
    | inl p ↦ elim (renamed_cases k g l v) [
      | inl q ↦ record { only = inl (p.0 ∙ sym q.0) }
      | inr o ↦ elim o [
        | inl q ↦ absurd (let s = p.1 in let t = q.2 in omega (arith, e, s, t, less))
        | inr q ↦ meets_back by x y k g u v pair p.0 (let s = p.1 in let t = q.2 in omega (arith, e, s, t))
      ]
    ]
    | inr r ↦ elim r [
      | inl p ↦ elim (renamed_cases k g l v) [
        | inl q ↦ absurd (let s = p.2 in let t = q.1 in omega (arith, e, s, t, less))
        | inr o ↦ elim o [
          | inl q ↦ record { only = inl (p.1 ∙ sym q.1) }
          | inr q ↦ absurd (q.0 (let s = p.2 in let t = q.2 in omega (arith, e, s, t)))
        ]
      ]
      | inr p ↦ elim (renamed_cases k g l v) [
        | inl q ↦ meets by x y k g u v pair (let s = p.2 in let t = q.1 in omega (arith, e, s, t)) q.0
        | inr o ↦ elim o [
          | inl q ↦ absurd (p.0 (let s = p.2 in let t = q.2 in omega (arith, e, s, t)))
          | inr q ↦ record { only = inl (let s = p.2 in let t = q.2 in omega (arith, e, s, t)) }
        ]
      ]
    ]
  ]

  stays_within : (u : ℕ) → u < n → by u < n - 1
  unfolding l by
  stays_within u a = elim (renamed_cases k g l u) [
    | inl p ↦ let s = p.1 in omega (arith, s, less, within)
    | inr o ↦ elim o [
      | inl p ↦ let s = p.2 in let d = p.0 in let e = p.1 in omega (arith, s, d, e, within)
      | inr p ↦ let s = p.2 in let d = p.1 in omega (arith, s, d, a)
    ]
  ]

  reached : (w : ℕ) → w < n - 1 → (u : ℕ) × (u < n) × (by u ≡ w)
  unfolding l by
  reached w a = elim (cases_eq w g) [
    | inl e ↦ elim (renamed_cases k g l (n - 1)) [
      | inl p ↦ absurd (let s = p.0 in omega (arith, s, e, a))
      | inr o ↦ elim o [
        | inl p ↦ (n - 1, omega (arith, a), let s = p.2 in omega (arith, s, e))
        | inr p ↦ absurd (p.1 refl)
      ]
    ]
    | inr d ↦ elim (renamed_cases k g l w) [
      | inl p ↦ absurd (d p.0)
      | inr o ↦ elim o [
        | inl p ↦ absurd (let s = p.1 in omega (arith, s, a))
        | inr p ↦ (w, omega (arith, a), p.2)
      ]
    ]
  ]

  both_one : by x ≡ by y
  unfolding l by
  both_one =
      let a : renamed k g l g ≡ k = elim (renamed_cases k g l g) [ inl p ↦ p.1 | inr o ↦ elim o [ inl p ↦ absurd (p.0 refl) | inr p ↦ absurd (p.0 refl) ] ] in
      let b : renamed k g l k ≡ k = elim (renamed_cases k g l k) [
        | inl p ↦ absurd (let s = p.0 in omega (arith, s, less))
        | inr o ↦ elim o [ inl p ↦ absurd (let s = p.1 in omega (arith, s, less, within)) | inr p ↦ p.2 ]
      ] in
      elim (pair.is) [
        | inl q ↦ ap (renamed k g l) (sym q.0) ∙ (b ∙ (sym a ∙ ap (renamed k g l) q.1))
        | inr q ↦ ap (renamed k g l) (sym q.1) ∙ (a ∙ (sym b ∙ ap (renamed k g l) q.0))
      ]

  renamed_joins : (old : List (List ℕ)) → IsUnified x y old (map (map by) old) n (n - 1)
  renamed_joins old = record { by = by; is = refl; one = both_one; only = only_two; within = stays_within; onto = reached }

pub joined_by_name : (x y n k g m : ℕ) (old new : List (List ℕ)) → ¬ (x ≡ y) → x < n → y < n → k ≡ min x y → g ≡ max x y → m ≡ n - 1 → new ≡ map (map (renamed k g m)) old → IsUnified x y old new n m
unfolding l by
joined_by_name x y n k g m old new d a b e f h is =
    rw (is, h) (renamed_joins x y k g n pair (omega (arith, d, e, f)) (omega (arith, a, b, f)) old)
  where
    pair : Pair x y k g
    pair = elim (cases_lt x y) [
      | inl l ↦ record { is = inl (omega (arith, e, l), omega (arith, f, l)) }
      | inr l ↦ record { is = inr (omega (arith, e, l), omega (arith, f, l)) }
    ]

map_itself : (xs : List ℕ) → map (λ x. x) xs ≡ xs
map_itself [] = refl
map_itself (x ∷ xs) = ap (λ (l : List ℕ). x ∷ l) (map_itself xs)

maps_themselves : (rows : List (List ℕ)) → map (map (λ x. x)) rows ≡ rows
maps_themselves [] = refl
maps_themselves (r ∷ rows) = let a = map_itself r in let b = maps_themselves rows in cc

pub joined_already : (x y n : ℕ) (old : List (List ℕ)) → x ≡ y → IsUnified x y old old n n
joined_already x y n old e = record {
  by = λ u. u;
  is = sym (maps_themselves old);
  one = e;
  only = λ u v a b q. record { only = inl q };
  within = λ u a. a;
  onto = λ w a. (w, a, refl);
}

-- ---- one equation more

module _ (source : List TableNames) (sources : List Text) (vars : List (List ℕ)) (s : WideAliases source sources vars) where
  pub fits_cell : (c : CellRef) → CellFits source sources c → AliasHasCell vars c.alias (column_named source (table_of_alias source sources c.alias) c.column)
  fits_cell c f =
      let w = s.wide c.alias f.alias in
      let k = column_within source (table_of_alias source sources c.alias) c.column f.column in
      record { row = rw s.many f.alias; cell = rw w k }

pub joined_variables : (source : List TableNames) (sources : List Text) (equal : List Equal) (e : Equal) (old new : List (List ℕ)) (n m : ℕ) → Each (equal ++ e ∷ []) (λ (q : Equal). CellFits source sources q.left × CellFits source sources q.right)
    → AreVariables source sources equal old n → IsUnified (variable_of source sources old e.left) (variable_of source sources old e.right) old new n m → AreVariables source sources (equal ++ e ∷ []) new m
joined_variables source sources equal e old new n m fit v j = record {
  shape = record { many = many ∙ v.shape.many; wide = λ a h. ap length (row_is a (rw v.shape.many h)) ∙ (length-map (alias_variables old a) j.by ∙ v.shape.wide a h) };
  below_n = λ a c h. let k = cell_back a c h in subst (λ x. x < m) (sym (at a c k)) (j.within (alias_variable old a c) (v.below_n a c k));
  all = λ w h.
      let o = j.onto w h in
      let x = v.all o.0 o.1 in
      record { alias = x.alias; column = x.column; is_cell = cell_forth x.alias x.column x.is_cell; is = at x.alias x.column x.is_cell ∙ (ap j.by x.is ∙ o.2) };
  joined = λ q k. elim (from_append equal k) [
    | inl l ↦ let f = fit q k in of_cell q.left f.0 ∙ (ap j.by (v.joined q l) ∙ sym (of_cell q.right f.1))
    | inr r ↦ last q k r
  ];
  apart = λ rows g a c b d h k q.
      let hh = cell_back a c h in
      let kk = cell_back b d k in
      let before : EqualCellsAgree source sources equal rows = λ p i. g p (in_left (e ∷ []) i) in
      let one = g e (in_right equal (here refl)) in
      let f = fit e (in_right equal (here refl)) in
      let le = fits_cell source sources old v.shape e.left f.0 in
      let ri = fits_cell source sources old v.shape e.right f.1 in
      let meet = j.only (alias_variable old a c) (alias_variable old b d) (v.below_n a c hh) (v.below_n b d kk) (sym (at a c hh) ∙ (q ∙ at b d kk)) in
      elim (meet.only) [
        | inl same ↦ v.apart rows before a c b d hh kk same
        | inr o ↦ elim o [
          | inl p ↦ v.apart rows before a c _ _ hh le p.0 ∙ (one ∙ v.apart rows before _ _ b d ri kk (sym p.1))
          | inr p ↦ v.apart rows before a c _ _ hh ri p.0 ∙ (sym one ∙ v.apart rows before _ _ b d le kk (sym p.1))
        ]
      ];
  few = subst (λ x. x < 2 ^ 32) (sym counted) v.few;
}
  where
    many : length new ≡ length old
    many = ap length j.is ∙ length-map old (map j.by)

    row_is : (a : ℕ) → a < length old → alias_variables new a ≡ map j.by (alias_variables old a)
    row_is a h = ap (λ (l : List (List ℕ)). alias_variables l a) j.is ∙ get_or-map (map j.by) old a [] [] h

    cell_back : (a c : ℕ) → AliasHasCell new a c → AliasHasCell old a c
    cell_back a c h =
        let r : a < length old = rw (← many) h.row in
        record { row = r; cell = rw (row_is a r, length-map (alias_variables old a) j.by) at h.cell }

    cell_forth : (a c : ℕ) → AliasHasCell old a c → AliasHasCell new a c
    cell_forth a c h = record { row = rw many h.row; cell = rw (row_is a h.row, length-map (alias_variables old a) j.by) h.cell }

    at : (a c : ℕ) → AliasHasCell old a c → alias_variable new a c ≡ j.by (alias_variable old a c)
    at a c h = ap (λ (r : List ℕ). slice_index r c) (row_is a h.row) ∙ get_or-map j.by (alias_variables old a) c 0 0 h.cell

    of_cell : (c : CellRef) → CellFits source sources c → variable_of source sources new c ≡ j.by (variable_of source sources old c)
    of_cell c f = at c.alias _ (fits_cell source sources old v.shape c f)

    last : (q : Equal) → q ∈ (equal ++ e ∷ []) → q ∈ (e ∷ []) → variable_of source sources new q.left ≡ variable_of source sources new q.right
    last q k (here p) = let f = fit q k in subst (λ (z : Equal). CellFits source sources z.left × CellFits source sources z.right → variable_of source sources new z.left ≡ variable_of source sources new z.right) p (λ x. of_cell e.left x.0 ∙ (j.one ∙ sym (of_cell e.right x.1))) f
    last q k (there p) = elim p [ ]

    counted : cell_count new ≡ cell_count old
    counted =
        ap (total (λ a. length (alias_variables new a))) many
        ∙ total_same (λ a. length (alias_variables new a)) (λ a. length (alias_variables old a)) (length old) (λ a h. ap length (row_is a h) ∙ length-map (alias_variables old a) j.by)

-- ---- in loops

pub separate_step : (source : List TableNames) (sources : List Text) (i : ℕ) (name : Text) (vars new : List (List ℕ)) (row : List ℕ) (n w : ℕ) → i < length sources → name ≡ get_or sources i name
    → SeparateVariables source (take i sources) vars n → w ≡ width_named source name → row ≡ range_with_len n w → new ≡ vars ++ row ∷ [] → SeparateVariables source (take (i + 1) sources) new (n + w)
separate_step source sources i name vars new row n w h e s k r a =
    let all : take (i + 1) sources ≡ take i sources ++ name ∷ [] = take_more sources i name h ∙ ap (λ z. take i sources ++ z ∷ []) (sym e) in
    rw (all, a, r) (separate_more source (take i sources) vars n w name s k)

pub separate_all : (source : List TableNames) (sources : List Text) (i : ℕ) (vars : List (List ℕ)) (n : ℕ) → length sources ≤ i → SeparateVariables source (take i sources) vars n → SeparateVariables source sources vars n
separate_all source sources i vars n h s = rw (← take_all i sources h) s

pub variables_step : (source : List TableNames) (sources : List Text) (equal : List Equal) (i : ℕ) (e : Equal) (old new : List (List ℕ)) (n m x y : ℕ) → Each equal (λ (q : Equal). CellFits source sources q.left × CellFits source sources q.right)
    → i < length equal → e ≡ get_or equal i e → x ≡ variable_of source sources old e.left → y ≡ variable_of source sources old e.right
    → AreVariables source sources (take i equal) old n → IsUnified x y old new n m → AreVariables source sources (take (i + 1) equal) new m
variables_step source sources equal i e old new n m x y fit h is xe ye v j =
    let all : take (i + 1) equal ≡ take i equal ++ e ∷ [] = take_more equal i e h ∙ ap (λ z. take i equal ++ z ∷ []) (sym is) in
    rw all (joined_variables source sources (take i equal) e old new n m (λ q k. fit q (inside q (rw all k))) v (rw (← xe, ← ye) j))
  where
    inside : (q : Equal) → q ∈ take (i + 1) equal → q ∈ equal
    inside q k = subst (λ (z : List Equal). q ∈ z) (take-append-drop (i + 1) equal) (in_left (drop (i + 1) equal) k)

pub variables_all : (source : List TableNames) (sources : List Text) (equal : List Equal) (i : ℕ) (vars : List (List ℕ)) (n : ℕ) → length equal ≤ i → AreVariables source sources (take i equal) vars n → AreVariables source sources equal vars n
variables_all source sources equal i vars n h v = rw (← take_all i equal h) v

-- the variable of a cell of the equal cells is one
pub variable_low : (source : List TableNames) (sources : List Text) (equal : List Equal) (vars : List (List ℕ)) (n x : ℕ) (c : CellRef) → AreVariables source sources equal vars n → CellFits source sources c → x ≡ variable_of source sources vars c → x < n
variable_low source sources equal vars n x c v f e = rw e (v.below_n c.alias _ (fits_cell source sources vars v.shape c f))

-- a cell that fits has its column
pub cell_bound : (source : List TableNames) (sources : List Text) (rows : List (List ℕ)) (cell : CellRef) (name : Text) (row : List ℕ) (column : ℕ) → WideAliases source sources rows → CellFits source sources cell
    → name ≡ get_or sources cell.alias name → row ≡ get_or rows cell.alias row → column ≡ column_named source (table_named source name) cell.column → column < length row
cell_bound source sources rows cell name row column s f n r e =
    let k = fits_cell source sources rows s cell f in
    let named : name ≡ slice_index_or sources cell.alias [] = n ∙ get_or_default sources cell.alias name [] f.alias in
    let rowed : row ≡ alias_variables rows cell.alias = r ∙ get_or_default rows cell.alias row [] k.row in
    let same : column ≡ column_named source (table_of_alias source sources cell.alias) cell.column = e ∙ ap (λ z. column_named source (table_named source z) cell.column) named in
    let c = k.cell in
    rw (rowed, same) c
