-- What lies below a state that the search has gone through.
use Rattle.std.proofs.Common.{◌≡◌, ℕ, zero, suc, ◌+◌, ◌-◌, ◌<◌, ◌≤◌, Bool, true, false, cond, List, [], ◌∷◌, ◌++◌, ◌⊎◌, inl, inr, refl, sym, ◌∙◌, ap, subst, length, take, drop, get_or, arith, append_assoc, length-drop}
use Rattle.std.specs.Prelude.{map, flat_map, eqb, nat_lt, ◌&&◌, ◌||◌}
use Rattle.std.specs.List.{filter, list_any}
use Rattle.std.specs.Cmp.{both_ways}
use Rattle.std.proofs.lemmas.Bool.{cases_Bool, cases_order, eqb-true, or_cases, and_parts, or_right, or_left}
use Rattle.std.proofs.lemmas.List.{length-take, append-nil, take_more, take_all}
use Rattle.dx_model.specs.declared.rules.Cell.{Cell}
use Rattle.dx_model.specs.declared.rules.Cell.TheVariants.{Var, Ex, Lit}
use Rattle.dx_model.specs.declared.rules.Atom.{Atom}
use Rattle.dx_model.specs.declared.rules.Rule.{Rule}
use Rattle.dx_model.specs.declared.covers.CellMap.{CellMap}
use Rattle.dx_model.specs.declared.covers.Meeting.{Meeting}
use Rattle.dx_base.specs.Members.{◌∈◌, here, there, Each}
use Rattle.dx_base.proofs.Members.{in_left, in_right, from_append}
use Rattle.dx_base.proofs.Tests.{to_all, from_filter, from_all}
use Rattle.dx_model.specs.Rules.{exported}
use Rattle.dx_model.specs.Covers.{meet, meetings, choices, first_met, may_meet, same_cell, same_cells, is_cell_map, map_of}
use Rattle.dx_model.proofs.Carrying.{same_cell-true, same_cell-refl}
use Rattle.dx_cover.specs.declared.states.State.{State}
use Rattle.dx_cover.specs.declared.states.Search.{Search}
use Rattle.dx_cover.specs.declared.search.Outlook.{Outlook}
use Rattle.dx_cover.specs.Search.{branch, found_after, fresh, maps_under, agrees_with_one}
use Rattle.dx_cover.specs.States.{AddsNothing, DeadIsEnough, GoneAddsNothing, IsDead, IsSearch, IsTrueFor, NothingStays, SameAddNothing, StateIsEnough, counted_meetings, counts, exported_images, last, maps_below, remembered, same_meetings, same_state, stands_in, state_of}
use Rattle.dx_cover.proofs.Searching.{maps_by_choice, same_cells-refl, first_kept, map_same, fresh_append, parts_follow, seen_gives_nothing}
use Rattle.dx_cover.proofs.Extending.{flat_append, full, nothing_new}

-- ---- equal states

abbrev meeting : Cell → Cell → Meeting
meeting c e = record { cell = c; met = e }

abbrev state : ℕ → List Meeting → State
state n ms = record { left = n; meetings = ms }

same_meeting : (m n : Meeting) → m.cell ≡ n.cell → m.met ≡ n.met → m ≡ n
same_meeting m n a b = ap (λ z. meeting z m.met) a ∙ ap (meeting n.cell) b

same_meetings-true : (ms ns : List Meeting) → same_meetings ms ns ≡ true → ms ≡ ns
same_meetings-true [] [] h = refl
same_meetings-true [] (n ∷ ns) h = cc
same_meetings-true (m ∷ ms) [] h = cc
same_meetings-true (m ∷ ms) (n ∷ ns) h =
    let w = and_parts (same_cell m.cell n.cell && same_cell m.met n.met) (same_meetings ms ns) h in
    let v = and_parts (same_cell m.cell n.cell) (same_cell m.met n.met) w.0 in
    let a : m ≡ n = same_meeting m n (same_cell-true m.cell n.cell v.0) (same_cell-true m.met n.met v.1) in
    let b : ms ≡ ns = same_meetings-true ms ns w.1 in
    cc

same_state-true : (s t : State) → same_state s t ≡ true → s ≡ t
same_state-true s t h =
    let w = and_parts (eqb s.left t.left) (same_meetings s.meetings t.meetings) h in
    ap (λ z. state z s.meetings) (eqb-true s.left t.left w.0) ∙ ap (state t.left) (same_meetings-true s.meetings t.meetings w.1)

known : (s : State) (gone : List State) → list_any (same_state s) gone ≡ true → s ∈ gone
known s [] h = absurd (cc)
known s (t ∷ gone) h = elim (or_cases (same_state s t) (list_any (same_state s) gone) h) [
  | inl e ↦ here (sym (same_state-true s t e))
  | inr r ↦ there (known s gone r)
]

-- ---- the meetings that count

stands_counts : (exported : Bool) (rest : List Atom) (c : Cell) → stands_in rest c ≡ true → counts exported rest c ≡ true
stands_counts exported rest (Var x) h = or_right exported (stands_in rest (Var x)) h
stands_counts exported rest (Ex v) h = h
stands_counts exported rest (Lit t) h = h

in_meet : (cs es : List Cell) (m : Meeting) → m ∈ meet cs es → list_any (same_cell m.cell) cs ≡ true
in_meet [] es m k = elim k [ ]
in_meet (c ∷ cs) [] m k = elim k [ ]
in_meet (c ∷ cs) (e ∷ es) m (here d) =
    let t : same_cell m.cell c ≡ true = subst (λ z. same_cell z c ≡ true) (ap (λ (z : Meeting). z.cell) d) (same_cell-refl c) in
    or_left (same_cell m.cell c) (list_any (same_cell m.cell) cs) t
in_meet (c ∷ cs) (e ∷ es) m (there l) = or_right (same_cell m.cell c) (list_any (same_cell m.cell) cs) (in_meet cs es m l)

-- the cells that meet others in the rest stand in the rest
in_rest : (rest bs : List Atom) (m : Meeting) → m ∈ meetings rest bs → stands_in rest m.cell ≡ true
in_rest [] bs m k = elim k [ ]
in_rest (a ∷ rest) [] m k = elim k [ ]
in_rest (a ∷ rest) (b ∷ bs) m k = elim (from_append (meet a.cells b.cells) k) [
  | inl l ↦ or_left (list_any (same_cell m.cell) a.cells) (stands_in rest m.cell) (in_meet a.cells b.cells m l)
  | inr r ↦ or_right (list_any (same_cell m.cell) a.cells) (stands_in rest m.cell) (in_rest rest bs m r)
]

-- p says of which cells the meetings are kept: those that meet others later are among them
module _ (p : Cell → Bool) where
  first_left : (c : Cell) → p c ≡ true → (ms ns : List Meeting)
      → first_met c (filter (λ (m : Meeting). p m.cell) ms ++ ns) ≡ first_met c (ms ++ ns)
  first_left c h [] ns = refl
  first_left c h (m ∷ ms) ns =
      let r = first_left c h ms ns in
      elim (cases_Bool (p m.cell)) [
        | inl t ↦ rw t (ap (λ z. cond (same_cell c m.cell) m.met z) r)
        | inr f ↦ rw f (r ∙ sym (other f))
      ]
    where
      other : p m.cell ≡ false → first_met c ((m ∷ ms) ++ ns) ≡ first_met c (ms ++ ns)
      other f = elim (cases_Bool (same_cell c m.cell)) [
        | inl t ↦ let e : p m.cell ≡ true = subst (λ z. p z ≡ true) (same_cell-true c m.cell t) h in absurd (cc)
        | inr g ↦ rw g refl
      ]

  map_left : (bound ns : List Meeting) → is_cell_map bound ≡ true → ((m : Meeting) → m ∈ ns → p m.cell ≡ true)
      → is_cell_map (filter (λ (m : Meeting). p m.cell) bound ++ ns) ≡ is_cell_map (bound ++ ns)
  map_left bound ns h q = both_ways (is_cell_map (few ++ ns)) (is_cell_map (bound ++ ns)) more less
    where
      few : List Meeting
      few = filter (λ (m : Meeting). p m.cell) bound

      fits : List Meeting → Meeting → Bool
      fits ms m = same_cell (first_met m.cell ms) m.met && may_meet m.cell m.met

      move : (ms os : List Meeting) (m : Meeting) → first_met m.cell ms ≡ first_met m.cell os → fits ms m ≡ true → fits os m ≡ true
      move ms os m e t = subst (λ z. (same_cell z m.met && may_meet m.cell m.met) ≡ true) e t

      first : (m : Meeting) → p m.cell ≡ true → first_met m.cell (few ++ ns) ≡ first_met m.cell (bound ++ ns)
      first m t = first_left m.cell t bound ns

      more : is_cell_map (few ++ ns) ≡ true → is_cell_map (bound ++ ns) ≡ true
      more t = to_all (fits (bound ++ ns)) (bound ++ ns) (λ m k. elim (from_append bound k) [
        | inl l ↦ move bound (bound ++ ns) m (sym (first_kept m.cell bound ns m l refl)) (from_all (fits bound) bound h l)
        | inr r ↦ move (few ++ ns) (bound ++ ns) m (first m (q m r)) (from_all (fits (few ++ ns)) (few ++ ns) t (in_right few r))
      ])

      less : is_cell_map (bound ++ ns) ≡ true → is_cell_map (few ++ ns) ≡ true
      less t = to_all (fits (few ++ ns)) (few ++ ns) (λ m k. elim (from_append few k) [
        | inl l ↦
            let w = from_filter (λ (m : Meeting). p m.cell) bound l in
            move (bound ++ ns) (few ++ ns) m (sym (first m w.1)) (from_all (fits (bound ++ ns)) (bound ++ ns) t (in_left ns w.0))
        | inr r ↦ move (bound ++ ns) (few ++ ns) m (sym (first m (q m r))) (from_all (fits (bound ++ ns)) (bound ++ ns) t (in_right bound r))
      ])

one_choice : (p : List Meeting → Bool) (f : List Meeting → CellMap) (ms ns : List Meeting) (xs ys : List (List Meeting)) → p ms ≡ p ns
    → (f ms).exported ≡ (f ns).exported
    → exported_images (map f (filter p xs)) ≡ exported_images (map f (filter p ys))
    → exported_images (map f (filter p (ms ∷ xs))) ≡ exported_images (map f (filter p (ns ∷ ys)))
one_choice p f ms ns xs ys e h r = elim (cases_Bool (p ns)) [
  | inl t ↦ let s : p ms ≡ true = e ∙ t in rw (s, t) (cons (f ms).exported (f ns).exported (exported_images (map f (filter p xs)))
      (exported_images (map f (filter p ys))) h r)
  | inr g ↦ let s : p ms ≡ false = e ∙ g in rw (s, g) r
]
  where
    cons : (a b : List Cell) (xs ys : List (List Cell)) → a ≡ b → xs ≡ ys → (a ∷ xs) ≡ (b ∷ ys)
    cons a b xs ys e h = cc

-- the cells that meet others later count
later_counts : (exported : Bool) (rest bs : List Atom) (m : Meeting) → m ∈ meetings rest bs → counts exported rest m.cell ≡ true
later_counts exported rest bs m k = stands_counts exported rest m.cell (in_rest rest bs m k)

pub state_is_enough : StateIsEnough
state_is_enough i bound rest others h = go (choices rest others)
  where
    go : (cs : List (List Atom)) → exported_images (map (map_of i)
        (filter is_cell_map (map (λ bs. counted_meetings true rest bound ++ meetings rest bs) cs)))
        ≡ exported_images (map (map_of i) (filter is_cell_map (map (λ bs. bound ++ meetings rest bs) cs)))
    go [] = refl
    go (c ∷ cs) =
        one_choice is_cell_map (map_of i) (counted_meetings true rest bound ++ meetings rest c) (bound ++ meetings rest c)
        (map (λ bs. counted_meetings true rest bound ++ meetings rest bs) cs) (map (λ bs. bound ++ meetings rest bs) cs)
        (map_left (counts true rest) bound (meetings rest c) h (later_counts true rest c))
        (map_same (λ x. first_met (Var x) (counted_meetings true rest bound ++ meetings rest c))
        (λ x. first_met (Var x) (bound ++ meetings rest c)) (exported i)
        (λ x k. first_left (counts true rest) (Var x) refl bound (meetings rest c)))
        (go cs)

-- where one list of choices has no cell map, a list that is one alike has none
none_alike : (p : List Meeting → Bool) (f : List Meeting → CellMap) (g h : List Atom → List Meeting) (cs : List (List Atom))
    → ((c : List Atom) → p (g c) ≡ p (h c))
    → map f (filter p (map g cs)) ≡ [] → map f (filter p (map h cs)) ≡ []
none_alike p f g h [] e n = refl
none_alike p f g h (c ∷ cs) e n = elim (cases_Bool (p (g c))) [
  | inl t ↦ let d : f (g c) ∷ map f (filter p (map g cs)) ≡ [] = rw t at n in absurd (cc)
  | inr q ↦ let r : p (h c) ≡ false = sym (e c) ∙ q in rw r (none_alike p f g h cs e (rw q at n))
]

pub dead_is_enough : DeadIsEnough
dead_is_enough i bound rest others h =
    let e = λ (c : List Atom). map_left (counts false rest) bound (meetings rest c) h (later_counts false rest c) in (
      none_alike is_cell_map (map_of i) (λ bs. counted_meetings false rest bound ++ meetings rest bs) (λ bs. bound ++ meetings rest bs)
          (choices rest others) e,
      none_alike is_cell_map (map_of i) (λ bs. bound ++ meetings rest bs) (λ bs. counted_meetings false rest bound ++ meetings rest bs)
          (choices rest others) (λ c. sym (e c)),
    )

-- ---- what adds nothing

seen_more : (found g : List CellMap) (k : CellMap) → agrees_with_one found k ≡ true → agrees_with_one (found ++ g) k ≡ true
seen_more [] g k h = absurd (cc)
seen_more (x ∷ found) g k h = elim (or_cases (same_cells x.exported k.exported) (agrees_with_one found k) h) [
  | inl t ↦ or_left (same_cells x.exported k.exported) (agrees_with_one (found ++ g) k) t
  | inr t ↦ or_right (same_cells x.exported k.exported) (agrees_with_one (found ++ g) k) (seen_more found g k t)
]

seen_here : (found g : List CellMap) (x k : CellMap) → x ≡ k → agrees_with_one (found ++ x ∷ g) k ≡ true
seen_here [] g x k e = or_left (same_cells x.exported k.exported) (agrees_with_one g k)
    (subst (λ (z : CellMap). same_cells x.exported z.exported ≡ true) e (same_cells-refl x.exported))
seen_here (y ∷ found) g x k e = or_right (same_cells y.exported k.exported) (agrees_with_one (found ++ x ∷ g) k) (seen_here found g x k e)

seen_take : (n : ℕ) (found g : List CellMap) (k : CellMap) → length found ≤ n → agrees_with_one found k ≡ true → agrees_with_one (take n (found ++ g)) k ≡ true
seen_take n [] g k l h = absurd (cc)
seen_take zero (x ∷ found) g k l h = absurd (omega arith)
seen_take (suc n) (x ∷ found) g k l h = elim (or_cases (same_cells x.exported k.exported) (agrees_with_one found k) h) [
  | inl t ↦ or_left (same_cells x.exported k.exported) (agrees_with_one (take n (found ++ g)) k) t
  | inr t ↦ or_right (same_cells x.exported k.exported) (agrees_with_one (take n (found ++ g)) k) (seen_take n found g k (omega arith) t)
]

all_seen : (found ks : List CellMap) → fresh found ks ≡ [] → (k : CellMap) → k ∈ ks → agrees_with_one found k ≡ true
all_seen found [] h k m = elim m [ ]
all_seen found (x ∷ ks) h k m = elim (cases_Bool (agrees_with_one found x)) [
  | inl t ↦ go t m (all_seen found ks (rw t at h) k)
  | inr f ↦ let e : x ∷ fresh (found ++ x ∷ []) ks ≡ [] = rw f at h in absurd (cc)
]
  where
    go : agrees_with_one found x ≡ true → k ∈ (x ∷ ks) → (k ∈ ks → agrees_with_one found k ≡ true) → agrees_with_one found k ≡ true
    go t (here e) r = subst (λ z. agrees_with_one found z ≡ true) e t
    go t (there n) r = r n

seen_after : (found ks : List CellMap) (k : CellMap) → k ∈ ks → agrees_with_one (found ++ fresh found ks) k ≡ true
seen_after found [] k m = elim m [ ]
seen_after found (x ∷ ks) k m = elim (cases_Bool (agrees_with_one found x)) [
  | inl t ↦ rw t (old t m (seen_after found ks k))
  | inr f ↦ rw f (new m (seen_after (found ++ x ∷ []) ks k))
]
  where
    old : agrees_with_one found x ≡ true → k ∈ (x ∷ ks) → (k ∈ ks → agrees_with_one (found ++ fresh found ks) k ≡ true) → agrees_with_one (found ++ fresh found ks) k ≡ true
    old t (here e) r = seen_more found (fresh found ks) k (subst (λ z. agrees_with_one found z ≡ true) e t)
    old t (there n) r = r n

    new : k ∈ (x ∷ ks) → (k ∈ ks → agrees_with_one ((found ++ x ∷ []) ++ fresh (found ++ x ∷ []) ks) k ≡ true)
        → agrees_with_one (found ++ x ∷ fresh (found ++ x ∷ []) ks) k ≡ true
    new (here e) r = seen_here found (fresh (found ++ x ∷ []) ks) x k e
    new (there n) r = subst (λ z. agrees_with_one z k ≡ true) (append_assoc found (x ∷ []) (fresh (found ++ x ∷ []) ks)) (r n)

pub gone_adds_nothing : GoneAddsNothing
gone_adds_nothing found ks =
    let none : fresh (found ++ fresh found ks) ks ≡ [] = seen_gives_nothing (found ++ fresh found ks) ks (seen_after found ks) in
    parts_follow found ks ks
    ∙ ap (λ z. take 16 (found ++ z)) (fresh_append found ks ks ∙ (ap (λ z. fresh found ks ++ z) none ∙ append-nil (fresh found ks)))

too_short : (n : ℕ) (xs ys : List CellMap) → length xs < n → take n (xs ++ ys) ≡ xs → ys ≡ []
too_short n xs [] l h = refl
too_short zero xs (y ∷ ys) l h = absurd (omega arith)
too_short (suc n) [] (y ∷ ys) l h = absurd (cc)
too_short (suc n) (x ∷ xs) (y ∷ ys) l h = let t : take n (xs ++ y ∷ ys) ≡ xs = cc in too_short n xs (y ∷ ys) (omega arith) t

nothing_or_full : (found ks : List CellMap) → length found ≤ 16 → found_after found ks ≡ found → (length found ≡ 16) ⊎ (fresh found ks ≡ [])
nothing_or_full found ks l h = elim (cases_order 16 (length found)) [
  | inl e ↦ inl (omega arith)
  | inr o ↦ elim o [ inl m ↦ inl (omega arith) | inr m ↦ inr (too_short 16 found (fresh found ks) m h) ]
]

same_fresh : (found ks ls : List CellMap) → exported_images ks ≡ exported_images ls → fresh found ks ≡ [] → fresh found ls ≡ []
same_fresh found ks [] e h = refl
same_fresh found [] (l ∷ ls) e h = absurd (cc)
same_fresh found (k ∷ ks) (l ∷ ls) e h =
    let a : k.exported ≡ l.exported = cc in
    let b : exported_images ks ≡ exported_images ls = cc in
    elim (cases_Bool (agrees_with_one found k)) [
      | inl t ↦
          let s : agrees_with_one found l ≡ true = subst (λ z. list_any (λ (m : CellMap). same_cells m.exported z) found ≡ true) a t in
          rw s (same_fresh found ks ls b (rw t at h))
      | inr f ↦ let d : k ∷ fresh (found ++ k ∷ []) ks ≡ [] = rw f at h in absurd (cc)
    ]

pub nothing_stays : NothingStays
nothing_stays found ks more l h = elim (nothing_or_full found ks l h) [
  | inl e ↦ let q : found_after found more ≡ found = sym (full found more e) in ap (λ z. found_after z ks) q ∙ (h ∙ sym q)
  | inr n ↦
      sym (nothing_new (found_after found more) ks (omega (arith, length-take 16 (found ++ fresh found more)))
      (seen_gives_nothing (found_after found more) ks (λ k m. seen_take 16 found (fresh found more) k l (all_seen found ks n k m))))
]

pub same_add_nothing : SameAddNothing
same_add_nothing found ks ls l e h = elim (nothing_or_full found ks l h) [
  | inl f ↦ sym (full found ls f)
  | inr n ↦ sym (nothing_new found ls l (same_fresh found ks ls e n))
]

-- ---- the memory

pub more_found : (i : Rule) (others : List Atom) (old new : Search) (more : List CellMap) → IsSearch i others old
    → new.found.items ≡ found_after old.found.items more
    → new.gone.items ≡ old.gone.items → new.dead.items ≡ old.dead.items → IsSearch i others new
more_found i others old new more s e g d = record {
  few = rw e (omega (arith, length-take 16 (old.found.items ++ fresh old.found.items more)));
  gone = rw (e, g) (λ t m. nothing_stays old.found.items (maps_below i others t) more s.few (s.gone t m));
  dead = rw d s.dead;
}

each_remembered : (P : State → Type 0) (gone : List State) (s : State) → Each gone P → P s → Each (remembered gone s) P
each_remembered P gone s e h = elim (cases_Bool (nat_lt (length gone) 4096)) [
  | inl t ↦ rw t (λ t m. elim (from_append gone m) [ inl l ↦ e t l | inr r ↦ one t r ])
  | inr f ↦ rw f e
]
  where
    one : (t : State) → t ∈ (s ∷ []) → P t
    one t (here d) = subst P d h
    one t (there n) = elim n [ ]

pub gone_nothing : (i : Rule) (others : List Atom) (s : Search) (bound : List Meeting) (rest : List Atom) → IsSearch i others s
    → is_cell_map bound ≡ true
    → rest ≡ last (length rest) i.conclusion → list_any (same_state (state_of true rest bound)) s.gone.items ≡ true
    → found_after s.found.items (maps_under i bound rest others) ≡ s.found.items
gone_nothing i others s bound rest h c r k =
    let found = s.found.items in
    let e : found_after found (maps_under i (counted_meetings true rest bound) (last (length rest) i.conclusion) others) ≡ found =
    h.gone (state_of true rest bound) (known (state_of true rest bound) s.gone.items k) in
    same_add_nothing found (maps_under i (counted_meetings true rest bound) rest others) (maps_under i bound rest others) h.few
    (state_is_enough i bound rest others c)
    (subst (λ z. found_after found (maps_under i (counted_meetings true rest bound) z others) ≡ found) (sym r) e)

pub dead_none : (i : Rule) (others : List Atom) (s : Search) (bound : List Meeting) (rest : List Atom) → IsSearch i others s
    → is_cell_map bound ≡ true
    → rest ≡ last (length rest) i.conclusion → list_any (same_state (state_of false rest bound)) s.dead.items ≡ true
    → maps_under i bound rest others ≡ []
dead_none i others s bound rest h c r k =
    let e : maps_under i (counted_meetings false rest bound) (last (length rest) i.conclusion) others ≡ [] =
    h.dead (state_of false rest bound) (known (state_of false rest bound) s.dead.items k) in
    (dead_is_enough i bound rest others c).0 (subst (λ z. maps_under i (counted_meetings false rest bound) z others ≡ []) (sym r) e)

gone_now : (i : Rule) (others : List Atom) (start found : List CellMap) (bound : List Meeting) (rest : List Atom) → length found ≤ 16
    → is_cell_map bound ≡ true
    → rest ≡ last (length rest) i.conclusion → found ≡ found_after start (maps_under i bound rest others)
    → AddsNothing i others found (state_of true rest bound)
gone_now i others start found bound rest l c r p =
    let h : found_after found (maps_under i bound rest others) ≡ found =
    ap (λ z. found_after z (maps_under i bound rest others)) p ∙ (gone_adds_nothing start (maps_under i bound rest others) ∙ sym p) in
    subst (λ z. found_after found (maps_under i (counted_meetings true rest bound) z others) ≡ found) r
    (same_add_nothing found (maps_under i bound rest others) (maps_under i (counted_meetings true rest bound) rest others) l
    (sym (state_is_enough i bound rest others c)) h)

dead_now : (i : Rule) (others : List Atom) (bound : List Meeting) (rest : List Atom) → is_cell_map bound ≡ true
    → rest ≡ last (length rest) i.conclusion
    → maps_under i bound rest others ≡ [] → IsDead i others (state_of false rest bound)
dead_now i others bound rest c r n =
    subst (λ z. maps_under i (counted_meetings false rest bound) z others ≡ []) r ((dead_is_enough i bound rest others c).1 n)

-- the search after it has gone through a state
pub gone_through : (i : Rule) (others : List Atom) (start : List CellMap) (bound : List Meeting) (rest : List Atom) (any : Bool)
    (old new : Search) → IsSearch i others old
    → is_cell_map bound ≡ true → rest ≡ last (length rest) i.conclusion
    → old.found.items ≡ found_after start (maps_under i bound rest others) → (any ≡ false → maps_under i bound rest others ≡ [])
    → new.found.items ≡ old.found.items
    → new.gone.items ≡ cond any (remembered old.gone.items (state_of true rest bound)) old.gone.items
    → new.dead.items ≡ cond any old.dead.items (remembered old.dead.items (state_of false rest bound)) → IsSearch i others new
gone_through i others start bound rest any old new h c r p n e g d = record {
  few = rw e h.few;
  gone = rw (e, g) (cond_each (AddsNothing i others old.found.items) any
      (remembered old.gone.items (state_of true rest bound)) old.gone.items
      (λ t. each_remembered (AddsNothing i others old.found.items) old.gone.items (state_of true rest bound) h.gone
      (gone_now i others start old.found.items bound rest h.few c r p)) (λ t. h.gone));
  dead = rw d (cond_each (IsDead i others) any old.dead.items (remembered old.dead.items (state_of false rest bound))
      (λ t. h.dead) (λ t. each_remembered (IsDead i others) old.dead.items (state_of false rest bound) h.dead
      (dead_now i others bound rest c r (n t))));
}
  where
    cond_each : (P : State → Type 0) (b : Bool) (xs ys : List State) → (b ≡ true → Each xs P) → (b ≡ false → Each ys P)
        → Each (cond b xs ys) P
    cond_each P true xs ys p q = p refl
    cond_each P false xs ys p q = q refl

-- what was foretold of the meetings that a slice shows holds of them
pub outlook_is : (k l : Outlook) (i : Rule) (shown bound : List Meeting) (rest others : List Atom) (found : List CellMap) → k ≡ l
    → shown ≡ bound
    → IsTrueFor k i shown rest others found → IsTrueFor l i bound rest others found
outlook_is k l i shown bound rest others found e b h =
    subst (λ z. IsTrueFor l i z rest others found) b (subst (λ z. IsTrueFor z i shown rest others found) e h)

-- where no atom is left, there is one cell map
pub one_map : (i : Rule) (bound : List Meeting) (rest others : List Atom) → length rest ≡ 0 → is_cell_map bound ≡ true
    → maps_under i bound rest others ≡ map_of i bound ∷ []
one_map i bound [] others e c =
    subst (λ z. map (map_of i) (filter is_cell_map (z ∷ [])) ≡ map_of i bound ∷ []) (sym (append-nil bound)) (rw c refl)
one_map i bound (a ∷ rest) others e c = absurd (omega arith)

-- one branch more without a cell map
pub none_more : (f : Atom → List CellMap) (os : List Atom) (i : ℕ) (o : Atom) (before more any : Bool) → i < length os → o ≡ get_or os i o
    → (before ≡ false → flat_map f (take i os) ≡ []) → (more ≡ false → f o ≡ []) → any ≡ (before || more) → any ≡ false
    → flat_map f (take (i + 1) os) ≡ []
none_more f os i o before more any l e p q a n =
    let w = neither before more (sym a ∙ n) in
    let s : f (get_or os i o) ≡ [] = ap f (sym e) ∙ q w.1 in
    ap (flat_map f) (take_more os i o l) ∙ (flat_append f (take i os) (get_or os i o ∷ [])
    ∙ (ap (λ z. z ++ (f (get_or os i o) ++ [])) (p w.0) ∙ ap (λ z. z ++ []) s))
  where
    neither : (a b : Bool) → (a || b) ≡ false → (a ≡ false) × (b ≡ false)
    neither true b h = absurd (cc)
    neither false b h = (refl, h)

pub none_there : (i : Rule) (bound : List Meeting) (a : Atom) (rest others : List Atom) (k : ℕ) → length others ≤ k
    → flat_map (branch i bound a rest others) (take k others) ≡ [] → maps_under i bound (a ∷ rest) others ≡ []
none_there i bound a rest others k l h =
    maps_by_choice i bound a rest others ∙ (ap (flat_map (branch i bound a rest others)) (sym (take_all k others l)) ∙ h)

-- ---- the last atoms

drop_tail : (k : ℕ) (xs : List Atom) (a : Atom) (after : List Atom) → (a ∷ after) ≡ drop k xs → after ≡ drop (suc k) xs
drop_tail zero xs a after e = ap (drop 1) e
drop_tail (suc k) [] a after e = absurd (cc)
drop_tail (suc k) (x ∷ xs) a after e = drop_tail k xs a after e

pub last_after : (a : Atom) (rest after atoms : List Atom) → rest ≡ a ∷ after → rest ≡ last (length rest) atoms
    → after ≡ last (length after) atoms
last_after a rest after atoms e h =
    let k : length rest ≡ suc (length after) = ap length e in
    let n : length rest ≡ length (drop (length atoms - length rest) atoms) = ap length h in
    let m : suc (length atoms - length rest) ≡ length atoms - length after =
    omega (arith, length-drop (length atoms - length rest) atoms) in
    drop_tail (length atoms - length rest) atoms a after (sym e ∙ h) ∙ ap (λ z. drop z atoms) m

pub all_last : (atoms : List Atom) → atoms ≡ last (length atoms) atoms
all_last atoms = let z : 0 ≡ length atoms - length atoms = omega arith in ap (λ k. drop k atoms) z
