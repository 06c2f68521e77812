-- Least variables.
use Rattle.std.proofs.Common.{◌≡◌, ◌∙◌, ℕ, ◌+◌, ◌<◌, ◌≤◌, List, [], ◌∷◌, ◌++◌, inl, inr, sym, ap, subst, arith, length, get_or, take, append_assoc}
use Rattle.std.specs.Prelude.{Option, None, Some}
use Rattle.std.proofs.lemmas.List.{take_more, take_all, append-nil}
use Rattle.std.proofs.lemmas.Grind.{flat_map-append}
use Rattle.dx_base.specs.Members.{◌∈◌, here, there}
use Rattle.dx_base.proofs.Members.{from_append, in_left, in_right}
use Rattle.dx_model.specs.declared.rules.Atom.{Atom}
use Rattle.dx_model.specs.declared.rules.Cell.{Cell}
use Rattle.dx_model.specs.declared.rules.Cell.TheVariants.{Var}
use Rattle.dx_model.specs.Rules.{cells_of}
use Rattle.dx_holds.specs.Least.{IsLeast}

last_is : {X : Type 0} (x y : X) → x ∈ (y ∷ []) → y ≡ x
last_is x y (here e) = e
last_is x y (there m) = elim m [ ]

-- a cell more, in which no variable counts
pub least_stays : (cells : List Cell) (c : Cell) (n : ℕ) (o : Option ℕ) → ((x : ℕ) → c ≡ Var x → x < n) → IsLeast cells n o → IsLeast (cells ++ c ∷ []) n o
least_stays cells c n None low h = λ x m. elim (from_append cells m) [ inl l ↦ h x l | inr r ↦ low x (last_is (Var x) c r) ]
least_stays cells c n (Some y) low h = (h.0, in_left (c ∷ []) h.1, λ x m b. elim (from_append cells m) [ inl l ↦ h.2 x l b | inr r ↦ absurd (let k = low x (last_is (Var x) c r) in omega (arith, k, b)) ])

pub same_var : (x y : ℕ) → Var x ≡ Var y → x ≡ y
same_var x y e = cc e

-- a variable more
pub least_kept : (cells : List Cell) (c : Cell) (n y v : ℕ) → c ≡ Var v → y ≤ v → IsLeast cells n (Some y) → IsLeast (cells ++ c ∷ []) n (Some y)
least_kept cells c n y v e k h = (h.0, in_left (c ∷ []) h.1, λ x m b. elim (from_append cells m) [ inl l ↦ h.2 x l b | inr r ↦ let d = same_var v x (sym e ∙ last_is (Var x) c r) in omega (arith, d, k) ])

pub least_first : (cells : List Cell) (c : Cell) (n v : ℕ) → c ≡ Var v → n ≤ v → IsLeast cells n None → IsLeast (cells ++ c ∷ []) n (Some v)
least_first cells c n v e k h = (k, in_right cells (here e), λ x m b. elim (from_append cells m) [ inl l ↦ absurd (let q = h x l in omega (arith, q, b)) | inr r ↦ let d = same_var v x (sym e ∙ last_is (Var x) c r) in omega (arith, d) ])

pub least_lower : (cells : List Cell) (c : Cell) (n y v : ℕ) → c ≡ Var v → n ≤ v → v ≤ y → IsLeast cells n (Some y) → IsLeast (cells ++ c ∷ []) n (Some v)
least_lower cells c n y v e k g h = (k, in_right cells (here e), λ x m b. elim (from_append cells m) [ inl l ↦ let q = h.2 x l b in omega (arith, q, g) | inr r ↦ let d = same_var v x (sym e ∙ last_is (Var x) c r) in omega (arith, d) ])

-- one cell more of a list
pub least_more : (before cells : List Cell) (i n : ℕ) (c : Cell) (o : Option ℕ) → i < length cells → c ≡ get_or cells i c → IsLeast ((before ++ take i cells) ++ c ∷ []) n o → IsLeast (before ++ take (i + 1) cells) n o
least_more before cells i n c o h e m =
    let s : (before ++ take i cells) ++ c ∷ [] ≡ before ++ take (i + 1) cells = append_assoc before (take i cells) (c ∷ []) ∙ ap (λ (l : List Cell). before ++ l) (ap (λ (x : Cell). take i cells ++ x ∷ []) e ∙ sym (take_more cells i c h)) in
    subst (λ (l : List Cell). IsLeast l n o) s m

pub least_start : (before cells : List Cell) (n : ℕ) (o : Option ℕ) → IsLeast before n o → IsLeast (before ++ take 0 cells) n o
least_start before cells n o m = rw (append-nil before) m

pub least_all : (before cells : List Cell) (i n : ℕ) (o : Option ℕ) → length cells ≤ i → IsLeast (before ++ take i cells) n o → IsLeast (before ++ cells) n o
least_all before cells i n o h m = rw (take_all i cells h) at m

-- one atom more
pub least_atom : (atoms : List Atom) (i n : ℕ) (a : Atom) (cells : List Cell) (o : Option ℕ) → i < length atoms → a ≡ get_or atoms i a → cells ≡ a.cells → IsLeast (cells_of (take i atoms) ++ cells) n o → IsLeast (cells_of (take (i + 1) atoms)) n o
least_atom atoms i n a cells o h e d m =
    let s : cells_of (take (i + 1) atoms) ≡ cells_of (take i atoms) ++ a.cells =
    ap cells_of (take_more atoms i a h ∙ ap (λ (x : Atom). take i atoms ++ x ∷ []) (sym e)) ∙ (flat_map-append (λ (x : Atom). x.cells) (take i atoms) (a ∷ []) ∙ ap (λ (l : List Cell). cells_of (take i atoms) ++ l) (append-nil a.cells)) in
    rw s (rw d at m)

pub least_whole : (atoms : List Atom) (i n : ℕ) (o : Option ℕ) → length atoms ≤ i → IsLeast (cells_of (take i atoms)) n o → IsLeast (cells_of atoms) n o
least_whole atoms i n o h m = rw (take_all i atoms h) at m

pub least_none : (n : ℕ) → IsLeast [] n None
least_none n x m = elim m [ ]
