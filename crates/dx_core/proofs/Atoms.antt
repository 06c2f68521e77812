-- Atoms of rows, term by term and row by row.
use Rattle.std.proofs.Common.{◌≡◌, ◌∙◌, ℕ, ◌+◌, ◌<◌, ◌≤◌, Bool, true, false, List, [], ◌∷◌, ◌++◌, inl, inr, refl, sym, ap, subst, length, get_or, take}
use Rattle.std.specs.List.{AllZip}
use Rattle.std.proofs.lemmas.Bool.{true≢false}
use Rattle.std.proofs.lemmas.List.{take_all, take_more}
use Rattle.dx_base.specs.Members.{◌∈◌, Each, here, there}
use Rattle.dx_base.proofs.Lists.{zip_push}
use Rattle.dx_base.proofs.Members.{from_append, in_left, in_right}
use Rattle.dx_instance.specs.Shown.{NumberedInstance, PartsFit}
use Rattle.dx_blocks.specs.declared.numbered.At.{At}
use Rattle.dx_blocks.specs.Numbered.{IsRowIn}
use Rattle.dx_solver.specs.declared.atom.Term.{Term}
use Rattle.dx_solver.specs.declared.atom.PatternAtom.{PatternAtom}
use Rattle.dx_solver.specs.Marks.{is_out}
use Rattle.dx_solver.specs.Questions.{FitsAtom}
use Rattle.dx_core.specs.Asking.{AreAtoms, IsAtomOf, IsTermOf}
use Rattle.dx_core.proofs.Asked.{atom_fits}

pub terms_start : (nulls row : List ℕ) (ts : List Term) → ts ≡ [] → AllZip (IsTermOf nulls) (take 0 row) ts
terms_start nulls [] ts e = rw e tt
terms_start nulls (x ∷ row) ts e = rw e tt

pub term_more : (nulls row : List ℕ) (old new : List Term) (i : ℕ) (t : Term) → i < length row → IsTermOf nulls (get_or row i 0) t
    → new ≡ old ++ t ∷ [] → AllZip (IsTermOf nulls) (take i row) old → AllZip (IsTermOf nulls) (take (i + 1) row) new
term_more nulls row old new i t h is e a =
    rw (e, take_more row i 0 h) (zip_push (IsTermOf nulls) (take i row) old (get_or row i 0) t a is)

pub terms_end : (nulls row : List ℕ) (ts : List Term) (i : ℕ) → length row ≤ i → AllZip (IsTermOf nulls) (take i row) ts
    → AllZip (IsTermOf nulls) row ts
terms_end nulls row ts i h a = subst (λ (r : List ℕ). AllZip (IsTermOf nulls) r ts) (take_all i row h) a

-- ---- row by row

pub record AreSoFar (N : NumberedInstance) (nulls : List ℕ) (out : List (List Bool)) (rows : List At) (found : List PatternAtom) : Type 0 where
  pub atoms : AreAtoms N nulls out rows found
  pub fit : Each found (FitsAtom N.tables (length nulls))

pub none_so_far : (N : NumberedInstance) (nulls : List ℕ) (out : List (List Bool)) (rows : List At) (atoms : List PatternAtom) → atoms ≡ []
    → AreSoFar N nulls out (take 0 rows) atoms
none_so_far N nulls out [] atoms e = rw e (record { atoms = record { only = λ a m. elim m [ ]; all = λ r m. elim m [ ] }; fit = λ a m. elim m [ ] })
none_so_far N nulls out (r ∷ rows) atoms e =
    rw e (record { atoms = record { only = λ a m. elim m [ ]; all = λ r m. elim m [ ] }; fit = λ a m. elim m [ ] })

module _ (N : NumberedInstance) (nulls : List ℕ) (out : List (List Bool)) (rows : List At) (i : ℕ) (d : At) (h : i < length rows)
    (old : List PatternAtom) (a : AreSoFar N nulls out (take i rows) old) where
  split : take (i + 1) rows ≡ take i rows ++ get_or rows i d ∷ []
  split = take_more rows i d h

  kept_row : (r : At) → r ∈ take i rows → r ∈ take (i + 1) rows
  kept_row r m = rw split (in_left (get_or rows i d ∷ []) m)

  pub row_skipped : is_out out (get_or rows i d).table (get_or rows i d).place ≡ true → AreSoFar N nulls out (take (i + 1) rows) old
  row_skipped o = record {
    atoms = record {
      only = λ atom m. let w = a.atoms.only atom m in (w.0, kept_row w.0 w.1, w.2, w.3);
      all = λ r m e. elim (from_append (take i rows) (rw split at m)) [ inl l ↦ a.atoms.all r l e | inr l ↦ last r l e ];
    };
    fit = a.fit;
  }
    where
      last : (r : At) → r ∈ (get_or rows i d ∷ []) → is_out out r.table r.place ≡ false
          → (atom : PatternAtom) × (atom ∈ old) × IsAtomOf N nulls r atom
      last r (here q) e = absurd (true≢false (sym o ∙ (ap (λ (x : At). is_out out x.table x.place) q ∙ e)))
      last r (there m) e = elim m [ ]

  pub row_added : (fit : PartsFit N.symbols N.tables) (new : List PatternAtom) (atom : PatternAtom) → IsRowIn N (get_or rows i d)
      → is_out out (get_or rows i d).table (get_or rows i d).place ≡ false → IsAtomOf N nulls (get_or rows i d) atom
      → new ≡ old ++ atom ∷ [] → AreSoFar N nulls out (take (i + 1) rows) new
  row_added fit new atom row o is e = rw e (record {
    atoms = record {
      only = λ b m. elim (from_append old m) [
        | inl l ↦ let w = a.atoms.only b l in (w.0, kept_row w.0 w.1, w.2, w.3)
        | inr l ↦ last_atom b l
      ];
      all = λ r m q. elim (from_append (take i rows) (rw split at m)) [
        | inl l ↦ let w = a.atoms.all r l q in (w.0, in_left (atom ∷ []) w.1, w.2)
        | inr l ↦ last_row r l
      ];
    };
    fit = λ b m. elim (from_append old m) [ inl l ↦ a.fit b l | inr l ↦ last_fit b l ];
  })
    where
      last_atom : (b : PatternAtom) → b ∈ (atom ∷ [])
          → (at : At) × (at ∈ take (i + 1) rows) × IsAtomOf N nulls at b × (is_out out at.table at.place ≡ false)
      last_atom b (here q) = (get_or rows i d, rw split (in_right (take i rows) (here refl)), rw (← q) is, o)
      last_atom b (there m) = elim m [ ]

      last_row : (r : At) → r ∈ (get_or rows i d ∷ []) → (b : PatternAtom) × (b ∈ (old ++ atom ∷ [])) × IsAtomOf N nulls r b
      last_row r (here q) = (atom, in_right old (here refl), rw (← q) is)
      last_row r (there m) = elim m [ ]

      last_fit : (b : PatternAtom) → b ∈ (atom ∷ []) → FitsAtom N.tables (length nulls) b
      last_fit b (here q) = rw (← q) (atom_fits N fit nulls (get_or rows i d) atom is row)
      last_fit b (there m) = elim m [ ]

pub atoms_all : (N : NumberedInstance) (nulls : List ℕ) (out : List (List Bool)) (rows : List At) (i : ℕ) (atoms : List PatternAtom) → length rows ≤ i
    → AreSoFar N nulls out (take i rows) atoms → AreSoFar N nulls out rows atoms
atoms_all N nulls out rows i atoms h a = subst (λ (rs : List At). AreSoFar N nulls out rs atoms) (take_all i rows h) a
