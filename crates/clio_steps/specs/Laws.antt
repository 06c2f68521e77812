-- What holds of the steps that commands share.
use Rattle.std.specs.Prelude.{◌≡◌, ◌⊎◌, ◌≤◌, ℕ, List}
use Rattle.dx_model.specs.Rules.{AreRows}
use Rattle.dx_model.specs.Values.{Rows}
use Rattle.dx_instance.specs.Stored.{TableRows, facts}
use Rattle.dx_tgd.specs.Counting.{canonical_cells}
use Rattle.dx_stages.specs.Laws.{IsDecided}
use Rattle.dx_stages.specs.Worlds.{World}
use Rattle.dx_exchange.specs.declared.mode.Mode.{Mode}
use Rattle.dx_exchange.specs.declared.result.Exchange.{Exchange}
use Rattle.clio_accept.specs.declared.mapping.Mapping.{Mapping}
use Rattle.clio_ending.specs.Ending.{AreAlike}
use Rattle.clio_steps.specs.declared.texts.Side.{Side}
use Rattle.clio_steps.specs.declared.texts.Side.TheVariants.{First}
use Rattle.clio_steps.specs.Steps.{Program, exchanges, mapping_stages, rows_stages, target_cells}
use Rattle.clio_steps.specs.Outcomes.{AcceptedIn, ExchangedIn, HasNoSolutionIn}
use Rattle.clio_steps.specs.Outcomes.{HasSolutionIn, HeldIn, MatchedIn, ReadIn}

-- there is an exchange, or one reason to refuse it, up to which clash is reported, and never both
abbrev pub ExchangeOrRefusal : Type 0
ExchangeOrRefusal = (P : Program) (mode : Mode) → IsDecided AreAlike (λ u. Unit {0}) (exchanges P mode)

-- an exchange that is passed on is that of an accepted mapping text and of the source in the world
abbrev pub ExchangesAreInWorlds : Type 0
ExchangesAreInWorlds =
    (P : Program) (mode : Mode) (c : World) (M : Mapping) (e : Exchange) → (exchanges P mode).passes c (tt {0}) (M, e)
    → (rows : List TableRows) × ExchangedIn P mode c M rows e

-- what has a solution has an exchange
abbrev pub SolutionsHaveExchanges : Type 0
SolutionsHaveExchanges =
    (P : Program) (mode : Mode) (c : World) (h : HasSolutionIn P c)
    → (e : Exchange) × (exchanges P mode).passes c (tt {0}) (h.mapping, e)

-- In a world there is at most one text, one mapping and, under that, one list of rows; and exactly one list of matches.
pub record IsOnceIn (P : Program) (c : World) : Type 0 where
  pub text : (side : Side) (one other : List ℕ) → HeldIn side c one → HeldIn side c other → one ≡ other
  pub mapping : (side : Side) (M N : Mapping) → AcceptedIn P side c M → AcceptedIn P side c N → M ≡ N
  pub rows : (M : Mapping) (I J : List TableRows) → ReadIn P c M I → ReadIn P c M J → I ≡ J
  pub matches : (M : Mapping) (I : List TableRows) (one other : Rows) → MatchedIn P c M I one
      → AreRows P.apply M.rules (facts I) other → one ≡ other
  pub some : (M : Mapping) (I : List TableRows) → ReadIn P c M I
      → (matches : Rows) × AreRows P.apply M.rules (facts I) matches

abbrev pub OnceInWorlds : Type 0
OnceInWorlds = (P : Program) (c : World) → IsOnceIn P c

-- What passes the stages of the mapping is an accepted mapping; what passes those of the rows too, within the limit on
-- canonical cells, has a solution or none, and never both.
pub record IsSolvedOrNot (P : Program) (c : World) : Type 0 where
  pub mapped : (M : Mapping) → (mapping_stages P).passes c (tt {0}) M → AcceptedIn P First c M
  pub either : (M : Mapping) (I : List TableRows) → (mapping_stages P).passes c (tt {0}) M
      → (rows_stages P).passes c M (M, I)
      → ((matches : Rows) → AreRows P.apply M.rules (facts I) matches → canonical_cells M.rules matches ≤ target_cells)
      → HasSolutionIn P c ⊎ HasNoSolutionIn P c
  pub never_both : HasSolutionIn P c → ¬ (HasNoSolutionIn P c)

abbrev pub SolvedOrNot : Type 0
SolvedOrNot = (P : Program) (c : World) → IsSolvedOrNot P c
