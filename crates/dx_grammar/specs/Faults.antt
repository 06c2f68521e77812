-- The first fault of a text whose tokens have places in it. Its tokens go up to its end, or stop before it at a fault
-- of some kind, which has a place too.
use Rattle.std.specs.Prelude.{◌≡◌, ◌⊎◌, ℕ, List, Option, Some, None, slice_index_or}
use Rattle.dx_grammar.specs.Forms.{Form, Derives, Starts, IsFirstUnexpected}

-- The token that stands at this place is the first that can't stand.
pub record IsUnexpectedAt {X : Type 0} (f : Form X) (place_of : X → ℕ) (xs : List X) (place : ℕ) : Type 0 where
  pub number : ℕ
  pub first : IsFirstUnexpected f xs number
  pub token : X
  pub is : token ≡ slice_index_or xs number token
  pub at : place ≡ place_of token

-- All tokens can stand, and they stop at this fault, or the text ends too early.
pub record IsStoppedAt {X K : Type 0} (f : Form X) (xs : List X) (stop : Option (ℕ × K)) (end : ℕ)
    (ended : K) (place : ℕ) (kind : K) : Type 0 where
  pub all_stand : Starts f xs
  pub why : (stop ≡ Some (place, kind)) ⊎ ((stop ≡ None) × (place ≡ end) × (kind ≡ ended) × ¬ (Derives f xs))
