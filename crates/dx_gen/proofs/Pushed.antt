-- Texts that are pushed one after the other.
use Rattle.std.proofs.Common.{◌≡◌, ℕ, List, ◌++◌, append_assoc, ap, ◌∙◌}

-- one text more in front of those that are pushed after it
pub front : (x y z a b : List ℕ) → y ≡ x ++ a → z ≡ y ++ b → z ≡ x ++ (a ++ b)
front x y z a b p q = q ∙ ap (λ t. t ++ b) p ∙ append_assoc x a b
