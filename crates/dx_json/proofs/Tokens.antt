-- Values, token by token.
use Rattle.std.proofs.Common.{◌≡◌, ℕ, List, [], ◌∷◌, ◌++◌, append_assoc, sym, ap, ◌∙◌}
use Rattle.json.specs.Token.{Token}
use Rattle.json.specs.Token.{key}
use Rattle.json.specs.Print.{print}
use Rattle.json.specs.Tree.{items_tokens, json_tokens, members_tokens}
use Rattle.json.specs.Written.{Written}
use Rattle.serde_json.specs.Data.{Data, object, Items, Members}
use Rattle.serde_json.specs.Written.{compact_text, items_outline, members_outline, outline}
use Rattle.serde_json.proofs.Texts.{print-outline}
use Rattle.dx_model.specs.declared.values.Value.{Value}
use Rattle.dx_json.specs.declared.orders.Source.{Source}
use Rattle.dx_json.specs.Nesting.{objects}
use Rattle.dx_json.specs.Orders.{Slots, members_with_values}
use Rattle.dx_json.specs.Wrote.{WroteValue}

-- the items of an array that are still to be written, and its end
abbrev pub item_tokens : Items → List Token
item_tokens ds = items_tokens (items_outline ds)

-- the members of an object that are still to be written, and its end
abbrev pub member_tokens : Members → List Token
member_tokens ms = members_tokens (members_outline ms)

-- what is written, and what is still to be written, are these tokens after what there was
abbrev pub IsOnTheWay : Written → Written → List Token → List Token → Type 0
IsOnTheWay old now left all = (now.before ≡ old.before) × (now.tokens ++ left ≡ old.tokens ++ all)

-- the bracket is written
pub begun : (old now : Written) (t : Token) (left : List Token) → now.before ≡ old.before → now.tokens ≡ old.tokens ++ t ∷ [] → IsOnTheWay old now left (t ∷ left)
begun old now t left b e = (b, ap (λ ts. ts ++ left) e ∙ append_assoc old.tokens (t ∷ []) left)

-- one item more is written
pub item_written : (old was now : Written) (object_at : List Value → Members) (left rest : List (List Value)) (row : List Value) (all : List Token) (ms : Members) → left ≡ row ∷ rest → ms ≡ object_at row
    → IsOnTheWay old was (item_tokens (objects object_at left)) all → WroteValue was now (object ms) → IsOnTheWay old now (item_tokens (objects object_at rest)) all
item_written old was now object_at left rest row all ms next is way wrote =
    let this = json_tokens (outline (object ms)) in
    let more = item_tokens (objects object_at rest) in
    let same : this ++ more ≡ item_tokens (objects object_at left) = ap (λ os. json_tokens (outline (object os)) ++ more) is ∙ ap (λ rows. item_tokens (objects object_at rows)) (sym next) in
    (wrote.0 ∙ way.0, ap (λ ts. ts ++ more) wrote.1 ∙ append_assoc was.tokens this more ∙ ap (λ ts. was.tokens ++ ts) same ∙ way.1)

-- one member more is written, after its name
pub member_written : (old was named now : Written) (value : Source → Data) (left rest : Slots) (name : List ℕ) (s : Source) (all : List Token) → left ≡ (name, s) ∷ rest
    → IsOnTheWay old was (member_tokens (members_with_values value left)) all → named.before ≡ was.before → named.tokens ≡ was.tokens ++ key name ∷ [] → WroteValue named now (value s) → IsOnTheWay old now (member_tokens (members_with_values value rest)) all
member_written old was named now value left rest name s all next way b k wrote =
    let this = json_tokens (outline (value s)) in
    let more = member_tokens (members_with_values value rest) in
    let same : key name ∷ (this ++ more) ≡ member_tokens (members_with_values value left) = ap (λ xs. member_tokens (members_with_values value xs)) (sym next) in (
      wrote.0 ∙ b ∙ way.0,
      ap (λ ts. ts ++ more) wrote.1 ∙ append_assoc named.tokens this more ∙ ap (λ ts. ts ++ (this ++ more)) k ∙ append_assoc was.tokens (key name ∷ []) (this ++ more) ∙ ap (λ ts. was.tokens ++ ts) same ∙ way.1,
    )

-- the end is written
pub ended : (old was now : Written) (left all : List Token) (t : Token) → left ≡ t ∷ [] → IsOnTheWay old was left all → now.before ≡ was.before → now.tokens ≡ was.tokens ++ t ∷ [] → (now.before ≡ old.before) × (now.tokens ≡ old.tokens ++ all)
ended old was now left all t last way b e = (b ∙ way.0, e ∙ ap (λ ts. was.tokens ++ ts) (sym last) ∙ way.1)

-- the bytes of a value that was written at the beginning, and a line feed
pub value_text : (old now : Written) (d : Data) (bytes text : List ℕ) → old.before ≡ [] → old.tokens ≡ [] → WroteValue old now d → bytes ≡ now.before ++ print now.tokens → text ≡ bytes ++ 10 ∷ [] → text ≡ compact_text d ++ 10 ∷ []
value_text old now d bytes text b t wrote is more =
    let front : now.before ≡ [] = wrote.0 ∙ b in
    let written : now.tokens ≡ json_tokens (outline d) = wrote.1 ∙ ap (λ ts. ts ++ json_tokens (outline d)) t in
    let all : bytes ≡ compact_text d = is ∙ ap (λ xs. xs ++ print now.tokens) front ∙ ap print written ∙ print-outline d in
    more ∙ ap (λ xs. xs ++ 10 ∷ []) all
