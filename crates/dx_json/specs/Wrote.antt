-- What a writer has written.
use Rattle.std.specs.Prelude.{◌≡◌, List, ◌++◌}
use Rattle.json.specs.Token.{Token}
use Rattle.json.specs.Tree.{json_tokens}
use Rattle.json.specs.Written.{Written}
use Rattle.serde_json.specs.Data.{Data}
use Rattle.serde_json.specs.Written.{outline}

-- these tokens, after what it had
abbrev pub Wrote : Written → Written → List Token → Type 0
Wrote old new tokens = (new.before ≡ old.before) × (new.tokens ≡ old.tokens ++ tokens)

-- this value
abbrev pub WroteValue : Written → Written → Data → Type 0
WroteValue old new d = Wrote old new (json_tokens (outline d))
