use Rattle.std.proofs.Common.{◌≡◌, ◌∷◌, arith, ap, ◌∙◌}
use Rattle.json.specs.Json.{value}
use Rattle.json.specs.Reads.{token_of}
use Rattle.serde_json.specs.Read.{converted, of_json}
use Rattle.dx_json.specs.View.{view}
use Rattle.dx_json.proofs.Streams.{array_refused, array_told, nothing_read, shape_told}
use Rattle.dx_json.proofs.shredding.push_document.Goals as goal

pub returns-in_err-token-clause-refused : goal.returns-in_err-token-clause-refused
returns-in_err-token-clause-refused c refused = nothing_read c.args.reader.now (grind arith)

pub returns-in-BeginArray-clause-ok : goal.returns-in-BeginArray-clause-ok
returns-in-BeginArray-clause-ok c =
    let first : c.args.reader.now ≡ token_of c.in_ok-token.token ∷ c.next.new.self = grind arith in
    array_told c.push_array.result c.args.reader.now c.next.new.self c.push_array.new.reader c.args.tree.now c.args.table c.in_ok-from_str.field-0 c.args.out.now c.push_array.new.out
    (first ∙ ap (λ k. token_of k ∷ c.next.new.self) c.in-BeginArray.is) c.in_ok-from_str.ensures c.push_array.ensures.ok

pub returns-in-BeginArray-clause-refused : goal.returns-in-BeginArray-clause-refused
returns-in-BeginArray-clause-refused c refused =
    let first : c.args.reader.now ≡ token_of c.in_ok-token.token ∷ c.next.new.self = grind arith in
    array_refused c.args.reader.now c.next.new.self (first ∙ ap (λ k. token_of k ∷ c.next.new.self) c.in-BeginArray.is) (c.push_array.ensures.refused refused)

pub returns : goal.returns
returns c =
    let first : c.args.reader.now ≡ token_of c.in_ok-token.token ∷ c.next.new.self = grind arith in
    record {
      ok = (
        view c.in_ok-read_from.field-0,
        ap (λ ts. converted of_json (value 127 ts)) first ∙ c.in_ok-read_from.ensures.ok,
        shape_told c.args.tree.now c.args.table c.in_ok-token.token c.next.new.self c.read_from.new.reader (view c.in_ok-read_from.field-0) c.in_ok-from_str.field-0 c.in_default.not-BeginArray c.in_ok-read_from.ensures.ok c.in_ok-from_str.ensures,
      );
      refused = λ e. absurd (cc e);
    }
