use Rattle.std.proofs.Common.{length, refl}
use Rattle.dx_joins.specs.Shown.{texts_of}
use Rattle.dx_tgd.proofs.Ascending.{number_there}
use Rattle.dx_eval.proofs.Partners.{alone_other, literal_holds, literal_stands}
use Rattle.dx_eval.proofs.keeping.is_met_alone.Goals as goal

pub bounds-row-own : goal.bounds-row-own
bounds-row-own c = literal_stands (length c.args.row.now) c.requires.stands.0 _ _ c.args.test.now c.in-Literal.is c.requires.stands.1

pub stands_for-requires : goal.stands_for-requires
stands_for-requires c =
    let d = literal_stands (length c.args.row.now) c.requires.stands.0 _ _ c.args.test.now c.in-Literal.is c.requires.stands.1 in
    number_there c.args.symbols.now c.args.row.now _ c.requires.texts d

pub returns-in-Literal : goal.returns-in-Literal
returns-in-Literal c =
    let d = literal_stands (length c.args.row.now) c.requires.stands.0 c.in-Literal.own c.in-Literal.text c.args.test.now c.in-Literal.is c.requires.stands.1 in
    literal_holds c.args.symbols.now c.args.row.now c.in-Literal.own c.in-Literal.text c.args.test.now c.stands_for.result c.requires.texts d c.in-Literal.is c.stands_for.ensures

pub returns-in_default : goal.returns-in_default
returns-in_default c = ((λ t. alone_other (texts_of c.args.symbols.now c.args.row.now) c.args.test.now c.in_default.not-Literal), (λ q. refl))
