use Rattle.std.proofs.Common.{length}
use Rattle.dx_joins.specs.Shown.{texts_of}
use Rattle.dx_script.specs.Meaning.{inserted}
use Rattle.dx_model.specs.declared.values.Value.TheVariants.{Const, Null}
use Rattle.dx_instance.proofs.NumberFacts.{stays}
use Rattle.dx_eval.proofs.Inserts.{column_in, column_number_stands, literal_in, null_in, stands_is}
use Rattle.dx_eval.proofs.inserting.number_of.Goals as goal

pub bounds-at-column : goal.bounds-at-column
bounds-at-column c = (column_in (length c.args.at.now.row.now) c.args.at.now.rule c.args.at.now.place _ (texts_of c.args.target.now.symbols c.args.at.now.row.now) c.args.out.now c.in-Column.is c.requires.stands).0

pub returns-in-Column-clause-number : goal.returns-in-Column-clause-number
returns-in-Column-clause-number c = column_number_stands c.args.target.now.symbols c.args.at.now.row.now c.args.at.now.rule c.args.at.now.place _ c.args.out.now c.in-Column.is c.requires.stands c.requires.texts

pub returns-in-Column-clause-grows : goal.returns-in-Column-clause-grows
returns-in-Column-clause-grows c = stays c.args.target.now.symbols

pub returns-in_ok-copy-in-Literal-clause-number : goal.returns-in_ok-copy-in-Literal-clause-number
returns-in_ok-copy-in-Literal-clause-number c =
    let T = texts_of c.args.target.now.symbols c.args.at.now.row.now in
    let t = c.in_ok-copy-in-Literal.field-0 in
    stands_is c.number.result c.number.new.self.symbols (Const t) (inserted c.args.at.now.rule c.args.at.now.place T c.args.out.now)
    (literal_in c.args.at.now.rule c.args.at.now.place T c.args.out.now c.in-Literal.text t c.in-Literal.is c.in_ok-copy-in-Literal.ensures) c.number.ensures.within c.number.ensures.number

pub returns-in-Skolem-clause-number : goal.returns-in-Skolem-clause-number
returns-in-Skolem-clause-number c =
    let T = texts_of c.args.target.now.symbols c.args.at.now.row.now in
    stands_is c.number-in-Skolem.result c.number-in-Skolem.new.self.symbols (Null (record { rule = c.args.at.now.rule; var = c.in-Skolem.variable; row = c.args.at.now.place })) (inserted c.args.at.now.rule c.args.at.now.place T c.args.out.now)
    (null_in c.args.at.now.rule c.args.at.now.place c.in-Skolem.variable T c.args.out.now c.in-Skolem.is) c.number-in-Skolem.ensures.within c.number-in-Skolem.ensures.number
