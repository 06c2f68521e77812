use Rattle.dx_instance.proofs.numbers.Numbers.first_null.Goals as goal

pub returns-clause-constants : goal.returns-clause-constants
returns-clause-constants c = rw (← c.self.view_is) c.first_null.ensures.constants

pub returns-clause-nulls : goal.returns-clause-nulls
returns-clause-nulls c = rw (← c.self.view_is) c.first_null.ensures.nulls
