-- How a clause is added to the database.
use Rattle.std.specs.Prelude.{ℕ}
use Rattle.pl_model.specs.History.{Clause, Kind, Proc, add_first, add_last, assert, consult}
use Rattle.pl_model.specs.Database.{Database, with_first, with_last}
use Rattle.pl_model.specs.Requests.{Request, assert_first, assert_last, consult_clause}
use Rattle.pl_model.specs.declared.shows.Origin.{Origin}
use Rattle.pl_model.specs.declared.shows.Origin.TheVariants.{Consult, Assert}
use Rattle.hub_database.specs.declared.storing.Adding.{Adding}
use Rattle.hub_database.specs.declared.storing.Adding.TheVariants.{Text, First, Last}

abbrev pub adding_request : Adding → Clause → Request
adding_request Text c = consult_clause c
adding_request First c = assert_first c
adding_request Last c = assert_last c

abbrev pub origin_by : Adding → Origin
origin_by Text = Consult
origin_by First = Assert
origin_by Last = Assert

-- the update of the history
abbrev pub adding_kind : Adding → Proc → Clause → Kind
adding_kind Text p c = add_last p c consult
adding_kind First p c = add_first p c assert
adding_kind Last p c = add_last p c assert

-- what it makes of the database
abbrev pub with_adding : Adding → ℕ → Proc → Clause → Database Clause → Database Clause
with_adding Text k p c d = with_last k p c consult d
with_adding First k p c d = with_first k p c assert d
with_adding Last k p c d = with_last k p c assert d
