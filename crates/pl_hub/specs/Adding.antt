-- The visit that adds a clause.
use Rattle.pl_term.specs.Tree.{Tree}
use Rattle.term_store.specs.declared.argument_key.ArgumentKey.{ArgumentKey}
use Rattle.world_api.specs.declared.visit.Visit.{Visit}
use Rattle.world_api.specs.declared.visit.Visit.TheVariants.{AssertFirst, AssertLast, Consult}
use Rattle.hub_database.specs.declared.storing.Adding.{Adding}
use Rattle.hub_database.specs.declared.storing.Adding.TheVariants.{Text, First, Last}

abbrev pub adding_visit : Adding → Tree → Visit Tree ArgumentKey
adding_visit Text c = Consult c
adding_visit First c = AssertFirst c
adding_visit Last c = AssertLast c
