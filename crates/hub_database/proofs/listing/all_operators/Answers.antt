use Rattle.std.proofs.Common.{List, ap, subst, ◌∙◌}
use Rattle.pl_model.specs.OperatorTable.{Entry, Key, OperatorTable, operators}
use Rattle.op_table.specs.Entries.{entries_of}
use Rattle.atom_words.specs.Seats.{seen}
use Rattle.atom_table.specs.Naming.{names, requests}
use Rattle.world_api.specs.Texts.{text_of}
use Rattle.hub_database.specs.Listing.{AsksAmong, operator_names}
use Rattle.hub_database.proofs.ListedOperators.{operators_tell}
use Rattle.hub_database.proofs.listing.all_operators.Goals as goal

pub returns-clause-asked : goal.returns-clause-asked
returns-clause-asked g c =
    subst (λ (os : List (Key × Entry)). AsksAmong (operator_names os) (requests (seen c.args.atoms.now.seat)) (requests (seen c.name_operators.new.atoms.seat)))
    (c.operators-2.ensures.entries ∙ ap (λ (t : OperatorTable). operators t) c.operators.ensures) c.name_operators.ensures.asked

pub returns-clause-says : goal.returns-clause-says
returns-clause-says g c = λ k goals e h is.
    operators_tell goals e h (text_of (names (seen c.name_operators.new.atoms.seat))) (entries_of c.operators-2.result.now)
    (c.operators-2.ensures.entries ∙ ap (λ (t : OperatorTable). operators t) (c.operators.ensures ∙ is.operators)) c.name_operators.result c.name_operators.ensures.lists
