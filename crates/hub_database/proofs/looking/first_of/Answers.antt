use Rattle.std.proofs.Common.{List, None, sym, subst}
use Rattle.pl_term.specs.Tree.{Tree}
use Rattle.pl_model.specs.laws.Shown.{proc_of}
use Rattle.atom_words.specs.Seats.{seen}
use Rattle.atom_table.specs.Naming.{names}
use Rattle.world_api.specs.Texts.{text_of}
use Rattle.counted_terms.specs.CountedTerms.{said}
use Rattle.counted_terms.specs.Keeping.{keeper_view}
use Rattle.hub_database.specs.Clauses.{clause_by}
use Rattle.std.specs.List.{slice_get}
use Rattle.pl_model.specs.History as entries
use Rattle.pl_model.specs.Database as model
use Rattle.pl_model.specs.Database.{choices}
use Rattle.pl_model.specs.FirstArguments.{head_of}
use Rattle.pl_model.specs.Predicates.{is_excluded}
use Rattle.clause_db.specs.Parts.{Piece}
use Rattle.term_store.specs.NumberedNames.{term_by}
use Rattle.world_api.specs.Replies.{IsFront}
use Rattle.hub_database.proofs.Fronts.{got_within, some_at}
use Rattle.hub_database.proofs.Readings.{all_counted}
use Rattle.hub_database.proofs.looking.first_of.Goals as goal

pub first_clause-requires-clause-counted : goal.first_clause-requires-clause-counted
first_clause-requires-clause-counted g c = all_counted (keeper_view c.args.keeper.now) c.args.db.now c.args.generation c.requires.counts

pub first_clause-requires-clause-there : goal.first_clause-requires-clause-there
first_clause-requires-clause-there g c = got_within c.args.db.now.parts c.in-Some.i (λ (x : Piece Tree). proc_of x.name) (proc_of c.args.p.now) c.in-Some.ensures.there

pub returns-in-Ok-clause-says : goal.returns-in-Ok-clause-says
returns-in-Ok-clause-says g c = λ d t s key.
    some_at (slice_get c.args.db.now.parts c.in-Some.i) (λ (x : Piece Tree). proc_of x.name) (proc_of c.args.p.now) c.in-Some.ensures.there
    (λ (p : entries.Proc). IsFront term_by (text_of (names (seen c.first_clause.new.atoms.seat))) c.in-Ok.found (choices (λ (x : entries.Clause). is_excluded (head_of (said (names (seen c.args.atoms.now.seat)) t)) x.head) c.args.generation p (d c.args.generation)))
    (c.in-Ok.ensures.says d t s key)

pub returns-in-None-clause-says : goal.returns-in-None-clause-says
returns-in-None-clause-says g c = λ d t s key.
    subst (λ (cs : List (model.Stored entries.Clause)). IsFront term_by (text_of (names (seen c.args.atoms.now.seat))) None cs)
    (sym ((c.in-None.ensures.none (clause_by (keeper_view c.args.keeper.now)) d c.args.generation s c.requires.floor).1 (λ (x : entries.Clause). is_excluded (head_of (said (names (seen c.args.atoms.now.seat)) t)) x.head))) tt
