-- What stored clauses say by the texts that the keeper of their atoms keeps.
use Rattle.pl_term.specs.Tree.{Tree}
use Rattle.pl_model.specs.History.{Clause}
use Rattle.atom_words.specs.declared.view.View.{View}
use Rattle.clause_db.specs.Parts.{Held}
use Rattle.clause_db.specs.Reading.{EachHeld}
use Rattle.world_api.specs.Visits.{clause_in}
use Rattle.counted_terms.specs.CountedTerms.{IsCounted, said}
use Rattle.counted_terms.specs.Keeping.{kept}

-- WHAT A STORED CLAUSE SAYS
abbrev pub clause_by : View → Tree → Clause
clause_by k t = clause_in (said (kept k) t)

-- the keeper counts the atoms of each clause that is held
abbrev pub AllCounted : View → Held Tree → Type 0
AllCounted k h = EachHeld (λ t. IsCounted t k) h
