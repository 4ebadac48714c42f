-- The three ways in which a clause is added.
use Rattle.std.proofs.Common.{◌≡◌, ℕ, false, refl}
use Rattle.std.specs.Prelude.{IsSome}
use Rattle.std.specs.List.{All}
use Rattle.pl_term.specs.Tree.{Chars, Tree}
use Rattle.pl_model.specs.History.{Clause, Proc, is_end}
use Rattle.pl_model.specs.Requests.{Request}
use Rattle.atom_api.specs.Names.{Names}
use Rattle.term_store.specs.ArgumentKeys.{clause_key, key_atoms}
use Rattle.term_store.specs.NumberedNames.{names_of, term_by}
use Rattle.world_api.specs.Texts.{text_of}
use Rattle.world_api.specs.Visits.{Asks, clause_in, visit_names}
use Rattle.counted_terms.specs.CountedTerms.{said}
use Rattle.hub_database.specs.Adding.{adding_kind, adding_request}
use Rattle.hub_database.specs.declared.storing.Adding.{Adding}
use Rattle.hub_database.specs.declared.storing.Adding.TheVariants.{Text, First, Last}
use Rattle.pl_hub.specs.Adding.{adding_visit}
use Rattle.pl_hub.proofs.States.{IsOfClauses}
use Rattle.pl_hub.proofs.Visiting.{IsPlainVisit}

pub adding_plain : (by : Adding) (p : Proc) (c : Clause) → is_end (adding_kind by p c) ≡ false
adding_plain Text p c = refl
adding_plain First p c = refl
adding_plain Last p c = refl

pub adding_clauses : (by : Adding) (p : Proc) (c : Clause) → IsOfClauses (adding_kind by p c)
adding_clauses Text p c = tt
adding_clauses First p c = tt
adding_clauses Last p c = tt

pub adding_serves : (by : Adding) (t : Tree) (old_text new_text : ℕ → Chars) → IsPlainVisit old_text new_text (adding_visit by t)
adding_serves Text t old_text new_text = (λ r n old before new x. x, λ r. tt)
adding_serves First t old_text new_text = (λ r n old before new x. x, λ r. tt)
adding_serves Last t old_text new_text = (λ r n old before new x. x, λ r. tt)

pub adding_asks : (by : Adding) (t : Tree) (m : Names) → Asks term_by clause_key (text_of m) (adding_visit by t) (adding_request by (clause_in (said m t)))
adding_asks Text t m = refl
adding_asks First t m = refl
adding_asks Last t m = refl

pub adding_only : (by : Adding) (t : Tree) (m : Names) (q : Request) → Asks term_by clause_key (text_of m) (adding_visit by t) q → q ≡ adding_request by (clause_in (said m t))
adding_only Text t m q e = e
adding_only First t m q e = e
adding_only Last t m q e = e

pub held_by : (by : Adding) (t : Tree) (m : Names) → All (λ a. IsSome (m a)) (visit_names names_of key_atoms (adding_visit by t)) → All (λ a. IsSome (m a)) (names_of t)
held_by Text t m held = held
held_by First t m held = held
held_by Last t m held = held
