-- The next of the clauses that retractall/1 looks at, as it was found.
use Rattle.std.proofs.Common.{◌≡◌, ◌≤◌, ℕ, length, Option, sym, ap, subst, arith}
use Rattle.std.specs.Prelude.{IsSome}
use Rattle.std.specs.List.{All, Contains}
use Rattle.std.proofs.lemmas.List.{length-append}
use Rattle.pl_term.specs.Tree.{Tree}
use Rattle.pl_model.specs.History.{Entry, History}
use Rattle.atom_api.specs.Names.{FixedStand, Names}
use Rattle.term_store.specs.declared.words.Place.{Place}
use Rattle.term_store.specs.Contents.{term_at}
use Rattle.term_store.specs.NumberedNames.{atoms_in, names_of, term_by}
use Rattle.world_api.specs.Answers.{seen_as}
use Rattle.world_api.specs.Replies.{IsFront, found_names}
use Rattle.world_api.specs.Texts.{Holds, text_of}
use Rattle.world_api.specs.Told.{Told, Follows, behind, clause_list}
use Rattle.world_api.specs.declared.reply.Found.{Found}
use Rattle.iso_search.specs.declared.search.Search.{Search}
use Rattle.iso_engine.specs.Clearing.{IsNextFound}
use Rattle.iso_engine.specs.Lists.{IsListed, IsOpenBehind}
use Rattle.iso_engine.specs.Parts.{IsOverAtoms}
use Rattle.iso_engine.proofs.LaterLists.{goal_read, next_listed, next_open}

-- The head of the search `e` at a place, whose atoms are held.
module _ (m n : Names) (t u : Told) (before : History) (e : Search) (head : Place)
    (fixed_m : FixedStand m) (fixed_n : FixedStand n) (grown : Holds m n) (over : IsOverAtoms (term_at e.store head))
    (held : All (λ a. IsSome (m a)) (atoms_in (term_at e.store head))) where
  abbrev head_then : Tree
  head_then = term_by (text_of m) (term_at e.store head)

  pub next_is : (g place : ℕ) (f : Option (Found Tree)) → Follows t.engine t.history before → u ≡ seen_as t before t.gens → Contains t.gens g → g ≤ length t.history
      → IsFront term_by (text_of n) f (behind place (clause_list t.goals before g head_then))
      → All (λ a. IsSome (n a)) (found_names names_of f)
      → IsNextFound t e head g place n u f
  next_is g place f follows told own within front named =
      let at : u.history ≡ before = ap (λ (w : Told). w.history) told in
      let far : g ≤ length before = omega (arith, within, ap (length {A = Entry}) follows.grown, length-append t.history follows.later) in
      let there : IsFront term_by (text_of n) f (behind place (clause_list u.goals before g head_then)) =
      subst (λ k. IsFront term_by (text_of n) f (behind place (clause_list k before g head_then))) (sym (ap (λ (w : Told). w.goals) told)) front in
      record {
        before = before;
        follows = follows;
        told = told;
        named = named;
        answered = λ v from. (
          subst (λ y. IsListed v y g f (v.left y g place)) (sym (goal_read m n u fixed_m grown e.store head over held v from))
              (next_listed n u before g place head_then f fixed_n at far there named v from),
          subst (λ y. IsOpenBehind u y g f) (sym (goal_read m n u fixed_m grown e.store head over held v from))
              (next_open u before g place head_then (text_of n) f at far (subst (λ gs. Contains gs g) (sym (ap (λ (w : Told). w.gens) told)) own) there),
        );
      }
