use Rattle.std.proofs.Common.{◌≡◌, ℕ, [], ◌∷◌, refl, sym, ap, ◌∙◌, subst, Option, Some, arith}
use Rattle.std.specs.List.{All}
use Rattle.std.specs.Prelude.{IsSome}
use Rattle.std.proofs.lemmas.List.Elements.{All-nil, All-cons}
use Rattle.pl_term.specs.Tree.{Chars, Tree, atom, comp, var, more, none}
use Rattle.atom_words.specs.Seats.{seen}
use Rattle.term_store.specs.Heap.{atom_name}
use Rattle.term_store.specs.NumberedNames.{neck, names_of}
use Rattle.atom_api.specs.Names.{Names}
use Rattle.atom_table.specs.Naming.{names}
use Rattle.world_api.proofs.NamedTerms.{neck_held}
use Rattle.counted_terms.proofs.Holding.{with_here}
use Rattle.hub_tests.proofs.store_named.Goals as goal

pub from_nodes-requires : goal.from_nodes-requires
from_nodes-requires g c = let a : ℕ = c.slot-slot.result in (comp (atom_name a) (atom (atom_name a)) (more (var 0) none), refl)

some_is : (o : Option Chars) (t : Chars) → o ≡ Some t → IsSome o
some_is o t e = subst (λ (x : Option Chars). IsSome x) (sym e) refl

pub store_from-requires-clause-held : goal.store_from-requires-clause-held
store_from-requires-clause-held g c = let a : ℕ = c.slot-slot.result in let t = c.args.name.now in let w = c.intern.new.self in let m : Names = names (seen w.seat) in let P : ℕ → Type 0 = (λ k. IsSome (m k)) in
    let here : m a ≡ Some t = ap m c.slot-slot.ensures ∙ (ap (λ (n : Names). n c.in-Is.a) c.in-Is.ensures.answer.now ∙ with_here (names (seen c.args.atoms.now.seat)) c.in-Is.a t c.in-Is.a refl) in
    let all : All P (neck ∷ a ∷ a ∷ []) = All-cons P neck (a ∷ a ∷ []) (some_is (m neck) _ (neck_held m w.lawful.stand)) (All-cons P a (a ∷ []) (some_is (m a) t here) (All-cons P a [] (some_is (m a) t here) (All-nil P))) in
    subst (λ (u : Tree). All P (names_of u)) (sym (c.in_ok-counted.ensures ∙ c.in_ok-term.ensures)) all

pub store_from-requires-clause-room : goal.store_from-requires-clause-room
store_from-requires-clause-room g c = λ k. let none = c.requires.none k in omega arith
